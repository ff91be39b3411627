-- What goes to a peer was given, and what is kept for it; and a text has one bundle.
use Rattle.std.proofs.Common.{◌≡◌, ℕ, true, refl, sym, ◌∙◌, List, arith, subst, [], ◌∷◌, Some, All, ◌++◌, Option, None}
use Rattle.std.proofs.lemmas.{List.Elements.{All-nil, All-cons, All-head, All-tail, All-append}, Option.{same_Some, none-some}, Grind.flat_map-append}
use Rattle.std.specs.{Prelude.{slice_get, map}, List.flat_map, Option.option_map}
use Rattle.dn_link.specs.Pacing.{is_brief}
use Rattle.std.proofs.Common.{Bool, false}
use Rattle.dn_seal.specs.declared.{opened.Opened.Opened, seal.Seal.Seal}
use Rattle.dn_machine.specs.{Flight.Flight}
use Rattle.dn_lockstep.proofs.OneGame.{GoesBetween}
use Rattle.dn_lockstep.specs.{OneGame.{given_on}}
use Rattle.dn_open.specs.Sealed.{sealing_of}
use Rattle.dn_link.specs.{Linked.{Linked, PeerState, Gives}, Kept.{going, taken_by}, RemainingLinks.{WasGiven}}
use Rattle.dn_link.specs.{declared.bundle.{Bundle.Bundle, Carried.Carried, Part.Part}, Packets.{packets_in, packets_of}, Reading.IsDatagramOf, Text.{IsBundle, sealed_bytes}, Hearing.carried_of}
use Rattle.dn_link.specs.{Pacing.PaceState, Relays.{flights_of, handed_part}, Packing.ArePacked}
use Rattle.dn_link.proofs.{Relinking.{all_later, AreKept, put_kept, all_stay, found_on, keeps_given, packs_given}}
use Rattle.dn_link.proofs.{Wholes.its_bundle, Handing.all_given}

-- two bundles of one text are one
pub same_bundle : (seal : Seal) (bytes : List ℕ) (one other : Bundle) (player : ℕ)
    → IsDatagramOf (sealing_of seal player) bytes one → IsBundle other → bytes ≡ sealed_bytes seal other
    → other ≡ one
same_bundle seal bytes one other player is fits spelled =
    same_Some other one (sym (its_bundle (sealing_of seal other.to) bytes other (record {
      game = is.game;
      fits = fits;
      short = is.short;
      to = refl;
      is = spelled;
    })) ∙ its_bundle (sealing_of seal player) bytes one is)

-- what was sealed stays so
pub opened_later : (given later : List Flight) → ((which : ℕ) (flight : Flight) → slice_get given which ≡ Some flight
    → slice_get later which ≡ Some flight) → (to : ℕ) (packets : List Opened)
    → All (WasGiven given to) packets → All (WasGiven later to) packets
opened_later given later stay to [] all = All-nil (WasGiven later to)
opened_later given later stay to (packet ∷ packets) all =
    let was = All-head (WasGiven given to) packet packets all in
    All-cons (WasGiven later to) packet packets (was.0, was.1, stay was.0 was.1 was.2, was.3, was.4)
    (opened_later given later stay to packets (All-tail (WasGiven given to) packet packets all))

-- what a peer takes was given
pub taken_given : (left : Option ℕ) (given : Option Carried) (carried : Carried)
    → taken_by left given ≡ Some carried → Some carried ≡ given
taken_given left None carried is = absurd (none-some carried is)
taken_given left (Some packet) carried is = grind (arith, none-some)

module _ (given : List Flight) (flight : Option Flight) (player : ℕ) (old new : Linked)
    (own : old.node.me ≡ player) (seal : Seal) (pace : PaceState) (to : ℕ) (bytes : List ℕ)
    (gives : Gives seal pace to old new bytes) (between : GoesBetween player to flight)
    (answer : gives.given ≡ option_map carried_of flight) (all : AreKept given player old.peers) where
  abbrev taken : Option Carried
  taken = taken_by (old.peers to).left gives.given

  is_given : (carried : Carried) → taken ≡ Some carried → Some carried ≡ option_map carried_of flight
  is_given carried is = taken_given (old.peers to).left gives.given carried is ∙ answer

  own_given : All (WasGiven (given_on given flight) to) (flat_map (packets_of player) gives.own)
  own_given = go (is_brief pace to) refl
    where
      go : (brief : Bool) → is_brief pace to ≡ brief
          → All (WasGiven (given_on given flight) to) (flat_map (packets_of player) gives.own)
      go true brief =
          subst (λ (parts : List Part). All (WasGiven (given_on given flight) to) (flat_map (packets_of player) parts))
          (sym (gives.none brief)) (All-nil (WasGiven (given_on given flight) to))
      go false full = packs_given given flight player to (old.peers to).kept taken between is_given (all to) gives.own
          (subst (λ (k : ℕ). ArePacked k (going (old.peers to).kept taken) gives.own) own (gives.packed full))

  -- what was given before was given with what is handed on
  pub with_handed : (which : ℕ) (one : Flight) → slice_get (given_on given flight) which ≡ Some one
      → slice_get (given_on given flight ++ flights_of to gives.behind.handed) which ≡ Some one
  with_handed which one found = found_on (given_on given flight) (flights_of to gives.behind.handed) which one found

  pub goes_given : All (WasGiven (given_on given flight ++ flights_of to gives.behind.handed) gives.bundle.to)
      (packets_in gives.bundle)
  goes_given =
      let P = WasGiven (given_on given flight ++ flights_of to gives.behind.handed) to in
      let both = All-append P (flat_map (packets_of player) gives.own)
      (flat_map (packets_of player) (map handed_part gives.behind.handed))
      (opened_later (given_on given flight) (given_on given flight ++ flights_of to gives.behind.handed) with_handed to
      (flat_map (packets_of player) gives.own) own_given)
      (all_given new.node (given_on given flight) player to gives.behind.handed gives.behind.on) in
      let whole = subst (All P) (sym (flat_map-append (packets_of player) gives.own (map handed_part gives.behind.handed))) both in
      let spelled = subst (λ (parts : List Part). All P (flat_map (packets_of player) parts)) (sym gives.behind.parts) whole in
      subst (λ (k : ℕ). All (WasGiven (given_on given flight ++ flights_of to gives.behind.handed) k) (packets_in gives.bundle))
      (sym gives.goes)
      (subst (λ (k : ℕ). All P (flat_map (packets_of k) gives.bundle.parts.items)) (sym (gives.from ∙ own)) spelled)

  own_kept : AreKept (given_on given flight) player new.peers
  own_kept = subst (λ (f : ℕ → PeerState). AreKept (given_on given flight) player f) (sym gives.peers)
      (put_kept (given_on given flight) player old.peers to _
      (λ peer. all_stay given flight player peer (old.peers peer).kept.packets (all peer))
      (keeps_given given flight player to (old.peers to).kept taken between is_given (all to)))

  pub stays_kept : AreKept (given_on given flight ++ flights_of to gives.behind.handed) player new.peers
  stays_kept peer = all_later (given_on given flight) (given_on given flight ++ flights_of to gives.behind.handed) with_handed
      player peer (new.peers peer).kept.packets (own_kept peer)
