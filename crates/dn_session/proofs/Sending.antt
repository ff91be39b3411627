-- What a part of a game sends.
use Rattle.std.proofs.Common.{◌≡◌, ◌<◌, ◌⊎◌, ◌∙◌, ℕ, List, [], Option, Some, None, Bool, true, ap, refl, subst, sym, inl, inr, arith}
use Rattle.std.specs.Prelude.{◌&&◌, IfSome, if◌then◌else◌}
use Rattle.dn_setup.specs.Settings.{Settings}
use Rattle.dn_machine.specs.{Flight.Flight, Limits.Limits}
use Rattle.dn_lockstep.specs.Marking.{Marking}
use Rattle.dn_seal.specs.declared.seal.Seal.{Seal}
use Rattle.dn_survivor.specs.OneGame.{Session, with_survivor}
use Rattle.dn_link.specs.{Counting.counts_of, Line.own_echo, Linked.Gives, Linked.Linked, Linked.exclusion, Linked.has_given_up, Linked.is_peer, Linked.probe, Linked.remains, Linked.surviving_of, Linking.linked, Linking.seal_of}
use Rattle.dn_link.specs.{Pacing.pace_of, RemainingLinks.IsLater, RemainingLinks.StayRemaining, RemainingLinks.WasSealedIn, RemainingLinks.after_datagram, Text.IsBundle, Text.sealed_bytes, declared.bundle.Bundle.Bundle}
use Rattle.dn_link.proofs.RemainingCalls.{counted}
use Rattle.dn_session.specs.{Parts.AreParts, Parts.links_of, Playing.Playing, Playing.from_turn, declared.greeting.Address.Address}
use Rattle.dn_session.specs.Sent.{Excludes, IsFairTo, SendsFirst, SendsNext, SendsOn, SendsTo, Probes, ProbesFirst, first_owed, first_owed_exclusion, first_owed_probe, is_owed, is_owed_probe}
use Rattle.dn_session.proofs.{Firsts.first_counted_passes, Going.GoOn, Going.kept, Going.silently, Going.silently_and}

-- a datagram goes to one who remains
pub owed_remains : (part : Playing) (player : ℕ) → is_owed part player ≡ true → remains (linked part.link) player ≡ true
owed_remains part player owed = grind arith

-- and so does a probe
pub probed_remains : (part : Playing) (player : ℕ) → is_owed_probe part player ≡ true
    → remains (linked part.link) player ≡ true
probed_remains part player owed = grind arith

-- what is given under a test is that
pub given_if : {A : Type 0} (test : Bool) (one other : A) → (if test then Some one else None) ≡ Some other
    → other ≡ one
given_if test one other is = grind arith

module _ (marking : Marking) (limits : Limits) (settings : Settings) (seal : Seal) (session : Session)
    (parts : ℕ → Playing) (p : ℕ) (are : AreParts marking limits settings seal session parts) (few : p < limits.players)
    (new : Playing) (sent : Option (Address × List ℕ)) where
  abbrev links : ℕ → Linked
  links = links_of parts

  abbrev own : Seal
  own = seal_of (parts p).link

  abbrev On : Type 0
  On = GoOn marking limits settings seal session parts p new None

  -- what is sent was passed on, or sealed in the game
  abbrev IsOfGame : Session → Type 0
  IsOfGame later = (sent ≡ (parts p).passing) ⊎ IfSome sent (λ (s : Address × List ℕ). WasSealedIn seal later s.1)

  abbrev pub Sends : Type 0
  Sends = (on : On) × IsOfGame on.later

  -- its link is as it was
  same : linked new.link ≡ links p → seal_of new.link ≡ own → On
  same at alike = kept marking limits settings seal session parts p are few new at alike

  -- these bytes were sealed in the game
  was_sealed : (later : Session) (to : Address) (bytes : List ℕ) → sent ≡ Some (to, bytes)
      → WasSealedIn seal later bytes → IsOfGame later
  was_sealed later to bytes is was =
      inr (subst (λ (o : Option (Address × List ℕ)). IfSome o (λ one. WasSealedIn seal later one.1)) (sym is) was)

  -- What is given was sealed in the game, and so was a datagram without packets.
  module _ (gave : (to : ℕ) (bytes : List ℕ) → remains (links p) to ≡ true → IsFairTo to (links p)
      → (gives : Gives own (pace_of (parts p).link) to (links p) (linked new.link) bytes) → (packet : Option Flight)
      × WasSealedIn own (after_datagram session p to packet gives) bytes
      × StayRemaining marking limits settings session links p (linked new.link)
      (after_datagram session p to packet gives))
      (empty : (told : Bundle) (echo : ℕ) → IsBundle told → told.from ≡ (links p).node.me
      → told.counts ≡ counts_of (links p).node echo → told.parts.items ≡ [] → told.report.items ≡ []
      → WasSealedIn seal session (sealed_bytes seal told))
      (stay : (later : Session) (bytes : List ℕ) → IsLater session later → WasSealedIn seal session bytes
      → WasSealedIn seal later bytes) where
    -- one without packets was sent
    sends_empty : (test : Bool) (told : Bundle) (echo : ℕ) (to : Address) (bytes : List ℕ)
        → (if test then Some (sealed_bytes own told) else None) ≡ Some bytes → IsBundle told
        → told.from ≡ (links p).node.me → told.counts ≡ counts_of (links p).node echo → told.parts.items ≡ []
        → told.report.items ≡ [] → sent ≡ Some (to, bytes) → On → Sends
    sends_empty test told echo to bytes spelled fits from counts parts_none report_none is on =
        let text : bytes ≡ sealed_bytes seal told = given_if test (sealed_bytes own told) bytes spelled
        ∙ ap (λ (k : Seal). sealed_bytes k told) (are.sealed p few) in (
          on,
          was_sealed on.later to bytes is
              (subst (WasSealedIn seal on.later) (sym text) (stay on.later (sealed_bytes seal told) on.given
              (empty told echo fits from counts parts_none report_none))),
        )

    excludes : (first : Option ℕ) → Excludes first (parts p) new sent → Sends
    excludes None is =
        let on = same (ap (λ (q : Playing). linked q.link) is.1) (ap (λ (q : Playing). seal_of q.link) is.1) in (
          on,
          inr (subst (λ (o : Option (Address × List ℕ)). IfSome o (λ one. WasSealedIn seal on.later one.1)) (sym is.0) tt),
        )
    excludes (Some player) is =
        sends_empty (is_peer (links p).node player && has_given_up (links p) player) (exclusion (links p) player) 0 is.0
        is.1 is.4 is.5 refl refl refl refl is.3
        (same (ap (λ (q : Playing). linked q.link) is.6) (ap (λ (q : Playing). seal_of q.link) is.6))

    sends_to : (player : ℕ) → remains (links p) player ≡ true → SendsTo player (parts p) new sent → Sends
    sends_to player remaining is =
        let given = gave player is.1 remaining is.4 is.5 in
        let later = after_datagram session p player given.0 is.5 in
        silently_and marking limits settings seal session parts p are few IsOfGame new later is.6 given.2 refl
        (was_sealed later is.0 is.1 is.3 (subst (λ (k : Seal). WasSealedIn k later is.1) (are.sealed p few) given.1))

    probes : (player : ℕ) → Probes player (parts p) new sent → Sends
    probes player is =
        sends_empty (remains (links p) player) (probe (pace_of (parts p).link) (links p) player)
        (own_echo ((pace_of (parts p).link).lines player)) is.0 is.1 is.4 is.5 refl refl refl refl is.3
        (silently marking limits settings seal session parts p are few new
        (with_survivor session p (surviving_of (linked new.link))) is.7
        (counted marking limits settings session links are.links p few player (linked new.link) is.6) refl)

    probes_first : (first : Option ℕ) → ProbesFirst first (parts p) new sent → Sends
    probes_first None is = excludes (first_owed_exclusion (parts p)) is
    probes_first (Some player) is = probes player is

    first : (first : Option ℕ) → first_owed (parts p) ≡ first → SendsFirst first (parts p) new sent → Sends
    first None none is = probes_first (first_owed_probe (parts p)) is
    first (Some player) some is =
        sends_to player (owed_remains (parts p) player (first_counted_passes (is_owed (parts p)) (from_turn (parts p).turn) player some))
        is

    passes : (passing : Option (Address × List ℕ)) → (parts p).passing ≡ passing
        → SendsOn passing (parts p) new sent → Sends
    passes None none is = first (first_owed (parts p)) refl is
    passes (Some one) some is = (
      same (ap (λ (q : Playing). linked q.link) is.1) (ap (λ (q : Playing). seal_of q.link) is.1),
      inl (is.0 ∙ sym some),
    )

    pub sends : SendsNext (parts p) new sent → Sends
    sends is = passes (parts p).passing refl is
