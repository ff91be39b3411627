-- The links of one game stay those of one game.
use Rattle.std.proofs.Common.{arith, ℕ, Bool, true, false, List, ◌≡◌, ap, ◌∙◌, zero, suc, [], ◌∷◌, ◌++◌, length, map, refl, sym, subst, Option, Some, None, All}
use Rattle.std.proofs.lemmas.{List.Elements.{All-nil, All-cons, All-head, All-tail, All-append, All-take, All-map}, Option.{none-some, same_Some}}
use Rattle.std.specs.{Prelude.{if◌then◌else◌, nat_le, slice_get}, List.flat_map, Option.option_map}
use Rattle.dn_machine.specs.{Flight.Flight, Node.put, Limits.Limits, Started.started_node}
use Rattle.dn_remain.proofs.Vanished.Put.{at_put}
use Rattle.dn_link.specs.{Linked.{Linked, PeerState, met, with_reached, IsWhole}, Kept.{Unacknowledged, going, is_news, kept_after, without, end_of}, Counting.{reached}}
use Rattle.dn_link.specs.{declared.bundle.{Bundle.Bundle, Part.Part, Carried.Carried}, RemainingLinks.{WasGiven}, Hearing.carried_of, Packets.{opened_from, packets_of}}
use Rattle.dn_link.specs.Packing.{ArePacked}
use Rattle.dn_lockstep.specs.{Contents.Contents, OneGame.{given_on}, Phases.is_waiting, Represents.Represents}
use Rattle.dn_survivor.specs.{OfOthers.{has, nothing_kept}, declared.others.Others.Others}
use Rattle.dn_setup.specs.Settings.{Settings}
use Rattle.dn_lockstep.proofs.OneGame.{GoesBetween}
use Rattle.dn_seal.specs.declared.opened.Opened.{Opened}

-- Links that have given up nobody.

-- nobody is given up at first
nobody : (player : ℕ) → has nothing_kept.gone player ≡ false
nobody player = grind arith

pub new_whole : (link : Linked) → link.others ≡ nothing_kept → IsWhole link
new_whole link is player = ap (λ (o : Others). has o.gone player) is ∙ nobody player

-- one that plays from the beginning on has started
pub new_started : (limits : Limits) (settings : Settings) (player : ℕ) (n : Contents)
    → Represents limits player n (started_node limits.players settings player) → is_waiting n.phase ≡ false
new_started limits settings player n shows = ap is_waiting shows.stands.phase

-- and nobody where none is given up since
pub still_whole : (old new : Linked) → new.others.gone ≡ old.others.gone → IsWhole old → IsWhole new
still_whole old new same whole player = ap (λ (gone : List Bool). has gone player) same ∙ whole player

-- the last of a list, and what was found is found still
pub last_at : {A : Type 0} (xs : List A) (x : A) → slice_get (xs ++ x ∷ []) (length xs) ≡ Some x
last_at [] x = refl
last_at (y ∷ xs) x = last_at xs x

pub found_on : {A : Type 0} (xs more : List A) (which : ℕ) (x : A) → slice_get xs which ≡ Some x
    → slice_get (xs ++ more) which ≡ Some x
found_on [] more which x found = absurd (none-some x found)
found_on (y ∷ xs) more zero x found = found
found_on (y ∷ xs) more (suc which) x found = found_on xs more which x found

-- what was given was given, when more is
pub stays_given : (given : List Flight) (flight : Option Flight) (to : ℕ) (packet : Opened)
    → WasGiven given to packet → WasGiven (given_on given flight) to packet
stays_given given flight to packet was = grind (arith, found_on)

-- each of some packets of a player
abbrev pub AreGiven : List Flight → ℕ → ℕ → List Carried → Type 0
AreGiven given from to packets = All (λ packet. WasGiven given to (opened_from from packet)) packets

pub all_stay : (given : List Flight) (flight : Option Flight) (from to : ℕ) (packets : List Carried)
    → AreGiven given from to packets → AreGiven (given_on given flight) from to packets
all_stay given flight from to [] all = All-nil (λ packet. WasGiven (given_on given flight) to (opened_from from packet))
all_stay given flight from to (packet ∷ packets) all = grind (arith, All-cons, stays_given, All-head, All-tail)

-- without those that are acknowledged
pub without_given : (given : List Flight) (from to count : ℕ) (packets : List Carried)
    → AreGiven given from to packets → AreGiven given from to (without count packets)
without_given given from to count [] all = all
without_given given from to count (packet ∷ packets) all =
    go (nat_le (end_of packet) count) (without_given given from to count packets
    (All-tail (λ packet. WasGiven given to (opened_from from packet)) packet packets all))
  where
    go : (test : Bool) → AreGiven given from to (without count packets)
        → AreGiven given from to (if test then without count packets else packet ∷ packets)
    go true rest = rest
    go false rest = all

-- the packet of the moment, and what goes to the peer and is kept
module _ (given : List Flight) (flight : Option Flight) (from to : ℕ) (kept : Unacknowledged) (packet : Option Carried)
    (between : GoesBetween from to flight)
    (is : (carried : Carried) → packet ≡ Some carried → Some carried ≡ option_map carried_of flight)
    (all : AreGiven given from to kept.packets) where
  abbrev P : Carried → Type 0
  P packet = WasGiven (given_on given flight) to (opened_from from packet)

  it_is : (one : Option Flight) (carried : Carried) → GoesBetween from to one → Some carried ≡ option_map carried_of one
      → WasGiven (given_on given one) to (opened_from from carried)
  it_is None carried ends e = absurd (cc)
  it_is (Some f) carried ends e =
      let same : carried ≡ carried_of f = same_Some carried (carried_of f) e in
      (length given, f, last_at given f, ends.1, (λ i. opened_from (sym ends.0 i) (same i)))

  moment : (one : Option Carried) → one ≡ packet → AreGiven (given_on given flight) from to (going kept one)
  moment None e = all_stay given flight from to kept.packets all
  moment (Some carried) e =
      All-append P kept.packets (carried ∷ []) (all_stay given flight from to kept.packets all)
      (All-cons P carried [] (it_is flight carried between (is carried (sym e))) (All-nil P))

  pub goes_given : AreGiven (given_on given flight) from to (going kept packet)
  goes_given = moment packet refl

  pub keeps_given : AreGiven (given_on given flight) from to (kept_after kept packet).packets
  keeps_given = go packet goes_given
    where
      go : (one : Option Carried) → AreGiven (given_on given flight) from to (going kept one)
          → AreGiven (given_on given flight) from to (kept_after kept one).packets
      go None every = every
      go (Some carried) every = by (is_news kept carried)
        where
          by : (test : Bool) → AreGiven (given_on given flight) from to
              (if test then record kept { packets = kept.packets ++ carried ∷ []; covered = end_of carried } else kept).packets
          by true = every
          by false = all_stay given flight from to kept.packets all

  -- and so was all that the parts stand for
  pub packs_given : (parts : List Part) → ArePacked from (going kept packet) parts
      → All (WasGiven (given_on given flight) to) (flat_map (packets_of from) parts)
  packs_given parts packed =
      subst (All (WasGiven (given_on given flight) to)) (sym packed.front)
      (All-take (WasGiven (given_on given flight) to) packed.count (map (opened_from from) (going kept packet))
      (All-map (WasGiven (given_on given flight) to) (opened_from from) (going kept packet) goes_given))

-- what was given was given later, too
pub all_later : (given later : List Flight) → ((which : ℕ) (flight : Flight) → slice_get given which ≡ Some flight
    → slice_get later which ≡ Some flight) → (from to : ℕ) (packets : List Carried)
    → AreGiven given from to packets → AreGiven later from to packets
all_later given later stay from to [] all = All-nil (λ packet. WasGiven later to (opened_from from packet))
all_later given later stay from to (packet ∷ packets) all =
    let was = All-head (λ packet. WasGiven given to (opened_from from packet)) packet packets all in
    All-cons (λ packet. WasGiven later to (opened_from from packet)) packet packets
    (was.0, was.1, stay was.0 was.1 was.2, was.3, was.4) (all_later given later stay from to packets
    (All-tail (λ packet. WasGiven given to (opened_from from packet)) packet packets all))

pub found_later : (given : List Flight) (flight : Option Flight) (which : ℕ) (one : Flight)
    → slice_get given which ≡ Some one → slice_get (given_on given flight) which ≡ Some one
found_later given None which one found = found
found_later given (Some new) which one found = found_on given (new ∷ []) which one found

-- what the links keep was given later, too, where what another link keeps that takes the place of one was
pub all_put : (given later : List Flight) → ((which : ℕ) (flight : Flight) → slice_get given which ≡ Some flight
    → slice_get later which ≡ Some flight) → (links : ℕ → Linked) (player : ℕ) (new : Linked)
    → ((peer : ℕ) → AreGiven later player peer (new.peers peer).kept.packets) → (other peer : ℕ)
    → AreGiven given other peer ((links other).peers peer).kept.packets
    → AreGiven later other peer ((put links player new other).peers peer).kept.packets
all_put given later stay links player new kept other peer = at_put (λ (k : ℕ) (l : Linked).
    AreGiven given k peer ((links k).peers peer).kept.packets → AreGiven later k peer (l.peers peer).kept.packets)
    links player new (λ was. kept peer)
    (λ k off. all_later given later stay k peer ((links k).peers peer).kept.packets) other

-- What is kept for peers was given, where one of them is another now.

module _ (given : List Flight) (player : ℕ) where
  -- what is kept for each peer was given to it
  abbrev pub AreKept : (ℕ → PeerState) → Type 0
  AreKept peers = (peer : ℕ) → AreGiven given player peer (peers peer).kept.packets

  pub put_kept : (peers : ℕ → PeerState) (to : ℕ) (new : PeerState) → AreKept peers
      → AreGiven given player to new.kept.packets → AreKept (put peers to new)
  put_kept peers to new all here = at_put (λ (p : ℕ) (t : PeerState). AreGiven given player p t.kept.packets) peers to new
      here (λ p off. all p)

  -- where what was heard acknowledges
  pub reached_kept : (node : Contents) (peers : ℕ → PeerState) → AreKept peers → AreKept (with_reached node peers)
  reached_kept node peers all peer =
      without_given given player peer (reached node peer) (peers peer).kept.packets (all peer)

  pub met_kept : (old : Linked) (bundle : Bundle) → AreKept old.peers → AreKept (met bundle old).peers
  met_kept old bundle all =
      put_kept old.peers bundle.from _ all (without_given given player bundle.from _ (old.peers bundle.from).kept.packets
      (all bundle.from))
