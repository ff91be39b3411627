-- What stands where in lists, and in a game that represents one of the machine.
use Rattle.std.proofs.Common.{subst, sym, arith, ◌≡◌, ◌<◌, ℕ, List, [], ◌∷◌, length, Some, false, map, set, ◌∙◌, refl, ap, All, slice_get, slice_index_or, option_map}
use Rattle.std.proofs.lemmas.Option.{slice_get_within, slice_get-get_or, get_or_from_slice_get, slice_get-map, slice_get_read}
use Rattle.std.proofs.lemmas.List.{length-set, length-map}
use Rattle.dn_machine.specs.{Limits.{Limits, IsWindow}, Progress.{IsSwift, GoesInto}}
use Rattle.dn_machine.specs.{Game.with_node, Worlds.Rules, Node.made}
use Rattle.dn_machine.specs.Game as machine
use Rattle.dn_machine.specs.Node as exact_node
use Rattle.dn_machine.specs.Flight as exact
use Rattle.dn_machine.proofs.Put.{set_and_put}
use Rattle.dn_lockstep.specs.Tables.{count_of}
use Rattle.dn_lockstep.proofs.Shown.{made_is}
use Rattle.dn_node.specs.declared.node.Node.{Node}
use Rattle.dn_node.specs.Contents as node
use Rattle.dn_game.specs.Contents.{IsVanilla, Contents, Represents, IsCarried, flight_of}
use Rattle.dn_game.specs.declared.flight.Flight.{Flight}

-- something stands at each place
pub there_is : {X : Type 0} (xs : List X) (i : ℕ) → i < length xs → (x : X) × (slice_get xs i ≡ Some x)
there_is [] i h = absurd (omega arith)
there_is (x ∷ xs) i h = (_, slice_get-get_or (x ∷ xs) i x h)

-- what holds of all holds of the one that stands there
pub all_at : {X : Type 0} (P : X → Type 0) (xs : List X) (i : ℕ) (x : X) → All P xs → slice_get xs i ≡ Some x
    → P x
all_at P xs i x all is = subst P (get_or_from_slice_get xs i x x is) (all i x (slice_get_within xs i x is))

-- The window of 1997 is one, and what is kept in it goes into one packet.

pub window_of : (limits : Limits) → IsVanilla limits → IsWindow limits
window_of limits vanilla = subst IsWindow (sym vanilla) (record { twice = omega arith; back = omega arith })

pub swift_of : (limits : Limits) → IsVanilla limits → IsSwift limits
swift_of limits vanilla = subst IsSwift (sym vanilla) (record { some = omega arith; near = omega arith })

pub packet_of : (limits : Limits) → IsVanilla limits → GoesInto limits 1
packet_of limits vanilla = subst (λ (l : Limits). GoesInto l 1) (sym vanilla) (grind arith)

-- In a game.

-- the machine's flight of a packet that was sent
pub record IsFlight (m : machine.Game) (players : ℕ) (flights : List Flight) (which : ℕ)
    (flight : exact.Flight) : Type 0 where
  pub there : slice_get m.flights which ≡ Some flight
  pub sent : slice_get flights which ≡ Some (flight_of flight)
  pub carried : IsCarried players flight

module _ {W S : Type 0} (state : W → S) (rules : Rules S) (g : Contents W) (m : machine.Game)
    (r : Represents state rules g m) where
  -- the node at a place represents the machine's
  pub node_at : (i : ℕ) (n : Node W) → i < length g.nodes → n ≡ slice_index_or g.nodes i n
      → node.Represents state rules i (node.contents n) (m.nodes i)
  node_at i n h is = r.nodes i n (slice_get_read g.nodes (length g.nodes) i n refl h is)

  -- its number is one of its players
  its_own : (i : ℕ) (n : Node W) → i < length g.nodes → n ≡ slice_index_or g.nodes i n
      → (node.contents n).me < (node.contents n).players
  its_own i n h is =
      let its = node_at i n h is in
      omega (arith, its.seat.below, its.lockstep.whose.number, its.lockstep.whose.players)

  -- and has made as many commands
  pub made_at : (i count : ℕ) (n : Node W) → i < length g.nodes → n ≡ slice_index_or g.nodes i n
      → count ≡ count_of (node.contents n).rings (node.contents n).me → count ≡ made i (m.nodes i)
  made_at i count n h is c = c ∙ made_is rules.limits i (node.locked (node.contents n)) (m.nodes i)
      (node_at i n h is).lockstep (its_own i n h is)

  -- a packet that was sent is that of a flight
  pub flight_at : (which : ℕ) → which < length g.flights → (flight : exact.Flight)
      × IsFlight m rules.players g.flights which flight
  flight_at which below =
      let count = ap length r.flights ∙ length-map m.flights flight_of in
      let at = there_is m.flights which (omega (arith, below, count)) in
      let sent = ap (λ (fs : List Flight). slice_get fs which) r.flights
      ∙ slice_get-map flight_of m.flights which ∙ ap (option_map flight_of) at.1 in (
        at.0,
        record {
          there = at.1;
          sent = sent;
          carried = all_at (IsCarried rules.players) m.flights which at.0 r.carried at.1;
        },
      )

-- A step of one node, in its place.

-- what it represents with other nodes, others who have stopped, or other packets
pub moved : {W S : Type 0} (state : W → S) (rules : Rules S) (g : Contents W) (m : machine.Game)
    → Represents state rules g m → (new : Contents W) (next : machine.Game) → length new.nodes ≡ length g.nodes
    → ((i : ℕ) (n : Node W) → slice_get new.nodes i ≡ Some n
    → node.Represents state rules i (node.contents n) (next.nodes i))
    → ((i : ℕ) → slice_index_or new.stopped i false ≡ next.stopped i)
    → new.flights ≡ map flight_of next.flights → All (IsCarried rules.players) next.flights
    → Represents state rules new next
moved state rules g m r new next count nodes stopped flights carried = grind arith

module _ {W S : Type 0} (state : W → S) (rules : Rules S) (g : Contents W) (m : machine.Game) (place : ℕ)
    (n : Node W) (after : exact_node.Node)
    (r : Represents state rules g m) (below : place < length g.nodes)
    (is : node.Represents state rules place (node.contents n) after) where
  -- a node that represents another one of the machine, in its place
  pub places : Represents state rules (record g { nodes = set g.nodes place n }) (with_node m place after)
  places = moved state rules g m r _ _ (length-set g.nodes place n)
      (set_and_put (λ (i : ℕ) (x : Node W) (y : exact_node.Node). node.Represents state rules i (node.contents x) y)
      g.nodes m.nodes place n after r.nodes below is) r.stopped r.flights r.carried
