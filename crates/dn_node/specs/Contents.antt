-- What a node holds: what its lockstep does, and its world; and when it represents a node of the machine.
use Rattle.std.specs.Prelude.{ℕ, List, map, Option, ◌≡◌, ◌<◌, ◌≤◌, true, Some}
use Rattle.dn_machine.specs.Game.{own_world}
use Rattle.dn_machine.specs.Limits.{Limits}
use Rattle.dn_machine.specs.Running.{tic_limit}
use Rattle.dn_machine.specs.Node as machine
use Rattle.dn_machine.specs.Node.{ends_of}
use Rattle.dn_machine.specs.Worlds.{Rules, mark_in}
use Rattle.dn_lockstep.specs.Contents as lockstep_of
use Rattle.dn_lockstep.specs.Represents as lockstep_to
use Rattle.dn_lockstep.specs.Represents.{marked_to}
use Rattle.dn_lockstep.specs.Tables.{peer_of, ring_at, slot}
use Rattle.dn_node.specs.Kept.{Kept}

pub record Contents (W : Type 0) : Type 0 where
  pub lockstep : lockstep_of.Contents
  pub open lockstep use {players, me, extra, capacity, phase, played, settings, gather, hold, ran, rings, peers, marks, demo}
  pub world : W

-- all but the world
abbrev pub locked : {W : Type 0} → Contents W → lockstep_of.Contents
locked n = n.lockstep

-- with a world
abbrev pub with_world : {W : Type 0} → lockstep_of.Contents → W → Contents W
with_world n world = record { lockstep = n; world = world }

abbrev pub contents : {W : Type 0} → Kept W → Contents W
contents n =
    with_world (record {
      players = n.players;
      me = n.me;
      extra = n.extra;
      capacity = n.capacity;
      ahead = n.ahead;
      places = n.places;
      phase = n.phase;
      played = n.played;
      settings = n.settings;
      gather = n.gather;
      hold = n.hold;
      ran = n.ran;
      rings = ring_at n.rings;
      peers = peer_of n.peers;
      marks = slot n.marks;
      demo = n.demo;
    }) n.world

-- whose a node is
abbrev pub whose : {W : Type 0} → Contents W → lockstep_of.Whose
whose n = lockstep_of.whose (locked n)

-- whose each of these nodes is
abbrev pub whose_of : {W : Type 0} → List (Kept W) → List lockstep_of.Whose
whose_of nodes = map (λ n. whose (contents n)) nodes

-- a player's end as the node knows it
abbrev pub end_in : {W : Type 0} → Contents W → ℕ → Option ℕ
end_in n = lockstep_of.end_in (locked n)

-- the marks that it keeps of a tic are those of its own world before the tic, of each player up to the known
-- end
abbrev pub HasOwnMarks : {S : Type 0} → Rules S → machine.Node → Type 0
HasOwnMarks rules m =
    (player tic : ℕ) → player < rules.players → tic < marked_to (machine.ran m) (ends_of m player)
    → m.marks tic player ≡ mark_in rules.physics (own_world rules m tic) player

-- a player's number in a game of four at most, whose demos have room for no more tics than may be run
pub record IsSeat (limits : Limits) (me : ℕ) : Type 0 where
  pub below : me < limits.players
  pub few : limits.players ≤ 4
  pub short : limits.capacity ≤ tic_limit

pub record Represents {W S : Type 0} (state : W → S) (rules : Rules S) (me : ℕ) (n : Contents W)
    (m : machine.Node) : Type 0 where
  pub seat : IsSeat rules.limits me
  -- its lockstep does
  pub lockstep : lockstep_to.Represents rules.limits me (locked n) m
  -- its world is the one that its rows lead to, once it has started
  pub world : m.played ≡ true → Some (state n.world) ≡ own_world rules m (machine.ran m)
  pub marks : HasOwnMarks rules m
