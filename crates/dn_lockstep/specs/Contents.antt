-- What a lockstep holds.
use Rattle.std.specs.Prelude.{ℕ, ℤ, Bool, ◌&&◌, ◌==◌, Option, Some, None, if◌then◌else◌}
use Rattle.dn_ring.specs.Ring.{Ring}
use Rattle.dn_setup.specs.Settings.{Settings}
use Rattle.dn_setup.specs.Gathered.{Gathered}
use Rattle.dn_demo.specs.Recorded.{Recorded}
use Rattle.dn_machine.specs.declared.answers.Phase.{Phase}
use Rattle.dn_lockstep.specs.declared.lockstep.Lockstep.{Lockstep}
use Rattle.dn_machine.specs.declared.peer.Peer.{Peer}
use Rattle.dn_machine.specs.Limits.{Limits}
use Rattle.dn_machine.specs.Node.{is_ended}
use Rattle.dn_lockstep.specs.Tables.{ring_at, count_of, peer_at, slot}

pub record Contents : Type 0 where
  pub players : ℕ
  pub me : ℕ
  pub extra : Bool
  -- how many tics fit into the demo
  pub capacity : ℕ
  -- how many commands it may be ahead of the tics that it ran, and how many of each player it keeps
  pub ahead : ℕ
  pub places : ℕ
  pub phase : Phase
  pub played : Bool
  pub settings : Option Settings
  -- which players it has heard
  pub gather : Gathered
  -- its turn hold
  pub hold : ℕ
  pub ran : ℕ
  -- the last commands of each player
  pub rings : ℕ → Ring
  pub peers : ℕ → Peer
  -- each player's marks, by the remainders of tics
  pub marks : ℕ → ℕ → ℤ
  pub demo : Recorded

abbrev pub contents : Lockstep → Contents
contents lockstep =
    record {
      players = lockstep.players;
      me = lockstep.me;
      extra = lockstep.extra;
      capacity = lockstep.capacity;
      ahead = lockstep.ahead;
      places = lockstep.places;
      phase = lockstep.phase;
      played = lockstep.played;
      settings = lockstep.settings;
      gather = lockstep.gather;
      hold = lockstep.builder;
      ran = lockstep.ran;
      rings = ring_at lockstep.rings;
      peers = peer_at lockstep.peers;
      marks = slot lockstep.marks;
      demo = lockstep.demo;
    }

-- the limits of its game: a packet carries twelve commands at most
abbrev pub limits_of : Contents → Limits
limits_of n =
    record { players = n.players; extra = n.extra; capacity = n.capacity; ahead = n.ahead; places = n.places; most = 12 }

-- whose a lockstep is, and of what game
pub record Whose : Type 0 where
  pub limits : Limits
  pub me : ℕ
  -- how many bytes its demo may have
  pub limit : ℕ

abbrev pub whose : Contents → Whose
whose n = record { limits = limits_of n; me = n.me; limit = n.demo.limit }

-- a player's end as it knows it: its own once it has played and ended, another's once it was told
abbrev pub end_in : Contents → ℕ → Option ℕ
end_in n player =
    if player == n.me
    then (if n.played && is_ended n.phase then Some (count_of n.rings n.me) else None)
    else (n.peers player).end
