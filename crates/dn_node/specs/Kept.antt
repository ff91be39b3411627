-- What a node keeps.
use Rattle.std.specs.Prelude.{ℕ, Bool, List, Option}
use Rattle.dn_ring.specs.Ring.{Ring}
use Rattle.dn_setup.specs.Settings.{Settings}
use Rattle.dn_setup.specs.Gathered.{Gathered}
use Rattle.dn_demo.specs.Recorded.{Recorded}
use Rattle.dn_machine.specs.declared.answers.Phase.{Phase}
use Rattle.dn_machine.specs.declared.peer.Peer.{Peer}
use Rattle.dn_lockstep.specs.declared.marks.Slots.{Slots}

pub record Kept (W : Type 0) : Type 0 where
  pub players : ℕ
  pub me : ℕ
  pub extra : Bool
  -- how many tics fit into the demo
  pub capacity : ℕ
  -- how many commands it may be ahead of the tics that it ran, and how many of each player it keeps
  pub ahead : ℕ
  pub places : ℕ
  pub phase : Phase
  pub played : Bool
  pub settings : Option Settings
  -- which players it has heard
  pub gather : Gathered
  -- its turn hold
  pub hold : ℕ
  pub ran : ℕ
  -- by the players' numbers: the last commands of each, what is known of each, and each one's marks by the
  -- remainders of tics
  pub rings : List Ring
  pub peers : List Peer
  pub marks : List Slots
  pub demo : Recorded
  pub world : W
