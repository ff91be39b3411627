-- What a transport goes by, so that it hands in near packets alone: the number of a packet's first tic, or how
-- many commands were made since the packet was given.
use Rattle.std.specs.Prelude.{ℕ, ◌+◌, ◌-◌, ◌<◌, ◌≤◌, ◌≡◌, Bool, List, nat_le, Some}
use Rattle.dn_setup.specs.Settings.{Settings}
use Rattle.dn_machine.specs.declared.events.Event.{Event}
use Rattle.dn_machine.specs.Limits.{Limits}
use Rattle.dn_machine.specs.Worlds.{Rules}
use Rattle.dn_machine.specs.Flight.{Flight, distance}
use Rattle.dn_machine.specs.Node.{made}
use Rattle.dn_machine.specs.Sending.{on_send}
use Rattle.dn_machine.specs.Game.{Game}
use Rattle.dn_machine.specs.Runs.{Leads, Runs}

-- a packet's first tic lies so near a count that the tic which is asked for, the window before it at most, is
-- within 64 tics too
abbrev pub is_start_near : Limits → ℕ → ℕ → Bool
is_start_near limits made start = nat_le (distance start made) (64 - limits.ahead)

-- how many commands a player's node made from one game to a later one
abbrev pub made_between : Game → Game → ℕ → ℕ
made_between before now player = made player (now.nodes player) - made player (before.nodes player)

-- a player's node made so few commands since that a packet which was new to it is near still: a new one lies no
-- further away than what is kept and the window
abbrev pub IsYoung : Limits → Game → Game → ℕ → Type 0
IsYoung limits before now to = limits.places + limits.ahead + made_between before now to ≤ 64

-- and a sender so few that its packets begin within 64 of what a player had made by then, whom it may be ahead
-- of by the window
abbrev pub IsSoon : Limits → Game → Game → ℕ → Type 0
IsSoon limits before given me = limits.ahead + made_between before given me ≤ 64

-- a packet on its way in a game that goes on: one player's node gives it to another, and what holds `now` is so
-- when it comes; what holds `before` was so when it was given or earlier
pub record IsOnItsWay {S : Type 0} (rules : Rules S) (settings : Settings) (me to : ℕ) (flight : Flight)
    (before given now : Game) : Type 0 where
  pub sender : me < rules.players
  pub receiver : to < rules.players
  pub opened : (events : List Event) × Runs rules settings events before
  pub went_on : (events : List Event) × Leads rules before events given
  pub gives : (on_send rules.limits me (given.nodes me) to).1 ≡ Some flight
  pub comes : (events : List Event) × Leads rules given events now
