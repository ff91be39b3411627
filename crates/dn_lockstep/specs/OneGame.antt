-- The locksteps of one game, by what their callers have seen of it.
use Rattle.std.specs.Prelude.{◌-◌}
use Rattle.dn_machine.specs.Started.{start_flights}
use Rattle.std.specs.Prelude.{ℕ, List, [], ◌∷◌, ◌++◌, Option, Some, None, ◌≡◌, ◌<◌, false, IfSome, slice_get}
use Rattle.std.specs.Option.{option_map}
use Rattle.dn_tic.specs.declared.command.Move.{Move}
use Rattle.dn_tic.specs.declared.input.Input.{Input}
use Rattle.dn_setup.specs.Settings.{Settings, start_of}
use Rattle.dn_machine.specs.declared.answers.Made.{Made}
use Rattle.dn_machine.specs.Flight.{Flight}
use Rattle.dn_machine.specs.Node.{put}
use Rattle.dn_machine.specs.Worlds.{Inputs, Rules, rules_within}
use Rattle.dn_machine.specs.Game.{Game}
use Rattle.dn_machine.specs.Limits.{Limits, IsWindow}
use Rattle.dn_machine.specs.Relaying.{RelayEvent, RunsRelayed}
use Rattle.dn_lockstep.specs.Contents.{Contents}
use Rattle.dn_lockstep.specs.Marking.{History, Marking, free}
use Rattle.dn_lockstep.specs.Sent.{IsFair, sent_to, aim_of, bytes_of}
use Rattle.dn_lockstep.specs.Represents.{Represents}
use Rattle.dn_lockstep.specs.Rows.{seats_of}
use Rattle.dn_lockstep.specs.declared.lockstep.aiming.Aim.{Aim}
use Rattle.dn_lockstep.specs.Steps.{Tells}

-- what the callers of a game's locksteps have seen of it so far
pub record Session : Type 0 where
  -- by player, the inputs of the builds that made a command
  pub inputs : Inputs
  -- the packets that were given
  pub given : List Flight
  -- by player, the rows that were told
  pub told : ℕ → List (List (Option Move))
  pub locksteps : ℕ → Contents

-- before anything is called
abbrev pub opening_session : (ℕ → Contents) → Session
opening_session locksteps =
    record { inputs = λ player. []; given = []; told = λ player. []; locksteps = locksteps }

-- where all locksteps play from the beginning on, what they would have told each other before is given
abbrev pub started_session : ℕ → Settings → (ℕ → Contents) → Session
started_session players settings locksteps =
    record (opening_session locksteps) { given = start_flights settings (players - 1) }

-- a player's lockstep is another now
abbrev pub with_lockstep : Session → ℕ → Contents → Session
with_lockstep session player new = record session { locksteps = put session.locksteps player new }

-- after a build: its input is taken, if a command was made of it
abbrev pub taken_on : List Input → Input → Made → List Input
taken_on inputs input (Made.Made tic) = inputs ++ input ∷ []
taken_on inputs input Made.Full = inputs
taken_on inputs input Made.NotPlaying = inputs

abbrev pub after_build : Session → ℕ → Input → Made → Contents → Session
after_build session player input made new =
    record session {
      inputs = put session.inputs player (taken_on (session.inputs player) input made);
      locksteps = put session.locksteps player new;
    }

-- after a packet, if one was given
abbrev pub given_on : List Flight → Option Flight → List Flight
given_on flights None = flights
given_on flights (Some flight) = flights ++ flight ∷ []

abbrev pub after_packet : Session → ℕ → Option Flight → Contents → Session
after_packet session player flight new =
    record session {
      given = given_on session.given flight;
      locksteps = put session.locksteps player new;
    }

-- after packets of third players' commands, which change no lockstep
abbrev pub after_relays : Session → List Flight → Session
after_relays session flights = record session { given = session.given ++ flights }

-- after a run, which tells a row if a tic was run
abbrev pub told_on : List (List (Option Move)) → Option (List (Option Move)) → List (List (Option Move))
told_on rows None = rows
told_on rows (Some row) = rows ++ row ∷ []

abbrev pub after_run : Session → ℕ → Option (List (Option Move)) → Contents → Session
after_run session player row new =
    record session {
      told = put session.told player (told_on (session.told player) row);
      locksteps = put session.locksteps player new;
    }

-- the rules of a game whose callers step worlds with these marks
abbrev pub beside : Marking → Limits → Rules History
beside marking limits = rules_within (free marking) limits

-- a caller's world: it was begun with the settings' start and the taken seats, and stepped by the rows that
-- the caller was told
abbrev pub world_told : Limits → Settings → List (List (Option Move)) → History
world_told limits settings rows =
    record { start = start_of settings; present = seats_of limits.players; rows = rows }

-- each player's lockstep represents the player's node of one game of the machine, in which these inputs were
-- taken, these packets given, and these rows told. Packets that were given to others with commands of third
-- players are among these
pub record AreOneGame (marking : Marking) (limits : Limits) (settings : Settings) (session : Session) : Type 0 where
  pub window : IsWindow limits
  pub events : List RelayEvent
  pub last : Game
  pub runs : RunsRelayed (beside marking limits) settings events last
  pub nodes : (player : ℕ) → player < limits.players
      → Represents limits player (session.locksteps player) (last.nodes player)
  pub inputs : (player : ℕ) → (last.nodes player).inputs ≡ session.inputs player
  pub flights : last.flights ≡ session.given
  pub rows : (player : ℕ) → (last.nodes player).rows ≡ session.told player
  -- a packet that was given is one that a datagram can carry
  pub fair : (which : ℕ) (flight : Flight) → slice_get session.given which ≡ Some flight → IsFair flight
  -- nobody was stopped
  pub going : (player : ℕ) → last.stopped player ≡ false

-- numbers that the caller asked for before are those of the packet
abbrev pub IsAimedAs : Contents → ℕ → Option Flight → Type 0
IsAimedAs n receiver flight = (numbers : Option Aim)
    → Tells n (λ limits me m. numbers ≡ option_map aim_of (sent_to receiver limits me m).1)
    → numbers ≡ option_map aim_of flight

-- what a caller has of the packet that a lockstep gave it, if there is one: who it is from and goes to, its
-- bytes, and its exact numbers, if the caller asked for them before
pub record IsGivenAs (n : Contents) (sender receiver : ℕ) (spelling : Option (List ℕ)) (flight : Option Flight)
    : Type 0 where
  pub players : IfSome flight (λ flight. (flight.from ≡ sender) × (flight.to ≡ receiver))
  pub bytes : spelling ≡ option_map bytes_of flight
  pub aim : IsAimedAs n receiver flight
