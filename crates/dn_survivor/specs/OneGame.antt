-- The survivors of one game, and what their callers have seen of it.
use Rattle.std.specs.Prelude.{◌-◌}
use Rattle.dn_machine.specs.Started.{start_flights}
use Rattle.std.specs.Prelude.{◌≡◌, ◌≢◌, ◌<◌, ℕ, false, List, [], ◌∷◌, Option, Some, IfSome, slice_get, ◌++◌, None}
use Rattle.std.specs.Option.{option_map}
use Rattle.dn_tic.specs.declared.command.Move.{Move}
use Rattle.dn_tic.specs.declared.input.Input.{Input}
use Rattle.dn_setup.specs.Settings.{Settings}
use Rattle.dn_machine.specs.Flight.{Flight}
use Rattle.dn_machine.specs.Limits.{Limits, IsWindow}
use Rattle.dn_machine.specs.declared.answers.Made.{Made}
use Rattle.dn_machine.specs.Node.{put}
use Rattle.dn_machine.specs.Worlds.{Inputs}
use Rattle.dn_remain.specs.Remaining.{Remaining, Telling, wary_of}
use Rattle.dn_remain.specs.Relaying.{RelayEvent, RunsRelayed}
use Rattle.dn_lockstep.specs.Marking.{Marking}
use Rattle.dn_lockstep.specs.Sent.{IsFair}
use Rattle.dn_lockstep.specs.OneGame.{IsAimedAs, beside}
use Rattle.dn_lockstep.specs.Sent.{bytes_of}
use Rattle.dn_lockstep.specs.OneGame.{given_on, taken_on, told_on}
use Rattle.dn_survivor.specs.OfOthers as others
use Rattle.dn_survivor.specs.Represents.{Represents}
use Rattle.dn_survivor.specs.Surviving.{Surviving, has_given_up}
use Rattle.dn_survivor.specs.declared.report.Report.{Report}

-- What the callers of a game's survivors have seen of it.

-- a report that was given: who told it to whom, and what
pub record Given : Type 0 where
  pub from : ℕ
  pub to : ℕ
  pub report : Report

-- so far
pub record Session : Type 0 where
  -- by player, the inputs of the builds that made a command
  pub inputs : Inputs
  -- the packets that were given, and the reports
  pub packets : List Flight
  pub reports : List Given
  -- by player, the rows that were told, and the survivor as it is
  pub told : ℕ → List (List (Option Move))
  pub survivors : ℕ → Surviving

-- before anything is called
abbrev pub opening_session : (ℕ → Surviving) → Session
opening_session survivors =
    record {
      inputs = λ player. [];
      packets = [];
      reports = [];
      told = λ player. [];
      survivors = survivors;
    }

-- where all play from the beginning on, what their locksteps would have told each other before is given
abbrev pub started_session : ℕ → Settings → (ℕ → Surviving) → Session
started_session players settings survivors =
    record (opening_session survivors) { packets = start_flights settings (players - 1) }

-- a player's survivor is another now
abbrev pub with_survivor : Session → ℕ → Surviving → Session
with_survivor session player new = record session { survivors = put session.survivors player new }

-- after a build: its input is taken, if a command was made of it
abbrev pub after_build : Session → ℕ → Input → Made → Surviving → Session
after_build session player input made new =
    record (with_survivor session player new) {
      inputs = put session.inputs player (taken_on (session.inputs player) input made);
    }

-- after a packet, if one was given
abbrev pub after_packet : Session → ℕ → Option Flight → Surviving → Session
after_packet session player packet new =
    record (with_survivor session player new) { packets = given_on session.packets packet }

-- after packets of third players' commands, which change no survivor
abbrev pub after_relays : Session → List Flight → Session
after_relays session packets = record session { packets = session.packets ++ packets }

-- after a run, which tells a row if a tic was run
abbrev pub after_run : Session → ℕ → Option (List (Option Move)) → Surviving → Session
after_run session player row new =
    record (with_survivor session player new) { told = put session.told player (told_on (session.told player) row) }

-- after a report, if one was given: the survivor stays as it is
abbrev pub reports_on : List Given → ℕ → ℕ → Option Report → List Given
reports_on reports from to None = reports
reports_on reports from to (Some report) =
    reports ++ (record { from = from; to = to; report = report }) ∷ []

abbrev pub after_report : Session → ℕ → ℕ → Option Report → Session
after_report session from to report =
    record session { reports = reports_on session.reports from to report }

-- The survivors of one game.

-- a report that was given tells another player of the game what its sender had
pub record IsTelling (limits : Limits) (given : Given) (telling : Telling) : Type 0 where
  pub from : given.from ≡ telling.from
  pub to : given.to ≡ telling.to
  pub sender : given.from < limits.players
  pub apart : given.from ≢ given.to
  pub tells : others.Tells limits.players limits.places given.to given.from telling.report given.report

-- of two lists each report of the one is the telling of the other in its place
abbrev pub AreTelling : Limits → List Given → List Telling → Type 0
AreTelling limits [] [] = Unit {0}
AreTelling limits (given ∷ reports) (telling ∷ tellings) =
    IsTelling limits given telling × AreTelling limits reports tellings
AreTelling limits [] (telling ∷ tellings) = ⊥
AreTelling limits (given ∷ reports) [] = ⊥

-- what a caller has of the packet that a survivor gave it, if there is one: who it is from and goes to, its bytes,
-- and, if it goes to one who is not given up, its exact numbers, if the caller asked the lockstep for them before
pub record IsGivenAs (now : Surviving) (sender receiver : ℕ) (spelling : Option (List ℕ)) (packet : Option Flight)
    : Type 0 where
  pub players : IfSome packet (λ packet. (packet.from ≡ sender) × (packet.to ≡ receiver))
  pub bytes : spelling ≡ option_map bytes_of packet
  pub aim : has_given_up now receiver ≡ false → IsAimedAs now.lockstep receiver packet

-- each player's survivor represents the player's node of one game in which players may be given up, in which
-- these inputs were taken, these packets and reports given, and these rows told. Packets that were given to others
-- with commands of third players are among these
pub record AreRemaining (marking : Marking) (limits : Limits) (settings : Settings) (session : Session) : Type 0
  where
    pub window : IsWindow limits
    pub events : List RelayEvent
    pub last : Remaining
    pub runs : RunsRelayed (beside marking limits) settings events last
    pub nodes : (player : ℕ) → player < limits.players
        → Represents limits player (session.survivors player) (wary_of last player)
    pub inputs : (player : ℕ) → (last.game.nodes player).inputs ≡ session.inputs player
    pub packets : last.game.flights ≡ session.packets
    pub reports : AreTelling limits session.reports last.reports
    pub rows : (player : ℕ) → (last.game.nodes player).rows ≡ session.told player
    -- a packet that was given is one that a datagram can carry
    pub fair : (which : ℕ) (packet : Flight) → slice_get session.packets which ≡ Some packet → IsFair packet
    -- nobody was stopped
    pub going : (player : ℕ) → last.game.stopped player ≡ false
