-- A game in which players may be given up, and the games that a list of events may lead to.
use Rattle.std.specs.Prelude.{ℕ, Bool, false, nat_lt, if◌then◌else◌, List, [], ◌∷◌, ◌++◌, Option, Some, None, slice_get, true, IsTrue, ◌≡◌, ◌⊎◌}
use Rattle.dn_setup.specs.Settings.{Settings}
use Rattle.dn_machine.specs.declared.events.Event.{Event}
use Rattle.dn_machine.specs.declared.events.Event.TheVariants.{Send, Deliver, Run}
use Rattle.dn_machine.specs.declared.events.Refusal.{Refusal}
use Rattle.dn_machine.specs.declared.answers.Heard.{Heard}
use Rattle.dn_machine.specs.Flight.{Flight}
use Rattle.dn_machine.specs.Game.{Game, opening_game, with_node, own_marks, refused_at, applied}
use Rattle.dn_machine.specs.Hearing.{on_packet}
use Rattle.dn_machine.specs.Node.{put}
use Rattle.dn_machine.specs.Limits.{Limits}
use Rattle.dn_machine.specs.Worlds.{Rules}
use Rattle.dn_machine.specs.Sparing.{on_run_but}
use Rattle.dn_machine.specs.Drops as drops
use Rattle.dn_machine.specs.Runs.{is_send, Path}
use Rattle.dn_remain.specs.Wary.{Report, Wary, on_give_up, on_report, report_to}
use Rattle.dn_remain.specs.declared.events.RemainEvent.{RemainEvent}
use Rattle.dn_remain.specs.declared.events.RemainEvent.TheVariants.{Own, GiveUp, Tell, Hear}

-- a report under way: who tells it to whom, and what
pub record Telling : Type 0 where
  pub from : ℕ
  pub to : ℕ
  pub report : Report

-- a game; by node, whom it has given up, and the newest report that it has of each player; and every report
-- that was ever told, in order
pub record Remaining : Type 0 where
  pub game : Game
  pub gone : ℕ → ℕ → Bool
  pub newest : ℕ → ℕ → Option Report
  pub reports : List Telling

-- nobody has given up anybody, and nothing was told
unfoldable pub opening_remaining : Settings → Remaining
opening_remaining settings =
    record {
      game = opening_game settings;
      gone = λ node player. false;
      newest = λ node player. None;
      reports = [];
    }

-- one of its nodes
abbrev pub wary_of : Remaining → ℕ → Wary
wary_of all node = record { node = all.game.nodes node; gone = all.gone node; newest = all.newest node }

-- another in its place
abbrev pub with_wary : Remaining → ℕ → Wary → Remaining
with_wary all node wary =
    record all {
      game = with_node all.game node wary.node;
      gone = put all.gone node wary.gone;
      newest = put all.newest node wary.newest;
    }

-- what is refused changes nothing
abbrev pub unless : Option Refusal → Remaining → Remaining → Remaining
unless (Some refusal) old new = old
unless None old new = new

-- a node was told to give up a player
abbrev pub after_give_up : Limits → Remaining → ℕ → ℕ → Remaining
after_give_up limits all node player = unless (refused_at limits.players all.game node) all
    (with_wary all node (on_give_up limits node (wary_of all node) player).0)

-- a report joins those that were told, if there is one
abbrev pub with_telling : Remaining → ℕ → ℕ → Option Report → Remaining
with_telling all node to None = all
with_telling all node to (Some report) =
    record all { reports = all.reports ++ (record { from = node; to = to; report = report }) ∷ [] }

-- a node was asked for a report to another
abbrev pub after_telling : Limits → Remaining → ℕ → ℕ → Remaining
after_telling limits all node to = unless (refused_at limits.players all.game node) all
    (if nat_lt to limits.players
    then with_telling all node to (report_to limits node (wary_of all node) to)
    else all)

-- a report came to its receiver; it stays among those that were told, and may come again
abbrev pub after_hearing : Limits → Remaining → Option Telling → Remaining
after_hearing limits all None = all
after_hearing limits all (Some telling) = unless (refused_at limits.players all.game telling.to) all
    (with_wary all telling.to
    (on_report limits telling.to (wary_of all telling.to) telling.from telling.report).0)

-- nothing is heard of one who is given up
abbrev pub is_barred_flight : Remaining → Option Flight → Bool
is_barred_flight all None = false
is_barred_flight all (Some flight) = all.gone flight.to flight.from

-- and nothing is sent to one. All else that may happen in a game may happen here
abbrev pub is_barred : Remaining → Event → Bool
is_barred all (Send node to) = all.gone node to
is_barred all (Deliver which) = is_barred_flight all (slice_get all.game.flights which)
is_barred all _ = false

-- the answer to a packet that comes, where one of a player who is given up is dropped
abbrev pub heard_of : Limits → Remaining → Flight → Heard
heard_of limits all flight =
    if all.gone flight.to flight.from
    then Heard.Dropped drops.given_up
    else (on_packet limits flight.to (all.game.nodes flight.to) flight).1

-- the game after a run, which compares no mark of a player whom its node has given up
abbrev pub after_run : {S : Type 0} → Rules S → Remaining → ℕ → Option Refusal → Game
after_run rules all node (Some refusal) = all.game
after_run rules all node None = with_node all.game node
    (on_run_but rules.limits (all.gone node) (all.game.nodes node) (own_marks rules (all.game.nodes node))).0

-- the game after an event of the machine that is not barred
abbrev pub after_event : {S : Type 0} → Rules S → Remaining → Event → Game
after_event rules all (Run node) = after_run rules all node (refused_at rules.players all.game node)
after_event rules all event = (applied rules all.game event).0

-- The games that a list of events may lead to, where players may be given up. A packet or a report may come
-- at any time after it was sent or told, in any order, many times or never; a node may stop at any time; and
-- whom it gives up, and when, is not asked here.

-- an event of the machine leads to a game; a send may be left out, where memory is refused
abbrev pub NextGame : {S : Type 0} → Rules S → Remaining → Event → Game → Type 0
NextGame rules all event game = (game ≡ after_event rules all event)
    ⊎ (IsTrue (is_send event) × (game ≡ all.game))

-- an event of the machine, which changes nothing where it is barred
abbrev pub NextOwn : {S : Type 0} → Rules S → Remaining → Event → Remaining → Type 0
NextOwn rules all event next = ((is_barred all event ≡ true) × (next ≡ all))
    ⊎ ((is_barred all event ≡ false) × (game : Game) × NextGame rules all event game
    × (next ≡ record all { game = game }))

-- one event leads from a game to the next; a telling may be left out, where memory is refused
abbrev pub NextRemain : {S : Type 0} → Rules S → Remaining → RemainEvent → Remaining → Type 0
NextRemain rules all (Own event) next = NextOwn rules all event next
NextRemain rules all (GiveUp node player) next = next ≡ after_give_up rules.limits all node player
NextRemain rules all (Tell node to) next = (next ≡ after_telling rules.limits all node to) ⊎ (next ≡ all)
NextRemain rules all (Hear which) next = next ≡ after_hearing rules.limits all (slice_get all.reports which)

-- a list of events leads from a game to another
abbrev pub LeadsRemain : {S : Type 0} → Rules S → Remaining → List RemainEvent → Remaining → Type 0
LeadsRemain rules all events last = Path (NextRemain rules) all events last

-- a game that the list of events may lead to, from the opening on
abbrev pub RunsRemain : {S : Type 0} → Rules S → Settings → List RemainEvent → Remaining → Type 0
RunsRemain rules settings events all = LeadsRemain rules (opening_remaining settings) events all

-- nobody has given up anybody
abbrev pub NobodyGivenUp : Remaining → Type 0
NobodyGivenUp all = (node player : ℕ) → all.gone node player ≡ false
