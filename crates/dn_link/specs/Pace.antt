-- How the pace of a link changes.
use Rattle.std.specs.{Prelude.{◌≡◌, ℕ, ◌+◌, ◌&&◌, ◌||◌, min, not, true, false, if◌then◌else◌, Bool, List, slice_index, nat_le, is_none, is_some, ◌+ℤ◌, ◌-ℤ◌, ℤ, pos, Option, None, Some, Result, Ok, Err}, Prelude.{false, slice_index, true}}
use Rattle.dn_tic.specs.declared.input.Input.{Input}
use Rattle.dn_machine.specs.{declared.answers.Made.{Made, TheVariants.Full}, Node.put}
use Rattle.dn_lockstep.specs.{Contents.{Contents}, Told.{made}}
use Rattle.dn_seal.specs.declared.seal.Seal.{Seal}
use Rattle.dn_open.specs.Sealed.{sealing_of}
use Rattle.dn_link.specs.{Leaning.{LeaningState, looks, step_of, worked_off, StretchingState, drops, stretches}, declared.bundle.{Bundle.Bundle, BundleFault.BundleFault}, Ends.excludes, Tally.stops, Hearing.ByTest, Line.{heard_on, lead_over, missing}, Linked.{Linked, certain, end_known, remains}, Pacing.{PaceState, is_brief}, Reading.IsBundledAs, Congestion.{allows_second, rests, ticked}, Line.{is_fresh, older}, declared.congestion.Congestion.{Congestion}}

-- an input that is owed stays so until there is room for it
abbrev pub still_owed : Made → Option Input → Option Input
still_owed Full owed = owed
still_owed made owed = None

-- the input of a tick: one that is still owed is dropped for it, and nobody was given a datagram since
abbrev pub after_input : Input → Made → PaceState → PaceState
after_input input made pace =
    record pace {
      given = λ player. false;
      owed = still_owed made (Some input);
      stretching = if is_some pace.owed then drops pace.stretching else pace.stretching;
    }

-- a datagram of a peer came
abbrev pub after_datagram : Bundle → PaceState → PaceState
after_datagram bundle pace =
    record pace { lines = put pace.lines bundle.from (heard_on bundle (pace.lines bundle.from)) }

-- how many brief ones a peer was given in a row, after one more. Only the first since a tick is counted, and two at most
abbrev pub briefs_after : PaceState → ℕ → ℕ
briefs_after pace to =
    if pace.given to then pace.briefs to else (if is_brief pace to then min (pace.briefs to + 1) 2 else 0)

-- a datagram is given to a peer
abbrev pub given_to : ℕ → PaceState → PaceState
given_to to pace =
    record pace { given = put pace.given to true; briefs = put pace.briefs to (briefs_after pace to) }

-- one is asked for, which only a peer gets who is not given up
abbrev pub after_giving : Linked → ℕ → PaceState → PaceState
after_giving link to pace = if remains link to then given_to to pace else pace

-- bytes came that were no datagram
abbrev pub after_refusal : PaceState → PaceState
after_refusal pace = record pace { refused = stops (pace.refused + 1) }

abbrev pub PacesAs : Result Bundle BundleFault → Linked → PaceState → PaceState → Type 0
PacesAs (Err fault) link old new = new ≡ after_refusal old
PacesAs (Ok bundle) link old new =
    ByTest (remains link bundle.from && not (excludes bundle)) (new ≡ after_datagram bundle old) (new ≡ old)

-- any bytes came
abbrev pub Paces : Seal → List ℕ → Linked → PaceState → PaceState → Type 0
Paces seal bytes link old new =
    (opened : Result Bundle BundleFault) × IsBundledAs (sealing_of seal link.node.me) bytes opened
    × PacesAs opened link old new

-- a peer in play: it is not given up, it was heard, and neither its datagrams nor an EXIT packet told its end
abbrev pub is_paced : Linked → PaceState → ℕ → Bool
is_paced link pace player =
    remains link player && (is_some (pace.lines player).newest
    && (is_none (end_known link.node player) && is_none (link.peers player).left))

-- such a one of which a datagram came lately
abbrev pub tells_lead : Linked → PaceState → ℕ → Bool
tells_lead link pace player = is_paced link pace player && is_fresh (pace.lines player)

-- the difference between the two leads, as seen at the last tick of each side
abbrev pub difference : Linked → PaceState → ℕ → ℤ
difference link pace player =
    if tells_lead link pace player then lead_over link.node player -ℤ (pace.lines player).lead else pos 0

-- of all peers together
abbrev pub differences : Linked → PaceState → ℤ
differences link pace =
    difference link pace 0 +ℤ difference link pace 1 +ℤ difference link pace 2 +ℤ difference link pace 3

abbrev pub one_if : Bool → ℕ
one_if test = if test then 1 else 0

-- this player and its peers
abbrev pub playing : Linked → PaceState → ℕ
playing link pace =
    1 + one_if (is_paced link pace 0) + one_if (is_paced link pace 1) + one_if (is_paced link pace 2)
    + one_if (is_paced link pace 3)

-- the newest datagram of a peer that plays told that two or more of the last ones to it did not come, or came
-- after newer ones, and the line is not too full for one more
abbrev pub wants_second : Linked → PaceState → ℕ → Bool
wants_second link pace player =
    is_paced link pace player
    && (nat_le 2 (pace.lines player).reported_holes && allows_second pace.congestion link.node.me player)

-- no datagram goes to a player at this tick
abbrev pub is_resting : Linked → PaceState → ℕ → Bool
is_resting link pace player = rests pace.congestion link.node.me player

-- datagrams are missing on the line of a peer that plays, there or here
abbrev pub is_lossy_to : Linked → PaceState → ℕ → Bool
is_lossy_to link pace player =
    is_paced link pace player
    && (nat_le 2 (pace.lines player).reported_holes || nat_le 2 (missing (pace.lines player)))

abbrev pub is_lossy : Linked → PaceState → Bool
is_lossy link pace =
    is_lossy_to link pace 0 || (is_lossy_to link pace 1
    || (is_lossy_to link pace 2 || is_lossy_to link pace 3))

-- this player's leads as seen at a tick, and lines that are a tick older
abbrev pub with_leads : Contents → PaceState → PaceState
with_leads node pace =
    record pace {
      lines = λ player. record (pace.lines player) { own_lead = lead_over node player; age = older (pace.lines player) };
    }

abbrev pub leaned : Linked → PaceState → LeaningState
leaned link pace = looks (differences link pace) (playing link pace) pace.leaning

abbrev pub stretched : Linked → PaceState → StretchingState
stretched link pace = stretches (is_lossy link pace) pace.stretching

-- how many of the node's commands a player has for certain, by what it reported
abbrev pub reported_by : Linked → ℕ → ℕ
reported_by link player = certain link.node (slice_index (link.peers player).reported link.node.me)

-- how full the line is
abbrev pub congested : Linked → PaceState → Congestion
congested link pace = ticked (made link.node) (is_paced link pace) (reported_by link) pace.congestion

-- a tick
abbrev pub after_tick : Linked → PaceState → PaceState
after_tick link pace =
    record (with_leads link.node pace) {
      given = λ player. false;
      leaning = worked_off (leaned link pace);
      stretching = stretched link pace;
      congestion = congested link pace;
    }

-- by how many 32nds of a tick the next tick comes later
abbrev pub lean : Linked → PaceState → ℤ
lean link pace = step_of (leaned link pace) +ℤ pos (stretched link pace).slow
