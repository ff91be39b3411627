-- A player's part in its game: what each call makes of it.
use Rattle.std.specs.{Prelude.{◌≡◌, ℕ, ℤ, ◌&&◌, ◌||◌, ◌+◌, ◌%◌, Bool, not, is_some, true, false, if◌then◌else◌, List, map, slice_index_or, slice_set, replicate, Option, Some, None}, Option.{option_map, option_or}}
use Rattle.dn_tic.specs.{declared.command.Move.Move, declared.input.Input.Input}
use Rattle.dn_machine.specs.{Running.on_quit, Running.row_held, Sending.on_build, declared.answers.Made.Made, declared.answers.Ran.Ran}
use Rattle.dn_lockstep.specs.Steps.{Steps, Tells}
use Rattle.dn_survivor.specs.declared.answers.GivenUp.{GivenUp}
use Rattle.dn_link.specs.{Linked.Receives, Linked.has_given_up, Linking.linked, Linking.seal_of, Pace.Paces, Pace.after_input, Pace.after_tick, Pace.is_resting, Pace.lean, Pace.still_owed, Pace.wants_second, Pacing.pace_of, Surviving.GivesUpPeer, Surviving.RunsBut, declared.link.Link.Link, declared.received.Received.Received}
use Rattle.dn_link.specs.declared.received.Received.TheVariants as received
use Rattle.dn_session.specs.{Coming.{counts_in, has_more, heard_of, is_answer_of, line_of, lines_in, news_of}, Ending.ended_by, Ending.ending_of, Ending.is_unneeded, Ending.may_give_up, Ending.patience, Ending.waits, Joining.has_come, Lead.due, Passing.passed_on, Passing.sent_of, Places.heard_at, Places.is_since, Players.four, Players.has_row_behind, Players.is_any_awaited, Players.view_of, Ticks.half_taken, Ticks.is_due, Ticks.passed, Ticks.resumed, Steady.after_tic, Steady.holds, Steady.ticked, declared.steady.Steady.Steady, Watch.looked_at, declared.ending.Ending.Ending, declared.ending.Progress.Progress, declared.greeting.Address.Address, declared.lead.View.View, declared.{part.Exclusion.Exclusion, part.Part.Part, part.hearing.Known.Known, places.Places.Places, terms.Policy.Policy, ticks.Ticks.Ticks, watch.Watch.Watch}}
use Rattle.dn_machine.specs.declared.answers.Ran.TheVariants as answer
use Rattle.dn_session.specs.declared.ending.Ending.TheVariants as ending
use Rattle.dn_session.specs.declared.ending.Progress.TheVariants as progress

-- its link; when ticks are due; for how long others were silent; where they are; who has told that it has given up
-- this player; whom it is to tell so; to whom a datagram is owed; whose turn it is; how evenly tics come; what is to be
-- passed on; how far it is; and what becomes of a player who vanishes
pub record Playing : Type 0 where
  pub link : Link
  pub ticks : Ticks
  pub watch : Watch
  pub places : Places
  pub excluders : List Bool
  pub exclusions : List Exclusion
  pub owed : List Bool
  pub turn : ℕ
  pub steady : Steady
  pub passing : Option (Address × List ℕ)
  pub progress : Progress
  pub policy : Policy

abbrev pub playing : Part → Playing
playing part =
    record {
      link = part.link;
      ticks = part.ticks;
      watch = part.watch;
      places = part.places;
      excluders = part.excluders;
      exclusions = part.exclusions;
      owed = part.owed;
      turn = part.turn;
      steady = part.steady;
      passing = option_map sent_of part.passing;
      progress = part.progress;
      policy = part.policy;
    }

-- what one of its link's calls leaves as it was
abbrev pub KeepsGame : Link → Link → Type 0
KeepsGame old new = seal_of new ≡ seal_of old

abbrev pub view : ℕ → Playing → View
view now p = view_of (linked p.link) p.excluders p.watch now

-- how it ended
abbrev pub ended_as : Progress → Option Ending
ended_as (progress.Over end) = Some end
ended_as progress = None

-- Datagrams that come.

-- any bytes come to the link
abbrev pub Takes : List ℕ → Link → Link → Received → Type 0
Takes bytes old new received =
    KeepsGame old new × Receives (seal_of old) bytes (linked old) (linked new) received
    × Paces (seal_of old) bytes (linked old) (pace_of old) (pace_of new)

-- what is known of players by it: of each line, and how many of each player's commands are here
abbrev pub known_by : Link → Known
known_by link =
    record { lines = lines_in (linked link) (pace_of link); counts = counts_in (linked link).node }

-- a newer echo of a player is a sign of life of it, and so are more of its commands
abbrev pub is_alive : Received → (before after : Known) → ℕ → Bool
is_alive received before after player =
    is_answer_of (heard_of received) before.lines after.lines player || has_more before.counts after.counts player

abbrev pub hears_if : Bool → ℕ → ℕ → Watch → Watch
hears_if true player now watch = record watch { heard = slice_set watch.heard player now }
hears_if false player now watch = watch

abbrev pub watch_after : Received → (before after : Known) → ℕ → Watch → Watch
watch_after received before after now watch =
    hears_if (is_alive received before after 3) 3 now
    (hears_if (is_alive received before after 2) 2 now
    (hears_if (is_alive received before after 1) 1 now
    (hears_if (is_alive received before after 0) 0 now watch)))

-- where the player is whose datagram was heard
abbrev pub place_after : Option ℕ → Address → ℕ → (before after : Known) → Places → Places
place_after None from now before after places = places
place_after (Some player) from now before after places =
    heard_at player from now (news_of (line_of before.lines player) (line_of after.lines player)) places

-- who has told that it has given up this player
abbrev pub excluders_by : Received → List Bool → List Bool
excluders_by (received.Excluded from) excluders = slice_set excluders from true
excluders_by received excluders = excluders

-- one who is given up is told so, where its datagram came from, once a second at most
abbrev pub told_at : Address → ℕ → Exclusion → Exclusion
told_at from now e = if is_since 1000 now e.told then e else record { to = Some from; told = Some now }

abbrev pub exclusion_of : List Exclusion → ℕ → Exclusion
exclusion_of all player = slice_index_or all player (record { to = None; told = None })

abbrev pub exclusions_by : Received → Address → ℕ → List Exclusion → List Exclusion
exclusions_by (received.GivenUp player) from now all =
    slice_set all player (told_at from now (exclusion_of all player))
exclusions_by received from now all = all

-- what is noted of it, by what was known before it and after it. What is to be passed on takes the place of what was
-- not sent yet
abbrev pub noted : Received → Address → List ℕ → ℕ → (before after : Known) → Playing → Playing
noted received from bytes now before after p =
    record p {
      watch = watch_after received before after now p.watch;
      places = place_after (heard_of received) from now before after p.places;
      excluders = excluders_by received p.excluders;
      exclusions = exclusions_by received from now p.exclusions;
      passing = option_or (passed_on received from bytes (linked p.link) p.places) p.passing;
    }

-- bytes come from an address at a time
abbrev pub HearsBytes : Address → List ℕ → ℕ → Playing → Playing → Type 0
HearsBytes from bytes now old new =
    (received : Received) × Takes bytes old.link new.link received
    × (new ≡ noted received from bytes now (known_by old.link) (known_by new.link) (record old { link = new.link }))

-- Ticks.

-- its player gives commands
abbrev pub is_giving : Progress → Bool
is_giving progress.Playing = true
is_giving progress = false

-- a datagram is owed to each for whom the line is not too full at this tick
abbrev pub owed_now : Link → List Bool
owed_now link = map (λ player. not (is_resting (linked link) (pace_of link) player)) four

abbrev pub owes_nobody : List Bool
owes_nobody = replicate 4 false

-- the window was full at the last tick: the datagrams of the tick wait for the command of its input
abbrev pub is_held : Link → Bool
is_held link = is_some (pace_of link).owed

abbrev pub owed_at : Link → List Bool
owed_at link = if is_held link then owes_nobody else owed_now link

-- a tick goes by for the link
abbrev pub Leans : Link → Link → ℤ → Type 0
Leans old new by =
    KeepsGame old new × (linked new ≡ linked old) × (pace_of new ≡ after_tick (linked old) (pace_of old))
    × (by ≡ lean (linked old) (pace_of old))

-- the player so many places behind one, around
abbrev pub from_turn : (turn place : ℕ) → ℕ
from_turn turn place = (turn + place) % 4

-- the tick that is due goes by: datagrams are owed, it is the next one's turn, and the next tic may be run
abbrev pub PassesTick : Playing → Playing → Type 0
PassesTick old new =
    (by : ℤ) × Leans old.link new.link by
    × (new ≡ record old {
      link = new.link;
      ticks = passed by old.ticks;
      owed = owed_at new.link;
      turn = from_turn old.turn 1;
      steady = ticked old.steady;
    })

-- the input of a tick is built, and what was owed before is dropped
abbrev pub Builds : Input → Link → Link → Made → Type 0
Builds input old new made =
    KeepsGame old new
    × (Steps (linked old).node (linked new).node (λ limits me m. on_build limits me m input)
    (λ answer. made ≡ answer) × (pace_of new ≡ after_input input made (pace_of old)))
    × ((linked new).others ≡ (linked old).others) × ((linked new).peers ≡ (linked old).peers)

-- its player gives the input of a tick: one is due while it plays, or nothing changes
abbrev pub may_give : ℕ → Playing → Bool
may_give now p = is_giving p.progress && is_due now p.ticks

abbrev pub GivesWhen : Bool → ℕ → Input → Playing → Playing → Type 0
GivesWhen false now input old new = new ≡ old
GivesWhen true now input old new =
    (mid : Link) × (made : Made) × Builds input old.link mid made
    × PassesTick (record old { link = mid; ticks = resumed now old.ticks }) new

-- Tics.

-- a command that was owed is built, where there is room for it now
abbrev pub CatchesUp : Link → Link → Option Made → Type 0
CatchesUp old new result =
    KeepsGame old new × ((linked new).others ≡ (linked old).others) × ((linked new).peers ≡ (linked old).peers)
    × ((pace_of old).owed ≡ None → (result ≡ None) × (linked new ≡ linked old) × (pace_of new ≡ pace_of old))
    × ((input : Input) → (pace_of old).owed ≡ Some input → (made : Made) × (result ≡ Some made)
    × Steps (linked old).node (linked new).node (λ limits me m. on_build limits me m input) (λ answer. made ≡ answer)
    × (pace_of new ≡ record (pace_of old) { owed = still_owed made (pace_of old).owed }))

abbrev pub is_made : Option Made → Bool
is_made (Some (Made.Made tic)) = true
is_made result = false

-- if one was built, datagrams are owed now
abbrev pub after_catching_up : Option Made → Playing → Playing
after_catching_up made p = if is_made made then record p { owed = owed_now p.link } else p

-- a tic is run, or not
abbrev pub RunsTic : List ℤ → Link → Link → Ran → Option (List (Option Move)) → Type 0
RunsTic marks old new ran row =
    KeepsGame old new × RunsBut marks (linked old) (linked new) (λ answer told. (ran ≡ answer) × (row ≡ told))
    × ((linked new).others ≡ (linked old).others) × ((linked new).peers ≡ (linked old).peers)
    × (pace_of new ≡ pace_of old)

-- the row of the next tic, where its demo is full: the tic is not run
abbrev pub WritesRow : List (Option Move) → Playing → Type 0
WritesRow row p = Tells (linked p.link).node (λ limits me m. row ≡ row_held limits m)

-- while its player plays, the next tic should wait for the next tick
abbrev pub holds_back : Playing → Bool
holds_back p = is_giving p.progress && holds (has_row_behind (linked p.link)) p.steady

-- a tic was run, or none could be
abbrev pub after_answer : Ran → Steady → Steady
after_answer (answer.Ran tic) steady = after_tic steady
after_answer result steady = steady

-- the next tic is run with the marks of the world, and then the command is built that is owed
abbrev pub RunsNext : List ℤ → Playing → Playing → Ran → Option (List (Option Move)) → Type 0
RunsNext marks old new ran row =
    (mid : Link) × (made : Option Made) × RunsTic marks old.link mid ran row × CatchesUp mid new.link made
    × (new ≡ after_catching_up made (record old { link = new.link; steady = after_answer ran old.steady }))

-- Time.

-- it looks who is awaited
abbrev pub looks : ℕ → Playing → Playing
looks now p =
    record p {
      watch = looked_at now (linked p.link).node.ran (map (has_given_up (linked p.link)) four)
          (is_any_awaited (linked p.link)) p.watch;
    }

-- a player is given up, if any is
abbrev pub GivesUpNow : Option ℕ → Playing → Playing → Type 0
GivesUpNow None old new = new ≡ old
GivesUpNow (Some player) old new =
    ((answer : GivenUp) × GivesUpPeer player (linked old.link) (linked new.link) answer)
    × KeepsGame old.link new.link × (pace_of new.link ≡ pace_of old.link)
    × (new ≡ record old { link = new.link })

-- its player leaves the game, as far as it has not ended
abbrev pub LeavesGame : Link → Link → Type 0
LeavesGame old new =
    KeepsGame old new × (pace_of new ≡ pace_of old)
    × ((quit : Bool) × Steps (linked old).node (linked new).node (λ limits me m. on_quit m) (λ answer. quit ≡ answer))
    × ((linked new).others ≡ (linked old).others) × ((linked new).peers ≡ (linked old).peers)

-- the game ends for it, if it does
abbrev pub EndsNow : Option Ending → ℕ → Playing → Playing → Type 0
EndsNow None now old new = new ≡ old
EndsNow (Some end) now old new =
    LeavesGame old.link new.link × (new ≡ record old { link = new.link; progress = ended_by end now })

-- a tick of one who leaves
abbrev pub TicksWhen : Bool → ℕ → Playing → Playing → Type 0
TicksWhen false now old new = new ≡ old
TicksWhen true now old new = PassesTick (record old { ticks = resumed now old.ticks }) new

-- whose game does not end gives up whom it must
abbrev pub PlaysOn : Option Ending → ℕ → Playing → Playing → Type 0
PlaysOn (Some end) now old new = EndsNow (Some end) now old new
PlaysOn None now old new = GivesUpNow (due (patience old.policy) (view now old)) old new

-- what a part does as time goes, by how far it is: one that plays looks, and ends or plays on; one that leaves looks,
-- does its ticks by itself, and waits
abbrev pub PassesTime : Progress → ℕ → Playing → Playing → Type 0
PassesTime progress.Playing now old new =
    PlaysOn (ending_of old.policy (view now (looks now old)) (linked old.link)) now (looks now old) new
PassesTime (progress.Leaving end since free) now old new =
    (mid : Playing) × TicksWhen (is_due now old.ticks) now (looks now old) mid
    × (new ≡ record mid { progress = waits (is_unneeded end (linked mid.link)) end since free now })
PassesTime (progress.Over end) now old new = new ≡ old

-- half a tick later those that were held are owed without the command, or a second one to those who miss some
abbrev pub owes_second : Link → ℕ → Bool
owes_second link player =
    if is_held link
    then not (is_resting (linked link) (pace_of link) player)
    else wants_second (linked link) (pace_of link) player

abbrev pub owed_second : Playing → List Bool
owed_second p = map (λ player. slice_index_or p.owed player false || owes_second p.link player) four

abbrev pub after_half : ℕ → Playing → Playing
after_half now p =
    if has_come now p.ticks.half
    then record p { ticks = half_taken now p.ticks; owed = owed_second p } else p

abbrev pub Polls : ℕ → Playing → Playing → Type 0
Polls now old new = (mid : Playing) × PassesTime old.progress now old mid × (new ≡ after_half now mid)

-- What its player decides.

-- it leaves, if it plays
abbrev pub QuitsBy : ℕ → Playing → Playing → Type 0
QuitsBy now old new = EndsNow (if is_giving old.progress then Some ending.Left else None) now old new

-- it looks, and gives up another, if it may
abbrev pub given_up_at : ℕ → ℕ → Playing → Option ℕ
given_up_at now player p =
    if is_giving p.progress && may_give_up (view now (looks now p)) player then Some player else None

abbrev pub GivesUpBy : ℕ → ℕ → Playing → Playing → Type 0
GivesUpBy now player old new = GivesUpNow (given_up_at now player old) (looks now old) new
