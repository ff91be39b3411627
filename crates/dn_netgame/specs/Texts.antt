-- The lines that the program prints of a packet, a demo, a row, a node, a game and an event, and the bad line of a
-- script; answers in words.
use Rattle.std.specs.Prelude.{ℕ, pos, ◌+◌, List, [], ◌∷◌, ◌++◌, length, codes, Result, Ok, Err, ℤ, Bool, true, false, Option, Some, None, if◌then◌else◌, map, slice_index_or}
use Rattle.dn_tic.specs.declared.command.TicCmd.{TicCmd}
use Rattle.dn_packet.specs.declared.packet.Packet.{Packet}
use Rattle.dn_packet.specs.declared.packet.PacketFault.{PacketFault}
use Rattle.dn_packet.specs.declared.packet.PacketFault.TheVariants.{Short, Many, Length, Sum}
use Rattle.dn_measure.specs.Fields.{labelled}
use Rattle.std.specs.List.{flat_map, range_with_len}
use Rattle.dn_setup.specs.declared.settings.Start.{Start}
use Rattle.dn_world.specs.declared.spot.Spot.{Spot}
use Rattle.dn_world.specs.Plane.{Spots, spot_at, mark_of, walking}
use Rattle.dn_demo.specs.Reading.{Recording, state_after}
use Rattle.dn_demo.specs.declared.fed.Fed.{Fed}
use Rattle.dn_tic.specs.declared.command.Move.{Move}
use Rattle.dn_ring.specs.Ring.{Ring}
use Rattle.dn_machine.specs.declared.answers.Cause.TheVariants.{Quit, Full, Inconsistent}
use Rattle.dn_machine.specs.declared.answers.Phase.{Phase}
use Rattle.dn_machine.specs.declared.answers.Phase.TheVariants.{Listening, Gathering, Playing, Ended}
use Rattle.dn_node.specs.Contents.{Contents}
use Rattle.dn_lockstep.specs.Tables.{count_of}
use Rattle.dn_node.specs.declared.node.Node.{Node}
use Rattle.dn_node.specs.Contents as node
use Rattle.dn_game.specs.declared.played.Played.{Played}
use Rattle.dn_game.specs.Contents.{contents}
use Rattle.dn_machine.specs.declared.answers.Made.{Made}
use Rattle.dn_machine.specs.declared.answers.Heard.{Heard}
use Rattle.dn_machine.specs.declared.answers.Ran.{Ran}
use Rattle.dn_machine.specs.declared.events.Done.{Done}
use Rattle.dn_machine.specs.declared.events.Refusal.{Refusal}
use Rattle.dn_machine.specs.Drops.{drop_word}
use Rattle.dn_machine.specs.declared.events.Event.{Event}
use Rattle.dn_game.specs.Scripts.{event_words}

-- the line of a packet's fields
unfoldable pub packet_line : Packet → List ℕ
packet_line p = labelled (
    (codes "flags ", pos p.flags)
    ∷ (codes " ask ", pos p.ask)
    ∷ (codes " start ", pos p.start)
    ∷ (codes " player ", pos p.player)
    ∷ (codes " count ", pos (length p.cmds.items))
    ∷ []) ++ codes "\n"

-- the line of the command at this place of its packet
unfoldable pub command_line : ℕ → TicCmd → List ℕ
command_line index c = labelled (
    (codes "cmd ", pos index)
    ∷ (codes " forward ", c.forward)
    ∷ (codes " side ", c.side)
    ∷ (codes " turn ", c.turn)
    ∷ (codes " mark ", c.mark)
    ∷ (codes " chat ", pos c.chat)
    ∷ (codes " buttons ", pos c.buttons)
    ∷ []) ++ codes "\n"

-- the lines of commands, the first of which has this place
abbrev pub command_lines : ℕ → List TicCmd → List ℕ
command_lines index [] = []
command_lines index (c ∷ cs) = command_line index c ++ command_lines (index + 1) cs

-- the number of what is wrong with bytes that are no packet, and a word for it
abbrev pub fault_words : PacketFault → List ℕ
fault_words Short = codes "1 short\n"
fault_words Many = codes "2 many\n"
fault_words Length = codes "3 length\n"
fault_words Sum = codes "4 sum\n"

-- the line of bytes that are no packet
abbrev pub fault_line : PacketFault → List ℕ
fault_line fault = codes "dropped " ++ fault_words fault

-- the lines of what a datagram is read as
abbrev pub lines_of : Result Packet PacketFault → List ℕ
lines_of (Ok p) = packet_line p ++ command_lines 0 p.cmds.items
lines_of (Err f) = fault_line f

-- the numbers of the players who are present, from this player on
abbrev pub players_present : ℕ → List Bool → List (List ℕ × ℤ)
players_present player [] = []
players_present player (true ∷ seats) = (codes " ", pos player) ∷ players_present (player + 1) seats
players_present player (false ∷ seats) = players_present (player + 1) seats

-- what a demo's header has of the choice of game
unfoldable pub choice_fields : ℕ → Start → List ℕ
choice_fields version start = labelled (
    (codes "version ", pos version)
    ∷ (codes " skill ", pos start.skill)
    ∷ (codes " episode ", pos start.episode)
    ∷ (codes " map ", pos start.map)
    ∷ [])

-- what it has of the rules, and whose view it shows
unfoldable pub rule_fields : Start → ℕ → List ℕ
rule_fields start view = labelled (
    (codes " deathmatch ", pos start.deathmatch)
    ∷ (codes " respawn ", pos start.respawn)
    ∷ (codes " fast ", pos start.fast)
    ∷ (codes " nomonsters ", pos start.no_monsters)
    ∷ (codes " view ", pos view)
    ∷ [])

-- all that it has but for its players
unfoldable pub header_fields : ℕ → Start → ℕ → List ℕ
header_fields version start view = choice_fields version start ++ rule_fields start view

-- the line of a demo's header
abbrev pub header_line : ℕ → Start → ℕ → List Bool → List ℕ
header_line version start view present =
    header_fields version start
    view ++ (codes " players" ++ (labelled (players_present 0 present) ++ codes "\n"))

-- the line of how much a demo has
unfoldable pub size_line : (tics cut after : ℕ) → List ℕ
size_line tics cut after = labelled (
    (codes "tics ", pos tics)
    ∷ (codes " cut ", pos cut)
    ∷ (codes " after ", pos after)
    ∷ []) ++ codes "\n"

-- the line of a player
unfoldable pub player_line : ℕ → (x y : ℤ) (angle : ℕ) (mark : ℤ) → List ℕ
player_line player x y angle mark = labelled (
    (codes "player ", pos player)
    ∷ (codes " x ", x)
    ∷ (codes " y ", y)
    ∷ (codes " angle ", pos angle)
    ∷ (codes " mark ", mark)
    ∷ []) ++ codes "\n"

-- the line of who is there, and nothing for another
abbrev pub seat_line : ℕ → Option Spot → List ℕ
seat_line player None = []
seat_line player (Some s) = player_line player s.x s.y s.angle (mark_of (Some s))

-- the lines of the four players
abbrev pub player_lines : Spots → List ℕ
player_lines spots = flat_map (λ player. seat_line player (spot_at spots player)) (0 ∷ 1 ∷ 2 ∷ 3 ∷ [])

-- the lines of a demo, with the players where they are once all of it was played
abbrev pub demo_lines : Recording → List ℕ
demo_lines d =
    header_line d.version d.start d.view d.present
    ++ (size_line (length d.rows) d.cut d.after ++ player_lines (state_after walking d))

-- the lines of a demo that was fed, and played as it came
abbrev pub fed_lines : Fed Spots → List ℕ
fed_lines d = header_line d.version d.start d.view d.present
    ++ (size_line d.tics d.cut d.after ++ player_lines d.world)

-- the line of a player's move in a tic
unfoldable pub move_line : (tic player : ℕ) → Move → List ℕ
move_line tic player m = labelled (
    (codes "tic ", pos tic)
    ∷ (codes " player ", pos player)
    ∷ (codes " forward ", m.forward)
    ∷ (codes " side ", m.side)
    ∷ (codes " turn ", m.turn)
    ∷ (codes " buttons ", pos m.buttons)
    ∷ []) ++ codes "\n"

-- the line of who has a move, and nothing for another
abbrev pub step_line : (tic player : ℕ) → Option Move → List ℕ
step_line tic player None = []
step_line tic player (Some m) = move_line tic player m

-- the lines of a row, from this player on, in the order of the players
abbrev pub row_lines : (tic player : ℕ) → List (Option Move) → List ℕ
row_lines tic player [] = []
row_lines tic player (step ∷ row) = step_line tic player step ++ row_lines tic (player + 1) row

-- the lines of rows, of which the first is of this tic
abbrev pub lines_of_rows : ℕ → List (List (Option Move)) → List ℕ
lines_of_rows tic [] = []
lines_of_rows tic (row ∷ rows) = row_lines tic 0 row ++ lines_of_rows (tic + 1) rows

-- where a node stands, in words
abbrev pub phase_text : Phase → List ℕ
phase_text Listening = codes "listening"
phase_text Gathering = codes "gathering"
phase_text Playing = codes "playing"
phase_text (Ended Quit) = codes "ended quit"
phase_text (Ended Full) = codes "ended full"
phase_text (Ended (Inconsistent player was should)) =
    labelled ((codes "ended inconsistent ", pos player) ∷ [])

-- how many commands a node has of each player, for this many players from this one on
abbrev pub counts_from : ℕ → ℕ → (ℕ → Ring) → List ℕ
counts_from player more rings =
    labelled (map (λ p. (codes " ", pos (count_of rings p))) (range_with_len player more))

-- how many commands a node has of each player
abbrev pub counts : ℕ → (ℕ → Ring) → List ℕ
counts players rings = counts_from 0 players rings

-- whose node it is, and where it stands
unfoldable pub standing : {W : Type 0} → Contents W → List ℕ
standing n = labelled ((codes "node ", pos n.me) ∷ []) ++ (codes " " ++ phase_text n.phase)

-- how many commands it made, how many tics it ran, and how many commands it has of each player
unfoldable pub progress : {W : Type 0} → Contents W → List ℕ
progress n =
    labelled ((codes " made ", pos (count_of n.rings n.me)) ∷ (codes " ran ", pos n.ran) ∷ [])
    ++ (codes " got" ++ counts n.players n.rings)

-- how many bytes its demo has
unfoldable pub demo_size : {W : Type 0} → Contents W → List ℕ
demo_size n = labelled ((codes " demo ", pos (length n.demo.bytes)) ∷ [])

-- the end of its line, which tells whether it has stopped
abbrev pub line_end : Bool → List ℕ
line_end stopped = if stopped then codes " stopped\n" else codes "\n"

-- the line of a node
unfoldable pub node_line : {W : Type 0} → Contents W → Bool → List ℕ
node_line n stopped = standing n ++ (progress n ++ (demo_size n ++ line_end stopped))

-- the lines of nodes, the first of which has this number
abbrev pub node_lines : {W : Type 0} → List Bool → ℕ → List (Node W) → List ℕ
node_lines stopped number [] = []
node_lines stopped number (n ∷ ns) =
    node_line (node.contents n) (slice_index_or stopped number false) ++ node_lines stopped (number + 1) ns

-- how many events were not refused, how many were refused, and how many packets were sent
unfoldable pub events_line : {W : Type 0} → Played W → List ℕ
events_line p = labelled (
    (codes "events ", pos p.done)
    ∷ (codes " refused ", pos p.refused)
    ∷ (codes " flights ", pos (length (contents p.game).flights))
    ∷ []) ++ codes "\n"

-- the lines of all nodes, and of the events
abbrev pub game_lines : {W : Type 0} → Played W → List ℕ
game_lines p = node_lines (contents p.game).stopped 0 (contents p.game).nodes ++ events_line p

-- the line of a script's bad line, counted from 1
unfoldable pub bad_line : ℕ → List ℕ
bad_line number = labelled ((codes "script: line ", pos number) ∷ []) ++ codes "\n"

-- what a build answers
abbrev pub made_words : Made → List ℕ
made_words (Made.Made tic) = labelled ((codes "built ", pos tic) ∷ [])
made_words Made.Full = codes "full"
made_words Made.NotPlaying = codes "not playing"

-- what a node answers to a packet
abbrev pub heard_words : Heard → List ℕ
heard_words Heard.Started = codes "started"
heard_words (Heard.Taken count) = labelled ((codes "taken ", pos count) ∷ [])
heard_words Heard.Stale = codes "stale"
heard_words Heard.Gap = codes "gap"
heard_words Heard.Left = codes "left"
heard_words Heard.Noted = codes "noted"
heard_words (Heard.Dropped number) = labelled ((codes "dropped ", pos number) ∷ []) ++ drop_word number

-- what a run answers
abbrev pub ran_words : Ran → List ℕ
ran_words (Ran.Ran tic) = labelled ((codes "ran ", pos tic) ∷ [])
ran_words (Ran.Waiting player) = labelled ((codes "waiting ", pos player) ∷ [])
ran_words Ran.DemoFull = codes "demo full"
ran_words (Ran.Inconsistent player was should) =
    labelled ((codes "inconsistent ", pos player) ∷ (codes " was ", was) ∷ (codes " should ", should) ∷ [])
ran_words Ran.NotPlaying = codes "not playing"

-- whether a node that quits had not ended before
abbrev pub quit_words : Bool → List ℕ
quit_words true = codes "quit"
quit_words false = codes "had ended"

-- what an event did
abbrev pub done_words : Done → List ℕ
done_words (Done.Built made) = made_words made
done_words (Done.Sent flight) = labelled ((codes "sent ", pos flight) ∷ [])
done_words Done.Silent = codes "silent"
done_words (Done.Heard heard) = heard_words heard
done_words (Done.Ran ran) = ran_words ran
done_words (Done.Quit first) = quit_words first
done_words Done.Stopped = codes "stopped"

-- why an event was refused
abbrev pub refused_words : Refusal → List ℕ
refused_words Refusal.NoNode = codes "refused 1 no node"
refused_words Refusal.NoPacket = codes "refused 2 no packet"
refused_words Refusal.Far = codes "refused 3 far"
refused_words Refusal.Stopped = codes "refused 4 stopped"
refused_words Refusal.Memory = codes "refused 5 no memory"

-- what is answered to an event
abbrev pub answer_words : Result Done Refusal → List ℕ
answer_words (Ok done) = done_words done
answer_words (Err refusal) = refused_words refusal

-- the line of an event: its number, the event in the words of a script, and its answer in words
unfoldable pub trace_line : ℕ → Event → Result Done Refusal → List ℕ
trace_line number event answer =
    labelled ((codes "event ", pos number) ∷ [])
    ++ (codes " " ++ (event_words event ++ (codes ": " ++ (answer_words answer ++ codes "\n"))))

-- the lines of events with their answers, of which the first has this number
abbrev pub trace_lines : ℕ → List Event → List (Result Done Refusal) → List ℕ
trace_lines number [] answers = []
trace_lines number (event ∷ events) [] = []
trace_lines number (event ∷ events) (answer ∷ answers) =
    trace_line number event answer ++ trace_lines (number + 1) events answers
