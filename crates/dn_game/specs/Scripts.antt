-- Scripts: their words and lines, what a text is read as, and how events are written.
use Rattle.std.specs.Prelude.{◌≡◌, ◌≤◌, ◌<◌, ◌⊎◌, ◌↔◌, ℕ, ◌^◌, ◌==◌, List, length, slice_index, Option, position, IsTrue, All, Contains, codes, false, [], ◌++◌, Some, None, ◌+◌, ◌∷◌, Result, Ok, Err, Bool, if◌then◌else◌, flat_map, filter}
use Rattle.std.specs.Str.Parse.{AllDigits, digits_value}
use Rattle.std.specs.List.{slice_split}
use Rattle.std.specs.declared.alloc.Global.{Global}
use Rattle.std.specs.declared.vec.Vec.{Vec}
use Rattle.std.specs.Fmt.{decimal, signed_decimal}
use Rattle.std.specs.Int.{bit_at}
use Rattle.dn_tic.specs.declared.keys.Key.{Key}
use Rattle.dn_tic.specs.Pressed.{place_of, is_down}
use Rattle.dn_tic.specs.declared.input.Command.{Command}
use Rattle.dn_machine.specs.declared.events.Event.{Event}
use Rattle.dn_machine.specs.declared.events.Event.TheVariants.{Build, Give, Send, Deliver, Run, Quit, Stop}
use Rattle.dn_game.specs.declared.script.reading.ScriptFault.{ScriptFault}
use Rattle.dn_game.specs.declared.script.reading.ScriptFault.TheVariants.{TooLong, Line, Memory}

-- The words of lines: numbers, and the keys of a build.

-- a word is a number: one to nine decimal digits
pub record IsNumber (word : List ℕ) (number : ℕ) : Type 0 where
  pub some : 1 ≤ length word
  pub few : length word ≤ 9
  pub digits : AllDigits 10 word
  pub value : number ≡ digits_value 10 word

-- the letters of the keys, in the order of their bits: forward, back, left, right, strafe left, strafe right,
-- strafe, speed, attack, use, and the weapons 1 to 8
abbrev pub letters : List ℕ
letters = codes "fblradtsxu12345678"

-- the letter of a key
abbrev pub letter_of : Key → ℕ
letter_of key = slice_index letters (place_of key)

-- the bit of a letter's key, if the byte is a letter of one
abbrev pub place_in_letters : ℕ → Option ℕ
place_in_letters byte = position (λ letter. letter == byte) letters

-- one or more letters of keys: the keys that are down are those whose letters are there
pub record AreLetters (word : List ℕ) (keys : ℕ) : Type 0 where
  pub some : 1 ≤ length word
  pub known : All (Contains letters) word
  pub small : keys < 2 ^ 18
  pub down : (key : Key) → IsTrue (is_down keys key) ↔ Contains word (letter_of key)

-- a word is a set of keys: no key, or the letters of keys
abbrev pub AreKeys : List ℕ → ℕ → Type 0
AreKeys word keys = ((word ≡ codes "-") × (keys ≡ 0)) ⊎ AreLetters word keys

-- The lines.

-- the lines of a text, without their line feeds. What follows the last line feed counts as a line too: where
-- it is empty it is skipped, like every empty line.
abbrev pub lines : List ℕ → List (List ℕ)
lines text = slice_split (λ byte. byte == 10) text

-- an empty line, or one that begins with #
abbrev pub IsSkipped : List ℕ → Type 0
IsSkipped line = (line ≡ []) ⊎ ((rest : List ℕ) × (line ≡ codes "#" ++ rest))

-- the lines of events, by the words for their numbers and keys
abbrev pub build_line : (node keys : List ℕ) → List ℕ
build_line node keys = codes "build " ++ node ++ codes " " ++ keys

abbrev pub send_line : (node to : List ℕ) → List ℕ
send_line node to = codes "send " ++ node ++ codes " " ++ to

abbrev pub deliver_line : List ℕ → List ℕ
deliver_line flight = codes "deliver " ++ flight

abbrev pub run_line : List ℕ → List ℕ
run_line node = codes "run " ++ node

abbrev pub quit_line : List ℕ → List ℕ
quit_line node = codes "quit " ++ node

abbrev pub stop_line : List ℕ → List ℕ
stop_line node = codes "stop " ++ node

-- the line of an event; a command that is given has none
abbrev pub IsLineOf : Event → List ℕ → Type 0
IsLineOf (Build node keys) line =
    (n : List ℕ) × (k : List ℕ) × IsNumber n node × AreKeys k keys × (line ≡ build_line n k)
IsLineOf (Give node command) line = ⊥
IsLineOf (Send node to) line =
    (n : List ℕ) × (m : List ℕ) × IsNumber n node × IsNumber m to × (line ≡ send_line n m)
IsLineOf (Deliver flight) line = (n : List ℕ) × IsNumber n flight × (line ≡ deliver_line n)
IsLineOf (Run node) line = (n : List ℕ) × IsNumber n node × (line ≡ run_line n)
IsLineOf (Quit node) line = (n : List ℕ) × IsNumber n node × (line ≡ quit_line n)
IsLineOf (Stop node) line = (n : List ℕ) × IsNumber n node × (line ≡ stop_line n)

-- the event of a line, or none where it is that of no event
abbrev pub IsEventOf : List ℕ → Option Event → Type 0
IsEventOf line (Some event) = IsLineOf event line
IsEventOf line None = (event : Event) → ¬ IsLineOf event line

-- neither skipped nor the line of an event
abbrev pub IsBad : List ℕ → Type 0
IsBad line = (¬ IsSkipped line) × IsEventOf line None

-- a text without a space
abbrev pub HasNoSpace : List ℕ → Type 0
HasNoSpace text = All (λ byte. (byte == 32) ≡ false) text

-- What a text is read as: a script's events, or its first fault.

-- how many bytes a script may have
abbrev pub size_limit : ℕ
size_limit = 1048576

-- the events of lines, in order: a skipped line has none, and every other line is that of an event
pub data AreEventsOf : List (List ℕ) → List Event → Type 0 where
  none : AreEventsOf [] []
  skipped : {line : List ℕ} {more : List (List ℕ)} {events : List Event} → IsSkipped line
      → AreEventsOf more events
      → AreEventsOf (line ∷ more) events
  told : {line : List ℕ} {more : List (List ℕ)} {event : Event} {events : List Event} → IsLineOf event line
      → AreEventsOf more events
      → AreEventsOf (line ∷ more) (event ∷ events)

-- the line stands behind `count` lines, none of which is bad
pub record StandsBehind (all : List (List ℕ)) (line : List ℕ) (count : ℕ) : Type 0 where
  pub before : List (List ℕ)
  pub after : List (List ℕ)
  pub whole : all ≡ before ++ line ∷ after
  pub counted : length before ≡ count
  pub events : List Event
  pub good : AreEventsOf before events

-- What a text is read as: the events of its lines, or the first fault that it has, where lines are counted
-- from 1. Memory can be refused only for the line of an event, behind lines none of which is bad.
abbrev pub IsReadAs : List ℕ → Result (List Event) ScriptFault → Type 0
IsReadAs text (Ok events) = (length text ≤ size_limit) × AreEventsOf (lines text) events
IsReadAs text (Err TooLong) = size_limit < length text
IsReadAs text (Err (Line number)) =
    (length text ≤ size_limit)
    × ((line : List ℕ) × (count : ℕ) × StandsBehind (lines text) line count × IsBad line
    × (number ≡ count + 1))
IsReadAs text (Err Memory) =
    (length text ≤ size_limit)
    × ((line : List ℕ) × (count : ℕ) × (event : Event) × StandsBehind (lines text) line count
    × IsLineOf event line)

-- two readings are the same, but that one may be refused for `Memory`
abbrev pub IsSameButMemory : Result (List Event) ScriptFault → Result (List Event) ScriptFault → Type 0
IsSameButMemory one other = (one ≡ other) ⊎ (one ≡ Err Memory) ⊎ (other ≡ Err Memory)

-- what a call answers, with its events as a list
abbrev pub answered : Result (Vec Event Global) ScriptFault → Result (List Event) ScriptFault
answered (Ok events) = Ok events.items
answered (Err fault) = Err fault

-- How events are written.

-- whether the key at a place is down
abbrev pub is_down_at : ℕ → Option ℕ → Bool
is_down_at keys None = false
is_down_at keys (Some place) = bit_at keys place == 1

-- the letters of the keys that are down, in the order of their bits
abbrev pub letters_down : ℕ → List ℕ → List ℕ
letters_down keys among = filter (λ letter. is_down_at keys (place_in_letters letter)) among

-- the word for keys
abbrev pub keys_word : ℕ → List ℕ
keys_word keys = if keys == 0 then codes "-" else letters_down keys letters

-- a given command, by its node and each of its fields; a script has no such line, and only printed events do
unfoldable pub give_words : ℕ → Command → List ℕ
give_words node command =
    codes "give " ++ decimal node ++ codes " forward " ++ signed_decimal command.forward ++ codes " side "
    ++ signed_decimal command.side ++ codes " turn " ++ signed_decimal command.turn ++ codes " chat "
    ++ decimal command.chat ++ codes " buttons " ++ decimal command.buttons

-- an event in the words of a script, or in those of a given command
abbrev pub event_words : Event → List ℕ
event_words (Build node keys) = build_line (decimal node) (keys_word keys)
event_words (Give node command) = give_words node command
event_words (Send node to) = send_line (decimal node) (decimal to)
event_words (Deliver flight) = deliver_line (decimal flight)
event_words (Run node) = run_line (decimal node)
event_words (Quit node) = quit_line (decimal node)
event_words (Stop node) = stop_line (decimal node)

-- its line, with the line feed
abbrev pub event_line : Event → List ℕ
event_line event = event_words event ++ codes "\n"

-- the script of events: the line of each
abbrev pub script_text : List Event → List ℕ
script_text events = flat_map event_line events

-- a number that a script can have
abbrev pub IsScriptNumber : ℕ → Type 0
IsScriptNumber number = number < 10 ^ 9

-- an event that has a line: it gives no command, and a script can have its numbers
abbrev pub HasScriptLine : Event → Type 0
HasScriptLine (Build node keys) = IsScriptNumber node × (keys < 2 ^ 18)
HasScriptLine (Give node command) = ⊥
HasScriptLine (Send node to) = IsScriptNumber node × IsScriptNumber to
HasScriptLine (Deliver flight) = IsScriptNumber flight
HasScriptLine (Run node) = IsScriptNumber node
HasScriptLine (Quit node) = IsScriptNumber node
HasScriptLine (Stop node) = IsScriptNumber node
