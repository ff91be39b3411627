-- Why a line of a script is no event, and which was meant.
use Rattle.std.specs.Prelude.{ℕ, ◌==◌, ◌&&◌, ◌||◌, Bool, false, List, [], ◌∷◌, ◌++◌, codes, drop, map, Option, Some, None, if◌then◌else◌}
use Rattle.std.specs.Str.{bytes_eq}
use Rattle.dn_inspect.specs.declared.scripts.TheConstants.{EVENTS}

abbrev pub Text : Type 0
Text = List ℕ

-- a word is a name whose first two letters are swapped
abbrev pub is_swapped : (word name : Text) → Bool
is_swapped (a ∷ b ∷ word) (c ∷ d ∷ name) = (a == d) && ((b == c) && bytes_eq word name)
is_swapped word name = false

-- a word is a name with one letter more, less or other in front, or two swapped there
abbrev pub is_one_off : (word name : Text) → Bool
is_one_off word name =
    bytes_eq (drop 1 word) name
    || (bytes_eq word (drop 1 name)
    || (bytes_eq (drop 1 word) (drop 1 name) || is_swapped word name))

-- the same behind the letters in front that they share
abbrev pub is_near : (word name : Text) → Bool
is_near [] name = is_one_off [] name
is_near (a ∷ word) [] = is_one_off (a ∷ word) []
is_near (a ∷ word) (b ∷ name) =
    if a == b then is_near word name else is_one_off (a ∷ word) (b ∷ name)

-- how the line of an event is written
abbrev pub form_of : List (Text × Text) → Text → Option Text
form_of [] word = None
form_of (row ∷ rows) word = if bytes_eq row.0 word then Some row.1 else form_of rows word

-- the first event that a word may have meant
abbrev pub meant : List (Text × Text) → Text → Option Text
meant [] word = None
meant (row ∷ rows) word = if is_near word row.0 then Some row.0 else meant rows word

-- the events, and how each is written
abbrev pub events : List (Text × Text)
events = map (λ row. (row.0.now, row.1.now)) EVENTS

-- which event may have been meant, if any
abbrev pub guess : Option Text → Text
guess None = []
guess (Some name) = codes "; did you mean " ++ name

-- that there is no such event
abbrev pub stranger : Text → Text
stranger word = (codes "'" ++ (word ++ codes "': no such event")) ++ guess (meant events word)

-- how the event of this word is written, or else what is said of a stranger
abbrev pub form_or : Option Text → Text → Text
form_or (Some form) others = form
form_or None others = others

-- why a line that begins with this word is no event
abbrev pub why : Text → Text
why word = form_or (form_of events word) (stranger word)
