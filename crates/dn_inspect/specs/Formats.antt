-- What a file is, by the bytes that it begins with.
use Rattle.std.specs.Prelude.{ℕ, ◌==◌, ◌&&◌, nat_le, nat_lt, Bool, List, [], ◌∷◌, length, map, slice_index, Option, Some, None, if◌then◌else◌}
use Rattle.std.specs.List.{starts_with}
use Rattle.std.specs.Option.{option_or}
use Rattle.dn_inspect.specs.declared.formats.TheConstants.{SIGNATURES, VERSIONS, UNVERSIONED}

abbrev pub Text : Type 0
Text = List ℕ

-- what a file is that begins with these bytes: the name in the first row whose bytes it begins with
abbrev pub begun : List (Text × Text) → Text → Option Text
begun [] bytes = None
begun (row ∷ rows) bytes =
    if starts_with (λ a b. a == b) bytes row.0 then Some row.1 else begun rows bytes

-- a demo from Doom 1.4 on begins with its version and the skill, from 0 to 4
abbrev pub has_skill : Text → Bool
has_skill bytes = nat_lt 1 (length bytes) && nat_le (slice_index bytes 1) 4

-- one without a version begins with the skill, the episode and the map
abbrev pub is_unversioned : Text → Bool
is_unversioned bytes =
    nat_lt 2 (length bytes) && (nat_le (slice_index bytes 0) 4
    && (nat_le 1 (slice_index bytes 1) && (nat_le (slice_index bytes 1) 6
    && (nat_le 1 (slice_index bytes 2) && nat_le (slice_index bytes 2) 60))))

-- what a file is by its version
abbrev pub unsigned : Text → Option Text
unsigned bytes =
    if has_skill bytes then begun (map (λ row. (row.0.now, row.1.now)) VERSIONS) bytes else None

-- what a demo without a version is
abbrev pub unversioned : Text → Option Text
unversioned bytes = if is_unversioned bytes then Some UNVERSIONED.now else None

-- what a file is: by its signature, or else by its version, or else with none
unfoldable pub format_of : Text → Option Text
format_of bytes =
    option_or (option_or (begun (map (λ row. (row.0.now, row.1.now)) SIGNATURES) bytes) (unsigned bytes))
    (unversioned bytes)
