-- A WAD: a header, lumps, and a directory with an entry for each lump (w_wad.c, W_AddFile).
use Rattle.std.specs.Prelude.{ℕ, ◌==◌, ◌||◌, ◌&&◌, nat_le, Bool, List, length, codes, take, drop, Option, Some, None, unwrap_or, position, if◌then◌else◌}
use Rattle.byteorder.specs.Endian.{little_number}
use Rattle.std.specs.List.{starts_with}
use Rattle.std.specs.Str.{str_eq_ignore_ascii_case}
use Rattle.dn_inspect.specs.declared.wad.Directory.{Directory}
use Rattle.dn_inspect.specs.declared.wad.Lump.{Lump}

-- the number of four bytes at a place, the low byte first
abbrev pub number_at : ℕ → List ℕ → ℕ
number_at place bytes = little_number 4 (take 4 (drop place bytes))

-- a WAD of a game, or of additions to one
abbrev pub is_wad : List ℕ → Bool
is_wad bytes =
    starts_with (λ a b. a == b) bytes (codes "IWAD") || starts_with (λ a b. a == b) bytes (codes "PWAD")

-- the directory that a header tells
abbrev pub directory_of : List ℕ → Option Directory
directory_of header =
    if is_wad header
    then Some (record { count = number_at 4 header; place = number_at 8 header })
    else None

-- the lump that an entry tells
abbrev pub lump_of : List ℕ → Lump
lump_of entry =
    record { place = number_at 0 entry; size = number_at 4 entry; name = take 8 (drop 8 entry) }

-- the name is padded with zeros
abbrev pub trimmed : List ℕ → List ℕ
trimmed name = take (unwrap_or (position (λ byte. byte == 0) name) 8) name

-- a name begins with these bytes, in letters of either case
abbrev pub begins : List ℕ → List ℕ → Bool
begins front name =
    nat_le (length front) (length name) && str_eq_ignore_ascii_case (take (length front) name) front
