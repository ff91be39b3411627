-- The text of a key.
use Rattle.std.specs.Prelude.{◌≡◌, ℕ, ◌-◌, ◌==◌, ◌&&◌, nat_lt, Bool, if◌then◌else◌, List, [], ◌∷◌, ◌++◌, length, take, slice_index, Result, Ok, Err}
use Rattle.std.specs.List.{list_all}
use Rattle.hex.specs.Hex.{encode_lower, decode_sized}
use Rattle.hex.specs.declared.error.FromHexError.{FromHexError}
use Rattle.zirmegat.specs.declared.fault.Fault.{Fault}
use Rattle.zirmegat.specs.Faults.{fault_code}

-- the digits of a key in lower case, and a line end
abbrev pub key_text : List ℕ → List ℕ
key_text key = encode_lower key ++ 10 ∷ []

abbrev pub is_zeros : List ℕ → Bool
is_zeros key = list_all (λ byte. byte == 0) key

-- a key that is not all zeros
abbrev pub filled : Result (List ℕ) FromHexError → Result (List ℕ) Fault
filled (Ok key) = if is_zeros key then Err Fault.Key else Ok key
filled (Err fault) = Err Fault.Text

-- the 32 bytes of 64 digits of either case
abbrev pub key_of_digits : List ℕ → Result (List ℕ) Fault
key_of_digits digits = filled (decode_sized digits 32)

-- the key of digits and a line end
abbrev pub key_read : List ℕ → Result (List ℕ) Fault
key_read text =
    if nat_lt 0 (length text) && (slice_index text (length text - 1) == 10)
    then key_of_digits (take (length text - 1) text)
    else Err Fault.Text

-- the key is written; or it stays, and why is told
abbrev pub IsKeyRead : Result (List ℕ) Fault → List ℕ → List ℕ → ℕ → Type 0
IsKeyRead (Ok key) old new code = (code ≡ 0) × (new ≡ key)
IsKeyRead (Err fault) old new code = (code ≡ fault_code fault) × (new ≡ old)
