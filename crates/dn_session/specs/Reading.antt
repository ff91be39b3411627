-- What bytes are read as.
use Rattle.std.specs.{Prelude.{◌≡◌, ◌≢◌, ◌⊎◌, ℕ, ◌==◌, Bool, not, nat_lt, if◌then◌else◌, List, length, take, drop, slice_index, Option, Some, None, Result, Ok, Err}, Str.{bytes_eq}}
use Rattle.dn_seal.specs.{Hmac.suite_byte, Hmac.tag_of, Opening.told_body, Opening.told_tag, declared.seal.Seal.Seal}
use Rattle.dn_session.specs.{Sorts.Sort, Sorts.calls, Sorts.refusals, Sorts.seatings, Text.IsHinted, Text.greeting_bytes, Text.hinted_bytes, Text.kind_bytes, declared.greeting.GreetingFault.TheVariants.{Form, Kind, Length, Short, Suite, Tag, Version, What}, declared.{greeting.Call.Call, greeting.GreetingFault.GreetingFault, greeting.Hinted.Hinted, greeting.Refused.Refused, greeting.Seating.Seating}}

-- what fits and has these bytes, or the first fault that they have. Form is the last: they have no other, and nothing
-- that fits has them
abbrev pub IsReadAs : {T : Type 0} → (T → Type 0) → (T → List ℕ) → Option GreetingFault → List ℕ
    → Result T GreetingFault → Type 0
IsReadAs Is text first bytes (Ok read) = Is read × (bytes ≡ text read)
IsReadAs {T} Is text first bytes (Err fault) =
    (first ≡ Some fault) ⊎ ((fault ≡ Form) × (first ≡ None) × ((read : T) → Is read → bytes ≢ text read))

-- bytes have the kind and the name of greetings
abbrev pub is_greeting : List ℕ → Bool
is_greeting bytes = bytes_eq (take 9 (drop 1 bytes)) kind_bytes

-- the first fault of bytes where a greeting with a tag, of this kind and size, is expected. None, where only what
-- stands under the tag may be one
unfoldable pub first_fault : Seal → ℕ → ℕ → List ℕ → Option GreetingFault
first_fault seal what size bytes =
    if nat_lt (length bytes) 29 then Some Short else (
    if not (is_greeting bytes) then Some Kind else (
    if not (slice_index bytes 11 == what) then Some What else (
    if not (slice_index bytes 10 == 2) then Some Version else (
    if not (length bytes == size) then Some Length else (
    if not (slice_index bytes 0 == suite_byte seal.suite) then Some Suite else (
    if not (bytes_eq (told_tag bytes) (tag_of seal.key (told_body bytes))) then Some Tag else None))))))

-- a greeting of this sort. Form is then that none stands under the tag, which a holder of the key alone can cause
abbrev pub IsGreetingIn : {T : Type 0} → Sort T → Seal → List ℕ → Result T GreetingFault → Type 0
IsGreetingIn sort seal bytes =
    IsReadAs sort.Is (λ greeting. greeting_bytes seal sort.what (sort.rest greeting))
    (first_fault seal sort.what sort.size bytes) bytes

abbrev pub IsCallIn : Seal → List ℕ → Result Call GreetingFault → Type 0
IsCallIn = IsGreetingIn calls

abbrev pub IsSeatingIn : Seal → List ℕ → Result Seating GreetingFault → Type 0
IsSeatingIn = IsGreetingIn seatings

abbrev pub IsRefusedIn : Seal → List ℕ → Result Refused GreetingFault → Type 0
IsRefusedIn = IsGreetingIn refusals

-- the first fault of bytes where a hint is expected
unfoldable pub hint_fault : List ℕ → Option GreetingFault
hint_fault bytes =
    if nat_lt (length bytes) 29 then Some Short else (
    if not (is_greeting bytes) then Some Kind else (
    if not (slice_index bytes 11 == 4) then Some What else (
    if not (length bytes == 29) then Some Length else None)))

abbrev pub IsHintedIn : List ℕ → Result Hinted GreetingFault → Type 0
IsHintedIn bytes = IsReadAs IsHinted hinted_bytes (hint_fault bytes) bytes
