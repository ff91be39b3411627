-- Bytes that are written to the front of the caller's room, and what is written of a datagram before the
-- flags and the sum are.
use Rattle.std.specs.Prelude.{◌≡◌, ℕ, List, ◌++◌, length, drop, Option, Some, None, ◌+◌, ◌%◌, ◌^◌}
use Rattle.dn_packet.specs.Text.{words, weighted}

-- the front of the room is these bytes, and the rest is as it was
abbrev pub IsWritten : List ℕ → List ℕ → List ℕ → ℕ → Type 0
IsWritten bytes old new count = (count ≡ length bytes) × (new ≡ bytes ++ drop (length bytes) old)

-- the same where there are bytes, and else nothing
abbrev pub IsGiven : Option (List ℕ) → List ℕ → List ℕ → ℕ → Type 0
IsGiven (Some bytes) old new count = IsWritten bytes old new count
IsGiven None old new count = (count ≡ 0) × (new ≡ old)

-- these bytes, whole pairs of words, are written to the front of a room. The sum is 0x1234567 plus k times the
-- word at each place k, modulo 2^32; the first word, at place 0, is left for the flags and the sum
pub record IsFront (bytes old new : List ℕ) (count sum : ℕ) : Type 0 where
  pub written : IsWritten bytes old new count
  pub whole : length bytes % 8 ≡ 0
  pub total : sum ≡ (0x1234567 + weighted 0 (words bytes)) % 2 ^ 32
