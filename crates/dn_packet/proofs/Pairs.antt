-- The sum over the words of commands, two of each, as the code goes on by it.
use Rattle.std.proofs.{Common.{◌≡◌, ◌≤◌, ◌+◌, ◌*◌, ◌%◌, ◌^◌, ℕ, zero, suc, List, [], ◌∷◌, ◌++◌, length, take, drop, All, refl, ap, sym, ◌∙◌, arith, append_assoc}, Math.Nat.{mod-add-mod, add-mul, mul-add}}
use Rattle.std.proofs.{lemmas.List.{flat_map_more, length_push, length-append}, lemmas.List.Elements.All-push}
use Rattle.std.specs.List.{flat_map}
use Rattle.byteorder.specs.Endian.{little_number}
use Rattle.dn_tic.specs.{Command.{command_bytes, IsCommand}, declared.command.TicCmd.TicCmd}
use Rattle.dn_packet.specs.Text.{words, weighted, sum_of}

-- The bits of a sum that are kept.
-- 28 of 32 bits
pub low_bits : (x : ℕ) → x % 2 ^ 32 % 2 ^ 28 ≡ x % 2 ^ 28
low_bits x = omega arith

-- a sum that goes on by two words, with one multiplication
times_low : (a k : ℕ) → a % 2 ^ 32 * k % 2 ^ 32 ≡ a * k % 2 ^ 32
times_low a zero = omega arith
times_low a (suc k) =
    let next : suc k ≡ k + 1 = omega arith in
    rw next (omega (arith, mul-add (a % 2 ^ 32) k 1, mul-add a k 1, times_low a k))

pub pair_step : (s k v w : ℕ)
    → ((s + (v + w) % 2 ^ 32 * k % 2 ^ 32) % 2 ^ 32 + w) % 2 ^ 32 ≡ (s + weighted k (v ∷ w ∷ [])) % 2 ^ 32
pair_step s k v w = omega (arith, times_low (v + w) k, add-mul v w k, mul-add w k 1)

-- the words of a command
pub pair_of : (xs : List ℕ) → length xs ≡ 8
    → words xs ≡ little_number 4 xs ∷ little_number 4 (take 4 (drop 4 xs)) ∷ []
pair_of (a ∷ b ∷ c ∷ d ∷ e ∷ f ∷ g ∷ h ∷ []) eight = refl
pair_of _ eight = absurd (omega arith)

-- a sum that went on over a command goes on over the rest
pub sum_goes_on : (s k : ℕ) (command rest : List ℕ) → length command ≡ 8
    → ((s + weighted k (words command)) % 2 ^ 32 + weighted (k + 2) (words rest)) % 2 ^ 32
    ≡ (s + weighted k (words (command ++ rest))) % 2 ^ 32
sum_goes_on s k (a ∷ b ∷ c ∷ d ∷ e ∷ f ∷ g ∷ h ∷ []) rest eight = grind (arith, mod-add-mod)
sum_goes_on s k _ rest eight = absurd (omega arith)

-- the sum of a body, by that of its head, which counts once, and of its commands
pub sum_of_parts : (bytes : List ℕ) (head sum : ℕ) → 8 ≤ length bytes
    → head ≡ (0x1234567 + little_number 4 (drop 4 bytes)) % 2 ^ 32
    → sum ≡ (head + weighted 2 (words (drop 8 bytes))) % 2 ^ 32 → sum % 2 ^ 28 ≡ sum_of (drop 4 bytes)
sum_of_parts (a ∷ b ∷ c ∷ d ∷ e ∷ f ∷ g ∷ h ∷ rest) head sum long first all =
    grind (arith, mod-add-mod, low_bits)
sum_of_parts _ head sum long first all = absurd (omega arith)

-- these commands were read, and this is left
pub record AreRead (bytes : List ℕ) (found : List TicCmd) (rest : List ℕ) : Type 0 where
  pub spelled : bytes ≡ flat_map command_bytes found ++ rest
  pub valid : All IsCommand found
  pub counted : 8 * length found + length rest ≡ length bytes

-- one more command is read from the front of the rest
spelled_more : (bytes rest command after : List ℕ) (found more : List TicCmd) (next : TicCmd)
    → bytes ≡ flat_map command_bytes found ++ rest → rest ≡ command ++ after → command_bytes next ≡ command
    → more ≡ found ++ next ∷ [] → bytes ≡ flat_map command_bytes more ++ after
spelled_more bytes rest command after found more next so_far front spelled pushed =
    so_far ∙ (λ i. flat_map command_bytes found ++ front i)
    ∙ (λ i. flat_map command_bytes found ++ (sym spelled i ++ after))
    ∙ sym (append_assoc (flat_map command_bytes found) (command_bytes next) after)
    ∙ ap (λ (xs : List ℕ). xs ++ after) (flat_map_more command_bytes [] found next)
    ∙ (λ i. flat_map command_bytes (sym pushed i) ++ after)

pub one_more_read : (bytes rest command after : List ℕ) (found more : List TicCmd) (next : TicCmd)
    → AreRead bytes found rest → rest ≡ command ++ after → length command ≡ 8
    → command_bytes next ≡ command → IsCommand next → more ≡ found ++ next ∷ [] → AreRead bytes more after
one_more_read bytes rest command after found more next read front eight spelled valid pushed =
    let one = ap (length {A = TicCmd}) pushed ∙ length_push found next in
    let both = ap (length {A = ℕ}) front ∙ length-append command after in
    record {
      spelled = spelled_more bytes rest command after found more next read.spelled front spelled pushed;
      valid = rw pushed (All-push IsCommand found next read.valid valid);
      counted = omega (arith, read.counted, one, both, eight);
    }
