-- A run is read back behind its first byte, whoever's it is, and what is read as one is a run.
use Rattle.std.proofs.Common.{◌≡◌, ◌<◌, ◌≤◌, ◌+◌, ◌^◌, ℕ, List, ◌∷◌, ◌++◌, length, take, drop, refl, ap, sym, ◌∙◌, subst, arith, Option, Some, None, ◌≢◌, ◌*◌, ◌/◌, ◌%◌, Bool, true, false, if◌then◌else◌, nat_lt, zero, suc, inl, inr}
use Rattle.std.proofs.lemmas.Bool.{lt-ltb, le-ltb, cases_eq, cases_lt, eq-eqb, ne_eqb}
use Rattle.std.proofs.lemmas.List.{length-take}
use Rattle.std.proofs.{lemmas.Nat.from_le_bytes-to_le_bytes_4, lemmas.Option.same_Some, lemmas.Option.none-some, Math.Seq.take-append_seam}
use Rattle.dn_link.specs.Differences.{are_shorter, commands_bytes, run_differences, zeros}
use Rattle.dn_link.specs.Text.{run_bytes, run_head, IsRun}
use Rattle.dn_link.specs.Told.{number_at, told_commands, told_differences, told_run}
use Rattle.dn_link.proofs.Changes.{differences_back, length-told}
use Rattle.dn_link.proofs.Parts.{Fit, small}
use Rattle.dn_link.specs.declared.bundle.Run as run

form : (commands : List ℕ) → (j : ℕ) × (j ≤ 1) × ((if are_shorter commands then 64 else 0) ≡ 64 * j)
form commands = go (are_shorter commands)
  where
    go : (b : Bool) → (j : ℕ) × (j ≤ 1) × ((if b then 64 else 0) ≡ 64 * j)
    go true = (1, omega arith, refl)
    go false = (0, omega arith, refl)

-- what its first byte tells
pub record Heads (of head : ℕ) (commands : List ℕ) : Type 0 where
  pub some : head ≢ 0
  pub third : head / 32 % 2 ≡ of
  pub count : head % 32 ≡ length commands / 8

pub heads : (third : ℕ) (commands : List ℕ) → third ≤ 1 → 8 ≤ length commands → length commands ≤ 192
    → Heads third (run_head (32 * third) commands) commands
heads third commands low some few =
    let is = form commands in
    let j : ℕ = is.0 in
    let small : j ≤ 1 = is.1 in
    let at : run_head (32 * third) commands ≡ 32 * third + 64 * j + length commands / 8 =
    ap (λ (k : ℕ). 32 * third + k + length commands / 8) is.2 in
    record {
      some = λ none. absurd (omega (arith, none, at, some));
      third = omega (arith, at, small, low, few);
      count = omega (arith, at, small, few);
    }

commands_back : (third : ℕ) (commands rest : List ℕ) → third ≤ 32 → length commands ≤ 192
    → 8 * (length commands / 8) ≡ length commands
    → told_commands (run_head third commands) (length commands / 8) (commands_bytes commands ++ rest) ≡ commands
commands_back third commands rest low few whole = go (are_shorter commands) refl
  where
    n : ℕ
    n = length commands / 8

    go : (b : Bool) → are_shorter commands ≡ b
        → told_commands (third + (if b then 64 else 0) + length commands / 8) (length commands / 8)
        ((if b then run_differences commands else commands) ++ rest) ≡ commands
    go true is =
        let high = le-ltb (third + 64 + length commands / 8) 64 (omega arith) in
        rw high (differences_back (length commands / 8) zeros commands rest refl (sym whole))
    go false is =
        let off = lt-ltb (third + 0 + length commands / 8) 64 (omega (arith, low, few)) in
        rw off (ap (λ (k : ℕ). take k (commands ++ rest)) whole ∙ take-append_seam commands rest)

pub run_first : (third : ℕ) (r : run.Run) (rest : List ℕ) → third ≤ 1 → IsRun r
    → told_run (run_head (32 * third) r.commands.items) (run_bytes r ++ rest) ≡ Some r
run_first third r rest low is =
    let commands : List ℕ = r.commands.items in
    let n : ℕ = length commands / 8 in
    let head = heads third commands low is.some is.few in
    let some = ne_eqb n 0 (λ none. absurd (omega (arith, none, is.some))) in
    let few = le-ltb 24 n (omega (arith, is.few)) in
    let long = le-ltb (length (run_bytes r ++ rest)) 4 (omega arith) in
    let start = from_le_bytes-to_le_bytes_4 r.start is.start in
    let back = commands_back (32 * third) commands rest (omega (arith, low)) is.few is.whole in
    rw (head.count, some, few, long)
    (λ i. Some (record { start = start i; commands = record { items = back i } }))

-- and what is read as a run is one, if its first byte is the run's
start_small : (bytes : List ℕ) → Fit bytes → 4 ≤ length bytes → number_at 0 bytes < 2 ^ 32
start_small (s0 ∷ s1 ∷ s2 ∷ s3 ∷ more) fits long = small s0 s1 s2 s3 (fits 0) (fits 1) (fits 2) (fits 3)
start_small _ fits long = absurd (omega arith)

-- no more commands are read than are told of
few_told : (head n : ℕ) (bytes : List ℕ) → length (told_commands head n bytes) ≤ 8 * n
few_told head n bytes = go (nat_lt head 64)
  where
    go : (b : Bool) → length (if b then take (8 * n) bytes else told_differences n zeros bytes) ≤ 8 * n
    go true = omega (arith, length-take (8 * n) bytes)
    go false = omega (arith, length-told n zeros bytes refl)

positive : (n : ℕ) → n ≢ 0 → 1 ≤ n
positive zero some = absurd (some refl)
positive (suc n) some = omega arith

pub run_is : (third head : ℕ) (bytes : List ℕ) (r : run.Run) → third ≤ 1 → Fit bytes → told_run head bytes ≡ Some r
    → head ≡ run_head (32 * third) r.commands.items → IsRun r
run_is third head bytes r low fits e same = elim (cases_eq (head % 32) 0) [
  | inl none ↦ let on = eq-eqb (head % 32) 0 none in
      let no : ◌≡◌ {A = Option run.Run} None (Some r) = rw on at e in absurd (none-some r no)
  | inr some ↦ let a = ne_eqb (head % 32) 0 some in elim (cases_lt 24 (head % 32)) [
    | inl many ↦ let on = lt-ltb 24 (head % 32) many in
        let no : ◌≡◌ {A = Option run.Run} None (Some r) = rw (a, on) at e in absurd (none-some r no)
    | inr few ↦ let b = le-ltb 24 (head % 32) few in elim (cases_lt (length bytes) 4) [
      | inl short ↦ let on = lt-ltb (length bytes) 4 short in
          let no : ◌≡◌ {A = Option run.Run} None (Some r) = rw (a, b, on) at e in absurd (none-some r no)
      | inr long ↦ let c = le-ltb (length bytes) 4 long in at some few long (rw (a, b, c) at e)
    ]
  ]
]
  where
    at : head % 32 ≢ 0 → head % 32 ≤ 24 → 4 ≤ length bytes → Some (record {
      start = number_at 0 bytes;
      commands = record { items = told_commands head (head % 32) (drop 4 bytes) };
    }) ≡ Some r → IsRun r
    at some few long e =
        let is = same_Some _ r e in
        let begin : number_at 0 bytes ≡ r.start = ap (λ (x : run.Run). x.start) is in
        let size = ap (λ (x : run.Run). length x.commands.items) is in
        let most = few_told head (head % 32) (drop 4 bytes) in
        let of = form r.commands.items in
        let j : ℕ = of.0 in
        let small : j ≤ 1 = of.1 in
        let first : head ≡ 32 * third + 64 * j + length r.commands.items / 8 =
        same ∙ ap (λ (k : ℕ). 32 * third + k + length r.commands.items / 8) of.2 in
        let count : length r.commands.items / 8 ≡ head % 32 = omega (arith, first, small, low, few, most, size) in
        let whole : length r.commands.items ≡ 8 * (head % 32) = omega (arith, count, most, size) in
        let one : 1 ≤ head % 32 = positive (head % 32) some in
        record {
          start = subst (λ (n : ℕ). n < 2 ^ 32) begin (start_small bytes fits long);
          some = omega (arith, whole, one);
          few = omega (arith, whole, few);
          whole = omega (arith, count, whole);
        }
