-- What is made of all that was told, one more later.
use Rattle.std.proofs.{Common.{◌≡◌, ◌<◌, ℕ, ◌-◌, List, [], ◌∷◌, ◌++◌, length, take, drop, get_or, refl, sym, ap, ◌∙◌, arith, fold, subst, append_assoc}, lemmas.Bool.{lt-ltb, le-ltb}, lemmas.List.{map_push, append-nil, length_push}}
use Rattle.std.proofs.lemmas.List.Sums.{fold_push}
use Rattle.std.specs.Prelude.{map}
use Rattle.dn_measure.specs.{declared.measure.Told.Told, declared.measure.Told.TheVariants.{Built, Ran}, Told.{runs_of, Keys, told_more, ran_more, keys_of, built_more, builds_of, times_from, IsInOrder}, Histogram.bin_of}

pub runs_built : (told : List Told) (at : ℕ) → runs_of (told ++ Built at ∷ []) ≡ runs_of told
runs_built [] at = refl
runs_built (Built b ∷ told) at = runs_built told at
runs_built (Ran r ∷ told) at = ap (λ (rs : List ℕ). r ∷ rs) (runs_built told at)

pub runs_ran : (told : List Told) (at : ℕ) → runs_of (told ++ Ran at ∷ []) ≡ runs_of told ++ at ∷ []
runs_ran [] at = refl
runs_ran (Built b ∷ told) at = runs_ran told at
runs_ran (Ran r ∷ told) at = ap (λ (rs : List ℕ). r ∷ rs) (runs_ran told at)

keys_more : (told : List Told) (one : Told) → keys_of (told ++ one ∷ []) ≡ told_more (keys_of told) one
keys_more told one = fold_push told_more (record { waiting = []; times = [] }) told one

-- a command is built while there is room, and while there is none
pub built_waits : (told : List Told) (at : ℕ) → length (keys_of told).waiting < 12
    → keys_of (told ++ Built at ∷ [])
    ≡ record { waiting = (keys_of told).waiting ++ at ∷ []; times = (keys_of told).times }
built_waits told at room = let test = lt-ltb (length (keys_of told).waiting) 12 room in
    keys_more told (Built at) ∙ (rw test refl)

pub built_full : (told : List Told) (at : ℕ) → length (keys_of told).waiting ≡ 12
    → keys_of (told ++ Built at ∷ []) ≡ keys_of told
built_full told at full = grind (arith, le-ltb, keys_more)

-- a tic is run while a command waits, and while none does
pub ran_one : (told : List Told) (at built : ℕ) (waiting : List ℕ) → (keys_of told).waiting ≡ built ∷ waiting
    → keys_of (told ++ Ran at ∷ [])
    ≡ record { waiting = waiting; times = (keys_of told).times ++ (at - built) ∷ [] }
ran_one told at built waiting e =
    keys_more told (Ran at) ∙ ap (λ (ws : List ℕ). ran_more ws (keys_of told).times at) e

pub ran_none : (told : List Told) (at : ℕ) → (keys_of told).waiting ≡ []
    → keys_of (told ++ Ran at ∷ []) ≡ record { waiting = []; times = (keys_of told).times }
ran_none told at e = keys_more told (Ran at) ∙ ap (λ (ws : List ℕ). ran_more ws (keys_of told).times at) e

-- one more time is one more sample
pub sample_more : (old new : Keys) (time : ℕ) → new.times ≡ old.times ++ time ∷ []
    → map bin_of new.times ≡ map bin_of old.times ++ bin_of time ∷ []
sample_more old new time e = ap (map bin_of) e ∙ map_push bin_of old.times time

-- a list that is not empty is its first element and the rest
pub first_of : (xs : List ℕ) (x : ℕ) → 0 < length xs → x ≡ get_or xs 0 x → xs ≡ x ∷ (take 0 xs ++ drop 1 xs)
first_of [] x some e = absurd (omega arith)
first_of (y ∷ ys) x some e = let same : x ≡ y = e in ap (λ (z : ℕ). z ∷ ys) (sym same)

-- Each key's time is that from its own command.
-- from any commands that wait on
timed : (waiting times : List ℕ) (told : List Told) → IsInOrder (length waiting) told
    → (fold told_more (record { waiting = waiting; times = times }) told).times
    ≡ times ++ times_from (waiting ++ builds_of told) (runs_of told)
timed waiting times [] h = sym (append-nil times)
timed waiting times (Built at ∷ told) h =
    let room = lt-ltb (length waiting) 12 h.0 in
    let more = length_push waiting at in
    let rest = timed (waiting ++ at ∷ []) times told (subst (λ (n : ℕ). IsInOrder n told) (sym more) h.1) in
    let joined : (waiting ++ at ∷ []) ++ builds_of told ≡ waiting ++ (at ∷ builds_of told) =
    append_assoc waiting (at ∷ []) (builds_of told) in
    let step : built_more (record { waiting = waiting; times = times }) at
    ≡ record { waiting = waiting ++ at ∷ []; times = times } = rw room refl in
    ap (λ (k : Keys). (fold told_more k told).times) step
    ∙ (rest ∙ ap (λ (bs : List ℕ). times ++ times_from bs (runs_of told)) joined)
timed [] times (Ran at ∷ told) h = absurd (omega arith)
timed (built ∷ waiting) times (Ran at ∷ told) h =
    let fewer : length (built ∷ waiting) - 1 ≡ length waiting = omega arith in
    let rest = timed waiting (times ++ (at - built) ∷ []) told
    (subst (λ (n : ℕ). IsInOrder n told) fewer h.1) in
    rest ∙ append_assoc times ((at - built) ∷ []) (times_from (waiting ++ builds_of told) (runs_of told))

pub timed_in_order : (told : List Told) → IsInOrder 0 told
    → (keys_of told).times ≡ times_from (builds_of told) (runs_of told)
timed_in_order told h = timed [] [] told h
