-- One letter more of the keys.
use Rattle.std.proofs.Common.{◌≡◌, ◌<◌, ◌+◌, ℕ, Bool, true, eqb, cond, List, [], ◌∷◌, ◌++◌, get_or, take, append_assoc, refl, sym, ap, ◌∙◌, append-nil, arith}
use Rattle.std.specs.{Prelude.nat_lt, Int.bit_at}
use Rattle.std.proofs.lemmas.{Bool.{agree_below_at, cond-true, cond-false, eq-eqb, ne_eqb}, List.Elements.filter_more}
use borrow.Author.Tests.{ltb-true}
use Rattle.dn_game.specs.Scripts.{letters, place_in_letters, is_down_at, letters_down}
use Rattle.dn_game.proofs.{Scripts.letter_found, script.written.push_letters.Goals.{then-bits-place-eq1+in_ok-push, else-bits-place-eq1}}
use Rattle.dn_game.proofs.script.written.push_letters.Goals as goal

letter_small : (place : ℕ) → place < 18 → get_or letters place 0 < 128
letter_small place h =
    ltb-true _ _ (agree_below_at (λ k. nat_lt (get_or letters k 0) 128) (λ k. true) 18 place refl h)

module _ (keys place : ℕ) (within : place < 18) where
  passes : ℕ → Bool
  passes letter = is_down_at keys (place_in_letters letter)

  -- the letter at the place, if its bit is set
  abbrev letter_if : Bool → List ℕ
  letter_if set = cond set (get_or letters place 0 ∷ []) []

  next : letters_down keys (take (place + 1) letters)
      ≡ letters_down keys (take place letters) ++ letter_if (eqb (bit_at keys place) 1)
  unfolding passes
  next = filter_more passes letters place 0 within
      ∙ ap (λ b. letters_down keys (take place letters) ++ letter_if b)
      (ap (is_down_at keys) (letter_found place within))

  letter_more : (old text new : List ℕ) → text ≡ old ++ letters_down keys (take place letters)
      → new ≡ text ++ letter_if (eqb (bit_at keys place) 1)
      → new ≡ old ++ letters_down keys (take (place + 1) letters)
  letter_more old text new so put =
      put ∙ ap (λ (t : List ℕ). t ++ letter_if (eqb (bit_at keys place) 1)) so
      ∙ append_assoc old (letters_down keys (take place letters)) (letter_if (eqb (bit_at keys place) 1))
      ∙ ap (λ (t : List ℕ). old ++ t) (sym next)

pub loop-place-preserved : goal.loop-place-preserved
loop-place-preserved c = grind (arith, letter_small, letter_more, cond-true, eq-eqb, else-bits-place-eq1, append-nil, cond-false, ne_eqb)
