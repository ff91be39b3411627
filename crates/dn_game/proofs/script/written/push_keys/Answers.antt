use Rattle.std.proofs.Common.{◌≡◌, ℕ, List, ◌++◌, ap, sym, ◌∙◌}
use Rattle.std.specs.String.{string_bytes}
use Rattle.std.proofs.lemmas.{Bool.{cond-false, ne_eqb}, Result.IfOk-weaker}
use Rattle.dn_game.specs.Scripts.{letters, letters_down, keys_word}
use Rattle.dn_game.proofs.script.written.push_keys.Goals as goal

pub returns : goal.returns
returns c =
    let old = string_bytes c.args.text.now in
    let new = string_bytes c.push_letters.new.text in
    let bits = c.bits-bits.result in
    let same : letters_down bits letters ≡ keys_word c.args.keys =
    sym (cond-false _ _ _ (ne_eqb _ _ c.if-bits-eq0.false)) ∙ ap keys_word c.bits-bits.ensures.value in
    IfOk-weaker c.push_letters.result (λ _. new ≡ old ++ letters_down bits letters)
    (λ _. new ≡ old ++ keys_word c.args.keys)
    (λ _ so. so ∙ ap (λ (t : List ℕ). old ++ t) same) c.push_letters.ensures
