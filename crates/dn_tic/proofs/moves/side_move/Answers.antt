use Rattle.std.proofs.{Common.{◌≡◌, ◌∙◌, ap, arith, rules, to_z, of_z, w8, ◌+ℤ◌}, lemmas.Int.{ints, to_z-of_z}}
use Rattle.std.specs.Int.{w16}
use Rattle.dn_tic.specs.Pressed.{clamped}
use Rattle.dn_tic.proofs.Making.{side_is}
use Rattle.dn_tic.proofs.moves.side_move.Goals as goal

pub returns : goal.returns
returns c =
    let same : to_z w8 (of_z w8 (to_z w16 (of_z w16 c.clamp.result))) ≡ c.clamp.result =
    omega (arith, ints) in
    let sum : to_z w16
    (of_z w16 (to_z w16 (of_z w16 c.strafed.result) +ℤ to_z w16 (of_z w16 c.opposed.result)))
    ≡ c.strafed.result +ℤ c.opposed.result =
    omega (arith, ints) in
    let parts = side_is c.args.keys _ _ _ c.strafed.ensures.value
    (to_z-of_z w16 c.side_amount.result (search rules) ∙ c.side_amount.ensures.value)
    c.opposed.ensures.value in
    same ∙ c.clamp.ensures.value ∙ ap clamped (sum ∙ parts)
