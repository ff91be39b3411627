use Rattle.dn_game.proofs.Scripts.{built}
use Rattle.dn_game.proofs.script.line.build.Goals as goal

pub returns-in_err-number : goal.returns-in_err-number
returns-in_err-number c =
    rw c.from_residual-in_err-number.ensures
    (λ e told. c.in_err-number.ensures _ (built _ _ _ c.in_ok-node.ensures.0 c.in_ok-node.ensures.1 e told).2)

pub returns-in_err-keys : goal.returns-in_err-keys
returns-in_err-keys c =
    rw c.from_residual-in_err-keys.ensures
    (λ e told. c.in_err-keys.ensures _ (built _ _ _ c.in_ok-node.ensures.0 c.in_ok-node.ensures.1 e told).3)
