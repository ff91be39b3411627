use Rattle.dn_game.proofs.Scripts.{sent}
use Rattle.dn_game.proofs.script.line.send.Goals as goal

pub returns-in_err-number : goal.returns-in_err-number
returns-in_err-number c =
    rw c.from_residual-in_err-number.ensures
    (λ e told. c.in_err-number.ensures _ (sent _ _ _ c.in_ok-node.ensures.0 c.in_ok-node.ensures.1 e told).2)

pub returns-in_err-number-2 : goal.returns-in_err-number-2
returns-in_err-number-2 c =
    rw c.from_residual-in_err-number-2.ensures (λ e told. c.in_err-number-2.ensures _
    (sent _ _ _ c.in_ok-node.ensures.0 c.in_ok-node.ensures.1 e told).3)
