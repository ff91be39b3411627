use Rattle.std.proofs.Common.{arith}
use Rattle.dn_tic.proofs.Making.{IsOpposed, is_opposed}
use Rattle.dn_tic.proofs.moves.opposed.Goals as goal

product_is : (c : goal.After-from-2) → IsOpposed c.is_down.result c.is_down-2.result c.from.result
    c.from-2.result c.args.amount
product_is c = is_opposed _ _ _ _ _ c.from.ensures c.from-2.ensures c.requires.least c.requires.most

pub overflow_sub-result : goal.overflow_sub-result
overflow_sub-result c = (product_is c).difference_fits

pub overflow_mul-result : goal.overflow_mul-result
overflow_mul-result c = (product_is c).product_fits

pub returns : goal.returns
returns c = grind (arith, product_is)
