use Rattle.dn_world.proofs.Steps.{IsAlong, along_is}
use Rattle.dn_world.proofs.spot.along.Goals as goal

product_is : (c : goal.After-from) → IsAlong c.args.steps c.args.way c.from.result
product_is c = along_is _ _ _ c.ranges.steps c.requires c.from.ensures

pub overflow_mul-result : goal.overflow_mul-result
overflow_mul-result c = (product_is c).fits

pub returns : goal.returns
returns c = let is = product_is c in record { value = is.value; short = is.short }
