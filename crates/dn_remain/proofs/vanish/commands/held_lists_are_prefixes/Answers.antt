-- Lists that are handed on.
use Rattle.dn_remain.proofs.Vanished.Handing.{handed, same_held}
use Rattle.dn_remain.proofs.vanish.commands.held_lists_are_prefixes.Goals as goal

pub returns-clause-prefix : goal.returns-clause-prefix
returns-clause-prefix g c history x p u h w = handed history h x p u w

pub returns-clause-same : goal.returns-clause-same
returns-clause-same g c history x z p tic u v h w y a b = same_held history h x z p tic u v w y a b
