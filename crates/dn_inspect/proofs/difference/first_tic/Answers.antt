use Rattle.std.proofs.Common.{rules}
use Rattle.dn_inspect.proofs.SameLists.{same_lists}
use Rattle.dn_inspect.proofs.difference.first_tic.Goals as goal

pub returns : goal.returns
returns c = (c.requires.alike, same_lists _ _ (search rules))
