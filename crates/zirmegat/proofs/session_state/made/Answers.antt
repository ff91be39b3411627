use Rattle.std.proofs.Common.{◌≡◌, subst}
use Rattle.dn_lockstep.specs.Tables.{count_of}
use Rattle.zirmegat.proofs.session_state.made.Goals as goal

pub returns : goal.returns
returns c = subst (λ n. c.made.result ≡ count_of n.rings n.me) c.lockstep.ensures c.made.ensures
