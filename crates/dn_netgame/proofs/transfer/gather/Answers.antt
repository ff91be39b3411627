use Rattle.std.proofs.Common.{rules}
use Rattle.dn_netgame.proofs.Pieces.{fewer_more, some_more}
use Rattle.dn_netgame.proofs.transfer.gather.Goals as goal

pub returns-in_err-count-clause-read : goal.returns-in_err-count-clause-read
returns-in_err-count-clause-read g c = λ _. fewer_more _ _ _ _ _ _ (search rules) c.loop-piece.invariant.1
    c.in_err-count.ensures.fewer

pub returns-in_err-extend_from_slice-clause-memory : goal.returns-in_err-extend_from_slice-clause-memory
returns-in_err-extend_from_slice-clause-memory g c =
    λ _. some_more _ _ _ _ _ _ _ (search rules) c.loop-piece.invariant.1 c.in_ok-count.ensures.bytes (search rules)
