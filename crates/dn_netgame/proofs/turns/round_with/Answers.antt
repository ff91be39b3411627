use Rattle.std.proofs.Common.{refl}
use Rattle.dn_tic.specs.Inputs.{input_of}
use Rattle.dn_netgame.proofs.turns.round_with.Goals as goal

pub returns-clause-round : goal.returns-clause-round
returns-clause-round g c = c.take_turns.ensures.turns (input_of c.args.inputs.now) (λ player below. refl)
