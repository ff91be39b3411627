use Rattle.dn_survivor.proofs.Pairs.{agree, agreed, demos, fits, fitted, steady}
use Rattle.dn_survivor.proofs.agreeing.survivors_agree.Goals as goal

pub returns : goal.returns
returns c = record {
  agreed = agreed;
  fit = fitted;
  demos = demos;
  game_agrees = agree;
  game_fits = fits;
  game_steady = steady;
}
