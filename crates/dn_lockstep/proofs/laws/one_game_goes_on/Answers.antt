use Rattle.std.proofs.Common.{arith}
use Rattle.dn_lockstep.proofs.OneGame.{builds, gives, hears, runs, quits, relays, keeps}
use Rattle.dn_lockstep.proofs.laws.one_game_goes_on.Goals as goal

pub returns : goal.returns
returns c = record {
  built = grind (arith, builds);
  gave = λ marking limits settings session player to new bytes game mine.
      gives marking limits settings game player mine to new bytes;
  heard = λ marking limits settings session which flight new heard game.
      hears marking limits settings game which flight new heard;
  ran = λ marking limits settings session player new marks ran row game mine.
      runs marking limits settings game player mine new marks ran row;
  quit = λ marking limits settings session player new quit game mine.
      quits marking limits settings game player mine new quit;
  relayed = grind (arith, relays);
  kept = λ marking limits settings session player new game. keeps marking limits settings game player new;
}
