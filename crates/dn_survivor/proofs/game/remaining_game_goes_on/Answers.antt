use Rattle.dn_survivor.proofs.OneGame.{gave_to, gives, hears, quits, runs}
use Rattle.dn_survivor.proofs.game.remaining_game_goes_on.Goals as goal

pub returns-clause-gave : goal.returns-clause-gave
returns-clause-gave c marking limits settings session player to new bytes game mine =
    gives marking limits settings game player mine to new bytes

pub returns-clause-gave_to : goal.returns-clause-gave_to
returns-clause-gave_to c marking limits settings session player to new bytes game mine =
    gave_to marking limits settings game player mine to new bytes

pub returns-clause-heard : goal.returns-clause-heard
returns-clause-heard c marking limits settings session which packet new heard game at =
    hears marking limits settings game which packet at new heard

pub returns-clause-ran : goal.returns-clause-ran
returns-clause-ran c marking limits settings session player new marks ran row game mine =
    runs marking limits settings game player mine new marks ran row

pub returns-clause-quit : goal.returns-clause-quit
returns-clause-quit c marking limits settings session player new quit game mine =
    quits marking limits settings game player mine new quit
