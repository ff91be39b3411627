use Rattle.dn_tic.specs.declared.command.Move.{Move}
use Rattle.dn_machine.specs.Worlds.{Inputs}
use Rattle.std.proofs.Common.{Option, length, List, ap, sym, ◌∙◌, subst, arith}
use Rattle.dn_machine.proofs.Promises
use Rattle.dn_machine.proofs.Put.{same_functions}
use Rattle.dn_lockstep.specs.{Agreed.{AreAgreed, rows_to}, OneGame.beside}
use Rattle.dn_lockstep.proofs.{Agreeing.{agreed, rows_are, told_is}, OneGame.kept}
use Rattle.dn_lockstep.proofs.laws.locksteps_agree.Goals as goal

pub returns-clause-agreed : goal.returns-clause-agreed
returns-clause-agreed c marking limits settings session game =
    subst (λ (inputs : Inputs). AreAgreed limits settings inputs session.locksteps) (same_functions game.inputs)
    (agreed (beside marking limits) settings game.last (kept marking limits settings game) session.locksteps
    game.nodes)

pub returns-clause-told : goal.returns-clause-told
returns-clause-told c marking limits settings session player game mine =
    sym (game.rows player)
    ∙ rows_are (beside marking limits) settings game.last (kept marking limits settings game) session.locksteps
    game.nodes player mine
    ∙ ap (λ (inputs : Inputs). rows_to limits.players inputs (session.locksteps player).ran)
    (same_functions game.inputs)

pub returns-clause-game_agrees : goal.returns-clause-game_agrees
returns-clause-game_agrees c marking limits settings session game =
    Promises.agree (beside marking limits) settings game.last (kept marking limits settings game)

pub returns-clause-game_fits : goal.returns-clause-game_fits
returns-clause-game_fits c marking limits settings session game =
    Promises.fits (beside marking limits) settings game.last (kept marking limits settings game)

pub returns-clause-game_steady : goal.returns-clause-game_steady
returns-clause-game_steady c marking limits settings session game =
    Promises.steady (beside marking limits) settings game.last (kept marking limits settings game)

pub returns-clause-ran : goal.returns-clause-ran
returns-clause-ran c marking limits settings session player game mine =
    (game.nodes player mine).table.ran ∙ ap (length {A = List (Option Move)}) (game.rows player)

pub returns-clause-commands : goal.returns-clause-commands
returns-clause-commands c marking limits settings session here player tic one game mine tells =
    let told = told_is (beside marking limits) settings game.last (kept marking limits settings game)
    session.locksteps game.nodes here mine player tic one tells in
    grind (arith, told, same_functions game.inputs)
