use Rattle.std.proofs.Common.{[], ◌∷◌, ◌++◌}
use Rattle.dn_core_tests.proofs.tests.game.applied.Goals as goal

pub returns : goal.returns
returns g c players extra capacity settings events reached =
    let next = c.apply.ensures.leads.carried.reached players extra capacity settings events reached in
    let told = c.runs_have_answers.ensures.answers players extra capacity settings (events ++ c.args.event ∷ [])
    next.last next.run in
    (told.0, record { last = next.last; plays = told.1; game = next.game })
