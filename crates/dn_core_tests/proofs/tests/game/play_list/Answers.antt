use Rattle.std.proofs.Common.{length}
use Rattle.std.proofs.lemmas.Result.{IfOk-weaker}
use Rattle.dn_demo.specs.Recorded.{capacity}
use Rattle.dn_core_tests.proofs.tests.game.play_list.Goals as goal

pub returns : goal.returns
returns g c =
    let config = c.args.config in
    let players = length c.args.worlds.items in
    let room = capacity config.limit players in
    let events = c.args.events.now in
    IfOk-weaker c.play.result _ _ (λ played run. (
      run,
      c.every_list_keeps.ensures.agree players config.extra room config.settings events run.last
          (c.runs_have_answers.ensures.runs players config.extra room config.settings events run.answers run.last
          run.plays),
    )) c.play.ensures.run
