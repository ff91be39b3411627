use Rattle.std.proofs.Common.{◌≡◌, sym, subst}
use Rattle.dn_tic.specs.declared.input.Input.TheVariants.{Given}
use Rattle.dn_machine.specs.Sending.{on_build}
use Rattle.dn_lockstep.specs.Contents.{Contents, contents}
use Rattle.dn_lockstep.specs.Steps.{Steps}
use Rattle.dn_engine_tests.specs.Calls.{counting}
use Rattle.dn_engine_tests.proofs.calls.give.Goals as goal

pub returns-clause-one_game : goal.returns-clause-one_game
returns-clause-one_game c limits settings session player game two mine here =
    let new : Contents = contents c.give.new.self in
    c.one_game_goes_on.ensures.built counting limits settings session player new (Given c.args.command)
    c.give.result game mine
    (subst (λ (old : Contents). Steps old new (λ limits me m. on_build limits me m (Given c.args.command))
    (λ answer. c.give.result ≡ answer)) (sym here) c.give.ensures.step)

pub returns-clause-step : goal.returns-clause-step
returns-clause-step c = record {
  step = c.give.ensures.step;
  full = c.give.ensures.full;
  idle = c.give.ensures.idle;
}
