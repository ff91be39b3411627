use Rattle.std.proofs.Common.{◌≡◌, sym, subst}
use Rattle.dn_machine.specs.Running.{on_quit}
use Rattle.dn_lockstep.specs.Contents.{Contents, contents}
use Rattle.dn_lockstep.specs.Steps.{Steps}
use Rattle.dn_engine_tests.specs.Calls.{counting}
use Rattle.dn_engine_tests.proofs.calls.quit.Goals as goal

pub returns-clause-one_game : goal.returns-clause-one_game
returns-clause-one_game c limits settings session player game two mine here =
    let new : Contents = contents c.quit.new.self in
    c.one_game_goes_on.ensures.quit counting limits settings session player new c.quit.result game mine
    (subst (λ (old : Contents). Steps old new (λ limits me m. on_quit m)
    (λ answer. c.quit.result ≡ answer)) (sym here) c.quit.ensures.step)

pub returns-clause-step : goal.returns-clause-step
returns-clause-step c = record { step = c.quit.ensures.step; idle = c.quit.ensures.idle }
