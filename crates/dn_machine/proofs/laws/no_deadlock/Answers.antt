-- The key player starts the others in the first round, and each player has the others' next commands within
-- thirteen more.
use Rattle.std.proofs.Common.{arith, subst, ◌≡◌, ◌+◌, ℕ}
use Rattle.dn_machine.specs.{Worlds.rules_of, Progress.HasRoom}
use Rattle.dn_machine.proofs.{EachEvent.led_rounds, Progress.goes_on_with, Vanilla.{vanilla_window, vanilla_swift, vanilla_packet}}
use Rattle.dn_machine.proofs.laws.no_deadlock.Goals as goal

pub returns-clause-goes_on : goal.returns-clause-goes_on
returns-clause-goes_on g c players extra capacity settings events game run none_lost several fits inputs tics
    room =
    let rules = rules_of g.W.World.physics players extra capacity in
    let same : tics + 6 ≡ tics + 1 + 5 = omega arith in
    goes_on_with rules settings fits several events game run none_lost
    (vanilla_window players extra capacity) (vanilla_swift players extra capacity) 1
    (vanilla_packet players extra capacity) inputs tics 1 14
    (subst (λ (most : ℕ). HasRoom rules game tics most) same room) (omega arith)

pub returns-clause-keeps_on : goal.returns-clause-keeps_on
returns-clause-keeps_on g c players extra capacity settings events game run none_lost several fits =
    goes_on_with (rules_of g.W.World.physics players extra capacity) settings fits several events game run
    none_lost (vanilla_window players extra capacity) (vanilla_swift players extra capacity) 1
    (vanilla_packet players extra capacity)

pub returns-clause-by_events : goal.returns-clause-by_events
returns-clause-by_events g c players extra capacity game inputs rounds =
    let led = led_rounds (rules_of g.W.World.physics players extra capacity) inputs rounds game in grind arith
