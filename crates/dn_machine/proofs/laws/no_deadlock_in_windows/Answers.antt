-- As with the numbers of 1997.
use Rattle.std.proofs.Common.{arith, ◌+◌}
use Rattle.dn_machine.specs.Worlds.{rules_within}
use Rattle.dn_machine.proofs.{EachEvent.led_rounds, Progress.goes_on_with}
use Rattle.dn_machine.proofs.laws.no_deadlock_in_windows.Goals as goal

pub returns-clause-goes_on : goal.returns-clause-goes_on
returns-clause-goes_on g c limits packets settings events game window swift into run none_lost several fits inputs
    tics room =
    goes_on_with (rules_within g.W.World.physics limits) settings fits several events game run none_lost
    window swift packets into inputs tics 1 (13 + packets) room (omega arith)

pub returns-clause-keeps_on : goal.returns-clause-keeps_on
returns-clause-keeps_on g c limits packets settings events game window swift into run none_lost several fits =
    goes_on_with (rules_within g.W.World.physics limits) settings fits several events game run none_lost
    window swift packets into

pub returns-clause-by_events : goal.returns-clause-by_events
returns-clause-by_events g c limits game inputs rounds =
    let led = led_rounds (rules_within g.W.World.physics limits) inputs rounds game in grind arith
