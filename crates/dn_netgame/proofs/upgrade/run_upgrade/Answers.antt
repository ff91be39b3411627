use Rattle.std.proofs.Common.{rules, inr, refl, arith}
use Rattle.dn_netgame.specs.UpgradeShown.{IsUpgrade}
use Rattle.dn_netgame.proofs.Showing.{shows_printed, shows_such}
use Rattle.dn_netgame.proofs.upgrade.run_upgrade.Goals as goal

pub returns-in_err-bytes-clause-shown : goal.returns-in_err-bytes-clause-shown
returns-in_err-bytes-clause-shown g c = search rules

pub returns-in-Ok-clause-shown : goal.returns-in-Ok-clause-shown
returns-in-Ok-clause-shown g c = grind (arith, shows_printed)

pub returns-in-Err-clause-shown : goal.returns-in-Err-clause-shown
returns-in-Err-clause-shown g c =
    shows_such g.W.Write.contents _ (IsUpgrade c.args.limit) _ _ c.args.output.now c.print.new.output
    c.in_ok-bytes.bytes.items _ _ 1 c.print.result c.print.ensures.printed c.as_bytes.ensures.value
    c.in_ok-bytes.ensures.bytes (inr (c.in-Err.ensures.refused, refl))

pub returns-in-Ok-clause-memory : goal.returns-in-Ok-clause-memory
returns-in-Ok-clause-memory g c = grind arith
