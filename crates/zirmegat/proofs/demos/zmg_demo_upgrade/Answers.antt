use Rattle.std.proofs.Common.{refl}
use Rattle.std.specs.Prelude.{Ok, Err}
use Rattle.dn_demo.specs.declared.upgrading.UpgradeFault.TheVariants.{Limit}
use Rattle.zirmegat.proofs.demos.zmg_demo_upgrade.Goals as goal

pub returns-in-None : goal.returns-in-None
returns-in-None c =
    (Ok c.in-Ok.demo, c.in-Ok.ensures.reads, (Err Limit, c.in-None.ensures.none, (c.upgrade_code.ensures, refl, refl)))
