use Rattle.std.proofs.Common.{rules, ◌≡◌, length, ap, arith, ◌-◌, min}
use Rattle.dn_survivor.specs.ReportBytes.{IsTail}
use Rattle.dn_lockstep.specs.{Contents.contents, Told.command_told}
use Rattle.dn_survivor.proofs.Lists.{all_one, picks_few}
use Rattle.dn_survivor.proofs.survivor.Survivor.tail.Goals as goal

pub returns-clause-proper : goal.returns-clause-proper
returns-clause-proper c =
    let n = contents c.args.self.now.lockstep in
    let lockstep = c.args.self.now.lockstep in
    let count = (n.rings c.args.player).count in
    let counted : c.unwrap_or.result ≡ count = search rules in
    let size = ap length c.last_commands.ensures.last in
    let few = picks_few (command_told n c.args.player) (min count 24) (count - 24) in
    let low = c.requires in
    all_one IsTail _ (record {
      player = omega (arith, low, lockstep.few);
      count = c.unwrap_or.type_inv;
      few = grind (arith, size, few);
      had = grind (arith, size, few, counted);
      commands = c.last_commands.ensures.valid;
    })
