use Rattle.std.proofs.Common.{sym, ◌∙◌}
use Rattle.dn_survivor.specs.Surviving.{surviving}
use Rattle.dn_link.proofs.RemainingCalls.{hears_same}
use Rattle.dn_link.proofs.link.Link.take_report.Goals as goal

pub invariant_of-self : goal.invariant_of-self
invariant_of-self c = record {
  own = c.args.self.now.own ∙ sym (hears_same c.args.from c.in-Ok.report (surviving c.args.self.now.survivor)
      (surviving c.hear.new.self) c.hear.result c.hear.ensures.hears).0;
}

pub returns-in-Ok-clause-gone : goal.returns-in-Ok-clause-gone
returns-in-Ok-clause-gone c = (hears_same c.args.from c.in-Ok.report (surviving c.args.self.now.survivor)
    (surviving c.hear.new.self) c.hear.result c.hear.ensures.hears).1
