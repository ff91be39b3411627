use Rattle.std.proofs.Common.{sym, ◌∙◌}
use Rattle.dn_survivor.specs.Surviving.{surviving}
use Rattle.dn_link.proofs.RemainingCalls.{gives_up_own}
use Rattle.dn_link.proofs.link.Link.give_up.Goals as goal

pub invariant_of-self : goal.invariant_of-self
invariant_of-self c = record {
  own = c.args.self.now.own ∙ sym (gives_up_own c.args.player (surviving c.args.self.now.survivor)
      (surviving c.give_up.new.self) c.give_up.result c.give_up.ensures.gives);
}
