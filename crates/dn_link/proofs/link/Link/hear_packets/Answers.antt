use Rattle.std.proofs.Common.{ap, sym, ◌∙◌, subst}
use Rattle.dn_lockstep.specs.Contents.{Contents, contents}
use Rattle.dn_survivor.specs.{declared.others.Others.Others, OfOthers.has}
use Rattle.dn_link.specs.{Counting.held_of, Hearing.HearsAll, Packets.heard_in, Packets.takes_relay}
use Rattle.dn_link.proofs.Hearings.{all_same}
use Rattle.dn_link.proofs.link.Link.hear_packets.Goals as goal

pub invariant_of-self : goal.invariant_of-self
invariant_of-self c = record {
  own = c.args.self.now.own ∙ sym (ap (λ (n : Contents). n.me) c.lockstep_mut.ensures.value)
      ∙ sym (ap (λ w. w.me) (all_same (heard_in (takes_relay (has c.others.result.now.gone) (held_of (contents c.lockstep_mut.result.now))) c.args.bundle.now)
      (contents c.lockstep_mut.result.now) (contents c.hear_bundle.new.lockstep) c.hear_bundle.ensures));
}

pub returns-clause-heard : goal.returns-clause-heard
returns-clause-heard c =
    subst (λ (n : Contents). HearsAll (heard_in (takes_relay (has c.args.self.now.survivor.others.gone) (held_of n)) c.args.bundle.now) n
    (contents c.hear_bundle.new.lockstep)) c.lockstep_mut.ensures.value
    (subst (λ (o : Others). HearsAll (heard_in (takes_relay (has o.gone) (held_of (contents c.lockstep_mut.result.now))) c.args.bundle.now) (contents c.lockstep_mut.result.now)
    (contents c.hear_bundle.new.lockstep)) c.others.ensures c.hear_bundle.ensures)
