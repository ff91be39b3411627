use Rattle.std.proofs.Common.{ℕ, ap, sym, ◌∙◌, subst, max, slice_index, ◌-◌, true≢false}
use Rattle.dn_link.specs.{Linked.has_given_up, Linking.linked, Surviving.IsRunFor}
use Rattle.dn_link.proofs.Handing.{may_relay, must_hand, newest_is}
use Rattle.dn_link.proofs.link.Link.newest.Goals.{then-not-may_hand-via-then-not-may_hand, then-not-may_hand-via-else-not-may_hand+then-has_given_up}
use Rattle.dn_link.proofs.link.Link.newest.Goals as goal

pub returns : goal.returns
returns c =
    let link = linked c.args.self.now in
    let may = may_relay link c.args.to (sym c.may_hand.ensures ∙ c.if-not-may_hand.false) in
    let reported = c.reported_of.ensures ∙ (λ i. slice_index (c.peer.ensures i).reported (c.me-me.ensures i)) in
    let newest = c.saturating_sub-newest.ensures ∙ ap (λ (k : ℕ). k - 4) c.made.ensures in
    newest_is link c.args.to c.max-start.result c.commands_for.result may
    (c.max-start.ensures ∙ (λ i. max (reported i) (newest i)))
    (subst (λ (k : ℕ). IsRunFor link c.args.to k c.max-start.result 4 c.commands_for.result) c.me-me.ensures
    c.commands_for.ensures)

pub returns-then-not-may_hand : goal.returns-then-not-may_hand
returns-then-not-may_hand c =
    let link = linked c.args.self.now in
    λ may stays. elim c.then-not-may_hand.branch [
      | then-not-may_hand-via-then-not-may_hand w ↦
          absurd (true≢false (sym (must_hand link c.args.to may) ∙ sym c.may_hand.ensures ∙ w.if-not-may_hand.true))
      | then-not-may_hand-via-else-not-may_hand+then-has_given_up w ↦
          absurd (true≢false (sym w.if-has_given_up.true ∙ w.has_given_up.ensures
          ∙ ap (has_given_up link) c.me-me.ensures ∙ stays))
    ]
