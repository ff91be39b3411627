use Rattle.std.proofs.Common.{rules, ◌≡◌, ◌∙◌, ap, subst}
use Rattle.dn_setup.specs.Settings.{bit}
use Rattle.dn_lockstep.specs.Told.{can_make}
use Rattle.dn_survivor.specs.Calls.{undecided_in}
use Rattle.dn_link.specs.Linked.{may_leave, surviving_of, unacknowledged}
use Rattle.dn_link.specs.Linking.{linked}
use Rattle.dn_link.specs.Pacing.{pace_of}
use Rattle.zirmegat.specs.{Commands.CanBuild, NodeStates.lockstep_told, NodeStates.undecided_told}
use Rattle.zirmegat.proofs.node_state.NodeAnswer.of_link.Goals as goal

pub returns-clause-told : goal.returns-clause-told
returns-clause-told c =
    let link = linked c.args.link.now in let pace = pace_of c.args.link.now in
    let base : c.of_lockstep.result ≡ lockstep_told link.node =
    c.of_lockstep.ensures.told ∙ ap lockstep_told c.lockstep.ensures in
    let sure : c.unacknowledged.result ≡ unacknowledged link = search rules in
    let refused : c.refused.result ≡ pace.refused = search rules in
    let leaves : c.from.result ≡ bit (may_leave link) = search rules in
    let missing : c.undecided_of.result ≡ undecided_told (undecided_in (surviving_of link)) = search rules in
    λ i. record (base i) {
      unacknowledged = sure i;
      refused = refused i;
      may_leave = leaves i;
      undecided = missing i;
    }

pub returns-clause-can : goal.returns-clause-can
returns-clause-can c = subst (λ n. CanBuild n (can_make n)) c.lockstep.ensures c.of_lockstep.ensures.can
