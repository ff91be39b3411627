use Rattle.std.proofs.Common.{rules, ◌≡◌, ◌∙◌, subst}
use Rattle.dn_machine.specs.Node.{got}
use Rattle.dn_lockstep.specs.{Contents.contents, Settling.on_settle, declared.lockstep.settling.Settled.Settled, Steps.IsAfter}
use Rattle.dn_lockstep.proofs.{After.steps, Shown.got_is}
use Rattle.dn_remain.specs.Vanished.Node.{decided_end}
use Rattle.dn_survivor.specs.{OfOthers.{commands_of, first_of, own_of, told_of}, Calls.end_by}
use Rattle.dn_machine.specs.Node as machine
use Rattle.dn_survivor.proofs.survivor.Survivor.settle.Goals as goal

pub returns-clause-step : goal.returns-clause-step
returns-clause-step c = steps c.settle.ensures.step.same (λ limits me m r.
    let others = c.args.self.now.others in
    let player = c.args.player in
    let n = contents c.args.self.now.lockstep in
    let step = c.settle.ensures.step.step limits me m r in
    let players : c.players-players.result ≡ limits.players = c.players-players.ensures ∙ r.whose.players in
    let number : c.me-me.result ≡ me = c.me-me.ensures ∙ r.whose.number in
    let counted : c.unwrap_or-own.result ≡ (n.rings player).count = search rules in
    let own : c.unwrap_or-own.result ≡ got m player = counted ∙ got_is limits me n m r player c.requires in
    let end : c.end-end.result ≡ end_by limits me others player m =
    c.end-end.ensures
    ∙ (λ i. decided_end (players i) (number i) (own_of others (λ other. own i)) (told_of others) player) in
    let first : c.first-first.result ≡ first_of limits.players me others player =
    c.first-first.ensures ∙ (λ i. first_of (players i) (number i) others player) in
    let commands : c.commands-commands.result.now ≡ commands_of limits.players me others player =
    c.commands-commands.ensures ∙ (λ i. commands_of (players i) (number i) others player) in
    subst (λ (x : machine.Node × Settled). IsAfter limits me (contents c.settle.new.self) x (λ settled. c.settle.result ≡ settled))
    (λ i. on_settle limits me m player (end i) (first i) (commands i)) step)
