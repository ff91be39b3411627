use Rattle.std.proofs.Common.{◌<◌, Option, Some, Result, Ok, Err, refl, ap, ◌∙◌, arith}
use Rattle.dn_netgame.specs.{Lines.count_after, declared.line.Datagram.Datagram, declared.line.LineFault.LineFault, Turning.{most_polls}}
use Rattle.dn_machine.specs.Worlds.{rules_within}
use Rattle.dn_netgame.proofs.Turning.{all_heard, heard_more, polled_as}
use Rattle.dn_netgame.proofs.turns.hear_all.Goals as goal

pub returns-in-Ok-None-clause-heard : goal.returns-in-Ok-None-clause-heard
returns-in-Ok-None-clause-heard g c limits me m r =
    let said = polled_as g.L.Line.polls _ _ _ _ _ _ (c.me-me.ensures.number ∙ r.lockstep.whose.number)
    (c.in-Ok-None.is ∙ ap Ok c.in-Ok-None.field-0-is) c.poll.ensures.polled in
    let most = c.loop-heard.invariant.1 ∙ ap most_polls r.lockstep.whose.players in
    let few : c.loop-heard.heard < most_polls limits.players = omega (arith, c.loop-heard-test.true, most) in
    all_heard g.L.Line.polls g.W.World.state (rules_within g.W.World.physics limits) me _ m _ _ _ _ _ (Some (Ok tt))
    (c.loop-heard.invariant.3 limits me m r) (few, said, refl)

pub returns-in-Err-clause-heard : goal.returns-in-Err-clause-heard
returns-in-Err-clause-heard g c limits me m r =
    let said = polled_as g.L.Line.polls _ _ _ _ _ _ (c.me-me.ensures.number ∙ r.lockstep.whose.number) c.in-Err.is
    c.poll.ensures.polled in
    let most = c.loop-heard.invariant.1 ∙ ap most_polls r.lockstep.whose.players in
    let few : c.loop-heard.heard < most_polls limits.players = omega (arith, c.loop-heard-test.true, most) in
    all_heard g.L.Line.polls g.W.World.state (rules_within g.W.World.physics limits) me _ m _ _ _ _ _ (Some (Err _))
    (c.loop-heard.invariant.3 limits me m r) (few, said, refl)

pub loop-heard-preserved : goal.loop-heard-preserved
loop-heard-preserved g c =
    let before = c.loop-heard.invariant in (
      before.0,
      before.1,
      c.poll.ensures.polls_counted
          ∙ ap (λ (x : Result (Option Datagram) LineFault). count_after x (g.L.Line.failed c.loop-heard.line))
          c.in-Ok-Some.is ∙ before.2,
      λ limits me m r.
          let so_far = before.3 limits me m r in
          let said = polled_as g.L.Line.polls _ _ _ _ _ _ (c.me-me.ensures.number ∙ r.lockstep.whose.number)
          (c.in-Ok-Some.is ∙ ap Ok c.in-Ok-Some.field-0-is) c.poll.ensures.polled in
          let one = c.hear.ensures.heard limits me so_far.after so_far.node in
          record {
            after = one.after;
            node = one.node;
            leads = heard_more g.L.Line.polls (rules_within g.W.World.physics limits) me
                c.loop-heard.heard _ (m, c.args.line.now) (so_far.after, c.loop-heard.line)
                (one.after, c.poll.new.self) so_far.leads said one.leads;
          },
      c.hear.ensures.whose ∙ before.4,
    )

pub returns-clause-heard : goal.returns-clause-heard
returns-clause-heard g c limits me m r = grind arith

pub returns-in-Ok-None-clause-whose : goal.returns-in-Ok-None-clause-whose
returns-in-Ok-None-clause-whose g c = c.loop-heard.invariant.4

pub returns-in-Err-clause-whose : goal.returns-in-Err-clause-whose
returns-in-Err-clause-whose g c = c.loop-heard.invariant.4

pub returns-clause-whose : goal.returns-clause-whose
returns-clause-whose g c = c.loop-heard.invariant.4
