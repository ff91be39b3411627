use Rattle.std.proofs.Common.{ap, sym, ◌∙◌, arith}
use Rattle.dn_machine.specs.Worlds.{rules_within}
use Rattle.dn_netgame.specs.Turning.{is_ran}
use Rattle.dn_netgame.proofs.Turning.{ran_more, ran_last, not_ran}
use Rattle.dn_netgame.proofs.turns.run_all.Goals as goal

pub loop-ran-preserved : goal.loop-ran-preserved
loop-ran-preserved g c = grind (arith, ran_more)

pub returns-clause-run : goal.returns-clause-run
returns-clause-run g c limits me m r =
    let so_far = c.loop-ran.invariant.1 limits me m r in
    let step = c.run.ensures.step.step _ me so_far.after so_far.node in
    record {
      after = _;
      node = step.node;
      leads = ran_last (rules_within g.W.World.physics limits) m c.loop-ran.ran so_far.after
          so_far.leads (ap is_ran (sym step.answer) ∙ not_ran c.run.result c.in_default.not-Ran);
    }

pub returns-clause-whose : goal.returns-clause-whose
returns-clause-whose g c = c.run.ensures.step.same ∙ c.loop-ran.invariant.2

pub overflow_add-ran : goal.overflow_add-ran
overflow_add-ran g c =
    omega (arith, c.loop-ran.invariant.0, c.run.ensures.further _ c.in-Ran.is, c.run.ensures.most)

pub loop-ran-smaller : goal.loop-ran-smaller
loop-ran-smaller g c =
    omega (arith, c.loop-ran.invariant.0, c.run.ensures.further _ c.in-Ran.is, c.run.ensures.most)
