use Rattle.std.proofs.Common.{◌≡◌, ◌<◌, ℕ, List, Some, None, Result, option_map, ap, sym, ◌∙◌, subst, arith}
use Rattle.dn_netgame.specs.{Lines.Done, declared.{line.LineFault.LineFault}}
use Rattle.dn_machine.specs.Worlds.{rules_within}
use Rattle.dn_netgame.proofs.{Turning.{silent, spoken, IsCounted, giving, given_more, counted_once, count_more}, turns.give_all.Goals.{in-Ok, in-Err}}
use Rattle.dn_netgame.proofs.turns.give_all.Goals as goal

pub loop-to-preserved-in_default : goal.loop-to-preserved-in_default
loop-to-preserved-in_default g c =
    let before = c.loop-to.invariant in
    let given = c.loop-to.given in
    let line = c.loop-to.line in (
      before.0,
      omega (arith, before.1),
      before.2,
      λ limits me m r.
          let so_far = before.3 limits me m r in
          let step = c.packet.ensures.step.step _ me so_far.after so_far.node in
          let below : c.loop-to.to < limits.players =
          omega (arith, c.loop-to-test.true, c.players-to-end.ensures, r.lockstep.whose.players) in
          let none : None ≡ _ = ap (option_map (λ bytes. bytes.items)) (sym c.in_default.is) ∙ step.answer in
          record {
            after = _;
            node = step.node;
            leads = given_more g.L.Line.sends (rules_within g.W.World.physics limits) me
                c.loop-to.to None (giving m c.args.line.now (record { sent = 0; failed = 0 })) so_far.after
                line line given given below so_far.leads (silent g.L.Line.sends me c.loop-to.to _ line none)
                (record { sent = omega arith; failed = omega arith });
          },
      c.packet.ensures.step.same ∙ before.4,
    )

pub loop-to-preserved : goal.loop-to-preserved
loop-to-preserved g c =
    let before = c.loop-to.invariant in
    let answer : Result Done LineFault = c.send.result in
    let given = c.loop-to.given in
    let new = c.match-send.given in
    let By : Result Done LineFault → Type 0 = λ a. IsCounted (Some a) given new in
    let counted : By answer = elim c.match-send.branch [
      | in-Ok w ↦ grind arith
      | in-Err w ↦ grind arith
    ] in (
      before.0,
      omega (arith, before.1, counted.sent, counted.failed, counted_once answer),
      c.send.ensures.sends_counted ∙ count_more answer given new _ _ counted before.2,
      λ limits me m r.
          let so_far = before.3 limits me m r in
          let step = c.packet.ensures.step.step _ me so_far.after so_far.node in
          let below : c.loop-to.to < limits.players =
          omega (arith, c.loop-to-test.true, c.players-to-end.ensures, r.lockstep.whose.players) in
          let M : ℕ → Type 0 = λ p. g.L.Line.sends c.loop-to.line p c.loop-to.to c.in-Some.bytes.items answer
          c.send.new.self in
          let B : List ℕ → Type 0 = λ b. g.L.Line.sends c.loop-to.line c.me-me.result c.loop-to.to b answer
          c.send.new.self in
          let said = subst M (c.me-me.ensures.number ∙ r.lockstep.whose.number)
          (subst B c.deref.ensures.0 c.send.ensures.sent) in
          let some : Some c.in-Some.bytes.items ≡ _ =
          ap (option_map (λ bytes. bytes.items)) (sym c.in-Some.is) ∙ step.answer in
          record {
            after = _;
            node = step.node;
            leads = given_more g.L.Line.sends (rules_within g.W.World.physics limits) me
                c.loop-to.to (Some answer) (giving m c.args.line.now (record { sent = 0; failed = 0 }))
                so_far.after c.loop-to.line c.send.new.self given new below so_far.leads
                (spoken g.L.Line.sends me c.loop-to.to _ c.in-Some.bytes.items answer c.loop-to.line
                c.send.new.self some said) counted;
          },
      c.packet.ensures.step.same ∙ before.4,
    )

pub returns-clause-given : goal.returns-clause-given
returns-clause-given g c limits me m r = grind (arith, giving)

pub returns-clause-whose : goal.returns-clause-whose
returns-clause-whose g c = c.loop-to.invariant.4
