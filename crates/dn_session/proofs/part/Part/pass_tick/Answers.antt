use Rattle.std.proofs.Common.{rules, ◌≡◌, ◌∙◌, ap, ℤ, w8, to_z, of_z}
use Rattle.dn_session.specs.{Playing.playing, Ticks.passed}
use Rattle.dn_session.proofs.part.Part.pass_tick.Goals as goal

pub returns : goal.returns
returns c =
    let lean = c.lean-lean.ensures in
    let by : to_z w8 (of_z w8 c.lean-lean.result) ≡ c.lean-lean.result = search rules in
    let ticks = c.pass.ensures ∙ ap (λ (lean : ℤ). passed lean c.args.self.now.ticks) by in (
      c.lean-lean.result,
      (lean.seal, lean.link, lean.pace, lean.leans),
      λ i. record (playing c.args.self.now) {
        link = c.lean-lean.new.self;
        ticks = ticks i;
        owed = c.owed_at-self.ensures i;
        turn = c.from_turn-self.ensures i;
        steady = c.tick.ensures i;
      },
    )
