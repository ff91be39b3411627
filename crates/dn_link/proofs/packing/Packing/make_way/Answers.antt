use Rattle.std.proofs.Common.{◌≡◌, ◌+◌, ◌/◌, ◌%◌, ◌^◌, length, arith}
use Rattle.dn_link.proofs.{Packings.ended_for, packing.Packing.make_way.Goals.then-count-eq24-via-then-count-eq24, packing.Packing.make_way.Goals.then-count-eq24-via-else-count-eq24+then-self-count}
use Rattle.dn_link.proofs.packing.Packing.make_way.Goals as goal

pub returns-then-count-eq24-clause-tight : goal.returns-then-count-eq24-clause-tight
returns-then-count-eq24-clause-tight c =
    let was = c.args.self.now in
    let few = c.requires.fits.run.few in
    let full : (was.run.start + length was.run.commands.items / 8) % 2 ^ 32 ≡ c.args.start
    → length was.run.commands.items / 8 ≡ 24 = λ goes. elim c.then-count-eq24.branch [
      | then-count-eq24-via-then-count-eq24 w ↦ grind (arith, w.if-count-eq24.true, c.len-count.ensures.value)
      | then-count-eq24-via-else-count-eq24+then-self-count w ↦
          absurd (grind (arith, w.if-self-count.true, c.len-count.ensures.value, few, goes))
    ] in
    λ from tight. ended_for from was c.end_run.new.self.parts.items c.args.start c.end_run.new.self.run.start
    c.requires.fits tight c.end_run.ensures.parts c.end_run.ensures.start full
