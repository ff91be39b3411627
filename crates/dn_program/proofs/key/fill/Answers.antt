use Rattle.std.proofs.Common.{rules}
use Rattle.dn_program.proofs.Keys.{filled_more}
use Rattle.dn_program.proofs.key.fill.Goals as goal

pub loop-filled-preserved : goal.loop-filled-preserved
loop-filled-preserved g c =
    let known = c.loop-filled.invariant in
    record {
      within = search rules;
      taken = filled_more _ _ _ _ _ _ _ _ known.within c.in-Ok.ensures.bound.0 known.taken
          c.in-Ok.ensures.bytes.0;
    }
