use Rattle.std.proofs.Common.{rules, ◌≡◌, ◌≤◌, ◌+◌, ◌++◌, ◌∷◌, [], length, ℕ, ap, ◌∙◌}
use Rattle.dn_link.specs.declared.bundle.Part.{TheVariants.Run}
use Rattle.dn_link.specs.declared.bundle.Run as run
use Rattle.dn_link.proofs.Packings.{ended}
use Rattle.dn_link.proofs.packing.Packing.end_run.Goals as goal

pub returns-then-not-is_empty-clause-fits : goal.returns-then-not-is_empty-clause-fits
returns-then-not-is_empty-clause-fits c =
    let was = c.args.self.now in
    let same : c.replace-run.result ≡ was.run = c.replace-run.ensures.value in
    let some : 1 ≤ length was.run.commands.items = search rules in
    let items : c.push.new.self.items ≡ was.parts.items ++ Run was.run ∷ [] =
    c.push.ensures.items ∙ ap (λ (r : run.Run). was.parts.items ++ Run r ∷ []) same in
    let size : c.len.result ≡ length was.run.commands.items =
    c.len.ensures.value ∙ ap (λ (r : run.Run). length r.commands.items) same in
    ended was _ c.requires.fits some items (ap (λ (n : ℕ). was.bytes + (5 + n)) size)
    (search rules) (search rules)
