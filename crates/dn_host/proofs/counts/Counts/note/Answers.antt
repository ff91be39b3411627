use Rattle.std.proofs.Common.{◌≡◌, ◌++◌, ◌-◌, ℕ, List, replicate, refl, ap, ◌∙◌, subst, append_assoc}
use Rattle.std.proofs.Math.Logic.{∥∥₁_map}
use Rattle.std.specs.Prelude.{nat_lt, if◌then◌else◌}
use Rattle.dn_lockstep.specs.{Contents.contents, Tables.count_of}
use Rattle.dn_measure.specs.{Measure.IsMeasureOf, declared.measure.Told.Told, declared.measure.Told.TheVariants.Built, declared.measure.Told.TheVariants.Ran}
use Rattle.dn_host.proofs.counts.Counts.note.Goals as goal

pub invariant_of-self : goal.invariant_of-self
invariant_of-self c = record {
  measured = ∥∥₁_map c.args.self.now.measured (λ m. (
    m.0,
    (m.1 ++ replicate c.saturating_sub-went.result (Ran c.args.now))
        ++ replicate c.saturating_sub-built.result (Built c.args.now),
    c.tell-2.ensures m.0 (m.1 ++ replicate c.saturating_sub-went.result (Ran c.args.now))
        (c.tell.ensures m.0 m.1 m.2),
  ));
}

pub returns : goal.returns
returns c =
    let now = c.args.now in
    let old = c.args.self.now in
    let node = contents c.args.lockstep.now in
    let runs : c.saturating_sub-went.result ≡ node.ran - old.ran =
    c.saturating_sub-went.ensures ∙ ap (λ (n : ℕ). n - old.ran) c.ran-ran.ensures in
    let builds : c.saturating_sub-built.result ≡ count_of node.rings node.me - old.made =
    c.saturating_sub-built.ensures ∙ ap (λ (n : ℕ). n - old.made) c.made-made.ensures in record {
      measure = λ start before h.
          subst (λ (told : List Told). IsMeasureOf c.tell-2.new.measure start told)
          (append_assoc before (replicate c.saturating_sub-went.result (Ran now))
          (replicate c.saturating_sub-built.result (Built now))
          ∙ (λ i. before ++ (replicate (runs i) (Ran now) ++ replicate (builds i) (Built now))))
          (c.tell-2.ensures start (before ++ replicate c.saturating_sub-went.result (Ran now))
          (c.tell.ensures start before h));
      late = refl;
      made = c.made-made.ensures;
      ran = c.ran-ran.ensures;
      moved = c.moved_at-self.ensures
          ∙ ap (λ (n : ℕ). if nat_lt old.ran n then now else old.moved) c.ran-ran.ensures;
      shown = refl;
      since = refl;
    }
