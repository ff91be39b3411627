use Rattle.std.proofs.Common.{rules, ◌≡◌, ◌∙◌, w8, w32, to_z, of_z, ap, refl, sym, subst}
use Rattle.std.specs.Prelude.{ℤ}
use Rattle.std.specs.Option.{option_map}
use Rattle.dn_link.specs.Leaning.{IsLean}
use Rattle.zirmegat.specs.Joined.{joined_of}
use Rattle.zirmegat.proofs.Calling.{lent}
use Rattle.zirmegat.proofs.link_calls.zmg_link_tick.Goals as goal

pub returns-in-Some : goal.returns-in-Some
returns-in-Some c =
    let narrow : to_z w8 (of_z w8 c.lean.result) ≡ c.lean.result = search rules in
    let wide : to_z w32 (of_z w32 c.from.result) ≡ c.from.result = search rules in
    lent _ _ (joined_of c.in-Some.held.now) (joined_of c.lean.new.self) _ _
    (ap (option_map joined_of) c.in-Some.ensures.value) refl (
      refl,
      (
        wide ∙ c.from.ensures ∙ narrow ∙ c.lean.ensures.leans,
        subst (λ (x : ℤ). IsLean x) (sym (wide ∙ c.from.ensures ∙ narrow)) c.lean.ensures.range,
        c.lean.ensures.link,
        c.lean.ensures.pace,
        c.lean.ensures.seal,
      ),
    )
