use Rattle.std.proofs.Common.{rules, ◌≤◌, ◌+◌, ◌++◌, ◌∷◌, [], ap, ◌∙◌, List, ℕ, length, refl, arith, inl, inr}
use Rattle.std.proofs.lemmas.Bool.{cases_lt}
use Rattle.dn_link.specs.{declared.bundle.Carried.Carried, declared.bundle.Part.Part, declared.bundle.Part.TheVariants.Whole}
use Rattle.dn_link.specs.Text.{IsCarried}
use Rattle.dn_link.proofs.Packings.{whole_fits, whole_tight}
use Rattle.dn_link.proofs.packing.Packing.add_whole.Goals as goal

pub returns-clause-tight : goal.returns-clause-tight
returns-clause-tight c = λ from tight needed.
    whole_tight from c.args.self.now (record {
      parts = c.push.new.self;
      bytes = 0;
      run = c.end_run.new.self.run;
    }) c.args.packet.now tight needed (c.push.ensures.items
    ∙ ap (λ (p : Carried). c.end_run.new.self.parts.items ++ Whole p ∷ []) c.copy_of.ensures
    ∙ ap (λ (ps : List Part). ps ++ Whole c.args.packet.now ∷ []) c.end_run.ensures.parts)

pub returns-clause-fits : goal.returns-clause-fits
returns-clause-fits c =
    let packet : Carried = c.args.packet.now in
    let old = c.args.self.now in
    let was = c.end_run.new.self in
    let fits : IsCarried packet = search rules in
    let few : length was.parts.items ≤ 23 = elim (cases_lt 0 (length old.run.commands.items)) [
      | inl some ↦ omega (arith, c.end_run.ensures.more, c.requires.room.run_is_one some)
      | inr none ↦ omega (arith, c.end_run.ensures.few (omega (arith, none)), c.requires.room.few)
    ] in
    let room : was.bytes + 115 ≤ 1118 = omega (arith, c.end_run.ensures.room, c.requires.room.fit) in
    whole_fits was _ packet c.end_run.ensures.fits few room c.end_run.ensures.none fits
    (c.push.ensures.items ∙ ap (λ (p : Carried). was.parts.items ++ Whole p ∷ []) c.copy_of.ensures)
    (ap (λ (n : ℕ). was.bytes + (11 + n)) c.len.ensures.value) refl
