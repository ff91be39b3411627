use Rattle.std.proofs.Common.{rules, ◌≡◌, ◌<◌, ℕ, List, Some, length, refl, sym, ap, ◌∙◌, inl, inr, arith}
use Rattle.std.specs.Prelude.{slice_get}
use Rattle.std.proofs.lemmas.Option.{slice_get_read}
use Rattle.arrayvec.specs.ArrayVec.{ArrayVec}
use Rattle.dn_engine_tests.specs.Tables.{HasEngine}
use Rattle.dn_engine_tests.proofs.Going.{goes_on}
use Rattle.dn_engine_tests.proofs.table.Table.hear.Goals as goal

pub returns : goal.returns
returns g c =
    let old = c.args.self.now in
    let before = c.index_mut.result.now in
    let bytes = c.as_slice-bytes.result.now in
    let there : c.from.result < length old.engines.items = search rules in
    let at : HasEngine old c.from.result before = slice_get_read old.engines.items (length old.engines.items) c.from.result
    before refl (omega (arith, there)) c.index_mut.ensures.value in
    let found = c.in-Some.ensures.lookup in
    let which : slice_get old.given.items c.args.which ≡ Some c.in-Some.bytes.now =
    ap (λ (xs : List (ArrayVec ℕ)). slice_get xs c.args.which) (sym c.deref.ensures.value)
    ∙ slice_get_read c.deref.result.now (length c.deref.result.now) c.args.which c.in-Some.bytes.now refl found.3.0 found.1 in
    goes_on g.W.World.state g.W.World.physics old _ c.from.result before c.call-done.new.self at refl (Some bytes)
    c.call-done.result.1 c.call-done.ensures (inl refl)
    (inr (c.args.which, c.in-Some.bytes.now, which, ap (λ (xs : List ℕ). Some xs) c.as_slice-bytes.ensures.value))
    c.remaining_bytes_are_genuine.ensures.stay
