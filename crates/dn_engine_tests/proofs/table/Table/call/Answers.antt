use Rattle.std.proofs.Common.{rules, ◌<◌, length, refl, inl, arith}
use Rattle.std.specs.Prelude.{is_ok}
use Rattle.std.proofs.lemmas.Option.{slice_get_read}
use Rattle.dn_engine_tests.specs.Tables.{HasEngine}
use Rattle.dn_engine_tests.proofs.Going.{goes_on, joined}
use Rattle.dn_engine_tests.proofs.table.Table.call.Goals as goal

pub returns-in-Some : goal.returns-in-Some
returns-in-Some g c =
    let old = c.args.self.now in
    let before = c.index_mut.result.now in
    let there : c.from.result < length old.engines.items = search rules in
    let at : HasEngine old c.from.result before = slice_get_read old.engines.items (length old.engines.items) c.from.result
    before refl (omega (arith, there)) c.index_mut.ensures.value in
    goes_on g.W.World.state g.W.World.physics old _ c.from.result before c.call-done.new.self at refl _ c.call-done.result.1
    c.call-done.ensures
    (joined old.given.items c.push.new.self.items c.call-done.result.1 c.in-Some.bytes (is_ok c.push.result)
    c.in-Some.is c.push.ensures.items)
    (inl c.requires) c.remaining_bytes_are_genuine.ensures.stay

pub returns-in_default : goal.returns-in_default
returns-in_default g c =
    let old = c.args.self.now in
    let before = c.index_mut.result.now in
    let there : c.from.result < length old.engines.items = search rules in
    let at : HasEngine old c.from.result before = slice_get_read old.engines.items (length old.engines.items) c.from.result
    before refl (omega (arith, there)) c.index_mut.ensures.value in
    goes_on g.W.World.state g.W.World.physics old _ c.from.result before c.call-done.new.self at refl _ c.call-done.result.1
    c.call-done.ensures (inl refl) (inl c.requires) c.remaining_bytes_are_genuine.ensures.stay
