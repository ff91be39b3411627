use Rattle.std.proofs.Common.{rules, ◌≡◌, ◌<◌, ℕ, Bool, true, false, Ok, Some, length, refl, sym, ap, ◌∙◌, subst, arith}
use Rattle.std.specs.Vec.{with_item}
use Rattle.std.proofs.lemmas.Option.{slice_get_read}
use Rattle.dn_link_game.specs.Playing.{marking_of}
use Rattle.dn_session.specs.{Session.begun_in, declared.side.Begun.Begun}
use Rattle.dn_engine_tests.specs.declared.{table.Table.Table}
use Rattle.dn_engine_tests.specs.Engines.{BeginsIn, met}
use Rattle.dn_engine_tests.specs.Tables.{HasEngine, StayTable}
use Rattle.dn_engine_tests.proofs.Beginning.{begins_on, stood}
use Rattle.dn_engine_tests.proofs.table.Table.begin.Goals as goal

pub returns-in-Ok : goal.returns-in-Ok
returns-in-Ok g c =
    let state = g.W.World.state in
    let physics = g.W.World.physics in
    let old = c.args.self.now in
    let new : Table g.row.W.Denot = record old { engines = with_item old.engines c.from-2.result c.begin.new.self } in
    let before = c.index_mut.result.now in
    let after = c.begin.new.self in
    let host = c.index.result.now in
    let game : Begun = c.in-Some.game in
    let there : c.from-2.result < length old.engines.items = search rules in
    let at : HasEngine old c.from-2.result before = slice_get_read old.engines.items (length old.engines.items) c.from-2.result
    before refl (omega (arith, there)) c.index_mut.ensures.value in
    let first : 0 < length old.engines.items = omega (arith, there) in
    let at_host : HasEngine old 0 host = slice_get_read old.engines.items (length old.engines.items) 0 host refl
    (omega (arith, first)) c.index.ensures in
    let begun : begun_in (met host).lobby ≡ Some game = sym c.begun.ensures ∙ c.in-Some.is in
    let places : length old.engines.items ≡ game.terms.players = search rules in
    let me : c.args.player ≡ c.from-2.result = search rules in
    let go : (r : Bool) → c.in-Ok.begun ≡ r → StayTable state physics old new =
    λ r. elim r as (λ r. c.in-Ok.begun ≡ r → StayTable state physics old new) [
      | true ↦ λ yes_it. begins_on state physics old new c.from-2.result before after at refl refl game c.args.now
          (subst (λ (place : ℕ). BeginsIn state physics game place c.args.now before after) me
          (c.begin.ensures.begins (c.in-Ok.is ∙ ap (λ (b : Bool). Ok b) yes_it)))
          (c.sessions_keep.ensures.begins c.args.now (met before) (met after) (Ok true)
          (c.begin.ensures.begins (c.in-Ok.is ∙ ap (λ (b : Bool). Ok b) yes_it)).begins)
          host at_host begun places (c.sessions_play.ensures.opens (marking_of physics))
          (c.sessions_stay.ensures.begins (marking_of physics)) c.sessions_play.ensures.made
          c.remaining_bytes_are_genuine.ensures.stay
      | false ↦ λ not_it. stood state physics old new c.from-2.result before after at refl refl
          (c.begin.ensures.idle (λ e. absurd (cc)))
          (c.sessions_stay.ensures.stays (marking_of physics)) c.remaining_bytes_are_genuine.ensures.stay
    ] in
    go c.in-Ok.begun refl

pub returns-in-Err : goal.returns-in-Err
returns-in-Err g c =
    let state = g.W.World.state in
    let physics = g.W.World.physics in
    let old = c.args.self.now in
    let before = c.index_mut.result.now in
    let there : c.from-2.result < length old.engines.items = search rules in
    let at : HasEngine old c.from-2.result before = slice_get_read old.engines.items (length old.engines.items) c.from-2.result
    before refl (omega (arith, there)) c.index_mut.ensures.value in
    stood state physics old _ c.from-2.result before c.begin.new.self at refl refl
    (c.begin.ensures.idle (λ e. absurd (cc)))
    (c.sessions_stay.ensures.stays (marking_of physics)) c.remaining_bytes_are_genuine.ensures.stay
