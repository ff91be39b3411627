use Rattle.std.proofs.Common.{◌≡◌, [], ◌∷◌, ◌++◌, ap, sym, ◌∙◌, arith, length, length-append, subst}
use Rattle.std.specs.Prelude.{All}
use Rattle.std.proofs.lemmas.List.Elements.{All-push}
use Rattle.dn_engine_tests.specs.declared.engine.Engine.{Engine}
use Rattle.dn_engine_tests.proofs.Opening.{IsNew, opened}
use Rattle.dn_engine_tests.proofs.playing.open_table.Goals as goal

pub loop-world-preserved : goal.loop-world-preserved
loop-world-preserved g c =
    let before = c.loop-world.invariant in
    let secret = c.args.host.now.secret in
    let engines = c.loop-world.engines.items in
    let engine : Engine g.row.W.Denot =
    record { session = c.in_ok-session.session; world = c.in-Some.world; told = c.new.result } in
    let pushed : c.push_reserved.new.self.items ≡ engines ++ engine ∷ [] = c.push_reserved.ensures.items in (
      before.0,
      before.1,
      omega (arith, ap length pushed ∙ length-append engines (engine ∷ []), before.2, c.in-Some.ensures.steps.1),
      subst (All (IsNew secret)) (sym pushed)
          (All-push (IsNew secret) engines engine before.3 (c.in_ok-session.ensures, c.new.ensures.items)),
      c.push_reserved.ensures.capacity ∙ before.4,
    )

pub returns : goal.returns
returns g c =
    opened g.W.World.state g.W.World.physics c.args.host.now.secret _ c.loop-world.invariant.3 c.new-2.ensures.items
