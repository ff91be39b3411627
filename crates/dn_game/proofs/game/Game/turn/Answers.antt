use Rattle.std.proofs.Common.{◌∙◌, rules, ◌≡◌, ◌<◌, [], ◌∷◌, Err, refl, arith}
use Rattle.dn_machine.specs.{declared.events.Event.TheVariants.Run, Game.Game, Progress.{after, build_of, in_order, exchange, turn}, Worlds.rules_of}
use Rattle.dn_game.specs.{Contents.contents, Rounds.{events_in_order, exchange_events}}
use Rattle.dn_game.proofs.{Rounding.{after_exchange, flights_on, idle_one, continues_on, continues_one, continues_same}, Arriving.{after_other, build_idle, built, goes_on, ends, ended, turn_idle, within}}
use Rattle.dn_game.proofs.game.Game.turn.Goals as goal

pub loop-to-init : goal.loop-to-init
unfolding in_order
loop-to-init g c = (
  λ players extra capacity m r. (
    built _ (rules_of g.W.World.physics players extra capacity) _ _ m c.args.node c.args.input _ _
        c.build_of.ensures (c.apply.ensures.leads.applied players extra capacity m r),
    λ i never. refl,
  ),
  continues_same _,
)

pub loop-to-preserved : goal.loop-to-preserved
loop-to-preserved g c = (
  λ players extra capacity m r.
      let rules = rules_of g.W.World.physics players extra capacity in
      let taken = c.loop-to.invariant.0 players extra capacity m r in
      let node = c.args.node in
      goes_on _ rules (exchange rules node) (exchange_events node) (after_exchange rules node) _
      (contents c.apply.new.self) (contents c.loop-to.self) (contents c.exchange.new.self) c.loop-to.to
      c.exchange.result taken c.exchange.ensures.continues.more
      (c.exchange.ensures.good players extra capacity _ taken.0) _ c.in_ok-exchange.was,
  continues_on _ _ _ c.loop-to.invariant.1 c.exchange.ensures.continues,
)

pub returns-in_err-exchange-clause-good : goal.returns-in_err-exchange-clause-good
returns-in_err-exchange-clause-good g c players extra capacity m r =
    let same : c.from_residual.result ≡ Err c.in_err-exchange.field-0.0 = search rules in
    let rules = rules_of g.W.World.physics players extra capacity in
    let node = c.args.node in
    let old = contents c.args.self.now in
    let begun = contents c.apply.new.self in
    let left = contents c.exchange.new.self in
    let first = build_of node c.args.input in
    let mid : Game = after rules first m in
    let sends = events_in_order (exchange rules node) (exchange_events node) players mid in
    let taken = c.loop-to.invariant.0 players extra capacity m r in
    let one = c.exchange.ensures.good players extra capacity _ taken.0 in
    let applied = c.apply.ensures.leads.applied players extra capacity m r in
    let now = built _ rules old begun m node c.args.input _ _ c.build_of.ensures applied in
    let idle = build_idle _ rules old begun m node c.args.input _ _ c.build_of.ensures c.apply.ensures.rest applied in
    let count = c.players-to-end.ensures.value ∙ now.players in
    let below : c.loop-to.to < players = omega (arith, c.loop-to-test.true, c.loop-to.auto.to-end, count) in
    let at = ends _ rules (exchange rules node) (exchange_events node) (after_exchange rules node) mid begun
    (contents c.loop-to.self) left c.loop-to.to c.exchange.result taken c.exchange.ensures.continues.more one players
    below _ c.in_err-exchange.was in
    ended _ rules _ m _ old left _ _ same (
      at.0,
      within _ rules (first ∷ []) sends (Run node ∷ []) m mid old begun left refl idle
          (flights_on _ _ _ c.loop-to.invariant.1.more c.exchange.ensures.continues.more) at.1,
    )

pub returns-clause-good : goal.returns-clause-good
unfolding turn
returns-clause-good g c players extra capacity m r =
    let rules = rules_of g.W.World.physics players extra capacity in
    let node = c.args.node in
    let old = contents c.args.self.now in
    let begun = contents c.apply.new.self in
    let asked = contents c.loop-to.self in
    let applied = c.apply.ensures.leads.applied players extra capacity m r in
    let now = built _ rules old begun m node c.args.input _ _ c.build_of.ensures applied in
    let idle = build_idle _ rules old begun m node c.args.input _ _ c.build_of.ensures c.apply.ensures.rest applied in
    let count = c.players-to-end.ensures.value ∙ now.players in
    let all : c.loop-to.to ≡ players = omega (arith, c.loop-to-test.false, c.loop-to.auto.to-end, count) in
    let taken = rw all at (c.loop-to.invariant.0 players extra capacity m r) in
    let last = c.apply-2.ensures.leads.applied players extra capacity _ taken.0 in (
      after_other _ rules _ _ _ _ _ refl last,
      turn_idle _ rules node c.args.input m old begun asked (contents c.apply-2.new.self) idle
          (flights_on _ _ _ c.loop-to.invariant.1.more c.apply-2.ensures.rest.more) taken c.apply-2.ensures.rest.more
          (idle_one rules _ _ (Run node) _ asked (contents c.apply-2.new.self) c.apply-2.ensures.rest last),
    )

pub returns-in_err-exchange-clause-continues : goal.returns-in_err-exchange-clause-continues
returns-in_err-exchange-clause-continues g c =
    continues_on _ c.apply.new.self _ (continues_one _ _ c.apply.ensures.whose c.apply.ensures.grown c.apply.ensures.rest.more)
    (continues_on _ c.loop-to.self _ c.loop-to.invariant.1 c.exchange.ensures.continues)

pub returns-clause-continues : goal.returns-clause-continues
returns-clause-continues g c =
    let last = c.apply-2.ensures in
    continues_on _ c.apply.new.self _ (continues_one _ _ c.apply.ensures.whose c.apply.ensures.grown c.apply.ensures.rest.more)
    (continues_on _ c.loop-to.self _ c.loop-to.invariant.1 (continues_one _ _ last.whose last.grown last.rest.more))
