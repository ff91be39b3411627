use Rattle.std.proofs.Common.{[], ◌∷◌, ◌++◌, length, take, ap, refl, sym, ◌∙◌, arith}
use Rattle.std.proofs.lemmas.List.{take_all, take_more, length-take-le}
use Rattle.dn_machine.specs.declared.events.Event.{Event}
use Rattle.dn_game.specs.Opening.{rules_in}
use Rattle.dn_game.proofs.{Answering.{as_many, none_played, played_more}, Giving.{given_more, same_at}, Observed.{observes_more, played_agrees}, Rounding.{none_within, stays}, Framing.limits_stay}
use Rattle.dn_game.proofs.playing.play_observed.Goals as goal

pub loop-event-init : goal.loop-event-init
loop-event-init g c = rw c.new-played.ensures (
  refl,
  (
    none_played _ _ _ _ c.in_ok-game.ensures.opened refl refl,
    refl,
    λ i never. same_at _ _ i c.in_ok-game.ensures.given,
  ),
  c.in_ok-game.ensures.limits,
  none_within _ _ c.in_ok-game.ensures.room,
)

pub loop-event-preserved : goal.loop-event-preserved
loop-event-preserved g c =
    let before = c.loop-event.invariant in
    let config = c.args.config in
    let events = c.args.events.now in
    let at = c.loop-event.event-index in
    let next = c.apply_observed.new.self in
    let told = c.in_ok-apply_observed.ensures.told in
    let counted = c.in_ok-apply_observed.ensures.counted in
    let one = told.applied in
    let longer = take_more events at c.event-item.result c.loop-event-test.true
    ∙ ap (λ (event : Event). take at events ++ event ∷ []) (sym c.event-item.is) in
    let more = played_more _ _ config.settings (take at events) _ _ c.loop-event.played next before.1.0
    (one.applied _ _ _ before.1.0.last before.1.0.game) one.done one.refused in (
      omega (arith, counted, before.0),
      rw longer (
        more,
        observes_more g.L.Observer.observes (take at events) before.1.0.answers _ _ 0 _ _ _ _ before.1.1
            (omega (arith, before.0, length-take-le at events (omega (arith, c.loop-event-test.true))))
            told.observed,
        given_more _ _ _ _ one.rest c.args.worlds.items (take at events) before.1.0.answers
            (as_many _ (take at events) before.1.0.answers _ before.1.0.last before.1.0.plays) before.1.2,
      ),
      limits_stay _ _ _ c.apply_observed.ensures.whose before.2,
      stays _ _ _ _ c.apply_observed.ensures.grown one.rest.more before.3,
    )

pub returns-clause-agreed : goal.returns-clause-agreed
returns-clause-agreed g c =
    let rules = rules_in g.W.World.physics c.args.config (length c.args.worlds.items) in
    played_agrees _ rules c.args.config.settings c.loop-event.played _ c.loop-event.invariant.1.0

pub returns-clause-run : goal.returns-clause-run
returns-clause-run g c =
    let all = rw (take_all c.loop-event.event-index c.args.events.now c.loop-event-test.false)
    at c.loop-event.invariant.1 in
    record { run = (all.0, all.2); observed = all.1 }
