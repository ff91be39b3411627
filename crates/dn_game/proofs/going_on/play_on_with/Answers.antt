use Rattle.std.proofs.Common.{length, refl, subst}
use Rattle.dn_demo.specs.Recorded.{capacity}
use Rattle.dn_game.specs.{Contents.contents, Opening.rules_in, Rounds.IsUnsent}
use Rattle.dn_tic.specs.Inputs.{input_of}
use Rattle.dn_game.proofs.{Continuing.{has_played_on, same_round}, Framing.limits_stay}
use Rattle.dn_game.proofs.going_on.play_on_with.Goals as goal

pub returns-in-Ok-good_rounds_with-clause-promised : goal.returns-in-Ok-good_rounds_with-clause-promised
returns-in-Ok-good_rounds_with-clause-promised g c =
    let config = c.args.config in
    let players = length c.args.worlds.items in
    let run = c.in-Ok.ensures.run.run in
    let good = c.in-Ok-good_rounds_with.ensures.good players config.extra (capacity config.limit players) run.0.last
    run.0.game in
    has_played_on g.W.World.state (rules_in g.W.World.physics config players) config.settings c.args.worlds.items
    c.args.events.now (input_of c.args.inputs.now) c.args.rounds c.in-Ok.played _ run c.in-Ok.ensures.admitted.0.0
    good.0 c.good_rounds_with.ensures.continues.more good.1 refl refl

pub returns-in-Err-good_rounds_with-clause-stopped : goal.returns-in-Err-good_rounds_with-clause-stopped
returns-in-Err-good_rounds_with-clause-stopped g c fault is =
    let config = c.args.config in
    let players = length c.args.worlds.items in
    let first = c.in-Ok.ensures.run.run.0 in
    let at = c.in-Err-good_rounds_with.ensures.good players config.extra (capacity config.limit players) first.last
    first.game in
    record {
      before = c.in-Ok.played;
      first = first;
      left = contents c.good_rounds_with.new.self;
      unsent = subst (IsUnsent (contents c.good_rounds_with.new.self)) (same_round _ fault _ refl is) at.0;
      cut = at.1;
    }

pub returns-in-Ok-good_rounds_with-clause-limits : goal.returns-in-Ok-good_rounds_with-clause-limits
returns-in-Ok-good_rounds_with-clause-limits g c =
    limits_stay _ _ _ c.good_rounds_with.ensures.continues.whose c.in-Ok.ensures.limits
