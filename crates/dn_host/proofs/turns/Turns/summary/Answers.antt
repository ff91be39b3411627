use Rattle.std.proofs.Common.{ℕ, List, Option, Some, ap, sym, subst, ◌∙◌}
use Rattle.std.specs.{Prelude.unwrap_or, Option.option_map}
use Rattle.dn_link.specs.{declared.link.Link.Link, Linking.linked, Pacing.pace_of}
use Rattle.dn_measure.specs.{declared.measure.Told.Told, Measure.IsMeasureOf, Measure.IsSummaryOf}
use Rattle.dn_session.specs.{Coming.lines_in, declared.side.Begun.Begun, Session.link_in}
use Rattle.dn_host.specs.{declared.game.Game.Game, Arrived.came_of_each, Outcomes.SumsUp}
use Rattle.dn_host.proofs.turns.Turns.summary.Goals as goal

pub returns : goal.returns
returns c =
    let begun = sym c.begun.ensures ∙ c.in_ok-begun.was in
    let game = sym c.as_ref.ensures.value ∙ ap (option_map _) c.in_ok-game.was in
    let link = sym c.link.ensures ∙ ap (option_map _) c.in_ok-link.was in
    let lines = lines_in (linked c.in_ok-link.link.now) (pace_of c.in_ok-link.link.now) in
    let own : (start : ℕ) (told : List Told) → IsMeasureOf c.in_ok-game.game.now.counts.measure start told
    → IsSummaryOf start told (unwrap_or c.in_ok-game.game.now.left c.args.now) c.in_ok-begun.begun.terms.rate
    (came_of_each lines c.in_ok-game.game.now.counts.late) c.summary.result =
    λ start told is. subst (λ (n : ℕ). IsSummaryOf start told n c.in_ok-begun.begun.terms.rate
    (came_of_each lines c.in_ok-game.game.now.counts.late) c.summary.result) c.unwrap_or-end.ensures
    (c.summary.ensures start told is) in
    subst (λ (b : Option Begun). SumsUp c.args.now b c.args.self.now.game (link_in c.args.self.now.session.part)
    (Some c.summary.result)) (sym begun)
    (subst (λ (g : Option Game). SumsUp c.args.now (Some c.in_ok-begun.begun) g (link_in c.args.self.now.session.part)
    (Some c.summary.result)) (sym game)
    (subst (λ (l : Option Link). SumsUp c.args.now (Some c.in_ok-begun.begun) (Some c.in_ok-game.game.now) l
    (Some c.summary.result)) (sym link) (c.in_ok-game.game.now.counts.measured, own)))
