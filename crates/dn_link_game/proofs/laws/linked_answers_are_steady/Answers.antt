use Rattle.dn_link_game.specs.Playing.{marking_of}
use Rattle.dn_link_game.proofs.Steady.{steady}
use Rattle.dn_link_game.proofs.laws.linked_answers_are_steady.Goals as goal

pub returns : goal.returns
returns g c limits settings seal seen later old new event answer is will =
    let marking = marking_of g.W.World.physics in
    steady g.W.World.state g.W.World.physics limits settings seal seen later old new is will
    (c.remaining_links_agree.ensures.agreed marking limits settings will.session will.links will.game)
    (λ here player other now reason. c.decisions_are_taken.ensures.gave_up marking limits settings is.session here player other
    now reason is.game.game) event answer
