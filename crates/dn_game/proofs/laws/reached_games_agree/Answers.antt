use Rattle.std.proofs.Common.{refl}
use Rattle.dn_game.proofs.{Headlines.have_agreed, Shown.shows_reached, Standing.window_of, Agreeing.{promised, reached_promised, agreed, applied_steady}}
use Rattle.dn_machine.specs.Worlds.{rules_of}
use Rattle.dn_machine.proofs.Games.{always}
use Rattle.dn_game.proofs.laws.reached_games_agree.Goals as goal

pub returns-clause-headline : goal.returns-clause-headline
returns-clause-headline g c players extra capacity settings events contents reached =
    have_agreed _ (rules_of g.W.World.physics players extra capacity) settings events contents reached

pub returns-clause-promised : goal.returns-clause-promised
returns-clause-promised g c players extra capacity settings events =
    reached_promised _ (rules_of g.W.World.physics players extra capacity) settings events

pub returns-clause-agreed : goal.returns-clause-agreed
returns-clause-agreed g c players extra capacity settings events =
    agreed _ (rules_of g.W.World.physics players extra capacity) settings events

pub returns-clause-steady : goal.returns-clause-steady
returns-clause-steady g c players extra capacity settings events contents reached =
    let rules = rules_of g.W.World.physics players extra capacity in
    applied_steady rules settings reached.last (always rules settings (window_of rules.limits reached.game.vanilla) events reached.last reached.run)

pub returns-clause-answered : goal.returns-clause-answered
returns-clause-answered g c players extra capacity settings events answers contents reached =
    promised _ (rules_of g.W.World.physics players extra capacity) settings events answers reached.last
    contents reached.plays reached.game

pub returns-clause-shown : goal.returns-clause-shown
returns-clause-shown g c players extra capacity settings events contents i n reached at =
    shows_reached _ (rules_of g.W.World.physics players extra capacity) settings n.demo.limit events contents
    reached i n at refl
