use Rattle.std.proofs.Common.{refl}
use Rattle.dn_game.proofs.Freshening.{opens}
use Rattle.dn_game.proofs.game.Game.new.Goals as goal

pub returns-clause-opened : goal.returns-clause-opened
returns-clause-opened g c =
    opens _ _ refl c.args.config.settings _ c.new.result.flights c.in_ok-nodes_of.ensures.one_each
    c.in_ok-nodes_of.ensures.opened c.new.ensures.flights
