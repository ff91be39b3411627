use Rattle.dn_session.proofs.{Rosters.ones_game, Rosters.ones_own}
use Rattle.dn_session.proofs.roster.places_are_ones_own.Goals as goal

pub returns-clause-game : goal.returns-clause-game
returns-clause-game c = ones_game

pub returns-clause-own : goal.returns-clause-own
returns-clause-own c = ones_own
