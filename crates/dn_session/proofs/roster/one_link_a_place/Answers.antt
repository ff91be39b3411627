use Rattle.dn_session.proofs.Rosters.{one_link}
use Rattle.dn_session.proofs.roster.one_link_a_place.Goals as goal

pub returns : goal.returns
returns c = one_link
