use Rattle.dn_session.proofs.Changes.{heard_at}
use Rattle.dn_session.proofs.laws.heard_is_the_time_of_a_cookie.Goals as goal

pub returns : goal.returns
returns c = heard_at
