use Rattle.dn_session.proofs.Changes.{moved_from}
use Rattle.dn_session.proofs.laws.addresses_move_from_silence.Goals as goal

pub returns : goal.returns
returns c = moved_from
