use Rattle.dn_session.specs.Playing.{playing}
use Rattle.dn_session.proofs.part.Part.poll.Goals as goal

pub returns : goal.returns
returns c = (playing c.pass.new.self, c.pass.ensures, c.owe_second.ensures)
