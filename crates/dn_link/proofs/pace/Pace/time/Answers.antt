use Rattle.dn_link.specs.Pacing.{state_of}
use Rattle.dn_link.proofs.pace.Pace.time.Goals as goal

pub returns : goal.returns
returns c = λ i. record (state_of c.args.self.now) { congestion = c.tick.ensures i }
