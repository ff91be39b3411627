use Rattle.std.specs.String.{string_bytes}
use Rattle.dn_netgame.proofs.Tracing.{scripted}
use Rattle.dn_netgame.proofs.telling.ScriptTeller.finish.Goals as goal

pub returns : goal.returns
returns c = λ new events answers empty told.
    scripted (λ script. string_bytes script.0) new c.args.self events answers empty told
