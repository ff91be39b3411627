use Rattle.std.proofs.Common.{sym}
use Rattle.dn_session.specs.{Playing.playing, Sent.is_owed_probe}
use Rattle.dn_session.proofs.Firsts.{first_passes}
use Rattle.dn_session.proofs.part.Part.probe_first.Goals as goal

pub probe-requires-clause-owed : goal.probe-requires-clause-owed
probe-requires-clause-owed c =
    first_passes (is_owed_probe (playing c.args.self.now)) c.in-Some.player (sym c.in-Some.ensures.value)
