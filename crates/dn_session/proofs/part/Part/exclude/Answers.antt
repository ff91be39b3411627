use Rattle.std.proofs.Common.{sym}
use Rattle.dn_session.specs.{Playing.playing, Sent.is_owed_exclusion}
use Rattle.dn_session.proofs.Firsts.{first_passes}
use Rattle.dn_session.proofs.part.Part.exclude.Goals as goal

pub exclude_one-requires-clause-owed : goal.exclude_one-requires-clause-owed
exclude_one-requires-clause-owed c =
    first_passes (is_owed_exclusion (playing c.args.self.now)) c.in-Some.player (sym c.in-Some.ensures.value)
