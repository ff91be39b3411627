use Rattle.dn_program.proofs.More.{at_last, more}
use Rattle.dn_program.proofs.net_options.with_session.Goals as goal

pub returns : goal.returns
returns c =
    at_last _ _ _ _ _ (more _ _ _ _ _ (more _ _ _ _ _ c.in_ok-with_key_file.ensures c.in_ok-seed.ensures) c.in_ok-seconds.ensures) c.with_raw.ensures
