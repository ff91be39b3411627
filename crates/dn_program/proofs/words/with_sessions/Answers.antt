use Rattle.std.proofs.Common.{[], ◌∷◌, codes}
use Rattle.std.proofs.lemmas.Result.{IfOk-weaker}
use Rattle.dn_program.specs.Commands.{host_rules, subcommand}
use Rattle.dn_program.proofs.More.{added, one_more}
use Rattle.dn_program.proofs.words.with_sessions.Goals as goal

pub returns : goal.returns
returns c =
    IfOk-weaker c.subcommand-3.result _ _
    (λ new adds. one_more _ _ new _ _ (one_more _ _ _ (subcommand (codes "host") host_rules ∷ []) _
    (added _ _ _ _ _ _ c.sub.ensures.app c.sub.ensures.local c.in_ok-with_host.ensures c.in_ok-host.ensures)
    (added _ _ _ _ _ _ c.sub-2.ensures.app c.sub-2.ensures.local c.in_ok-with_join.ensures c.in_ok-join.ensures))
    (added _ _ _ new _ _ c.sub-3.ensures.app c.sub-3.ensures.local c.in_ok-with_key.ensures adds))
    c.subcommand-3.ensures
