use Rattle.std.proofs.Common.{[], ◌∷◌, codes}
use Rattle.std.proofs.lemmas.Result.{IfOk-weaker}
use Rattle.dn_program.specs.Commands.{reader_rules, subcommand}
use Rattle.dn_program.proofs.More.{added, one_more}
use Rattle.dn_program.proofs.words.with_readers.Goals as goal

pub returns : goal.returns
returns c =
    IfOk-weaker c.subcommand-4.result _ _
    (λ new adds. one_more _ _ new _ _ (one_more _ _ _ _ _ (one_more _ _ _ (subcommand (codes "show") reader_rules ∷ []) _
    (added _ _ _ _ _ _ c.sub.ensures.app c.sub.ensures.local c.in_ok-with_reader.ensures c.in_ok-show.ensures)
    (added _ _ _ _ _ _ c.sub-2.ensures.app c.sub-2.ensures.local c.in_ok-with_reader-2.ensures c.in_ok-demo.ensures))
    (added _ _ _ _ _ _ c.sub-3.ensures.app c.sub-3.ensures.local c.in_ok-with_reader-3.ensures c.in_ok-rows.ensures))
    (added _ _ _ new _ _ c.sub-4.ensures.app c.sub-4.ensures.local c.in_ok-with_upgrade.ensures adds))
    c.subcommand-4.ensures
