use Rattle.std.proofs.Common.{◌≡◌, true, map, subst, IfOk, IfErr}
use Rattle.std.specs.Prelude.{string_bytes}
use Rattle.std.proofs.lemmas.Result.{IfOk-weaker}
use Rattle.clap.specs.Simple.{App, HasMatchesOf}
use Rattle.clap.specs.Takes.{takes}
use Rattle.clap.specs.Values.{kind_of}
use Rattle.clap.specs.declared.error.kind.ErrorKind.TheVariants.{OutOfMemory}
use Rattle.dn_program.proofs.More.{simple}
use Rattle.dn_program.proofs.words.matches_of.Goals as goal

pub returns-clause-read : goal.returns-clause-read
returns-clause-read c =
    let words = map string_bytes c.args.words.now in
    let result = c.try_get_matches_from.result in
    let of_app = subst (λ (app : App). IfOk result (HasMatchesOf app words)) c.in_ok-netgame.ensures
    c.try_get_matches_from.ensures.matches in
    IfOk-weaker result _ _ (λ matches has. has simple) of_app

pub returns-clause-passes : goal.returns-clause-passes
returns-clause-passes c =
    let words = map string_bytes c.args.words.now in
    subst (λ (app : App). IfErr c.try_get_matches_from.result (λ e. takes app words ≡ true → kind_of e ≡ OutOfMemory))
    c.in_ok-netgame.ensures c.try_get_matches_from.ensures.passes
