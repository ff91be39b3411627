use Rattle.std.proofs.Common.{◌++◌, ◌∙◌, ap}
use Rattle.std.proofs.lemmas.Result.{IfOk-weaker}
use Rattle.clap.specs.Simple.{App}
use Rattle.dn_program.specs.Commands.{demos, games, netgame, readers, sessions, with_subcommands}
use Rattle.dn_program.proofs.More.{many_more}
use Rattle.dn_program.proofs.words.netgame.Goals as goal

pub returns : goal.returns
unfolding netgame
returns c =
    IfOk-weaker c.with_sessions.result _ _
    (λ new end. many_more _ _ new ((readers ++ demos) ++ games) sessions
    (many_more _ _ _ (readers ++ demos) games
    (many_more _ _ _ readers demos c.in_ok-readers.ensures c.in_ok-demos.ensures) c.in_ok-games.ensures) end
    ∙ ap (λ (app : App). with_subcommands app (((readers ++ demos) ++ games) ++ sessions)) c.program.ensures)
    c.with_sessions.ensures
