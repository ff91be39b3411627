use Rattle.std.proofs.Common.{ℕ, List, ◌++◌, ap, ◌∙◌, string_bytes}
use Rattle.dn_netgame.specs.Texts.{game_lines}
use Rattle.dn_netgame.proofs.Tracing.{traced}
use Rattle.dn_netgame.proofs.telling.TraceTeller.finish.Goals as goal

pub returns : goal.returns
returns c = λ new events answers empty told.
    c.in_ok-push_game.ensures ∙ ap (λ (t : List ℕ). t ++ game_lines c.args.played.now)
    (traced (λ trace. string_bytes trace.0) new c.args.self events answers empty told)
