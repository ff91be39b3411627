use Rattle.std.proofs.Common.{length}
use Rattle.dn_game.specs.Opening.{rules_in}
use Rattle.dn_game.proofs.Shown.{shows_run, both_ok}
use Rattle.dn_game.proofs.playing.play.Goals as goal

pub returns-clause-run : goal.returns-clause-run
returns-clause-run g c =
    both_ok c.play_observed.result _ _ _ (λ played seen limited.
    shows_run _ (rules_in g.W.World.physics c.args.config (length c.args.worlds.items)) c.args.config.settings
    c.args.config.limit c.args.worlds.items c.args.events.now played seen.run limited)
    c.play_observed.ensures.run c.play_observed.ensures.limits
