use Rattle.std.proofs.Common.{rules, ◌≡◌, ℕ, length, subst}
use Rattle.dn_world.specs.Plane.{walking}
use Rattle.dn_game.specs.{Observed.ObservesAll, Opening.rules_in, Stormed.IsStormed}
use Rattle.dn_netgame.proofs.games.storm_walks.Goals as goal

pub returns-in-Ok : goal.returns-in-Ok
returns-in-Ok g c =
    let a = c.args in
    let all : length c.in_ok-walks.walks.items ≡ a.players = search rules in
    let By : ℕ → Type 0 = λ players.
    (run : IsStormed (λ spots. spots) (rules_in walking a.config players) a.config.settings a.seed a.count
    c.in-Ok.played)
    × ObservesAll g.L.Observer.observes a.observer.now 0 run.events run.answers c.storm_observed.new.observer in
    let seen = c.in-Ok.ensures.run in
    subst By all (seen.run.0, seen.observed)
