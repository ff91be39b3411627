use Rattle.std.proofs.{Common.{rules, ◌≡◌, ℕ, length, refl, subst, string_bytes}, lemmas.Result.IfOk-weaker}
use Rattle.dn_world.specs.Plane.{walking}
use Rattle.dn_game.specs.{Observed.IsPlayedObserved, Opening.rules_in}
use Rattle.dn_netgame.specs.SimShown.{ArePlayed}
use Rattle.dn_netgame.proofs.sim.text_of_events.Goals as goal

pub returns-in-Ok : goal.returns-in-Ok
returns-in-Ok g c =
    let a = c.args in
    let all : length c.in_ok-walks.walks.items ≡ a.players = search rules in
    let By : ℕ → Type 0 = λ players. IsPlayedObserved (λ spots. spots) (rules_in walking a.config players)
    g.T.Observer.observes a.config.settings c.in_ok-walks.walks.items a.events.now c.new-teller.result c.play_observed.new.observer c.in-Ok.played in
    let seen = subst By all c.in-Ok.ensures.run in
    let p = seen.run.0 in
    IfOk-weaker c.finish.result _
    (λ t. ArePlayed g.T.Teller.account a.config a.players a.events.now (string_bytes t) 0)
    (λ t has. (c.in-Ok.played, p, has _ a.events.now p.answers c.new-teller.ensures seen.observed, refl))
    c.finish.ensures
