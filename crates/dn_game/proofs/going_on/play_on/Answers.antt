use Rattle.std.proofs.Common.{ℕ, length, subst, IfOk}
use Rattle.dn_tic.specs.declared.input.Input.{Input}
use Rattle.dn_game.specs.{GoingOn.{HasPlayedOn, HasBrokenOff}, Opening.rules_in}
use Rattle.dn_game.proofs.Arriving.{keys_as_inputs}
use Rattle.dn_game.proofs.going_on.play_on.Goals as goal

pub returns-clause-promised : goal.returns-clause-promised
returns-clause-promised g c =
    let P : (ℕ → Input) → Type 0 = λ by. IfOk c.play_on_with.result (λ played. HasPlayedOn g.W.World.state
    (rules_in g.W.World.physics c.args.config (length c.args.worlds.items)) c.args.config.settings
    c.args.worlds.items c.args.events.now by c.args.rounds played) in
    subst P (keys_as_inputs c.args.keys c.pressed.result c.pressed.ensures) c.play_on_with.ensures.promised

pub returns-clause-stopped : goal.returns-clause-stopped
returns-clause-stopped g c fault is =
    let P : (ℕ → Input) → Type 0 = λ by. HasBrokenOff g.W.World.state
    (rules_in g.W.World.physics c.args.config (length c.args.worlds.items)) c.args.config.settings
    c.args.events.now by c.args.rounds fault in
    subst P (keys_as_inputs c.args.keys c.pressed.result c.pressed.ensures) (c.play_on_with.ensures.stopped fault is)
