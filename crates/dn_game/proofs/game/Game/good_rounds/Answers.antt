use Rattle.std.proofs.Common.{ℕ, subst}
use Rattle.dn_tic.specs.declared.input.Input.{Input}
use Rattle.dn_machine.specs.{Progress.good_rounds, Worlds.rules_of}
use Rattle.dn_game.specs.{Contents.contents, Rounds.{rounds_events, IsCarriedOut}}
use Rattle.dn_game.proofs.Arriving.{keys_as_inputs}
use Rattle.dn_game.proofs.game.Game.good_rounds.Goals as goal

pub returns-clause-good : goal.returns-clause-good
returns-clause-good g c players extra capacity m r =
    let rules = rules_of g.W.World.physics players extra capacity in
    let P : (ℕ → Input) → Type 0 = λ by. IsCarriedOut g.W.World.state rules m
    (rounds_events rules (λ round. by) c.args.count m) (good_rounds rules (λ round. by) c.args.count m)
    (contents c.args.self.now) (contents c.good_rounds_with.new.self) c.good_rounds_with.result in
    subst P (keys_as_inputs c.args.keys c.pressed.result c.pressed.ensures)
    (c.good_rounds_with.ensures.good players extra capacity m r)
