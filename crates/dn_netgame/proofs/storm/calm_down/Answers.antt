use Rattle.std.proofs.Common.{ℕ, List, refl, subst}
use Rattle.dn_machine.specs.{Progress.good_rounds, Worlds.rules_of}
use Rattle.dn_game.specs.{Contents.{contents, Represents}, Rounds.{rounds_events, pressed_by, IsUnsent, IsCutShort}}
use Rattle.dn_world.specs.Plane.{walking}
use Rattle.dn_netgame.proofs.storm.calm_down.Goals as goal

pub returns-in-Ok : goal.returns-in-Ok
returns-in-Ok c players extra capacity m r =
    let Calm : List ℕ → Type 0 = λ keys. Represents (λ spots. spots) (rules_of walking players extra capacity)
    (contents c.good_rounds.new.self)
    (good_rounds (rules_of walking players extra capacity) (λ round. pressed_by keys) c.args.calm m) in
    record {
      game = subst Calm c.no_keys.ensures ((c.in-Ok.ensures.good players extra capacity m r).0);
      done = refl;
      refused = refl;
    }

pub returns-in-Err-Packets : goal.returns-in-Err-Packets
returns-in-Err-Packets c players extra capacity m r =
    let rules = rules_of walking players extra capacity in
    let Cut : List ℕ → Type 0 = λ keys. IsCutShort (λ spots. spots) rules
    (rounds_events rules (λ round. pressed_by keys) c.args.calm m) m (contents c.args.played.now.game)
    (contents c.good_rounds.new.self) in
    let at = c.in-Err-Packets.ensures.good players extra capacity m r in
    record { cut = subst Cut c.no_keys.ensures at.1; unsent = subst (IsUnsent (contents c.good_rounds.new.self)) c.in-Err-Packets.field-0-is at.0 }
