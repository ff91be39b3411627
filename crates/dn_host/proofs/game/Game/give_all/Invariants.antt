use Rattle.std.specs.Prelude.{◌-◌, Bool}
use Rattle.dn_session.specs.Session.{meeting, Meeting}
use Rattle.dn_host.specs.{declared.game.Game.Game, Turns.Gives, Turns.Repeats}
use Rattle.dn_host.proofs.game.Game.give_all.Given as goal

-- what may still be done, behind what was, is all of it
abbrev pub invariant-loop-given : goal.invariant-loop-given
invariant-loop-given l = (b : Game) (m : Meeting) (all : Bool)
    → Repeats (Gives l.now) (32 - l.given) l.self (meeting l.session) b m all
    → Repeats (Gives l.now) 32 l.fn.self (meeting l.fn.session) b m all
