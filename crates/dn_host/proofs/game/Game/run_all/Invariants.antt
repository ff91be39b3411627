use Rattle.std.specs.Prelude.{◌-◌, Bool}
use Rattle.dn_session.specs.Session.{meeting, Meeting}
use Rattle.dn_host.specs.{declared.game.Game.Game, Turns.Runs, Turns.Repeats}
use Rattle.dn_host.proofs.game.Game.run_all.Given as goal

-- what may still be done, behind what was, is all of it
abbrev pub invariant-loop-ran : goal.invariant-loop-ran
invariant-loop-ran l = (b : Game) (m : Meeting) (all : Bool)
    → Repeats (Runs l.now) (32 - l.ran) l.self (meeting l.session) b m all
    → Repeats (Runs l.now) 32 l.fn.self (meeting l.fn.session) b m all
