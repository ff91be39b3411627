use Rattle.std.specs.Prelude.{◌-◌, Bool, ℕ}
use Rattle.dn_session.specs.Session.{meeting}
use Rattle.dn_host.specs.Turns.{HearsNext, Repeats, Scene}
use Rattle.dn_host.proofs.hearing.hear_all.Given as goal

-- what may still come, behind what came, is all of it
abbrev pub invariant-loop-heard : goal.invariant-loop-heard
invariant-loop-heard g l = (b : Scene g.row.W.Denot) (left : ℕ) (busy : Bool)
    → Repeats (HearsNext g.W.Wire.sends g.W.Wire.polls l.now) (64 - l.heard)
    (record { session = meeting l.session; game = l.game; wire = l.wire }) l.left b left busy
    → Repeats (HearsNext g.W.Wire.sends g.W.Wire.polls l.now) 64
    (record { session = meeting l.fn.session; game = l.fn.game; wire = l.fn.wire }) 2 b left busy
