use Rattle.std.specs.Prelude.{◌-◌, Bool}
use Rattle.dn_session.specs.Session.{meeting, Meeting}
use Rattle.dn_host.specs.Turns.{Repeats, SendsNext}
use Rattle.dn_host.proofs.hearing.send_all.Given as goal

-- what may still be sent, behind what was, is all of it
abbrev pub invariant-loop-sent : goal.invariant-loop-sent
invariant-loop-sent g l = (m : Meeting) (w : g.row.W.Denot) (all : Bool)
    → Repeats (SendsNext g.W.Wire.sends) (10 - l.sent) (meeting l.session) l.wire m w all
    → Repeats (SendsNext g.W.Wire.sends) 10 (meeting l.fn.session) l.fn.wire m w all
