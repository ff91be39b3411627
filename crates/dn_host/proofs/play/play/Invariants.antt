use Rattle.std.specs.Prelude.{◌≡◌, ◌-◌, ◌^◌, Bool, Result}
use Rattle.dn_host.specs.{declared.ends.HostFault.HostFault, declared.ends.Outcome.Outcome, Outcomes.GoesOn, Turns.stage_of, Turns.Repeats, Turns.Stage}
use Rattle.dn_host.proofs.play.play.Given as goal

-- the turns that may still be taken, behind those that were, are all of them
abbrev pub invariant-loop-taken : goal.invariant-loop-taken
invariant-loop-taken g l =
    let Does : Result Outcome HostFault → Stage g.row.W.Denot g.row.S.Denot → g.row.Y.Denot → Bool
    → Stage g.row.W.Denot g.row.S.Denot → g.row.Y.Denot → Type 0 =
    λ r. GoesOn g.W.Wire.sends g.W.Wire.polls g.S.Screen.shows g.S.Screen.waits g.S.Screen.misses g.Y.System.reads
    g.Y.System.naps l.plan l.start r in
    ((r : Result Outcome HostFault) (b : Stage g.row.W.Denot g.row.S.Denot) (y : g.row.Y.Denot) (all : Bool)
    → Repeats (Does r) (2 ^ 64 - 1 - l.taken)
    (stage_of l.turns l.wire l.screen) l.system b y all
    → Repeats (Does r) (2 ^ 64 - 1)
    (stage_of l.initial.turns l.initial.wire l.initial.screen)
    l.initial.system b y all)
    × (l.turns.plan ≡ l.plan)
