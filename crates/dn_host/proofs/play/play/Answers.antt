use Rattle.std.proofs.Common.{◌≡◌, ◌<◌, ◌≤◌, ◌-◌, ◌^◌, ℕ, Err, Ok, Result, inl, inr, true, refl, sym, ap, ◌∙◌, subst, rules}
use Rattle.dn_host.specs.{declared.ends.HostFault.HostFault, declared.ends.Outcome.Outcome, declared.turns.Turns.Turns, Outcomes.EndsBy, Outcomes.GoesOn, Outcomes.IsLeftOf, Turns.stage_of}
use Rattle.dn_host.specs.declared.ends.HostFault.TheVariants as fault
use Rattle.dn_host.proofs.{Played.at_last, Played.never, Played.turned, Turned.done_again}
use Rattle.dn_host.proofs.play.play.Goals as goal

pub loop-taken-init : goal.loop-taken-init
loop-taken-init g c = (λ r b y all rest. rest, ap (λ (t : Turns). t.plan) c.new-turns.ensures)

pub loop-taken-preserved : goal.loop-taken-preserved
loop-taken-preserved g c =
    let below : c.loop-taken.taken < 2 ^ 64 - 1 = search rules in
    let a = stage_of c.loop-taken.turns c.loop-taken.wire c.loop-taken.screen in
    let d = stage_of c.turn.new.self c.turn.new.wire c.turn.new.screen in
    let turn = turned g.W.Wire.sends g.W.Wire.polls g.S.Screen.shows g.S.Screen.waits g.S.Screen.misses g.Y.System.reads g.Y.System.naps c.args.plan.now c.loop-taken.turns.plan c.saturating_sub-now.result
    (c.in-Some-time.time - c.in-Some.start) a d (Ok c.in_ok-is_busy.is_busy) c.loop-taken.invariant.1 c.saturating_sub-now.ensures
    c.in_ok-is_busy.ensures.turn in (
      λ r b y all rest. c.loop-taken.invariant.0 r b y all (done_again
          (GoesOn g.W.Wire.sends g.W.Wire.polls g.S.Screen.shows g.S.Screen.waits g.S.Screen.misses g.Y.System.reads g.Y.System.naps c.args.plan.now c.in-Some.start r) (2 ^ 64 - 1) c.loop-taken.taken a
          c.loop-taken.system true d c.rest.new.system below refl (
            c.in-Some-time.time,
            c.time-in-loop-taken.new.self,
            c.in-Some-time.ensures,
            c.in_ok-is_busy.is_busy,
            turn,
            sym c.ending.ensures ∙ c.in-None.is,
            c.rest.ensures,
          ) b y all rest),
      c.turn.ensures.plan ∙ c.loop-taken.invariant.1,
    )

pub returns-in_default-clause-played : goal.returns-in_default-clause-played
returns-in_default-clause-played g c = inl (c.in_default.ensures, refl, refl, refl)

pub returns-in_default-time-clause-played : goal.returns-in_default-time-clause-played
returns-in_default-time-clause-played g c =
    let below : c.loop-taken.taken < 2 ^ 64 - 1 = search rules in
    let a = stage_of c.loop-taken.turns c.loop-taken.wire c.loop-taken.screen in
    at_last g.W.Wire.sends g.W.Wire.polls g.S.Screen.shows g.S.Screen.waits g.S.Screen.misses g.Y.System.reads g.Y.System.naps c.args.plan.now c.args.session c.new-turns.result c.args.wire.now c.args.screen.now
    c.in-Some.start c.loop-taken.taken (Err fault.Clock) c.args.system.now c.time.new.self a c.loop-taken.system
    c.new-turns.ensures c.in-Some.ensures a c.time-in-loop-taken.new.self below
    (c.loop-taken.invariant.0 (Err fault.Clock) a c.time-in-loop-taken.new.self _) (inl (c.in_default-time.ensures, refl, refl))

pub returns-in_err-is_busy-clause-played : goal.returns-in_err-is_busy-clause-played
returns-in_err-is_busy-clause-played g c =
    let below : c.loop-taken.taken < 2 ^ 64 - 1 = search rules in
    let broken : c.from_residual.result ≡ Err c.in_err-is_busy.field-0.0 = search rules in
    let since = c.in-Some-time.time - c.in-Some.start in
    let a = stage_of c.loop-taken.turns c.loop-taken.wire c.loop-taken.screen in
    let d = stage_of c.turn.new.self c.turn.new.wire c.turn.new.screen in
    let turn = turned g.W.Wire.sends g.W.Wire.polls g.S.Screen.shows g.S.Screen.waits g.S.Screen.misses g.Y.System.reads g.Y.System.naps c.args.plan.now c.loop-taken.turns.plan c.saturating_sub-now.result
    since a d (Err c.in_err-is_busy.field-0.0) c.loop-taken.invariant.1 c.saturating_sub-now.ensures
    c.in_err-is_busy.ensures.turn in
    let ends = subst (λ (r : Result Outcome HostFault). EndsBy g.W.Wire.sends g.W.Wire.polls g.S.Screen.shows g.S.Screen.waits g.S.Screen.misses g.Y.System.reads g.Y.System.naps c.args.plan.now since a d r) (sym broken) turn in
    at_last g.W.Wire.sends g.W.Wire.polls g.S.Screen.shows g.S.Screen.waits g.S.Screen.misses g.Y.System.reads g.Y.System.naps c.args.plan.now c.args.session c.new-turns.result c.args.wire.now c.args.screen.now
    c.in-Some.start c.loop-taken.taken c.from_residual.result c.args.system.now c.time.new.self a c.loop-taken.system
    c.new-turns.ensures c.in-Some.ensures d c.time-in-loop-taken.new.self below
    (c.loop-taken.invariant.0 c.from_residual.result d c.time-in-loop-taken.new.self _)
    (inr (c.in-Some-time.time, c.in-Some-time.ensures, ends))

pub returns-in-Some-ending-clause-played : goal.returns-in-Some-ending-clause-played
returns-in-Some-ending-clause-played g c =
    let below : c.loop-taken.taken < 2 ^ 64 - 1 = search rules in
    let since = c.in-Some-time.time - c.in-Some.start in
    let a = stage_of c.loop-taken.turns c.loop-taken.wire c.loop-taken.screen in
    let d = stage_of c.turn.new.self c.turn.new.wire c.turn.new.screen in
    let turn = turned g.W.Wire.sends g.W.Wire.polls g.S.Screen.shows g.S.Screen.waits g.S.Screen.misses g.Y.System.reads g.Y.System.naps c.args.plan.now c.loop-taken.turns.plan c.saturating_sub-now.result
    since a d (Ok c.in_ok-is_busy.is_busy) c.loop-taken.invariant.1 c.saturating_sub-now.ensures
    c.in_ok-is_busy.ensures.turn in
    let left = subst (λ (n : ℕ). IsLeftOf n d.scene.session d.scene.game c.outcome.result) c.saturating_sub-now.ensures
    (c.outcome.ensures (sym c.ending.ensures ∙ c.in-Some-ending.is)) in
    at_last g.W.Wire.sends g.W.Wire.polls g.S.Screen.shows g.S.Screen.waits g.S.Screen.misses g.Y.System.reads g.Y.System.naps c.args.plan.now c.args.session c.new-turns.result c.args.wire.now c.args.screen.now
    c.in-Some.start c.loop-taken.taken (Ok c.outcome.result) c.args.system.now c.time.new.self a c.loop-taken.system
    c.new-turns.ensures c.in-Some.ensures d c.time-in-loop-taken.new.self below
    (c.loop-taken.invariant.0 (Ok c.outcome.result) d c.time-in-loop-taken.new.self _)
    (inr (c.in-Some-time.time, c.in-Some-time.ensures, (c.in_ok-is_busy.is_busy, turn, left)))

pub returns-clause-played : goal.returns-clause-played
returns-clause-played g c =
    let reached : 2 ^ 64 - 1 ≤ c.loop-taken.taken = search rules in
    let a = stage_of c.loop-taken.turns c.loop-taken.wire c.loop-taken.screen in
    never g.W.Wire.sends g.W.Wire.polls g.S.Screen.shows g.S.Screen.waits g.S.Screen.misses g.Y.System.reads g.Y.System.naps c.args.plan.now c.args.session c.new-turns.result c.args.wire.now c.args.screen.now
    c.in-Some.start c.loop-taken.taken (Err fault.Clock) c.args.system.now c.time.new.self a c.loop-taken.system
    c.new-turns.ensures c.in-Some.ensures reached refl
    (c.loop-taken.invariant.0 (Err fault.Clock) a c.loop-taken.system _)
