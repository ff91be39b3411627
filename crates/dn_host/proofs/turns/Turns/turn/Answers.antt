use Rattle.std.proofs.Common.{◌≡◌, ℕ, Bool, Result, Err, refl, sym, ap, ◌∙◌, subst, rules}
use Rattle.dn_session.specs.{declared.session.Session.Session, Session.meeting, Session.PassesTo}
use Rattle.dn_host.specs.{declared.ends.HostFault.HostFault, declared.turns.Turns.Turns, Telling.Sight, Telling.Tells, Turns.stage_of, Turns.IsTurn, Turns.SendsAll}
use Rattle.dn_host.proofs.turns.Turns.turn.Goals as goal

pub returns-clause-turn : goal.returns-clause-turn
returns-clause-turn g c =
    let heard = c.hear_all-is_busy.new in
    let passed : PassesTo _ (meeting heard.session) (meeting c.poll.new.self) =
    subst (λ (n : ℕ). PassesTo n (meeting heard.session) (meeting c.poll.new.self)) c.millis.ensures
    c.poll.ensures.passes in
    let screen = c.args.screen.now in
    let sights : (stage_of c.play_on.new.self heard.wire screen).sight ≡ (stage_of c.args.self.now heard.wire screen).sight =
    ap (λ (t : Turns). (stage_of t heard.wire screen).sight) c.play_on.ensures.rest
    ∙ ap (λ (t : Turns). (stage_of t heard.wire screen).sight) c.begin.ensures.rest in
    let told = subst (λ (s : Session). Tells g.S.Screen.shows g.S.Screen.waits g.S.Screen.misses c.args.now (meeting s)
    c.play_on.new.self.game (stage_of c.play_on.new.self heard.wire screen).sight c.tell.new.self.game
    (stage_of c.tell.new.self heard.wire c.tell.new.screen).sight) (sym c.tell.ensures.session) c.tell.ensures.tells in (
      record { session = meeting heard.session; game = heard.game; wire = heard.wire },
      c.hear_all-is_busy.ensures.0,
      c.hear_all-is_busy.result,
      c.hear_all-is_busy.ensures.1,
      meeting c.poll.new.self,
      passed,
      (
        meeting c.begin.new.self.session,
        c.begin.new.self.game,
        c.in_ok-begin.ensures.starts,
        meeting c.play_on.new.self.session,
        c.play_on.new.self.game,
        c.play_on.ensures.plays,
        subst (λ (s : Session). SendsAll g.W.Wire.sends (meeting c.play_on.new.self.session) heard.wire (meeting s)
            c.send_all.new.wire) (sym c.tell.ensures.session) c.send_all.ensures,
        subst (λ (s : Sight g.row.S.Denot). Tells g.S.Screen.shows g.S.Screen.waits g.S.Screen.misses c.args.now
            (meeting c.tell.new.self.session) c.play_on.new.self.game s c.tell.new.self.game
            (stage_of c.tell.new.self heard.wire c.tell.new.screen).sight) sights told,
        refl,
      ),
    )

pub returns-in_err-begin-clause-turn : goal.returns-in_err-begin-clause-turn
returns-in_err-begin-clause-turn g c =
    let heard = c.hear_all-is_busy.new in
    let passed : PassesTo _ (meeting heard.session) (meeting c.poll.new.self) =
    subst (λ (n : ℕ). PassesTo n (meeting heard.session) (meeting c.poll.new.self)) c.millis.ensures
    c.poll.ensures.passes in
    let lacks = c.in_err-begin.ensures.fault in
    let broken : c.from_residual.result ≡ Err c.in_err-begin.field-0.0 = search rules in
    let from = stage_of c.args.self.now c.args.wire.now c.args.screen.now in
    let to = stage_of c.begin.new.self heard.wire c.args.screen.now in
    let turn : IsTurn g.W.Wire.sends g.W.Wire.polls g.S.Screen.shows g.S.Screen.waits g.S.Screen.misses c.args.self.now.plan
    c.args.now from to (Err c.in_err-begin.field-0.0) = (
      record { session = meeting heard.session; game = heard.game; wire = heard.wire },
      c.hear_all-is_busy.ensures.0,
      c.hear_all-is_busy.result,
      c.hear_all-is_busy.ensures.1,
      meeting c.poll.new.self,
      passed,
      (
        lacks.2.0,
        lacks.2.1,
        (λ i. record { session = meeting c.begin.new.self.session; game = lacks.1 i; wire = heard.wire }),
        ap (λ (t : Turns). (stage_of t heard.wire c.args.screen.now).sight) c.begin.ensures.rest,
        lacks.0,
      ),
    ) in
    subst (λ (r : Result Bool HostFault). IsTurn g.W.Wire.sends g.W.Wire.polls g.S.Screen.shows g.S.Screen.waits
    g.S.Screen.misses c.args.self.now.plan c.args.now from to r) (sym broken) turn
