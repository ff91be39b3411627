use Rattle.std.proofs.Common.{◌≡◌, ◌∙◌, Option, Some, None, refl, sym, subst, inl, inr, true≢false}
use Rattle.std.specs.Prelude.{IfSome}
use Rattle.std.specs.Option.{option_map}
use Rattle.dn_machine.specs.declared.answers.Ran.{Ran}
use Rattle.dn_link_game.specs.Playing.{marking_of}
use Rattle.dn_session.specs.{Passing.sent_of, Roster.IsSide, Session.GivesPart, Session.GivesUpPart, Session.HearsAny, Session.Meeting, Session.PassesTo, Session.QuitsPart, Session.Sends, Session.meeting, Text.game_seal}
use Rattle.dn_session.specs.declared.part.sending.Transmit.{Transmit}
use Rattle.dn_engine_tests.specs.Engines.{GoesOn, RunsIn, Rests, met}
use Rattle.dn_engine_tests.proofs.Calling.{gave, ran_on, rests_on, same_lobby, silent}
use Rattle.dn_engine_tests.proofs.engine.Engine.call.Goals as goal

pub returns-in-Poll : goal.returns-in-Poll
returns-in-Poll g c =
    let new : Meeting = meeting c.poll.new.self in
    rw c.in-Poll.is (silent g.W.World.state g.W.World.physics None c.args.self.now _
    (c.sessions_keep.ensures.passes c.args.now (met c.args.self.now) new c.poll.ensures.passes) c.poll.ensures.fits refl refl
    (λ secret b history meetings place are below here comes.
    c.sessions_stay.ensures.passes c.args.now (marking_of g.W.World.physics) secret b history meetings place new are below
    (subst (λ (m : Meeting). PassesTo c.args.now m new) (sym here) c.poll.ensures.passes)))

pub returns-in-Give : goal.returns-in-Give
returns-in-Give g c =
    let old : Meeting = met c.args.self.now in
    let new : Meeting = meeting c.give.new.self in
    let input = c.in-Give.input in
    rw c.in-Give.is (silent g.W.World.state g.W.World.physics None c.args.self.now _
    (c.sessions_keep.ensures.gives c.args.now input c.give.result old new c.give.ensures.0 c.give.ensures.1)
    (same_lobby old new c.give.ensures.1) refl refl
    (λ secret b history meetings place are below here comes.
    c.sessions_stay.ensures.gives c.args.now input c.give.result (marking_of g.W.World.physics) secret b history meetings
    place new are below
    (subst (λ (m : Meeting). GivesPart c.args.now input m.part new.part c.give.result) (sym here) c.give.ensures.0)))

pub returns-in-Run : goal.returns-in-Run
returns-in-Run g c =
    let old = c.args.self.now in
    let new = c.run.new.self in
    let state = g.W.World.state in
    let physics = g.W.World.physics in
    let go : (result : Option Ran) → IfSome result (λ ran. RunsIn state physics ran old new)
    → (result ≡ None → Rests state old new) → GoesOn state physics None None old new =
    λ result. elim result as (λ r. IfSome r (λ ran. RunsIn state physics ran old new) → (r ≡ None → Rests state old new)
    → GoesOn state physics None None old new) [
      | None ↦ λ runs idle. rests_on state physics old new (idle refl) (c.sessions_stay.ensures.stays (marking_of physics))
      | Some ran ↦ λ runs idle. ran_on state physics old new ran runs
          (c.sessions_keep.ensures.runs runs.marks ran runs.row (met old) (met new) runs.runs runs.rest)
          (c.sessions_stay.ensures.runs (marking_of physics))
    ] in
    rw c.in-Run.is (go c.run.result c.run.ensures.runs c.run.ensures.idle)

pub returns-in-Some : goal.returns-in-Some
returns-in-Some g c =
    let old : Meeting = met c.args.self.now in
    let new : Meeting = meeting c.transmit.new.self in
    let physics = g.W.World.physics in
    let sent : Option Transmit = Some c.in-Some.sent in
    let sends : Sends old new (option_map sent_of sent) =
    subst (λ (s : Option Transmit). Sends old new (option_map sent_of s)) c.in-Some.is c.transmit.ensures in
    let keeps = c.sessions_keep.ensures.sends old new (option_map sent_of sent) sends in
    rw c.in-Send.is (gave g.W.World.state physics None c.args.self.now _
    keeps.0
    (subst IsSide (sym keeps.1)) refl refl sent c.remaining_bytes_are_genuine.ensures.stay
    (c.sessions_keep.ensures.sent old new (option_map sent_of sent) sends)
    (λ secret b history meetings place are below here.
    c.sessions_stay.ensures.sends (marking_of physics) secret b history meetings place new (option_map sent_of sent) are
    below (subst (λ (m : Meeting). Sends m new (option_map sent_of sent)) (sym here) sends)))

pub returns-in-None : goal.returns-in-None
returns-in-None g c =
    let old : Meeting = met c.args.self.now in
    let new : Meeting = meeting c.transmit.new.self in
    let physics = g.W.World.physics in
    let sends : Sends old new None =
    subst (λ (s : Option Transmit). Sends old new (option_map sent_of s)) c.in-None.is c.transmit.ensures in
    let keeps = c.sessions_keep.ensures.sends old new None sends in
    rw c.in-Send.is (silent g.W.World.state physics None c.args.self.now _
    keeps.0 (subst IsSide (sym keeps.1)) refl refl
    (λ secret b history meetings place are below here comes.
    (c.sessions_stay.ensures.sends (marking_of physics) secret b history meetings place new None are below
    (subst (λ (m : Meeting). Sends m new None) (sym here) sends)).0))

pub returns-in-Hear : goal.returns-in-Hear
returns-in-Hear g c =
    let old : Meeting = met c.args.self.now in
    let new : Meeting = meeting c.receive.new.self in
    let bytes = c.in-Hear.bytes.now in
    rw c.in-Hear.is (silent g.W.World.state g.W.World.physics (Some bytes) c.args.self.now _
    (c.sessions_keep.ensures.hears c.in-Hear.from bytes c.args.now old new c.receive.ensures.hears) c.receive.ensures.fits
    refl refl
    (λ secret b history meetings place are below here comes.
    c.sessions_stay.ensures.hears (marking_of g.W.World.physics) secret b history meetings place c.args.now new
    c.in-Hear.from bytes are below
    (λ other. elim comes [
      | inl greets ↦ absurd (true≢false (sym greets ∙ other))
      | inr sealed ↦ c.remaining_bytes_are_genuine.ensures.genuine (game_seal secret b.game) history place bytes sealed
    ])
    (subst (λ (m : Meeting). HearsAny c.in-Hear.from bytes c.args.now m new) (sym here) c.receive.ensures.hears)))

pub returns-in-GiveUp : goal.returns-in-GiveUp
returns-in-GiveUp g c =
    let old : Meeting = met c.args.self.now in
    let new : Meeting = meeting c.give_up.new.self in
    let other = c.in-GiveUp.player in
    rw c.in-GiveUp.is (silent g.W.World.state g.W.World.physics None c.args.self.now _
    (c.sessions_keep.ensures.gives_up other c.args.now c.give_up.result old new c.give_up.ensures.0 c.give_up.ensures.1)
    (same_lobby old new c.give_up.ensures.1) refl refl
    (λ secret b history meetings place are below here comes.
    c.sessions_stay.ensures.gives_up other c.args.now c.give_up.result (marking_of g.W.World.physics) secret b history
    meetings place new are below
    (subst (λ (m : Meeting). GivesUpPart other c.args.now m.part new.part c.give_up.result) (sym here)
    c.give_up.ensures.0)))

pub returns-in-Quit : goal.returns-in-Quit
returns-in-Quit g c =
    let old : Meeting = met c.args.self.now in
    let new : Meeting = meeting c.quit.new.self in
    rw c.in-Quit.is (silent g.W.World.state g.W.World.physics None c.args.self.now _
    (c.sessions_keep.ensures.quits c.args.now old new c.quit.ensures.0 c.quit.ensures.1)
    (same_lobby old new c.quit.ensures.1) refl refl
    (λ secret b history meetings place are below here comes.
    c.sessions_stay.ensures.quits c.args.now (marking_of g.W.World.physics) secret b history meetings place new are below
    (subst (λ (m : Meeting). QuitsPart c.args.now m.part new.part) (sym here) c.quit.ensures.0)))
