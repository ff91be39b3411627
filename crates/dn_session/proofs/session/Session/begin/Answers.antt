use Rattle.std.proofs.Common.{◌≡◌, refl, subst, sym, ◌∙◌, Option, Some, None, Ok, true, false}
use Rattle.std.specs.Prelude.{if◌then◌else◌, is_some}
use Rattle.dn_session.specs.{Session.BeginsAs, Session.begins_now, Session.begun_in, Session.meeting, declared.side.Begun.Begun}
use Rattle.dn_session.proofs.session.Session.begin.Goals as goal

pub returns-in-Ok : goal.returns-in-Ok
returns-in-Ok c =
    let none : is_some c.args.self.now.part ≡ false = sym c.is_some.ensures ∙ c.if-is_some.false in
    let game : begun_in c.args.self.now.side ≡ Some c.in-Some.begun = sym c.begun.ensures ∙ c.in-Some.is in
    let which : begins_now (meeting c.args.self.now) ≡ Some c.in-Some.begun = λ i. if none i then None else game i in
    subst (λ (begun : Option Begun). BeginsAs begun c.args.now (meeting c.args.self.now)
    (meeting (record c.args.self.now { part = Some c.in-Ok.part })) (Ok true)) (sym which)
    (c.in-Ok.part, c.in-Ok.ensures, refl, refl)
