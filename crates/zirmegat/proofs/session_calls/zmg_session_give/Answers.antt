use Rattle.std.proofs.Common.{subst}
use Rattle.dn_tic.specs.{declared.input.Command.Command, declared.input.Input.TheVariants.Given}
use Rattle.dn_session.specs.Session.{meeting, GivesPart}
use Rattle.zirmegat.specs.Sessions.{Plays}
use Rattle.zirmegat.proofs.Calling.{session_lent}
use Rattle.zirmegat.proofs.session_calls.zmg_session_give.Goals as goal

pub returns-in-Some : goal.returns-in-Some
returns-in-Some c =
    let P : Command → Type 0 = λ command. Plays (λ old new. GivesPart c.args.now (Given command) old new c.give.result)
    (meeting c.in-Some.held.now) (meeting c.give.new.self) in
    session_lent c.args.session.now c.in-Some.held.now c.give.new.self _ _ c.in-Some.ensures.value
    (c.give.result, c.done_code.ensures, subst P c.given.ensures c.give.ensures)
