use Rattle.std.proofs.Common.{ℕ, List, length, take, drop, ◌∙◌, ap, refl, subst}
use Rattle.dn_packet.specs.Written.{IsWritten}
use Rattle.zirmegat.specs.SessionStates.{demo_of}
use Rattle.zirmegat.proofs.Calling.{session_lent}
use Rattle.zirmegat.proofs.session_state.zmg_session_demo.Goals as goal

pub returns-in-Some : goal.returns-in-Some
returns-in-Some c =
    let P : List ℕ → Type 0 = λ bytes. IsWritten (take (length c.args.out.now) (drop c.args.from bytes)) c.args.out.now
    c.write_from.new.out c.write_from.result in
    session_lent c.args.session.now c.in-Some.held.now c.in-Some.held.now _ _ c.in-Some.ensures.value
    (refl, subst P (c.demo_of.ensures ∙ ap demo_of c.part.ensures) c.write_from.ensures)
