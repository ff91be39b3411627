use Rattle.std.proofs.Common.{refl, subst}
use Rattle.std.specs.Prelude.{List, ℕ, Option, option_map}
use Rattle.dn_session.specs.{declared.part.sending.Transmit.Transmit, Passing.sent_of, Session.meeting, Session.Sends}
use Rattle.dn_host.proofs.hearing.send_next.Goals as goal

pub returns-in-Some : goal.returns-in-Some
returns-in-Some g c =
    let k = meeting c.args.session.now in
    let m = meeting c.transmit.new.self in (
      c.in-Some.out.to,
      c.in-Some.out.bytes.items,
      subst (λ (sent : Option Transmit). Sends k m (option_map sent_of sent)) c.in-Some.is c.transmit.ensures,
      subst (λ (bytes : List ℕ). g.W.Wire.sends c.args.wire.now c.in-Some.out.to bytes c.send.new.self)
          c.as_slice.ensures.value c.send.ensures,
    )

pub returns-in-None : goal.returns-in-None
returns-in-None g c =
    let k = meeting c.args.session.now in
    let m = meeting c.transmit.new.self in (
      subst (λ (sent : Option Transmit). Sends k m (option_map sent_of sent)) c.in-None.is c.transmit.ensures,
      refl,
    )
