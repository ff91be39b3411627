-- What a node gives, with its exact numbers.
use Rattle.std.proofs.{Common.{◌≡◌, ℕ, List, ◌∙◌, Option, Some, None, ◌++◌, take, ap}, lemmas.Option.same_Some}
use Rattle.std.specs.Option.{option_map}
use Rattle.arrayvec.specs.ArrayVec.{ArrayVec}
use Rattle.dn_machine.specs.{Flight.Flight, Limits.Limits}
use Rattle.dn_lockstep.specs.{declared.lockstep.aiming.Aim.Aim, Contents.{Contents, contents}, Represents.Represents, Sent.{sent_to, aim_of, bytes_of}, Steps.IsAfter}
use Rattle.dn_link.specs.Hearing.{carried_of}
use Rattle.dn_lockstep.proofs.Giving.{some_given}
use Rattle.dn_machine.specs.Node as machine
use Rattle.dn_link.proofs.giving.next_packet.Goals as goal

-- a node that gives a packet
gives_some : (limits : Limits) (me to : ℕ) (new : Contents) (m : machine.Node)
    → Represents limits me new (sent_to to limits me m).0 → (aim : Aim) (given : ArrayVec ℕ) (shown : List ℕ)
    → Some aim ≡ option_map aim_of (sent_to to limits me m).1
    → Some shown ≡ option_map bytes_of (sent_to to limits me m).1 → given.items ≡ shown
    → IsAfter limits me new (sent_to to limits me m)
    (λ flight. Some (record { start = aim.start; ask = aim.ask; datagram = given }) ≡ option_map carried_of flight)
gives_some limits me to new m node aim given shown aimed told is =
    record { node = node; answer = go (sent_to to limits me m).1 aimed told }
  where
    go : (flight : Option Flight) → Some aim ≡ option_map aim_of flight → Some shown ≡ option_map bytes_of flight
        → Some (record { start = aim.start; ask = aim.ask; datagram = given }) ≡ option_map carried_of flight
    go None a b = absurd (cc)
    go (Some f) a b =
        let numbers = same_Some aim (aim_of f) a in
        let text = is ∙ same_Some shown (bytes_of f) b in
        (λ i. Some (record {
          start = (numbers i).start;
          ask = (numbers i).ask;
          datagram = record { items = text i };
        }))

pub returns-clause-step : goal.returns-clause-step
returns-clause-step c =
    let given = c.in-Some.ensures in
    record {
      same = given.sent.2.same;
      step = λ limits me m r.
          let after = given.sent.2.step limits me m r in
          gives_some limits me c.args.to (contents c.packet_with_aim.new.self) m after.node c.in-Some.aim _ _
          (given.aimed limits me m r) (some_given given.sent.0 _ _ _ given.sent.1 _ _ after.answer
          (given.aimed limits me m r)) (c.append.ensures ∙ ap (λ (xs : List ℕ). xs ++ take c.in-Some.size
          c.packet_with_aim.new.room) c.new-datagram.ensures);
    }
