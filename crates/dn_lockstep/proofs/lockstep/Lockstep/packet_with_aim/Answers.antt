use Rattle.std.proofs.Common.{Some, refl, ap, sym, ◌∙◌, subst, arith, option_map}
use Rattle.dn_packet.specs.Text.{text}
use Rattle.dn_lockstep.specs.{Contents.{Contents, contents}, Giving.{Reaches, packet_of_aim}}
use Rattle.dn_lockstep.specs.{Sent.{sent_to, after_giving}, Steps.Tells}
use Rattle.dn_lockstep.proofs.After.{along, steps}
use Rattle.dn_lockstep.proofs.Giving.{none_sent, no_flight, given_shows, spelled, IsGivenAs, own_given, set_up_given}
use Rattle.dn_lockstep.proofs.lockstep.Lockstep.packet_with_aim.Goals.{After-write_own, After-to_packet}
use Rattle.dn_lockstep.proofs.lockstep.Lockstep.packet_with_aim.Goals as goal

pub write_own-requires-clause-reach : goal.write_own-requires-clause-reach
write_own-requires-clause-reach c =
    let reach = c.in-Some.ensures.reach.0 in
    subst (λ (n : Contents). Reaches n c.in-Some.aim) (sym c.note_sent.ensures.kept)
    (record { flags = reach.flags; low = reach.low; high = reach.high; kept = reach.kept; few = reach.few })

pub returns-in_default-clause-sent : goal.returns-in_default-clause-sent
returns-in_default-clause-sent c = grind (arith, steps, no_flight, along, none_sent)

-- the own commands that are written are those of the flight that is sent
own_so : (c : After-write_own) → Tells (contents c.args.self.now)
    (λ limits me m. IsGivenAs (packet_of_aim (contents c.note_sent.new.self) c.in-Some.aim)
    (sent_to c.args.to limits me m).1)
own_so c limits me m r =
    own_given r c.args.self.now.me_below c.in-Some.aim c.in-Some.ensures.reach.0
    (ap (λ (x : Contents). packet_of_aim x c.in-Some.aim) c.note_sent.ensures.kept)
    c.write_own.ensures.valid c.write_own.ensures.no_stop c.in-Some.ensures.reach.1
    c.in_default-phase.not-Gathering (c.in-Some.ensures.told limits me m r)

pub returns-in_default-phase-clause-sent : goal.returns-in_default-phase-clause-sent
returns-in_default-phase-clause-sent c = (
  Some (text (packet_of_aim (contents c.note_sent.new.self) c.in-Some.aim)),
  c.write_own.ensures.written,
  steps c.note_sent.ensures.step.same (λ limits me m r.
      let sent = (own_so (goal.at.returns-in_default-phase-clause-sent c).After-write_own limits me m r).same in
      record {
        node = given_shows _ me _ _ m c.args.to _ r c.in-Some.ensures.reach.1 sent
            (c.note_sent.ensures.step.step limits me m r).node;
        answer = ap (option_map text) sent ∙ spelled _;
      }),
)

pub returns-in_default-phase-clause-fair : goal.returns-in_default-phase-clause-fair
returns-in_default-phase-clause-fair c limits me m r =
    (own_so (goal.at.returns-in_default-phase-clause-fair c).After-write_own limits me m r).fair

-- and so are the settings
set_up_so : (c : After-to_packet) → Tells (contents c.args.self.now)
    (λ limits me m. IsGivenAs c.to_packet.result (sent_to c.args.to limits me m).1)
set_up_so c limits me m r =
    set_up_given r c.args.self.now.me_below c.in-Some.ensures.reach.1 c.in-Gathering.is
    (c.args.self.now.key c.in-Gathering.is) c.in-Some-settings.is c.to_packet.ensures.packet
    c.to_packet.ensures.valid c.to_packet.ensures.in_range

pub returns-clause-sent : goal.returns-clause-sent
returns-clause-sent c = (
  Some (text c.to_packet.result),
  c.encode_to.ensures,
  steps refl (λ limits me m r.
      let sent = (set_up_so (goal.at.returns-clause-sent c).After-to_packet limits me m r).same in
      let after = ap (after_giving limits me m c.args.to) (sym r.stands.phase ∙ c.in-Gathering.is) in
      record {
        node = given_shows _ me _ _ m c.args.to c.to_packet.result r c.in-Some.ensures.reach.1 sent (along after r);
        answer = ap (option_map text) sent ∙ spelled _;
      }),
)

pub returns-clause-fair : goal.returns-clause-fair
returns-clause-fair c limits me m r = (set_up_so (goal.at.returns-clause-fair c).After-to_packet limits me m r).fair
