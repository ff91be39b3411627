use Rattle.std.proofs.Common.{rules, ◌≡◌, ◌≤◌, ℕ, List, take, Option, Some, refl, ap, sym, ◌∙◌, subst, length, arith}
use Rattle.std.specs.Prelude.{IfSome, slice_get}
use Rattle.std.specs.Option.{option_map}
use Rattle.std.proofs.lemmas.List.{length-take}
use Rattle.arrayvec.specs.ArrayVec.{ArrayVec}
use Rattle.dn_machine.specs.Flight.{Flight}
use Rattle.dn_lockstep.specs.Contents.{Contents, contents}
use Rattle.dn_lockstep.specs.Giving.{aim_in, size_in}
use Rattle.dn_lockstep.specs.Sent.{IsFair}
use Rattle.dn_lockstep.specs.Sent.{sent_to, aim_of, bytes_of}
use Rattle.dn_lockstep.specs.OneGame.{given_on}
use Rattle.dn_lockstep.specs.Steps.{Steps, Tells}
use Rattle.dn_lockstep.specs.declared.lockstep.aiming.Aim.{Aim}
use Rattle.dn_lockstep.proofs.Giving.{no_flight, some_given}
use Rattle.dn_engine_tests.specs.Calls.{counting, parcel_of}
use Rattle.dn_engine_tests.proofs.Parcels.{last_given, has, same_parcel, written_fits}
use Rattle.dn_engine_tests.proofs.calls.take.Goals.{After-try_extend_from_slice}
use Rattle.dn_engine_tests.proofs.calls.take.Goals as goal

-- what holds of a packet to this player holds of the session's lockstep
abbrev IsFairTo : ℕ → Contents → Type 0
IsFairTo to old = Tells old (λ limits me m. IfSome (sent_to to limits me m).1 IsFair)

abbrev GivesTo : ℕ → Contents → Option (List ℕ) → Contents → Type 0
GivesTo to new bytes old = Steps old new (λ limits me m. sent_to to limits me m)
    (λ flight. bytes ≡ option_map bytes_of flight)

pub returns-in_default-clause-one_game : goal.returns-in_default-clause-one_game
returns-in_default-clause-one_game c limits settings session game mine here =
    let to : ℕ = c.args.to in
    let given = c.packet_with_aim.ensures in
    let new : Contents = contents c.packet_with_aim.new.self in
    let gave = c.one_game_goes_on.ensures.gave counting limits settings session c.args.from to new given.sent.0
    game mine (subst (IsFairTo to) (sym here) given.fair)
    (subst (GivesTo to new given.sent.0) (sym here) given.sent.2) in
    (gave.0, gave.2, tt)

pub returns-in_default-clause-step : goal.returns-in_default-clause-step
returns-in_default-clause-step c =
    let given = c.packet_with_aim.ensures in
    record {
      step = record {
        same = given.sent.2.same;
        step = λ limits me m r.
            record {
              node = (given.sent.2.step limits me m r).node;
              answer = sym (ap (option_map (parcel_of c.args.from)) (no_flight aim_of _
                  (ap aim_in (sym c.in_default.is) ∙ given.aimed limits me m r)));
            };
      };
      peer = tt;
      there = λ e. subst (λ (o : Option (Aim × ℕ)). 8 ≤ size_in o) c.in_default.is (given.silent.0 e);
      silent = λ e. (refl, (given.silent.1 e).1);
    }

-- the bytes are those that were written
items : (c : After-try_extend_from_slice)
    → c.try_extend_from_slice.new.self.items ≡ take c.in-Some.size c.packet_with_aim.new.room
items c =
    let short = length-take c.in-Some.size c.packet_with_aim.new.room in
    let empty = ap length c.new-bytes.ensures in
    search (rules, c.try_extend_from_slice.ensures.variant.1 (omega arith))

pub returns-clause-one_game : goal.returns-clause-one_game
returns-clause-one_game c limits settings session game mine here =
    let to : ℕ = c.args.to in
    let aim : Aim = c.in-Some.aim in
    let bytes : ArrayVec ℕ = c.try_extend_from_slice.new.self in
    let given = c.in-Some.ensures in
    let new : Contents = contents c.packet_with_aim.new.self in
    let gave = c.one_game_goes_on.ensures.gave counting limits settings session c.args.from to new given.sent.0
    game mine (subst (IsFairTo to) (sym here) given.fair)
    (subst (GivesTo to new given.sent.0) (sym here) given.sent.2) in
    let numbers : Some aim ≡ option_map aim_of gave.0 = gave.1.aim (Some aim)
    (subst (λ (old : Contents). Tells old (λ limits me m. Some aim ≡ option_map aim_of (sent_to to limits me m).1))
    (sym here) given.aimed) in
    let spelled : Some bytes.items ≡ option_map bytes_of gave.0 = ap Some (items c)
    ∙ some_given given.sent.0 _ _ _ given.sent.1 gave.0 aim gave.1.bytes numbers in
    let packet = has c.args.from to aim bytes.items gave.0 gave.1.players numbers spelled in (
      gave.0,
      gave.2,
      record {
        which = length session.given;
        flight = packet.one;
        found = ap (λ (o : Option Flight). slice_get (given_on session.given o) (length session.given)) packet.is
            ∙ last_given session.given packet.one;
        sender = packet.sender;
        receiver = packet.receiver;
        aim = packet.aim_is;
        bytes = packet.bytes_are;
      },
    )

pub returns-clause-step : goal.returns-clause-step
returns-clause-step c =
    let given = c.in-Some.ensures in
    let room = c.packet_with_aim.new.room in
    record {
      step = record {
        same = given.sent.2.same;
        step = λ limits me m r.
            let after = given.sent.2.step limits me m r in
            let numbers = given.aimed limits me m r in
            record {
              node = after.node;
              answer = same_parcel c.args.from c.in-Some.aim c.try_extend_from_slice.new.self _ numbers
                  (ap Some (items c) ∙ some_given given.sent.0 _ _ _ given.sent.1 _ _ after.answer numbers);
            };
      };
      peer = given.peer;
      there = λ e. subst (λ (k : ℕ). 8 ≤ k)
          (sym (ap length (items c) ∙ written_fits given.sent.0 _ room c.in-Some.size given.sent.1))
          (given.silent.0 e);
      silent = λ e. (
        items c ∙ ap (λ (size : ℕ). take size room) (given.silent.1 e).0,
        (given.silent.1 e).1,
      );
    }
