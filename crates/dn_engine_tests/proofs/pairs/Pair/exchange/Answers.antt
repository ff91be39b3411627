use Rattle.std.proofs.Common.{◌≡◌, ℕ, List, Option, refl, ap, sym, ◌∙◌, subst, arith}
use Rattle.dn_machine.specs.Flight.{Flight}
use Rattle.dn_machine.specs.Node.{put}
use Rattle.dn_machine.proofs.Put.{put_at, put_off}
use Rattle.dn_lockstep.specs.Contents.{Contents, contents}
use Rattle.dn_lockstep.specs.OneGame.{Session}
use Rattle.dn_engine_tests.specs.Calls.{PassesTo, AreFor}
use Rattle.dn_engine_tests.specs.declared.calls.Parcel.{Parcel}
use Rattle.dn_engine_tests.proofs.Parcels.{for_on}
use Rattle.dn_engine_tests.proofs.pairs.Pair.exchange.Goals as goal

-- what is late stays so
still_for : (session next : Session) → PassesTo session next → (to : ℕ) (parcel : Option Parcel)
    → AreFor session.given to parcel → AreFor next.given to parcel
still_for session next passes to parcel are =
    subst (λ (given : List Flight). AreFor given to parcel) (sym passes.given.1)
    (for_on session.given passes.given.0 to parcel are)

-- both places, after a packet from one to the other
sender_at : (locksteps : ℕ → Contents) (from to : ℕ) (one other : Contents) → (from ≡ to → ⊥)
    → put (put locksteps from one) to other from ≡ one
sender_at locksteps from to one other apart =
    put_off (put locksteps from one) to from other apart ∙ put_at locksteps from from one refl

receiver_at : (locksteps : ℕ → Contents) (from to : ℕ) (one other : Contents)
    → put (put locksteps from one) to other to ≡ other
receiver_at locksteps from to one other = put_at (put locksteps from one) to to other refl

-- what stands in a place of locksteps that are these
stands : (locksteps these : ℕ → Contents) (place : ℕ) (n : Contents) → locksteps ≡ these → these place ≡ n
    → locksteps place ≡ n
stands locksteps these place n same there = ap (λ (f : ℕ → Contents). f place) same ∙ there

pub returns-clause-one_game : goal.returns-clause-one_game
returns-clause-one_game c settings one =
    let there = c.pass.ensures.one_game one.limits settings one.session one.game (omega (arith, one.two))
    (omega (arith, one.two)) (λ e. absurd (cc)) one.first one.second one.first_late in
    let at : ℕ → Contents = one.session.locksteps in
    let sent : Contents = contents c.pass.new.sender in
    let got : Contents = contents c.pass.new.receiver in
    let back = c.pass-2.ensures.one_game one.limits settings there.0 there.1 (omega (arith, one.two))
    (omega (arith, one.two)) (λ e. absurd (cc))
    (stands there.0.locksteps _ 1 got there.3 (receiver_at at 0 1 sent got))
    (stands there.0.locksteps _ 0 sent there.3 (sender_at at 0 1 sent got (λ e. absurd (cc))))
    (still_for one.session there.0 there.2 0 c.args.self.now.from_second one.second_late) in
    let last : Contents = contents c.pass-2.new.sender in
    let heard : Contents = contents c.pass-2.new.receiver in
    record {
      limits = one.limits;
      session = back.0;
      game = back.1;
      two = one.two;
      first = stands back.0.locksteps _ 0 heard back.3 (receiver_at there.0.locksteps 1 0 last heard);
      second = stands back.0.locksteps _ 1 last back.3
          (sender_at there.0.locksteps 1 0 last heard (λ e. absurd (cc)));
      first_late = still_for there.0 back.0 back.2 1 c.pass.new.late there.4;
      second_late = back.4;
    }

pub returns-clause-step : goal.returns-clause-step
returns-clause-step c = record {
  heard = contents c.pass.new.receiver;
  sent = contents c.pass.new.sender;
  there = c.pass.ensures.step;
  back = c.pass-2.ensures.step;
}
