-- A packet that was given is heard within one game, and its answer is that of its delivery.
use Rattle.std.proofs.Common.{◌≡◌, ◌<◌, ℕ, List, refl, ap, sym, ◌∙◌, subst, Option, Some, None, Bool, true, false, arith}
use Rattle.std.specs.Prelude.{Ok, Result, slice_get}
use Rattle.dn_setup.specs.Settings.{Settings}
use Rattle.dn_machine.specs.{declared.answers.Heard.Heard, declared.events.Done.Done, declared.events.Event.TheVariants.Deliver, declared.events.Refusal.Refusal, Flight.Flight, Flight.packet_of, Flight.is_near}
use Rattle.dn_machine.specs.{Game.Game, Game.applied, Game.delivered, Game.refused, Game.with_node, Hearing.on_packet, Limits.Limits, Worlds.Rules}
use Rattle.dn_machine.specs.Node as machine
use Rattle.dn_lockstep.specs.Contents.{Contents}
use Rattle.dn_lockstep.specs.Marking.{Marking}
use Rattle.dn_lockstep.specs.OneGame.{beside, AreOneGame, Session, with_lockstep}
use Rattle.dn_lockstep.specs.Represents.{Represents}
use Rattle.dn_lockstep.specs.Steps.{IsAfter}
use Rattle.dn_lockstep.specs.Told.{made}
use Rattle.dn_lockstep.proofs.Receiving.{told_by, told_is, near_received}
use Rattle.dn_lockstep.proofs.OneGame.{moves, stays, hear_quiet, kept}
use Rattle.dn_lockstep.proofs.Shown.{made_is}
use Rattle.dn_open.specs.{Arrivals.HearsOpened, Arrivals.IsDeliveredAs, Arrivals.heard, Arrivals.is_timely, Arrivals.on_opened, declared.hearing.Arrived.Arrived, Sealed.opened_of}
use Rattle.dn_open.proofs.Letters.{alike, near_if}

-- a packet has one answer
module _ {S : Type 0} (rules : Rules S) (game : Game) (count which : ℕ) (flight : Flight) where
  heard_once : (a b : Heard) → ◌≡◌ {A = Result Done Refusal} (Ok (Done.Heard a)) (Ok (Done.Heard b)) → a ≡ b
  heard_once a b e = grind arith

  once : (timely : Bool) → timely ≡ true → timely ≡ false → ⊥
  once timely on off = let clash = sym on ∙ off in absurd (cc)

  delivered_once : (a b : Arrived) → IsDeliveredAs rules game count which flight a
      → IsDeliveredAs rules game count which flight b → a ≡ b
  delivered_once a b x y = grind (arith, heard_once, once, count)

module _ (marking : Marking) (limits : Limits) (settings : Settings) {session : Session}
    (game : AreOneGame marking limits settings session) (which : ℕ) (flight : Flight)
    (at : slice_get session.given which ≡ Some flight) (new : Contents) (answer : Arrived)
    (hears : HearsOpened (opened_of flight) (session.locksteps flight.to) new answer) where
  there : slice_get game.last.flights which ≡ Some flight
  there = ap (λ (fs : List Flight). slice_get fs which) game.flights ∙ at

  mine : flight.to < limits.players
  mine = ((kept marking limits settings game).from_inputs.pieces which flight there).receiver

  abbrev node : machine.Node
  node = game.last.nodes flight.to

  receiver : Represents limits flight.to (session.locksteps flight.to) node
  receiver = game.nodes flight.to mine

  count : made (session.locksteps flight.to) ≡ machine.made flight.to node
  count = grind (arith, mine, made_is, receiver)

  -- what the machine's node makes of it
  abbrev after : machine.Node × Arrived
  after = on_opened limits flight.to node (opened_of flight) (Ok (packet_of flight)) (told_by flight.kind)

  heard_so : IsAfter limits flight.to new after (λ x. answer ≡ x)
  heard_so =
      let fair = game.fair which flight at in
      hears.step (Ok (packet_of flight)) (told_by flight.kind)
      ((fair.packet, refl), told_is flight flight.kind fair.kind) limits flight.to node receiver

  abbrev told : machine.Node × Heard
  told = on_packet limits flight.to node flight

  module _ (timely : is_timely (made (session.locksteps flight.to)) flight ≡ true) where
    close : is_timely (machine.made flight.to node) flight ≡ true
    close = ap (λ (k : ℕ). is_timely k flight) (sym count) ∙ timely

    near : is_near (machine.made flight.to node) flight ≡ true
    near = near_if (machine.made flight.to node) flight close

    hears_it : after ≡ heard told
    hears_it =
        let piece = (kept marking limits settings game).from_inputs.pieces which flight there in
        rw (close, alike flight) (ap heard (near_received limits flight.to node flight
        (game.fair which flight at) piece.sender piece.apart near))

    delivers : applied (beside marking limits) game.last (Deliver which)
        ≡ (with_node game.last flight.to told.0, Ok (Done.Heard told.1))
    unfolding applied
    delivers =
        let free : refused limits.players game.last (Deliver which) ≡ None = rw (there, near, game.going flight.to) refl in
        rw free (ap (λ (o : Option Flight). ((delivered (beside marking limits) game.last o).0, Ok (delivered (beside marking limits) game.last o).1)) there)

  late : is_timely (made (session.locksteps flight.to)) flight ≡ false → after ≡ (node, Arrived.Late)
  late far =
      let away : is_timely (machine.made flight.to node) flight ≡ false =
      ap (λ (k : ℕ). is_timely k flight) (sym count) ∙ far in
      rw away refl

  abbrev IsDelivered : Arrived → Type 0
  IsDelivered a = IsDeliveredAs (beside marking limits) game.last (made (session.locksteps flight.to)) which flight a

  pub answered : IsDelivered answer
  answered = go (is_timely (made (session.locksteps flight.to)) flight) refl
    where
      go : (timely : Bool) → is_timely (made (session.locksteps flight.to)) flight ≡ timely → IsDelivered answer
      go true timely =
          let is : answer ≡ Arrived.Heard told.1 = heard_so.answer ∙ (λ i. (hears_it timely i).1) in
          subst IsDelivered (sym is) (timely, λ i. (delivers timely i).1)
      go false far =
          let is : answer ≡ Arrived.Late = heard_so.answer ∙ (λ i. (late far i).1) in
          subst IsDelivered (sym is) far

  pub keep : AreOneGame marking limits settings (with_lockstep session flight.to new)
  keep = go (is_timely (made (session.locksteps flight.to)) flight) refl
    where
      go : (timely : Bool) → is_timely (made (session.locksteps flight.to)) flight ≡ timely
          → AreOneGame marking limits settings (with_lockstep session flight.to new)
      go true timely =
          moves marking limits settings game flight.to mine (Deliver which) told.0 new (λ i. (delivers timely i).0)
          (subst (λ (x : machine.Node × Arrived). Represents limits flight.to new x.0) (hears_it timely) heard_so.node)
          (hear_quiet limits flight.to node flight)
      go false far =
          stays marking limits settings game flight.to mine new
          (subst (λ (x : machine.Node × Arrived). Represents limits flight.to new x.0) (late far) heard_so.node)

pub letters_keep : (marking : Marking) (limits : Limits) (settings : Settings) (session : Session) (which : ℕ)
    (flight : Flight) (new : Contents) (answer : Arrived)
    → AreOneGame marking limits settings session → slice_get session.given which ≡ Some flight
    → HearsOpened (opened_of flight) (session.locksteps flight.to) new answer
    → AreOneGame marking limits settings (with_lockstep session flight.to new)
letters_keep marking limits settings session which flight new answer game at hears =
    keep marking limits settings game which flight at new answer hears

pub letters_answered : (marking : Marking) (limits : Limits) (settings : Settings) (session : Session) (which : ℕ)
    (flight : Flight) (new : Contents) (answer : Arrived)
    (game : AreOneGame marking limits settings session) → slice_get session.given which ≡ Some flight
    → HearsOpened (opened_of flight) (session.locksteps flight.to) new answer
    → IsDeliveredAs (beside marking limits) game.last (made (session.locksteps flight.to)) which flight answer
letters_answered marking limits settings session which flight new answer game at hears =
    answered marking limits settings game which flight at new answer hears

pub letters_answered_once : (marking : Marking) (limits : Limits) (settings : Settings) (session : Session)
    (which : ℕ) (flight : Flight) (new : Contents) (answer other : Arrived)
    (game : AreOneGame marking limits settings session) → slice_get session.given which ≡ Some flight
    → HearsOpened (opened_of flight) (session.locksteps flight.to) new answer
    → IsDeliveredAs (beside marking limits) game.last (made (session.locksteps flight.to)) which flight other
    → answer ≡ other
letters_answered_once marking limits settings session which flight new answer other game at hears is =
    delivered_once (beside marking limits) game.last (made (session.locksteps flight.to)) which flight answer other
    (answered marking limits settings game which flight at new answer hears) is
