-- Which packets are near: those whose first tic lies near enough a count, and those that were given soon before
-- they come.
use Rattle.std.proofs.{Common.{◌≡◌, ℕ, ◌+◌, ◌<◌, ◌≤◌, ◌≢◌, true, false, List, sym, ap, arith, Option, Some, None, inl, inr, slice_get, ◌⊎◌}, lemmas.Option.{none-some, same_Some}}
use Rattle.dn_setup.specs.Settings.{Settings}
use Rattle.dn_machine.specs.{declared.answers.Phase.TheVariants.{Gathering, Playing}, declared.events.Event.Event, Limits.{Limits, IsWindow}, Worlds.Rules, Flight.{SetUp, Flight, distance, is_near}}
use Rattle.dn_machine.specs.{Node.{Node, got, made, ran, is_ended, has_left}, Sending.{first_sent, set_up_flight, on_send}, Running.is_absent, Game.Game, Runs.Runs, Progress.IsSwift, Nearness.{is_start_near, IsYoung, IsSoon, IsOnItsWay}}
use Rattle.dn_machine.proofs.{Invariant.{IsKept, history_of}, Games.{always, leads_keeps}, Asking.IsAsking, Growth.{IsLater, leads_later}}
use Rattle.dn_machine.proofs.Invariant
use Rattle.dn_machine.proofs.Promises

-- a packet whose tics lie within 64 of a count
near_by : (made : ℕ) (flight : Flight) → flight.start ≤ made + 64 → made ≤ flight.start + 64
    → ((tic : ℕ) → flight.request ≡ Some tic → (tic ≤ made + 64) × (made ≤ tic + 64)) → is_near made flight ≡ true
near_by made flight high low asks = grind arith

near_set_up : (made : ℕ) (flight : Flight) (s : Settings) → flight.kind ≡ SetUp s → is_near made flight ≡ true
near_set_up made flight s kind = grind arith

-- by the number of its first tic
module _ {S : Type 0} (rules : Rules S) (settings : Settings) (game : Game)
    (asking : IsAsking rules settings game) (which : ℕ) (flight : Flight)
    (at : slice_get game.flights which ≡ Some flight) where
  abbrev counted_to : ℕ
  counted_to = made flight.to (game.nodes flight.to)

  pub asks : (tic : ℕ) → flight.request ≡ Some tic → (flight.start ≤ tic + rules.ahead) × (tic ≤ counted_to)
  asks tic e =
      let piece = asking.kept.from_inputs.pieces which flight at in grind arith

  pub numbered : is_start_near rules.limits counted_to flight.start ≡ true → is_near counted_to flight ≡ true
  numbered near = grind (arith, asks)

-- a packet of commands, as it is given
pub record IsGiven (limits : Limits) (me to : ℕ) (node : Node) (flight : Flight) : Type 0 where
  pub apart : me ≢ to
  pub start : flight.start ≡ first_sent limits me node to
  pub asks : (tic : ℕ) → flight.request ≡ Some tic → (node.phase ≡ Playing) × (tic ≡ got node to)

given_set_up : (me to : ℕ) (o : Option Settings) (flight : Flight) → set_up_flight me to o ≡ Some flight
    → (s : Settings) × (flight.kind ≡ SetUp s)
given_set_up me to None flight e = absurd (none-some flight e)
given_set_up me to (Some s) flight e = (s, sym (ap (λ (f : Flight). f.kind) (same_Some _ flight e)))

pub given_is : (limits : Limits) (me to : ℕ) (node : Node) (flight : Flight)
    → (on_send limits me node to).1 ≡ Some flight
    → ((s : Settings) × (flight.kind ≡ SetUp s) × (node.phase ≡ Gathering)) ⊎ IsGiven limits me to node flight
unfolding on_send
given_is limits me to node flight = grind (arith, given_set_up)

module _ {S : Type 0} (rules : Rules S) (settings : Settings) (window : IsWindow rules.limits)
    (swift : IsSwift rules.limits) where
  -- a player is at most the window ahead of one who has not left
  close : (game : Game) → IsKept rules settings game → (p q : ℕ) → p < rules.players → q < rules.players
      → has_left (game.nodes q) ≡ false → made p (game.nodes p) ≤ made q (game.nodes q) + rules.ahead
  close game kept p q l m stays =
      omega (arith, Invariant.close rules settings (history_of game) game.flights kept.from_inputs p q l m stays)

  -- where a packet of commands starts
  starts : (game : Game) → IsKept rules settings game → (me to : ℕ) → me < rules.players → (flight : Flight)
      → IsGiven rules.limits me to (game.nodes me) flight
      → (flight.start ≤ made me (game.nodes me)) × (made me (game.nodes me) ≤ flight.start + rules.places)
  starts game kept me to l flight given = grind arith

  -- a new packet lies no further away than what is kept and the window
  pub new : (events : List Event) (game : Game) → Runs rules settings events game → (me to : ℕ)
      → me < rules.players → to < rules.players → (game.nodes me).phase ≡ Playing
      → has_left (game.nodes to) ≡ false → (flight : Flight)
      → (on_send rules.limits me (game.nodes me) to).1 ≡ Some flight
      → distance flight.start (made to (game.nodes to)) ≤ rules.places + rules.ahead
  new events game run me to l m plays stays flight gives =
      let kept = always rules settings window events game run in
      let on : has_left (game.nodes me) ≡ false = Promises.stays_in rules settings game kept me (ap is_ended plays) in
      let a = close game kept me to l m stays in
      let b = close game kept to me m l on in
      elim (given_is rules.limits me to (game.nodes me) flight gives) [
        | inl set_up ↦ absurd (cc)
        | inr given ↦ let s = starts game kept me to l flight given in omega arith
      ]

  module _ (me to : ℕ) (flight : Flight) (before given now : Game)
      (way : IsOnItsWay rules settings me to flight before given now) where
    kept_before : IsKept rules settings before
    kept_before = always rules settings window way.opened.0 before way.opened.1

    kept_given : IsKept rules settings given
    kept_given = leads_keeps rules settings way.went_on.0 before given kept_before way.went_on.1

    kept_now : IsKept rules settings now
    kept_now = leads_keeps rules settings way.comes.0 given now kept_given way.comes.1

    first : (q : ℕ) → IsLater (before.nodes q) (given.nodes q)
    first = leads_later rules way.went_on.0 before given way.went_on.1

    next : (q : ℕ) → IsLater (given.nodes q) (now.nodes q)
    next = leads_later rules way.comes.0 given now way.comes.1

    -- it starts no further past the receiver's count
    high : has_left (before.nodes to) ≡ false → IsSoon rules.limits before given me
        → IsGiven rules.limits me to (given.nodes me) flight → flight.start ≤ made to (now.nodes to) + 64
    high stays few gives =
        let a = close before kept_before me to way.sender way.receiver stays in
        let b = (starts given kept_given me to way.sender flight gives).0 in
        let c = (first to).more to in
        let d = (next to).more to in grind arith

    -- given after both were in play, to one who has built few since, by one who has not built many
    pub late : has_left (before.nodes me) ≡ false → has_left (before.nodes to) ≡ false
        → IsSoon rules.limits before given me → IsYoung rules.limits before now to
        → is_near (made to (now.nodes to)) flight ≡ true
    late on stays few young = elim (given_is rules.limits me to (given.nodes me) flight way.gives) [
      | inl set_up ↦ near_set_up (made to (now.nodes to)) flight set_up.0 set_up.1
      | inr gives ↦
          let a = close before kept_before to me way.receiver way.sender on in
          let c = (first to).more to in
          let d = (next to).more to in
          let e = (first me).more me in grind (arith, near_by, high, Promises.fits, kept_given)
    ]

    -- who does not know a player's end to be reached has run no tic past it
    not_past : is_absent (now.nodes to) me ≡ false → ran (now.nodes to) ≤ made me (now.nodes me)
    not_past there =
        let a = kept_now.from_inputs.got to me way.receiver way.sender in
        let b = kept_now.from_inputs.counted me way.sender in
        elim (kept_now.from_inputs.run to me way.receiver way.sender) [
          | inl le ↦ omega arith
          | inr all ↦ grind arith
        ]

    -- given by a player who has left, to one who has not run up to that player's end
    pub gone : has_left (before.nodes to) ≡ false → has_left (given.nodes me) ≡ true
        → IsSoon rules.limits before given me → is_absent (now.nodes to) me ≡ false
        → is_near (made to (now.nodes to)) flight ≡ true
    gone stays left few there = elim (given_is rules.limits me to (given.nodes me) flight way.gives) [
      | inl set_up ↦ near_set_up (made to (now.nodes to)) flight set_up.0 set_up.1
      | inr gives ↦
          let a = kept_now.from_inputs.ahead to way.receiver in
          let b = kept_now.from_inputs.counted to way.receiver in
          let c = not_past there in
          let d = ((next me).left left).1 me in grind (arith, high)
    ]
