-- A level is held for some ticks, so that a player rests at three ticks in a row at most. And no more than two brief
-- datagrams are given in a row.
use Rattle.std.proofs.Common.{◌≡◌, ◌≢◌, ◌⊎◌, ℕ, Bool, true, false, ◌≤◌, ◌<◌, ◌+◌, ◌%◌, List, refl, ap, sym, ◌∙◌, subst, arith, inl, inr}
use Rattle.std.proofs.lemmas.Bool.{and_parts, cond-false, cond-true, or_cases, eqb-true, leb-true, not-true, eqb-false}
use Rattle.std.specs.Prelude.{◌&&◌, ◌==◌, if◌then◌else◌, min, nat_le, nat_lt}
use Rattle.dn_link.specs.{declared.level.Level.Level, declared.congestion.Congestion.Congestion, declared.trip.Trip.Trip}
use Rattle.dn_link.specs.Congestion.{aged, between, eased, levelled, may_step_up, patience, rests, GoesBy, are_above, trips_after, turn}
use Rattle.dn_link.specs.{Pace.{given_to}, Pacing.{PaceState, is_brief}}
use Rattle.dn_machine.proofs.Put.{put_at}

-- it moved so many ticks ago, or fewer
abbrev HasMoved : ℕ → Level → Type 0
HasMoved ticks l = (l.clear_ticks ≤ ticks) × (l.full_ticks ≤ ticks)

abbrev steps_down : Bool → Level → Bool
steps_down nearly l =
    nat_le (patience l) (eased nearly (aged false l)).clear_ticks && nat_lt (eased nearly (aged false l)).floor (eased nearly (aged false l)).level

-- at a tick it moves, or stays
moves : (full nearly : Bool) (l : Level)
    → ((levelled full nearly l).level ≡ l.level) ⊎ HasMoved 0 (levelled full nearly l)
moves true nearly l = go (may_step_up (aged true l)) refl
  where
    go : (test : Bool) → may_step_up (aged true l) ≡ test
        → ((levelled true nearly l).level ≡ l.level) ⊎ HasMoved 0 (levelled true nearly l)
    go true up = inr (rw up (omega arith), rw up (omega arith))
    go false holds = inl (rw holds refl)
moves false nearly l = go (steps_down nearly l) refl
  where
    go : (test : Bool) → steps_down nearly l ≡ test
        → ((levelled false nearly l).level ≡ l.level) ⊎ HasMoved 0 (levelled false nearly l)
    go true down = inr (rw down (omega arith), rw down (omega arith))
    go false holds = inl (rw holds refl)

is_patient : (l : Level) → 20 ≤ patience l
is_patient l = go l.tight
  where
    go : (tight : Bool) → 20 ≤ (if tight then 32 else 20)
    go true = omega arith
    go false = omega arith

-- and for some ticks after it has moved, it stays
stays : (ticks : ℕ) (full nearly : Bool) (l : Level) → ticks < 11 → HasMoved ticks l
    → ((levelled full nearly l).level ≡ l.level) × HasMoved (ticks + 1) (levelled full nearly l)
stays ticks true nearly l few (clear, full) = go (may_step_up (aged true l)) refl
  where
    go : (test : Bool) → may_step_up (aged true l) ≡ test
        → ((levelled true nearly l).level ≡ l.level) × HasMoved (ticks + 1) (levelled true nearly l)
    go true up =
        let long = leb-true 12 (aged true l).full_ticks (and_parts (nat_lt l.level 5) _ up).1 in
        absurd (omega (arith, long, full, few))
    go false holds = (rw holds refl, (rw holds (omega arith), rw holds (omega (arith, full))))
stays ticks false nearly l few (clear, full) = go (steps_down nearly l) refl
  where
    least : (nearly : Bool) → (eased nearly (aged false l)).clear_ticks ≤ ticks + 1
    least true = omega arith
    least false = omega (arith, clear)

    go : (test : Bool) → steps_down nearly l ≡ test
        → ((levelled false nearly l).level ≡ l.level) × HasMoved (ticks + 1) (levelled false nearly l)
    go true down =
        let patient = is_patient l in
        let long = leb-true (patience l) (eased nearly (aged false l)).clear_ticks (and_parts (nat_le (patience l) _) _ down).0 in
        let few_clear = least nearly in
        absurd (omega (arith, patient, long, few_clear, few))
    go false holds = (rw holds refl, (rw holds (least nearly), rw holds (omega arith)))

-- where a player rests, by the level and the turn
abbrev RestsAt : (level turn : ℕ) → Type 0
RestsAt level turn =
    ((level ≡ 3) × (turn % 3 ≡ 2)) ⊎ (((level ≡ 4) × (turn % 2 ≡ 1)) ⊎ ((level ≡ 5) × (turn % 3 ≢ 0)))

rests_at : (c : Congestion) (me player : ℕ) → rests c me player ≡ true → RestsAt c.level.level (turn c me player)
rests_at c me player is = elim (or_cases (c.level.level == 3 && turn c me player % 3 == 2) _ is) [
  | inl third ↦
      let both = and_parts (c.level.level == 3) _ third in
      inl (eqb-true c.level.level 3 both.0, eqb-true (turn c me player % 3) 2 both.1)
  | inr more ↦ elim (or_cases (c.level.level == 4 && turn c me player % 2 == 1) _ more) [
    | inl second ↦
        let both = and_parts (c.level.level == 4) _ second in
        inr (inl (eqb-true c.level.level 4 both.0, eqb-true (turn c me player % 2) 1 both.1))
    | inr most ↦
        let both = and_parts (c.level.level == 5) _ most in
        inr (inr (
          eqb-true c.level.level 5 both.0,
          eqb-false (turn c me player % 3) 0 (not-true (turn c me player % 3 == 0) both.1),
        ))
  ]
]

-- of four turns one after the other, not all rest, if the level moves at most once
one_goes : (a b c d k l m n : ℕ) → RestsAt a k → RestsAt b l → RestsAt c m → RestsAt d n
    → (l % 6 ≡ (k + 1) % 6) → (m % 6 ≡ (k + 2) % 6) → (n % 6 ≡ (k + 3) % 6)
    → ((b ≡ a) × (c ≡ b)) ⊎ (((b ≡ a) × (d ≡ c)) ⊎ ((c ≡ b) × (d ≡ c))) → ⊥
one_goes a b c d k l m n first second third fourth kl km kn same = grind arith

-- what a tick does to the level and the turn
module _ (old new : Congestion) (goes : GoesBy old new) where
  abbrev trips : List Trip
  trips = trips_after goes.2 old.made.items old.trips

  level : new.level ≡ levelled (are_above 3 goes.1 trips) (are_above 2 goes.1 trips) old.level
  level = ap (λ (c : Congestion). c.level) goes.3

  tick : new.tick ≡ old.tick % 6 + 1
  tick = ap (λ (c : Congestion). c.tick) goes.3

  move : (new.level.level ≡ old.level.level) ⊎ HasMoved 0 new.level
  move = elim (moves (are_above 3 goes.1 trips) (are_above 2 goes.1 trips) old.level) [
    | inl same ↦ inl (ap (λ (l : Level). l.level) level ∙ same)
    | inr moved ↦ inr (subst (HasMoved 0) (sym level) moved)
  ]

  stay : (ticks : ℕ) → ticks < 11 → HasMoved ticks old.level
      → (new.level.level ≡ old.level.level) × HasMoved (ticks + 1) new.level
  stay ticks few moved =
      let both = stays ticks (are_above 3 goes.1 trips) (are_above 2 goes.1 trips) old.level few moved in
      (ap (λ (l : Level). l.level) level ∙ both.0, subst (HasMoved (ticks + 1)) (sym level) both.1)

pub briefly : (first second third fourth : Congestion) (me player : ℕ)
    → GoesBy first second → GoesBy second third → GoesBy third fourth
    → rests first me player ≡ true → rests second me player ≡ true → rests third me player ≡ true
    → rests fourth me player ≡ false
briefly first second third fourth me player one two three is was had = go (rests fourth me player) refl
  where
    at_most_once : ((second.level.level ≡ first.level.level) × (third.level.level ≡ second.level.level))
        ⊎ (((second.level.level ≡ first.level.level) × (fourth.level.level ≡ third.level.level))
        ⊎ ((third.level.level ≡ second.level.level) × (fourth.level.level ≡ third.level.level)))
    at_most_once = elim (move first second one) [
      | inl same ↦ elim (move second third two) [
        | inl again ↦ inl (same, again)
        | inr moved ↦ inr (inl (same, (stay third fourth three 0 (omega arith) moved).0))
      ]
      | inr moved ↦
          let next = stay second third two 0 (omega arith) moved in
          inr (inr (next.0, (stay third fourth three 1 (omega arith) next.1).0))
    ]

    go : (test : Bool) → rests fourth me player ≡ test → rests fourth me player ≡ false
    go false goes = goes
    go true rest =
        let second_tick = tick first second one in
        let third_tick = tick second third two in
        let fourth_tick = tick third fourth three in
        absurd (one_goes first.level.level second.level.level third.level.level fourth.level.level
        (turn first me player) (turn second me player) (turn third me player) (turn fourth me player)
        (rests_at first me player is) (rests_at second me player was) (rests_at third me player had)
        (rests_at fourth me player rest) (omega (arith, second_tick)) (omega (arith, second_tick, third_tick))
        (omega (arith, second_tick, third_tick, fourth_tick)) at_most_once)

-- a brief one is counted, if it is the first since a tick
counted : (pace : PaceState) (to : ℕ) → pace.given to ≡ false → is_brief pace to ≡ true
    → (given_to to pace).briefs to ≡ min (pace.briefs to + 1) 2
counted pace to none brief = put_at pace.briefs to to _ refl ∙ cond-false (pace.given to) (pace.briefs to) _ none
    ∙ cond-true (is_brief pace to) _ 0 brief

at_most_two : (c : Congestion) → between c ≤ 2
at_most_two c = grind arith

pub third_is_full : (first second third : PaceState) (to : ℕ)
    → first.given to ≡ false → is_brief first to ≡ true
    → second.given to ≡ false → second.briefs to ≡ (given_to to first).briefs to → is_brief second to ≡ true
    → third.given to ≡ false → third.briefs to ≡ (given_to to second).briefs to → is_brief third to ≡ false
third_is_full first second third to one brief two after also three later =
    let once : second.briefs to ≡ min (first.briefs to + 1) 2 = after ∙ counted first to one brief in
    let twice : third.briefs to ≡ min (second.briefs to + 1) 2 = later ∙ counted second to two also in
    let both : third.briefs to ≡ 2 = omega (arith, once, twice) in
    let few = at_most_two third.congestion in
    grind (arith, three, both, few)
