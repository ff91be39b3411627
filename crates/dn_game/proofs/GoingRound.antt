-- The first player who has not stopped.
use Rattle.std.proofs.Common.{◌≡◌, ◌<◌, ◌≤◌, ◌-◌, ◌%◌, ◌^◌, ℕ, true, false, length, Option, ap, ◌∙◌, arith, ◌+◌, Bool, not, Some, None, subst, inl, inr, slice_get, is_none, min}
use Rattle.std.proofs.lemmas.{List.length-map, Bool.{cases_lt, not-false}}
use Rattle.std.proofs.Math.Nat.{mod-eq_of_lt, add-mod_right}
use Rattle.dn_machine.specs.{declared.events.Event.TheVariants.{Deliver, Run}, declared.events.Refusal.Refusal, Game.{Game, refused_flight}, Worlds.Rules, Node.lowest}
use Rattle.dn_game.specs.{Contents.{Contents, Represents, flight_of}, Schedule.{delivery_or_run, event_of, first_moving}}
use Rattle.dn_machine.proofs.Truth.{lowest_none_each}
use Rattle.dn_lockstep.proofs.Lowest.{lowest_past, lowest_found}

module _ (players from : ℕ) (stopped : ℕ → Bool) where
  -- the player this many numbers on has not stopped
  abbrev pub moves : ℕ → Bool
  moves i = not (stopped ((from + i) % players))

  pub goes_past : (i : ℕ) → lowest i moves ≡ None → stopped ((from + i) % players) ≡ true
      → lowest (i + 1) moves ≡ None
  goes_past i before here = lowest_past i moves before (ap not here)

  pub moving_found : (i : ℕ) → i < players → lowest i moves ≡ None → stopped ((from + i) % players) ≡ false
      → Some ((from + i) % players) ≡ first_moving players stopped from
  moving_found i below before here = grind (arith, lowest_found)

  pub moving_none : (i : ℕ) → i ≡ players → lowest i moves ≡ None → None ≡ first_moving players stopped from
  moving_none i all before = grind arith

-- going round, every player is reached
reached : (players from node : ℕ) → from < players → node < players
    → (i : ℕ) × (i < players) × ((from + i) % players ≡ node)
reached players from node f n = elim (cases_lt node from) [
  | inr up ↦
      let whole : from + (node - from) ≡ node = omega arith in
      (node - from, omega arith, ap (λ (k : ℕ). k % players) whole ∙ mod-eq_of_lt n)
  | inl down ↦
      let whole : from + (node + players - from) ≡ node + players = omega arith in (
        node + players - from,
        omega arith,
        ap (λ (k : ℕ). k % players) whole ∙ add-mod_right node players ∙ mod-eq_of_lt n,
      )
]

pub all_stopped : (players from : ℕ) (stopped : ℕ → Bool) → from < players
    → lowest players (moves players from stopped) ≡ None → (node : ℕ) → node < players → stopped node ≡ true
all_stopped players from stopped f none node n =
    let there = reached players from node f n in
    subst (λ k. stopped k ≡ true) there.2
    (not-false _ (lowest_none_each players (moves players from stopped) none there.0 there.1))

-- The delivery that a schedule gives, or the run in its place, by what was looked at.

-- as many packets as flights
pub flights_are : {W S : Type 0} (state : W → S) (rules : Rules S) (g : Contents W) (m : Game)
    → Represents state rules g m → length g.flights ≡ length m.flights
flights_are state rules g m r = ap length r.flights ∙ length-map m.flights flight_of

-- the recent packet that was looked at, by its number, and why it is refused, if it is
module _ {W S : Type 0} (state : W → S) (rules : Rules S) (g : Contents W) (m : Game)
    (r : Represents state rules g m) (node c count least which : ℕ) (counted : count ≡ length g.flights)
    (some : 0 < count) (smaller : least ≡ min count 32) (is : which ≡ count - 1 - c % least)
    (fits : which < 2 ^ 32) (refusal : Option Refusal)
    (told : refusal ≡ refused_flight m (slice_get m.flights which)) where
  pub runs_refused : is_none refusal ≡ false → Run node ≡ delivery_or_run m node c
  runs_refused test = grind (arith, flights_are state rules g m r)

  pub delivers : is_none refusal ≡ true → Deliver which ≡ delivery_or_run m node c
  delivers test = grind (arith, flights_are state rules g m r)

-- by the words that choose it
pub chooses : (players : ℕ) (m : Game) (a c node : ℕ) → 5 ≤ a % 16 → 9 ≤ a % 16 → a % 16 < 14
    → delivery_or_run m node c ≡ event_of players m a c node
chooses players m a c node five nine fourteen = grind arith
