-- Which marks a run compares.
use Rattle.std.proofs.Common.{◌≡◌, ℕ, ℤ, ◌<◌, ◌∙◌, ap, arith, inl, inr, ltb, Bool, true, false, not, Some, None}
use Rattle.std.proofs.lemmas.Bool.{both_ways, and_from, and_parts, cond-true, lt-ltb, not-true}
use Rattle.dn_machine.specs.{declared.answers.Phase.TheVariants.Playing, declared.answers.Ran.TheVariants.Inconsistent, Limits.Limits, Node.Node, Node.held_at, Node.own_mark, Node.lowest, Node.ran, Running.is_awaited}
use Rattle.dn_machine.specs.{Running.is_off, Sparing.is_off_but, Sparing.first_off_but, Sparing.on_run_but}
use Rattle.dn_machine.proofs.Truth.{lowest_none_each}
use Rattle.dn_remain.proofs.{Vanished.Stepping.cases_Option, Steady.lowest_passes}
use Rattle.dn_remain.proofs.laws.marks_are_compared.Goals as goal

module _ (limits : Limits) (gone : ℕ → Bool) (node : Node) (marks : ℕ → ℤ) where
  fails : (off : ℕ) → node.phase ≡ Playing → lowest limits.players (is_awaited node) ≡ None
      → first_off_but limits gone node ≡ Some off
      → (on_run_but limits gone node marks).1 ≡ Inconsistent off (held_at node off (ran node)).mark
      (own_mark node off (ran node))
  unfolding on_run_but
  fails off plays nobody is = grind arith

  found : (player : ℕ) (was should : ℤ) → (on_run_but limits gone node marks).1 ≡ Inconsistent player was should
      → lowest limits.players (is_off_but gone node) ≡ Some player
  unfolding on_run_but
  found player was should h = grind arith

  ends : (player : ℕ) → node.phase ≡ Playing → lowest limits.players (is_awaited node) ≡ None
      → 12 < ran node → player < limits.players → gone player ≡ false → is_off node player ≡ true
      → (off : ℕ) × (was : ℤ) × (should : ℤ) × ((on_run_but limits gone node marks).1 ≡ Inconsistent off was should)
  ends player plays nobody late low here off = elim (cases_Option (lowest limits.players
      (is_off_but gone node))) [
        | inl none ↦ absurd (both_ways (is_off_but gone node player)
            (lowest_none_each limits.players (is_off_but gone node) none player low)
            (and_from (not (gone player)) (is_off node player) (ap not here) off))
        | inr some ↦ (
          some.0,
          (held_at node some.0 (ran node)).mark,
          own_mark node some.0 (ran node),
          fails some.0 plays nobody (cond-true (ltb 12 (ran node)) _ _ (lt-ltb 12 (ran node) late) ∙ some.1),
        )
      ]

  spared : (player : ℕ) (was should : ℤ) → (on_run_but limits gone node marks).1 ≡ Inconsistent player was should
      → (gone player ≡ false) × (is_off node player ≡ true)
  spared player was should h = grind (arith, and_parts, lowest_passes, found, not-true)

pub returns-clause-ends : goal.returns-clause-ends
returns-clause-ends c limits gone node marks player plays nobody late low here off =
    ends limits gone node marks player plays nobody late low here off

pub returns-clause-spared : goal.returns-clause-spared
returns-clause-spared c limits gone node marks player was should h = spared limits gone node marks player was
    should h
