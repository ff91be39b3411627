-- What the answers to a give-up and to a report tell.
use Rattle.std.proofs.Common.{◌≡◌, ℕ, zero, suc, refl, ◌∙◌, ap, arith, inl, inr, Bool, true, false, not, ◌&&◌, if◌then◌else◌, Option, Some, None}
use Rattle.std.proofs.lemmas.Bool.{both_ways, cases_Bool, cond-true, true≢false}
use Rattle.std.specs.Option.{option_or}
use Rattle.dn_machine.specs.{Limits.Limits, Node.{got, ends_of, lowest}}
use Rattle.dn_remain.specs.{Vanished.Calls.every, Vanished.Calls.is_newer, Vanished.Commands.seen, declared.events.GivenUp.GivenUp, declared.events.Reported.Reported}
use Rattle.dn_remain.specs.Wary.{Report, Wary, newest_seen, can_settle, after_news, with_gone, with_report, is_in_game, on_give_up, on_report, undecided}
use Rattle.dn_machine.specs.Drops as drops

module _ (limits : Limits) (me : ℕ) (wary : Wary) where
  -- it knows the ends of all whom it has given up, and has the commands before them
  pub settled_at : (p : ℕ) → can_settle limits me wary ≡ true → (after_news limits me wary).gone p ≡ true
      → ends_of (after_news limits me wary).node p ≡ Some (got (after_news limits me wary).node p)
  settled_at p can gone = grind arith

  pub give_up_decides : (player : ℕ) → (on_give_up limits me wary player).1 ≡ GivenUp.Decided
      → ((on_give_up limits me wary player).0 ≡ after_news limits me (with_gone limits wary player))
      × (can_settle limits me (with_gone limits wary player) ≡ true)
  unfolding on_give_up
  give_up_decides player h = grind arith

  pub give_up_waits : (player : ℕ) → (on_give_up limits me wary player).1 ≡ GivenUp.Waiting
      → ((on_give_up limits me wary player).0 ≡ with_gone limits wary player)
      × (can_settle limits me (with_gone limits wary player) ≡ false)
  unfolding on_give_up
  give_up_waits player h = grind arith

  pub report_decides : (from : ℕ) (report : Report) → (on_report limits me wary from report).1 ≡ Reported.Decided
      → ((on_report limits me wary from report).0 ≡ after_news limits me (with_report wary from report))
      × (can_settle limits me (with_report wary from report) ≡ true)
  unfolding on_report
  report_decides from report h = grind arith

  pub report_waits : (from : ℕ) (report : Report) → (on_report limits me wary from report).1 ≡ Reported.Kept
      → ((on_report limits me wary from report).0 ≡ with_report wary from report)
      × (can_settle limits me (with_report wary from report) ≡ false)
  unfolding on_report
  report_waits from report h = grind arith

  pub barred : (from : ℕ) (report : Report) → is_in_game wary.node.phase ≡ true → wary.gone from ≡ true
      → on_report limits me wary from report ≡ (wary, Reported.Dropped drops.given_up)
  unfolding on_report
  barred from report e f = grind arith

  pub excluded : (from : ℕ) (report : Report) → is_in_game wary.node.phase ≡ true → wary.gone from ≡ false
      → report.gone me ≡ true → on_report limits me wary from report ≡ (wary, Reported.Excluded)
  unfolding on_report
  excluded from report e f h = grind arith

  pub stale : (from : ℕ) (report : Report) → is_in_game wary.node.phase ≡ true → wary.gone from ≡ false
      → report.gone me ≡ false → is_newer limits.players (newest_seen wary from) (seen report) ≡ false
      → on_report limits me wary from report ≡ (wary, Reported.Stale)
  unfolding on_report
  stale from report e f g h = grind arith

or_some : (o : Option ℕ) (bound : ℕ) → (r : ℕ) × (option_or o (Some bound) ≡ Some r)
or_some None bound = (bound, refl)
or_some (Some r) bound = (r, refl)

-- where a test fails below a bound, there is a lowest place at which it does
lowest_fails : (bound : ℕ) (test : ℕ → Bool) → every bound test ≡ false
    → (r : ℕ) × (lowest bound (λ i. not (test i)) ≡ Some r)
unfolding every lowest
lowest_fails zero test h = absurd (true≢false h)
lowest_fails (suc bound) test h = elim (cases_Bool (test bound)) [
  | inr f ↦
      let k = or_some (lowest bound (λ i. not (test i))) bound in (
        k.0,
        ap (λ (o : Option ℕ). option_or (lowest bound (λ i. not (test i))) o)
            (cond-true (not (test bound)) (Some bound) None (ap not f)) ∙ k.1,
      )
  | inl t ↦ elim (cases_Bool (every bound test)) [
    | inr f ↦
        let k = lowest_fails bound test f in (
          k.0,
          ap (λ (o : Option ℕ). option_or o (if not (test bound) then Some bound else None)) k.1,
        )
    | inl e ↦ absurd (both_ways (every bound test && test bound) h (ap (λ (b : Bool). b && test bound) e ∙ t))
  ]
]

-- whose report is missing
pub missing : (limits : Limits) (me : ℕ) (wary next : Wary) → next ≡ wary → can_settle limits me wary ≡ false
    → (r : ℕ) × (undecided limits me next ≡ Some r)
missing limits me wary next is cannot = grind (arith, lowest_fails)

pub waits : (limits : Limits) (me : ℕ) (wary : Wary) (player : ℕ)
    → (on_give_up limits me wary player).1 ≡ GivenUp.Waiting
    → (r : ℕ) × (undecided limits me (on_give_up limits me wary player).0 ≡ Some r)
waits limits me wary player h = grind (arith, give_up_waits, missing)

pub waits_on : (limits : Limits) (me : ℕ) (wary : Wary) (from : ℕ) (report : Report)
    → (on_report limits me wary from report).1 ≡ Reported.Kept
    → (r : ℕ) × (undecided limits me (on_report limits me wary from report).0 ≡ Some r)
waits_on limits me wary from report h = grind (arith, report_waits, missing)

pub decides_on : (limits : Limits) (me : ℕ) (wary : Wary) (from : ℕ) (report : Report)
    → (on_report limits me wary from report).1 ≡ Reported.Decided → (p : ℕ)
    → (on_report limits me wary from report).0.gone p ≡ true
    → ends_of (on_report limits me wary from report).0.node p
    ≡ Some (got (on_report limits me wary from report).0.node p)
decides_on limits me wary from report h p gone = grind (arith, report_decides, settled_at)

pub decides : (limits : Limits) (me : ℕ) (wary : Wary) (player : ℕ)
    → (on_give_up limits me wary player).1 ≡ GivenUp.Decided → (p : ℕ)
    → (on_give_up limits me wary player).0.gone p ≡ true
    → ends_of (on_give_up limits me wary player).0.node p ≡ Some (got (on_give_up limits me wary player).0.node p)
decides limits me wary player h p gone = grind (arith, give_up_decides, settled_at)
