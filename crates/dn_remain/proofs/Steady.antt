-- No check fails among those who remain, and nothing is dropped but for a reason.
use Rattle.std.proofs.Common.{◌≡◌, ℕ, ℤ, zero, suc, ◌+◌, ◌<◌, ◌≤◌, refl, sym, ◌∙◌, arith, List, ◌∷◌, length, ◌≢◌, ltb, ap, subst, inl, inr, ◌⊎◌, Bool, true, false, Option, Some, None, slice_get, option_map}
use Rattle.std.proofs.lemmas.{Bool.{and_parts, true≢false, both_ways, eq-eqb, le-ltb, or_cases}, Option.none-some}
use Rattle.dn_tic.specs.declared.command.TicCmd.{TicCmd}
use Rattle.dn_setup.specs.Settings.{Settings}
use Rattle.dn_machine.specs.{declared.answers.Ran.TheVariants.Waiting, Limits.Limits, Limits.IsWindow, Node.got, Node.lowest, Running.is_awaited, Running.on_run, Sparing.on_run_but, Worlds.Rules}
use Rattle.dn_machine.specs.{declared.answers.Heard.Heard, declared.answers.Heard.TheVariants.Dropped, Flight.Flight, Flight.is_exit, Flight.end_of, Node.ends_of, Node.is_ended, Node.has_left}
use Rattle.dn_machine.specs.Hearing.{is_past_end, is_strange_end, left_or, on_packet}
use Rattle.dn_machine.proofs.Calls.{Refused, packet_cases}
use Rattle.dn_remain.specs.Vanished.{Calls.is_newer, Node.Within, Commands.{Holder, Had, seen, past_seen}}
use Rattle.dn_remain.specs.Wary.{now_of, Report, Wary, newest_seen, can_settle, on_report, end_seen}
use Rattle.dn_remain.specs.{Remaining.{Telling, Remaining, wary_of, heard_of}, Promise.SteadyInPairs}
use Rattle.dn_remain.proofs.{Vanished.Always.always, Vanished.Handing.was_seen, Vanished.Tests.steady, Answering.missing, Each.run_is, Checks.none_off, Checks.none_off_at_all, Followed.anchored}
use Rattle.dn_remain.proofs.{Known.Follows, Reached.IsReached, Seeing.reached_cases, Vanished.Windows.fits, Arriving.end_is, Arriving.made_it, Arriving.below_made, Known.IsTold, Known.not_left}
use Rattle.dn_remain.proofs.Seeing.{length_rows}
use Rattle.dn_machine.specs.Drops as drops
use Rattle.dn_machine.specs.Node as machine
use Rattle.dn_remain.specs.declared.events.Reported.TheVariants as Reported
use Rattle.dn_remain.proofs.Known

-- A packet of one who is not given up is no overrun, and ends where it can.

-- an answer that is no drop, of an EXIT packet or of another
left_word : (exit : Bool) (heard : Heard) (number : ℕ) → ((n : ℕ) → heard ≢ Dropped n)
    → left_or exit heard ≡ Dropped number → ⊥
left_word true heard number other e = absurd (cc)
left_word false heard number other e = other number e

same_number : (a b : ℕ) → ◌≡◌ {A = Heard} (Dropped a) (Dropped b) → a ≡ b
same_number a b e = cc

heard_cases : (limits : Limits) (all : Remaining) (flight : Flight) (number : ℕ)
    → heard_of limits all flight ≡ Dropped number
    → ((number ≡ drops.given_up) × (all.gone flight.to flight.from ≡ true))
    ⊎ ((all.gone flight.to flight.from ≡ false)
    × ((on_packet limits flight.to (all.game.nodes flight.to) flight).1 ≡ Dropped number))
heard_cases limits all flight number h = grind arith

module _ {S : Type 0} (rules : Rules S) (settings : Settings) (all : Remaining) (older : List (ℕ → Holder TicCmd))
    (h : IsReached rules settings all older) (window : IsWindow rules.limits) where
  is_anchored : Follows (Had (now_of all.game all.gone ∷ older)) rules all.game all.gone older
  is_anchored = anchored Known.known rules all older h.followed

  -- no packet of one who is not given up is an overrun, or ends where it cannot
  module _ (flight : Flight) (told : IsTold rules.players (now_of all.game all.gone ∷ older) flight)
      (open_from : all.gone flight.to flight.from ≡ false) (here : has_left (all.game.nodes flight.to) ≡ false) where
    fits_in : end_of flight ≤ machine.ran (all.game.nodes flight.to) + rules.places
    fits_in =
        let a = (fits rules.players rules.ahead (past_seen
        (now_of all.game all.gone ∷ older)) is_anchored.run).overrun
        flight.to told.by flight.from (seen told.state) told.receiver here
        (was_seen (now_of all.game all.gone ∷ older) told.by told.state told.had) told.open_to in
        let b = told.reaches in
        let c = window.twice in
        omega (arith, length_rows (end_seen (all.game.nodes flight.to)) (machine.ran (all.game.nodes flight.to)))

    last_is : is_exit flight.kind ≡ true → end_of flight ≡ length ((all.game.nodes flight.from).held flight.from)
    last_is x = (end_is is_anchored told open_from x).3

    known_is : (e : ℕ) → ends_of (all.game.nodes flight.to) flight.from ≡ Some e
        → e ≡ length ((all.game.nodes flight.from).held flight.from)
    known_is e s = (is_anchored.ends flight.to flight.from e s open_from).3

    not_past : (o : Option ℕ) → ends_of (all.game.nodes flight.to) flight.from ≡ o
        → is_past_end (is_exit flight.kind) o (end_of flight) ≡ true → ⊥
    not_past None e past = true≢false (sym past)
    not_past (Some known) e past = elim (or_cases _ _ past) [
      | inl over ↦
          let a = known_is known e in
          let b = made_it is_anchored told open_from in
          both_ways _ (le-ltb known (end_of flight) (omega arith)) over
      | inr other ↦ grind (arith, and_parts, last_is, known_is, true≢false, eq-eqb)
    ]

    not_strange : is_strange_end (is_exit flight.kind) (got (all.game.nodes flight.to) flight.from)
        (ends_of (all.game.nodes flight.to) flight.from) (end_of flight) ≡ true → ⊥
    not_strange strange = elim (or_cases _ _ strange) [
      | inl early ↦
          let parts = and_parts (is_exit flight.kind) (ltb (end_of flight) (got
          (all.game.nodes flight.to) flight.from)) early in
          let a = last_is parts.0 in
          let b = below_made is_anchored told open_from in
          both_ways _ (le-ltb (end_of flight) (got (all.game.nodes flight.to) flight.from) (omega arith)) parts.1
      | inr past ↦ not_past (ends_of (all.game.nodes flight.to) flight.from) refl past
    ]

    not_refused : (number : ℕ) → Refused rules.limits flight.to (all.game.nodes flight.to) flight number → ⊥
    not_refused number (inl over) = let a = fits_in in let b = over.1 in omega arith
    not_refused number (inr strange) = not_strange strange.1

  abbrev IsDropWord : ℕ → Type 0
  IsDropWord number = (number ≡ drops.out_of_place) ⊎ (number ≡ drops.not_playing)

  packet_kept : (flight : Flight) → IsTold rules.players (now_of all.game all.gone ∷ older) flight
      → all.gone flight.to flight.from ≡ false → (number : ℕ)
      → (on_packet rules.limits flight.to (all.game.nodes flight.to) flight).1 ≡ Dropped number → IsDropWord number
  packet_kept flight told open_from number = packet_cases rules.limits flight.to (all.game.nodes flight.to) flight
      (λ (r : machine.Node × Heard). r.1 ≡ Dropped number → IsDropWord number) (record {
        dropped = λ other why e. subst (λ (i : ℕ). IsDropWord i) (same_number other number e) why;
        starts = λ s listens kind e. absurd (cc);
        completes = λ word g all e. absurd (cc);
        notes = λ word g some e. absurd (cc);
        commands = λ plays. record {
          dropped = λ other why e. absurd (not_refused flight told open_from
              (not_left (all.game.nodes flight.to) (ap is_ended plays)) other why);
          stale = λ l e. absurd (left_word (is_exit flight.kind) Heard.Stale number (λ n d. cc) e);
          gap = λ l e. absurd (cc);
          takes = λ first high e. absurd (left_word (is_exit flight.kind) _ number (λ n d. cc) e);
        };
        requests = λ ended e. absurd (cc);
      })

  kept : (which : ℕ) (flight : Flight) (number : ℕ) → slice_get all.game.flights which ≡ Some flight
      → heard_of rules.limits all flight ≡ Dropped number
      → (number ≡ drops.out_of_place) ⊎ ((number ≡ drops.not_playing)
      ⊎ ((number ≡ drops.given_up) × (all.gone flight.to flight.from ≡ true)))
  kept which flight number at e = elim (heard_cases rules.limits all flight number e) [
    | inl given ↦ inr (inr given)
    | inr heard ↦ elim (packet_kept flight (is_anchored.flights which flight at) heard.0 number heard.1) [
      | inl place ↦ inl place
      | inr plays ↦ inr (inl plays)
    ]
  ]

-- So no check fails.

-- why a report is dropped, and of what it is older
dropped_for : (limits : Limits) (me : ℕ) (wary : Wary) (from : ℕ) (report : Report) (number : ℕ)
    → (on_report limits me wary from report).1 ≡ Reported.Dropped number
    → (number ≡ drops.not_playing) ⊎ ((number ≡ drops.given_up) × (wary.gone from ≡ true))
unfolding on_report
dropped_for limits me wary from report number h = grind arith

stale_for : (limits : Limits) (me : ℕ) (wary : Wary) (from : ℕ) (report : Report)
    → (on_report limits me wary from report).1 ≡ Reported.Stale
    → is_newer limits.players (newest_seen wary from) (seen report) ≡ false
unfolding on_report
stale_for limits me wary from report h = grind arith

-- a run that waits does so for a player who is awaited
waits_for : (limits : Limits) (gone : ℕ → Bool) (node : machine.Node) (marks : ℕ → ℤ) (p : ℕ)
    → (on_run_but limits gone node marks).1 ≡ Waiting p → lowest limits.players (is_awaited node) ≡ Some p
unfolding on_run_but
waits_for limits gone node marks p h = grind arith

-- the lowest of those who pass a test passes it
pub lowest_passes : (bound : ℕ) (test : ℕ → Bool) (p : ℕ) → lowest bound test ≡ Some p → test p ≡ true
unfolding lowest
lowest_passes zero test p h = absurd (none-some p h)
lowest_passes (suc bound) test p h = grind (arith, lowest_passes bound test)

module _ {S : Type 0} (rules : Rules S) (settings : Settings) (all : Remaining) (older : List (ℕ → Holder TicCmd))
    (h : IsReached rules settings all older) (window : IsWindow rules.limits) where
  follows : Follows (Had (now_of all.game all.gone ∷ older)) rules all.game all.gone older
  follows = anchored Known.known rules all older h.followed

  narrow : (q : ℕ) (marks : ℕ → ℤ) → q < rules.players → rules.ahead + rules.ahead ≤ 12
      → on_run_but rules.limits (all.gone q) (all.game.nodes q) marks ≡ on_run rules.limits (all.game.nodes q) marks
  narrow q marks mine low = run_is rules.limits q (all.gone q) (all.game.nodes q) marks (λ plays nobody.
      none_off rules settings all.game all.gone older follows h.marked window.back q mine plays nobody
      ∙ sym (none_off_at_all rules settings all.game all.gone older follows h.marked window.back q mine plays
      nobody low))

  -- the newest report tells all that a stale one does
  stale_tells : (t : Telling) (which : ℕ) → slice_get all.reports which ≡ Some t → (o : Option Report)
      → all.newest t.to t.from ≡ o → is_newer rules.players (option_map seen o) (seen t.report) ≡ false
      → (newest : Report) × (all.newest t.to t.from ≡ Some newest) × Within t.report.gone newest.gone
      × ((p : ℕ) → length (t.report.held p) ≤ length (newest.held p))
  stale_tells t which at None e older_one = absurd (true≢false older_one)
  stale_tells t which at (Some newest) e older_one =
      let history = past_seen (now_of all.game all.gone ∷ older) in
      let all_steady = steady rules.players (past_seen (now_of all.game all.gone ∷ older))
      (always rules.players rules.ahead (past_seen (now_of all.game all.gone ∷ older)) follows.run) in
      let was = was_seen (now_of all.game all.gone ∷ older) t.from newest
      (h.followed.newest t.to t.from newest e) in
      let is = was_seen (now_of all.game all.gone ∷ older) t.from t.report (h.followed.reports which t at) in (
        newest,
        e,
        all_steady.gone t.from (seen newest) (seen t.report) was is older_one,
        (λ p. all_steady.got t.from p (seen newest) (seen t.report) was is older_one),
      )

  -- whoever has decided waits for none whom it has given up
  not_awaited : (q p : ℕ) → all.gone q p ≡ true → is_awaited (all.game.nodes q) p ≡ true
      → can_settle rules.limits q (wary_of all q) ≡ false
  not_awaited q p given awaited = grind (arith, and_parts, reached_cases, none-some, true≢false)

  pub pairs_steady : SteadyInPairs rules.limits all
  pairs_steady = record {
    consistent = λ q player was should l. (h.marked q).consistent window.back player was should;
    narrow = narrow;
    kept = kept rules settings all older h window;
    reports = λ which t number at e. dropped_for rules.limits t.to (wary_of all t.to) t.from t.report number e;
    stale = λ which t at e. stale_tells t which at (all.newest t.to t.from) refl
        (stale_for rules.limits t.to (wary_of all t.to) t.from t.report e);
    waits = λ q p marks l e given. missing rules.limits q (wary_of all q) (wary_of all q) refl
        (not_awaited q p given (lowest_passes rules.players (is_awaited (all.game.nodes q)) p
        (waits_for rules.limits (all.gone q) (all.game.nodes q) marks p e)));
  }
