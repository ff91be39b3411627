-- What holds after each event, where it holds of the game as it was, and after each call that is made: the
-- cases of a run, of a give-up and of a report.
use Rattle.std.proofs.Common.{◌≡◌, ℕ, ◌<◌, refl, arith, ◌≢◌, ℤ, sym, ◌∙◌, ap, cond, ltb, inl, inr, false, Option, Some}
use Rattle.std.proofs.{Common.{None, slice_get, Bool, not, ◌&&◌, true}, lemmas.Bool.{cond_both, ltb-true, eqb-false}}
use Rattle.std.specs.Bool.{⊤}
use Rattle.dn_machine.specs.{declared.events.Event.Event, declared.events.Refusal.Refusal, Worlds.Rules, declared.answers.Cause.Cause, declared.answers.Phase.TheVariants.Playing, Limits.Limits, Node.Node}
use Rattle.dn_machine.specs.{Node.{held_at, own_mark, lowest, ran}, declared.answers.Ran.Ran, Runs.Next}
use Rattle.dn_machine.specs.{declared.events.Event.TheVariants.Run, Sparing.{on_run_but, is_off_but, first_off_but}}
use Rattle.dn_machine.specs.Game.{Game, with_node, own_marks, refused_at, refused, on_event, applied_if, applied}
use Rattle.dn_machine.specs.Running.{is_awaited, is_off, first_off, row_held, full_at, on_run}
use Rattle.dn_machine.proofs.{Calls.{ended_by, ran_on}, Put.same_functions}
use Rattle.dn_remain.specs.{declared.events.RemainEvent.RemainEvent, Vanished.Calls.is_newer, Vanished.Commands.seen, Vanished.Commands.on_decision}
use Rattle.dn_remain.specs.Remaining.{Telling, Remaining, wary_of, with_wary, unless, with_telling, after_hearing, is_barred, after_run, after_event, NextRemain, NextGame, NobodyGivenUp}
use Rattle.dn_remain.specs.Wary.{Wary, Report, on_give_up, on_report, report_to, report_of, newest_seen, can_settle, or_fresh, settled, after_news, with_gone, with_report, is_in_game}

-- The cases of a run that compares no mark of those who are given up, and where it is the machine's.

-- all that may happen but a run
abbrev pub IsNoRun : Event → Type 0
IsNoRun (Run node) = ⊥
IsNoRun _ = ⊤

module _ (limits : Limits) (me : ℕ) (gone : ℕ → Bool) (node : Node) (marks : ℕ → ℤ) where
  pub run_but_cases : (P : Node → Type 0)
      → ((node.phase ≡ Playing → lowest limits.players (is_awaited node) ≢ None) → P node)
      → ((player : ℕ) → node.phase ≡ Playing → lowest limits.players (is_awaited node) ≡ None
      → first_off_but limits gone node ≡ Some player
      → P (ended_by limits me node (Cause.Inconsistent player (held_at node player (ran node)).mark
      (own_mark node player (ran node)))))
      → (node.phase ≡ Playing → lowest limits.players (is_awaited node) ≡ None
      → ran node ≡ full_at limits (row_held limits node) → P (ended_by limits me node Cause.Full))
      → (node.phase ≡ Playing → lowest limits.players (is_awaited node) ≡ None
      → ran node ≢ full_at limits (row_held limits node)
      → P (ran_on limits me node marks))
      → P (on_run_but limits gone node marks).0
  unfolding on_run_but
  run_but_cases P same off full runs = grind arith

  -- where nobody is waited for, no mark is off, and there is room, the tic is run
  pub runs_tic : node.phase ≡ Playing → lowest limits.players (is_awaited node) ≡ None
      → first_off_but limits gone node ≡ None → ran node ≢ full_at limits (row_held limits node)
      → on_run_but limits gone node marks ≡ (ran_on limits me node marks, Ran.Ran (ran node))
  unfolding on_run_but
  runs_tic plays nobody none room = grind arith

  -- where the same mark is found to be off, or where none is looked at, it is the run of the machine
  pub run_is : (node.phase ≡ Playing → lowest limits.players (is_awaited node) ≡ None
      → first_off_but limits gone node ≡ first_off limits node)
      → on_run_but limits gone node marks ≡ on_run limits node marks
  unfolding on_run_but on_run
  run_is same = grind arith

-- of nobody whom it has given up
off_same : (gone : ℕ → Bool) (node : Node) → ((p : ℕ) → gone p ≡ false) → is_off_but gone node ≡ is_off node
off_same gone node nobody = same_functions (λ p. ap (λ (b : Bool). not b && is_off node p) (nobody p))

nobody_is : (limits : Limits) (gone : ℕ → Bool) (node : Node) (marks : ℕ → ℤ) → ((p : ℕ) → gone p ≡ false)
    → on_run_but limits gone node marks ≡ on_run limits node marks
nobody_is limits gone node marks nobody = run_is limits 0 gone node marks
    (λ plays ready. ap (λ (test : ℕ → Bool). cond (ltb 12 (ran node)) (lowest limits.players test) None)
    (off_same gone node nobody))

-- so where nobody is given up, each event does what it does in a game of the machine
module _ {S : Type 0} (rules : Rules S) (all : Remaining) (nobody : NobodyGivenUp all) where
  run_of : (node : ℕ) (o : Option Refusal) → after_run rules all node o ≡ (applied_if rules all.game (Run node) o).0
  run_of node (Some refusal) = refl
  run_of node None = grind (arith, nobody_is)

  event_is : (event : Event) → after_event rules all event ≡ (applied rules all.game event).0
  unfolding applied
  event_is event = grind (arith, run_of)

  pub next_is : (event : Event) (game : Game) → NextGame rules all event game → Next rules all.game event game
  next_is event game (inl is) = inl (is ∙ event_is event)
  next_is event game (inr left) = inr left

  pub is_next : (event : Event) (game : Game) → Next rules all.game event game → NextGame rules all event game
  is_next event game (inl is) = inl (is ∙ sym (event_is event))
  is_next event game (inr left) = inr left

-- The cases of a give-up, of a report and of what follows them.
module _ (limits : Limits) (me : ℕ) (wary : Wary) (P : Wary → Type 0) where
  pub news_cases : P wary
      → (can_settle limits me wary ≡ true → P (record wary {
        node = settled wary.node wary.gone
            (on_decision limits.players me (report_of wary) (λ player. or_fresh (wary.newest player)));
      }))
      → P (after_news limits me wary)
  news_cases same decides = cond_both (can_settle limits me wary) _ _ P decides (λ no. same)

  pub give_up_cases : (player : ℕ) → P wary
      → (is_in_game wary.node.phase ≡ true → player < limits.players → (player ≡ me → ⊥) → wary.gone player ≡ false
      → P (after_news limits me (with_gone limits wary player)))
      → P (on_give_up limits me wary player).0
  unfolding on_give_up
  give_up_cases player same gives = grind (arith, ltb-true, eqb-false)

  pub report_cases : (from : ℕ) (report : Report) → P wary
      → (is_in_game wary.node.phase ≡ true → wary.gone from ≡ false → report.gone me ≡ false
      → is_newer limits.players (newest_seen wary from) (seen report) ≡ true
      → P (after_news limits me (with_report wary from report)))
      → P (on_report limits me wary from report).0
  unfolding on_report
  report_cases from report same hears = grind arith

-- The cases of events.

-- an event of the machine, which is no run, or one
module _ {S : Type 0} (rules : Rules S) (all : Remaining) (P : Event → Game → Type 0) (same : (event : Event) → P event all.game)
    (happens : (event : Event) → refused rules.players all.game event ≡ None → IsNoRun event
    → P event (on_event rules all.game event).0)
    (runs : (node : ℕ) → refused_at rules.players all.game node ≡ None → P (Run node) (with_node all.game node
    (on_run_but rules.limits (all.gone node) (all.game.nodes node) (own_marks rules (all.game.nodes node))).0)) where
  applies : (event : Event) → IsNoRun event → P event (applied rules all.game event).0
  unfolding applied
  applies event n = grind (arith, refused, applied_if)

  run_on : (node : ℕ) (o : Option Refusal) → refused_at rules.players all.game node ≡ o
      → P (Run node) (after_run rules all node o)
  run_on node (Some refusal) h = same (Run node)
  run_on node None h = runs node h

  pub each_event : (event : Event) → P event (after_event rules all event)
  each_event event = grind (arith, applies, run_on)

module _ {S : Type 0} (rules : Rules S) (all : Remaining) (P : Remaining → Type 0) (same : P all)
    (owns : (event : Event) → is_barred all event ≡ false → P (record all { game = after_event rules all event }))
    (gives : (node player : ℕ) → refused_at rules.players all.game node ≡ None
    → P (with_wary all node (on_give_up rules.limits node (wary_of all node) player).0))
    (tells : (node to : ℕ) → to < rules.players → (report : Report)
    → report_to rules.limits node (wary_of all node) to ≡ Some report → P (with_telling all node to (Some report)))
    (hears : (which : ℕ) (t : Telling) → slice_get all.reports which ≡ Some t
    → refused_at rules.players all.game t.to ≡ None
    → P (with_wary all t.to (on_report rules.limits t.to (wary_of all t.to) t.from t.report).0)) where
  by_refusal : (o : Option Refusal) (new : Remaining) → (o ≡ None → P new) → P (unless o all new)
  by_refusal (Some refusal) new h = same
  by_refusal None new h = h refl

  told : (node to : ℕ) → to < rules.players → (o : Option Report)
      → report_to rules.limits node (wary_of all node) to ≡ o → P (with_telling all node to o)
  told node to low None e = same
  told node to low (Some report) e = tells node to low report e

  heard : (which : ℕ) (o : Option Telling) → slice_get all.reports which ≡ o → P (after_hearing rules.limits all o)
  heard which None e = same
  heard which (Some t) e = by_refusal (refused_at rules.players all.game t.to) _ (hears which t e)

  pub each_remain : (event : RemainEvent) (next : Remaining) → NextRemain rules all event next → P next
  each_remain event next is = grind (arith, by_refusal, cond_both, told, ltb-true, heard)
