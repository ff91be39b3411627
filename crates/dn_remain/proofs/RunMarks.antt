-- A run keeps what a node's commands, marks and demo are made of.
use Rattle.std.proofs.Common.{◌≡◌, ◌≢◌, ℕ, ℤ, ◌+◌, ◌<◌, ◌≤◌, refl, sym, ◌∙◌, ap, arith, inl, inr, List, [], ◌∷◌, length, get_or, Bool, true, false, if◌then◌else◌, Option, Some, None, option_map}
use Rattle.std.proofs.lemmas.{Bool.both_ways, Bool.cases_lt, Bool.cond-true, Bool.cond-false, Bool.and_from, Bool.lt-ltb, Bool.le-ltb, List.length_push, List.take-append-le, List.Folds.length-prefix_len, List.Sums.prefix_len_stops, Option.none-some}
use Rattle.std.specs.List.{prefix_len, take_while}
use Rattle.dn_tic.specs.{declared.command.{TicCmd.TicCmd, Move.Move}, Inputs.made_by}
use Rattle.dn_setup.specs.Settings.{Settings}
use Rattle.dn_machine.specs.{declared.answers.Cause.Cause, declared.answers.Phase.TheVariants.Playing, Game.Game, Game.own_marks, Node.blank, Node.held_at, Node.own_mark, Node.is_whole, Node.demo_rows, Worlds.Rules, Worlds.mark_in, Worlds.world_after}
use Rattle.dn_machine.specs.{Running.{tic_limit, full_at, is_absent, row_held, marks_kept, is_over}, Sparing.on_run_but}
use Rattle.dn_machine.proofs.{Calls.ended_by, Calls.ran_on, Demos.front_short, Demos.front_stops, Demos.whole_more, Put.put_at, Put.put_off}
use Rattle.dn_remain.specs.{Vanished.Commands.{Holder, Had, seen, past_seen}, Wary.{end_seen, now_of}}
use Rattle.dn_remain.proofs.{Vanished.Windows.roomy, Each.run_but_cases, Checks.none_off, Known.Follows, Marked.IsMarked, Marked.world_same, Running.absent_is, Seeing.length_rows, Seeing.none_over, Seeing.over_before}
use Rattle.dn_machine.specs.declared.answers.Cause.TheVariants as failed
use Rattle.dn_machine.specs.Node as machine

-- where all pass, the front is the whole
all_front : {A : Type 0} (test : A → Bool) (xs : List A) (d : A)
    → ((k : ℕ) → k < length xs → test (get_or xs k d) ≡ true) → length xs ≤ length (take_while test xs)
all_front test xs d h =
    let long = length-prefix_len test xs in
    elim (cases_lt (prefix_len test xs) (length xs)) [
      | inl l ↦ absurd (both_ways _ (prefix_len_stops test xs d l) (h (prefix_len test xs) l))
      | inr l ↦ omega arith
    ]

module _ {S : Type 0} (rules : Rules S) (settings : Settings) (game : Game) (gone : ℕ → ℕ → Bool)
    (older : List (ℕ → Holder TicCmd)) (follows : Follows (Had (now_of game gone ∷ older)) rules game gone older)
    (all_marked : (x : ℕ) → IsMarked rules settings x (game.nodes x)) (q : ℕ) (mine : q < rules.players)
    (set : (game.nodes q).phase ≡ Playing → (game.nodes q).settings ≡ Some settings) where
  abbrev me : machine.Node
  me = game.nodes q

  abbrev row : List (Option Move)
  row = row_held rules.limits me

  abbrev tic : ℕ
  tic = machine.ran me

  abbrev new : machine.Node
  new = ran_on rules.limits q me (own_marks rules me)

  -- it ends
  ended_keeps : (cause : Cause)
      → (rules.ahead ≤ 12 → (player : ℕ) (was should : ℤ) → cause ≢ failed.Inconsistent player was should)
      → IsMarked rules settings q (ended_by rules.limits q me cause)
  ended_keeps cause other = grind arith

  -- what it was told before stays
  mark_stays : (t : ℕ) → t < tic + 12 → own_mark me q t ≡ own_mark new q t
  mark_stays t l = grind (arith, cond-true, lt-ltb, cond-false, le-ltb, put_off)

  -- the world before a tic that was run stays
  world_stays : (t : ℕ) → t ≤ tic → world_after rules settings me.rows t ≡ world_after rules settings new.rows t
  world_stays t l = grind (arith, world_same, take-append-le)

  -- the marks that it is told are those of its own world
  told_now : me.phase ≡ Playing → (p : ℕ) → p < rules.players → is_over (end_seen me p) tic ≡ false
      → marks_kept rules.limits me (own_marks rules me) p
      ≡ rules.physics.mark (world_after rules settings me.rows tic) p
  told_now plays p l over =
      let here : is_absent me p ≡ false = absent_is follows q mine p l ∙ over in
      grind (arith, cond-true, is_absent, and_from, lt-ltb, mark_in, option_map, world_after)

  long : length new.rows ≡ tic + 1
  long = length_push me.rows row

  -- rows before a whole one are whole
  whole_before : is_whole rules.players row ≡ true → tic ≤ length (demo_rows rules.players me)
  whole_before whole = all_front (is_whole rules.players) me.rows []
      (λ k l. ap (is_whole rules.players) (follows.rows q k l) ∙ whole_more rules.players
      (λ p. if is_absent me p then None else Some (held_at me p tic))
      (λ p. if is_over (end_seen me p) k then None else Some (get_or (me.held p) k blank))
      (λ p m here. none_over (is_over (end_seen me p) k) _ ∙ over_before (end_seen me p) k tic (omega arith)
      (sym (absent_is follows q mine p m) ∙ (sym (none_over (is_absent me p) (held_at me p tic)) ∙ here))) whole)

  module _ (free : tic ≢ full_at rules.limits row) where
    room_kept : (whole : Bool) → is_whole rules.players row ≡ whole
        → (length (demo_rows rules.players new) ≤ rules.capacity) × (rules.capacity ≤ tic_limit
        → machine.ran new ≤ tic_limit)
    room_kept whole e = grind (arith, whole_before, front_short, long, cond-true, front_stops, cond-false)

    runs_keep : me.phase ≡ Playing → IsMarked rules settings q new
    runs_keep plays =
        let rooms = room_kept (is_whole rules.players row) refl in
        let a = (roomy rules.players rules.ahead (past_seen (now_of game gone ∷ older)) follows.run).own q
        (seen (now_of game gone q)) (inl refl) in
        let b = length_rows (end_seen me) tic in
        grind (arith, made_by, mark_stays, long, put_off, world_stays, put_at, told_now)

  pub run_keeps : IsMarked rules settings q (on_run_but rules.limits (gone q) me (own_marks rules me)).0
  run_keeps = run_but_cases rules.limits q (gone q) me (own_marks rules me)
      (λ (n : machine.Node). IsMarked rules settings q n) (λ waits. all_marked q)
      (λ player plays nobody off. ended_keeps _ (λ low p w s e. none-some player
      (sym (none_off rules settings game gone older follows all_marked low q mine plays nobody) ∙ off)))
      (λ plays nobody full. ended_keeps failed.Full (λ low p w s e. cc))
      (λ plays nobody free. runs_keep free plays)
