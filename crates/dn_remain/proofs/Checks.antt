-- The mark of a command that a node runs, or has run, is that of the node's own world. So is a mark that is
-- compared, and a run finds none that is off.
use Rattle.std.proofs.Common.{◌≡◌, ℕ, ◌+◌, ◌-◌, ◌<◌, ◌≤◌, refl, sym, ◌∙◌, ap, arith, inl, pos, leb, ltb, List, ◌∷◌, length, inr, [], take, ◌⊎◌, ◌&&◌, Bool, false, not, None}
use Rattle.std.proofs.lemmas.{Bool.cond_both, Bool.cond-false, Bool.and_left, Bool.and_right, Bool.le-ltb, Bool.leb-false, Bool.ltb-true, List.length_push, Option.same_Some, Option.slice_get-get_or}
use Rattle.dn_tic.specs.declared.command.TicCmd.{TicCmd}
use Rattle.dn_tic.proofs.Making.{made_by-mark}
use Rattle.dn_setup.specs.Settings.{Settings}
use Rattle.dn_machine.specs.{declared.answers.Phase.TheVariants.Playing, Game.Game, Game.with_node, Node.got, Node.held_at, Node.own_mark, Node.lowest, Worlds.Rules, Node.blank, Node.made, Worlds.world_after}
use Rattle.dn_machine.specs.{Running.{is_absent, is_awaited, is_off, first_off, is_over}, Sparing.first_off_but}
use Rattle.dn_machine.proofs.{Calls.ran_on, Truth.{lowest_none, lowest_none_each, same_passes}, Put.put_at}
use Rattle.dn_remain.specs.{Vanished.Promise.lacks_at, Wary.end_seen, Wary.holder_of, Wary.now_of, Vanished.Node.Node, Vanished.Node.Was, Vanished.Node.ran, Vanished.Promise.Marked, Vanished.Steps.IsRun, Wary.rows_to, Wary.row_had}
use Rattle.dn_remain.specs.Vanished.Commands.{Holder, Had, seen, past_seen, AreHanded}
use Rattle.dn_remain.proofs.{Vanished.Always.always, Vanished.Handing.was_seen, Vanished.Invariant.IsKept, Known.Follows, Known.Went, Marked.IsMarked, Running.absent_is, Running.runs_on, Seeing.length_rows}
use Rattle.dn_remain.proofs.{Seeing.over_before, Vanished.Handing.same_held, Vanished.Marks.marked, Vanished.Windows.roomy, Marked.fronts_same, Marked.world_same, Seeing.made_row, Seeing.same_row}
use Rattle.dn_machine.specs.Node as machine
use Rattle.dn_remain.proofs.Vanished.Windows as commands

module _ {S : Type 0} (rules : Rules S) (settings : Settings) (game : Game) (gone : ℕ → ℕ → Bool)
    (older : List (ℕ → Holder TicCmd))
    (follows : Follows (Had (now_of game gone ∷ older)) rules game gone older)
    (all_marked : (x : ℕ) → IsMarked rules settings x (game.nodes x)) (low : rules.ahead ≤ 12)
    (q : ℕ) (mine : q < rules.players) (p : ℕ) (its : p < rules.players) (tic : ℕ) (late : 12 ≤ tic)
    (has : tic < length ((game.nodes q).held p)) (ran_to : tic ≤ machine.ran (game.nodes q))
    -- a history in which the node has run the tic, and a state in which it has
    (history : List (ℕ → Holder TicCmd)) (handed : AreHanded history)
    (run : IsRun rules.players rules.ahead (past_seen history))
    (was_now : (x : ℕ) → Had history x (now_of game gone x))
    (state : Holder TicCmd) (was_then : Had history q state) (ran_it : tic < length state.rows)
    (present : lacks_at (seen state) tic p ≡ false)
    (row_then : (back : ℕ) → row_had rules.limits (now_of game gone q) back ≡ row_had rules.limits state back)
    (compared : (state.gone p ≡ false) ⊎ (rules.ahead + rules.ahead ≤ 12)) where
  all_kept : IsKept rules.players (past_seen history)
  all_kept = always rules.players rules.ahead (past_seen history) run

  long : (x : ℕ) → length (rows_to (end_seen (game.nodes x)) (machine.ran (game.nodes x)))
      ≡ machine.ran (game.nodes x)
  long x = length_rows (end_seen (game.nodes x)) (machine.ran (game.nodes x))

  made_it : tic < length ((game.nodes p).held p)
  made_it =
      let a = ((always rules.players rules.ahead (past_seen (now_of game gone ∷ older)) follows.run).sound q
      (seen (now_of game gone q)) (inl refl)).made p in
      omega arith

  close : length ((game.nodes p).held p) ≤ machine.ran (game.nodes p) + rules.ahead
  close =
      let a = (roomy rules.players rules.ahead (past_seen (now_of game gone ∷ older)) follows.run).own p
      (seen (now_of game gone p)) (inl refl) in
      omega (arith, long p)

  -- the state in which the player made the command
  maker : (m : Node) × Was (past_seen history) p m × (m.got p ≡ tic) × (tic < ran m + rules.ahead)
  maker =
      let a = (all_kept.order p (seen (now_of game gone p))
      (was_seen history p (now_of game gone p) (was_now p))).got p in
      let b = made_it in
      commands.made rules.players rules.ahead (past_seen history) run p tic (omega arith)

  maker_row : (back r : ℕ) → r < rules.players → back + 12 ≤ tic
      → (back < ran maker.0) × (lacks_at (seen state) back r ≡ lacks_at maker.0 back r)
  maker_row back r l b =
      let all : Marked rules.players rules.ahead (past_seen history) =
      marked rules.players rules.ahead (past_seen history) run low in
      let was = was_seen history q state was_then in
      elim compared [
        | inl g ↦ all.same q p tic back r (seen state) maker.0 mine its l was maker.1 g maker.2 maker.3
            ran_it present b
        | inr narrow ↦ all.relayed narrow q p tic back r (seen state) maker.0 mine its l was maker.1 maker.2
            ran_it present b
      ]

  -- up to twelve tics before, both ran the same rows
  row_same : (back : ℕ) → back + 12 ≤ tic
      → row_had rules.limits (now_of game gone q) back ≡ row_had rules.limits (now_of game gone p) back
  row_same back b =
      let c = long p in
      let d = close in
      let e = made_it in
      let mine_then : back < ran (seen state) = omega arith in
      let its_now : back < ran (seen (now_of game gone p)) = omega arith in
      row_then back
      ∙ same_row rules.limits history handed run q p state (now_of game gone p) was_then (was_now p) back
      mine_then its_now
      (λ r l. (maker_row back r l b).1
      ∙ made_row rules.players rules.ahead (past_seen history) all_kept p back r (seen (now_of game gone p)) maker.0
      (was_seen history p (now_of game gone p) (was_now p)) maker.1 (maker_row back r l b).0 its_now)

  fronts : take (tic - 12) (game.nodes q).rows ≡ take (tic - 12) (game.nodes p).rows
  fronts =
      let d = close in
      let e = made_it in
      fronts_same (game.nodes q).rows (game.nodes p).rows [] (tic - 12) (omega arith) (omega arith)
      (λ back l. follows.rows q back (omega arith)
      ∙ (row_same back (omega arith) ∙ sym (follows.rows p back (omega arith))))

  held_same : held_at (game.nodes q) p tic ≡ held_at (game.nodes p) p tic
  held_same = same_Some _ _ (sym (slice_get-get_or ((game.nodes q).held p) tic blank has)
      ∙ (same_held (now_of game gone ∷ older) follows.handed q p p tic (now_of game gone q)
      (now_of game gone p) (inl refl) (inl refl) has made_it
      ∙ slice_get-get_or ((game.nodes p).held p) tic blank made_it))

  pub mark_is : (held_at (game.nodes q) p tic).mark
      ≡ rules.physics.mark (world_after rules settings (game.nodes q).rows (tic - 12)) p
  mark_is = grind (arith, close, made_it, held_same, made_by-mark, cond-false, le-ltb, world_same, fronts)

module _ {S : Type 0} (rules : Rules S) (settings : Settings) (game : Game) (gone : ℕ → ℕ → Bool)
    (older : List (ℕ → Holder TicCmd)) (follows : Follows (Had (now_of game gone ∷ older)) rules game gone older)
    (all_marked : (x : ℕ) → IsMarked rules settings x (game.nodes x)) (low : rules.ahead ≤ 12)
    (q : ℕ) (mine : q < rules.players) (plays : (game.nodes q).phase ≡ Playing)
    (nobody : lowest rules.players (is_awaited (game.nodes q)) ≡ None) where
  -- the tic that is to be run
  abbrev tic : ℕ
  tic = machine.ran (game.nodes q)

  -- where it runs the tic, that is a step; the marks that it would be told do not matter
  after : Went (Had (now_of game gone ∷ older)) rules
      (with_node game q (ran_on rules.limits q (game.nodes q) (λ p. pos 0))) gone
  after = runs_on follows q mine plays nobody (λ p. pos 0)

  abbrev history : List (ℕ → Holder TicCmd)
  history = now_of (with_node game q (ran_on rules.limits q (game.nodes q) (λ p. pos 0))) gone ∷ after.0

  kept : IsKept rules.players (past_seen history)
  kept = always rules.players rules.ahead (past_seen history) after.1.run

  was_now : (x : ℕ) → Had history x (now_of game gone x)
  was_now x = after.1.knows x (now_of game gone x) (inl refl)

  -- the node when it has run the tic
  abbrev then_seen : Holder TicCmd
  then_seen = holder_of (ran_on rules.limits q (game.nodes q) (λ p. pos 0)) (gone q)

  was_then : Had history q then_seen
  was_then = inl (sym (ap (λ (n : machine.Node). holder_of n (gone q))
      (put_at game.nodes q q (ran_on rules.limits q (game.nodes q) (λ p. pos 0)) refl)))

  longer : length then_seen.rows ≡ tic + 1
  longer = length_rows _ _ ∙ length_push (game.nodes q).rows _

  module _ (p : ℕ) (its : p < rules.players) (here : is_absent (game.nodes q) p ≡ false) (late : 12 < tic)
      (compared : (gone q p ≡ false) ⊎ (rules.ahead + rules.ahead ≤ 12)) where
    has : tic < length ((game.nodes q).held p)
    has =
        let none : is_awaited (game.nodes q) p ≡ false =
        lowest_none_each rules.players (is_awaited (game.nodes q)) nobody p its in
        let here_too : leb (got (game.nodes q) p) tic ≡ false =
        sym (ap (λ (b : Bool). not b && leb (got (game.nodes q) p) tic) here) ∙ none in
        omega (arith, leb-false (got (game.nodes q) p) tic here_too)

    over : is_over (end_seen (game.nodes q) p) tic ≡ false
    over = sym (absent_is follows q mine p its) ∙ here

    present : lacks_at (seen then_seen) tic p ≡ false
    present =
        let a = longer in
        (kept.sound q (seen then_seen) (was_seen history q then_seen was_then)).rows p tic its (omega arith) ∙ over

    pub mark_fits : (held_at (game.nodes q) p tic).mark ≡ own_mark (game.nodes q) p tic
    mark_fits =
        let a = longer in
        mark_is rules settings game gone older follows all_marked low q mine p its tic (omega arith) has
        (omega arith) history after.1.handed after.1.run was_now then_seen was_then (omega arith) present
        (λ back. refl) compared
        ∙ (sym ((all_marked q).told p (tic - 12) its (omega arith)
        (over_before (end_seen (game.nodes q) p) (tic - 12) tic (omega arith) over))
        ∙ sym (cond-false (ltb tic 12) (pos 0) ((game.nodes q).marks (tic - 12) p) (le-ltb tic 12 (omega arith))))

  -- so none is off of what is compared
  off_none : (p : ℕ) → p < rules.players → 12 < tic → (gone q p ≡ false) ⊎ (rules.ahead + rules.ahead ≤ 12)
      → is_off (game.nodes q) p ≡ false
  off_none p l late compared = grind (arith, and_left, and_right, same_passes, mark_fits)

  -- so none is found
  pub none_off : first_off_but rules.limits (gone q) (game.nodes q) ≡ None
  none_off = grind (arith, cond_both, lowest_none, and_left, and_right, off_none, ltb-true)

  -- of all players in narrow windows
  pub none_off_at_all : rules.ahead + rules.ahead ≤ 12 → first_off rules.limits (game.nodes q) ≡ None
  none_off_at_all narrow = grind (arith, cond_both, lowest_none, off_none, ltb-true)
