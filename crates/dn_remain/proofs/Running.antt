-- A run runs a tic, ends a node, or changes nothing; and a quit ends one.
use Rattle.std.proofs.Common.{◌≡◌, ℤ, ℕ, suc, ◌<◌, leb, refl, sym, ◌∙◌, ap, arith, inl, inr, List, [], ◌∷◌, ◌++◌, length, Bool, true, false, not, ◌&&◌, if◌then◌else◌, Option, None, Some}
use Rattle.std.proofs.lemmas.{Bool.{cases_Bool, leb-false, lt-leb}, List.length_push}
use Rattle.dn_tic.specs.declared.command.{TicCmd.TicCmd, Move.Move}
use Rattle.dn_machine.specs.{declared.answers.Cause.Cause, declared.answers.Phase.TheVariants.Playing, declared.answers.Phase.TheVariants.Ended, Node.ends_of, Node.got, Node.held_at, Node.is_ended, Node.lowest, Game.Game, Game.with_node, Worlds.Rules}
use Rattle.dn_machine.specs.{Running.{is_absent, is_awaited, row_held, on_quit, is_over}, Sparing.on_run_but}
use Rattle.dn_machine.proofs.{Calls.{ran_on, quit_cases}, Truth.{lowest_none_each, row_of_same}}
use Rattle.dn_remain.specs.{Vanished.Steps.Run, Vanished.Steps.Leave, Vanished.Commands.Holder, Vanished.Commands.seen, Vanished.Commands.past_seen, Wary.end_seen, Wary.rows_to, Wary.holder_of, Wary.now_of, Wary.row_had}
use Rattle.dn_remain.proofs.{Vanished.Invariant.IsKept, Vanished.Always.always, Vanished.Stepping.cases_Option, Seeing.same_node, Seeing.same_holder, Seeing.length_rows, Seeing.reached_cases, Each.run_but_cases, Known.Follows, Known.IsFit, Known.Went, Known.fit_self, Known.not_left, Following.stays, Following.steps}
use Rattle.dn_machine.specs.Node as machine

module _ {S : Type 0} {known : ℕ → Holder TicCmd → Type 0} {rules : Rules S} {game : Game} {gone : ℕ → ℕ → Bool}
    {older : List (ℕ → Holder TicCmd)} (follows : Follows known rules game gone older) (q : ℕ) (mine : q < rules.players) where
  abbrev me : machine.Node
  me = game.nodes q

  abbrev ended : Cause → machine.Node
  ended cause = record me { phase = Ended cause }

  kept : IsKept rules.players (past_seen (now_of game gone ∷ older))
  kept = always rules.players rules.ahead (past_seen (now_of game gone ∷ older)) follows.run

  self : IsFit rules.limits game.nodes gone q (gone q) me
  self = fit_self follows q

  -- a node that ends has left, if it has played
  ends : (cause : Cause) → is_ended me.phase ≡ false → Went known rules (with_node game q (ended cause)) gone
  ends cause e =
      let here = not_left me e in
      let fit : IsFit rules.limits game.nodes gone q (gone q) (ended cause) =
      record { ends = self.ends; endless = self.endless; resend = self.resend; rows = inl refl } in
      elim (cases_Bool me.played) [
        | inr f ↦ (
          older,
          stays follows q (ended cause) fit (same_holder _ (holder_of me (gone q)) refl refl refl
              (ap (λ (b : Bool). b && true) f ∙ sym here) refl),
        )
        | inl t ↦ (
          now_of game gone ∷ older,
          steps follows q (ended cause) fit mine here Leave (same_node (seen (holder_of (ended cause) (gone q)))
              _ refl refl refl (ap (λ (b : Bool). b && true) t) refl) (inl refl) (λ p n. inl refl),
        )
      ]

  -- a player is absent just where an end that was reached is over
  pub absent_is : (p : ℕ) → p < rules.players → is_absent me p ≡ is_over (end_seen me p) (machine.ran me)
  absent_is p l = elim (reached_cases (got me p) (ends_of me p)) [
    | inr some ↦ ap (λ (o : Option ℕ). is_over o (machine.ran me)) (some.1 ∙ sym some.2)
    | inl none ↦
        let rows = length_rows (end_seen me) (machine.ran me) in
        let a = (kept.sound q (seen (now_of game gone q)) (inl refl)).ahead p l none.0 in
        grind (arith, cases_Option, ends_of, is_over, machine.ran, lt-leb)
  ]

  module _ (plays : me.phase ≡ Playing) (nobody : lowest rules.players (is_awaited me) ≡ None) (marks : ℕ → ℤ) where
    abbrev next : machine.Node
    next = ran_on rules.limits q me marks

    has : (p : ℕ) → p < rules.players
        → is_over (end_seen me p) (length (rows_to (end_seen me) (machine.ran me))) ≡ false
        → length (rows_to (end_seen me) (machine.ran me)) < length (me.held p)
    has p l h =
        let rows = length_rows (end_seen me) (machine.ran me) in
        let present : is_absent me p ≡ false = absent_is p l
        ∙ (ap (λ (i : ℕ). is_over (end_seen me p) i) (sym rows) ∙ h) in
        let none : is_awaited me p ≡ false = lowest_none_each rules.players (is_awaited me) nobody p l in
        let late : leb (got me p) (machine.ran me) ≡ false =
        sym (ap (λ (b : Bool). not b && leb (got me p) (machine.ran me)) present) ∙ none in
        omega (arith, leb-false (got me p) (machine.ran me) late)

    -- the row that is run is that of what is seen
    row_is : next.rows ≡ me.rows ++ row_had rules.limits (holder_of next (gone q)) (machine.ran me) ∷ []
    row_is = ap (λ (r : List (Option Move)). me.rows ++ r ∷ []) (row_of_same rules.players _ _
        (λ p l. ap (λ (b : Bool). if b then None else Some (held_at me p (machine.ran me))) (absent_is p l)))

    pub runs_on : Went known rules (with_node game q next) gone
    unfolding rows_to
    runs_on =
        let rows = length_rows (end_seen me) (machine.ran me) in
        let more : machine.ran next ≡ suc (machine.ran me) =
        omega (arith, length_push me.rows (row_held rules.limits me)) in (
          now_of game gone ∷ older,
          steps follows q next
              (record { ends = self.ends; endless = self.endless; resend = self.resend; rows = inr row_is }) mine
              (not_left me (ap is_ended plays)) Run (
                has,
                same_node (seen (holder_of next (gone q))) _ refl refl refl refl
                    (ap (λ (i : ℕ). rows_to (end_seen me) i) more ∙ ap (λ (i : ℕ). rows_to (end_seen me)
                    (machine.ran me) ++ (λ p. is_over (end_seen me p) i) ∷ []) (sym rows)),
              ) (inl refl) (λ p n. inl refl),
        )

  same : Went known rules (with_node game q me) gone
  same = (older, stays follows q me self refl)

  pub runs : (but : ℕ → Bool) (marks : ℕ → ℤ)
      → Went known rules (with_node game q (on_run_but rules.limits but me marks).0) gone
  runs but marks = run_but_cases rules.limits q but me marks (λ (n : machine.Node). Went known rules (with_node game q n) gone)
      (λ waits. same) (λ player plays none off. ends _ (ap is_ended plays))
      (λ plays none full. ends _ (ap is_ended plays)) (λ plays none room. runs_on plays none marks)

  pub quits : Went known rules (with_node game q (on_quit me).0) gone
  quits = quit_cases rules.limits q me (λ (n : machine.Node). Went known rules (with_node game q n) gone) same
      (λ goes_on. ends _ goes_on)
