-- A decision of a node is a step.
use Rattle.std.proofs.Common.{◌≡◌, ℕ, ◌<◌, eqb, refl, sym, ◌∙◌, ap, subst, arith, inl, inr, List, ◌∷◌, length, Bool, true, false, Option, Some, None, option_map}
use Rattle.std.proofs.lemmas.Bool.{both_ways, cases_Bool, cases_lt, cond-true, cond-false, lt-leb, or_cases, eqb-true, true≢false}
use Rattle.std.proofs.{lemmas.Option.{none-some, same_Some}, Math.Seq.take-length}
use Rattle.dn_tic.specs.declared.command.TicCmd.{TicCmd}
use Rattle.dn_machine.specs.{declared.peer.Peer.Peer, Game.Game, Game.with_node, Node.ends_of, Node.has_left, Node.put, Worlds.Rules, Running.is_over}
use Rattle.dn_machine.proofs.Put.{same_functions}
use Rattle.dn_remain.specs.Vanished.{Commands.{Holder, seen, past_seen, Had, longest, told, on_decision}, Steps.Decide}
use Rattle.dn_remain.specs.Wary.{reached, end_seen, holder_of, now_of, Report, or_fresh, settled}
use Rattle.dn_remain.specs.Vanished.{Calls.{is_heard, can_decide, report_or, AreTrue}, Node.{Node, HasHeard, decided}}
use Rattle.dn_remain.proofs.{Vanished.Invariant.IsKept, Vanished.Always.always, Vanished.Deciding.old_ends, Vanished.Handing.was_seen, Vanished.Lists.counts, Vanished.Lists.own_below, Vanished.Lists.pieces, Vanished.Stepping.cases_Option, Vanished.Tests.bounded, Vanished.Tests.every_at, Vanished.Tests.heard_from, Seeing.same_holder, Seeing.length_rows, Seeing.rows_alike, Seeing.reached_some, Known.Follows, Following.steps_set}
use Rattle.dn_machine.specs.Node as machine

-- what is told, or nothing
seen_or : (o : Option Report) → report_or (option_map seen o) ≡ seen (or_fresh o)
seen_or None = refl
seen_or (Some report) = refl

seen_some : (o : Option Report) (node : Node) → option_map seen o ≡ Some node → (report : Report) × (o ≡ Some report) × (node ≡ seen report)
seen_some None node h = absurd (none-some node h)
seen_some (Some report) node h = (report, refl, sym (same_Some (seen report) node h))

module _ {S : Type 0} {known : ℕ → Holder TicCmd → Type 0} {rules : Rules S} {game : Game} {gone : ℕ → ℕ → Bool}
    {older : List (ℕ → Holder TicCmd)} (follows : Follows known rules game gone older) (q : ℕ)
    (mine : q < rules.players) (here : has_left (game.nodes q) ≡ false) (newest : ℕ → Option Report)
    (true_newest : (r : ℕ) (report : Report) → newest r ≡ Some report → Had (now_of game gone ∷ older) r report)
    (can : can_decide rules.players q (seen (holder_of (game.nodes q) (gone q)))
    (λ r. option_map seen (newest r)) ≡ true) where
  abbrev me : machine.Node
  me = game.nodes q

  abbrev past : List (ℕ → Holder TicCmd)
  past = now_of game gone ∷ older

  abbrev has : Holder TicCmd
  has = now_of game gone q

  abbrev heard : ℕ → Report
  heard r = or_fresh (newest r)

  kept : IsKept rules.players (past_seen past)
  kept = always rules.players rules.ahead (past_seen past) follows.run

  known_seen : AreTrue (past_seen past) (λ r. option_map seen (newest r))
  known_seen r node h = grind (arith, seen_some, was_seen)

  has_heard : HasHeard rules.players (past_seen past) q (seen has) (λ r. seen (or_fresh (newest r)))
  has_heard = subst (λ (h : ℕ → Node). HasHeard rules.players (past_seen past) q (seen has) h)
      (same_functions (λ r. seen_or (newest r))) (heard_from rules.players rules.ahead (past_seen past) q
      (λ r. option_map seen (newest r)) follows.run known_seen can)

  -- whoever is asked for a report had told one
  had : (r : ℕ) → r < rules.players → (r ≡ q → ⊥) → gone q r ≡ false → Had past r (or_fresh (newest r))
  had r l n o = elim (cases_Option (newest r)) [
    | inr e ↦ subst (λ (i : Option Report). Had past r (or_fresh i)) (sym e.1) (true_newest r e.0 e.1)
    | inl e ↦ absurd (elim (or_cases (eqb r q) _ (every_at rules.players
        (is_heard rules.players q (seen has) (λ s. option_map seen (newest s))) r can l)) [
          | inl i ↦ n (eqb-true r q i)
          | inr a ↦ grind (arith, or_cases, both_ways, true≢false)
        ])
  ]

  abbrev after : Report
  after = on_decision rules.players q has heard

  abbrev new : machine.Node
  new = settled me (gone q) (on_decision rules.players q has heard)

  end_in : (p : ℕ) → gone q p ≡ true → ends_of new p ≡ after.ends p
  end_in p t = ap (λ (o : Peer). o.end) (cond-true (gone q p) _ (me.peers p) t)

  end_out : (p : ℕ) → gone q p ≡ false → ends_of new p ≡ ends_of me p
  end_out p f = ap (λ (o : Peer). o.end) (cond-false (gone q p) _ (me.peers p) f)

  longest_is : (p : ℕ) → gone q p ≡ true → after.ends p ≡ Some (length (after.held p))
  longest_is p t = cond-true (gone q p) _ (end_seen me p) t
      ∙ ap (λ (cs : List TicCmd). Some (length cs)) (sym (cond-true (gone q p) _ (me.held p) t))

  end_at : (p : ℕ) → end_seen new p ≡ after.ends p
  end_at p = grind (arith, reached, end_in, longest_is, reached_some, end_out, cond-false)

  counted : seen after ≡ decided rules.players q (seen has) (λ r. seen (or_fresh (newest r)))
  counted = counts rules.players q has heard

  -- the ends come after the tics that were run
  over_same : (p tic : ℕ) → tic < machine.ran me → is_over (after.ends p) tic ≡ is_over (end_seen me p) tic
  over_same p tic l = elim (cases_Bool (gone q p)) [
    | inr f ↦ ap (λ (o : Option ℕ). is_over o tic) (cond-false (gone q p) _ (end_seen me p) f)
    | inl t ↦ elim (cases_Option (end_seen me p)) [
      | inr e ↦
          let old = old_ends rules.players (λ x. seen (now_of game gone x)) (past_seen older) q mine here kept
          (λ r. seen (or_fresh (newest r))) has_heard p e.0 e.1 in
          ap (λ (o : Option ℕ). is_over o tic) (ap (λ (n : Node). n.ends p) counted ∙ (old ∙ sym e.1))
      | inl e ↦
          let low : p < rules.players = elim (cases_lt p rules.players) [
            | inl m ↦ m
            | inr m ↦ absurd (both_ways (gone q p) (bounded rules.players rules.ahead
                (past_seen past) follows.run q (seen has) (inl refl) p m) t)
          ] in
          let rows = length_rows (end_seen me) (machine.ran me) in
          let a = (kept.sound q (seen has) (inl refl)).ahead p low e in
          let b = own_below rules.players q has heard p mine in
          let c = ap (length {A = TicCmd}) (cond-true (gone q p) (longest rules.players (told q has heard p))
          (me.held p) t) in
          ap (λ (o : Option ℕ). is_over o tic) (longest_is p t) ∙ (lt-leb (length (after.held p)) tic
          (omega arith) ∙ sym (ap (λ (o : Option ℕ). is_over o tic) e))
    ]
  ]

  holder_is : holder_of new (gone q) ≡ after
  holder_is = grind (arith, same_holder, after, same_functions, end_at, rows_alike, over_same)

  own_gone : gone q q ≡ false
  own_gone = (kept.sound q (seen has) (inl refl)).own

  held_own : new.held q ≡ me.held q
  held_own = grind (arith, cond-false, own_gone)

  pub settles : Follows known rules (with_node game q (settled me (gone q)
      (on_decision rules.players q has heard))) (put gone q (gone q)) past
  settles = steps_set follows q (gone q) new (record {
    ends = λ p e s f. follows.ends q p e (sym (end_out p f) ∙ s) f;
    endless = end_out q own_gone ∙ follows.endless q;
    rows = inl refl;
    resend = grind (arith, held_own, cond-true, cond-false);
  }) mine here Decide (
    (λ r. seen (or_fresh (newest r))),
    has_heard,
    ap (λ (h : Holder TicCmd). seen h) holder_is ∙ counted,
  ) (inl held_own)
      (λ p n. elim (pieces rules.players q has heard p mine) [
        | inl e ↦ inl e
        | inr k ↦ inr (
          k.0,
          or_fresh (newest k.0),
          length ((or_fresh (newest k.0)).held p),
          had k.0 k.1 k.2 k.3,
          k.4 ∙ sym (take-length ((or_fresh (newest k.0)).held p)),
        )
      ])
