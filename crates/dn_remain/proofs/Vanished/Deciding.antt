-- A decision keeps all.
use Rattle.std.proofs.Common.{◌≡◌, ℕ, ◌<◌, ◌≤◌, eqb, refl, sym, ◌∙◌, arith, inl, inr, List, ◌∷◌, ◌⊎◌, Bool, true, false, Some}
use Rattle.std.proofs.lemmas.{Bool.both_ways, Bool.cases_eq, Bool.cases_Bool, Bool.eq-eqb, Bool.ne_eqb, Bool.cond-true, Bool.cond-false, Option.same_Some}
use Rattle.dn_machine.proofs.Put.{put_at, put_off}
use Rattle.dn_machine.specs.Node.{put}
use Rattle.dn_remain.specs.Vanished.Node.{Node, Was, Same, Within, Stands, HasHeard, share, decided_end, decided}
use Rattle.dn_remain.proofs.Vanished.Put.{highest_bounds, highest_reached}
use Rattle.dn_remain.proofs.Vanished.Stepping.{IsGood, grows, stays, IsTold, told_still, told_of, sound_by}
use Rattle.dn_remain.proofs.Vanished.Invariant.{IsBase, IsDecision, IsLater, HasSource, IsSound, IsMet, IsKept}
use Rattle.dn_remain.proofs.Vanished.Views.{outside, stands_outside, both_within, base_same, base_kept, source_kept}

module _ (players : ℕ) (nodes : ℕ → Node) (older : List (ℕ → Node)) (q : ℕ) (l : q < players)
    (here : (nodes q).left ≡ false) (kept : IsKept players (nodes ∷ older)) (heard : ℕ → Node)
    (hears : HasHeard players (nodes ∷ older) q (nodes q) heard) where
  abbrev past : List (ℕ → Node)
  past = nodes ∷ older

  -- the node after it decided, and the end of a player by this decision
  abbrev next : Node
  next = decided players q (nodes q) heard

  abbrev end : ℕ → ℕ
  end p = decided_end players q (nodes q) heard p

  abbrev after : List (ℕ → Node)
  after = put nodes q next ∷ past

  sound : IsSound players past q (nodes q)
  sound = kept.sound q (nodes q) (inl refl)

  -- what it has after it decided
  pub got_in : (p : ℕ) → (nodes q).gone p ≡ true → next.got p ≡ end p
  got_in p t = cond-true ((nodes q).gone p) (end p) ((nodes q).got p) t

  pub got_out : (p : ℕ) → (nodes q).gone p ≡ false → next.got p ≡ (nodes q).got p
  got_out p t = cond-false ((nodes q).gone p) (end p) ((nodes q).got p) t

  pub ends_in : (p : ℕ) → (nodes q).gone p ≡ true → next.ends p ≡ Some (end p)
  ends_in p t = cond-true ((nodes q).gone p) (Some (end p)) ((nodes q).ends p) t

  ends_out : (p : ℕ) → (nodes q).gone p ≡ false → next.ends p ≡ (nodes q).ends p
  ends_out p t = cond-false ((nodes q).gone p) (Some (end p)) ((nodes q).ends p) t

  -- whose counts are looked at
  share_own : (p r : ℕ) → r ≡ q → share q (nodes q) heard p r ≡ (nodes q).got p
  share_own p r e = cond-true (eqb r q) _ _ (eq-eqb r q e)

  share_other : (p r : ℕ) → (r ≡ q → ⊥) → (nodes q).gone r ≡ false → share q (nodes q) heard p r ≡ (heard r).got p
  share_other p r n o = cond-false (eqb r q) _ _ (ne_eqb r q n) ∙ cond-false ((nodes q).gone r) 0 ((heard r).got p) o

  share_gone : (p r : ℕ) → (r ≡ q → ⊥) → (nodes q).gone r ≡ true → share q (nodes q) heard p r ≡ 0
  share_gone p r n o = cond-false (eqb r q) _ _ (ne_eqb r q n) ∙ cond-true ((nodes q).gone r) 0 ((heard r).got p) o

  above_own : (p : ℕ) → (nodes q).got p ≤ end p
  above_own p = omega (arith, highest_bounds players (share q (nodes q) heard p) q l, share_own p q refl)

  above : (p r : ℕ) → r < players → (r ≡ q → ⊥) → (nodes q).gone r ≡ false → (heard r).got p ≤ end p
  above p r m n o = omega (arith, highest_bounds players (share q (nodes q) heard p) r m, share_other p r n o)

  -- the end is the count of the node itself, or of one that it heard
  pub reached : (p : ℕ) → (end p ≡ (nodes q).got p)
      ⊎ ((r : ℕ) × (r < players) × (r ≡ q → ⊥) × ((nodes q).gone r ≡ false) × (end p ≡ (heard r).got p))
  reached p =
      let h = highest_reached players (share q (nodes q) heard p) (omega arith) in
      grind (arith, share_own, share_gone, above_own, share_other)

  -- nobody who was heard had given up `q`
  pub not_q : (r : ℕ) → r < players → (r ≡ q → ⊥) → (nodes q).gone r ≡ false → (heard r).gone q ≡ false
  not_q r m n o = stands_outside (nodes q).gone (heard r) q (hears r m n o).1 sound.own

  -- a decision of another who had not given up `q` was for players whom `q` has given up
  inside : (z : ℕ) (d : Node) → IsDecision players past z d → d.gone q ≡ false → Within d.gone (nodes q).gone
  inside z d h o p t = grind (arith, both_ways)

  -- the end of an earlier decision for the same set is not above what states that stand for it reach
  floor : (z : ℕ) (d : Node) (set : ℕ → Bool) (p b : ℕ) → IsDecision players past z d
      → d.gone p ≡ true → Within d.gone (nodes q).gone → Same set (nodes q).gone → Within set d.gone
      → ((r : ℕ) → r < players → (nodes q).gone r ≡ false
      → (w : Node) × Was past r w × Stands (nodes q).gone w × (w.got p ≤ b))
      → d.got p ≤ b
  floor z d set p b h t i s j k =
      (base_same players past d.gone (nodes q).gone p (d.got p)
      (both_within d.gone (nodes q).gone i (λ r u. j r (s r ∙ u))) (h.base p t)).bound b k

  -- what a state that stood for a set had of one of it is at most what decisions for the set have
  stood : (r p b : ℕ) (set : ℕ → Bool) (old new : Node) → IsLater players past r old new
      → Stands set old → set p ≡ true → old.got p ≤ b
      → ((d : Node) → IsDecision players past r d → Within old.gone d.gone
      → Within d.gone new.gone → Same old.gone set → d.got p ≤ b)
      → new.got p ≤ b
  stood r p b set old new order (inr gone) t low decided = grind arith
  stood r p b set old new order (inl same) t low decided = grind arith

  -- whoever decides for this set decides at least this
  base_new : (p : ℕ) → (nodes q).gone p ≡ true → IsBase players past (nodes q).gone p (end p)
  base_new p t = record {
    bound = λ b k. elim (reached p) [
      | inl e ↦
          let w = k q l sound.own in
          let a : (nodes q).got p ≤ b =
          stood q p b (nodes q).gone w.0 (nodes q) (kept.order q w.0 w.1) w.2 t w.3
          (λ d i u o same. floor q d w.0.gone p b i (u p (same p ∙ t)) o same u k) in
          omega arith
      | inr h ↦
          let w = k h.0 h.1 h.3 in
          let c : w.0.got p ≤ b = w.3 in
          let ev = hears h.0 h.1 h.2 h.3 in
          let e : end p ≡ (heard h.0).got p = h.4 in
          elim (kept.pairs h.0 w.0 (heard h.0) w.1 ev.0) [
            | inr order ↦ let a : (heard h.0).got p ≤ w.0.got p = order.got p in omega arith
            | inl order ↦
                let a : (heard h.0).got p ≤ b =
                stood h.0 p b (nodes q).gone w.0 (heard h.0) order w.2 t c (λ d i u o same.
                floor h.0 d w.0.gone p b i (u p (same p ∙ t))
                (inside h.0 d i (outside d.gone (heard h.0).gone q o (not_q h.0 h.1 h.2 h.3))) same u k) in
                omega arith
          ]
    ];
  }

  -- no count falls
  pub up : (p : ℕ) → (nodes q).got p ≤ next.got p
  up p = grind (arith, got_in, above_own, got_out)

  -- of each who has not been given up there is a state that stands for the set
  stands : (r : ℕ) → r < players → (nodes q).gone r ≡ false
      → (w : Node) × Was past r w × Stands (nodes q).gone w
      × ((p : ℕ) → (nodes q).gone p ≡ true → w.got p ≤ next.got p)
  stands r m o = grind (arith, up, got_in, above)

  -- and that has none of the commands that the node made later
  stands_own : (r : ℕ) → r < players → (nodes q).gone r ≡ false
      → (w : Node) × Was past r w × Stands (nodes q).gone w × (w.got q ≤ next.got q)
  stands_own r m o = grind (arith, up, sound)

  decision : IsDecision players after q next
  decision = grind (arith, put_at, sound, ends_in, got_in, stands, stands_own, IsBase, base_kept, grows, up, base_new)

  -- an end that it knew is the one that it decides
  same_end : (p e : ℕ) → (nodes q).gone p ≡ true → (nodes q).ends p ≡ Some e → end p ≡ e
  same_end p e t s = grind (arith, sound, above_own, reached, outside, not_q)

  end_made : (p : ℕ) → end p ≤ (nodes p).got p
  end_made p = grind (arith, reached, sound)

  pub old_ends : (p e : ℕ) → (nodes q).ends p ≡ Some e → next.ends p ≡ Some e
  old_ends p e s = grind (arith, ends_in, same_end, ends_out)

  later : IsLater players after q (nodes q) next
  later = grind (arith, up, old_ends, both_ways, decision)

  end_is : (p e : ℕ) → (nodes q).gone p ≡ true → next.ends p ≡ Some e → end p ≡ e
  end_is p e t s = same_Some _ _ (sym (ends_in p t) ∙ s)

  full : (p e : ℕ) → next.ends p ≡ Some e → next.got p ≡ e
  full p e s = grind (arith, got_in, end_is, got_out, sound, ends_out)

  made : (p : ℕ) → next.got p ≤ (put nodes q next p).got p
  made p = grind (arith, put_at, put_off, got_in, end_made, got_out, sound)

  source : (p e : ℕ) → next.ends p ≡ Some e → HasSource players after q next p e
  source p e s = grind (arith, decision, full, source_kept, grows, up, stays, sound, ends_out)

  -- what others have of one whose end it decided
  met_left : (z : ℕ) (v : Node) → z < players → (z ≡ q → ⊥) → Was past z v → IsMet q z next v
  met_left z v m n w a b p e s = elim (cases_Bool ((nodes q).gone p)) [
    | inr t ↦ kept.met q z (nodes q) v l m (λ i. n (sym i)) (inl refl) w a b p e (sym (ends_out p t) ∙ s)
    | inl t ↦
        let ev = hears z m n a in
        let c : (heard z).got p ≤ end p = above p z m n a in
        let f : end p ≡ e = end_is p e t s in
        elim (kept.pairs z v (heard z) w ev.0) [
          | inl order ↦ let g : v.got p ≤ (heard z).got p = order.got p in omega arith
          | inr order ↦
              let g : v.got p ≤ end p =
              stood z p (end p) (nodes q).gone (heard z) v order ev.1 t c
              (λ d i u o same. floor z d (heard z).gone p (end p) i (u p (same p ∙ t))
              (inside z d i (outside d.gone v.gone q o b)) same u (λ r i j.
              let k = stands r i j in
              let x : k.0.got p ≤ next.got p = k.3 p t in
              let y = got_in p t in
              (k.0, k.1, k.2, omega arith))) in
              omega arith
        ]
  ]

  -- what one that was heard has, where another who decided before was not given up
  heard_below : (z : ℕ) (d : Node) (p : ℕ) → z < players → (z ≡ q → ⊥) → (nodes q).gone z ≡ false
      → IsDecision players past z d → d.gone p ≡ true → d.gone q ≡ false → (r : ℕ) → r < players
      → (r ≡ q → ⊥) → (nodes q).gone r ≡ false → (heard r).got p ≤ d.got p
  heard_below z d p m n b h t o r i j k =
      let ev = hears r i j k in
      elim (cases_eq r z) [
        | inl e ↦ grind (arith, sound, full)
        | inr c ↦
            let u : d.gone r ≡ false = outside d.gone (nodes q).gone r (inside z d h o) k in
            grind (arith, stood, outside, inside, not_q)
      ]

  met_right : (z : ℕ) (u : Node) → z < players → (z ≡ q → ⊥) → Was past z u → IsMet z q u next
  met_right z u m n w a b p e s = elim (cases_Bool ((nodes q).gone p)) [
    | inr t ↦ grind (arith, got_out)
    | inl t ↦
        let f = got_in p t in
        elim ((kept.sound z u w).source p e s) [
          | inl k ↦ let c = end_made p in let g = k.1 in omega arith
          | inr d ↦ grind (arith, outside, reached, heard_below)
        ]
  ]

  pub decided_good : IsGood players nodes older q next
  decided_good = grind (arith, IsTold, told_still, told_of, sound, up, old_ends, full, later, sound_by, made, source, met_left, met_right)
