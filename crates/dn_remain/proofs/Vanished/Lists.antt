-- Decisions on lists. The last commands of a list that is told are enough for one.
use Rattle.std.proofs.Common.{◌≡◌, ℕ, ◌<◌, ◌≤◌, ltb, eqb, zero, suc, refl, sym, ◌∙◌, ap, arith, inl, inr, List, [], ◌∷◌, length, cond, ◌+◌, ◌-◌, ◌++◌, take, drop, ◌⊎◌, max, Bool, true, false, Some}
use Rattle.std.proofs.lemmas.Bool.{cases_eq, cases_lt, cases_Bool, lt-ltb, le-ltb, eq-eqb, ne_eqb, cond-true, cond-false}
use Rattle.std.proofs.Math.{Nat.{max-eq_left, max-eq_right}, Seq.{take-append_seam, take-length}}
use Rattle.std.proofs.lemmas.{Bool.both_ways, List.{take-append-drop, take-append-le, drop-drop}}
use Rattle.dn_machine.proofs.Put.{same_functions}
use Rattle.dn_machine.specs.{Promise.IsPrefixOf, Node.put}
use Rattle.dn_remain.specs.Vanished.{Node.{highest, share, decided_end, decided}, Steps.IsRun}
use Rattle.dn_remain.specs.Vanished.Commands.{Holder, seen, past_seen, holders, Handed, AreHanded, longer, longest, told, on_decision, HasHeardLists, IsReady, caught_up}
use Rattle.dn_remain.proofs.Vanished.{Put.highest_bounds, Invariant.IsKept, Views.stands_outside, Always.always}
use Rattle.dn_remain.proofs.Vanished.{Tests.bounded, Windows.fits, Handing.{handed, was_seen}}

length_if : {C : Type 0} (b : Bool) (xs ys : List C) → length (cond b xs ys) ≡ cond b (length xs) (length ys)
length_if true xs ys = refl
length_if false xs ys = refl

empty_if_short : {C : Type 0} (xs : List C) → length xs ≡ 0 → xs ≡ []
empty_if_short [] e = refl
empty_if_short (x ∷ xs) e = absurd (omega arith)

module _ {C : Type 0} where
  longer_counts : (xs ys : List C) → length (longer xs ys) ≡ max (length xs) (length ys)
  longer_counts xs ys = grind (arith, cases_lt, cond-true, lt-ltb, max-eq_right, cond-false, le-ltb, max-eq_left)

  longest_counts : (n : ℕ) (lists : ℕ → List C) → length (longest n lists) ≡ highest n (λ r. length (lists r))
  unfolding longest highest
  longest_counts zero lists = refl
  longest_counts (suc n) lists = longer_counts (longest n lists) (lists n)
      ∙ ap (λ (k : ℕ). max k (length (lists n))) (longest_counts n lists)

  -- the longest is one of them
  longest_reached : (n : ℕ) (lists : ℕ → List C) → 0 < n → (r : ℕ) × (r < n) × (longest n lists ≡ lists r)
  unfolding longest
  longest_reached zero lists h = absurd (omega arith)
  longest_reached (suc zero) lists h = grind (arith, cond-true, lt-ltb, cond-false, le-ltb, empty_if_short)
  longest_reached (suc (suc n)) lists h =
      let k = longest_reached (suc n) lists (omega arith) in
      let a : List C = longest (suc n) lists in
      let b : List C = lists (suc n) in
      elim (cases_lt (length a) (length b)) [
        | inl l ↦ (suc n, omega arith, cond-true (ltb (length a) (length b)) b a (lt-ltb (length a) (length b) l))
        | inr l ↦ grind (arith, cond-false, le-ltb)
      ]

  module _ (players q : ℕ) (holder : Holder C) (heard : ℕ → Holder C) where
    told_counts : (p r : ℕ) → length (told q holder heard p r) ≡ share q (seen holder) (λ s. seen (heard s)) p r
    told_counts p r = grind (arith, length_if)

    end_counts : (p : ℕ) → length (longest players (told q holder heard p))
        ≡ decided_end players q (seen holder) (λ s. seen (heard s)) p
    end_counts p = grind (arith, longest_counts, same_functions, told_counts)

    got_counts : (p : ℕ) → length ((on_decision players q holder heard).held p)
        ≡ (decided players q (seen holder) (λ s. seen (heard s))).got p
    got_counts p = grind (arith, length_if, end_counts)

    ends_count : (p : ℕ) → (on_decision players q holder heard).ends p
        ≡ (decided players q (seen holder) (λ s. seen (heard s))).ends p
    ends_count p = ap (λ (k : ℕ). cond (holder.gone p) (Some k) (holder.ends p)) (end_counts p)

    pub counts : seen (on_decision players q holder heard) ≡ decided players q (seen holder) (λ r. seen (heard r))
    counts = grind (arith, same_functions, got_counts, ends_count)

    pub own_below : (p : ℕ) → q < players → length (holder.held p) ≤ length (longest players (told q holder heard p))
    own_below p l =
        let a = highest_bounds players (λ r. length (told q holder heard p r)) q l in
        let b : length (told q holder heard p q) ≡ length (holder.held p) =
        ap length (cond-true (eqb q q) _ _ (eq-eqb q q refl)) in
        omega (arith, longest_counts players (told q holder heard p))

    pub pieces : (p : ℕ) → q < players → ((on_decision players q holder heard).held p ≡ holder.held p)
        ⊎ ((r : ℕ) × (r < players) × ((r ≡ q → ⊥)) × (holder.gone r ≡ false)
        × ((on_decision players q holder heard).held p ≡ (heard r).held p))
    pieces p l = elim (cases_Bool (holder.gone p)) [
      | inr f ↦ inl (cond-false (holder.gone p) (longest players (told q holder heard p)) (holder.held p) f)
      | inl t ↦
          let k = longest_reached players (told q holder heard p) (omega arith) in
          let here = cond-true (holder.gone p) (longest players (told q holder heard p)) (holder.held p) t ∙ k.2 in
          elim (cases_eq k.0 q) [
            | inl e ↦ inl (here ∙ cond-true (eqb k.0 q) _ _ (eq-eqb k.0 q e))
            | inr n ↦ elim (cases_Bool (holder.gone k.0)) [
              | inr o ↦ grind (arith, cond-false, ne_eqb)
              | inl g ↦
                  let empty : told q holder heard p k.0 ≡ [] = grind (arith, cond-false, ne_eqb, cond-true) in
                  let a : length (longest players (told q holder heard p)) ≡ 0 = ap length (k.2 ∙ empty) in
                  let b = own_below p l in
                  inl (here ∙ (empty ∙ sym (empty_if_short (holder.held p) (omega arith))))
            ]
          ]
    ]

module _ {C : Type 0} where
  -- of two prefixes of one list the shorter begins the longer
  pub begins : (xs ys zs : List C) → IsPrefixOf xs zs → IsPrefixOf ys zs → length xs ≤ length ys
      → xs ++ drop (length xs) ys ≡ ys
  begins xs ys zs h k l =
      let a : take (length xs) ys ≡ xs = sym (take-append-le (length xs) ys k.0 l)
      ∙ (ap (λ (ws : List C). take (length xs) ws) (k.1 ∙ sym h.1) ∙ take-append_seam xs h.0) in
      ap (λ (ws : List C). ws ++ drop (length xs) ys) (sym a) ∙ take-append-drop (length xs) ys

  catches : (places : ℕ) (own told : List C) → length told ≤ length own + places
      → own ++ drop (length own) told ≡ told → caught_up places own told ≡ told
  catches places own told l e = grind (arith, told, drop-drop)

  module _ (players ahead places : ℕ) (nodes : ℕ → Holder C) (older : List (ℕ → Holder C)) (q : ℕ)
      (heard : ℕ → Holder C) (h : AreHanded (nodes ∷ older))
      (run : IsRun players ahead (past_seen (nodes ∷ older))) (room : ahead + ahead ≤ places) (l : q < players)
      (here : (nodes q).left ≡ false) (hears : HasHeardLists players (nodes ∷ older) q (nodes q) heard) where
    kept : IsKept players (past_seen (nodes ∷ older))
    kept = always players ahead (past_seen (nodes ∷ older)) run

    own : ℕ → List C
    own p = (nodes q).held p

    -- what is told is at most twice the window longer
    near : (p r : ℕ) → p < players → r < players → (r ≡ q → ⊥) → (nodes q).gone r ≡ false
        → length ((heard r).held p) ≤ length ((nodes q).held p) + (ahead + ahead)
    near p r m n f o =
        let k = hears r n f o in
        (fits players ahead (past_seen (nodes ∷ older)) run).unheard q r p (seen (heard r)) l n m (λ e. f (sym e)) here o
        (was_seen (nodes ∷ older) r (heard r) k.0)
        (stands_outside (nodes q).gone (seen (heard r)) q k.1 (kept.sound q (seen (nodes q)) (inl refl)).own)

    told_is : (p r : ℕ) → p < players → r < players → (r ≡ q → ⊥) → (nodes q).gone r ≡ false
        → (length ((heard r).held p) - places ≤ length ((nodes q).held p))
        × (length ((nodes q).held p) ≤ length ((heard r).held p)
        → caught_up places ((nodes q).held p) ((heard r).held p) ≡ (heard r).held p)
    told_is p r m n f o =
        let a = near p r m n f o in (
          omega arith,
          λ i. catches places ((nodes q).held p) ((heard r).held p) (omega arith)
              (begins ((nodes q).held p) ((heard r).held p) ((nodes p).held p)
              (handed (nodes ∷ older) h q p (nodes q) (inl refl))
              (handed (nodes ∷ older) h r p (heard r) (hears r n f o).0) i),
        )

    -- what holds of the list that was decided on
    IsCaught : ℕ → List C → Type 0
    IsCaught p all = (length all ≤ length ((nodes q).held p) + (ahead + ahead))
        × (caught_up places ((nodes q).held p) all ≡ all)

    own_is : (p : ℕ) → IsCaught p ((nodes q).held p)
    unfolding IsCaught
    own_is p =
        let k = handed (nodes ∷ older) h q p (nodes q) (inl refl) in (
          omega arith,
          catches places ((nodes q).held p) ((nodes q).held p) (omega arith)
              (begins ((nodes q).held p) ((nodes q).held p) ((nodes p).held p) k k (omega arith)),
        )

    above : (p : ℕ) → (nodes q).gone p ≡ true
        → length ((nodes q).held p) ≤ length ((on_decision players q (nodes q) heard).held p)
    above p t = grind (arith, own_below, cond-true)

    is_player : (p : ℕ) → (nodes q).gone p ≡ true → p < players
    is_player p t = elim (cases_lt p players) [
      | inl m ↦ m
      | inr m ↦ absurd (both_ways ((nodes q).gone p)
          (bounded players ahead (past_seen (nodes ∷ older)) run q (seen (nodes q)) (inl refl) p m) t)
    ]

    caught : (p : ℕ) → (nodes q).gone p ≡ true → IsCaught p ((on_decision players q (nodes q) heard).held p)
    unfolding IsCaught
    caught p t = grind (arith, pieces, own_is, is_player, above, near, told_is)

    all_is : (p : ℕ) → (nodes q).gone p ≡ true
        → (length ((nodes q).held p) ≤ length ((on_decision players q (nodes q) heard).held p))
        × (length ((on_decision players q (nodes q) heard).held p) ≤ length ((nodes q).held p) + (ahead + ahead))
        × (caught_up places ((nodes q).held p) ((on_decision players q (nodes q) heard).held p)
        ≡ (on_decision players q (nodes q) heard).held p)
    unfolding IsCaught
    all_is p t = let k = caught p t in (above p t, k.0, k.1)

  pub ready_told : (players ahead places : ℕ) (history : List (ℕ → Holder C)) (q p r : ℕ) (heard : ℕ → Holder C)
      → IsReady players ahead places history q heard
      → p < players → r < players → (r ≡ q → ⊥) → (holders history q).gone r ≡ false
      → (length ((heard r).held p) - places ≤ length ((holders history q).held p))
      × (length ((holders history q).held p) ≤ length ((heard r).held p)
      → caught_up places ((holders history q).held p) ((heard r).held p) ≡ (heard r).held p)
  ready_told players ahead places [] q p r heard h m n f o = absurd h.run
  ready_told players ahead places (nodes ∷ older) q p r heard h m n f o = grind (arith, told_is, handed)

  pub ready_all : (players ahead places : ℕ) (history : List (ℕ → Holder C)) (q p : ℕ) (heard : ℕ → Holder C)
      → IsReady players ahead places history q heard → (holders history q).gone p ≡ true
      → (all : List C) × (all ≡ (on_decision players q (holders history q) heard).held p)
      × (length ((holders history q).held p) ≤ length all)
      × (length all ≤ length ((holders history q).held p) + (ahead + ahead))
      × (caught_up places ((holders history q).held p) all ≡ all)
  ready_all players ahead places [] q p heard h t = absurd h.run
  ready_all players ahead places (nodes ∷ older) q p heard h t =
      let k = all_is players ahead places nodes older q heard h.handed h.run h.room h.player h.here h.heard_lists p t in
      ((on_decision players q (nodes q) heard).held p, refl, k.0, k.1, k.2)

  -- a decision hands lists on
  pub hands_on : (players q : ℕ) (nodes : ℕ → Holder C) (older : List (ℕ → Holder C)) (heard : ℕ → Holder C)
      → q < players → (nodes q).gone q ≡ false → HasHeardLists players (nodes ∷ older) q (nodes q) heard
      → Handed nodes older (put nodes q (on_decision players q (nodes q) heard))
  hands_on players q nodes older heard l o hears = record {
    q = q;
    new = on_decision players q (nodes q) heard;
    next_is = refl;
    own = inl (cond-false ((nodes q).gone q) (longest players (told q (nodes q) heard q)) ((nodes q).held q) o);
    others = λ p n. elim (pieces players q (nodes q) heard p l) [
      | inl e ↦ inl e
      | inr k ↦ inr (
        k.0,
        heard k.0,
        length ((heard k.0).held p),
        (hears k.0 k.1 k.2 k.3).0,
        k.4 ∙ sym (take-length ((heard k.0).held p)),
      )
    ];
  }
