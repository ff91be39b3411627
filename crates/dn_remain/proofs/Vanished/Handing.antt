-- Lists that are handed on piece by piece are fronts of their makers' lists. So of any two demos one is a
-- prefix of the other.
use Rattle.std.proofs.Common.{◌≡◌, ℕ, ◌<◌, zero, suc, refl, sym, ◌∙◌, ap, subst, arith, inl, inr, List, [], ◌∷◌, ◌++◌, append_assoc, length, take, drop, ◌≤◌, ltb, get_or, ◌⊎◌, false, slice_get, true, not, Option, None}
use Rattle.std.proofs.lemmas.{Bool.cases_eq, List.take-append-drop, Bool.cases_lt, Bool.not-true, Bool.lt-ltb, Bool.le-ltb, Bool.cond-true, Bool.cond-false, List.Sums.prefix_len-le-length}
use Rattle.std.proofs.lemmas.{List.Sums.prefix_len_passes, List.Folds.length-prefix_len}
use Rattle.std.specs.List.{take_while, prefix_len}
use Rattle.dn_machine.proofs.Put.{put_at, put_off, same_functions}
use Rattle.dn_machine.specs.{Promise.IsPrefixOf, Node.put}
use Rattle.dn_remain.specs.Vanished.Commands.{Holder, seen, past_seen, holders, Had, AreHanded, is_whole, commands_at}
use Rattle.dn_remain.specs.Vanished.{Commands.{commands_to, demo}, Promise.lacks_at, Steps.IsRun, Node.Was}
use Rattle.dn_remain.proofs.Vanished.{Always.{always, agree}, Tests.every_at}

append_none : {C : Type 0} (xs : List C) → xs ++ [] ≡ xs
append_none [] = refl
append_none {C} (x ∷ xs) = ap (λ (ws : List C). x ∷ ws) (append_none xs)

front_self : {C : Type 0} (xs ys : List C) → xs ≡ ys → IsPrefixOf xs ys
front_self xs ys e = ([], append_none xs ∙ e)

front_joined : {C : Type 0} (xs ys zs : List C) → IsPrefixOf xs ys → IsPrefixOf ys zs → IsPrefixOf xs zs
front_joined {C} xs ys zs h k = grind (arith, append_assoc)

-- what stands in a front stands in the whole
front_get : {C : Type 0} (xs rest : List C) (i : ℕ) → i < length xs → slice_get (xs ++ rest) i ≡ slice_get xs i
front_get [] rest i l = absurd (omega arith)
front_get (x ∷ xs) rest zero l = refl
front_get (x ∷ xs) rest (suc i) l = front_get xs rest i (omega arith)

module _ {C : Type 0} where
  module _ (nodes : ℕ → Holder C) (older : List (ℕ → Holder C)) (q : ℕ) (new : Holder C)
      (own : (new.held q ≡ (nodes q).held q) ⊎ ((command : C) × (new.held q ≡ (nodes q).held q ++ command ∷ [])))
      (others : (p : ℕ) → (p ≡ q → ⊥) → (new.held p ≡ (nodes q).held p)
      ⊎ ((r : ℕ) × (w : Holder C) × (end : ℕ) × Had (nodes ∷ older) r w × (new.held p ≡ take end (w.held p))))
      (fronts : (x p : ℕ) (u : Holder C) → Had (nodes ∷ older) x u → IsPrefixOf (u.held p) ((nodes p).held p)) where
    -- makers' lists only grow
    maker_grows : (p : ℕ) → IsPrefixOf ((nodes p).held p) ((put nodes q new p).held p)
    maker_grows p = elim (cases_eq p q) [
      | inr n ↦ front_self _ _ (ap (λ (h : Holder C). h.held p) (sym (put_off nodes q p new n)))
      | inl e ↦ grind (arith, put_at, front_self)
    ]

    old_front : (x p : ℕ) (u : Holder C) → Had (nodes ∷ older) x u → IsPrefixOf (u.held p) ((put nodes q new p).held p)
    old_front x p u w = front_joined _ _ _ (fronts x p u w) (maker_grows p)

    new_front : (p : ℕ) → IsPrefixOf (new.held p) ((put nodes q new p).held p)
    new_front p = elim (cases_eq p q) [
      | inl e ↦ front_self _ _ (sym (ap (λ (h : Holder C). h.held p) (put_at nodes q p new e)))
      | inr n ↦ elim (others p n) [
        | inl o ↦ front_joined _ _ _ (front_self (new.held p) ((nodes q).held p) o) (old_front q p (nodes q) (inl refl))
        | inr o ↦
            let piece : IsPrefixOf (new.held p) (o.1.held p) = (
              drop o.2 (o.1.held p),
              ap (λ (ws : List C). ws ++ drop o.2 (o.1.held p)) o.4 ∙ take-append-drop o.2 (o.1.held p),
            ) in
            front_joined _ _ _ piece (old_front o.0 p o.1 o.3)
      ]
    ]

    pub fronts_after : (x p : ℕ) (u : Holder C) → Had (put nodes q new ∷ nodes ∷ older) x u
        → IsPrefixOf (u.held p) ((put nodes q new p).held p)
    fronts_after x p u w = elim w [
      | inr o ↦ old_front x p u o
      | inl e ↦ elim (cases_eq x q) [
        | inl d ↦ subst (λ (h : Holder C). IsPrefixOf (h.held p) ((put nodes q new p).held p))
            (sym (e ∙ put_at nodes q x new d)) (new_front p)
        | inr n ↦ old_front x p u (inl (e ∙ put_off nodes q x new n))
      ]
    ]

  -- every list is a prefix of its maker's
  pub handed : (history : List (ℕ → Holder C)) → AreHanded history → (x p : ℕ) (u : Holder C) → Had history x u
      → IsPrefixOf (u.held p) ((holders history p).held p)
  handed [] h x p u w = absurd w
  handed (nodes ∷ []) h x p u w = grind arith
  handed (next ∷ (nodes ∷ older)) h x p u w =
      let step = h.0 in
      let n = step.next_is in
      let at : Had (put nodes step.q step.new ∷ nodes ∷ older) x u =
      subst (λ (s : ℕ → Holder C). Had (s ∷ nodes ∷ older) x u) n w in
      subst (λ (s : ℕ → Holder C). IsPrefixOf (u.held p) ((s p).held p)) (sym n)
      (fronts_after nodes older step.q step.new step.own step.others
      (λ y r v t. handed (nodes ∷ older) h.1 y r v t) x p u at)

  -- so two lists of one player have the same command where both have one
  pub same_held : (history : List (ℕ → Holder C)) → AreHanded history → (x z p tic : ℕ) (u v : Holder C)
      → Had history x u → Had history z v → tic < length (u.held p) → tic < length (v.held p)
      → slice_get (u.held p) tic ≡ slice_get (v.held p) tic
  same_held history h x z p tic u v w y a b =
      let c = handed history h x p u w in
      let d = handed history h z p v y in
      sym (front_get (u.held p) c.0 tic a) ∙ (ap (λ (ws : List C). slice_get ws tic) (c.1 ∙ sym d.1)
      ∙ front_get (v.held p) d.0 tic b)

  pub was_seen : (history : List (ℕ → Holder C)) (x : ℕ) (u : Holder C) → Had history x u
      → Was (past_seen history) x (seen u)
  was_seen [] x u w = absurd w
  was_seen (nodes ∷ older) x u w = elim w [
    | inl e ↦ inl (ap (λ (h : Holder C). seen h) e)
    | inr o ↦ inr (was_seen older x u o)
  ]

  module _ (players ahead : ℕ) (history : List (ℕ → Holder C)) (h : AreHanded history)
      (run : IsRun players ahead (past_seen history)) where
    -- whom the row of a tic does not lack, of that player there is a command
    pub row_held : (x p tic : ℕ) (u : Holder C) → p < players → Had history x u → tic < length u.rows
        → lacks_at (seen u) tic p ≡ false → tic < length (u.held p)
    row_held x p tic u l w i t =
        (agree players (past_seen history) (always players ahead (past_seen history) run)).rows_held x p tic (seen u)
        (was_seen history x u w) l i t

    -- across a split too
    pub shared : (x z p tic : ℕ) (u v : Holder C) → p < players → Had history x u → Had history z v
        → tic < length u.rows → tic < length v.rows → lacks_at (seen u) tic p ≡ false
        → lacks_at (seen v) tic p ≡ false
        → (tic < length (u.held p)) × (slice_get (u.held p) tic ≡ slice_get (v.held p) tic)
    shared x z p tic u v l w y i j s t = grind (arith, row_held, same_held)

    pub same_commands : (x z p tic : ℕ) (u v : Holder C)
        → x < players → z < players → p < players → (x ≡ z → ⊥) → Had history x u → Had history z v
        → u.gone z ≡ false → v.gone x ≡ false → tic < length u.rows → tic < length v.rows
        → (lacks_at (seen u) tic p ≡ lacks_at (seen v) tic p)
        × (lacks_at (seen u) tic p ≡ false
        → (tic < length (u.held p)) × (slice_get (u.held p) tic ≡ slice_get (v.held p) tic))
    same_commands x z p tic u v l m i n w y f g j k =
        let same = (agree players (past_seen history) (always players ahead (past_seen history) run)).rows_same
        x z p tic (seen u) (seen v) l m i n (was_seen history x u w) (was_seen history z v y) f g j k in
        (same, λ t. shared x z p tic u v i w y j k t (sym same ∙ t))

-- how many tics a demo has
demo_length : {C : Type 0} → ℕ → Holder C → ℕ
demo_length players u = length (take_while (is_whole players) u.rows)

module _ {C : Type 0} where
  -- each of its rows was run, and lacks no player
  whole_before : (players : ℕ) (u : Holder C) (tic p : ℕ) → p < players → tic < demo_length players u
      → (tic < length u.rows) × (lacks_at (seen u) tic p ≡ false)
  unfolding demo_length
  whole_before players u tic p l t =
      let a = length-prefix_len (is_whole players) u.rows in
      let b = prefix_len-le-length (is_whole players) u.rows in
      let c : tic < prefix_len (is_whole players) u.rows = omega arith in (
        omega arith,
        not-true (get_or u.rows tic (λ q. true) p) (every_at players
            (λ q. not (get_or u.rows tic (λ i. true) q)) p
            (prefix_len_passes (is_whole players) u.rows tic (λ i. true) c) l),
      )

  -- the commands of more tics begin with those of fewer
  fewer : (players : ℕ) (u : Holder C) (n m : ℕ) → n ≤ m
      → IsPrefixOf (commands_to players u n) (commands_to players u m)
  unfolding commands_to
  fewer players u n zero l = grind (arith, front_self)
  fewer players u n (suc m) l = elim (cases_lt n (suc m)) [
    | inl k ↦ front_joined _ _ _ (fewer players u n m (omega arith)) (commands_at players u m ∷ [], refl)
    | inr k ↦ let e : n ≡ suc m = omega arith in front_self _ _ (ap (λ (i : ℕ). commands_to players u i) e)
  ]

  module _ (players ahead : ℕ) (history : List (ℕ → Holder C)) (h : AreHanded history)
      (run : IsRun players ahead (past_seen history)) (x z : ℕ) (u v : Holder C) (w : Had history x u)
      (y : Had history z v) where
    same_at : (tic : ℕ) → tic < demo_length players u → tic < demo_length players v
        → commands_at players u tic ≡ commands_at players v tic
    same_at tic s t = same_functions (λ p. elim (cases_lt p players) [
      | inr m ↦ cond-false (ltb p players) (slice_get (u.held p) tic) None (le-ltb p players m)
          ∙ sym (cond-false (ltb p players) (slice_get (v.held p) tic) None (le-ltb p players m))
      | inl l ↦
          let a = whole_before players u tic p l s in
          let b = whole_before players v tic p l t in
          let c = shared players ahead history h run x z p tic u v l w y a.0 b.0 a.1 b.1 in
          cond-true (ltb p players) (slice_get (u.held p) tic) None (lt-ltb p players l)
          ∙ (c.1 ∙ sym (cond-true (ltb p players) (slice_get (v.held p) tic) None (lt-ltb p players l)))
    ])

    same_to : (n : ℕ) → n ≤ demo_length players u → n ≤ demo_length players v
        → commands_to players u n ≡ commands_to players v n
    unfolding commands_to
    same_to zero a b = refl
    same_to (suc n) a b =
        ap (λ (cs : List (ℕ → Option C)). cs ++ commands_at players u n ∷ []) (same_to n (omega arith) (omega arith))
        ∙ ap (λ (c : ℕ → Option C). commands_to players v n ++ c ∷ []) (same_at n (omega arith) (omega arith))

    shorter : demo_length players u ≤ demo_length players v → IsPrefixOf (demo players u) (demo players v)
    unfolding demo_length
    shorter l = front_joined _ _ _ (front_self _ _ (same_to (demo_length players u) (omega arith) l))
        (fewer players v (demo_length players u) (demo_length players v) l)

  pub demos : (players ahead : ℕ) (history : List (ℕ → Holder C)) → AreHanded history
      → IsRun players ahead (past_seen history) → (x z : ℕ) (u v : Holder C) → Had history x u → Had history z v
      → IsPrefixOf (demo players u) (demo players v) ⊎ IsPrefixOf (demo players v) (demo players u)
  demos players ahead history h run x z u v w y = grind (arith, cases_lt, demo_length, shorter)
