-- The calls are steps.
use Rattle.std.proofs.Common.{◌≡◌, ℕ, ◌<◌, eqb, ltb, refl, sym, ◌∙◌, ap, subst, inl, inr, List, [], ◌∷◌, ◌++◌, append_assoc, Bool, true, false, not, ◌&&◌, Option, Some}
use Rattle.std.proofs.lemmas.Bool.{cases_eq, cases_Bool, and_parts, not-true, ltb-true, eqb-false, cond-true, cond-false}
use Rattle.std.proofs.lemmas.Option.{same_Some}
use Rattle.dn_machine.proofs.Put.{put_at, put_off}
use Rattle.dn_machine.specs.Node.{put}
use Rattle.dn_remain.specs.Vanished.{Node.{Node, now, Was, decided}, Steps.{GiveUp, Decide, Step, IsRun}}
use Rattle.dn_remain.specs.Vanished.Calls.{Keeper, can_decide, report_or, after_news, may_give_up, on_give_up, is_newer}
use Rattle.dn_remain.specs.Vanished.Calls.{on_report, AreTrue, LeadsTo}
use Rattle.dn_remain.proofs.Vanished.{Put.{own_put, twice_put}, Tests.heard_from}
use Rattle.dn_remain.proofs.vanish.calls.calls_are_steps.Goals as goal

module _ (players ahead : ℕ) (nodes : ℕ → Node) (older : List (ℕ → Node)) (q : ℕ)
    (run : IsRun players ahead (nodes ∷ older)) (l : q < players) where
  stay : (newest : ℕ → Option Node) → AreTrue (nodes ∷ older) newest
      → LeadsTo players ahead (nodes ∷ older) q (record { node = nodes q; newest = newest })
  stay newest known = record { steps = []; run = run; nodes = sym (own_put nodes q); known = known }

  decide : (newest : ℕ → Option Node) → (nodes q).left ≡ false → AreTrue (nodes ∷ older) newest
      → can_decide players q (nodes q) newest ≡ true → LeadsTo players ahead (nodes ∷ older) q
      (record { node = decided players q (nodes q) (λ r. report_or (newest r)); newest = newest })
  decide newest here known t =
      let heard : ℕ → Node = λ r. report_or (newest r) in
      let step : Step players ahead (nodes ∷ older) (put nodes q (decided players q (nodes q) heard)) =
      record {
        q = q;
        act = Decide;
        new = decided players q (nodes q) heard;
        player = l;
        here = here;
        acts = (heard, heard_from players ahead (nodes ∷ older) q newest run known t, refl);
        next_is = refl;
      } in
      record {
        steps = put nodes q (decided players q (nodes q) heard) ∷ [];
        run = (step, run);
        nodes = refl;
        known = λ r report e. inr (known r report e);
      }

  news : (newest : ℕ → Option Node) → (nodes q).left ≡ false → AreTrue (nodes ∷ older) newest
      → LeadsTo players ahead (nodes ∷ older) q (after_news players q (record { node = nodes q; newest = newest }))
  news newest here known = elim (cases_Bool (can_decide players q (nodes q) newest)) [
    | inl t ↦ subst (λ (k : Keeper). LeadsTo players ahead (nodes ∷ older) q k)
        (sym (cond-true (can_decide players q (nodes q) newest) _ _ t)) (decide newest here known t)
    | inr f ↦ subst (λ (k : Keeper). LeadsTo players ahead (nodes ∷ older) q k)
        (sym (cond-false (can_decide players q (nodes q) newest) _ _ f)) (stay newest known)
  ]

  -- it is told to give up a player
  given : (p : ℕ) → (nodes q).left ≡ false → p < players → (p ≡ q → ⊥) → Step players ahead (nodes ∷ older)
      (put nodes q (record (nodes q) { gone = put (nodes q).gone p true }))
  given p here m n = record {
    q = q;
    act = GiveUp;
    new = record (nodes q) { gone = put (nodes q).gone p true };
    player = l;
    here = here;
    acts = (p, m, n, refl);
    next_is = refl;
  }

-- what was led to from after the first of two steps of a node was led to from before it
back : (players ahead : ℕ) (nodes : ℕ → Node) (older : List (ℕ → Node)) (q : ℕ) (a : Node) (k : Keeper)
    → LeadsTo players ahead (put nodes q a ∷ nodes ∷ older) q k → LeadsTo players ahead (nodes ∷ older) q k
back players ahead nodes older q a k h =
    let e : (h.steps ++ put nodes q a ∷ []) ++ nodes ∷ older ≡ h.steps ++ put nodes q a ∷ nodes ∷ older =
    append_assoc h.steps (put nodes q a ∷ []) (nodes ∷ older) in
    record {
      steps = h.steps ++ put nodes q a ∷ [];
      run = subst (λ (past : List (ℕ → Node)). IsRun players ahead past) (sym e) h.run;
      nodes = ap (λ (past : List (ℕ → Node)). now past) e ∙ (h.nodes ∙ twice_put nodes q a k.node);
      known = subst (λ (past : List (ℕ → Node)). AreTrue past k.newest) (sym e) h.known;
    }

give_up_at : (players ahead : ℕ) (nodes : ℕ → Node) (older : List (ℕ → Node)) (q : ℕ) → IsRun players ahead (nodes ∷ older)
    → q < players → (newest : ℕ → Option Node) (p : ℕ) → AreTrue (nodes ∷ older) newest
    → may_give_up players q (nodes q) p ≡ true
    → LeadsTo players ahead (nodes ∷ older) q (after_news players q
    (record { node = record (nodes q) { gone = put (nodes q).gone p true }; newest = newest }))
give_up_at players ahead nodes older q run l newest p known t =
    let a = and_parts (ltb p players) (not (eqb p q) && not (nodes q).left) t in
    let b = and_parts (not (eqb p q)) (not (nodes q).left) a.1 in
    let here : (nodes q).left ≡ false = not-true (nodes q).left b.1 in
    let m : p < players = ltb-true p players a.0 in
    let n : (p ≡ q → ⊥) = eqb-false p q (not-true (eqb p q) b.0) in
    let new : Node = record (nodes q) { gone = put (nodes q).gone p true } in
    let step = given players ahead nodes older q run l p here m n in
    let at = put_at nodes q q new refl in
    back players ahead nodes older q new (after_news players q (record { node = new; newest = newest }))
    (subst (λ (i : Node). LeadsTo players ahead (put nodes q new ∷ nodes ∷ older) q
    (after_news players q (record { node = i; newest = newest }))) at
    (news players ahead (put nodes q new) (nodes ∷ older) q (step, run) l newest
    (ap (λ (i : Node). i.left) at ∙ here) (λ r report e. inr (known r report e))))

gives_up_at : (players ahead : ℕ) (nodes : ℕ → Node) (older : List (ℕ → Node)) (q : ℕ) → IsRun players ahead (nodes ∷ older)
    → q < players → (newest : ℕ → Option Node) (p : ℕ) → AreTrue (nodes ∷ older) newest
    → LeadsTo players ahead (nodes ∷ older) q (on_give_up players q (record { node = nodes q; newest = newest }) p)
gives_up_at players ahead nodes older q run l newest p known = elim (cases_Bool (may_give_up players q (nodes q) p)) [
  | inl t ↦ subst (λ (k : Keeper). LeadsTo players ahead (nodes ∷ older) q k)
      (sym (cond-true (may_give_up players q (nodes q) p) _ _ t)) (give_up_at players ahead nodes older q run l newest p known t)
  | inr f ↦ subst (λ (k : Keeper). LeadsTo players ahead (nodes ∷ older) q k)
      (sym (cond-false (may_give_up players q (nodes q) p) _ _ f)) (stay players ahead nodes older q run l newest known)
]

-- the test that a report is taken
takes_it : ℕ → ℕ → Node → (ℕ → Option Node) → ℕ → Node → Bool
takes_it players q node newest from report = not node.left && (not (node.gone from)
    && (not (report.gone q) && is_newer players (newest from) report))

reports_at : (players ahead : ℕ) (nodes : ℕ → Node) (older : List (ℕ → Node)) (q : ℕ) → IsRun players ahead (nodes ∷ older)
    → q < players → (newest : ℕ → Option Node) (from : ℕ) (report : Node) → Was (nodes ∷ older) from report
    → AreTrue (nodes ∷ older) newest
    → LeadsTo players ahead (nodes ∷ older) q (on_report players q (record { node = nodes q; newest = newest }) from report)
unfolding takes_it
reports_at players ahead nodes older q run l newest from report w known =
    elim (cases_Bool (takes_it players q (nodes q) newest from report)) [
      | inr f ↦ subst (λ (k : Keeper). LeadsTo players ahead (nodes ∷ older) q k)
          (sym (cond-false (takes_it players q (nodes q) newest from report) _ _ f))
          (stay players ahead nodes older q run l newest known)
      | inl t ↦
          let a = and_parts (not (nodes q).left) _ t in
          let here : (nodes q).left ≡ false = not-true (nodes q).left a.0 in
          let known' : (r : ℕ) (other : Node) → put newest from (Some report) r ≡ Some other
          → Was (nodes ∷ older) r other =
          λ r other e. elim (cases_eq r from) [
            | inl d ↦
                let i : report ≡ other = same_Some report other (sym (put_at newest from r (Some report) d) ∙ e) in
                subst (λ (n : Node). Was (nodes ∷ older) r n) i
                (subst (λ (j : ℕ). Was (nodes ∷ older) j report) (sym d) w)
            | inr n ↦ known r other (sym (put_off newest from r (Some report) n) ∙ e)
          ] in
          subst (λ (k : Keeper). LeadsTo players ahead (nodes ∷ older) q k)
          (sym (cond-true (takes_it players q (nodes q) newest from report) _ _ t))
          (news players ahead nodes older q run l (put newest from (Some report)) here known')
    ]

-- a keeper whose node this is
given_up : (players ahead : ℕ) (history : List (ℕ → Node)) (q : ℕ) (keeper : Keeper) (p : ℕ)
    → IsRun players ahead history → q < players → keeper.node ≡ now history q → AreTrue history keeper.newest
    → LeadsTo players ahead history q (on_give_up players q keeper p)
given_up players ahead [] q keeper p run l e known = absurd run
given_up players ahead (nodes ∷ older) q keeper p run l e known =
    subst (λ (n : Node). LeadsTo players ahead (nodes ∷ older) q (on_give_up players q (record { node = n; newest = keeper.newest }) p))
    (sym e) (gives_up_at players ahead nodes older q run l keeper.newest p known)

heard : (players ahead : ℕ) (history : List (ℕ → Node)) (q : ℕ) (keeper : Keeper) (from : ℕ) (report : Node)
    → IsRun players ahead history → q < players → keeper.node ≡ now history q → Was history from report
    → AreTrue history keeper.newest → LeadsTo players ahead history q (on_report players q keeper from report)
heard players ahead [] q keeper from report run l e w known = absurd run
heard players ahead (nodes ∷ older) q keeper from report run l e w known =
    subst (λ (n : Node). LeadsTo players ahead (nodes ∷ older) q
    (on_report players q (record { node = n; newest = keeper.newest }) from report))
    (sym e) (reports_at players ahead nodes older q run l keeper.newest from report w known)

stay_true : (history steps : List (ℕ → Node)) (newest : ℕ → Option Node) → AreTrue history newest
    → AreTrue (steps ++ history) newest
stay_true history [] newest known r report e = known r report e
stay_true history (next ∷ steps) newest known r report e = inr (stay_true history steps newest known r report e)

pub returns-clause-given_up : goal.returns-clause-given_up
returns-clause-given_up c players ahead history q keeper p run l e known =
    given_up players ahead history q keeper p run l e known

pub returns-clause-heard : goal.returns-clause-heard
returns-clause-heard c players ahead history q keeper from report run l e w known =
    heard players ahead history q keeper from report run l e w known

pub returns-clause-stay : goal.returns-clause-stay
returns-clause-stay c history steps newest known = stay_true history steps newest known
