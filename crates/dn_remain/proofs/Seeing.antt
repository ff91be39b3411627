-- What is seen of nodes; and that rows of it stay as they are.
use Rattle.std.proofs.Common.{◌≡◌, ℕ, zero, suc, ◌+◌, ◌-◌, ◌≤◌, refl, sym, ◌∙◌, ap, arith, List, [], ◌∷◌, ◌++◌, length, take, drop, ◌<◌, leb, inl, inr, get_or, ◌⊎◌, Bool, true, false, if◌then◌else◌, Option, Some, None, is_none}
use Rattle.std.proofs.lemmas.List.{drop-take, drop-drop, length_push, get_or_append_left, get_or_push}
use Rattle.std.proofs.lemmas.Bool.{both_ways, le-leb, leb-true, lt-leb, cond-true, cond-false, cases_Bool}
use Rattle.std.proofs.{lemmas.Option.{none-some, same_Some, slice_get-get_or}, Math.Seq.{take-append_seam, take-add}}
use Rattle.dn_tic.specs.declared.command.{TicCmd.TicCmd, Move.Move}
use Rattle.dn_machine.proofs.{Put.same_functions, Truth.row_of_same}
use Rattle.dn_machine.specs.{Running.is_over, Limits.Limits, Node.blank}
use Rattle.dn_remain.specs.Vanished.{Commands.{seen, Holder, past_seen, Had, AreHanded}, Node.{Node, Was, ran}}
use Rattle.dn_remain.specs.{Wary.{reached, rows_to, row_had}, Vanished.{Promise.lacks_at, Steps.IsRun}}
use Rattle.dn_remain.proofs.{Vanished.Invariant.IsGrown, Vanished.Invariant.IsKept, Vanished.Always.always, Vanished.Handing.same_held, Vanished.Handing.was_seen, Vanished.Handing.row_held}

-- of two states, at whichever nodes, which ran a tic and whose rows lack the same players
module _ (limits : Limits) (history : List (ℕ → Holder TicCmd)) (handed : AreHanded history)
    (run : IsRun limits.players limits.ahead (past_seen history)) (x z : ℕ) (u v : Holder TicCmd)
    (w : Had history x u) (y : Had history z v) (tic : ℕ) (a : tic < length u.rows) (b : tic < length v.rows)
    (same : (p : ℕ) → p < limits.players → lacks_at (seen u) tic p ≡ lacks_at (seen v) tic p) where
  over : (q : ℕ) (s : Holder TicCmd) → Had history q s → tic < length s.rows → (p : ℕ) → p < limits.players
      → lacks_at (seen s) tic p ≡ is_over (s.ends p) tic
  over q s h l p m = ((always limits.players limits.ahead (past_seen history) run).sound q (seen s)
      (was_seen history q s h)).rows p tic m l

  seat : (p : ℕ) → p < limits.players
      → (if is_over (u.ends p) tic then None else Some (get_or (u.held p) tic blank))
      ≡ (if is_over (v.ends p) tic then None else Some (get_or (v.held p) tic blank))
  seat p l =
      let e : is_over (u.ends p) tic ≡ is_over (v.ends p) tic =
      sym (over x u w a p l) ∙ (same p l ∙ over z v y b p l) in
      elim (cases_Bool (is_over (u.ends p) tic)) [
        | inl t ↦ cond-true (is_over (u.ends p) tic) None (Some (get_or (u.held p) tic blank)) t
            ∙ sym (cond-true (is_over (v.ends p) tic) None (Some (get_or (v.held p) tic blank)) (sym e ∙ t))
        | inr f ↦
            let i = row_held limits.players limits.ahead history handed run x p tic u l w a (over x u w a p l
            ∙ f) in
            let j = row_held limits.players limits.ahead history handed run z p tic v l y b
            (over z v y b p l ∙ (sym e ∙ f)) in
            let k : get_or (u.held p) tic blank ≡ get_or (v.held p) tic blank = grind (arith, same_Some, slice_get-get_or, same_held) in
            cond-false (is_over (u.ends p) tic) None (Some (get_or (u.held p) tic blank)) f
            ∙ (ap (λ (c : TicCmd). Some c) k
            ∙ sym (cond-false (is_over (v.ends p) tic) None (Some (get_or (v.held p) tic blank)) (sym e ∙ f)))
      ]

  pub same_row : row_had limits u tic ≡ row_had limits v tic
  same_row = row_of_same limits.players _ _ seat

-- a node's rows after a step, which ran a tic or did not
module _ (limits : Limits) (history : List (ℕ → Holder TicCmd)) (handed : AreHanded history)
    (run : IsRun limits.players limits.ahead (past_seen history)) (q : ℕ) (u v : Holder TicCmd)
    (w : Had history q u) (y : Had history q v) (grown : IsGrown (seen u) (seen v))
    (olds news : List (List (Option Move))) (long : length u.rows ≡ length olds) (long' : length v.rows ≡ length news)
    (before : (tic : ℕ) → tic < length olds → get_or olds tic [] ≡ row_had limits u tic) where
  old_row : (tic : ℕ) → tic < length olds → get_or olds tic [] ≡ row_had limits v tic
  old_row tic l = grind (arith, same_row)

  pub rows_are : ((news ≡ olds) ⊎ (news ≡ olds ++ row_had limits v (length olds) ∷ [])) → (tic : ℕ)
      → tic < length news → get_or news tic [] ≡ row_had limits v tic
  rows_are is tic l = grind (arith, old_row, length_push, get_or_append_left, get_or_push)

-- one state of a player's node, and the one in which it made a command
pub made_row : (players ahead : ℕ) (history : List (ℕ → Node)) → IsKept players history
    → (p back r : ℕ) (v maker : Node) → Was history p v → Was history p maker → back < ran maker → back < ran v
    → lacks_at maker back r ≡ lacks_at v back r
made_row players ahead history kept p back r v maker w y i j = grind arith

pub same_node : (a b : Node) → a.got ≡ b.got → a.ends ≡ b.ends → a.gone ≡ b.gone → a.left ≡ b.left
    → a.rows ≡ b.rows → a ≡ b
same_node a b g e o l r = λ i. record { got = g i; ends = e i; gone = o i; left = l i; rows = r i }

pub same_holder : (a b : Holder TicCmd) → a.held ≡ b.held → a.ends ≡ b.ends → a.gone ≡ b.gone → a.left ≡ b.left
    → a.rows ≡ b.rows → a ≡ b
same_holder a b g e o l r = λ i. record { held = g i; ends = e i; gone = o i; left = l i; rows = r i }

pub length_rows : (ends : ℕ → Option ℕ) (n : ℕ) → length (rows_to ends n) ≡ n
unfolding rows_to
length_rows ends zero = refl
length_rows ends (suc n) = omega (arith, length_push (rows_to ends n) (λ p. is_over (ends p) n), length_rows ends n)

-- rows by ends that come later than the tics
pub rows_alike : (e f : ℕ → Option ℕ) (n : ℕ)
    → ((p tic : ℕ) → tic < n → is_over (e p) tic ≡ is_over (f p) tic) → rows_to e n ≡ rows_to f n
unfolding rows_to
rows_alike e f zero h = refl
rows_alike e f (suc n) h =
    let row : ◌≡◌ {A = ℕ → Bool} (λ p. is_over (e p) n) (λ p. is_over (f p) n) =
    same_functions (λ p. h p n (omega arith)) in
    ap (λ (rows : List (ℕ → Bool)). rows ++ (λ p. is_over (e p) n) ∷ []) (rows_alike e f n (λ p tic l. h p tic
    (omega arith))) ∙ ap (λ (r : ℕ → Bool). rows_to f n ++ r ∷ []) row

-- an end counts, or not
pub reached_none : (got e : ℕ) → got < e → reached got (Some e) ≡ None
reached_none got e l = cond-false (leb e got) (Some e) None (lt-leb e got l)

pub reached_some : (got e : ℕ) → e ≤ got → reached got (Some e) ≡ Some e
reached_some got e l = cond-true (leb e got) (Some e) None (le-leb e got l)

pub reached_cases : (got : ℕ) (o : Option ℕ) → ((reached got o ≡ None) × ((e : ℕ) → o ≡ Some e → got < e))
    ⊎ ((e : ℕ) × (o ≡ Some e) × (reached got o ≡ Some e) × (e ≤ got))
reached_cases got None = inl (refl, λ e s. absurd (none-some e s))
reached_cases got (Some end) = grind (arith, reached_none, same_Some, reached_some)

-- a seat is empty where its player's end is over
pub none_over : (b : Bool) (c : TicCmd) → is_none (if b then None else Some c) ≡ b
none_over true c = refl
none_over false c = refl

-- an end that is not over at a tic is not over before it
pub over_before : (o : Option ℕ) (back tic : ℕ) → back ≤ tic → is_over o tic ≡ false → is_over o back ≡ false
over_before None back tic l h = refl
over_before (Some e) back tic l h = grind (arith, leb-true, both_ways, le-leb)

-- an end that is over stays so
pub over_stays : (a b : Option ℕ) (tic : ℕ) → ((e : ℕ) → a ≡ Some e → b ≡ Some e) → is_over b tic ≡ false
    → is_over a tic ≡ false
over_stays None b tic same h = refl
over_stays (Some e) b tic same h = sym (ap (λ (o : Option ℕ). is_over o tic) (same e refl)) ∙ h

-- Pieces of lists.

-- a list with what it lacks of a piece of a longer one that begins with it
pub taken_is : {A : Type 0} (own whole : List A) (start n : ℕ) (rest : List A) → own ++ rest ≡ whole
    → start ≤ length own → length own ≤ start + n
    → own ++ drop (length own - start) (take n (drop start whole)) ≡ take (start + n) whole
taken_is {A} own whole start n rest e a b =
    let k : ℕ = length own - start in
    let m : ℕ = (start + n) - length own in
    let hn : n ≡ k + m = omega arith in
    let hs : start + k ≡ length own = omega arith in
    let he : start + n ≡ length own + m = omega arith in
    let front : take (length own) whole ≡ own = ap (λ (ws : List A). take (length own) ws) (sym e)
    ∙ take-append_seam own rest in
    let d : drop k (take n (drop start whole)) ≡ take m (drop (length own) whole) = grind (arith, drop-take, drop-drop) in
    ap (λ (ws : List A). own ++ ws) d
    ∙ (ap (λ (ws : List A). ws ++ take m (drop (length own) whole)) (sym front)
    ∙ (sym (take-add (length own) m whole) ∙ ap (λ (i : ℕ). take i whole) (sym he)))

-- a piece is as long as it is
pub take_long : {A : Type 0} (n : ℕ) (xs : List A) → take (length (take n xs)) xs ≡ take n xs
take_long zero xs = refl
take_long (suc n) [] = refl
take_long {A} (suc n) (x ∷ xs) = ap (λ (ws : List A). x ∷ ws) (take_long n xs)
