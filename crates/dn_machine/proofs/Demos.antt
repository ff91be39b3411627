-- Rows that lack a player, and the rows before the first of them.
use Rattle.std.proofs.Common.{◌≡◌, ℕ, zero, suc, ◌<◌, ◌≤◌, Bool, true, false, cond, List, [], ◌∷◌, ◌++◌, length, get_or, refl, sym, ◌∙◌, ap, subst, arith, Option, None, ltb, leb, lt-ltb, get_or-take, take_while, option_map, is_none}
use Rattle.std.proofs.{lemmas.List.Sums.{take_while-cons, prefix_len_passes, prefix_len-le-length}, lemmas.List.Folds.length-prefix_len}
use Rattle.dn_tic.specs.{declared.{command.TicCmd.TicCmd, input.Input.Input}, Command.used}
use Rattle.dn_machine.specs.{Worlds.if_made, Node.{Node, lacks, is_whole}, Running.{is_absent, row_held}, Promise.IsPrefixOf, Limits.{Limits, row_of}}
use Rattle.dn_machine.proofs.Truth.{lowest_none, lowest_none_each}

-- the front of a longer list

cond_front : {A : Type 0} (b : Bool) (x : A) (xs ys : List A) → IsPrefixOf xs ys
    → IsPrefixOf (cond b (x ∷ xs) []) (cond b (x ∷ ys) [])
cond_front true x xs ys h = (h.0, ap (λ zs. x ∷ zs) h.1)
cond_front false x xs ys h = ([], refl)

front_grows : {A : Type 0} (test : A → Bool) (xs rest : List A)
    → IsPrefixOf (take_while test xs) (take_while test (xs ++ rest))
front_grows test [] rest = (take_while test rest, refl)
front_grows {A} test (x ∷ xs) rest =
    let longer : IsPrefixOf (cond (test x) (x ∷ take_while test xs) []) (take_while test (x ∷ (xs ++ rest))) =
    subst (λ (zs : List A). IsPrefixOf (cond (test x) (x ∷ take_while test xs) []) zs)
    (sym (take_while-cons test x (xs ++ rest)))
    (cond_front (test x) x (take_while test xs) (take_while test (xs ++ rest))
    (front_grows test xs rest)) in grind (arith, take_while-cons)

pub front_prefix : {A : Type 0} (test : A → Bool) (xs ys : List A) → IsPrefixOf xs ys
    → IsPrefixOf (take_while test xs) (take_while test ys)
front_prefix {A} test xs ys h = subst (λ (zs : List A). IsPrefixOf (take_while test xs) (take_while test zs))
    h.1 (front_grows test xs h.0)

-- one more element that fails is not of the front
pub front_stops : {A : Type 0} (test : A → Bool) (xs : List A) (y : A) → test y ≡ false
    → take_while test (xs ++ y ∷ []) ≡ take_while test xs
front_stops test [] y h = take_while-cons test y [] ∙ ap (λ (b : Bool). cond b (y ∷ take_while test []) []) h
front_stops {A} test (x ∷ xs) y h = take_while-cons test x (xs ++ y ∷ [])
    ∙ (ap (λ (zs : List A). cond (test x) (x ∷ zs) []) (front_stops test xs y h) ∙ sym (take_while-cons test x xs))

-- where all pass, and one more does
all_pass : {A : Type 0} (b : Bool) (x : A) (front xs : List A) → cond b (x ∷ front) [] ≡ x ∷ xs
    → (b ≡ true) × (front ≡ xs)
all_pass b x front xs e = grind arith

pub front_goes_on : {A : Type 0} (test : A → Bool) (xs : List A) (y : A) → take_while test xs ≡ xs
    → test y ≡ true → take_while test (xs ++ y ∷ []) ≡ xs ++ y ∷ []
front_goes_on test [] y e h = grind arith
front_goes_on {A} test (x ∷ xs) y e h =
    let parts = all_pass (test x) x (take_while test xs) xs (sym (take_while-cons test x xs) ∙ e) in
    take_while-cons test x (xs ++ y ∷ [])
    ∙ (ap (λ (b : Bool). cond b (x ∷ take_while test (xs ++ y ∷ [])) []) parts.0
    ∙ ap (λ (zs : List A). x ∷ zs) (front_goes_on test xs y parts.1 h))

-- each element of the front passes
pub front_passes : {A : Type 0} (test : A → Bool) (xs : List A) (k : ℕ) (d : A)
    → k < length (take_while test xs) → test (get_or xs k d) ≡ true
front_passes test xs k d l = grind (arith, prefix_len_passes, length-prefix_len)

-- and is the element of that place
pub front_each : {A : Type 0} (test : A → Bool) (xs : List A) (k : ℕ) (d : A)
    → k < length (take_while test xs) → test (get_or (take_while test xs) k d) ≡ true
front_each test xs k d l = grind (arith, length-prefix_len, get_or-take, front_passes)

pub front_short : {A : Type 0} (test : A → Bool) (xs : List A) → length (take_while test xs) ≤ length xs
front_short test xs = let long = length-prefix_len test xs in grind (arith, prefix_len-le-length)

-- seats

pub none_is : {A : Type 0} (o : Option A) → is_none o ≡ true → o ≡ None
none_is o h = grind arith

seat_some : (b : Bool) (x : Option TicCmd) → b ≡ true → is_none (cond b (option_map used x) None) ≡ is_none x
seat_some b x h = grind arith

-- a seat is empty where its player has no command
pub seat_is : (players : ℕ) (f : ℕ → Option TicCmd) (p : ℕ) → p < players → p < 4
    → lacks (row_of players f) p ≡ is_none (f p)
unfolding row_of
seat_is players f zero l s = seat_some (ltb 0 players) (f 0) (lt-ltb 0 players l)
seat_is players f (suc zero) l s = seat_some (ltb 1 players) (f 1) (lt-ltb 1 players l)
seat_is players f (suc (suc zero)) l s = seat_some (ltb 2 players) (f 2) (lt-ltb 2 players l)
seat_is players f (suc (suc (suc zero))) l s = seat_some (ltb 3 players) (f 3) (lt-ltb 3 players l)
seat_is players f (suc (suc (suc (suc p)))) l s = absurd (omega arith)

-- a taken seat is one of the four, and its player has a command
seat_taken : (players : ℕ) (f : ℕ → Option TicCmd) (p : ℕ) → p < players
    → lacks (row_of players f) p ≡ false → (p < 4) × (is_none (f p) ≡ false)
unfolding row_of
seat_taken players f p l e = grind (arith, seat_is)

pub whole_more : (players : ℕ) (f g : ℕ → Option TicCmd)
    → ((p : ℕ) → p < players → is_none (f p) ≡ false → is_none (g p) ≡ false)
    → is_whole players (row_of players f) ≡ true → is_whole players (row_of players g) ≡ true
whole_more players f g h e =
    let each = lowest_none_each players (λ p. is_none (get_or (row_of players f) p None)) (none_is _ e) in
    ap is_none (lowest_none players (λ p. is_none (get_or (row_of players g) p None))
    (λ p l. let taken = seat_taken players f p l (each p l) in grind (arith, seat_is)))

pub if_made_is : (inputs : List Input) (tic : ℕ) (command : TicCmd)
    → is_none (if_made inputs tic command) ≡ leb (length inputs) tic
if_made_is inputs tic command = grind arith

pub whole_has : (players : ℕ) (f : ℕ → Option TicCmd) → is_whole players (row_of players f) ≡ true → (p : ℕ)
    → p < players → is_none (f p) ≡ false
whole_has players f e p l =
    (seat_taken players f p l (lowest_none_each players (λ q. is_none (get_or (row_of players f) q None))
    (none_is _ e) p l)).1

-- the next row of a node is whole where that of another is, and whoever is absent at the one is absent at the
-- other
pub whole_held : (limits : Limits) (new old : Node)
    → ((p : ℕ) → p < limits.players → is_absent new p ≡ false → is_absent old p ≡ false)
    → is_whole limits.players (row_held limits new) ≡ true → is_whole limits.players (row_held limits old) ≡ true
whole_held limits new old h e = grind (arith, whole_more)
