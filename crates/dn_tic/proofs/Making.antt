-- The command that keys and inputs make: its weapon, and what one more key state, or one more input, makes.
use Rattle.std.proofs.Common.{◌≡◌, ◌+◌, ◌/◌, ◌%◌, ◌<◌, ℕ, zero, suc, cond, not, refl, sym, arith, ◌-◌, Bool, true, false, ◌-ℤ◌, ◌*ℤ◌, SFits, to_z, of_z, List, [], ◌∷◌, ◌++◌, length, get_or, ℤ, pos, negsuc, ◌+ℤ◌, ◌≤ℤ◌, ap, ◌∙◌, length-append, map}
use Rattle.std.proofs.Math.Seq.{get_or-append_seam}
use Rattle.std.proofs.lemmas.Int.{ints, clamps, to_z-of_z}
use Rattle.std.proofs.{Math.ListN.get_or-map, lemmas.List.map-append}
use Rattle.std.specs.{Prelude.◌==◌, List.position_or_len}
use Rattle.std.specs.Int.{w16, from_bool}
use lib.Count.{count_trailing_zeros, under}
use Rattle.dn_tic.specs.Pressed.{is_down, weapons, pressed, clamped, amount_if, opposed, strafed, forward_amount, side_amount, command_of, turn_hold, last_state}
use Rattle.dn_tic.specs.declared.keys.Key.TheVariants.{Forward, Back, StrafeRight, StrafeLeft}
use Rattle.dn_tic.specs.{declared.input.Command.Command, declared.input.Input.Input, declared.input.Input.TheVariants.{Pressed, Given}}
use Rattle.dn_tic.specs.Inputs.{state_of, states_of, hold_of, given, last_input, made_of, made_by}

-- The lowest weapon key that is down, by the zeros below its bit.

-- a bit that is 1 stops the count, and else the count goes on behind it
below : (bit other rest more : ℕ) → bit < 2 → bit ≡ other → rest ≡ more
    → under bit rest ≡ cond {A = ℕ} (not (other == 1)) (1 + more) 0
below zero other rest more small same e = rw (sym same) (omega (arith, e))
below (suc zero) other rest more small same e = rw (sym same) refl
below (suc (suc bit)) other rest more small same e = absurd (omega arith)

pub lowest_weapon : (n : ℕ) → count_trailing_zeros 8 (n / 1024) ≡ position_or_len (is_down n) weapons
unfolding count_trailing_zeros
lowest_weapon n =
    below _ (n / 1024 % 2) _ _ (omega arith) (omega arith)
    (below _ (n / 2048 % 2) _ _ (omega arith) (omega arith)
    (below _ (n / 4096 % 2) _ _ (omega arith) (omega arith)
    (below _ (n / 8192 % 2) _ _ (omega arith) (omega arith)
    (below _ (n / 16384 % 2) _ _ (omega arith) (omega arith)
    (below _ (n / 32768 % 2) _ _ (omega arith) (omega arith)
    (below _ (n / 65536 % 2) _ _ (omega arith) (omega arith)
    (below _ (n / 131072 % 2) _ _ (omega arith) (omega arith) refl)))))))

-- One more key state.

-- the last of some states and one more
pub last_state-push : (states : List ℕ) (keys : ℕ) → last_state (states ++ keys ∷ []) ≡ keys
last_state-push states keys =
    let last : length (states ++ keys ∷ []) - 1 ≡ length states =
    omega (arith, length-append states (keys ∷ [])) in
    ap (λ (i : ℕ). get_or (states ++ keys ∷ []) i 0) last ∙ get_or-append_seam states keys [] 0

pub pressed-push : (states : List ℕ) (keys hold : ℕ) (mark : ℤ) → hold ≡ turn_hold (states ++ keys ∷ [])
    → command_of keys hold mark ≡ pressed (states ++ keys ∷ []) mark
unfolding pressed
pressed-push states keys hold mark e = rw (last_state-push states keys, e) refl

-- a clamped amount lies from -50 to 50
pub clamped-low : (x : ℤ) → negsuc 49 ≤ℤ clamped x
clamped-low x = omega (arith, ints, clamps)

pub clamped-high : (x : ℤ) → clamped x ≤ℤ pos 50
clamped-high x = omega (arith, ints, clamps)

pub forward_low : (states : List ℕ) (mark : ℤ) → negsuc 49 ≤ℤ (pressed states mark).forward
unfolding pressed
forward_low states mark =
    clamped-low (opposed (last_state states) Forward Back (forward_amount (last_state states)))

pub forward_high : (states : List ℕ) (mark : ℤ) → (pressed states mark).forward ≤ℤ pos 50
unfolding pressed
forward_high states mark =
    clamped-high (opposed (last_state states) Forward Back (forward_amount (last_state states)))

-- the difference of two keys, and its product with an amount, in the code's sixteen bits
abbrev pub difference : (one other : ℤ) → ℤ
difference one other = to_z w16 (of_z w16 one) -ℤ to_z w16 (of_z w16 other)

abbrev pub product : (one other amount : ℤ) → ℤ
product one other amount = to_z w16 (of_z w16 (difference one other)) *ℤ to_z w16 (of_z w16 amount)

-- both fit, and the product is what the pair of keys gives, at most the amount either way
pub record IsOpposed (more less : Bool) (one other amount : ℤ) : Type 0 where
  pub difference_fits : SFits w16 (difference one other)
  pub product_fits : SFits w16 (product one other amount)
  pub value : to_z w16 (of_z w16 (product one other amount)) ≡ amount_if more amount -ℤ amount_if less amount
  pub low : pos 0 ≤ℤ (to_z w16 (of_z w16 (product one other amount)) +ℤ amount)
  pub high : to_z w16 (of_z w16 (product one other amount)) ≤ℤ amount

pub is_opposed : (more less : Bool) (one other amount : ℤ) → one ≡ pos (from_bool more)
    → other ≡ pos (from_bool less)
    → pos 0 ≤ℤ amount → amount ≤ℤ pos 1280 → IsOpposed more less one other amount
is_opposed true true one other amount e f least most = rw (e, f) (search (arith, ints))
is_opposed true false one other amount e f least most = rw (e, f) (search (arith, ints))
is_opposed false true one other amount e f least most = rw (e, f) (search (arith, ints))
is_opposed false false one other amount e f least most = rw (e, f) (search (arith, ints))

-- the product of a key and a side move fits, and is the move where the key is down
pub record IsKept (down : Bool) (one side : ℤ) : Type 0 where
  pub fits : SFits w16 (to_z w16 (of_z w16 one) *ℤ to_z w16 (of_z w16 side))
  pub value : to_z w16 (of_z w16 (to_z w16 (of_z w16 one) *ℤ to_z w16 (of_z w16 side))) ≡ amount_if down side
  pub low : negsuc 39 ≤ℤ to_z w16 (of_z w16 (to_z w16 (of_z w16 one) *ℤ to_z w16 (of_z w16 side)))
  pub high : to_z w16 (of_z w16 (to_z w16 (of_z w16 one) *ℤ to_z w16 (of_z w16 side))) ≤ℤ pos 40

pub is_kept : (down : Bool) (one side : ℤ) → one ≡ pos (from_bool down) → negsuc 39 ≤ℤ side → side ≤ℤ pos 40
    → IsKept down one side
is_kept true one side e least most = rw e (search (arith, ints))
is_kept false one side e least most = rw e (search (arith, ints))

-- the two parts of a side move
pub side_is : (keys : ℕ) (from_turn amount from_strafe : ℤ) → from_turn ≡ strafed keys
    → amount ≡ side_amount keys
    → from_strafe ≡ opposed keys StrafeRight StrafeLeft amount
    → from_turn +ℤ from_strafe ≡ strafed keys +ℤ opposed keys StrafeRight StrafeLeft (side_amount keys)
side_is keys from_turn amount from_strafe a b c = rw (a, c, b) refl

-- One more input.

-- the last of some inputs and one more
pub last_input-push : (inputs : List Input) (input : Input) → last_input (inputs ++ input ∷ []) ≡ input
last_input-push inputs input =
    let last : length (inputs ++ input ∷ []) - 1 ≡ length inputs =
    omega (arith, length-append inputs (input ∷ [])) in
    ap (λ (i : ℕ). get_or (inputs ++ input ∷ []) i (Pressed 0)) last
    ∙ get_or-append_seam inputs input [] (Pressed 0)

pub states_of-push : (inputs : List Input) (input : Input)
    → states_of (inputs ++ input ∷ []) ≡ states_of inputs ++ state_of input ∷ []
states_of-push inputs input = map-append state_of inputs (input ∷ [])

pub made_by-push : (inputs : List Input) (input : Input) (mark : ℤ)
    → made_by (inputs ++ input ∷ []) mark ≡ made_of input (inputs ++ input ∷ []) mark
unfolding made_by
made_by-push inputs input mark =
    ap (λ (i : Input). made_of i (inputs ++ input ∷ []) mark) (last_input-push inputs input)

-- keys
pub made_by-pressed : (inputs : List Input) (keys hold : ℕ) (mark : ℤ)
    → hold ≡ turn_hold (states_of inputs ++ keys ∷ [])
    → command_of keys hold mark ≡ made_by (inputs ++ Pressed keys ∷ []) mark
made_by-pressed inputs keys hold mark e = grind (arith, pressed-push, states_of-push, made_by-push)

pub hold_of-push : (inputs : List Input) (input : Input) (hold : ℕ)
    → hold ≡ turn_hold (states_of inputs ++ state_of input ∷ []) → hold ≡ hold_of (inputs ++ input ∷ [])
hold_of-push inputs input hold e = e ∙ ap turn_hold (sym (states_of-push inputs input))

-- a command
pub made_by-given : (inputs : List Input) (command : Command) (mark : ℤ)
    → made_by (inputs ++ Given command ∷ []) mark ≡ given command mark
made_by-given inputs command mark = made_by-push inputs (Given command) mark

-- no input makes the end of a demo
forward_of : (input : Input) (inputs : List Input) (mark : ℤ)
    → negsuc 126 ≤ℤ (made_of input inputs mark).forward
forward_of (Pressed keys) inputs mark =
    let low = forward_low (states_of inputs) mark in omega (arith, ints, low)
forward_of (Given command) inputs mark = omega (arith, ints, clamps)

pub made_by-forward : (inputs : List Input) (mark : ℤ) → negsuc 126 ≤ℤ (made_by inputs mark).forward
unfolding made_by
made_by-forward inputs mark = forward_of (last_input inputs) inputs mark

-- the mark is the one that was handed in
mark_of : (input : Input) (inputs : List Input) (mark : ℤ) → (made_of input inputs mark).mark ≡ mark
unfolding pressed
mark_of (Pressed keys) inputs mark = refl
mark_of (Given command) inputs mark = refl

pub made_by-mark : (inputs : List Input) (mark : ℤ) → (made_by inputs mark).mark ≡ mark
unfolding made_by
made_by-mark inputs mark = mark_of (last_input inputs) inputs mark

-- where no command is given
states_pressed : (states : List ℕ) → states_of (map Pressed states) ≡ states
states_pressed [] = refl
states_pressed (keys ∷ states) = ap (λ (rest : List ℕ). keys ∷ rest) (states_pressed states)

last_pressed : (states : List ℕ) (place : ℕ) (inputs : List Input) (mark : ℤ)
    → made_of (get_or (map Pressed states) place (Pressed 0)) inputs mark ≡ pressed (states_of inputs) mark
last_pressed states place inputs mark = go (get_or-map Pressed states place 0)
  where
    go : get_or (map Pressed states) place (Pressed 0) ≡ Pressed (get_or states place 0)
        → made_of (get_or (map Pressed states) place (Pressed 0)) inputs mark ≡ pressed (states_of inputs) mark
    go same = ap (λ (i : Input). made_of i inputs mark) same

pub made_by-pressed_alone : (states : List ℕ) (mark : ℤ)
    → made_by (map Pressed states) mark ≡ pressed states mark
unfolding made_by
made_by-pressed_alone states mark = grind (arith, last_pressed, states_pressed)

pub hold_of_pressed : (states : List ℕ) → hold_of (map Pressed states) ≡ turn_hold states
hold_of_pressed states = ap turn_hold (states_pressed states)

-- what the laws of commands are proved by
pub ruleset pressed_laws = (made_by-forward, made_by-pressed_alone, hold_of_pressed)

-- what a builder's commands are proved by: of keys, and one that is given
pub ruleset pressed_made = (to_z-of_z, made_by-pressed)

pub ruleset given_made = (to_z-of_z, made_by-given)
