-- No more probes go to an address than datagrams came from it, where the roster does not tell it.
use Rattle.std.proofs.Common.{◌≡◌, ◌≤◌, ◌+◌, ◌∙◌, ◌⊎◌, ℕ, List, [], ◌∷◌, length, ap, refl, sym, arith, Bool, true, false, Option, Some, None, inl, inr}
use Rattle.std.proofs.lemmas.{Option.none-some, Slice.Eq.bytes_eq-Decides}
use Rattle.std.specs.{Prelude.{◌&&◌, filter, find, if◌then◌else◌}, Option.option_map}
use Rattle.dn_session.specs.Places.{Happening, Comes, Sends, after_probe, answered_by, comes_from, happened, heard_by, heard_from, heard_here, is_due_at, is_echoed, is_this, may_move, new_spot, passed_by, probe_to, probed, probes_to, sought_at, spot_at}
use Rattle.dn_session.specs.declared.{greeting.Address.Address, places.{News.News, Place.Place, Probe.Probe, Spot.Spot}}

abbrev one_if : Bool → ℕ
one_if test = if test then 1 else 0

abbrev due : Spot → Spot
due s = record s { is_due = true }

either : (P : Place → Type 0) (test : Bool) (one two : Place) → (test ≡ true → P one) → P two
    → P (if test then one else two)
either P test one two this that = grind arith

counted : {A : Type 0} (test : Bool) (x : A) (xs : List A) → length (if test then x ∷ xs else xs) ≡ one_if test + length xs
counted test x xs = grind arith

-- no call moves a spot
due_at : (s : Option Spot) → spot_at (option_map due s) ≡ spot_at s
due_at s = grind arith

probed_at : (to : Address) (now : ℕ) (s : Option Spot) → spot_at (option_map (probed to now) s) ≡ spot_at s
probed_at to now s = grind arith

-- where a probe goes, and why
why : (looked silence : ℕ) (place : Place) (to : Address) → probe_to looked silence place ≡ Some to
    → (spot_at place.fallback ≡ Some to) ⊎ ((is_due_at looked place.candidate ≡ true) × (spot_at place.candidate ≡ Some to))
why looked silence place to is = grind (arith, none-some)

module _ (at : Address) where
  -- whether a candidate is this address, and a probe is due to it
  abbrev is_asked : Option Spot → Bool
  is_asked None = false
  is_asked (Some s) = is_this at (Some s.address) && s.is_due

  abbrev credit : Option Spot → ℕ
  credit spot = one_if (is_asked spot)

  nothing : (s : Option Spot) → is_this at (spot_at s) ≡ false → credit s ≡ 0
  nothing s off = grind arith

  -- A datagram gives one probe at most to where it came from.
  module _ (from : Address) (now : ℕ) (news : News) (place : Place) where
    abbrev IsWithin : Place → Type 0
    IsWithin new = credit new.candidate ≤ one_if (is_this at (Some from)) + credit place.candidate

    same : IsWithin place
    same = omega arith

    again : (s : Option Spot) → is_this from (spot_at s) ≡ true
        → credit (option_map due s) ≤ one_if (is_this at (Some from)) + credit s
    again s here = grind (arith, bytes_eq-Decides)

    first : IsWithin (record place { candidate = Some (new_spot true now from) })
    first = grind arith

    sought : IsWithin (sought_at from now place)
    sought =
        either IsWithin (is_this from (spot_at place.fallback)) _ _ (λ there. same)
        (either IsWithin (is_this from (spot_at place.candidate)) _ _ (λ here. again place.candidate here)
        (either IsWithin (may_move from now place) _ _ (λ may. first) same))

    here : (is_answer : Bool) → IsWithin (heard_here now is_answer place)
    here is_answer = grind arith

    heard : IsWithin (heard_from from now news place)
    heard = grind (arith, either, here, sought)

    echoes : (probe : Option Probe) (new : Place) → credit (answered_by now probe new).candidate ≤ credit new.candidate
    echoes probe new = grind arith

    comes : (is_passed : Bool) → IsWithin (heard_by is_passed from now news place)
    comes is_passed =
        let new = if is_passed then passed_by now news.is_current place else heard_from from now news place in
        let before : IsWithin new =
        either IsWithin is_passed _ _ (λ is. either IsWithin _ _ _ (λ noted. same) same) heard in
        either IsWithin news.is_answer _ _
        (λ is. omega (arith, before, echoes (find (is_echoed news.echo) new.probes) new)) before

    -- And no other address is looked for by it than those before.
    abbrev IsElse : Place → Type 0
    IsElse new = (is_this at new.address ≡ false) × (is_this at (spot_at new.fallback) ≡ false)

    module _ (other : IsElse place) where
      asked_again : IsElse (record place { fallback = option_map due place.fallback })
      asked_again = (other.0, ap (is_this at) (due_at place.fallback) ∙ other.1)

      here_else : (is_answer : Bool) → IsElse (heard_here now is_answer place)
      here_else is_answer = grind arith

      heard_else : IsElse (heard_from from now news place)
      heard_else = grind (arith, either, here_else, asked_again)

      kept : (to s : Option Address) (spot : Option Spot) → is_this at s ≡ false → is_this at (spot_at spot) ≡ false
          → is_this at (spot_at (elim s as (λ _. Option Spot) [
            | None ↦ spot
            | Some before ↦ if is_this before to then spot else Some (new_spot false now before)
          ])) ≡ false
      kept to s spot off other = grind arith

      echoes_else : (probe : Option Probe) (new : Place) → IsElse new → is_this at (spot_at (answered_by now probe new).fallback) ≡ false
      echoes_else probe new is = grind (arith, kept)

      comes_else : (is_passed : Bool) → is_this at (spot_at (heard_by is_passed from now news place).fallback) ≡ false
      comes_else is_passed = grind (arith, either, heard_else, echoes_else)

  -- A probe takes the one that was given.
  module _ (looked silence echo : ℕ) (place : Place) (other : is_this at (spot_at place.fallback) ≡ false) where
    fewer : (to : Address) (s : Option Spot) → credit (option_map (probed to looked) s) ≤ credit s
    fewer to s = grind arith

    taken : (to : Address) (s : Option Spot) → is_due_at looked s ≡ true → spot_at s ≡ Some to
        → one_if (is_this at (Some to)) + credit (option_map (probed to looked) s) ≤ credit s
    taken to s asked is = grind (arith, bytes_eq-Decides)

    sends : (to : Option Address) → probe_to looked silence place ≡ to → one_if (is_this at to) + credit (elim to as (λ _. Place) [
      | None ↦ place
      | Some to ↦ after_probe to looked echo place
    ]).candidate ≤ credit place.candidate
    sends None none = omega arith
    sends (Some to) is = elim (why looked silence place to is) [
      | inl here ↦
          let off : is_this at (Some to) ≡ false = ap (is_this at) (sym here) ∙ other in
          let less = fewer to place.candidate in
          rw off (omega (arith, less))
      | inr found ↦ taken to place.candidate found.0 found.1
    ]

    sends_else : (to : Option Address) → is_this at (spot_at (elim to as (λ _. Place) [
      | None ↦ place
      | Some to ↦ after_probe to looked echo place
    ]).fallback) ≡ false
    sends_else None = other
    sends_else (Some to) = ap (is_this at) (probed_at to looked place.fallback) ∙ other

  -- one of both, and what follows
  either_way : (shown : Bool) (n m : ℕ) → (shown ≡ false → n ≤ m) → (if shown then 0 else n) ≤ m
  either_way shown n m less = grind arith

  all : (happenings : List Happening) (place : Place) → is_this at (spot_at place.fallback) ≡ false
      → probes_to at place happenings ≤ length (filter (comes_from at) happenings) + credit place.candidate
  all [] place other = omega arith
  all (Comes is_passed from now news ∷ rest) place other =
      either_way (is_this at place.address) _ _ (λ apart.
      let new = heard_by is_passed from now news place in
      let later = all rest new (comes_else from now news place (apart, other) is_passed) in
      let step = comes from now news place is_passed in
      let count = counted (is_this at (Some from)) (Comes is_passed from now news) (filter (comes_from at) rest) in
      omega (arith, later, step, count))
  all (Sends looked silence echo ∷ rest) place other =
      either_way (is_this at place.address) _ _ (λ apart.
      let to = probe_to looked silence place in
      let later = all rest (happened (Sends looked silence echo) place) (sends_else looked silence echo place other to) in
      let step = sends looked silence echo place other to refl in
      omega (arith, later, step))

  pub no_more : (place : Place) (happenings : List Happening) → is_this at (spot_at place.fallback) ≡ false
      → is_this at (spot_at place.candidate) ≡ false
      → probes_to at place happenings ≤ length (filter (comes_from at) happenings)
  no_more place happenings fallback candidate =
      omega (arith, all happenings place fallback, nothing place.candidate candidate)
