-- What a call changes of a seat: when it was heard, and where its holder is.
use Rattle.std.proofs.Common.{◌≡◌, ◌≢◌, ◌≤◌, ℕ, zero, suc, List, [], ◌∷◌, get_or, set, max, refl, ap, sym, subst, ◌∙◌, arith, Option, Some, None, Result, Ok, Err, inl, inr, ◌⊎◌, true, false}
use Rattle.std.specs.Prelude.{position, slice_index_or}
use Rattle.std.specs.Str.{bytes_eq}
use Rattle.std.proofs.lemmas.Bool.{and_parts, both_ways, leb-true}
use Rattle.std.proofs.lemmas.Slice.Eq.{bytes_eq-Decides}
use Rattle.dn_session.specs.{Cookies.is_good, Cookies.is_recent, Cookies.time_of, Hosting.HearsCall, Hosting.Lobby, Hosting.WasHeard, Hosting.filled_by}
use Rattle.dn_session.specs.{Hosting.on_call, Hosting.on_opened, Hosting.seated, Reading.IsCallIn, Seats.held_again, Seats.is_of, Seats.seat_of, Seats.taken_again, Seats.taken_by}
use Rattle.dn_session.specs.{declared.greeting.Address.Address, declared.greeting.Call.Call, declared.greeting.GreetingFault.GreetingFault, declared.seats.Held.Held, declared.seats.Seat.Seat}
use Rattle.dn_session.specs.declared.seats.Seat.TheVariants as seat
use Rattle.dn_session.proofs.{Lobbies.each_call, Lobbies.none_passes}

-- a seat is as it was, or it is the one that was changed
one_set : (seats : List Seat) (k n : ℕ) (changed s : Seat) → get_or (set seats k changed) n seat.Absent ≡ s
    → (get_or seats n seat.Absent ≡ s) ⊎ ((n ≡ k) × (changed ≡ s))
one_set [] k n changed s e = inl e
one_set (z ∷ rest) zero zero changed s e = inr (refl, e)
one_set (z ∷ rest) zero (suc n) changed s e = inl e
one_set (z ∷ rest) (suc k) zero changed s e = inl e
one_set (z ∷ rest) (suc k) (suc n) changed s e = elim (one_set rest k n changed s e) [
  | inl was ↦ inl was
  | inr that ↦ inr (ap suc that.0, that.1)
]

was : (s : Seat) (held : Held) → s ≡ seat.Taken held → WasHeard held.heard s
was s held e = grind arith

heard_later : (from : Address) (now time : ℕ) (before : Held)
    → (held_again from now time before).heard ≡ max before.heard time
heard_later from now time before = grind arith

heard_again : (from : Address) (now time : ℕ) (s : Seat) (held : Held) → taken_again from now time s ≡ seat.Taken held
    → WasHeard held.heard s ⊎ (held.heard ≡ time)
heard_again from now time s held e = grind (arith, heard_later)

module _ (from : Address) (call : Call) (now n : ℕ) (l : Lobby) where
  abbrev old : Seat
  old = get_or l.seats n seat.Absent

  -- what is known of when the seat was heard
  abbrev Heard : Lobby × List ℕ → Type 0
  Heard after = (held : Held) → get_or after.0.seats n seat.Absent ≡ seat.Taken held
      → WasHeard held.heard old ⊎ ((is_good l.random from now call.cookie ≡ true) × (held.heard ≡ time_of call.cookie))

  newly_heard : (k : ℕ) → l.begun ≡ false → is_good l.random from now call.cookie ≡ true
      → position (is_of call.number) l.seats ≡ None → seat_of call.seat now l.seats ≡ Some k
      → Heard (seated from call now k (taken_by from call (time_of call.cookie)) (filled_by call l))
  newly_heard k lobby good none some held e =
      elim (one_set l.seats k n (taken_by from call (time_of call.cookie)) (seat.Taken held) e) [
        | inl kept ↦ inl (was old held kept)
        | inr that ↦
            let taken = that.1 in
            let same : record { holder = record { number = call.number; address = from; name = call.name }; heard = time_of call.cookie; heard_here = time_of call.cookie } ≡ held = cc in
            inr (good, sym (ap (λ (h : Held). h.heard) same))
      ]

  heard_more : (k : ℕ) → l.begun ≡ false → is_good l.random from now call.cookie ≡ true
      → position (is_of call.number) l.seats ≡ Some k
      → Heard (seated from call now k (taken_again from now (time_of call.cookie) (slice_index_or l.seats k seat.Absent)) l)
  heard_more k lobby good some held e =
      elim (one_set l.seats k n (taken_again from now (time_of call.cookie) (get_or l.seats k seat.Absent)) (seat.Taken held) e) [
        | inl kept ↦ inl (was old held kept)
        | inr that ↦
            let here = subst (λ (m : ℕ). taken_again from now (time_of call.cookie) (get_or l.seats m seat.Absent) ≡ seat.Taken held) (sym that.0) that.1 in
            elim (heard_again from now (time_of call.cookie) old held here) [
              | inl before ↦ inl before
              | inr time ↦ inr (good, time)
            ]
      ]

  heard_call : Heard (on_opened from call now l)
  heard_call = each_call from call now l Heard (λ why held e. inl (was old held e)) (λ k game some held e. inl (was old held e))
      newly_heard heard_more

  -- what is known of where its holder is
  abbrev Moved : Lobby × List ℕ → Type 0
  Moved after = (before next : Held) → old ≡ seat.Taken before → get_or after.0.seats n seat.Absent ≡ seat.Taken next
      → next.holder.number ≡ before.holder.number → next.holder.address ≢ before.holder.address
      → (is_recent now before.heard_here ≡ false) × (next.holder.address ≡ from)

  unmoved : (before next : Held) → old ≡ seat.Taken before → old ≡ seat.Taken next
      → next.holder.address ≢ before.holder.address
      → (is_recent now before.heard_here ≡ false) × (next.holder.address ≡ from)
  unmoved before next b a other =
      let same : next ≡ before = cc in absurd (other (ap (λ (h : Held). h.holder.address) same))

  newly_moved : (k : ℕ) → l.begun ≡ false → is_good l.random from now call.cookie ≡ true
      → position (is_of call.number) l.seats ≡ None → seat_of call.seat now l.seats ≡ Some k
      → Moved (seated from call now k (taken_by from call (time_of call.cookie)) (filled_by call l))
  newly_moved k lobby good none some before next b a number other =
      elim (one_set l.seats k n (taken_by from call (time_of call.cookie)) (seat.Taken next) a) [
        | inl kept ↦ unmoved before next b kept other
        | inr that ↦
            let taken = that.1 in
            let same : record { holder = record { number = call.number; address = from; name = call.name }; heard = time_of call.cookie; heard_here = time_of call.cookie } ≡ next = cc in
            let caller : before.holder.number ≡ call.number =
            sym number ∙ sym (ap (λ (h : Held). h.holder.number) same) in
            let no = subst (λ (s : Seat). is_of call.number s ≡ false) b (none_passes (is_of call.number) l.seats n refl none) in
            absurd (both_ways (bytes_eq before.holder.number call.number) no
            ((bytes_eq-Decides before.holder.number call.number).1 caller))
      ]

  followed : (time : ℕ) (before : Held) → (held_again from now time before).holder.address ≢ before.holder.address
      → (is_recent now before.heard_here ≡ false) × ((held_again from now time before).holder.address ≡ from)
  followed time before other = grind arith

  more_moved : (k : ℕ) → l.begun ≡ false → is_good l.random from now call.cookie ≡ true
      → position (is_of call.number) l.seats ≡ Some k
      → Moved (seated from call now k (taken_again from now (time_of call.cookie) (slice_index_or l.seats k seat.Absent)) l)
  more_moved k lobby good some before next b a number other =
      elim (one_set l.seats k n (taken_again from now (time_of call.cookie) (get_or l.seats k seat.Absent)) (seat.Taken next) a) [
        | inl kept ↦ unmoved before next b kept other
        | inr that ↦
            let here = subst (λ (m : ℕ). taken_again from now (time_of call.cookie) (get_or l.seats m seat.Absent) ≡ seat.Taken next) (sym that.0) that.1 in
            let taken = subst (λ (s : Seat). taken_again from now (time_of call.cookie) s ≡ seat.Taken next) b here in
            let same : held_again from now (time_of call.cookie) before ≡ next = cc in
            let far : (held_again from now (time_of call.cookie) before).holder.address ≢ before.holder.address =
            λ e. other (sym (ap (λ (h : Held). h.holder.address) same) ∙ e) in
            let moved = followed (time_of call.cookie) before far in
            (moved.0, sym (ap (λ (h : Held). h.holder.address) same) ∙ moved.1)
      ]

  moved_call : Moved (on_opened from call now l)
  moved_call = each_call from call now l Moved (λ why before next b a number other. unmoved before next b a other)
      (λ k game some before next b a number other. unmoved before next b a other) newly_moved more_moved

-- the time of a good cookie is at most now
at_most : (random : List ℕ) (from : Address) (now : ℕ) (cookie : List ℕ) → is_good random from now cookie ≡ true
    → time_of cookie ≤ now
at_most random from now cookie good = grind (arith, and_parts, leb-true)

module _ (from : Address) (bytes : List ℕ) (now n : ℕ) (old new : Lobby) (reply : Option (List ℕ)) where
  abbrev IsSign : Held → Type 0
  IsSign held = WasHeard held.heard (slice_index_or old.seats n seat.Absent)
      ⊎ ((call : Call) × IsCallIn old.seal bytes (Ok call) × (is_good old.random from now call.cookie ≡ true)
      × (held.heard ≡ time_of call.cookie) × (held.heard ≤ now))

  heard_read : (held : Held) (read : Result Call GreetingFault) → IsCallIn old.seal bytes read
      → get_or (on_call from bytes now old read).0.seats n seat.Absent ≡ seat.Taken held → IsSign held
  heard_read held (Ok call) reads e = elim (heard_call from call now n old held e) [
    | inl before ↦ inl before
    | inr sign ↦
        let low = at_most old.random from now call.cookie sign.0 in
        let time = sign.1 in
        inr (call, reads, sign.0, time, subst (λ (t : ℕ). t ≤ now) (sym time) low)
  ]
  heard_read held (Err fault) reads e = inl (was (get_or old.seats n seat.Absent) held e)

  pub heard_at : (held : Held) → HearsCall from bytes now old new reply
      → slice_index_or new.seats n seat.Absent ≡ seat.Taken held → IsSign held
  heard_at held hears is =
      heard_read held hears.0 hears.1 (ap (λ (l : Lobby). get_or l.seats n seat.Absent) (sym hears.2) ∙ is)

  moved_read : (before next : Held) (read : Result Call GreetingFault)
      → slice_index_or old.seats n seat.Absent ≡ seat.Taken before
      → get_or (on_call from bytes now old read).0.seats n seat.Absent ≡ seat.Taken next
      → next.holder.number ≡ before.holder.number → next.holder.address ≢ before.holder.address
      → (is_recent now before.heard_here ≡ false) × (next.holder.address ≡ from)
  moved_read before next (Ok call) b a number other = moved_call from call now n old before next b a number other
  moved_read before next (Err fault) b a number other =
      let same : next ≡ before = cc in absurd (other (ap (λ (h : Held). h.holder.address) same))

  pub moved_from : (before next : Held) → HearsCall from bytes now old new reply
      → slice_index_or old.seats n seat.Absent ≡ seat.Taken before
      → slice_index_or new.seats n seat.Absent ≡ seat.Taken next
      → next.holder.number ≡ before.holder.number → next.holder.address ≢ before.holder.address
      → (is_recent now before.heard_here ≡ false) × (next.holder.address ≡ from)
  moved_from before next hears b a number other = moved_read before next hears.0 b
      (ap (λ (l : Lobby). get_or l.seats n seat.Absent) (sym hears.2) ∙ a) number other
