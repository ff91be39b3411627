-- Players are told in order of their numbers, one after the other.
use Rattle.std.proofs.Common.{◌≡◌, ◌≢◌, ◌≤◌, ℕ, suc, List, [], ◌∷◌, ◌++◌, length, refl, subst, sym, arith, ◌∙◌, ◌+◌, ◌*◌, drop, ap, append-nil, flat_map}
use Rattle.std.proofs.lemmas.List.{length_push, take_rest, length-drop, nil_from_length, Elements.{All-nil, All-push}}
use Rattle.dn_survivor.specs.declared.report.Tail.{Tail}
use Rattle.dn_survivor.specs.ReportBytes.{AreInOrder, AreTold, IsTail, next_after, tail_bytes, fault_at, told_number}
use Rattle.dn_survivor.proofs.ReportBytes.{one_read}
use Rattle.dn_survivor.proofs.report.reading.tails_in.Goals as goal

-- nobody is told
none_told : (told : List Tail) → told ≡ [] → AreTold told
none_told told none = subst AreTold (sym none) (record { few = omega arith; order = tt; tails = All-nil IsTail })

in_order : (least : ℕ) (told : List Tail) (tail : Tail) → AreInOrder least told → next_after least told ≤ tail.player
    → AreInOrder least (told ++ tail ∷ [])
in_order least [] tail order next = (next, tt)
in_order least (t ∷ told) tail order next = (order.0, in_order (suc t.player) told tail order.1 next)

next_more : (least : ℕ) (told : List Tail) (tail : Tail) → next_after least (told ++ tail ∷ []) ≡ suc tail.player
next_more least [] tail = refl
next_more least (t ∷ told) tail = next_more (suc t.player) told tail

-- one player more is told
module _ (told more : List Tail) (tail : Tail) (pushed : more ≡ told ++ tail ∷ []) where
  more_told : AreTold told → IsTail tail → length told ≢ 2 → next_after 0 told ≤ tail.player → AreTold more
  more_told are is another next = subst AreTold (sym pushed) (record {
    few = omega (arith, are.few, another, length_push told tail);
    order = in_order 0 told tail are.order next;
    tails = All-push IsTail told tail are.tails is;
  })

  next_told : next_after 0 more ≡ suc tail.player
  next_told = subst (λ (ts : List Tail). next_after 0 ts ≡ suc tail.player) (sym pushed) (next_more 0 told tail)

pub loop-rest-init : goal.loop-rest-init
loop-rest-init c =
    let none = c.new-found.ensures in
    record {
      so_far = ap (λ (told : List Tail). flat_map tail_bytes told ++ c.args.bytes.now) (sym none);
      are = none_told _ none;
      next = ap (next_after 0) (sym none);
    }

pub loop-rest-smaller : goal.loop-rest-smaller
loop-rest-smaller c =
    let rest : List ℕ = c.loop-rest.rest.now in
    let n : ℕ = 6 + 8 * c.len-in-Ok.result in
    let long = c.in-Ok.ensures.told.1.long in
    omega (arith, ap (length {A = ℕ}) (take_rest rest n), length-drop n rest, long)

pub loop-rest-preserved : goal.loop-rest-preserved
loop-rest-preserved c =
    let inv = c.loop-rest.invariant in
    let rest : List ℕ = c.loop-rest.rest.now in
    let tail : Tail = c.in-Ok.tail in
    let told = c.in-Ok.ensures.told in
    let found : List Tail = c.loop-rest.found.items in
    let size : 6 + 8 * told_number rest ≡ 6 + 8 * c.len-in-Ok.result =
    omega (arith, c.len-in-Ok.ensures.value, told.3) in
    let behind = ap (λ (n : ℕ). drop n rest) size ∙ sym (take_rest rest (6 + 8 * c.len-in-Ok.result)) in
    let pushed = c.push.ensures.items in
    record {
      so_far = one_read tail_bytes c.args.bytes.now rest _ found _ tail inv.so_far
          (told.4 ∙ ap (λ (bs : List ℕ). tail_bytes tail ++ bs) behind) pushed;
      are = more_told found _ tail pushed inv.are told.0
          (λ e. told.1.another (c.len.ensures.value ∙ e)) (omega (arith, inv.next, told.1.order, told.2));
      next = omega (arith, next_told found _ tail pushed);
    }

pub returns-in-Err-clause-fault : goal.returns-in-Err-clause-fault
returns-in-Err-clause-fault c =
    let inv = c.loop-rest.invariant in
    let same : fault_at (length c.loop-rest.found.items) (next_after 0 c.loop-rest.found.items) c.loop-rest.rest.now
    ≡ fault_at c.len.result c.loop-rest.least c.loop-rest.rest.now =
    λ i. fault_at (sym c.len.ensures.value i) (sym inv.next i) c.loop-rest.rest.now in
    (c.loop-rest.found.items, c.loop-rest.rest.now, inv.are, inv.so_far, same ∙ c.in-Err.ensures.fault)

pub returns-clause-told : goal.returns-clause-told
returns-clause-told c =
    let inv = c.loop-rest.invariant in
    let none : c.loop-rest.rest.now ≡ [] = nil_from_length _ (grind arith) in
    (inv.are, inv.so_far ∙ ap (λ (bs : List ℕ). flat_map tail_bytes c.loop-rest.found.items ++ bs) none ∙ append-nil _)
