use Rattle.std.proofs.Common.{rules, ◌≡◌, ◌+◌, ◌+ℤ◌, ℕ, ℤ, w32, to_z, of_z, ap, ◌∙◌, refl}
use Rattle.std.specs.Prelude.{nat_lt, false, ◌==◌, true}
use Rattle.dn_link.specs.Leaning.{LeaningState, decided, looks, offset_of}
use Rattle.dn_link.specs.Pacing.{leaning_of}
use Rattle.dn_link.proofs.leaning.Leaning.look.Goals as goal

-- it does not look away, and has looked at fewer than fifteen ticks, or at fifteen
looks_on : (difference : ℤ) (players : ℕ) (l : LeaningState) → nat_lt 0 l.rest ≡ false → (l.looked == 15) ≡ false
    → record l { looked = l.looked + 1; sum = l.sum +ℤ difference } ≡ looks difference players l
looks_on difference players l here before = rw (here, before) refl

looks_last : (difference : ℤ) (players : ℕ) (l : LeaningState) → nat_lt 0 l.rest ≡ false → (l.looked == 15) ≡ true
    → decided (offset_of (l.sum +ℤ difference) players) l ≡ looks difference players l
looks_last difference players l here last = rw (here, last) refl

pub returns-then-self : goal.returns-then-self
returns-then-self c =
    let n = c.args.self.now in
    let read : to_z w32 (of_z w32 c.args.difference) ≡ c.args.difference = search rules in
    let kept : to_z w32 (of_z w32 c.sum_with-sum.result) ≡ c.sum_with-sum.result = search rules in
    let sum : to_z w32 (of_z w32 c.sum_with-sum.result) ≡ n.sum +ℤ c.args.difference =
    kept ∙ c.sum_with-sum.ensures.value ∙ ap (λ (d : ℤ). n.sum +ℤ d) read in
    let here : nat_lt 0 n.rest ≡ false = search rules in
    let last : (n.looked == 15) ≡ true = search rules in
    let offset : to_z w32 (of_z w32 c.offset_of.result) ≡ c.offset_of.result = search rules in
    let over = offset ∙ c.offset_of.ensures ∙ ap (λ (s : ℤ). offset_of s c.args.players) sum in
    c.decide.ensures ∙ (λ i. decided (over i) (leaning_of n))
    ∙ looks_last c.args.difference c.args.players (leaning_of n) here last

pub returns : goal.returns
returns c =
    let n = c.args.self.now in
    let read : to_z w32 (of_z w32 c.args.difference) ≡ c.args.difference = search rules in
    let kept : to_z w32 (of_z w32 c.sum_with-sum.result) ≡ c.sum_with-sum.result = search rules in
    let sum : to_z w32 (of_z w32 c.sum_with-sum.result) ≡ n.sum +ℤ c.args.difference =
    kept ∙ c.sum_with-sum.ensures.value ∙ ap (λ (d : ℤ). n.sum +ℤ d) read in
    let here : nat_lt 0 n.rest ≡ false = search rules in
    let before : (n.looked == 15) ≡ false = search rules in
    (λ i. record (leaning_of n) { looked = n.looked + 1; sum = sum i })
    ∙ looks_on c.args.difference c.args.players (leaning_of n) here before
