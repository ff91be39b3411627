use Rattle.std.proofs.Common.{◌≡◌, ◌++◌, ◌∷◌, [], List, ℕ, ap, ◌∙◌, append_assoc}
use Rattle.std.specs.{List.flat_map, Int.w32, Int.to_le_bytes}
use Rattle.dn_session.specs.{Terms.bit, Terms.terms_bytes, Text.shown_bytes}
use Rattle.dn_session.proofs.sorts.SeatingGreeting.rest.Goals as goal

pub returns : goal.returns
returns c =
    let s = c.args.self.now in
    let one : c.append.new.bytes.items ≡ s.number = c.append.ensures ∙ ap (λ (xs : List ℕ). xs ++ s.number) c.new-bytes.ensures in
    let two : c.append-2.new.bytes.items ≡ s.number ++ to_le_bytes w32 s.count =
    c.append-2.ensures ∙ (λ i. one i ++ c.to_le_bytes.ensures i) in
    let three = c.append-3.ensures ∙ ap (λ (xs : List ℕ). xs ++ s.cookie) two in
    let four = c.append-4.ensures ∙ ap (λ (xs : List ℕ). xs ++ s.host) three in
    let five = c.append-5.ensures ∙ ap (λ (xs : List ℕ). xs ++ s.name) four in
    let six = c.append-6.ensures ∙ (λ i. five i ++ s.seat ∷ c.bit.ensures i ∷ []) in
    let terms : c.as_slice.result.now ≡ terms_bytes s.terms = c.as_slice.ensures.value ∙ c.terms_bytes.ensures in
    let seven = c.append-7.ensures ∙ (λ i. six i ++ terms i) in
    let seats : c.as_slice-2.result.now ≡ flat_map shown_bytes s.seats =
    c.as_slice-2.ensures.value ∙ c.seats_bytes.ensures in
    let eight = c.append-8.ensures ∙ (λ i. seven i ++ seats i) in
    eight ∙ regroup s.number (to_le_bytes w32 s.count) s.cookie s.host s.name (s.seat ∷ bit s.begun ∷ [])
    (terms_bytes s.terms) (flat_map shown_bytes s.seats)
  where
    regroup : (a b c d e f g h : List ℕ) → ((((((a ++ b) ++ c) ++ d) ++ e) ++ f) ++ g) ++ h
        ≡ a ++ (b ++ (c ++ (d ++ (e ++ (f ++ (g ++ h))))))
    regroup a b c d e f g h = simp append_assoc
