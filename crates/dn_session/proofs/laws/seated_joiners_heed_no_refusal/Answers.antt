use Rattle.std.proofs.Common.{◌≡◌, ℕ, refl, ap, true, false}
use Rattle.std.specs.Prelude.{not}
use Rattle.std.proofs.lemmas.Bool.{and_right}
use Rattle.dn_session.specs.{Cookies.is_recent, Joining.Joining, Joining.is_answer, Joining.is_own, Joining.is_sure, Joining.on_refused, Joining.on_seating, declared.greeting.Refused.Refused}
use Rattle.dn_session.specs.declared.greeting.Seating.{Seating}
use Rattle.dn_session.proofs.laws.seated_joiners_heed_no_refusal.Goals as goal

heeds_none : (r : Refused) (now : ℕ) (j : Joining) → is_sure now j ≡ true → on_refused r now j ≡ j
heeds_none r now j sure =
    let none = and_right (is_answer r.number r.count j) (not (is_sure now j)) (ap not sure) in rw none refl

seats : (s : Seating) (came now : ℕ) (j : Joining) → is_answer s.number s.count j ≡ true → is_own s j ≡ true
    → s.begun ≡ false → is_recent now came ≡ true → is_sure now (on_seating s came j) ≡ true
seats s came now j answer own lobby recent = rw (answer, own, lobby, recent) refl

pub returns : goal.returns
returns c = λ s r came now j answer own lobby recent.
    heeds_none r now (on_seating s came j) (seats s came now j answer own lobby recent)
