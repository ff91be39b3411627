-- What a joiner is told of a seat can be read, and is its own.
use Rattle.std.proofs.Common.{◌≡◌, ℕ, List, subst, sym, refl, Option, Result, Ok, Err, Bool, true, false, arith}
use Rattle.std.proofs.lemmas.Bool.{and_parts}
use Rattle.std.specs.Prelude.{◌&&◌, if◌then◌else◌}
use Rattle.dn_session.specs.Joining.{HearsHost, Joining, calling_again, calls_if_due, given_up_by, is_answer, is_own, on_hinted, on_refused, on_reply, on_seating, on_time}
use Rattle.dn_session.specs.{Reading.IsSeatingIn, Roster.IsJoining, Text.IsSeating, declared.greeting.GreetingFault.GreetingFault, declared.greeting.Hint.Hint}
use Rattle.dn_session.specs.{declared.greeting.Hinted.Hinted, declared.greeting.Refused.Refused, declared.greeting.Seating.Seating}

by_test : (test : Bool) (one two : Joining) → (test ≡ true → IsJoining one) → IsJoining two
    → IsJoining (if test then one else two)
by_test test one two first second = grind arith

module _ (now : ℕ) (j : Joining) (fits : IsJoining j) where
  seated : (s : Seating) → IsSeating s → IsJoining (on_seating s now j)
  seated s is = by_test (is_answer s.number s.count j && is_own s j) _ j
      (λ passed. record { number = fits.number; seating = is; own = (and_parts (is_answer s.number s.count j) (is_own s j) passed).1 })
      fits

  refused : (r : Refused) → IsJoining (on_refused r now j)
  refused r = grind arith

  hinted : (h : Hinted) → IsJoining (on_hinted h now j)
  hinted h = grind arith

  replied : (bytes : List ℕ) (s : Result Seating GreetingFault) (r : Result Refused GreetingFault)
      (h : Result Hinted GreetingFault) → IsSeatingIn j.seal bytes s → IsJoining (on_reply s r h now j)
  replied bytes (Ok s) r h is = seated s is.0
  replied bytes (Err fault) (Ok r) h is = refused r
  replied bytes (Err fault) (Err other) (Ok h) is = hinted h
  replied bytes (Err fault) (Err other) (Err third) is = fits

-- whatever its host says
pub heard_fits : (bytes : List ℕ) (now : ℕ) (old new : Joining) → HearsHost bytes now old new → IsJoining old → IsJoining new
heard_fits bytes now old new hears fits =
    subst IsJoining (sym hears.6) (replied now old fits bytes hears.0 hears.1 hears.2 hears.3)

ended : (now : ℕ) (hinted : Option (Hint × ℕ)) (j : Joining) → IsJoining j → IsJoining (given_up_by now hinted j)
ended now hinted j fits = grind arith

again : (now : ℕ) (j : Joining) → IsJoining j → IsJoining (calling_again now j)
again now j fits = grind arith

called_if : (now : ℕ) (j : Joining) → IsJoining j → IsJoining (calls_if_due now j).0
called_if now j fits = grind arith

-- and as time goes
pub timed_fits : (now : ℕ) (j : Joining) → IsJoining j → IsJoining (on_time now j).0
timed_fits now j fits =
    called_if now (calling_again now (given_up_by now j.hinted j))
    (again now (given_up_by now j.hinted j) (ended now j.hinted j fits))

-- or does not say to it
pub deaf_fits : (test : Bool) (bytes : List ℕ) (now : ℕ) (old new : Joining)
    → (test ≡ true → HearsHost bytes now old new) → (test ≡ false → new ≡ old) → IsJoining old → IsJoining new
deaf_fits true bytes now old new hears deaf fits = heard_fits bytes now old new (hears refl) fits
deaf_fits false bytes now old new hears deaf fits = subst IsJoining (sym (deaf refl)) fits
