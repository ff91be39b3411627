-- Packets by what their callers have of them.
use Rattle.std.proofs.Common.{◌≡◌, ℕ, zero, suc, List, [], ◌∷◌, ◌++◌, length, take, drop, append-nil, Option, Some, None, refl, ap, sym, ◌∙◌, inl, inr, arith}
use Rattle.std.specs.Prelude.{IfSome, slice_get}
use Rattle.std.specs.Option.{option_map}
use Rattle.std.proofs.lemmas.Bool.{cases_eq}
use Rattle.std.proofs.lemmas.List.{length-append, length-take-le}
use Rattle.std.proofs.lemmas.Option.{none-some, same_Some}
use Rattle.arrayvec.specs.ArrayVec.{ArrayVec}
use Rattle.dn_packet.specs.Written.{IsGiven}
use Rattle.dn_machine.specs.Flight.{Flight}
use Rattle.dn_machine.specs.Node.{put}
use Rattle.dn_machine.proofs.Put.{put_at, put_off, same_functions}
use Rattle.dn_lockstep.specs.declared.lockstep.aiming.Aim.{Aim}
use Rattle.dn_lockstep.specs.OneGame.{given_on}
use Rattle.dn_engine_tests.specs.declared.calls.Parcel.{Parcel}
use Rattle.dn_engine_tests.specs.Calls.{AreFor, parcel_of}
use Rattle.dn_lockstep.specs.Contents.{Contents}
use Rattle.dn_lockstep.specs.Sent.{aim_of, bytes_of}

-- the packet that was given last is found
pub last_given : (given : List Flight) (flight : Flight)
    → slice_get (given ++ flight ∷ []) (length given) ≡ Some flight
last_given [] flight = refl
last_given (one ∷ given) flight = last_given given flight

-- a caller that has numbers and bytes was given a packet, which has them
pub record Has (from to : ℕ) (aim : Aim) (bytes : List ℕ) (flight : Option Flight) : Type 0 where
  pub one : Flight
  pub is : flight ≡ Some one
  pub sender : one.from ≡ from
  pub receiver : one.to ≡ to
  pub aim_is : aim ≡ aim_of one
  pub bytes_are : bytes ≡ bytes_of one

pub has : (from to : ℕ) (aim : Aim) (bytes : List ℕ) (flight : Option Flight)
    → IfSome flight (λ flight. (flight.from ≡ from) × (flight.to ≡ to))
    → Some aim ≡ option_map aim_of flight → Some bytes ≡ option_map bytes_of flight
    → Has from to aim bytes flight
has from to aim bytes None players told spelled = absurd (cc)
has from to aim bytes (Some one) players told spelled = record {
  one = one;
  is = refl;
  sender = players.0;
  receiver = players.1;
  aim_is = same_Some aim (aim_of one) told;
  bytes_are = same_Some bytes (bytes_of one) spelled;
}

-- and it has no more
pub same_parcel : (from : ℕ) (aim : Aim) (bytes : ArrayVec ℕ) (flight : Option Flight)
    → Some aim ≡ option_map aim_of flight → Some bytes.items ≡ option_map bytes_of flight
    → Some (record { from = from; aim = aim; bytes = bytes }) ≡ option_map (parcel_of from) flight
same_parcel from aim bytes None told spelled = absurd (cc)
same_parcel from aim bytes (Some one) told spelled =
    let numbers = same_Some aim (aim_of one) told in
    let text = same_Some bytes.items (bytes_of one) spelled in
    λ i. Some (record { from = from; aim = numbers i; bytes = record { items = text i } })

-- a room has all that was written to it
pub written_fits : (given : Option (List ℕ)) (old new : List ℕ) (count : ℕ) → IsGiven given old new count
    → length (take count new) ≡ count
written_fits None old new count w = length-take-le count new (omega (arith, w.0))
written_fits (Some bytes) old new count w =
    let is = ap length w.1 in
    length-take-le count new (omega (arith, w.0, is, length-append bytes (drop (length bytes) old)))

-- what was given before is still found
found_on : (given more : List Flight) (which : ℕ) (flight : Flight) → slice_get given which ≡ Some flight
    → slice_get (given ++ more) which ≡ Some flight
found_on [] more which flight found = absurd (none-some flight found)
found_on (one ∷ given) more zero flight found = found
found_on (one ∷ given) more (suc which) flight found = found_on given more which flight found

pub for_on : (given more : List Flight) (to : ℕ) (parcel : Option Parcel) → AreFor given to parcel
    → AreFor (given ++ more) to parcel
for_on given more to None are = tt
for_on given more to (Some parcel) are = record {
  which = are.which;
  flight = are.flight;
  found = found_on given more are.which are.flight are.found;
  sender = are.sender;
  receiver = are.receiver;
  aim = are.aim;
  bytes = are.bytes;
}

pub more_given : (given : List Flight) (flight : Option Flight)
    → (more : List Flight) × (given_on given flight ≡ given ++ more)
more_given given None = ([], sym (append-nil given))
more_given given (Some flight) = (flight ∷ [], refl)

-- the newer of two in one place
pub put_twice : (locksteps : ℕ → Contents) (player : ℕ) (one other : Contents)
    → put (put locksteps player one) player other ≡ put locksteps player other
put_twice locksteps player one other = same_functions (λ place. elim (cases_eq place player) [
  | inl e ↦ put_at (put locksteps player one) player place other e ∙ sym (put_at locksteps player place other e)
  | inr n ↦ put_off (put locksteps player one) player place other n ∙ put_off locksteps player place one n
      ∙ sym (put_off locksteps player place other n)
])
