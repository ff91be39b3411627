-- The sorts of greetings that have a tag.
use Rattle.std.specs.Prelude.{ℕ, List}
use Rattle.dn_session.specs.{Text.{IsCall, IsRefused, IsSeating, call_rest, refused_rest, seating_rest}, declared.{greeting.Call.Call, greeting.Refused.Refused, greeting.Seating.Seating}}

-- a sort: the number in the head, how many bytes a greeting has (twelve of the head, its rest, 16 of the tag),
-- whether its fields fit, and the bytes of its rest
pub record Sort (T : Type 0) : Type 1 where
  pub what : ℕ
  pub size : ℕ
  pub Is : T → Type 0
  pub rest : T → List ℕ

abbrev pub calls : Sort Call
calls = record { what = 1; size = 581; Is = IsCall; rest = call_rest }

abbrev pub seatings : Sort Seating
seatings = record { what = 2; size = 581; Is = IsSeating; rest = seating_rest }

abbrev pub refusals : Sort Refused
refusals = record { what = 3; size = 66; Is = IsRefused; rest = refused_rest }
