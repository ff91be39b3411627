-- What stands where in a greeting, if it is one: the steps of reading. What bytes are read as is said in `Reading`,
-- without them.
use Rattle.std.specs.Prelude.{ℕ, ◌==◌, if◌then◌else◌, List, [], ◌∷◌, take, drop, slice_index, Option, Some, None}
use Rattle.std.specs.Int.{w32, from_le_bytes}
use Rattle.dn_setup.specs.Settings.{choice}
use Rattle.dn_session.specs.Text.{told_number}
use Rattle.dn_session.specs.declared.{greeting.Call.Call, greeting.Hint.Hint, greeting.Hinted.Hinted, greeting.Refusal.Refusal, greeting.Refused.Refused, greeting.Seating.Seating}
use Rattle.dn_session.specs.declared.{greeting.Shown.Shown, terms.Policy.Policy, terms.Policy.TheVariants.End, terms.Policy.TheVariants.GiveUp, terms.Policy.TheVariants.Wait, terms.Terms.Terms}
use Rattle.dn_session.specs.declared.greeting.Hint.TheVariants as hint
use Rattle.dn_session.specs.declared.greeting.Refusal.TheVariants as refusal

-- so many bytes from a place on, and the number of four bytes
abbrev pub told_at : ℕ → ℕ → List ℕ → List ℕ
told_at size place bytes = take size (drop place bytes)

abbrev pub told_count : ℕ → List ℕ → ℕ
told_count place bytes = from_le_bytes w32 (told_at 4 place bytes)

abbrev pub told_name : ℕ → Option ℕ
told_name n = if n == 0 then None else Some n

-- the call behind the head
abbrev pub told_call : List ℕ → Call
told_call rest = record {
  number = told_at 16 0 rest;
  count = told_count 16 rest;
  cookie = told_at 16 20 rest;
  seat = told_name (slice_index rest 36);
  players = told_name (slice_index rest 37);
  identity = told_at 16 38 rest;
  name = told_at 16 54 rest;
}

abbrev pub told_policy : ℕ → ℕ → Policy
told_policy kind seconds =
    if kind == 1 then Wait else (
    if kind == 2 then GiveUp seconds else End seconds)

-- the terms that these 288 bytes are
abbrev pub told_terms : List ℕ → Terms
told_terms bytes = record {
  players = slice_index bytes 0;
  extra = slice_index bytes 1 == 1;
  ahead = slice_index bytes 2;
  rate = slice_index bytes 3;
  limit = told_count 4 bytes;
  settings = choice (slice_index bytes 8) (slice_index bytes 9) (slice_index bytes 10 == 1) (slice_index bytes 11 == 1)
      (slice_index bytes 12) (slice_index bytes 13);
  policy = told_policy (slice_index bytes 14) (slice_index bytes 15);
  identity = told_at 16 16 bytes;
  own = told_at 256 32 bytes;
}

-- the seat that these 65 bytes are
abbrev pub told_shown : List ℕ → Option Shown
told_shown bytes =
    if slice_index bytes 0 == 0
    then None
    else Some (record {
      holder = record {
        number = told_at 16 1 bytes;
        address = record { bytes = told_at 32 17 bytes };
        name = told_at 16 49 bytes;
      };
      heard = slice_index bytes 0 == 2;
    })

-- the seating behind the head
abbrev pub told_seating : List ℕ → Seating
told_seating rest = record {
  number = told_at 16 0 rest;
  count = told_count 16 rest;
  cookie = told_at 16 20 rest;
  host = told_at 16 36 rest;
  name = told_at 16 52 rest;
  seat = slice_index rest 68;
  begun = slice_index rest 69 == 1;
  terms = told_terms (told_at 288 70 rest);
  seats = told_shown (told_at 65 358 rest) ∷ told_shown (told_at 65 423 rest) ∷ told_shown (told_at 65 488 rest) ∷ [];
}

abbrev pub told_reason : ℕ → ℕ → Refusal
told_reason reason players =
    if reason == 1 then refusal.Cookie else (
    if reason == 2 then refusal.Full else (
    if reason == 3 then refusal.Begun else (
    if reason == 4 then refusal.Players players else (
    if reason == 5 then refusal.Identity else refusal.Kicked))))

abbrev pub told_refused : List ℕ → Refused
told_refused rest = record {
  number = told_at 16 0 rest;
  count = told_count 16 rest;
  cookie = told_at 16 20 rest;
  refusal = told_reason (slice_index rest 36) (slice_index rest 37);
}

abbrev pub told_hint : ℕ → ℕ → Hint
told_hint byte version = if byte == 1 then hint.Key else hint.Version version

abbrev pub told_hinted : List ℕ → Hinted
told_hinted bytes = record {
  number = told_number bytes;
  hint = told_hint (slice_index bytes 28) (slice_index bytes 10);
}
