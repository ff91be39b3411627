-- What a call does to a handle and to what it holds, whatever that is.
use Rattle.std.specs.Prelude.{◌≡◌, ◌⊎◌, ⊤, ℕ, List, Option, Some, None, Result, Ok, Err}
use Rattle.std.specs.Option.{option_map}
use Rattle.arrayvec.specs.ArrayVec.{ArrayVec}
use Rattle.dn_demo.specs.Reading.{Recording}
use Rattle.dn_lockstep.specs.Contents.{Contents}
use Rattle.dn_packet.specs.Written.{IsWritten}
use Rattle.dn_session.specs.Session.{Meeting}
use Rattle.zirmegat.specs.declared.fault.Fault.{Fault}
use Rattle.zirmegat.specs.declared.handle.Handle.{Handle}
use Rattle.zirmegat.specs.declared.held.Held.{Held}
use Rattle.zirmegat.specs.declared.slot.Slot.{Slot}
use Rattle.zirmegat.specs.{Faults.fault_code, Joined.Joined, Kinds.contents_in, Kinds.demo_in, Kinds.joined_in, Kinds.meeting_in}

-- what a handle holds, by its kind
abbrev pub session_of : Handle → Option Meeting
session_of h = meeting_in h.held

abbrev pub demo_of : Handle → Option Recording
demo_of h = demo_in h.held

abbrev pub lockstep_of : Handle → Option Contents
lockstep_of h = contents_in h.held

abbrev pub link_of : Handle → Option Joined
link_of h = joined_in h.held

-- what is held where C keeps a pointer to a handle
abbrev pub held_at : Slot → Option Held
held_at s = option_map (λ h. h.held) s.handle

abbrev pub CallsBy : {A : Type 0} → Option A → Option A → Handle → Handle → (A → A → Type 0) → Type 0 → Type 0
CallsBy {A} (Some n) after old new Step Other = (k : A) × (after ≡ Some k) × Step n k
CallsBy None after old new Step Other = (new ≡ old) × Other

-- what a handle of the kind holds takes a step; a handle of another stays as it is, and this is so
abbrev pub Calls : {A : Type 0} → (Handle → Option A) → Handle → Handle → (A → A → Type 0) → Type 0 → Type 0
Calls of old new Step Other = CallsBy (of old) (of new) old new Step Other

-- the same where what it holds stays as it is
abbrev pub Reads : {A : Type 0} → (Handle → Option A) → Handle → Handle → (A → Type 0) → Type 0 → Type 0
Reads of old new IsAnswer Other = Calls of old new (λ n k. (k ≡ n) × IsAnswer n) Other

abbrev pub WhenBy : {A : Type 0} → Option A → Option A → (A → A → Type 0) → Type 0
WhenBy {A} (Some n) after Step = (k : A) × (after ≡ Some k) × Step n k
WhenBy None after Step = ⊤

-- what a handle of the kind holds takes a step
abbrev pub When : {A : Type 0} → (Handle → Option A) → Handle → Handle → (A → A → Type 0) → Type 0
When of old new Step = WhenBy (of old) (of new) Step

-- what was made is kept, or there is no memory for it, or none was made
abbrev pub IsKept : {A : Type 0} → (A → Held) → Result A Fault → ℕ → Option Held → Type 0
IsKept kind (Ok value) code kept = ((code ≡ 0) × (kept ≡ Some (kind value))) ⊎ ((code ≡ 3) × (kept ≡ None))
IsKept kind (Err fault) code kept = (code ≡ fault_code fault) × (kept ≡ None)

-- bytes are written to the front of a room, or none are, and the room stays as it was
abbrev pub IsPut : Option (ArrayVec ℕ) → List ℕ → List ℕ → ℕ → Type 0
IsPut (Some bytes) room written count = IsWritten bytes.items room written count
IsPut None room written count = (count ≡ 0) × (written ≡ room)
