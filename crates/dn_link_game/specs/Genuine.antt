-- What is asked of the network, and of whoever hands in bytes: what a player opens was given in this game.
use Rattle.std.specs.Prelude.{◌≡◌, ℕ, ◌+◌, Some, List, [], ◌∷◌, take, slice_get, if◌then◌else◌, Result, Ok, Bool, false}
use Rattle.arrayvec.specs.ArrayVec.{ArrayVec}
use Rattle.dn_open.specs.Sealed.{sealing_of}
use Rattle.dn_seal.specs.declared.seal.Seal.{Seal}
use Rattle.dn_link.specs.declared.bundle.Bundle.{Bundle}
use Rattle.dn_link.specs.Reading.{IsDatagramOf}
use Rattle.dn_link_game.specs.Playing.{gives}
use Rattle.dn_link_game.specs.declared.calls.{LinkCall.TheVariants.Receive, LinkDone.LinkDone, LinkEvent.{LinkEvent, TheVariants.Call}, LinkRefusal.LinkRefusal}

-- a datagram that was given has these bytes
abbrev pub WasGiven : List (ArrayVec ℕ) → List ℕ → Type 0
WasGiven given bytes = (which : ℕ) × (one : ArrayVec ℕ) × (slice_get given which ≡ Some one) × (bytes ≡ one.items)

-- If a player with this seal opens the bytes as a datagram, then a link of this game gave them before. So no tag
-- was forged, and nobody else seals under this game's key
abbrev pub IsGenuine : Seal → List (ArrayVec ℕ) → ℕ → List ℕ → Type 0
IsGenuine seal given player bytes =
    (bundle : Bundle) → IsDatagramOf (sealing_of seal player) bytes bundle → WasGiven given bytes

-- bytes that come in are so; nothing is asked of any other event. What was given to anybody may come to anybody, at
-- any time and more than once
abbrev pub IsGenuineEvent : Seal → List (ArrayVec ℕ) → LinkEvent → Type 0
IsGenuineEvent seal given (Call player (Receive bytes)) = IsGenuine seal given player bytes.now
IsGenuineEvent seal given event = Unit {0}

-- an answer tells that a datagram was given
abbrev pub was_given : Result LinkDone LinkRefusal → Bool
was_given (Ok done) = gives done
was_given refused = false

-- how many datagrams these answers tell to have been given
abbrev pub given_by : List (Result LinkDone LinkRefusal) → ℕ
given_by [] = 0
given_by (answer ∷ answers) = (if was_given answer then 1 else 0) + given_by answers

-- each event is so, by what was given before it: as many of these datagrams as the earlier answers tell
abbrev pub AreGenuine : Seal → List (ArrayVec ℕ) → List LinkEvent → List (Result LinkDone LinkRefusal) → Type 0
AreGenuine seal given events answers =
    (k : ℕ) (event : LinkEvent) → slice_get events k ≡ Some event
    → IsGenuineEvent seal (take (given_by (take k answers)) given) event
