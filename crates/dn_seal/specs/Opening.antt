-- What bytes are opened as.
use Rattle.std.specs.Prelude.{◌≡◌, ◌≢◌, ◌<◌, ◌≤◌, ℕ, ◌-◌, ◌&&◌, ◌==◌, if◌then◌else◌, List, length, take, drop, slice_index, Option, Some, None, Result, Ok, Err}
use Rattle.std.specs.Int.{w32, from_le_bytes}
use Rattle.dn_seal.specs.declared.opened.Opened.{Opened}
use Rattle.dn_seal.specs.declared.opened.SealFault.{SealFault}
use Rattle.dn_seal.specs.declared.opened.SealFault.TheVariants.{Short, Long, Suite, Kind, Game, Receiver, Tag, Request}
use Rattle.dn_seal.specs.declared.seal.Seal.{Seal}
use Rattle.dn_seal.specs.Hmac.{tag_of, suite_byte}
use Rattle.dn_seal.specs.Envelope.{Letter, IsLetter, envelope}

-- what a player seals and opens by: what all players of the game have in common, and the player's own number
pub record Sealing : Type 0 where
  pub seal : Seal
  pub me : ℕ

-- the letter that an opened envelope was
abbrev pub letter_to : Sealing → Opened → Letter
letter_to sealing opened =
    record {
      suite = sealing.seal.suite;
      game = sealing.seal.game;
      from = opened.from;
      to = sealing.me;
      start = opened.start;
      ask = opened.ask;
      datagram = opened.datagram.items;
    }

-- a kind of sealed bytes: its number, and how many bytes it has at least and at most
pub record Format : Type 0 where
  pub kind : ℕ
  pub least : ℕ
  pub most : ℕ

-- the tests that bytes of a format pass, one after the other
abbrev pub IsSized : Format → List ℕ → Type 0
IsSized format bytes = (format.least ≤ length bytes) × (length bytes ≤ format.most)

abbrev pub IsOfSuite : Format → Sealing → List ℕ → Type 0
IsOfSuite format sealing bytes = IsSized format bytes × (slice_index bytes 0 ≡ suite_byte sealing.seal.suite)

abbrev pub IsOfKind : Format → Sealing → List ℕ → Type 0
IsOfKind format sealing bytes = IsOfSuite format sealing bytes × (slice_index bytes 1 ≡ format.kind)

-- the eight bytes of the game's number
abbrev pub told_game : List ℕ → List ℕ
told_game bytes = take 8 (drop 2 bytes)

abbrev pub IsOfGame : Format → Sealing → List ℕ → Type 0
IsOfGame format sealing bytes = IsOfKind format sealing bytes × (told_game bytes ≡ take 8 sealing.seal.game)

abbrev pub IsFor : Format → Sealing → List ℕ → Type 0
IsFor format sealing bytes = IsOfGame format sealing bytes × (slice_index bytes 11 ≡ sealing.me)

-- all but the last 16 bytes, and those
abbrev pub told_body : List ℕ → List ℕ
told_body bytes = take (length bytes - 16) bytes

abbrev pub told_tag : List ℕ → List ℕ
told_tag bytes = drop (length bytes - 16) bytes

abbrev pub IsTagged : Format → Sealing → List ℕ → Type 0
IsTagged format sealing bytes =
    IsFor format sealing bytes × (told_tag bytes ≡ tag_of sealing.seal.key (told_body bytes))

-- an envelope of one datagram
abbrev pub envelopes : Format
envelopes = record { kind = 1; least = 37; most = 141 }

-- the byte that tells whether there is a request, and its tic
abbrev pub told_tic : List ℕ → ℕ
told_tic bytes = from_le_bytes w32 (take 4 (drop 17 bytes))

-- the request of this byte and tic: there is one at 1, and none at 0, where the tic is 0
abbrev pub ask_in : ℕ → ℕ → Option (Option ℕ)
ask_in flag tic = if flag == 1 then Some (Some tic) else (if flag == 0 && tic == 0 then Some None else None)

-- the letter to this player of this game whose envelope the bytes are, or the first fault that they have
abbrev pub IsOpenedAs : Sealing → List ℕ → Result Opened SealFault → Type 0
IsOpenedAs sealing bytes (Ok opened) =
    IsLetter (letter_to sealing opened) × (bytes ≡ envelope sealing.seal.key (letter_to sealing opened))
IsOpenedAs sealing bytes (Err Short) = length bytes < envelopes.least
IsOpenedAs sealing bytes (Err Long) = envelopes.most < length bytes
IsOpenedAs sealing bytes (Err Suite) = IsSized envelopes bytes × (slice_index bytes 0 ≢ suite_byte sealing.seal.suite)
IsOpenedAs sealing bytes (Err Kind) = IsOfSuite envelopes sealing bytes × (slice_index bytes 1 ≢ envelopes.kind)
IsOpenedAs sealing bytes (Err Game) = IsOfKind envelopes sealing bytes × (told_game bytes ≢ take 8 sealing.seal.game)
IsOpenedAs sealing bytes (Err Receiver) = IsOfGame envelopes sealing bytes × (slice_index bytes 11 ≢ sealing.me)
IsOpenedAs sealing bytes (Err Tag) =
    IsFor envelopes sealing bytes × (told_tag bytes ≢ tag_of sealing.seal.key (told_body bytes))
IsOpenedAs sealing bytes (Err Request) =
    IsTagged envelopes sealing bytes × (ask_in (slice_index bytes 16) (told_tic bytes) ≡ None)
