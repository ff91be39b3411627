-- What bytes are read as.
use Rattle.std.specs.Prelude.{◌≡◌, ◌≢◌, ◌<◌, ◌≤◌, ℕ, List, length, slice_index, take, Result, Ok, Err}
use Rattle.dn_seal.specs.{Opening.{Sealing, Format, IsSized, IsOfSuite, IsOfKind, IsOfGame, IsFor, IsTagged, told_game, told_body, told_tag}, Hmac.{tag_of, suite_byte}}
use Rattle.dn_link.specs.{declared.bundle.{BundleFault.{TheVariants.{Short, Long, Suite, Kind, Game, Receiver, Tag, Form}, BundleFault}, Bundle.Bundle}, Text.{IsBundle, sealed_bytes}}

-- the bundle to this player of this game whose datagram the bytes are
pub record IsDatagramOf (sealing : Sealing) (bytes : List ℕ) (bundle : Bundle) : Type 0 where
  pub game : 8 ≤ length sealing.seal.game
  pub fits : IsBundle bundle
  pub short : length bytes ≤ 1200
  pub to : bundle.to ≡ sealing.me
  pub is : bytes ≡ sealed_bytes sealing.seal bundle

-- the datagrams of bundles
abbrev pub bundles : Format
bundles = record { kind = 5; least = 62; most = 1200 }

-- the bundle, or the first fault that the bytes have; a holder of the key alone can cause the last
abbrev pub IsBundledAs : Sealing → List ℕ → Result Bundle BundleFault → Type 0
IsBundledAs sealing bytes (Ok bundle) = IsDatagramOf sealing bytes bundle
IsBundledAs sealing bytes (Err Short) = length bytes < bundles.least
IsBundledAs sealing bytes (Err Long) = bundles.most < length bytes
IsBundledAs sealing bytes (Err Suite) = IsSized bundles bytes × (slice_index bytes 0 ≢ suite_byte sealing.seal.suite)
IsBundledAs sealing bytes (Err Kind) = IsOfSuite bundles sealing bytes × (slice_index bytes 1 ≢ bundles.kind)
IsBundledAs sealing bytes (Err Game) = IsOfKind bundles sealing bytes × (told_game bytes ≢ take 8 sealing.seal.game)
IsBundledAs sealing bytes (Err Receiver) = IsOfGame bundles sealing bytes × (slice_index bytes 11 ≢ sealing.me)
IsBundledAs sealing bytes (Err Tag) =
    IsFor bundles sealing bytes × (told_tag bytes ≢ tag_of sealing.seal.key (told_body bytes))
IsBundledAs sealing bytes (Err Form) =
    IsTagged bundles sealing bytes × ((bundle : Bundle) → ¬ IsDatagramOf sealing bytes bundle)
