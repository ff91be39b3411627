-- A packet joins the pool, and is read from it.
use Rattle.std.proofs.Common.{◌≡◌, ◌≤◌, ◌<◌, ◌++◌, ◌∷◌, [], ℕ, List, length, take, drop, Some, refl, ap, ◌∙◌, arith, length-append, length-drop, All, slice_get}
use Rattle.std.proofs.Math.Seq.{drop-append_seam, take-length}
use Rattle.std.proofs.lemmas.{Grind.flat_map-append, List.{drop-append-le, take-append-le, append-nil, map_push}, List.Elements.{All-head, All-tail, All-push}}
use Rattle.arrayvec.specs.ArrayVec.{ArrayVec}
use Rattle.dn_lockstep.specs.declared.lockstep.aiming.Aim.{Aim}
use Rattle.dn_game.specs.{declared.flight.Flight.Flight, declared.pool.Record.Record, Pool.{joined, flight_in, flights_in, IsPiece, ArePacked, IsRecordOf}}
use Rattle.dn_game.proofs.Standing.{there_is, all_at}

module _ (bytes more : List ℕ) where
  -- a piece is the same where bytes are appended
  flight_stays : (entry : Record) → IsPiece bytes entry
      → flight_in (bytes ++ more) entry ≡ flight_in bytes entry
  flight_stays entry piece = grind (arith, length-drop, take, drop, drop-append-le, take-append-le)

  flights_stay : (records : List Record) → All (IsPiece bytes) records
      → flights_in (bytes ++ more) records ≡ flights_in bytes records
  flights_stay [] all = refl
  flights_stay (entry ∷ records) all =
      let first = flight_stays entry (All-head (IsPiece bytes) entry records all) in
      let rest = flights_stay records (All-tail (IsPiece bytes) entry records all) in
      λ i. first i ∷ rest i

  pieces_stay : (records : List Record) → All (IsPiece bytes) records → All (IsPiece (bytes ++ more)) records
  pieces_stay records all = grind (arith, length-append)

-- the record of a packet whose datagram is appended
abbrev pub newest : List ℕ → ℕ → ℕ → Aim → List ℕ → Record
newest bytes from to aim datagram =
    record { from = from; to = to; length = length datagram; aim = aim; place = length bytes }

module _ (bytes : List ℕ) (records : List Record) (packed : ArePacked bytes records) (from to : ℕ) (aim : Aim)
    (datagram : List ℕ) (short : length datagram ≤ 104) where
  is_flight : flight_in (bytes ++ datagram) (newest bytes from to aim datagram)
      ≡ record { from = from; to = to; aim = aim; bytes = record { items = datagram } }
  is_flight = grind (arith, drop-append_seam, take-length)

  pub packs_flight : flights_in (bytes ++ datagram) (records ++ newest bytes from to aim datagram ∷ [])
      ≡ flights_in bytes records ++ record { from = from; to = to; aim = aim; bytes = record { items = datagram } } ∷ []
  packs_flight = grind (arith, flights_stay, map_push, is_flight)

  pub packs : ArePacked (bytes ++ datagram) (records ++ newest bytes from to aim datagram ∷ [])
  packs =
      let long = length-append bytes datagram in
      record {
        pieces = All-push (IsPiece (bytes ++ datagram)) records (newest bytes from to aim datagram)
            (pieces_stay bytes datagram records packed.pieces) (record { inside = omega arith; short = short });
        whole = ap joined packs_flight ∙ flat_map-append (λ (f : Flight). f.bytes.items)
            (flights_in bytes records) _ ∙ (λ i. packed.whole i ++ append-nil datagram i);
      }

-- a flight is what its record and its datagram tell
pub is_told : (flight : Flight) (entry : Record) (bytes : ArrayVec ℕ) → IsRecordOf flight entry
    → bytes.items ≡ flight.bytes.items
    → ◌≡◌ {A = Flight} (record { from = entry.from; to = entry.to; aim = entry.aim; bytes = bytes }) flight
is_told flight entry bytes of same =
    λ i. record { from = of.from i; to = of.to i; aim = of.aim i; bytes = record { items = same i } }

-- the receiver of a record is a player's number, if those of all flights are
pub receiver_below : (flights : List Flight) (which count : ℕ) (entry : Record) → which < length flights
    → All (λ f. f.to < count) flights
    → ((flight : Flight) → slice_get flights which ≡ Some flight → IsRecordOf flight entry) → entry.to < count
receiver_below flights which count entry below all told =
    let at = there_is flights which below in
    let P : Flight → Type 0 = λ f. f.to < count in
    let small : at.0.to < count = all_at P flights which at.0 all at.1 in
    let same = (told at.0 at.1).to in
    omega (arith, same, small)
