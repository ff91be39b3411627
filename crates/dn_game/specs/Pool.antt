-- The pool of a game: the bytes of all packets in one list, and a record of each.
use Rattle.std.specs.Prelude.{◌≡◌, ◌<◌, ◌≤◌, ◌⊎◌, ℕ, ◌+◌, ◌*◌, max, nat_le, if◌then◌else◌, List, length, map, take, drop, All}
use Rattle.std.specs.List.{flat_map}
use Rattle.dn_game.specs.declared.flight.Flight.{Flight}
use Rattle.dn_game.specs.declared.pool.Record.{Record}

-- the bytes of all flights, in order of sending
abbrev pub joined : List Flight → List ℕ
joined flights = flat_map (λ flight. flight.bytes.items) flights

-- how many bytes and how many records there is memory for
pub record Room : Type 0 where
  pub bytes : ℕ
  pub records : ℕ

-- how much room a list of this many has once it was asked to take `more`: as before where they fit, and else
-- for twice as many as there are, or just for these
abbrev pub grown : (count more room : ℕ) → ℕ
grown count more room = if nat_le (count + more) room then room else count + max count more

-- room that has grown for one more packet, or is as before
pub record HasGrown (flights : List Flight) (old new : Room) : Type 0 where
  pub bytes : (new.bytes ≡ old.bytes) ⊎ (new.bytes ≡ grown (length (joined flights)) 104 old.bytes)
  pub records : (new.records ≡ old.records) ⊎ (new.records ≡ grown (length flights) 1 old.records)

-- room for no more than twice the packets that there are, and one
pub record IsWithinTwice (flights : List Flight) (room : Room) : Type 0 where
  pub bytes : room.bytes ≤ 2 * length (joined flights) + 104
  pub records : room.records ≤ 2 * length flights + 1

-- no memory for one more packet, however long it is: for 104 more bytes, or for one more record
abbrev pub LacksRoom : Room → List Flight → Type 0
LacksRoom room flights =
    (room.bytes < length (joined flights) + 104) ⊎ (room.records < length flights + 1)

-- what a pool holds
pub record Pool : Type 0 where
  -- every packet that was sent, in order
  pub flights : List Flight
  -- how many more bytes and records it takes before it grows
  pub free_bytes : ℕ
  pub free_records : ℕ
  -- how many bytes and records it has memory for
  pub room : Room

-- one more packet needs no memory, however long it is
pub record HasRoom (pool : Pool) : Type 0 where
  pub bytes : 104 ≤ pool.free_bytes
  pub records : 1 ≤ pool.free_records

-- the flight of a record: its numbers, and its piece of the bytes
abbrev pub flight_in : List ℕ → Record → Flight
flight_in bytes entry =
    record {
      from = entry.from;
      to = entry.to;
      aim = entry.aim;
      bytes = record { items = take entry.length (drop entry.place bytes) };
    }

abbrev pub flights_in : List ℕ → List Record → List Flight
flights_in bytes records = map (flight_in bytes) records

-- a piece of at most 104 bytes
pub record IsPiece (bytes : List ℕ) (piece : Record) : Type 0 where
  pub inside : piece.place + piece.length ≤ length bytes
  pub short : piece.length ≤ 104

-- each record has a piece of the bytes, and the pieces in their order are all of them
pub record ArePacked (bytes : List ℕ) (records : List Record) : Type 0 where
  pub pieces : All (IsPiece bytes) records
  pub whole : joined (flights_in bytes records) ≡ bytes

-- a record has the numbers of a flight
pub record IsRecordOf (flight : Flight) (entry : Record) : Type 0 where
  pub from : entry.from ≡ flight.from
  pub to : entry.to ≡ flight.to
  pub aim : entry.aim ≡ flight.aim
