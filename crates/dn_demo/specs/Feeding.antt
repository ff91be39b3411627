-- A demo that is fed in pieces: what is kept of the bytes so far, what a feed ends as, and the rows that it
-- tells as it takes bytes.
use Rattle.std.specs.Prelude.{◌≡◌, ◌≢◌, ◌<◌, ◌≤◌, ℕ, ◌+◌, ◌-◌, ◌*◌, Bool, true, false, List, [], ◌∷◌, ◌++◌, length, take, drop, slice_get, Some, Result, Ok, Err, Option, None}
use Rattle.dn_tic.specs.declared.command.Move.{Move}
use Rattle.dn_world.specs.Physics.{Physics}
use Rattle.dn_demo.specs.Layout.{Layout, command_size}
use Rattle.dn_demo.specs.Text.{player_count, marker, header_size}
use Rattle.dn_demo.specs.Places.{start_in, seats_in, place, rows_in, EndsBehind, IsUnmarked, row_in}
use Rattle.dn_demo.specs.Reading.{HasHeader, state_through, Recording, IsReadAs, state_after}
use Rattle.dn_demo.specs.declared.demo.DemoFault.{DemoFault}
use Rattle.dn_demo.specs.declared.demo.DemoFault.TheVariants as read
use Rattle.dn_demo.specs.declared.fed.Fed.{Fed}
use Rattle.dn_demo.specs.declared.fed.FeedFault.{FeedFault}
use Rattle.dn_demo.specs.declared.fed.FeedFault.TheVariants as feed

-- what is kept: how many bytes came, the front of them that is the header, how many whole tics came before
-- the marker, the bytes behind these tics and before the marker, whether the marker came, how many bytes came
-- after it, and the world
pub record Feeding (W : Type 0) : Type 0 where
  pub taken : ℕ
  pub header : List ℕ
  pub tics : ℕ
  pub row : List ℕ
  pub marked : Bool
  pub after : ℕ
  pub world : W

-- what is kept in the fields of a feed: the header and the row are fronts of arrays
abbrev pub feeding_of : {W : Type 0} → (taken : ℕ) (header : List ℕ) (tics kept : ℕ) (row : List ℕ)
    (marked : Bool) (after : ℕ) → W → Feeding W
feeding_of taken header tics kept row marked after world =
    record {
      taken = taken;
      header = take taken header;
      tics = tics;
      row = take kept row;
      marked = marked;
      after = after;
      world = world;
    }

-- how many bytes a row has: a command for each player who is present
abbrev pub row_size : Layout → List Bool → ℕ
row_size layout present = command_size layout * player_count present

-- the front that stands before the marker, and how many bytes stand after it; all bytes, where there is no
-- marker
abbrev pub IsUpToMarker : Layout → List ℕ → Bool → List ℕ → ℕ → Type 0
IsUpToMarker layout bytes true front after =
    (commands : ℕ) × EndsBehind layout bytes commands
    × (front ≡ take (place layout commands) bytes) × (after ≡ length bytes - (place layout commands + 1))
IsUpToMarker layout bytes false front after =
    IsUnmarked layout bytes × (front ≡ bytes) × (after ≡ 0)

-- the state of a world that began as the demo does, and was stepped by the rows of its first tics
abbrev pub state_by : {S : Type 0} → Physics S → Layout → List ℕ → ℕ → S
state_by physics layout bytes tics = state_through physics (start_in bytes) (seats_in bytes)
    (rows_in layout bytes tics)

-- what is kept of the commands in these bytes: the front has `tics` whole tics and less than another, and the
-- world was stepped by them
pub record ShowsRows {S W : Type 0} (state : W → S) (physics : Physics S) (layout : Layout) (bytes : List ℕ)
    (f : Feeding W) : Type 0 where
  pub front : List ℕ
  pub ends : IsUpToMarker layout bytes f.marked front f.after
  pub whole : place layout (player_count (seats_in bytes) * f.tics) ≤ length front
  pub row : f.row ≡ drop (place layout (player_count (seats_in bytes) * f.tics)) front
  pub unfinished : length f.row < row_size layout (seats_in bytes)
  pub world : state f.world ≡ state_by physics layout bytes f.tics

-- what a feed has kept once these bytes came; without a whole header in which somebody plays there are no
-- rows
pub record Shows {S W : Type 0} (state : W → S) (physics : Physics S) (bytes : List ℕ)
    (f : Feeding W) : Type 0 where
  pub taken : f.taken ≡ length bytes
  pub header : f.header ≡ take header_size bytes
  pub rows : (layout : Layout) → HasHeader layout bytes → ShowsRows state physics layout bytes f

-- whatever bytes were shown, they are shown with the piece behind them
abbrev pub Takes : {S W : Type 0} → (W → S) → Physics S → Feeding W → List ℕ → Feeding W → Type 0
Takes state physics old piece new = (bytes : List ℕ) → Shows state physics bytes old
    → Shows state physics (bytes ++ piece) new

-- what holds of every feed: no tic is counted before the header is whole, and the bytes that are kept of a row
-- are fewer than a whole row has
pub record IsKept {W : Type 0} (f : Feeding W) : Type 0 where
  pub played : f.tics ≤ f.taken
  pub behind : f.after ≤ f.taken
  pub blank : f.taken < header_size → (f.tics ≡ 0) × (f.row ≡ []) × (f.marked ≡ false) × (f.after ≡ 0)
  pub unfinished : (layout : Layout) → HasHeader layout f.header
      → length f.row < row_size layout (seats_in f.header)

-- pieces are taken one after the other
abbrev pub TakesAll : {S W : Type 0} → (W → S) → Physics S → Feeding W → List (List ℕ) → Feeding W → Type 0
TakesAll state physics old [] new = old ≡ new
TakesAll {W = W} state physics old (piece ∷ pieces) new =
    (next : Feeding W) × Takes state physics old piece next × TakesAll state physics next pieces new

-- a front of a piece is taken, and the rest of it is left
pub record TakesFront {S W : Type 0} (state : W → S) (physics : Physics S) (old : Feeding W)
    (piece rest : List ℕ) (new : Feeding W) : Type 0 where
  pub front : List ℕ
  pub split : piece ≡ front ++ rest
  pub count : new.taken ≡ old.taken + length front
  pub shown : Takes state physics old front new

-- a world is stepped by `tics` rows at the front of a piece, in which there is no marker, and the rest is left:
-- if it had been stepped by the first `before` rows, it has now been stepped by `tics` more
pub record StepsRows {S W : Type 0} (state : W → S) (physics : Physics S) (layout : Layout) (present : List Bool)
    (old : W) (piece rest : List ℕ) (new : W) : Type 0 where
  pub tics : ℕ
  pub left : rest ≡ drop (row_size layout present * tics) piece
  pub within : row_size layout present * tics ≤ length piece
  pub unmarked : (command : ℕ) → command < player_count present * tics
      → slice_get piece (command_size layout * command) ≢ Some marker
  pub world : (bytes : List ℕ) (before : ℕ) → seats_in bytes ≡ present
      → length bytes ≡ place layout (player_count present * before)
      → state old ≡ state_by physics layout bytes before
      → state new ≡ state_by physics layout (bytes ++ piece) (before + tics)

-- the fault of a reading
abbrev pub fault_of : FeedFault → DemoFault
fault_of feed.Short = read.Short
fault_of feed.Version = read.Version
fault_of feed.NoPlayers = read.NoPlayers
fault_of feed.NoMarker = read.NoMarker

-- what is told of a demo that was fed, with a world in which it was played
pub record Summarizes {S W : Type 0} (state : W → S) (physics : Physics S) (demo : Recording)
    (fed : Fed W) : Type 0 where
  pub version : fed.version ≡ demo.version
  pub start : fed.start ≡ demo.start
  pub view : fed.view ≡ demo.view
  pub present : fed.present ≡ demo.present
  pub tics : fed.tics ≡ length demo.rows
  pub cut : fed.cut ≡ demo.cut
  pub after : fed.after ≡ demo.after
  pub world : state fed.world ≡ state_after physics demo

-- what a feed of these bytes ends as: the demo that they are read as, or the fault of their reading
abbrev pub IsFedAs : {S W : Type 0} → (W → S) → Physics S → List ℕ → Result (Fed W) FeedFault → Type 0
IsFedAs state physics bytes (Ok fed) = (demo : Recording) × IsReadAs bytes (Ok demo)
    × Summarizes state physics demo fed
IsFedAs state physics bytes (Err fault) = IsReadAs bytes (Err (fault_of fault))

-- whatever bytes a feed shows, it ends as what they are read as
abbrev pub EndsAs : {S W : Type 0} → (W → S) → Physics S → Feeding W → Result (Fed W) FeedFault → Type 0
EndsAs state physics f result = (bytes : List ℕ) → Shows state physics bytes f
    → IsFedAs state physics bytes result

-- pieces end as this: a feed that shows no bytes takes them one after the other, and then ends
abbrev pub PiecesEndAs : {S W : Type 0} → (W → S) → Physics S → List (List ℕ) → Result (Fed W) FeedFault
    → Type 0
PiecesEndAs {W = W} state physics pieces result =
    (old : Feeding W) × (new : Feeding W) × Shows state physics [] old × TakesAll state physics old pieces new
    × EndsAs state physics new result

-- two ends are the same: the same fault, or what is told of one demo
abbrev pub IsSameEnd : {S W : Type 0} → (W → S) → Physics S → Result (Fed W) FeedFault
    → Result (Fed W) FeedFault → Type 0
IsSameEnd state physics (Ok one) (Ok other) = (demo : Recording) × Summarizes state physics demo one
    × Summarizes state physics demo other
IsSameEnd state physics (Err one) (Err other) = one ≡ other
IsSameEnd state physics one other = ⊥

-- the row that was told, if one was
abbrev pub told : Option (List (Option Move)) → List (List (Option Move))
told None = []
told (Some row) = row ∷ []

-- a tic was ended and its row is told, or none was
abbrev pub EndsRow : Layout → List ℕ → (old new : ℕ) → Option (List (Option Move)) → Type 0
EndsRow layout bytes old new None = new ≡ old
EndsRow layout bytes old new (Some row) = (new ≡ old + 1) × (row ≡ row_in layout bytes old)

-- these are the rows of `tics` tics; without a whole header in which somebody plays there are none
pub record AreListed (bytes : List ℕ) (tics : ℕ) (rows : List (List (Option Move))) : Type 0 where
  pub some : (layout : Layout) → HasHeader layout bytes → rows ≡ rows_in layout bytes tics
  pub none : ((layout : Layout) → ¬ HasHeader layout bytes) → rows ≡ []

-- appended to the rows told so far, these are the rows of the bytes with the piece behind them
pub record Lists {S W : Type 0} (state : W → S) (physics : Physics S) (old : Feeding W) (piece : List ℕ)
    (new : Feeding W) (rows : List (List (Option Move))) : Type 0 where
  pub tics : new.tics ≡ old.tics + length rows
  pub each : (bytes : List ℕ) (before : List (List (Option Move))) → Shows state physics bytes old
      → AreListed bytes old.tics before → AreListed (bytes ++ piece) new.tics (before ++ rows)

-- the bytes so far end with a tic: no byte of another row came, and no marker
abbrev pub IsBehindTic : {W : Type 0} → Feeding W → Type 0
IsBehindTic f = (f.row ≡ []) × (f.marked ≡ false)

-- a front of a piece is taken, and the rows that end in it are told
pub record TellsFront {S W : Type 0} (state : W → S) (physics : Physics S) (old : Feeding W)
    (piece rest : List ℕ) (new : Feeding W) (rows : List (List (Option Move))) : Type 0 where
  pub front : List ℕ
  pub split : piece ≡ front ++ rest
  pub count : new.taken ≡ old.taken + length front
  pub shown : Takes state physics old front new
  pub listed : Lists state physics old front new rows
