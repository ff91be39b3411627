-- Demos that are the texts of the rows which one list of inputs makes agree.
use Rattle.std.proofs.Common.{◌≡◌, ◌<◌, ◌≤◌, ◌+◌, ◌*◌, ℕ, Bool, List, arith, zero, suc, ◌/◌, true, true≢false, [], ◌∷◌, ◌++◌, length, map, take, drop, get_or, Option, Some, None, is_some, refl, ap, sym, ◌∙◌, length-append, append_assoc, cond, pos, inl, inr, ltb, ◌≢◌, ◌⊎◌, if◌then◌else◌, slice_get, ◌↔◌}
use Rattle.std.proofs.lemmas.List.FromFn.{get_or-map-range_with_len, length-map-range_with_len, take-map-range_with_len}
use Rattle.std.proofs.lemmas.List.{drop-drop, get_or-take, take-append-drop, Folds.length-prefix_len}
use Rattle.std.proofs.{lemmas.Bool.{cases_lt, lt-ltb, lt-leb, leb-false}, Math.Seq.{drop-append-add, take-append_seam}}
use Rattle.std.proofs.{lemmas.{List.Sums.prefix_len_stops, Grind.flat_map-append}, Math.Nat.mul-div_cancel_left}
use Rattle.dn_demo.specs.{Text.{player_count, header_size, demo_text, marker, row_bytes, commands_of}, Layout.long_tics}
use Rattle.dn_demo.specs.{Layout.{command_size, spell}, Places.{place, commands_in, command_in}, Recorded.recorded_size}
use Rattle.dn_lockstep.specs.{Rows.seats_of, Contents.Contents, Told.HasStarted}
use Rattle.dn_lockstep.specs.Agreed.{rows_to, rows_made, move_made, DemosAgree, is_closed, tics_in, used_in, recorded}
use Rattle.std.specs.{List.prefix_len, Option.option_map}
use Rattle.dn_tic.specs.{declared.command.{Move.Move, TicCmd.TicCmd}, Command.used, Inputs.made_by}
use Rattle.dn_setup.specs.{declared.settings.Start.Start, Settings.{Settings, start_of}}
use Rattle.dn_demo.proofs.Text.{long_tics_sound, length-spell, length-row_bytes}
use Rattle.dn_machine.specs.{Worlds.{Inputs, if_made, row_by_inputs}, Node.is_whole, Limits.row_of, Promise.IsPrefixOf}
use Rattle.dn_machine.proofs.Demos.{front_passes, front_short, if_made_is, seat_is, whole_has, front_prefix}
use Rattle.dn_machine.proofs.Truth.{lowest_none}
use Rattle.dn_lockstep.proofs.Seats.{whole_each, seats_whole}

-- How long the rows of a demo are, and the commands in the text of a demo whose rows lack nobody.

pub row_length : (seats : List Bool) (players : ℕ) → seats ≡ seats_of players → players ≤ 4
    → command_size long_tics * player_count seats ≡ command_size long_tics * players
row_length seats players f few = grind arith

-- a demo with the rows of at most this many tics, after one row more
pub size_more : (old new row players ran : ℕ) → new ≡ old + row → row ≡ command_size long_tics * players
    → old ≤ place long_tics (players * ran) → new ≤ place long_tics (players * (ran + 1))
size_more old new row players ran is long size = grind arith

-- a row fits while fewer tics were run than fit
pub row_fits : (limit players capacity ran size row : ℕ) → recorded_size players capacity ≤ limit → ran < capacity
    → size ≤ place long_tics (players * ran) → row ≡ command_size long_tics * players → size + row + 1 ≤ limit
row_fits limit players capacity ran size row room below long e = grind arith

-- each row has a move of every player, who are no more than four
abbrev pub AreFull : ℕ → List (List (Option Move)) → Type 0
AreFull players rows =
    (k : ℕ) → k < length rows → (players ≤ 4) × (map is_some (get_or rows k []) ≡ seats_of players)

-- a player's command in a row, behind those of the players before
command_at : (row : List (Option Move)) (player : ℕ) (m : Move) (rest : List ℕ)
    → ((i : ℕ) → i < player → is_some (get_or row i None) ≡ true)
    → get_or row player None ≡ Some m → take 5 (drop (5 * player) (row_bytes long_tics row ++ rest))
    ≡ spell long_tics m
command_at [] player m rest before e = absurd (cc)
command_at (step ∷ row) zero m rest before e = grind (arith, append_assoc, length-spell, take-append_seam)
command_at (None ∷ row) (suc player) m rest before e = absurd (true≢false (sym (before 0 (omega arith))))
command_at (Some x ∷ row) (suc player) m rest before e =
    let size = length-spell long_tics x long_tics_sound in
    let on : 5 * suc player ≡ length (spell long_tics x) + 5 * player = omega arith in
    rw (append_assoc, on, drop-append-add) (command_at row player m rest (λ i l. before (suc i) (omega arith)) e)

module _ (players : ℕ) where
  row_size : (row : List (Option Move)) → (players ≤ 4) × (map is_some row ≡ seats_of players)
      → length (row_bytes long_tics row) ≡ 5 * players
  row_size row (few, full) = length-row_bytes long_tics (seats_of players) row long_tics_sound full
      ∙ row_length (seats_of players) players refl few

  pub rows_size : (rows : List (List (Option Move))) → AreFull players rows
      → length (commands_of long_tics rows) ≡ 5 * (players * length rows)
  rows_size [] full = omega arith
  rows_size (row ∷ rows) full =
      let one = row_size row (full 0 (omega arith)) in
      let rest = rows_size rows (λ k l. full (suc k) (omega arith)) in
      omega (arith, length-append (row_bytes long_tics row) (commands_of long_tics rows), one, rest)

  -- a tic's commands stand behind those of the tics before
  behind_rows : (rows : List (List (Option Move))) (tic k : ℕ) (tail : List ℕ) → AreFull players rows
      → tic < length rows
      → (rest : List ℕ)
      × (drop (5 * (players * tic + k)) (commands_of long_tics rows ++ tail)
      ≡ drop (5 * k) (row_bytes long_tics (get_or rows tic []) ++ rest))
  behind_rows [] tic k tail full l = absurd (omega arith)
  behind_rows (row ∷ rows) zero k tail full l =
      let none : 5 * (players * zero + k) ≡ 5 * k = omega arith in
      (commands_of long_tics rows ++ tail, rw (append_assoc, none))
  behind_rows (row ∷ rows) (suc tic) k tail full l =
      let next = behind_rows rows tic k tail (λ i m. full (suc i) (omega arith)) (omega arith) in
      let one = row_size row (full 0 (omega arith)) in
      let on : 5 * (players * suc tic + k) ≡ length (row_bytes long_tics row) + 5 * (players * tic + k) =
      omega arith in
      (next.0, rw (append_assoc, on, drop-append-add) next.1)

  module _ (start : Start) (view : ℕ) (rows : List (List (Option Move))) (closed : Bool)
      (full : AreFull players rows) where
    abbrev text : List ℕ
    text = demo_text long_tics start view (seats_of players) rows closed

    abbrev tail : List ℕ
    tail = if closed then marker ∷ [] else []

    behind_header : drop header_size text ≡ commands_of long_tics rows ++ tail
    unfolding demo_text
    behind_header = refl

    -- how many commands there are
    pub commands_of_text : commands_in long_tics text ≡ players * length rows
    unfolding demo_text
    commands_of_text = grind (arith, rows_size, length-append)

    pub tics_of_text : 0 < players → commands_in long_tics text / players ≡ length rows
    tics_of_text some = ap (λ (n : ℕ). n / players) commands_of_text ∙ mul-div_cancel_left (length rows) some

    -- which they are
    pub recorded_in_text : take (command_size long_tics * commands_in long_tics text) (drop header_size text)
        ≡ commands_of long_tics rows
    recorded_in_text =
        let count : 5 * commands_in long_tics text ≡ length (commands_of long_tics rows) =
        ap (λ (n : ℕ). 5 * n) commands_of_text ∙ sym (rows_size rows full) in
        rw (count, behind_header) (take-append_seam (commands_of long_tics rows) tail)

    -- and that of a player in a tic
    pub command_in_text : (tic player : ℕ) (m : Move) → tic < length rows
        → ((i : ℕ) → i < player → is_some (get_or (get_or rows tic []) i None) ≡ true)
        → get_or (get_or rows tic []) player None ≡ Some m
        → command_in long_tics text (players * tic + player) ≡ spell long_tics m
    command_in_text tic player m there before e =
        let at = behind_rows rows tic player tail full there in
        ap (take 5) (
        sym (drop-drop (5 * (players * tic + player)) header_size text)
        ∙ ap (drop (5 * (players * tic + player))) behind_header ∙ at.1)
        ∙ command_at (get_or rows tic []) player m at.0 before e

-- the headers of two texts differ in the view alone
pub headers_same : (start : Start) (view other players : ℕ) (rows more : List (List (Option Move)))
    (closed shut : Bool) → take 8 (demo_text long_tics start view (seats_of players) rows closed) ++ take 4
    (drop 9 (demo_text long_tics start view (seats_of players) rows closed))
    ≡ take 8 (demo_text long_tics start other (seats_of players) more shut) ++ take 4
    (drop 9 (demo_text long_tics start other (seats_of players) more shut))
unfolding demo_text
headers_same start view other players rows more closed shut = refl

pub view_of_text : (start : Start) (view players : ℕ) (rows : List (List (Option Move))) (closed : Bool)
    → slice_get (demo_text long_tics start view (seats_of players) rows closed) 8 ≡ Some view
unfolding demo_text
view_of_text start view players rows closed = refl

-- The rows that inputs make, up to the first that lacks a player.

-- the move at a player's seat is that of the player's command
pub seat_at : (players : ℕ) (f : ℕ → Option TicCmd) (p : ℕ) → p < 4
    → get_or (row_of players f) p None ≡ cond (ltb p players) (option_map used (f p)) None
unfolding row_of
seat_at players f zero s = refl
seat_at players f (suc zero) s = refl
seat_at players f (suc (suc zero)) s = refl
seat_at players f (suc (suc (suc zero))) s = refl
seat_at players f (suc (suc (suc (suc p)))) s = absurd (omega arith)

seat_move : (players : ℕ) (f : ℕ → Option TicCmd) (p : ℕ) (c : TicCmd) → p < players → p < 4 → f p ≡ Some c
    → get_or (row_of players f) p None ≡ Some (used c)
seat_move players f p c l s e = grind (arith, seat_at, e)

module _ (players : ℕ) (inputs : Inputs) where
  abbrev command : ℕ → ℕ → TicCmd
  command player tic = made_by (take (tic + 1) (inputs player)) (pos 0)

  abbrev row : ℕ → List (Option Move)
  row = row_by_inputs players inputs

  abbrev seats : ℕ → ℕ → Option TicCmd
  seats tic player = if_made (inputs player) tic (command player tic)

  -- a whole row is one that every player made a command for
  whole_made : (tic : ℕ) → is_whole players (row tic) ≡ true → (p : ℕ) → p < players → tic < length (inputs p)
  whole_made tic e p l =
      leb-false (length (inputs p)) tic (sym (if_made_is (inputs p) tic (command p tic))
      ∙ whole_has players (seats tic) e p l)

  made_whole : (tic : ℕ) → players ≤ 4 → ((p : ℕ) → p < players → tic < length (inputs p))
      → is_whole players (row tic) ≡ true
  made_whole tic few made = grind (arith, lowest_none, seat_is, if_made_is, lt-leb)

  -- no row has more than four seats
  whole_few : (tic : ℕ) → is_whole players (row tic) ≡ true → players ≤ 4
  unfolding row_of
  whole_few tic e = elim (cases_lt 4 players) [
    | inl more ↦ absurd (true≢false (whole_each players (row tic) e 4 (lt-ltb 4 players more)))
    | inr few ↦ few
  ]

  module _ (tics : ℕ) where
    abbrev rows : List (List (Option Move))
    rows = rows_made players inputs tics

    abbrev all : List (List (Option Move))
    all = rows_to players inputs tics

    pub no_more : length rows ≤ tics
    no_more = grind (arith, front_short, length-map-range_with_len)

    all_at : (tic : ℕ) → tic < tics → get_or all tic [] ≡ row tic
    all_at tic early = get_or-map-range_with_len row 0 tics tic tic [] early (omega arith)

    row_at : (tic : ℕ) → tic < length rows → get_or rows tic [] ≡ row tic
    row_at tic l = grind (arith, length-prefix_len, get_or-take, all_at, no_more)

    whole_at : (tic : ℕ) → tic < length rows → is_whole players (row tic) ≡ true
    whole_at tic l =
        grind (arith, all_at tic (omega (arith, no_more)), front_passes (is_whole players) all tic [] l)

    -- each of the rows has a move of every player
    pub rows_full : AreFull players rows
    rows_full tic l = grind (arith, whole_few, whole_at, row_at, seats_whole)

    -- that which the player's inputs make
    pub move_there : (tic player : ℕ) → tic < length rows → player < players
        → get_or (get_or rows tic []) player None ≡ Some (move_made inputs player tic)
    move_there tic player l below =
        let whole = whole_at tic l in
        grind (arith, whole_few tic whole, whole_made tic whole player below, row_at tic l, seat_move)

    -- they are those of the tics for which every player made a command
    pub made_by_all : (tic : ℕ) → tic < length rows → (p : ℕ) → p < players → tic < length (inputs p)
    made_by_all tic l = whole_made tic (whole_at tic l)

    pub is_made : players ≤ 4 → (tic : ℕ) → tic < tics
        → ((p : ℕ) → p < players → tic < length (inputs p)) → tic < length rows
    is_made few tic early made = elim (cases_lt tic (length rows)) [
      | inl there ↦ there
      | inr past ↦
          let long = length-prefix_len (is_whole players) all in
          let many = length-map-range_with_len row 0 tics in
          let first = prefix_len (is_whole players) all in
          let stops = prefix_len_stops (is_whole players) all [] (omega arith) in
          let read = all_at first (omega arith) in
          let whole = made_whole first few (λ p l. let m = made p l in omega arith) in
          absurd (true≢false (sym whole ∙ ap (is_whole players) (sym read) ∙ stops))
    ]

-- Two demos of one list of inputs.

-- a list of rows that goes on has commands that go on
pub commands_prefix : (rows more : List (List (Option Move))) → IsPrefixOf rows more
    → IsPrefixOf (commands_of long_tics rows) (commands_of long_tics more)
commands_prefix rows more (rest, whole) = (
  commands_of long_tics rest,
  sym (flat_map-append (row_bytes long_tics) rows rest) ∙ ap (commands_of long_tics) whole,
)

-- lists that are equal to two of which one is a prefix of the other
pub prefix_same : {A : Type 0} (xs ys one other : List A) → xs ≡ one → ys ≡ other → IsPrefixOf one other
    → IsPrefixOf xs ys
prefix_same xs ys one other e f is = rw (e, f) is

-- a demo is empty or is not
pub begun_or : (bytes : List ℕ) → (bytes ≢ []) ⊎ (bytes ≡ [])
begun_or [] = inr refl
begun_or (byte ∷ bytes) = inl (λ e. absurd (cc))

module _ (players : ℕ) (settings : Settings) (inputs : Inputs) (locksteps : ℕ → Contents)
    (texts : (p : ℕ) → p < players → HasStarted (locksteps p)
    → (locksteps p).demo.bytes ≡ demo_text long_tics (start_of settings) p (seats_of players)
    (rows_made players inputs (locksteps p).ran) (is_closed players inputs (locksteps p)))
    (several : (p : ℕ) → p < players → (locksteps p).players ≡ players) where
  -- fewer tics are a prefix of more
  rows_prefix : (tics more : ℕ) → tics ≤ more
      → IsPrefixOf (rows_made players inputs tics) (rows_made players inputs more)
  rows_prefix tics more fewer =
      let all = rows_to players inputs more in
      front_prefix (is_whole players) (rows_to players inputs tics) all (
        drop tics all,
        ap (λ (xs : List (List (Option Move))). xs ++ drop tics all)
            (sym (take-map-range_with_len (row_by_inputs players inputs) 0 more tics fewer))
            ∙ take-append-drop tics all,
      )

  none_recorded : (n : Contents) → n.demo.bytes ≡ [] → recorded n ≡ []
  none_recorded n none = grind arith

  module _ (p : ℕ) (below : p < players) where
    abbrev ran : ℕ
    ran = (locksteps p).ran

    tics_are : HasStarted (locksteps p) → tics_in (locksteps p) ≡ length (rows_made players inputs ran)
    tics_are started =
        (λ k. commands_in long_tics (texts p below started k) / several p below k)
        ∙ tics_of_text players _ _ _ _ (rows_full players inputs ran) (omega arith)

    recorded_are : HasStarted (locksteps p)
        → recorded (locksteps p) ≡ commands_of long_tics (rows_made players inputs ran)
    recorded_are started =
        ap (λ (bytes : List ℕ). take (command_size long_tics * commands_in long_tics bytes)
        (drop header_size bytes)) (texts p below started)
        ∙ recorded_in_text players _ _ _ _ (rows_full players inputs ran)

    used_are : (tic player : ℕ) → tic < tics_in (locksteps p) → player < players
        → used_in (locksteps p) tic player ≡ spell long_tics (move_made inputs player tic)
    used_are tic player there its = grind (arith, begun_or, tics_are, command_in_text, rows_full, move_there)

    tics_made : (tic : ℕ) → players ≤ 4 → HasStarted (locksteps p) → (tic < tics_in (locksteps p))
        ↔ ((tic < ran) × ((player : ℕ) → player < players → tic < length (inputs player)))
    tics_made tic few started =
        let count = tics_are started in
        let short = no_more players inputs ran in (
          (λ there.
              let inside : tic < length (rows_made players inputs ran) = omega arith in
              (omega arith, made_by_all players inputs ran tic inside)),
          (λ made. let inside = is_made players inputs ran few tic made.0 made.1 in omega arith),
        )

  two_prefixes : (p q : ℕ) → p < players → q < players
      → IsPrefixOf (recorded (locksteps p)) (recorded (locksteps q))
      ⊎ IsPrefixOf (recorded (locksteps q)) (recorded (locksteps p))
  two_prefixes p q l m = elim (begun_or (locksteps p).demo.bytes) [
    | inr none ↦ inl (
      recorded (locksteps q),
      ap (λ (xs : List ℕ). xs ++ recorded (locksteps q)) (none_recorded (locksteps p) none),
    )
    | inl started ↦ elim (begun_or (locksteps q).demo.bytes) [
      | inr none ↦ inr (
        recorded (locksteps p),
        ap (λ (xs : List ℕ). xs ++ recorded (locksteps p)) (none_recorded (locksteps q) none),
      )
      | inl other ↦ elim (cases_lt (ran p l) (ran q m)) [
        | inl less ↦
            inl (prefix_same _ _ _ _ (recorded_are p l started) (recorded_are q m other)
            (commands_prefix _ _ (rows_prefix (ran p l) (ran q m) (omega arith))))
        | inr more ↦
            inr (prefix_same _ _ _ _ (recorded_are q m other) (recorded_are p l started)
            (commands_prefix _ _ (rows_prefix (ran q m) (ran p l) more)))
      ]
    ]
  ]

  pub demos_of : DemosAgree players settings inputs locksteps
  demos_of = record {
    texts = texts;
    tics = λ p tic few below started. tics_made p below tic few started;
    commands = λ p tic player below there its. used_are p below tic player there its;
    same = grind (arith, used_are);
    prefixes = two_prefixes;
    headers = grind (arith, headers_same);
    views = grind (arith, view_of_text);
  }
