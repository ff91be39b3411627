-- What holds between the locksteps of one game, said of what each tells of itself, and of the bytes of
-- their demos.
use Rattle.std.specs.Prelude.{◌≡◌, ◌<◌, ◌≤◌, ◌⊎◌, ◌↔◌, ℕ, ◌+◌, ◌*◌, ◌/◌, Bool, ◌||◌, List, ◌++◌, length, map, take, drop, slice_get, Option, Some, nat_lt, pos, ◌≢◌, min, true, false, Ok, ℤ, unwrap_or}
use Rattle.std.specs.List.{range_with_len, take_while}
use Rattle.dn_tic.specs.Command.{used}
use Rattle.dn_tic.specs.Inputs.{made_by}
use Rattle.dn_tic.specs.declared.command.Move.{Move}
use Rattle.dn_tic.specs.declared.command.TicCmd.{TicCmd}
use Rattle.dn_setup.specs.Settings.{Settings, start_of}
use Rattle.dn_demo.specs.Layout.{long_tics, command_size, spell}
use Rattle.dn_demo.specs.Places.{commands_in, command_in}
use Rattle.dn_demo.specs.Reading.{Recording, written_demo, IsReadAs}
use Rattle.dn_demo.specs.Text.{header_size, demo_text}
use Rattle.dn_machine.specs.Node.{is_ended, is_whole}
use Rattle.dn_machine.specs.Promise.{IsPrefixOf}
use Rattle.dn_machine.specs.Worlds.{Inputs, row_by_inputs}
use Rattle.dn_machine.specs.declared.answers.Cause.TheVariants as Cause
use Rattle.dn_machine.specs.declared.answers.Phase.TheVariants.{Playing, Ended}
use Rattle.dn_machine.specs.Limits.{Limits}
use Rattle.dn_machine.specs.Running.{tic_limit}
use Rattle.dn_lockstep.specs.Contents.{Contents, end_in}
use Rattle.dn_lockstep.specs.Rows.{seats_of}
use Rattle.dn_lockstep.specs.Told.{HasStarted, got, made, command_told}

-- What the demos have in common, by their bytes.

-- the move that a player's inputs make for a tic
abbrev pub move_made : Inputs → (player tic : ℕ) → Move
move_made inputs player tic = used (made_by (take (tic + 1) (inputs player)) (pos 0))

-- the rows of the moves that these inputs make, one for each of the first `tics` tics
abbrev pub rows_to : ℕ → Inputs → ℕ → List (List (Option Move))
rows_to players inputs tics = map (row_by_inputs players inputs) (range_with_len 0 tics)

-- and those of them before the first that lacks a player
abbrev pub rows_made : ℕ → Inputs → ℕ → List (List (Option Move))
rows_made players inputs tics = take_while (is_whole players) (rows_to players inputs tics)

-- what the demo of those rows is read as, where player `view` recorded it
abbrev pub demo_made : (players : ℕ) → Settings → Inputs → (view tics : ℕ) → Recording
demo_made players settings inputs view tics =
    written_demo long_tics (start_of settings) view (seats_of players) (rows_made players inputs tics)

-- a demo is closed once its lockstep has run a tic without some player, or has ended
abbrev pub is_closed : ℕ → Inputs → Contents → Bool
is_closed players inputs n = is_ended n.phase || nat_lt (length (rows_made players inputs n.ran)) n.ran

-- how many tics a demo has: a tic has a command of each player
abbrev pub tics_in : Contents → ℕ
tics_in n = commands_in long_tics n.demo.bytes / n.players

-- the command that a lockstep used of a player in a tic, as its demo has it
abbrev pub used_in : Contents → (tic player : ℕ) → List ℕ
used_in n tic player = command_in long_tics n.demo.bytes (n.players * tic + player)

-- the commands of a demo: what stands behind the header in whole commands, so without the marker of a closed
-- one
abbrev pub recorded_in : List ℕ → List ℕ
recorded_in demo = take (command_size long_tics * commands_in long_tics demo) (drop header_size demo)

abbrev pub recorded : Contents → List ℕ
recorded n = recorded_in n.demo.bytes

-- the header of a demo without its ninth byte, the view
abbrev pub header_but_view : Contents → List ℕ
header_but_view n = take 8 n.demo.bytes ++ take 4 (drop 9 n.demo.bytes)

-- the demos agree, on a game of these settings in which the players' builds took these inputs
pub record DemosAgree (players : ℕ) (settings : Settings) (inputs : Inputs)
    (locksteps : ℕ → Contents) : Type 0 where
  -- whoever has started has as its demo the text of its start, its own number as view, its players, and the
  -- rows that the inputs make, for the tics that it ran before the first that lacks a player; the demo is
  -- closed from then on, and once the lockstep has ended
  pub texts : (p : ℕ) → p < players → HasStarted (locksteps p)
      → (locksteps p).demo.bytes ≡ demo_text long_tics (start_of settings) p (seats_of players)
      (rows_made players inputs (locksteps p).ran) (is_closed players inputs (locksteps p))
  -- so it has the tics that it ran, as far as every player made a command: a row has four seats
  pub tics : (p tic : ℕ) → players ≤ 4 → p < players → HasStarted (locksteps p)
      → (tic < tics_in (locksteps p))
      ↔ ((tic < (locksteps p).ran) × ((player : ℕ) → player < players → tic < length (inputs player)))
  -- and of each the move that the player's inputs make
  pub commands : (p tic player : ℕ) → p < players → tic < tics_in (locksteps p) → player < players
      → used_in (locksteps p) tic player ≡ spell long_tics (move_made inputs player tic)
  -- any two used the same command of every player in a tic that both demos have
  pub same : (p q tic player : ℕ) → p < players → q < players → tic < tics_in (locksteps p)
      → tic < tics_in (locksteps q) → player < players
      → used_in (locksteps p) tic player ≡ used_in (locksteps q) tic player
  -- of any two demos one's commands are a prefix of the other's
  pub prefixes : (p q : ℕ) → p < players → q < players
      → IsPrefixOf (recorded (locksteps p)) (recorded (locksteps q))
      ⊎ IsPrefixOf (recorded (locksteps q)) (recorded (locksteps p))
  -- the headers of any two differ in the view alone, which is the lockstep's own number
  pub headers : (p q : ℕ) → p < players → q < players → HasStarted (locksteps p) → HasStarted (locksteps q)
      → header_but_view (locksteps p) ≡ header_but_view (locksteps q)
  pub views : (p : ℕ) → p < players → HasStarted (locksteps p)
      → slice_get (locksteps p).demo.bytes 8 ≡ Some p

-- What the locksteps have in common.

-- the players' locksteps agree, on a game of these settings in which their builds took these inputs
pub record AreAgreed (limits : Limits) (settings : Settings) (inputs : Inputs)
    (locksteps : ℕ → Contents) : Type 0 where
  -- each has its player's number, and the game's number of players
  pub numbers : (p : ℕ) → p < limits.players → (locksteps p).me ≡ p
  pub several : (p : ℕ) → p < limits.players → (locksteps p).players ≡ limits.players
  -- whoever plays has started, and whoever has started has the key player's settings
  pub playing : (p : ℕ) → p < limits.players → (locksteps p).phase ≡ Playing → HasStarted (locksteps p)
  pub settings_same : (p : ℕ) → p < limits.players → HasStarted (locksteps p)
      → (locksteps p).settings ≡ Some settings
  -- the demos are those of the inputs
  pub demos : DemosAgree limits.players settings inputs locksteps
  -- the demo of one that has ended is read back
  pub read_back : (p : ℕ) → p < limits.players → HasStarted (locksteps p)
      → is_ended (locksteps p).phase ≡ true
      → IsReadAs (locksteps p).demo.bytes (Ok (demo_made limits.players settings inputs p (locksteps p).ran))
  -- it made a command of each of its player's inputs
  pub counted : (p : ℕ) → p < limits.players → made (locksteps p) ≡ length (inputs p)
  -- a command that it tells is the one that the player's inputs make, but for the mark
  pub told : (p player tic : ℕ) (command : TicCmd) → p < limits.players
      → command_told (locksteps p) player tic ≡ Some command
      → command ≡ made_by (take (tic + 1) (inputs player)) command.mark
  -- and any two that tell a player's command for a tic tell the same, with its mark and its letter of chat
  pub told_same : (p q player tic : ℕ) (a b : TicCmd) → p < limits.players → q < limits.players
      → command_told (locksteps p) player tic ≡ Some a → command_told (locksteps q) player tic ≡ Some b
      → a ≡ b
  -- no check failed
  pub consistent : (p player : ℕ) (was should : ℤ) → p < limits.players
      → (locksteps p).phase ≢ Ended (Cause.Inconsistent player was should)
  -- a player's end that one knows is the one that the player's own tells: how many commands it made
  pub ends : (p q end : ℕ) → p < limits.players → q < limits.players → end_in (locksteps p) q ≡ Some end
      → (end_in (locksteps q) q ≡ Some end) × (end ≡ made (locksteps q))
  -- so any two that know a player's end know the same
  pub ends_same : (p q player a b : ℕ) → p < limits.players → q < limits.players → player < limits.players
      → end_in (locksteps p) player ≡ Some a → end_in (locksteps q) player ≡ Some b → a ≡ b
  -- each has the commands of the tics that it ran, up to their player's end, and at most twice the window
  -- that it has not run
  pub run : (p q : ℕ) → p < limits.players → q < limits.players
      → min (locksteps p).ran (unwrap_or (end_in (locksteps q) q) (locksteps p).ran) ≤ got (locksteps p) q
  pub unread : (p q : ℕ) → p < limits.players → q < limits.players
      → got (locksteps p) q ≤ (locksteps p).ran + (limits.ahead + limits.ahead)
  -- none that its player did not make, and at most twice the window of those are missing at one that has not
  -- ended
  pub held : (p q : ℕ) → p < limits.players → q < limits.players → got (locksteps p) q ≤ made (locksteps q)
  pub unheard : (p q : ℕ) → p < limits.players → q < limits.players → is_ended (locksteps p).phase ≡ false
      → made (locksteps q) ≤ got (locksteps p) q + (limits.ahead + limits.ahead)
  -- no player is further ahead than the window, of the tics run and of another player who has not ended
  pub ahead : (p : ℕ) → p < limits.players → made (locksteps p) ≤ (locksteps p).ran + limits.ahead
  pub close : (p q : ℕ) → p < limits.players → q < limits.players → is_ended (locksteps q).phase ≡ false
      → made (locksteps p) ≤ made (locksteps q) + limits.ahead
  -- nor are more tics run than may be, where a demo's room is not above that
  pub most : (p : ℕ) → p < limits.players → limits.capacity ≤ tic_limit → (locksteps p).ran ≤ tic_limit
