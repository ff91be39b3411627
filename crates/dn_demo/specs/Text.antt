-- The rows of a demo, for each tic a seat for each of four players, and its text (g_game.c,
-- G_BeginRecording, G_WriteDemoTiccmd and G_CheckDemoStatus).
use Rattle.std.specs.Prelude.{◌≡◌, ◌≢◌, ◌<◌, ℕ, zero, suc, pos, negsuc, int_rem, Bool, true, false, List, [], ◌∷◌, length, map, All, Option, is_some, IfSome, FitsSigned, ◌++◌, Some, None, if◌then◌else◌}
use Rattle.std.specs.Int.{w8, w16}
use Rattle.std.specs.List.{flat_map}
use Rattle.dn_tic.specs.declared.command.Move.{Move}
use Rattle.dn_setup.specs.declared.settings.Start.{Start}
use Rattle.dn_setup.specs.Settings.{bit}
use Rattle.dn_demo.specs.Layout.{Layout, spell}

-- the fields lie in the ranges of their types
pub record IsMove (m : Move) : Type 0 where
  pub forward : FitsSigned w8 m.forward
  pub side : FitsSigned w8 m.side
  pub turn : FitsSigned w16 m.turn
  pub buttons : m.buttons < 256

-- a move that a demo can tell: -128 forward would read as the marker
abbrev pub IsRecordable : Move → Type 0
IsRecordable m = m.forward ≢ negsuc 127

-- a move whose turn one byte can tell
abbrev pub IsWhole : Move → Type 0
IsWhole m = int_rem m.turn (pos 256) ≡ pos 0

-- a row of these players: a recordable move for each who is present, and none for another
pub record IsRow (present : List Bool) (row : List (Option Move)) : Type 0 where
  pub seats : map is_some row ≡ present
  pub moves : All (λ step. IfSome step IsRecordable) row

-- how many players are present
abbrev pub player_count : List Bool → ℕ
player_count [] = zero
player_count (true ∷ seats) = suc (player_count seats)
player_count (false ∷ seats) = player_count seats

-- a fact of every move of some rows
abbrev pub AllMoves : (Move → Type 0) → List (List (Option Move)) → Type 0
AllMoves Fact rows = All (All (λ step. IfSome step Fact)) rows

-- rows that can be written for these players, where at least one is present
pub record AreWritable (present : List Bool) (rows : List (List (Option Move))) : Type 0 where
  pub four : length present ≡ 4
  pub somebody : 0 < player_count present
  pub recordable : All (IsRow present) rows
  pub moves : AllMoves IsMove rows

-- the byte that ends a demo (DEMOMARKER)
abbrev pub marker : ℕ
marker = 128

-- how many bytes a header has
abbrev pub header_size : ℕ
header_size = 13

-- the version, what the game starts from, whose view the demo shows, and which players are present, as 0 or 1
abbrev pub header : Layout → Start → ℕ → List Bool → List ℕ
header layout start view present =
    layout.version ∷ start.skill ∷ start.episode ∷ start.map ∷ start.deathmatch ∷ start.respawn ∷ start.fast
    ∷ start.no_monsters ∷ view ∷ map bit present

-- a player's command, which is nothing where there is no move
abbrev pub move_bytes : Layout → Option Move → List ℕ
move_bytes layout None = []
move_bytes layout (Some m) = spell layout m

-- the commands of a tic, in the order of the players
abbrev pub row_bytes : Layout → List (Option Move) → List ℕ
row_bytes layout row = flat_map (move_bytes layout) row

-- the commands of all tics
abbrev pub commands_of : Layout → List (List (Option Move)) → List ℕ
commands_of layout rows = flat_map (row_bytes layout) rows

-- a demo of these rows, which ends with the marker once it is closed
unfoldable pub demo_text : Layout → Start → ℕ → List Bool → List (List (Option Move)) → Bool → List ℕ
demo_text layout start view present rows closed =
    header layout start view present ++ commands_of layout rows ++ (if closed then marker ∷ [] else [])
