-- How a demo's commands are laid out, by its version (g_game.c, G_WriteDemoTiccmd and G_ReadDemoTiccmd).
-- Layouts differ in the version and in the bytes of a turn.
use Rattle.std.specs.Prelude.{ℕ, Bool, ◌+◌, ◌*◌, ◌/◌, ℤ, List, [], ◌∷◌, ◌++◌, ◌==◌, if◌then◌else◌, take, drop, slice_index, Option, Some, None}
use Rattle.std.specs.Int.{w8, w16, cast_signed, cast_unsigned, to_le_bytes, from_le_bytes}
use Rattle.dn_tic.specs.declared.command.Move.{Move}
use Rattle.dn_setup.specs.Setup as setup
use Rattle.dn_demo.specs.declared.layout.Layout as declared
use Rattle.dn_demo.specs.declared.layout.Layout.TheVariants.{Vanilla, LongTics}

pub record Layout : Type 0 where
  -- the first byte of a demo
  pub version : ℕ
  -- how many bytes a turn has
  pub turn_size : ℕ
  -- the bytes of a turn
  pub turn_bytes : ℤ → List ℕ
  -- the turn that such bytes tell
  pub turn_told : List ℕ → ℤ

-- of Doom 1.9: the high byte of a turn
abbrev pub vanilla : Layout
vanilla =
    record {
      version = 109;
      turn_size = 1;
      turn_bytes = λ turn. cast_unsigned w16 turn / 256 ∷ [];
      turn_told = λ bytes. cast_signed w16 (slice_index bytes 0 * 256);
    }

-- of version 111, which is recorded here: both bytes of a turn, the low one first
abbrev pub long_tics : Layout
long_tics =
    record {
      version = setup.version;
      turn_size = 2;
      turn_bytes = λ turn. to_le_bytes w16 (cast_unsigned w16 turn);
      turn_told = λ bytes. cast_signed w16 (from_le_bytes w16 bytes);
    }

-- the layout of a version, if its demos are read
abbrev pub layout_of_version : ℕ → Option Layout
layout_of_version version =
    if version == vanilla.version then Some vanilla
    else (if version == long_tics.version then Some long_tics else None)

-- the layout by its name
abbrev pub layout_of : declared.Layout → Layout
layout_of Vanilla = vanilla
layout_of LongTics = long_tics

-- the layout by whether it is that of version 111
abbrev pub layout_by : Bool → Layout
layout_by long = if long then long_tics else vanilla

-- how many bytes a command has: forward, side, the turn and the buttons
abbrev pub command_size : Layout → ℕ
command_size layout = layout.turn_size + 3

-- the bytes of a move
abbrev pub spell : Layout → Move → List ℕ
spell layout m = cast_unsigned w8 m.forward ∷ cast_unsigned w8
    m.side ∷ (layout.turn_bytes m.turn ++ m.buttons ∷ [])

-- the move that such bytes tell
abbrev pub tell : Layout → List ℕ → Move
tell layout bytes =
    record {
      forward = cast_signed w8 (slice_index bytes 0);
      side = cast_signed w8 (slice_index bytes 1);
      turn = layout.turn_told (take layout.turn_size (drop 2 bytes));
      buttons = slice_index bytes (layout.turn_size + 2);
    }
