-- Key states, which are numbers whose bits are the keys that are down, and the command that key presses
-- make (g_game.c, G_BuildTiccmd).
use Rattle.std.specs.Prelude.{ℕ, ◌/◌, ◌%◌, ◌^◌, Bool, ◌==◌, ◌+◌, ◌-◌, ◌*◌, min, ◌||◌, List, [], ◌∷◌, length, nat_lt, ℤ, pos, negsuc, ◌+ℤ◌, ◌-ℤ◌, if◌then◌else◌, get_or, Option, Some, None}
use Rattle.std.specs.List.{position, suffix_len}
use Rattle.std.specs.Int.{int_max, int_min}
use Rattle.dn_tic.specs.declared.keys.Key.{Key}
use Rattle.dn_tic.specs.declared.keys.Key.TheVariants.{Forward, Back, Left, Right, StrafeLeft, StrafeRight, Strafe, Speed, Attack, Use, Weapon1, Weapon2, Weapon3, Weapon4, Weapon5, Weapon6, Weapon7, Weapon8}
use Rattle.dn_tic.specs.declared.command.TicCmd.{TicCmd}

-- the bit of each key
abbrev pub place_of : Key → ℕ
place_of Forward = 0
place_of Back = 1
place_of Left = 2
place_of Right = 3
place_of StrafeLeft = 4
place_of StrafeRight = 5
place_of Strafe = 6
place_of Speed = 7
place_of Attack = 8
place_of Use = 9
place_of Weapon1 = 10
place_of Weapon2 = 11
place_of Weapon3 = 12
place_of Weapon4 = 13
place_of Weapon5 = 14
place_of Weapon6 = 15
place_of Weapon7 = 16
place_of Weapon8 = 17

-- whether a key is down in a key state
abbrev pub is_down : ℕ → Key → Bool
is_down keys key = (keys / 2 ^ place_of key) % 2 == 1

-- a turn key is down
abbrev pub is_turning : ℕ → Bool
is_turning keys = is_down keys Left || is_down keys Right

-- the turn hold: how many of the last key states in succession have a turn key down, six at the most
abbrev pub turn_hold : List ℕ → ℕ
turn_hold states = min 6 (suffix_len is_turning states)

-- an amount where the test holds, and 0 elsewhere
abbrev pub amount_if : Bool → ℤ → ℤ
amount_if test amount = if test then amount else pos 0

-- what a pair of opposite keys gives: the first adds the amount, and the second takes it away
abbrev pub opposed : ℕ → Key → Key → ℤ → ℤ
opposed keys more less amount = amount_if (is_down keys more) amount -ℤ amount_if (is_down keys less) amount

-- how far one tic goes forward, to a side, and round; turns are fast from the sixth in succession on
abbrev pub forward_amount : ℕ → ℤ
forward_amount keys = if is_down keys Speed then pos 50 else pos 25

abbrev pub side_amount : ℕ → ℤ
side_amount keys = if is_down keys Speed then pos 40 else pos 24

abbrev pub turn_amount : ℕ → ℕ → ℤ
turn_amount keys hold = if nat_lt hold 6 then pos 320 else (if is_down keys Speed then pos 1280 else pos 640)

-- what the turn keys give: a side move while strafe is down, and a turn elsewhere
abbrev pub strafed : ℕ → ℤ
strafed keys = amount_if (is_down keys Strafe) (opposed keys Right Left (side_amount keys))

abbrev pub turned : ℕ → ℕ → ℤ
turned keys hold = if is_down keys Strafe then pos 0 else opposed keys Left Right (turn_amount keys hold)

-- from -50 to 50
abbrev pub clamped : ℤ → ℤ
clamped amount = int_max (negsuc 49) (int_min amount (pos 50))

-- the weapon keys, the lowest first
abbrev pub weapons : List Key
weapons = Weapon1 ∷ Weapon2 ∷ Weapon3 ∷ Weapon4 ∷ Weapon5 ∷ Weapon6 ∷ Weapon7 ∷ Weapon8 ∷ []

-- a change to the weapon at this place, counted from 0
abbrev pub weapon_buttons : Option ℕ → ℕ
weapon_buttons None = 0
weapon_buttons (Some place) = 4 + 8 * place

abbrev pub buttons_of : ℕ → ℕ
buttons_of keys =
    (if is_down keys Attack then 1 else 0) + (if is_down keys Use then 2 else 0)
    + weapon_buttons (position (is_down keys) weapons)

-- the command of one key state, at this turn hold, with this consistency mark
abbrev pub command_of : ℕ → ℕ → ℤ → TicCmd
command_of keys hold mark =
    record {
      forward = clamped (opposed keys Forward Back (forward_amount keys));
      side = clamped (strafed keys +ℤ opposed keys StrafeRight StrafeLeft (side_amount keys));
      turn = turned keys hold;
      mark = mark;
      chat = 0;
      buttons = buttons_of keys;
    }

-- the last key state, or no key at all
abbrev pub last_state : List ℕ → ℕ
last_state states = get_or states (length states - 1) 0

-- the pressed command: what the last of these key states makes
unfoldable pub pressed : List ℕ → ℤ → TicCmd
pressed states mark = command_of (last_state states) (turn_hold states) mark
