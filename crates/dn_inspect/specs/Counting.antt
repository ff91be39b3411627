-- What players did in a demo, counted in tics.
use Rattle.std.specs.Prelude.{ℕ, ◌+◌, ◌/◌, ◌%◌, ◌^◌, ◌==◌, ◌&&◌, nat_lt, not, pos, Bool, true, List, [], ◌∷◌, replicate, unsigned_abs, Option, Some, None}
use Rattle.std.specs.Int.{w16, cast_unsigned}
use Rattle.dn_tic.specs.declared.command.Move.{Move}
use Rattle.dn_setup.specs.Settings.{bit}
use Rattle.dn_world.specs.Physics.{Physics}
use Rattle.dn_inspect.specs.declared.tally.Counts.{Counts}

abbrev pub none : Counts
none =
    record { tics = 0; turns = 0; fine = 0; attack = 0; used = 0; weapons = 0; sr40 = 0; sr50 = 0 }

-- a count, and one more where something is so
abbrev pub more : ℕ → Bool → ℕ
more count is_so = (count + bit is_so) % 2 ^ 64

-- a button is down, by its value (d_event.h, buttoncode_t); from 128 on the byte tells a pause or a save instead
abbrev pub is_down : ℕ → Move → Bool
is_down button m = nat_lt m.buttons 128 && (m.buttons / button % 2 == 1)

-- the player runs forward or back, and strafes at this speed
abbrev pub strafes : ℕ → Move → Bool
strafes speed m = (unsigned_abs m.forward == 50) && (unsigned_abs m.side == speed)

-- how far a move turns, in 65536ths of a full turn
abbrev pub turned : Move → ℕ
turned m = cast_unsigned w16 m.turn

-- what a player did, with one move more
abbrev pub counted : Counts → Move → Counts
counted counts m =
    record {
      tics = more counts.tics true;
      turns = more counts.turns (not (turned m == 0));
      -- what version 109 rounds
      fine = more counts.fine (not (turned m % 256 == 0));
      attack = more counts.attack (is_down 1 m);
      used = more counts.used (is_down 2 m);
      weapons = more counts.weapons (is_down 4 m);
      sr40 = more counts.sr40 (strafes 40 m);
      sr50 = more counts.sr50 (strafes 50 m);
    }

-- the same, where there is a move
abbrev pub after : Counts → Option Move → Counts
after counts None = counts
after counts (Some m) = counted counts m

-- a tic adds each player's move
abbrev pub all_after : List Counts → List (Option Move) → List Counts
all_after [] moves = []
all_after counts [] = counts
all_after (counts ∷ others) (step ∷ moves) = after counts step ∷ all_after others moves

-- a world that counts: a game begins with nothing, and no mark tells of it
abbrev pub counting : Physics (List Counts)
counting =
    record {
      begin = λ start present. replicate 4 none;
      step = all_after;
      mark = λ counts player. pos 0;
    }
