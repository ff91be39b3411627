-- A belt of four places.
use Rattle.std.specs.Prelude.{ℕ, ◌%◌, pos, List, None, replicate, reverse, slice_set, slice_index, slice_index_or}
use Rattle.std.specs.Option.{option_map_or}
use Rattle.dn_world.specs.Physics.{Physics}

-- it begins with the map's number on each place; in a tic it changes ends, and its first place takes the
-- first player's buttons, or 0; a player's mark is what lies on the place of the player's number, modulo 4
abbrev pub carrying : Physics (List ℕ)
carrying = record {
  begin = λ start present. replicate 4 start.map;
  step = λ places moves. slice_set (reverse places) 0
      (option_map_or (λ m. m.buttons) (slice_index_or moves 0 None) 0);
  mark = λ places player. pos (slice_index places (player % 4) % 256);
}
