-- Laws of marks: all that a node sees of a world beside it.
use Rattle.std.specs.Prelude.{ℕ, ℤ, Bool, List, [], ◌∷◌, ◌++◌, Option}
use Rattle.dn_tic.specs.declared.command.Move.{Move}
use Rattle.dn_setup.specs.declared.settings.Start.{Start}
use Rattle.dn_world.specs.Physics.{Physics}

-- how a game began, with which seats taken, and the rows that it went on by
pub record History : Type 0 where
  pub start : Start
  pub present : List Bool
  pub rows : List (List (Option Move))

-- each player's mark, by the history: any world whose marks follow from its start and its moves has such a
-- law
abbrev pub Marking : Type 0
Marking = History → ℕ → ℤ

-- the physics whose worlds are the histories themselves, with these marks
abbrev pub free : Marking → Physics History
free marking =
    record {
      begin = λ start present. record { start = start; present = present; rows = [] };
      step = λ history row. record history { rows = history.rows ++ row ∷ [] };
      mark = marking;
    }
