-- What is shown of a demo's rows.
use Rattle.std.specs.Prelude.{◌≡◌, ◌≤◌, ◌⊎◌, ℕ, ◌+◌, ◌%◌, List, ◌++◌, length, Option}
use Rattle.std.specs.Io.KnownBytes.{Appends, Consumes}
use Rattle.dn_tic.specs.declared.command.Move.{Move}
use Rattle.dn_demo.specs.Reading.{HasRows}
use Rattle.dn_netgame.specs.Texts.{lines_of_rows}
use Rattle.dn_netgame.specs.DemoShown.{IsDemo}
use Rattle.dn_netgame.specs.Transfer.{TakesUpTo, AppendsFront}
use Rattle.dn_netgame.specs.declared.transfer.RunFault.{RunFault}
use Rattle.dn_netgame.specs.declared.transfer.RunFault.TheVariants.{Read, Write, Memory}

-- the lines are those of the rows that these bytes have
abbrev pub AreRows : List ℕ → List ℕ → Type 0
AreRows bytes lines = (rows : List (List (Option Move))) × HasRows bytes rows × (lines ≡ lines_of_rows 0 rows)

-- the lines and the exit status: first the lines of the rows that these bytes have, then those that `demo`
-- writes, with its status
abbrev pub IsRowsShown : List ℕ → List ℕ → ℕ → Type 0
IsRowsShown bytes lines status =
    (first : List ℕ) × (last : List ℕ) × AreRows bytes first × IsDemo bytes last status
    × (lines ≡ first ++ last)

-- how many bytes are read before the lines of the rows that end in them are written
abbrev pub piece_size : ℕ
piece_size = 4096

-- bytes were taken from the input, whole pieces or all that is read of it, and all lines of the rows that they
-- have were written; then no more than a piece was taken, and nothing was written for it
pub record ListsWhole (limit : ℕ) (input input' output output' : Option (List ℕ)) : Type 0 where
  pub bytes : List ℕ
  pub last : List ℕ
  pub lines : List ℕ
  pub taken : Consumes input input' (bytes ++ last)
  pub within : length bytes + length last ≤ limit
  pub pieces : (length bytes % piece_size ≡ 0) ⊎ TakesUpTo limit input input' bytes
  pub few : length last ≤ piece_size
  pub shown : AreRows bytes lines
  pub written : Appends output output' lines

-- bytes were taken from the input, and a prefix of lines was written, and not all: of the lines of their rows;
-- or, where the input ended or reached the limit, of these and the lines of `demo` behind them
pub record ListsFront (limit : ℕ) (input input' output output' : Option (List ℕ)) : Type 0 where
  pub bytes : List ℕ
  pub lines : List ℕ
  pub taken : Consumes input input' bytes
  pub within : length bytes ≤ limit
  pub shown : AreRows bytes lines
      ⊎ (TakesUpTo limit input input' bytes × ((status : ℕ) × IsRowsShown bytes lines status))
  pub written : AppendsFront output output' lines

-- what a fault leaves: a read fault, or refused memory, the lines of the rows so far, but for those of the last
-- piece; a write fault comes before the last byte of the lines so far is written
abbrev pub ListsUpTo : (limit : ℕ) → (input input' output output' : Option (List ℕ)) → RunFault → Type 0
ListsUpTo limit input input' output output' Read = ListsWhole limit input input' output output'
ListsUpTo limit input input' output output' Write = ListsFront limit input input' output output'
ListsUpTo limit input input' output output' Memory = ListsWhole limit input input' output output'
