-- What a pointer to a handle owns.
use Rattle.std.specs.Prelude.{Option, Some, None}
use base.Fml.{Fml, ftrue, ffalse}
use denote.RattleType.{RattleType}
use denote.RawPtr.{Ptr, block_ptr, null_ptr}
use Rattle.zirmegat.specs.declared.handle.Handle.{Handle}
use Rattle.zirmegat.specs.contracts.handle.Handle as handle
use Rattle.zirmegat.specs.Owned.{boxed_at}

-- the block of a handle, or nothing at null
abbrev pub boxed_or_null : (R : RattleType) → Ptr → Option R.Denot → Fml
boxed_or_null R (block_ptr b o) (Some n) = boxed_at R (block_ptr b o) n
boxed_or_null R (block_ptr b o) None = ffalse
boxed_or_null R null_ptr (Some n) = ffalse
boxed_or_null R null_ptr None = ftrue

abbrev pub owns_handle : Ptr → Option Handle → Fml
owns_handle = boxed_or_null handle.the_row
