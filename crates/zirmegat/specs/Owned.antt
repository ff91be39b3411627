-- What a handle owns.
use base.Fml.{Fml, fex}
use denote.RattleType.{RattleType}
use denote.RawPtr.{Ptr}
use Rattle.std.specs.declared.alloc.Global.{Global}
use Rattle.std.specs.contracts.impls.GlobalAllocator.TheImpl.{ghosts}
use Rattle.std.specs.Box.Ownership.{box_owns}
use Rattle.zirmegat.specs.declared.held.Held.{Held}
use Rattle.zirmegat.specs.contracts.held.Held as held

-- the block where a value lies, and the right to free it
abbrev pub owned : (R : RattleType) → Ptr → R.Denot → Global → Fml
owned R at n alloc = box_owns (ghosts.dealloc_token alloc) R at n

abbrev pub boxed_at : (R : RattleType) → Ptr → R.Denot → Fml
boxed_at R at n = fex Global (owned R at n)

abbrev pub owns_held : Ptr → Held → Fml
owns_held = boxed_at held.the_row
