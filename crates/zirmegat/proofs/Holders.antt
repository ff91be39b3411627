-- A struct that owns a box by its pointer: its machine value, and what it owns.
use Rattle.std.specs.declared.alloc.Allocator.{Ghosts}
use Rattle.std.proofs.Common.{refl, ◌≡◌, ℕ, List, [], ◌∷◌, sym, ◌∙◌, ◌++◌}
use Rattle.std.specs.Prelude.{Option, Some}
use denote.RattleType.{RattleType, Valss}
use denote.Param.Laws.{Laws}
use base.Fml.{Fml, fex, fsep}
use seplogic.Ra.Ura.{Ura}
use mir.Syntax.{Sym, Ty, ty_struct, ty_ptr, tcons, tnil}
use mir.Val.{Val, vstruct, of_list}
use types.Logic.{Logic}
use types.Kit.{Item, Goal, Seq, Step, step, ‵, ◌$◌, drop, fsplit, fjoin, fpick, fpack, feq_i, feq_l, rewrite}
use denote.Exit.{unseen}
use denote.Builtin.{RawPtr}
use denote.RawPtr.{Ptr, block_ptr, ptr_val}
use denote.Steps.{nothing}
use denote.Struct.Struct.{Shape, within}
use Rattle.zirmegat.specs.Owned.{boxed_at, owns_held}
use Rattle.zirmegat.specs.Slots.{owns_handle}
use Rattle.std.specs.contracts.alloc.Global as heap
use Rattle.std.proofs.alloc.Global.TheLaws as heap_laws
use Rattle.std.specs.contracts.impls.GlobalAllocator.TheImpl as impl
use Rattle.zirmegat.specs.contracts.held.Held as held
use Rattle.zirmegat.specs.contracts.handle.Handle as handle
use Rattle.zirmegat.specs.contracts.slot.Slot as slot

-- a struct of one pointer to a box of this row: its name, its row and its fields, and what it owns
pub record Holder (N : RattleType) : Type 1 where
  pub name : Sym
  pub struct : RattleType
  pub Shown : Type 0
  pub owns : Ptr → Shown → Fml
  pub at : struct.Denot → Ptr
  pub value : struct.Denot → Shown
  pub make : Ptr → Shown → struct.Denot
  pub made : (p : Ptr) (n : Shown) → (at (make p n) ≡ p) × (value (make p n) ≡ n)
  pub full : N.Denot → Shown
  pub owned_by : (b o : ℕ) (x : N.Denot) → owns (block_ptr b o) (full x) ≡ boxed_at N (block_ptr b o) x

-- its machine value: a pointer
abbrev pub word : Ptr → Val
word p = vstruct (of_list (ptr_val p ∷ []))

module _ {N : RattleType} (K : Holder N) where
  abbrev pub holder_type : Ty
  holder_type = ty_struct K.name (tcons ty_ptr tnil)

  abbrev shape : Shape
  shape = record { name = K.name; args = []; types = []; fields = RawPtr ∷ [] }

  -- one with this field is this machine value, and owns what it shows
  abbrev pub shown : Ptr → K.Shown → List Val → Fml
  shown p n vs = fsep (fex (Valss (RawPtr ∷ [])) (within shape (p, tt) vs)) (K.owns p n)

  -- the struct's own row, with what it owns spelled out
  abbrev pub row : RattleType
  row = record K.struct {
    mir = holder_type ∷ [];
    own_val = λ h vs. shown (K.at h) (K.value h) vs;
    exit = λ k. unseen;
  }

  module _ {M : Type 1} {𝓤 : Ura M} {𝓛 : Logic 𝓤} {T : Type 0} {Γ : List (Item 𝓤)} {G : Goal 𝓤 𝓛.H} where
    -- one taken apart, and put together
    pub holder_out : T → (h : K.struct.Denot) (vs : List Val)
        → (vs ≡ word (K.at h) ∷ [] → Seq T 𝓛 (‵ (K.owns (K.at h) (K.value h)) ∷ Γ) G)
        → Seq T 𝓛 (‵ (row.own_val h vs) ∷ Γ) G
    holder_out t h vs k =
        fsplit t $ fpick t
        (λ vss. fsplit t $ feq_l t
        (λ ev. fsplit t $ feq_l t
        (λ ep. drop t $ k (ev ∙ (λ i. vstruct (of_list (ep i ++ [])) ∷ [])))))

    pub holder_in : T → (p : Ptr) (n : K.Shown)
        → Step T 𝓛 (‵ (row.own_val (K.make p n) (word p ∷ [])) ∷ Γ) G (‵ (K.owns p n) ∷ Γ) G
    holder_in t p n = step (λ s. let e = K.made p n in let v : Val = word p in
        nothing t $ feq_i t (List Val) (ptr_val p ∷ []) (ptr_val p ∷ []) refl $ fjoin t $
        feq_i t (List Val) (v ∷ []) (v ∷ []) refl $ fjoin t $
        fpack t (Valss (RawPtr ∷ [])) (within shape (p, tt) (v ∷ [])) (ptr_val p ∷ [], tt) $ fjoin t $
        rewrite t 0 (λ (d : Ptr × K.Shown). ‵ (shown d.0 d.1 (v ∷ []))) (λ i. (sym e.0 i, sym e.1 i)) refl $ s)

    -- one that holds a value, put together from the value's box
    pub full_in : T → (b o : ℕ) (x : N.Denot)
        → Step T 𝓛 (‵ (row.own_val (K.make (block_ptr b o) (K.full x)) (word (block_ptr b o) ∷ [])) ∷ Γ) G
        (‵ (boxed_at N (block_ptr b o) x) ∷ Γ) G
    full_in t b o x = step (λ s.
        rewrite t 0 (λ (F : Fml). ‵ F) (sym (K.owned_by b o x)) refl $ holder_in t (block_ptr b o) (K.full x) $ s)

-- The two: a handle, and a pointer to one.

abbrev pub handle_holder : Holder held.the_row
handle_holder = record {
  name = handle.struct.name;
  struct = handle.the_row;
  Shown = held.the_row.Denot;
  owns = owns_held;
  at = λ h. h.at;
  value = λ h. h.held;
  make = λ p n. record { at = p; held = n };
  made = λ p n. (refl, refl);
  full = λ x. x;
  owned_by = λ b o x. refl;
}

abbrev pub slot_holder : Holder handle.the_row
slot_holder = record {
  name = slot.struct.name;
  struct = slot.the_row;
  Shown = Option handle.the_row.Denot;
  owns = owns_handle;
  at = λ h. h.at;
  value = λ h. h.handle;
  make = λ p n. record { at = p; handle = n };
  made = λ p n. (refl, refl);
  full = λ x. Some x;
  owned_by = λ b o x. refl;
}

-- The row of the allocator, its laws and its ghosts.

abbrev pub Z : RattleType
Z = heap.the_row

abbrev pub LZ : Laws Z
LZ = heap_laws.the_row_laws

abbrev pub g : Ghosts Z.Denot
g = impl.ghosts
