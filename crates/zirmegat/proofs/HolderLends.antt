-- What a handle lends.
use Rattle.std.proofs.Common.{◌≡◌, ℕ, List, map, [], ◌∷◌, refl, sym, ◌∙◌}
use Rattle.std.specs.Borrow.{Lends}
use Rattle.std.proofs.raw_atomic.Walks.{proved}
use Rattle.std.proofs.VecSteps.Shapes.{after}
use Rattle.std.specs.declared.alloc.Global.{Global}
use base.Fml.{GName, Fml, ftrue, fsep, flft}
use base.Fraction.{full_share}
use base.Logic.{ent, sep, emp, never, fst∗, id⊢}
use seplogic.Ra.Ura.{Ura}
use mir.Raw.{raw as bare}
use mir.Syntax.{Fn, Body, Callee, named, erased, mut, local, value_local, block, seq, assign, place, field, deref, addr_of, rv_opd, copy, return, ty_ptr, ty_ref, ty_named, tnil}
use mir.Val.{Val, vptr}
use contract.Running.{Running, MachineTables, tables}
use contract.Monad.{fact}
use prog.Model.{Model}
use prog.Wp.{Closed}
use types.Logic.{Logic, sem}
use types.Kit.{‵, raw, ◌⊛◌, some, later, at_ret, ◌$◌, ◌∵◌, !, qed, done, move, keep, use1, split, join, fsplit, fsplit3, fjoin, fpick, fpack, suffices, frame, group, rewrite, pick, await}
use types.Part.{whole, sub, look_in}
use types.Run.{enter, of_opd, load, addr, stop, fld, first, blocks, exec, returns}
use types.ByLocal.{alloc_all, pass_all, free_all, look_at, get, through, sets, sets_last, env}
use denote.Builtin.{RefMutOf}
use denote.Exit.{no}
use denote.Follow.{follows, Part, lends_Part}
use denote.Memory.{lone, cell_at, part_at, part_of, mem}
use denote.RattleType.{RattleType}
use denote.RawPtr.{block_ptr, null_ptr, in_a_block}
use denote.Ref.{MutBor, MutRef, mut_vals, mut_Tells}
use denote.Signature.{plain, mut_ref_to}
use denote.Steps.{nothing, opens}
use denote.Triple.Clauses.{Ended, Clauses, closing}
use denote.Triple.Spec.{Meets}
use denote.Triple.Walked.{Stays, walk_of, stay_dropped, Goes-spent_ref, says, ends_at}
use Rattle.zirmegat.specs.Owned.{owned}
use Rattle.zirmegat.specs.contracts.held.Held as held
use Rattle.zirmegat.proofs.Holders.{Holder, handle_holder, word, holder_type, row, holder_out, holder_in, g}

abbrev K : Holder held.the_row
K = handle_holder

abbrev N : RattleType
N = held.the_row

abbrev H : RattleType
H = row K

-- the handle with another value
abbrev with : H.Denot → N.Denot → H.Denot
with h w = K.make (K.at h) w

-- a value at a block, with all of the handle but the value
module _ {M : Type 1} {𝓤 : Ura M} (𝓛 : Logic 𝓤) (h : H.Denot) (rb ro b o : ℕ) (a : Global) where
  abbrev Rest : Fml
  Rest = fsep (g.dealloc_token a (bare (lone N.mir)) (block_ptr b o))
      (cell_at full_share H.mir (word (block_ptr b o) ∷ []) rb ro)

  back : K.at h ≡ block_ptr b o
      → (w : N.Denot) → ent 𝓤 (sep 𝓤 (sem 𝓛 ((mem N).own_at w b o)) (sem 𝓛 Rest))
      (sem 𝓛 ((mem H).own_at (with h w) rb ro))
  unfolding part_of
  back at w =
      let made : K.make (block_ptr b o) w ≡ with h w = λ i. K.make (sym at i) w in
      qed 𝓛 (‵ (part_at N full_share w b o) ∷ ‵ Rest ∷ []) ∵ move ! (1 ∷ []) $ fsplit ! $
      move ! (2 ∷ 0 ∷ []) $
      fjoin ! $ fpack ! Global (owned N (block_ptr b o) w) a $
      holder_in K ! (block_ptr b o) w $
      rewrite ! 0 (λ (d : H.Denot). ‵ (H.own_val d (word (block_ptr b o) ∷ []))) made refl $
      move ! (1 ∷ 0 ∷ []) $ fjoin ! $
      fpack ! (List Val) (λ us. fsep (cell_at full_share H.mir us rb ro) (H.own_val (with h w) us))
      (word (block_ptr b o) ∷ []) $ done !

module _ {M : Type 1} (𝓤 : Ura M) (𝓛 : Logic 𝓤) (𝓜 : Model 𝓤 𝓛.H) (𝓡 : Running 𝓤 𝓛.H 𝓜) where
  abbrev 𝓣 : MachineTables 𝓤 𝓛.H 𝓜
  𝓣 = tables 𝓤 𝓛.H 𝓜 𝓡 𝓡.env

  abbrev ended : Ended
  ended = record {
    signature = record {
      lifetimes = 1;
      outlives = [];
      params = RefMutOf (0 ∷ []) tt (plain (λ _. H)) (λ _. tt) ∷ [];
      result = RefMutOf (0 ∷ []) tt (plain (λ _. N)) (λ _. tt);
    };
    kept = (no, tt);
  }

  abbrev clauses : Clauses 𝓤 ended
  clauses κs a = record {
    ghost = Unit {0};
    requires = λ _. emp 𝓤;
    ensures = λ _ r e. sep 𝓤 (sem 𝓛 (Lends H N a.0 r (with a.0.now))) (fact 𝓤 (r.now ≡ K.value a.0.now));
  }

  abbrev body : Body
  body =
      seq
      (block
      (seq (assign (place 3 []) (rv_opd (copy (place 1 (deref (holder_type K) ∷ field 0 ∷ [])))))
      (seq (assign (place 4 []) (rv_opd (copy (place 3 []))))
      (assign (place 2 []) (addr_of (place 4 (deref (lone N.mir) ∷ [])))))))
      (seq (assign (place 0 []) (rv_opd (copy (place 2 [])))) return)

  -- its code
  abbrev code : Fn
  code = record {
    lifetimes = 1;
    outlives = [];
    ty_params = [];
    givens = 0;
    params = 1;
    locals = map (λ τ. local τ value_local) (
        ty_ref (named 0) mut (ty_named (held.enum.name, []) tnil)
        ∷ ty_ref (named 0) mut (ty_named (K.name, []) tnil)
        ∷ ty_ref erased mut (ty_named (held.enum.name, []) tnil) ∷ ty_ptr ∷ ty_ptr ∷ []
        );
    body = body;
  }

  abbrev stayed : Stays ended.signature.params ended.kept
  stayed = (stay_dropped (mut_ref_to (0 ∷ []) tt (plain (λ _. H))) no, tt)

  -- `held` lends the value that lies behind the pointer, and the handle follows it
  pub lends : (k : Callee) → Closed 𝓤 𝓛.H 𝓣.C 𝓣.Λ k code
      → Meets 𝓛 ended.signature (𝓣.C k) (closing 𝓛 ended clauses)
  lends k closed =
      let W = walk_of 𝓛 ended stayed clauses in
      proved 𝓛 ended stayed clauses 𝓜 𝓡 (Goes-spent_ref 𝓛 1 (0 ∷ []) tt (plain (λ _. H)), tt)
      k code closed
      (λ κs. (mut_vals, tt)) (λ κs. (mut_Tells (named 0) κs.0 H, tt)) (λ κs qs bounds a _ are.
      let κ = κs.0 in let q = qs.0 in let rb = a.0.ref_ptr.0 in let ro = a.0.ref_ptr.1 in
      let γ = a.0.ghost_name in let h = a.0.now in let vs = mut_vals a.0 in let x = K.value h in
      let y : W.Ghost = ((κs, qs, bounds, a, (vs, tt)), tt) in
      qed 𝓛 (((‵ (flft κ q) ⊛ ‵ ftrue) ⊛ ‵ ((MutRef (named 0) κ H).own_val a.0 vs) ⊛ ‵ ftrue)
      ∷ ‵ ftrue ∷ []) ∵
      split ! $ split ! $ move ! (2 ∷ []) $ split ! $ keep ! (0 ∷ 2 ∷ []) $
      enter ! _ _ _ _ _ $ alloc_all ! (λ l. pass_all ! refl ((tt, tt), tt) $
      fsplit3 ! $ move ! (1 ∷ 2 ∷ 3 ∷ []) $ opens ! tt H rb ro (λ us.
      move ! (1 ∷ []) $ holder_out K ! h us (λ ew. fpick ! (λ a'.
      in_a_block ! (K.at h) (λ p. owned N p x a')
      (fst∗ 𝓤 (never 𝓤) (sem 𝓛 (g.dealloc_token a' (bare (lone N.mir)) null_ptr))) (λ b o e. fsplit ! $
      let cell : us ≡ word (block_ptr b o) ∷ [] = ew ∙ (λ i. word (e i) ∷ []) in
      let way = back 𝓛 h rb ro b o a' e in let Kept = sem 𝓛 (Rest 𝓛 h rb ro b o a') in
      let r : GName → MutBor N.Denot = λ δ. record { ref_ptr = (b, o); ghost_name = δ; now = x } in
      rewrite ! 2 (λ (ws : List Val). ‵ (cell_at full_share H.mir ws rb ro)) cell refl $
      -- [the value; the right to free its block; the handle's cell; the open borrow, in three entries]
      first ! $ blocks ! $
      sets ! (of_opd ! (load ! (through ! refl (fld ! refl (stop !))) (look_in ! 2 (sub ! 0 refl (whole !)))))
      refl (tt, tt) $ sets ! (of_opd ! (get ! refl)) refl (tt, tt) $
      sets_last ! (addr ! (through ! refl (stop !))) refl (tt, tt) $
      exec ! 𝓣.C 𝓣.Λ (env code.locals l) (after 1 body) (at_ret _ (W.post y)) $
      sets ! (of_opd ! (get ! refl)) refl (tt, tt) $
      move ! (1 ∷ 2 ∷ []) $ fjoin ! $ move ! (2 ∷ 3 ∷ 4 ∷ 1 ∷ 0 ∷ []) $ group ! 5 $
      use1 𝓛 (later (some (λ (δ : GName). raw (Part 𝓛 H N (with h) (named 0) κ q rb ro b o γ Kept way
      x δ))))
      (lends_Part 𝓛 H N (with h) (named 0) κ q rb ro b o γ Kept way (H.coded.code h) (H.coded.code h) x) $
      await ! tt $ pick ! (λ δ.
      returns ! (look_at ! 0 refl) $ free_all ! refl $ keep ! (0 ∷ []) $
      use1 𝓛 (‵ ((MutRef (named 0) κ N).own_val (r δ) (vptr b o ∷ [])) ⊛ ‵ (flft κ q)
      ⊛ ‵ (follows H N γ δ (with h))) (id⊢ 𝓤 _) $ split ! $ move ! (1 ∷ []) $ split ! $
      move ! (2 ∷ 0 ∷ 1 ∷ []) $
      suffices ! _ (ends_at 𝓛 ended stayed clauses y (vptr b o) (r δ) (tt, tt) (tt, tt)) $
      nothing ! $ nothing ! $ fjoin ! $ join ! $ nothing ! $ move ! (2 ∷ 0 ∷ []) $ join ! $ join ! $ frame ! $
      says ! refl $ done !)))))))
