-- What the functions of a struct do that owns a box by its pointer.
use Rattle.std.proofs.Common.{◌≡◌, ℕ, List, map, [], ◌∷◌, ◌++◌, refl, ◌∙◌, lit<}
use Rattle.std.specs.Prelude.{None}
use Rattle.std.proofs.raw_atomic.Walks.{proved, proved_at}
use Rattle.std.proofs.Handle.{heap_val, heap_Tells}
use Rattle.std.specs.declared.alloc.Global.{Global}
use base.Fml.{ftrue}
use base.Logic.{SProp, emp, never, fst∗}
use seplogic.Ra.Ura.{Ura}
use mir.Raw.{raw as bare}
use mir.Syntax.{Fn, Body, Ty, Callee, local, value_local, seq, assign, place, field, aggregate, rv_opd, copy, int, w64, return, ty_ptr}
use mir.Val.{Val, vptr}
use contract.Lifetimes.{Lfts}
use contract.Monad.{fact}
use contract.Running.{Running, MachineTables, tables}
use prog.Model.{Model}
use prog.Wp.{WpFn, Closed}
use types.Logic.{Logic, sem}
use types.Kit.{‵, ◌⊛◌, ◌$◌, ◌∵◌, !, qed, done, drop, move, keep, split, join, fsplit, fpick, fpack, rewrite, suffices, group}
use types.Part.{agg, sub, whole}
use types.Run.{enter, of_opd, fld, stop, lit, no_more, and_then, returns}
use types.ByLocal.{alloc_all, pass_all, free_all, look_at, get, get_in, sets}
use denote.Exit.{yes}
use denote.Laws.{Is, shows}
use denote.Memory.{lone}
use denote.RattleType.{RattleType, owns}
use denote.RawPtr.{block_ptr, null_ptr, in_a_block}
use denote.Signature.{Slot, plain}
use denote.Steps.{nothing, peeks}
use denote.Triple.Clauses.{Ended, AtExit, ClausesAt, Clauses, closing}
use denote.Triple.End.{Kepts}
use denote.Triple.Entry.{Res}
use denote.Triple.Spec.{Meets}
use denote.Triple.Walked.{Stays, walk_of, stay_dropped, Goes-dropped, says, ends_at}
use Rattle.zirmegat.specs.Owned.{owned}
use Rattle.zirmegat.specs.contracts.held.Held as held
use Rattle.zirmegat.proofs.{Values.runs_at, Values.both, Values.loose_in, Values.loose_out, Values.loose_good, Holders.Z, Holders.LZ, Holders.g, Holders.Holder, Holders.word, Holders.holder_type, Holders.row}
use Rattle.zirmegat.proofs.{Holders.handle_holder, Holders.slot_holder, Holders.holder_out, Holders.holder_in, Holders.full_in}
use Rattle.zirmegat.specs.contracts.loose.Loose as loose

-- a signature, with what is kept of each parameter
abbrev pub signed : (n : ℕ) (params : List (Slot n)) → Kepts params → Slot n → Ended
signed n params kept result = record {
  signature = record { lifetimes = n; outlives = []; params = params; result = result };
  kept = kept;
}

-- a function as Rattle lowers it: its parameters, its locals' types, and its body
abbrev pub lowered : ℕ → List Ty → Body → Fn
lowered params types body = record {
  lifetimes = 0;
  outlives = [];
  ty_params = [];
  givens = 0;
  params = params;
  locals = map (λ τ. local τ value_local) types;
  body = body;
}

module _ {M : Type 1} (𝓤 : Ura M) (𝓛 : Logic 𝓤) (𝓜 : Model 𝓤 𝓛.H) (𝓡 : Running 𝓤 𝓛.H 𝓜) where
  abbrev 𝓣 : MachineTables 𝓤 𝓛.H 𝓜
  𝓣 = tables 𝓤 𝓛.H 𝓜 𝓡 𝓡.env

  -- what a call asks, and what it says of its result and of its parameters at the end
  abbrev pub stated : {T : Ended} {κs : Lfts T.signature.lifetimes} → SProp 𝓤
      → (Res T.signature κs → AtExit T κs → Type 0) → ClausesAt 𝓤 T κs
  stated asked said = record { ghost = Unit {0}; requires = λ _. asked; ensures = λ _ r e. fact 𝓤 (said r e) }

  module _ {N : RattleType} (K : Holder N) where
    abbrev H : RattleType
    H = row K

    abbrev L : RattleType
    L = loose.the_row N Z g

    -- `of_loose` keeps the pointer with what it owns
    abbrev of_ended : Ended
    of_ended = signed 0 (plain (λ _. L) ∷ []) (yes, tt) (plain (λ _. H))

    abbrev of_clauses : Clauses 𝓤 of_ended
    of_clauses κs a = stated (emp 𝓤) (λ r e. K.value r ≡ K.full a.0.value)

    abbrev of_code : Fn
    of_code = lowered 1 (holder_type K ∷ lone L.mir ∷ ty_ptr ∷ ty_ptr ∷ [])
        (seq (assign (place 2 []) (rv_opd (copy (place 1 (field 0 ∷ [])))))
        (seq (assign (place 3 []) (rv_opd (copy (place 2 []))))
        (seq (assign (place 0 []) (aggregate (copy (place 3 []) ∷ []))) return)))

    abbrev of_stays : Stays of_ended.signature.params of_ended.kept
    of_stays = (stay_dropped _ yes, tt)

    pub makes_of_loose : (k : Callee) → Closed 𝓤 𝓛.H 𝓣.C 𝓣.Λ k of_code
        → Meets 𝓛 of_ended.signature (𝓣.C k) (closing 𝓛 of_ended of_clauses)
    makes_of_loose k closed =
        let c = of_clauses in
        proved_at 𝓛 of_ended of_stays c 𝓜 𝓡 (Goes-dropped 𝓛 0 (plain (λ _. L)) yes (λ κs x f. refl), tt)
        k of_code closed (λ z are.
        let v = z.0.3.0 in let Post : Val → SProp 𝓤 = (walk_of 𝓛 of_ended of_stays c).post z in
        let Run : List Val → SProp 𝓤 = λ ws. WpFn 𝓤 𝓛.H 𝓣.C 𝓣.Λ of_code ws Post in
        qed 𝓛 ((‵ ftrue ⊛ ‵ (owns (L ∷ []) z.0.3 z.0.4)) ∷ ‵ ftrue ∷ []) ∵ split ! $ drop ! $ fsplit ! $
        loose_out N Z LZ g ! v z.0.4.0 (λ b o h e ws fits.
        let typed = loose_good N Z LZ g b o h fits in let made = K.made (block_ptr b o) (K.full v.value) in
        suffices ! (Run (both (vptr b o) h ∷ [])) (runs_at 𝓤 Run (both (vptr b o) h ∷ []) _ (λ i. ws i ++ [])) $
        keep ! (0 ∷ []) $
        enter ! _ _ _ _ _ $ alloc_all ! (λ l. pass_all ! refl (typed, tt) $
        sets ! (of_opd ! (get_in ! (fld ! refl (stop !)) (sub ! 0 refl (whole !)))) refl (tt, tt) $ sets !
        (of_opd ! (get ! refl)) refl (tt, tt) $
        sets ! (agg ! (and_then ! (get ! refl) (no_more !))) refl (tt, (tt, tt)) $
        returns ! (look_at ! 0 refl) $ free_all ! refl $
        fpack ! Global (owned N (block_ptr b o) v.value) v.alloc $
        full_in K ! b o v.value $
        suffices ! _ (ends_at 𝓛 of_ended of_stays c z (word (block_ptr b o))
        (K.make (block_ptr b o) (K.full v.value)) (tt, tt) (tt, tt)) $ says ! made.1 $
        nothing ! $ nothing ! $ join ! $ nothing ! $ group ! 3 $ done !)))

  -- `none` of a pointer to a handle owns nothing
  abbrev S : RattleType
  S = row slot_holder

  abbrev none_ended : Ended
  none_ended = signed 0 [] tt (plain (λ _. S))

  abbrev none_clauses : Clauses 𝓤 none_ended
  none_clauses κs a = stated (emp 𝓤) (λ r e. slot_holder.value r ≡ None)

  abbrev none_code : Fn
  none_code = lowered 0 (holder_type slot_holder ∷ [])
      (seq (assign (place 0 []) (aggregate (int w64 0 ∷ []))) return)

  pub makes_none : (k : Callee) → Closed 𝓤 𝓛.H 𝓣.C 𝓣.Λ k none_code
      → Meets 𝓛 none_ended.signature (𝓣.C k) (closing 𝓛 none_ended none_clauses)
  makes_none k closed =
      let c = none_clauses in let W = walk_of 𝓛 none_ended tt c in
      proved 𝓛 none_ended tt c 𝓜 𝓡 tt k none_code closed (λ κs. tt) (λ κs. tt) (λ κs qs bounds a _ are.
      let y : W.Ghost = ((κs, qs, bounds, a, tt), tt) in
      qed 𝓛 ((‵ ftrue ⊛ ‵ ftrue) ∷ ‵ ftrue ∷ []) ∵ drop ! $ drop ! $
      enter ! _ _ _ _ _ $ alloc_all ! (λ l. pass_all ! refl tt $
      sets ! (agg ! (and_then ! (lit ! tt) (no_more !))) refl (tt, (record { fits = lit< tt }, tt)) $
      returns ! (look_at ! 0 refl) $ free_all ! refl $ nothing ! $ holder_in slot_holder ! null_ptr None $
      suffices ! _ (ends_at 𝓛 none_ended tt c y (word null_ptr) (slot_holder.make null_ptr None) tt tt) $
      says ! refl $ nothing ! $ nothing ! $ group ! 3 $ done !))

  -- `into_loose` of a handle hands over what it owns
  abbrev K : Holder held.the_row
  K = handle_holder

  abbrev N : RattleType
  N = held.the_row

  abbrev into_ended : Ended
  into_ended = signed 0 (plain (λ _. row K) ∷ plain (λ _. Z) ∷ []) (yes, (yes, tt)) (plain (λ _. L K))

  abbrev into_clauses : Clauses 𝓤 into_ended
  into_clauses κs a = stated (emp 𝓤) (λ r e. r.value ≡ K.value a.0)

  abbrev into_code : Fn
  into_code = lowered 2 (lone (L K).mir ∷ holder_type K ∷ lone Z.mir ∷ ty_ptr ∷ ty_ptr ∷ [])
      (seq (assign (place 3 []) (rv_opd (copy (place 1 (field 0 ∷ [])))))
      (seq (assign (place 4 []) (rv_opd (copy (place 3 []))))
      (seq (assign (place 0 []) (aggregate (copy (place 4 []) ∷ copy (place 2 []) ∷ []))) return)))

  abbrev into_stays : Stays into_ended.signature.params into_ended.kept
  into_stays = (stay_dropped _ yes, (stay_dropped _ yes, tt))

  pub makes_into_loose : (k : Callee) → Closed 𝓤 𝓛.H 𝓣.C 𝓣.Λ k into_code
      → Meets 𝓛 into_ended.signature (𝓣.C k) (closing 𝓛 into_ended into_clauses)
  makes_into_loose k closed =
      let c = into_clauses in
      proved_at 𝓛 into_ended into_stays c 𝓜 𝓡 (
        Goes-dropped 𝓛 0 (plain (λ _. row K)) yes (λ κs x f. refl),
        (Goes-dropped 𝓛 0 (plain (λ _. Z)) yes (λ κs x f. refl), tt),
      ) k into_code closed (λ z are.
      let v = z.0.3.0 in let a = z.0.3.1.0 in
      let Post : Val → SProp 𝓤 = (walk_of 𝓛 into_ended into_stays c).post z in
      let Run : List Val → SProp 𝓤 = λ ws. WpFn 𝓤 𝓛.H 𝓣.C 𝓣.Λ into_code ws Post in
      qed 𝓛 ((‵ ftrue ⊛ ‵ (owns (row K ∷ Z ∷ []) z.0.3 z.0.4)) ∷ ‵ ftrue ∷ []) ∵ split ! $ drop ! $ fsplit ! $
      keep ! (0 ∷ 1 ∷ []) $ holder_out K ! v z.0.4.0 (λ ew. move ! (1 ∷ []) $ fsplit ! $ move ! (1 ∷ []) $ drop ! $
      peeks ! Z (Is Z) (shows 𝓛 Z) a z.0.4.1.0 (λ ia. let eh = heap_Tells a z.0.4.1.0 ia in
      rewrite ! 0 (λ (us : List Val). ‵ (Z.own_val a us)) eh refl $ move ! (1 ∷ 0 ∷ []) $
      fpick ! (λ a'.
      in_a_block ! (K.at v) (λ p. owned N p (K.value v) a')
      (fst∗ 𝓤 (never 𝓤) (sem 𝓛 (g.dealloc_token a' (bare (lone N.mir)) null_ptr))) (λ b o e.
      let us : List Val = word (block_ptr b o) ∷ heap_val ∷ [] in
      let ws : z.0.4.0 ≡ word (block_ptr b o) ∷ [] = ew ∙ (λ i. word (e i) ∷ []) in
      suffices ! (Run us) (runs_at 𝓤 Run us _ (λ i. ws i ++ (eh i ++ []))) $
      enter ! _ _ _ _ _ $ alloc_all ! (λ l.
      pass_all ! refl ((tt, (tt, tt)), ((tt, ((tt, tt), tt)), tt)) $
      sets ! (of_opd ! (get_in ! (fld ! refl (stop !)) (sub ! 0 refl (whole !)))) refl (tt, tt) $ sets !
      (of_opd ! (get ! refl)) refl (tt, tt) $
      sets ! (agg ! (and_then ! (get ! refl) (and_then ! (get ! refl) (no_more !)))) refl
      (tt, (tt, (((tt, tt), tt), tt))) $
      returns ! (look_at ! 0 refl) $ free_all ! refl $ loose_in N Z LZ g ! b o heap_val a (K.value v) $
      suffices ! _ (ends_at 𝓛 into_ended into_stays c z (both (vptr b o) heap_val)
      (record { at = block_ptr b o; alloc = a; value = K.value v }) (tt, (tt, tt)) (tt, (tt, tt))) $ says ! refl $
      nothing ! $ nothing ! $ join ! $ nothing ! $ join ! $ nothing ! $ group ! 3 $ done !))))))
