-- What `into_loose` of a pointer to a handle does.
use Rattle.std.proofs.Common.{◌≡◌, ℕ, List, [], ◌∷◌, ◌++◌, refl, ◌∙◌, lit<}
use Rattle.std.specs.Prelude.{Option, Some, None}
use Rattle.std.specs.Option.{option_map}
use Rattle.std.proofs.raw_atomic.Walks.{proved_at}
use Rattle.std.proofs.VecSteps.Shapes.{after}
use Rattle.std.proofs.Handle.{heap_val, heap_Tells}
use Rattle.std.proofs.GlobalToken.{dealloc_token-Testable}
use Rattle.std.specs.declared.alloc.Global.{Global}
use base.Fml.{ftrue}
use base.Logic.{SProp, ent, emp, via, snd∗, guard, guard_i, never, never_e, id⊢}
use seplogic.Ra.Ura.{Ura}
use mir.Raw.{raw as bare}
use mir.Syntax.{Fn, Body, Callee, seq, assign, cond, place, field, aggregate, rv_opd, op2, ptr_eq, copy, int, w8, w64, return, ty_ptr, ty_bool}
use mir.Val.{Val, vptr, vcons, vnil}
use contract.Monad.{fact_use}
use contract.Running.{Running, MachineTables, tables}
use prog.Model.{Model}
use prog.Wp.{WpFn, Closed}
use types.Logic.{Logic, sem}
use types.Kit.{Item, Goal, Seq, given, learn, use0, use1, at_ret, ‵, ◌⊛◌, ◌$◌, ◌∵◌, !, qed, done, drop, move, keep, split, join, fsplit, fpick, fpack, rewrite, suffices, group}
use types.Match.{live}
use types.Part.{agg, sub, whole}
use types.Run.{enter, of_opd, bin, fld, stop, lit, no_more, and_then, first, branches, exec, returns}
use types.ByLocal.{alloc_all, pass_all, free_all, look_at, get, get_in, sets, sets_last, env}
use denote.Exit.{yes}
use denote.Laws.{Is, shows}
use denote.Memory.{lone}
use denote.RattleType.{RattleType, owns}
use denote.RawPtr.{Ptr, block_ptr, null_ptr, lies_at, tests_null, Testable}
use denote.Signature.{plain}
use denote.Steps.{nothing, peeks}
use denote.Triple.Clauses.{Ended, Clauses, closing}
use denote.Triple.Spec.{Meets}
use denote.Triple.Walked.{Stays, walk_of, stay_dropped, Goes-dropped, says, ends_at}
use Rattle.std.specs.contracts.option.Option as OP
use Rattle.std.proofs.option.Made.{Some-of, none_of}
use Rattle.zirmegat.specs.Owned.{owned, boxed_at}
use Rattle.zirmegat.specs.Slots.{boxed_or_null}
use Rattle.zirmegat.specs.contracts.handle.Handle as handle
use Rattle.zirmegat.proofs.{Values.runs_at, Values.both, Values.loose_in, Holders.Z, Holders.LZ, Holders.g, Holders.Holder, Holders.word, Holders.holder_type, Holders.row}
use Rattle.zirmegat.proofs.{Holders.slot_holder, Holders.holder_out, HolderFunctions.signed, HolderFunctions.lowered, HolderFunctions.stated}
use Rattle.zirmegat.specs.contracts.loose.Loose as loose

abbrev N : RattleType
N = handle.the_row

abbrev K : Holder N
K = slot_holder

abbrev L : RattleType
L = loose.the_row N Z g

abbrev Out : RattleType
Out = OP.the_row L

module _ {M : Type 1} {𝓤 : Ura M} (𝓛 : Logic 𝓤) where
  -- a block that may be freed may be compared with null
  tested : (a : Global) (p : Ptr) (x : N.Denot)
      → ent 𝓤 (sem 𝓛 (owned N p x a)) (guard 𝓤 (Testable p) (sem 𝓛 (owned N p x a)))
  tested a p x =
      fact_use 𝓤 (Testable p)
      (via 𝓤 _ (snd∗ 𝓤 (sem 𝓛 (lies_at N _ p x)) (sem 𝓛 (g.dealloc_token a (bare (lone N.mir)) p)))
      (dealloc_token-Testable 𝓛 a (bare (lone N.mir)) p)) (guard_i 𝓤 (Testable p) (sem 𝓛 (owned N p x a)))

  -- what a pointer or null owns: nothing at null, or the block of a value, which may be compared with null
  module _ {T : Type 0} {Γ : List (Item 𝓤)} {G : Goal 𝓤 𝓛.H} where
    pub either : T → (p : Ptr) (n : Option N.Denot) → (p ≡ null_ptr → n ≡ None → Seq T 𝓛 Γ G)
        → ((b o : ℕ) (x : N.Denot) → p ≡ block_ptr b o → n ≡ Some x → Testable (block_ptr b o)
        → Seq T 𝓛 (‵ (boxed_at N (block_ptr b o) x) ∷ Γ) G) → Seq T 𝓛 (‵ (boxed_or_null N p n) ∷ Γ) G
    either t null_ptr None none one = drop t $ none refl refl
    either t null_ptr (Some x) none one =
        use1 𝓛 (given ⊥ (‵ ftrue)) (via 𝓤 (never 𝓤) (id⊢ 𝓤 (never 𝓤)) (never_e 𝓤 _)) $ learn t (λ z. absurd z)
    either t (block_ptr b o) None none one =
        use1 𝓛 (given ⊥ (‵ ftrue)) (via 𝓤 (never 𝓤) (id⊢ 𝓤 (never 𝓤)) (never_e 𝓤 _)) $ learn t (λ z. absurd z)
    either t (block_ptr b o) (Some x) none one =
        fpick t (λ a. let p : Ptr = block_ptr b o in use1 𝓛 (given (Testable p) (‵ (owned N p x a))) (tested a p x) $
        learn t (λ test. fpack t Global (owned N p x) a $ one b o x refl refl test))

module _ {M : Type 1} (𝓤 : Ura M) (𝓛 : Logic 𝓤) (𝓜 : Model 𝓤 𝓛.H) (𝓡 : Running 𝓤 𝓛.H 𝓜) where
  abbrev 𝓣 : MachineTables 𝓤 𝓛.H 𝓜
  𝓣 = tables 𝓤 𝓛.H 𝓜 𝓡 𝓡.env

  abbrev ended : Ended
  ended = signed 0 (plain (λ _. row K) ∷ plain (λ _. Z) ∷ []) (yes, (yes, tt)) (plain (λ _. Out))

  abbrev clauses : Clauses 𝓤 ended
  clauses κs a = stated 𝓤 𝓛 𝓜 𝓡 (emp 𝓤) (λ r e. K.value a.0 ≡ option_map (λ l. l.value) r)

  abbrev body : Body
  body = seq (assign (place 3 []) (rv_opd (copy (place 1 (field 0 ∷ [])))))
      (seq (assign (place 4 []) (op2 ptr_eq (copy (place 3 [])) (int w64 0)))
      (seq (cond (copy (place 4 [])) (assign (place 5 []) (aggregate (int w8 0 ∷ [])))
      (seq (assign (place 6 []) (rv_opd (copy (place 3 []))))
      (seq (assign (place 7 []) (aggregate (copy (place 6 []) ∷ copy (place 2 []) ∷ [])))
      (assign (place 5 []) (aggregate (int w8 1 ∷ copy (place 7 []) ∷ []))))))
      (seq (assign (place 0 []) (rv_opd (copy (place 5 [])))) return)))

  abbrev code : Fn
  code = lowered 2 (lone Out.mir ∷ holder_type K ∷ lone Z.mir ∷ ty_ptr ∷ ty_bool ∷ lone Out.mir ∷ ty_ptr
      ∷ lone L.mir ∷ []) body

  abbrev stays : Stays ended.signature.params ended.kept
  stays = (stay_dropped _ yes, (stay_dropped _ yes, tt))

  pub into_loose : (k : Callee) → Closed 𝓤 𝓛.H 𝓣.C 𝓣.Λ k code
      → Meets 𝓛 ended.signature (𝓣.C k) (closing 𝓛 ended clauses)
  into_loose k closed =
      let c = clauses in
      proved_at 𝓛 ended stays c 𝓜 𝓡 (
        Goes-dropped 𝓛 0 (plain (λ _. row K)) yes (λ κs x f. refl),
        (Goes-dropped 𝓛 0 (plain (λ _. Z)) yes (λ κs x f. refl), tt),
      ) k code closed (λ z are.
      let v = z.0.3.0 in let a = z.0.3.1.0 in
      let Post : Val → SProp 𝓤 = (walk_of 𝓛 ended stays c).post z in
      let Run : List Val → SProp 𝓤 = λ ws. WpFn 𝓤 𝓛.H 𝓣.C 𝓣.Λ code ws Post in
      qed 𝓛 ((‵ ftrue ⊛ ‵ (owns (row K ∷ Z ∷ []) z.0.3 z.0.4)) ∷ ‵ ftrue ∷ []) ∵ split ! $ drop ! $ fsplit ! $
      keep ! (0 ∷ 1 ∷ []) $ holder_out K ! v z.0.4.0 (λ ew. move ! (1 ∷ []) $ fsplit ! $ move ! (1 ∷ []) $ drop ! $
      peeks ! Z (Is Z) (shows 𝓛 Z) a z.0.4.1.0 (λ ia. let eh = heap_Tells a z.0.4.1.0 ia in
      rewrite ! 0 (λ (us : List Val). ‵ (Z.own_val a us)) eh refl $ move ! (1 ∷ 0 ∷ []) $
      either 𝓛 ! (K.at v) (K.value v)
      (λ ep en. let us : List Val = word null_ptr ∷ heap_val ∷ [] in
      let ws : z.0.4.0 ≡ word null_ptr ∷ [] = ew ∙ (λ i. word (ep i) ∷ []) in
      suffices ! (Run us) (runs_at 𝓤 Run us _ (λ i. ws i ++ (eh i ++ []))) $
      enter ! _ _ _ _ _ $ alloc_all ! (λ l. let Ev = env code.locals l in
      pass_all ! refl ((tt, (record { fits = lit< tt }, tt)), ((tt, ((tt, tt), tt)), tt)) $
      sets ! (of_opd ! (get_in ! (fld ! refl (stop !)) (sub ! 0 refl (whole !)))) refl (tt, record { fits = lit< tt }) $
      sets ! (bin ! (get ! refl) (lit ! tt) (tests_null null_ptr (lit< tt))) refl (tt, tt) $
      first ! $ branches ! (get ! refl)
      (λ _. sets_last ! (agg ! (and_then ! (lit ! tt) (no_more !))) refl (tt, (record { fits = lit< tt }, tt)) $
      exec ! 𝓣.C 𝓣.Λ Ev (after 3 body) (at_ret Ev Post) $
      sets ! (of_opd ! (get ! refl)) refl (tt, (record { fits = lit< tt }, tt)) $
      returns ! (look_at ! 0 refl) $ free_all ! refl $ drop ! $
      use0 𝓛 (‵ (Out.own_val None (live 0 vnil ∷ []))) (none_of 𝓛 L) $
      suffices ! _ (ends_at 𝓛 ended stays c z (live 0 vnil) None (tt, (tt, tt)) (tt, (tt, tt))) $ says ! en $
      nothing ! $ nothing ! $ join ! $ nothing ! $ join ! $ nothing ! $ group ! 3 $ done !)
      (λ wrong. absurd wrong)))
      (λ b o x ep en test. let us : List Val = word (block_ptr b o) ∷ heap_val ∷ [] in
      let ws : z.0.4.0 ≡ word (block_ptr b o) ∷ [] = ew ∙ (λ i. word (ep i) ∷ []) in
      let made : Val = both (vptr b o) heap_val in
      let v₁ : Val = live 1 (vcons made vnil) in
      let d : L.Denot = record { at = block_ptr b o; alloc = a; value = x } in
      suffices ! (Run us) (runs_at 𝓤 Run us _ (λ i. ws i ++ (eh i ++ []))) $
      enter ! _ _ _ _ _ $ alloc_all ! (λ l. let Ev = env code.locals l in
      pass_all ! refl ((tt, (tt, tt)), ((tt, ((tt, tt), tt)), tt)) $
      sets ! (of_opd ! (get_in ! (fld ! refl (stop !)) (sub ! 0 refl (whole !)))) refl (tt, tt) $
      sets ! (bin ! (get ! refl) (lit ! tt) (tests_null (block_ptr b o) test)) refl (tt, tt) $
      first ! $ branches ! (get ! refl) (λ wrong. absurd wrong)
      (λ _. sets ! (of_opd ! (get ! refl)) refl (tt, tt) $
      sets ! (agg ! (and_then ! (get ! refl) (and_then ! (get ! refl) (no_more !)))) refl
      (tt, (tt, (((tt, tt), tt), tt))) $
      sets_last ! (agg ! (and_then ! (lit ! tt) (and_then ! (get ! refl) (no_more !)))) refl
      (tt, (record { fits = lit< tt }, ((tt, (((tt, tt), tt), tt)), tt))) $
      exec ! 𝓣.C 𝓣.Λ Ev (after 3 body) (at_ret Ev Post) $
      sets ! (of_opd ! (get ! refl)) refl (tt, (record { fits = lit< tt }, ((tt, (((tt, tt), tt), tt)), tt))) $
      returns ! (look_at ! 0 refl) $ free_all ! refl $ fpick ! (λ a'. loose_in N Z LZ g ! b o heap_val a x $
      use1 𝓛 (‵ (Out.own_val (Some d) (v₁ ∷ []))) (Some-of 𝓛 L d made) $
      suffices ! _ (ends_at 𝓛 ended stays c z v₁ (Some d) (tt, (tt, tt)) (tt, (tt, tt))) $ says ! en $
      nothing ! $ nothing ! $ join ! $ nothing ! $ join ! $ nothing ! $ group ! 3 $ done !)))))))
