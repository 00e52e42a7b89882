-- The box of an index: how a call takes it apart and how one makes it, at `Map` and `Global`.
--     index_glue, heap_glue     the drops that the calls pass, and index_drops, heap_drops: that each does what a drop is to do
--     Apart, Again              the contracts of the two calls
--     asks_apart, asks_again    what they ask, from what the box owns, and from what lies at its block
--     parted, whole_again       what they gave, as steps
-- Assumes `Logic`.
use Rattle.std.proofs.Common.{◌≡◌, ℕ, List, [], ◌∷◌, ◌++◌, refl, sym, ap, ◌∙◌, subst}
use seplogic.Ra.Ura.{Ura}
use mir.Syntax.{Dict, impl, method, no_args, tcons, tnil, dnil}
use mir.Raw.{raw as bare}
use mir.Val.{Val, vptr, vstruct, of_list}
use base.Fraction.{full_share}
use base.Logic.{SProp, ent, sep, emp, never, id⊢, fst∗}
use base.Fml.{Lft, ftrue, flft}
use prog.Model.{Model}
use prog.Wired.{Wired}
use types.Logic.{Logic, sem}
use types.Kit.{Item, Goal, Seq, Soaks, ‵, raw, ◌⊛◌, some, later, ◌$◌, ◌∵◌, !, qed, done, move, drop, use0, use1, split, split3, join, fsplit, fjoin, fpick, feq_i, feq_l, pick, await, rewrite}
use contract.Monad.{fact, fact_i}
use contract.BorrowLft.{◌⊑◌, ⊑_refl}
use contract.Running.{Running}
use borrow.Fn.Glue.{glue_by, glue_ps}
use borrow.Fn.Impl.{via_longer, method_Known}
use borrow.Fn.Kinds.{ended_of, stays, r_unit}
use borrow.Fn.Run.{Over}
use borrow.Fn.World.{World}
use denote.RattleType.{RattleType}
use denote.Builtin.{RawPtr}
use denote.Laws.{Typed, shows}
use denote.Memory.{lone}
use denote.Exit.{no}
use denote.Param.{layout, arg}
use denote.Param.Laws.{Laws, arg_laws}
use denote.Param.Glue.{Met}
use denote.Param.NoDrop.{glues}
use denote.RawPtr.{Ptr, block_ptr, null_ptr, ptr_val, in_a_block}
use denote.Steps.{nothing, only, heard, peeks}
use denote.Struct.Tuple.{Tuple}
use denote.Triple.Carry.{AllWithin}
use denote.Triple.Clauses.{Lasts, lasts, at_exit}
use denote.Triple.Spec.{triple_of}
use denote.Triple.Statement.{Contract}
use denote.Triple.Walked.{Fit}
use Rattle.core.proofs.cell.Inside.{Good, one}
use Rattle.std_alloc.proofs.Pairs.{pair_val}
use Rattle.std_alloc.proofs.boxed.Box.TheLaws as box_laws
use Rattle.std_alloc.specs.Box.Ownership.{box_owns}
use Rattle.std_alloc.specs.contracts.boxed.Box as boxed
use Rattle.std_alloc.specs.contracts.boxed.Box.from_raw as again
use Rattle.std_alloc.specs.contracts.boxed.Box.into_raw_with_allocator as apart
use Rattle.std_heap.specs.contracts.GlobalAllocator.TheImpl.{ghosts, dict}
use Rattle.std_heap.specs.contracts.Global.{the_row as Heap}
use Rattle.std_heap.proofs.Global.TheLaws as heap_laws
use Rattle.std_heap.specs.declared.Global.{Global}
use Rattle.rowanspan_c.specs.contracts.file_log.FileLog.{the_row as Index}
use Rattle.rowanspan_c.proofs.file_log.FileLog.TheLaws as index_laws
use Rattle.rowanspan_c.proofs.Destruct++none.drop.Symbol as no_drop
use Rattle.rowanspan_c.proofs.Destruct++none.drop.Code as no_drop_code
use Rattle.rowanspan_c.proofs.file_log.FileLog.drop.Symbol as index_drop
use Rattle.rowanspan_c.proofs.file_log.FileLog.drop.Met as index_met
use Rattle.rowanspan_c.proofs.file_log.FileLog.drop.Kinds as kinds
use Rattle.rowanspan_c.proofs.file_log.FileLog.drop.Reads as reads

-- the two types as a call names them: by how they lie alone
abbrev pub IndexArg : RattleType
IndexArg = arg (bare (layout Index)) no Index

abbrev pub HeapArg : RattleType
HeapArg = arg (bare (layout Heap)) no Heap

abbrev pub index_arg_laws : Laws IndexArg
index_arg_laws = arg_laws (bare (layout Index)) no Index index_laws.the_row_laws refl

abbrev pub heap_arg_laws : Laws HeapArg
heap_arg_laws = arg_laws (bare (layout Heap)) no Heap heap_laws.the_row_laws refl

abbrev pub index_glue : Dict
index_glue = impl ("rowanspan_c::file_log::FileLog::drop" ∷ []) tnil dnil

abbrev pub heap_glue : Dict
heap_glue = impl ("rowanspan_c::Destruct++none::drop" ∷ []) (tcons (layout HeapArg) tnil) dnil

abbrev pub IndexBox : RattleType
IndexBox = boxed.the_row Index Heap ghosts

-- what the machine has of a `Global`
abbrev pub heap_word : Global → Val
heap_word a = heap_laws.lowers.lowered a

-- a run on the one machine value of an argument
pub on_word : {M : Type 1} (𝓤 : Ura M) (Run : List Val → SProp 𝓤) (vs : List Val) (w : Val) → vs ≡ w ∷ [] → ent 𝓤 (Run (w ∷ [])) (Run (vs ++ []))
on_word 𝓤 Run vs w told = subst (λ (us : List Val). ent 𝓤 (Run (w ∷ [])) (Run (us ++ []))) (sym told) (id⊢ 𝓤 (Run (w ∷ [])))

module _ {M : Type 1} {𝓤 : Ura M} (𝓛 : Logic 𝓤) (𝓜 : Model 𝓤 𝓛.H) (𝓡 : Running 𝓤 𝓛.H 𝓜) where
  pub heap_drops : Wired 𝓡.env no_drop.code → Met 𝓛 𝓜 𝓡 𝓡.env HeapArg heap_glue
  unfolding no_drop_code.code
  heap_drops w = glues "rowanspan_c::Destruct++none::drop" 𝓡.env w HeapArg heap_arg_laws M 𝓤 𝓛 𝓜 𝓡

  pub index_drops : Wired 𝓡.env index_drop.code → Met 𝓛 𝓜 𝓡 𝓡.env IndexArg index_glue
  index_drops w =
      let world : World = record { M = M; 𝓤 = 𝓤; 𝓛 = 𝓛; 𝓜 = 𝓜; 𝓡 = 𝓡 } in let L = index_arg_laws in let En = ended_of 0 kinds.ps kinds.r in let key = method index_glue 0 no_args in
      glue_by IndexArg L world index_glue 𝓡.env
      (λ κs a. Lasts En tt a) (λ κs a. lasts En tt a) (λ κs a x ws. Fit En (stays kinds.ps) tt a ws × reads.Learnt tt a x (at_exit En tt a ws))
      (λ κs a. AllWithin 1 (κs.0, tt) (IndexArg.lives, tt) × Unit {0}) 0 tt (λ κs a h. ((h, tt), tt))
      (via_longer 𝓛 (Over 𝓛 𝓜 𝓡 𝓡.env) 1 (glue_ps IndexArg L) r_unit
      (λ κs a. Lasts En tt a) (λ κs a. lasts En tt a) (λ κs a x ws. Fit En (stays kinds.ps) tt a ws × reads.Learnt tt a x (at_exit En tt a ws))
      (λ κs a. AllWithin 1 (κs.0, tt) (IndexArg.lives, tt) × Unit {0}) key 0 tt (λ κs. tt) (λ κs a. reads.Asked tt a) (λ κs a p. (tt, tt))
      (λ κs bd within a vss qs. method_Known 0 kinds.ps kinds.r reads.requires reads.ensures reads.Asked reads.Learnt reads.known world index_drop.name key
      (index_drop.as_method 𝓡.env w key refl) (index_met.met 𝓤 𝓛 𝓜 𝓡 w) ((tt, qs, tt, a, vss), tt)))

  abbrev pub Apart : Contract 𝓤
  Apart = triple_of 𝓛 (apart.signature IndexArg HeapArg ghosts dict heap_glue index_glue) (apart.spec IndexArg HeapArg ghosts dict heap_glue index_glue 𝓛 𝓜.mem 𝓡.returns)

  abbrev pub Again : Contract 𝓤
  Again = triple_of 𝓛 (again.signature IndexArg HeapArg ghosts dict heap_glue) (again.spec IndexArg HeapArg ghosts dict heap_glue 𝓛 𝓜.mem 𝓡.returns)

  module _ (v : IndexBox.Denot) (w : Val) where
    abbrev pub at_apart : Apart.Ghost
    at_apart = ((([], ([], tt)), (full_share, (full_share, tt)), tt, (v, tt), (w ∷ [], tt)), tt)

    pub asks_apart : ent 𝓤 (sem 𝓛 (IndexBox.own_val v (w ∷ []))) (Apart.pre at_apart)
    asks_apart =
        qed 𝓛 (‵ (IndexBox.own_val v (w ∷ [])) ∷ []) ∵ nothing ! $ move ! (1 ∷ 0 ∷ []) $ fjoin ! $
        nothing ! $ use0 𝓛 (‵ (flft [] full_share)) (𝓛.lfts.lft-nil full_share) $ join ! $ use0 𝓛 (‵ (flft [] full_share)) (𝓛.lfts.lft-nil full_share) $ join ! $ join ! $
        nothing ! $ use0 𝓛 (raw (fact 𝓤 ([] ⊑ Heap.lives))) (fact_i 𝓤 ([] ⊑ Heap.lives) (emp 𝓤) (⊑_refl [])) $ join ! $ use0 𝓛 (raw (fact 𝓤 ([] ⊑ Index.lives))) (fact_i 𝓤 ([] ⊑ Index.lives) (emp 𝓤) (⊑_refl [])) $ join ! $
        move ! (1 ∷ 0 ∷ []) $ join ! $ use1 𝓛 (raw (Apart.pre at_apart)) (id⊢ 𝓤 _) $ done !

  module _ (a : Global) (b o : ℕ) (x : Index.Denot) where
    abbrev pub at_again : Again.Ghost
    at_again = ((([], ([], tt)), (full_share, (full_share, tt)), tt, (a, (block_ptr b o, tt)), (heap_word a ∷ [], (vptr b o ∷ [], tt))), x)

    pub asks_again : ent 𝓤 (sep 𝓤 (sem 𝓛 (box_owns (ghosts.dealloc_token a) Index (block_ptr b o) x)) (sem 𝓛 (Heap.own_val a (heap_word a ∷ [])))) (Again.pre at_again)
    asks_again =
        qed 𝓛 (‵ (box_owns (ghosts.dealloc_token a) Index (block_ptr b o) x) ∷ ‵ (Heap.own_val a (heap_word a ∷ [])) ∷ []) ∵
        use0 𝓛 (raw (fact 𝓤 ([] ⊑ Heap.lives))) (fact_i 𝓤 ([] ⊑ Heap.lives) (emp 𝓤) (⊑_refl [])) $ join ! $ use0 𝓛 (raw (fact 𝓤 ([] ⊑ Index.lives))) (fact_i 𝓤 ([] ⊑ Index.lives) (emp 𝓤) (⊑_refl [])) $ join ! $
        nothing ! $ feq_i ! (List Val) (vptr b o ∷ []) (vptr b o ∷ []) refl $ fjoin ! $ move ! (2 ∷ 0 ∷ []) $ fjoin ! $
        nothing ! $ use0 𝓛 (‵ (flft [] full_share)) (𝓛.lfts.lft-nil full_share) $ join ! $ use0 𝓛 (‵ (flft [] full_share)) (𝓛.lfts.lft-nil full_share) $ join ! $
        join ! $ join ! $ use1 𝓛 (raw (Again.pre at_again)) (id⊢ 𝓤 _) $ done !

  module _ {K : Type 0} {Γ : List (Item 𝓤)} {G : Goal 𝓤 𝓛.H} where
    -- the pair that a box came apart into: a pointer to its block, and its allocator
    pub parted : K → Soaks G → (v : IndexBox.Denot) (w u : Val)
        → ((b o : ℕ) → u ≡ pair_val (vptr b o) (heap_word v.alloc) → Typed Heap.mir (heap_word v.alloc ∷ [])
        → Seq K 𝓛 (‵ (box_owns (ghosts.dealloc_token v.alloc) Index (block_ptr b o) v.value) ∷ ‵ (Heap.own_val v.alloc (heap_word v.alloc ∷ [])) ∷ Γ) G)
        → Seq K 𝓛 (raw (Apart.post (at_apart v w) u) ∷ Γ) G
    parted t z v w u next =
        let a = v.alloc in let En = apart.ended IndexArg HeapArg ghosts dict heap_glue index_glue in let Held : Ptr → base.Fml.Fml = λ p. box_owns (ghosts.dealloc_token a) Index p v.value in
        use1 𝓛 (later (some (λ (r : Ptr × Global). ((‵ (flft [] full_share) ⊛ ‵ (flft [] full_share) ⊛ ‵ ftrue) ⊛ ‵ ((Tuple (RawPtr ∷ Heap ∷ [])).own_val r (u ∷ [])))
        ⊛ some (λ (ls : Lasts En ([], ([], tt)) (v, tt)). ‵ (lasts En ([], ([], tt)) (v, tt) ls) ⊛ (raw (fact 𝓤 (r.1 ≡ a)) ⊛ ‵ (Held r.0)))))) (id⊢ 𝓤 (Apart.post (at_apart v w) u)) $
        await t z $ pick t (λ r. split t $ split t $ drop t $ move t (1 ∷ []) $ pick t (λ ls. split3 t $ drop t $ heard t (r.1 ≡ a) (λ same.
        in_a_block t r.0 Held (fst∗ 𝓤 (never 𝓤) (sem 𝓛 (ghosts.dealloc_token a (bare (lone Index.mir)) null_ptr))) (λ b o there.
        move t (1 ∷ []) $ fpick t (λ vss. fsplit t $ feq_l t (λ paired. fsplit t $ feq_l t (λ pointed. fsplit t $ move t (1 ∷ []) $ drop t $
        rewrite t 0 (λ (s : Global). ‵ (Heap.own_val s vss.1.0)) same refl $ peeks t Heap _ (shows 𝓛 Heap) a vss.1.0 (λ seen.
        let told = heap_laws.lowers.val_is a vss.1.0 seen in
        rewrite t 0 (λ (us : List Val). ‵ (Heap.own_val a us)) told refl $ move t (1 ∷ 0 ∷ []) $
        next b o
        (ap only (paired ∙ ap (λ (ps : List Val). vstruct (of_list (ps ++ (vss.1.0 ++ []))) ∷ []) (pointed ∙ ap (λ (p : Ptr). ptr_val p ∷ []) there) ∙ ap (λ (hs : List Val). vstruct (of_list (vptr b o ∷ (hs ++ []))) ∷ []) told))
        (subst (Typed Heap.mir) told ((heap_laws.the_row_laws.lawful 𝓛).typed a vss.1.0 seen))))))))))

    -- the box that was made
    pub whole_again : K → Soaks G → (a : Global) (b o : ℕ) (x : Index.Denot) (u : Val)
        → ((r : IndexBox.Denot) → r.value ≡ x → Seq K 𝓛 (‵ (IndexBox.own_val r (u ∷ [])) ∷ Γ) G)
        → Seq K 𝓛 (raw (Again.post (at_again a b o x) u) ∷ Γ) G
    whole_again t z a b o x u next =
        let En = again.ended IndexArg HeapArg ghosts dict heap_glue in
        use1 𝓛 (later (some (λ (r : IndexBox.Denot). ((‵ (flft [] full_share) ⊛ ‵ (flft [] full_share) ⊛ ‵ ftrue) ⊛ ‵ (IndexBox.own_val r (u ∷ [])))
        ⊛ some (λ (ls : Lasts En ([], ([], tt)) (a, (block_ptr b o, tt))). ‵ (lasts En ([], ([], tt)) (a, (block_ptr b o, tt)) ls) ⊛ (raw (fact 𝓤 (r.value ≡ x)) ⊛ raw (fact 𝓤 (r.alloc ≡ a))))))) (id⊢ 𝓤 (Again.post (at_again a b o x) u)) $
        await t z $ pick t (λ r. split t $ split t $ drop t $ move t (1 ∷ []) $ pick t (λ ls. split3 t $ drop t $ heard t (r.value ≡ x) (λ same. drop t $ next r same)))

module _ {M : Type 1} {𝓤 : Ura M} {𝓛 : Logic 𝓤} {K : Type 0} {Γ : List (Item 𝓤)} {G : Goal 𝓤 𝓛.H} where
  -- a box is one machine value, of its type
  pub boxed_word : K → (v : IndexBox.Denot) (vs : List Val)
      → ((w : Val) → vs ≡ w ∷ [] → Good (layout IndexBox) w → Seq K 𝓛 (‵ (IndexBox.own_val v (w ∷ [])) ∷ Γ) G) → Seq K 𝓛 (‵ (IndexBox.own_val v vs) ∷ Γ) G
  boxed_word t v vs next =
      peeks t IndexBox _ (shows 𝓛 IndexBox) v vs (λ seen.
      let found = one (layout IndexBox) vs (((box_laws.the_row_laws Index Heap ghosts index_laws.the_row_laws heap_laws.the_row_laws).lawful 𝓛).typed v vs seen) in
      rewrite t 0 (λ (us : List Val). ‵ (IndexBox.own_val v us)) found.1 refl $ next found.0 found.1 found.2)
