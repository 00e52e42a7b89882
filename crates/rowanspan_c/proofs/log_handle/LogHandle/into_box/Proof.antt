-- `into_box` takes the handle apart, and makes the box again of what lies at its pointer.
use Rattle.std.proofs.Common.{◌≡◌, List, [], ◌∷◌, true, refl, sym, ap, ◌∙◌, subst}
use mir.Val.{Val}
use mir.Raw.{raw as bare}
use base.Logic.{SProp, emp, never, fst∗}
use base.Fml.{ftrue}
use prog.Wp.{WpFn}
use types.Logic.{sem}
use types.Kit.{‵, raw, ◌⊛◌, at_ret, ◌$◌, ◌∵◌, !, qed, by, move, keep, drop, split, fsplit, fjoin, fpick, suffices, use0, use2, rewrite}
use types.Run.{stop, fld, of_opd, no_more, and_then, first, blocks, exec, returns, enter}
use types.ByLocal.{alloc_all, pass_all, free_all, look_at, get, get_in, sets, lands_last, env}
use types.Part.{sub, whole}
use contract.Monad.{fact, fact_i}
use contract.Running.{tables}
use denote.Exit.{yes}
use denote.RattleType.{owns}
use denote.Laws.{Typed, shows}
use denote.Memory.{lone}
use denote.RawPtr.{Ptr, block_ptr, null_ptr, in_a_block}
use denote.Signature.{types_at, plain}
use denote.Steps.{nothing, heard, peeks}
use denote.Triple.Call.{calls_at_last}
use denote.Triple.Table.{framed}
use denote.Triple.Walked.{Stays, stay_dropped, Goes-dropped, walk_of}
use Rattle.std.proofs.raw_atomic.Walks.{proved_at, leaves}
use Rattle.std.specs.declared.option.Option.TheVariants.{Some}
use Rattle.std_alloc.specs.Box.Ownership.{box_owns}
use Rattle.std_alloc.proofs.boxed.Box.from_raw.Met.{met}
use Rattle.std_heap.specs.contracts.GlobalAllocator.TheImpl.{ghosts, dict}
use Rattle.std_heap.specs.contracts.Global.{the_row as Heap}
use Rattle.std_heap.proofs.Global.TheLaws as heap_laws
use Rattle.std_heap.proofs.GlobalAllocator.TheImpl.Met as heap_met
use Rattle.rowanspan_c.specs.contracts.file_log.FileLog.{the_row as Index}
use Rattle.rowanspan_c.proofs.LogHeld.{held_kept}
use Rattle.rowanspan_c.proofs.LogBoxWalk.{on_word, IndexBox, IndexArg, HeapArg, index_arg_laws, heap_arg_laws, heap_glue, heap_word, heap_drops, Again, at_again, asks_again, whole_again, boxed_word}
use Rattle.rowanspan_c.specs.contracts.log_handle.LogHandle.{the_row as Hd}
use Rattle.rowanspan_c.proofs.log_handle.LogHandle.TheLaws.{lowers, the_row_laws}
use Rattle.rowanspan_c.specs.contracts.log_handle.LogHandle.into_box as f
use Rattle.rowanspan_c.proofs.log_handle.LogHandle.into_box.Statement.{statement}
use Rattle.rowanspan_c.proofs.log_handle.LogHandle.into_box.Code as code

pub into_box_spec : {M : Type 1} → statement M
into_box_spec {M} 𝓤 𝓛 𝓜 𝓡 wired =
    let 𝓣 = tables 𝓤 𝓛.H 𝓜 𝓡 𝓡.env in let c = f.clauses 𝓛 𝓜.mem 𝓡.returns in
    let stays : Stays f.ended.signature.params f.ended.kept = (stay_dropped (plain (λ _. Hd)) yes, tt) in
    let heap = heap_met.passed 𝓡.env (code.calls-std_heap::GlobalAllocator::allocate 𝓡.env wired) (code.calls-std_heap::GlobalAllocator::deallocate 𝓡.env wired) (code.calls-std_heap::GlobalAllocator::grow 𝓡.env wired) (code.calls-std_heap::GlobalAllocator::shrink 𝓡.env wired) M 𝓤 𝓛 𝓜 𝓡 in
    let let_go = heap_drops 𝓛 𝓜 𝓡 (code.calls-rowanspan_c::Destruct++none::drop 𝓡.env wired) in
    let made_again = met 𝓤 𝓛 𝓜 𝓡 (code.calls-std_alloc::boxed::Box::from_raw 𝓡.env wired) IndexArg HeapArg index_arg_laws heap_arg_laws ghosts dict heap_glue heap let_go in
    proved_at 𝓛 f.ended stays c 𝓜 𝓡 (Goes-dropped 𝓛 0 (plain (λ _. Hd)) yes (λ κs x w. refl), tt) f.Key.name code.function (code.unfolded 𝓤 𝓛.H 𝓜 𝓡 wired) (λ z are.
    let d = z.0.3.0 in let vs = z.0.4.0 in let a = d.alloc in let word = lowers.val_is d vs are.0 in let h : Val = heap_word a in
    let Post : Val → SProp 𝓤 = (walk_of 𝓛 f.ended stays c).post z in let Run : List Val → SProp 𝓤 = λ ws. WpFn 𝓤 𝓛.H 𝓣.C 𝓣.Λ code.function ws Post in
    qed 𝓛 ((‵ ftrue ⊛ ‵ (owns (types_at f.ended.signature.params z.0.0) z.0.3 z.0.4)) ∷ raw (fact 𝓤 (d.is_open ≡ true)) ∷ []) ∵ split ! $ move ! (2 ∷ []) $ heard ! (d.is_open ≡ true) (λ opened. move ! (1 ∷ []) $ fsplit ! $ fsplit ! $ move ! (1 ∷ []) $
    held_kept Index ! a d.at d.held (sym opened ∙ d.told) (λ x holds. move ! (1 ∷ []) $ fpick ! (λ vss. fsplit ! $ drop ! $ fsplit ! $ drop ! $ fsplit ! $ drop ! $ fsplit ! $ move ! (1 ∷ []) $ drop ! $
    peeks ! Heap _ (shows 𝓛 Heap) a vss.1.1.0 (λ seen. let same = heap_laws.lowers.val_is a vss.1.1.0 seen in let fits = subst (Typed Heap.mir) same ((heap_laws.the_row_laws.lawful 𝓛).typed a vss.1.1.0 seen) in
    rewrite ! 0 (λ (ws : List Val). ‵ (Heap.own_val a ws)) same refl $
    move ! (1 ∷ []) $ in_a_block ! d.at (λ p. box_owns (ghosts.dealloc_token a) Index p x) (fst∗ 𝓤 (never 𝓤) (sem 𝓛 (ghosts.dealloc_token a (bare (lone Index.mir)) null_ptr))) (λ b o there.
    let w : Val = lowers.lowered (record d { at = block_ptr b o }) in let told : vs ≡ w ∷ [] = word ∙ ap (λ (p : Ptr). lowers.lowered (record d { at = p }) ∷ []) there in
    let typed = subst (Typed Hd.mir) told ((the_row_laws.lawful 𝓛).typed d vs are.0) in
    suffices ! (Run (w ∷ [])) (on_word 𝓤 Run vs w told) $
    use2 𝓛 (raw ((Again 𝓛 𝓜 𝓡).pre (at_again 𝓛 𝓜 𝓡 a b o x))) (asks_again 𝓛 𝓜 𝓡 a b o x) $
    enter ! 𝓣.C 𝓣.Λ code.function (w ∷ []) Post $ alloc_all ! (λ l. pass_all ! refl (typed.0, tt) $
    sets ! (of_opd ! (get_in ! (fld ! refl (stop !)) (sub ! 0 refl (whole !)))) refl (tt, tt) $
    sets ! (of_opd ! (get_in ! (fld ! refl (stop !)) (sub ! 2 refl (whole !)))) refl fits.0 $
    first ! $ blocks ! $ sets ! (of_opd ! (get ! refl)) refl (tt, tt) $
    calls_at_last ! (framed 𝓤 𝓛.H 𝓜 𝓣) (Again 𝓛 𝓜 𝓡) made_again (at_again 𝓛 𝓜 𝓡 a b o x) (and_then ! (get ! refl) (and_then ! (get ! refl) (no_more !))) (λ u. whole_again 𝓛 𝓜 𝓡 ! tt a b o x u (λ r same_value.
    boxed_word ! r (u ∷ []) (λ u' is_u good. let good_u = subst (λ (us : List Val). Typed IndexBox.mir us) (sym is_u) (good, tt) in rewrite ! 0 (λ (us : List Val). ‵ (IndexBox.own_val r us)) (sym is_u) refl $
    lands_last ! refl good_u.0 $ exec ! 𝓣.C 𝓣.Λ (env code.function.locals l) code.Mir.t-4 (at_ret (env code.function.locals l) Post) $ sets ! (of_opd ! (get ! refl)) refl good_u.0 $
    use0 𝓛 (raw (fact 𝓤 (d.held ≡ Some r.value))) (fact_i 𝓤 (d.held ≡ Some r.value) (emp 𝓤) (holds ∙ ap Some (sym same_value))) $ nothing ! $ nothing ! $ fjoin ! $ nothing ! $
    returns ! (look_at ! 0 refl) $ free_all ! refl $ keep ! (0 ∷ 1 ∷ 3 ∷ 2 ∷ []) $ by ! (leaves 𝓛 f.ended stays c z u r (tt, tt) (tt, tt))))))))))))
