-- `holding` takes the box apart, and makes a handle of its pointer and its allocator.
use Rattle.std.proofs.Common.{◌≡◌, List, [], ◌∷◌, true, refl}
use mir.Val.{Val, has_ty}
use base.Logic.{SProp, emp}
use base.Fml.{ftrue}
use prog.Wp.{WpFn}
use types.Kit.{‵, raw, ◌⊛◌, ◌$◌, ◌∵◌, !, qed, by, move, keep, drop, split, fsplit, fjoin, suffices, use0, use1}
use types.Run.{stop, fld, true_lit, of_opd, no_more, and_then, returns, enter}
use types.ByLocal.{alloc_all, pass_all, free_all, look_at, get, get_in, sets, lands_as}
use types.Part.{agg, sub, whole}
use contract.Monad.{fact, fact_i}
use contract.Running.{tables}
use denote.Exit.{yes}
use denote.Param.{layout}
use denote.RattleType.{owns}
use denote.RawPtr.{block_ptr}
use denote.Signature.{types_at, plain}
use denote.Steps.{nothing}
use denote.Triple.Call.{calls_at}
use denote.Triple.Table.{framed}
use denote.Triple.Walked.{Stays, stay_dropped, Goes-dropped, walk_of}
use Rattle.std.specs.declared.option.Option.TheVariants.{Some}
use Rattle.std.proofs.raw_atomic.Walks.{proved_at, leaves}
use Rattle.std_alloc.proofs.ResultValues.{and_tt}
use Rattle.std_alloc.proofs.boxed.Box.into_raw_with_allocator.Met.{met}
use Rattle.std_heap.specs.contracts.GlobalAllocator.TheImpl.{ghosts, dict}
use Rattle.std_heap.specs.contracts.Global.{the_row as Heap}
use Rattle.std_heap.proofs.GlobalAllocator.TheImpl.Met as heap_met
use Rattle.rowanspan_c.specs.declared.log_handle.LogHandle.{LogHandle}
use Rattle.rowanspan_c.proofs.LogHeld.{handle_in}
use Rattle.rowanspan_c.proofs.LogBoxWalk.{on_word, IndexBox, IndexArg, HeapArg, index_arg_laws, heap_arg_laws, index_glue, heap_glue, heap_word, heap_drops, index_drops, Apart, at_apart, asks_apart, parted, boxed_word}
use Rattle.rowanspan_c.proofs.log_handle.LogHandle.TheLaws.{lowers}
use Rattle.rowanspan_c.specs.contracts.log_handle.LogHandle.holding as f
use Rattle.rowanspan_c.proofs.log_handle.LogHandle.holding.Statement.{statement}
use Rattle.rowanspan_c.proofs.log_handle.LogHandle.holding.Code as code

pub holding_spec : {M : Type 1} → statement M
holding_spec {M} 𝓤 𝓛 𝓜 𝓡 wired =
    let 𝓣 = tables 𝓤 𝓛.H 𝓜 𝓡 𝓡.env in let c = f.clauses 𝓛 𝓜.mem 𝓡.returns in
    let stays : Stays f.ended.signature.params f.ended.kept = (stay_dropped (plain (λ _. IndexBox)) yes, tt) in
    let heap = heap_met.passed 𝓡.env (code.calls-std_heap::GlobalAllocator::allocate 𝓡.env wired) (code.calls-std_heap::GlobalAllocator::deallocate 𝓡.env wired) (code.calls-std_heap::GlobalAllocator::grow 𝓡.env wired) (code.calls-std_heap::GlobalAllocator::shrink 𝓡.env wired) M 𝓤 𝓛 𝓜 𝓡 in
    let let_go = heap_drops 𝓛 𝓜 𝓡 (code.calls-rowanspan_c::Destruct++none::drop 𝓡.env wired) in
    let let_index_go = index_drops 𝓛 𝓜 𝓡 (code.calls-rowanspan_c::file_log::FileLog::drop 𝓡.env wired) in
    let comes_apart = met 𝓤 𝓛 𝓜 𝓡 (code.calls-std_alloc::boxed::Box::into_raw_with_allocator 𝓡.env wired) IndexArg HeapArg index_arg_laws heap_arg_laws ghosts dict heap_glue index_glue heap let_go let_index_go in
    proved_at 𝓛 f.ended stays c 𝓜 𝓡 (Goes-dropped 𝓛 0 (plain (λ _. IndexBox)) yes (λ κs x w. refl), tt) f.Key.name code.function (code.unfolded 𝓤 𝓛.H 𝓜 𝓡 wired) (λ z are.
    let v = z.0.3.0 in let Post : Val → SProp 𝓤 = (walk_of 𝓛 f.ended stays c).post z in let Run : List Val → SProp 𝓤 = λ ws. WpFn 𝓤 𝓛.H 𝓣.C 𝓣.Λ code.function ws Post in
    qed 𝓛 ((‵ ftrue ⊛ ‵ (owns (types_at f.ended.signature.params z.0.0) z.0.3 z.0.4)) ∷ raw ((c z.0.0 z.0.3).requires z.1) ∷ []) ∵ split ! $ move ! (2 ∷ []) $
    drop ! $ move ! (1 ∷ []) $ fsplit ! $ boxed_word ! v z.0.4.0 (λ w word typed.
    suffices ! (Run (w ∷ [])) (on_word 𝓤 Run z.0.4.0 w word) $
    use1 𝓛 (raw ((Apart 𝓛 𝓜 𝓡).pre (at_apart 𝓛 𝓜 𝓡 v w))) (asks_apart 𝓛 𝓜 𝓡 v w) $
    enter ! 𝓣.C 𝓣.Λ code.function (w ∷ []) Post $ alloc_all ! (λ l. pass_all ! refl (typed, tt) $ sets ! (of_opd ! (get ! refl)) refl typed $
    calls_at ! (framed 𝓤 𝓛.H 𝓜 𝓣) (Apart 𝓛 𝓜 𝓡) comes_apart (at_apart 𝓛 𝓜 𝓡 v w) (and_then ! (get ! refl) (no_more !)) (λ u. parted 𝓛 𝓜 𝓡 ! tt v w u (λ b o pair fits.
    let a = v.alloc in let h = heap_word a in let made : LogHandle = record { at = block_ptr b o; is_open = true; alloc = a; held = Some v.value; told = refl } in
    lands_as ! pair refl (and_tt (has_ty (layout Heap) h) fits.0.0, (tt, (fits.0.1, tt))) $
    sets ! (of_opd ! (get_in ! (fld ! refl (stop !)) (sub ! 0 refl (whole !)))) refl (tt, tt) $
    sets ! (of_opd ! (get_in ! (fld ! refl (stop !)) (sub ! 1 refl (whole !)))) refl fits.0 $
    sets ! (of_opd ! (get ! refl)) refl (tt, tt) $
    sets ! (agg ! (and_then ! (get ! refl) (and_then ! (true_lit !) (and_then ! (get ! refl) (no_more !))))) refl (tt, (tt, (tt, (fits.0.1, tt)))) $
    handle_in ! (block_ptr b o) true a (Some v.value) refl $
    use0 𝓛 (raw (fact 𝓤 (made.held ≡ Some v.value))) (fact_i 𝓤 (made.held ≡ Some v.value) (emp 𝓤) refl) $ nothing ! $ nothing ! $ fjoin ! $ nothing ! $
    returns ! (look_at ! 0 refl) $ free_all ! refl $ keep ! (0 ∷ 1 ∷ 3 ∷ 2 ∷ []) $ by ! (leaves 𝓛 f.ended stays c z (lowers.lowered made) made (tt, tt) (tt, tt)))))))
