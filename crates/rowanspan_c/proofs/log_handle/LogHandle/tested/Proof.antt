-- `tested` tells whether it is open.
use Rattle.std.proofs.Common.{◌≡◌, List, [], ◌∷◌, refl, subst}
use mir.Val.{Val, vbool}
use base.Logic.{SProp, emp}
use base.Fml.{ftrue}
use prog.Wp.{WpFn}
use types.Kit.{‵, raw, ◌⊛◌, ◌$◌, ◌∵◌, !, qed, by, move, keep, drop, split, fsplit, fjoin, feq_i, suffices, use0, use2, rewrite}
use types.Run.{stop, fld, of_opd, no_more, and_then, returns, enter}
use types.ByLocal.{alloc_all, pass_all, free_all, look_at, get, get_in, sets}
use types.Part.{agg, sub, whole}
use contract.Monad.{fact, fact_i}
use contract.Running.{tables}
use denote.Exit.{yes}
use denote.RattleType.{owns}
use denote.Laws.{Typed}
use denote.Signature.{types_at, plain}
use denote.Builtin.{bool}
use denote.Steps.{nothing}
use denote.Struct.Tuple.{Tuple}
use denote.Triple.Walked.{Stays, stay_dropped, Goes-dropped, walk_of}
use Rattle.std.proofs.raw_atomic.Walks.{proved_at, leaves}
use Rattle.std_alloc.proofs.Pairs.{pair_val, pair_of}
use Rattle.std_alloc.proofs.ResultValues.{and_tt}
use Rattle.rowanspan_c.proofs.LogBoxWalk.{on_word}
use Rattle.rowanspan_c.specs.contracts.log_handle.LogHandle.{the_row as Hd}
use Rattle.rowanspan_c.proofs.log_handle.LogHandle.TheLaws.{lowers, the_row_laws}
use Rattle.rowanspan_c.specs.contracts.log_handle.LogHandle.tested as f
use Rattle.rowanspan_c.proofs.log_handle.LogHandle.tested.Statement.{statement}
use Rattle.rowanspan_c.proofs.log_handle.LogHandle.tested.Code as code

pub tested_spec : {M : Type 1} → statement M
tested_spec 𝓤 𝓛 𝓜 𝓡 wired =
    let H = 𝓛.H in let 𝓣 = tables 𝓤 H 𝓜 𝓡 𝓡.env in let En = f.ended in let c = f.clauses 𝓛 𝓜.mem 𝓡.returns in let fn = code.function in
    let hs : Stays En.signature.params En.kept = (stay_dropped (plain (λ _. Hd)) yes, tt) in
    proved_at 𝓛 En hs c 𝓜 𝓡 (Goes-dropped 𝓛 0 (plain (λ _. Hd)) yes (λ κs x f. refl), tt) f.Key.name fn (code.unfolded 𝓤 H 𝓜 𝓡 wired) (λ z are.
    let d = z.0.3.0 in let vs = z.0.4.0 in let Post : Val → SProp 𝓤 = (walk_of 𝓛 En hs c).post z in let Run : List Val → SProp 𝓤 = λ ws. WpFn 𝓤 H 𝓣.C 𝓣.Λ fn ws Post in
    let word = lowers.val_is d vs are.0 in let w : Val = lowers.lowered d in let u : Val = vbool d.is_open in
    let typed = subst (Typed Hd.mir) word ((the_row_laws.lawful 𝓛).typed d vs are.0) in
    qed 𝓛 ((‵ ftrue ⊛ ‵ (owns (types_at En.signature.params z.0.0) z.0.3 z.0.4)) ∷ raw ((c z.0.0 z.0.3).requires z.1) ∷ []) ∵ split ! $ move ! (2 ∷ []) $ drop ! $ move ! (1 ∷ []) $ fsplit ! $
    rewrite ! 0 (λ (us : List Val). ‵ (Hd.own_val d us)) word refl $
    suffices ! (Run (w ∷ [])) (on_word 𝓤 Run vs w word) $
    enter ! 𝓣.C 𝓣.Λ fn (w ∷ []) Post $ alloc_all ! (λ l. pass_all ! refl (typed.0, tt) $
    sets ! (of_opd ! (get_in ! (fld ! refl (stop !)) (sub ! 1 refl (whole !)))) refl (tt, tt) $
    sets ! (agg ! (and_then ! (get ! refl) (and_then ! (get ! refl) (no_more !)))) refl (and_tt _ typed.0.0, (typed.0.1, (tt, tt))) $
    feq_i ! (List Val) (u ∷ []) (u ∷ []) refl $ move ! (1 ∷ 0 ∷ []) $ use2 𝓛 (‵ ((Tuple (Hd ∷ bool ∷ [])).own_val (d, d.is_open) (pair_val w u ∷ []))) (pair_of 𝓛 Hd bool d d.is_open w u) $
    use0 𝓛 (raw (fact 𝓤 ((d ≡ d) × (d.is_open ≡ d.is_open)))) (fact_i 𝓤 ((d ≡ d) × (d.is_open ≡ d.is_open)) (emp 𝓤) (refl, refl)) $ nothing ! $ nothing ! $ fjoin ! $ nothing ! $
    returns ! (look_at ! 0 refl) $ free_all ! refl $ keep ! (0 ∷ 1 ∷ 3 ∷ 2 ∷ []) $ by ! (leaves 𝓛 En hs c z (pair_val w u) (d, d.is_open) (tt, tt) (tt, tt))))
