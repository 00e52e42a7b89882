-- The body of `note` is empty: the borrow is opened, and closed with a longer list.
use Rattle.std.proofs.Common.{List, [], ◌∷◌, length, refl}
use Rattle.std.proofs.raw_atomic.Walks.{proved}
use mir.Syntax.{named}
use mir.Val.{Val, vunit, vptr}
use base.Logic.{emp, via, fst∗, id⊢}
use base.Fml.{Lft, Fml, ftrue, flft}
use contract.Running.{tables}
use types.Kit.{‵, ◌⊛◌, ◌$◌, ◌∵◌, !, qed, move, keep, drop, use1, split, join, fsplit, fsplit3, fjoin, fjoin3, feq_i, suffices, frame, done}
use types.Run.{unit_lit, of_opd, returns, enter}
use types.ByLocal.{alloc_all, pass_all, free_all, look_at, sets}
use denote.RattleType.{owns}
use denote.Builtin.{u8}
use denote.Exit.{yes}
use denote.Ref.{MutRef, ShrRef, mut_vals, mut_Tells, shr_vals, shr_Tells}
use denote.Slice.{ShrSlice, slice_val, shr_slice_vals, shr_slice_Tells}
use denote.Signature.{plain}
use denote.Steps.{opens, closes}
use denote.Triple.Walked.{says, Stays, stay_ref, stay_none_ref, stay_none_slice, Goes-ref, Goes-none_ref, Goes-none_slice, ends_at}
use Rattle.mt_log_disk.specs.Noted.{event_of}
use Rattle.mt_log_disk.specs.declared.record.Made.{Made}
use Rattle.mt_log_disk.specs.contracts.record.Made as record_of
use Rattle.mt_log_disk.specs.contracts.record.Call as call_of
use Rattle.mt_log_disk.specs.contracts.record.Made.note as f
use Rattle.mt_log_disk.proofs.record.Made.note.Statement.{statement}
use Rattle.mt_log_disk.proofs.record.Made.note.Code as code

abbrev stayed : Stays f.ended.signature.params f.ended.kept
stayed = (stay_ref (0 ∷ []) tt (plain (λ _. record_of.the_row)), (stay_none_ref (1 ∷ []) tt (plain (λ _. call_of.the_row)) yes, (stay_none_slice (2 ∷ []) tt (plain (λ _. u8)) yes, tt)))

pub note_spec : {M : Type 1} → statement M
note_spec 𝓤 𝓛 𝓜 𝓡 wired =
    let c = f.clauses 𝓛 𝓜.mem 𝓡.returns in let 𝓣 = tables 𝓤 𝓛.H 𝓜 𝓡 𝓡.env in let R = record_of.the_row in
    proved 𝓛 f.ended stayed c 𝓜 𝓡
    (Goes-ref 𝓛 3 0 tt (plain (λ _. R)), (Goes-none_ref 𝓛 3 (1 ∷ []) tt (plain (λ _. call_of.the_row)) yes, (Goes-none_slice 𝓛 3 (2 ∷ []) tt (plain (λ _. u8)) yes, tt)))
    f.Key.name code.function (code.unfolded 𝓤 𝓛.H 𝓜 𝓡 wired) (λ κs. (mut_vals, (shr_vals, (shr_slice_vals, tt))))
    (λ κs. (mut_Tells (named 0) κs.0 R, (shr_Tells (named 1) κs.1.0 call_of.the_row, (shr_slice_Tells (named 2) κs.1.1.0 u8, tt)))) (λ κs qs bounds a g are.
    let κ : Lft = κs.0 in let b = a.0.ref_ptr.0 in let o = a.0.ref_ptr.1 in let γ = a.0.ghost_name in let call = a.1.0 in let bytes = a.1.1.0 in
    let longer : Made = record { events = event_of call.now bytes.now ∷ a.0.now.events } in
    let vs : List Val = vptr b o ∷ vptr call.ref_ptr.0 call.ref_ptr.1 ∷ slice_val bytes.ref_ptr (length bytes.now) ∷ [] in
    let vss : List Val × (List Val × (List Val × Unit {0})) = (mut_vals a.0, (shr_vals call, (shr_slice_vals bytes, tt))) in
    let others : Fml = owns (ShrRef (named 1) κs.1.0 call_of.the_row ∷ ShrSlice (named 2) κs.1.1.0 u8 ∷ []) a.1 vss.1 in
    via 𝓤 _ (fst∗ 𝓤 _ (emp 𝓤)) (
    qed 𝓛 ((‵ (flft κ qs.0) ⊛ (‵ (flft κs.1.0 qs.1.0) ⊛ (‵ (flft κs.1.1.0 qs.1.1.0) ⊛ ‵ ftrue))) ∷ ‵ (owns (MutRef (named 0) κ R ∷ ShrRef (named 1) κs.1.0 call_of.the_row ∷ ShrSlice (named 2) κs.1.1.0 u8 ∷ []) a vss) ∷ []) ∵
    split ! $ move ! (2 ∷ []) $ fsplit ! $ fsplit3 ! $ drop ! $ move ! (0 ∷ 1 ∷ 3 ∷ []) $
    enter ! 𝓣.C 𝓣.Λ code.function vs _ $
    alloc_all ! (λ l. pass_all ! refl ((tt, tt), ((tt, tt), ((tt, (tt, (record { fits = are.1.1.0.0.1.0 }, tt))), tt))) $
    move ! (0 ∷ 1 ∷ 2 ∷ []) $ opens ! tt R {h = a.0.now} b o (λ ws.
    sets ! (of_opd ! (unit_lit !)) refl (tt, tt) $
    move ! (1 ∷ []) $ use1 𝓛 (‵ (R.own_val longer ws)) (id⊢ 𝓤 _) $ move ! (1 ∷ 0 ∷ []) $ closes ! tt R longer ws b o $
    returns ! (look_at ! 0 refl) $ free_all ! refl $ keep ! (0 ∷ 1 ∷ 2 ∷ 3 ∷ 4 ∷ []) $
    suffices ! _ (ends_at 𝓛 f.ended stayed c ((κs, qs, bounds, a, vss), g) vunit tt (longer, (tt, (tt, tt))) (tt, (tt, (tt, tt)))) $ says ! refl $
    move ! (2 ∷ 4 ∷ []) $ join ! $ frame ! $ feq_i ! (List Val) (vptr b o ∷ []) (vptr b o ∷ []) refl $ fjoin3 ! $ fjoin ! $
    feq_i ! (List Val) (vunit ∷ []) (vunit ∷ []) refl $ move ! (1 ∷ 0 ∷ []) $ done !))))
