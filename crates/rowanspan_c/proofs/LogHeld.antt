-- A handle by value: one that is open holds a box, and how one is made.
use Rattle.std.proofs.Common.{◌≡◌, List, [], ◌∷◌, refl, subst, true, false, Bool}
use seplogic.Ra.Ura.{Ura}
use types.Logic.{Logic}
use mir.Val.{Val}
use types.Kit.{Item, Goal, Seq, Step, step, ‵, ◌$◌, move, fjoin, fpack, feq_i}
use denote.RattleType.{RattleType, Valss}
use denote.Builtin.{RawPtr, bool}
use denote.Plain.{bool_vals}
use denote.Steps.{nothing}
use denote.Struct.Struct.{within}
use denote.Struct.Owning.{shape, to}
use denote.RawPtr.{Ptr, ptr_val}
use Rattle.std.specs.contracts.alloc.Global as heap
use Rattle.std.proofs.alloc.Global.TheLaws as heap_laws
use Rattle.rowanspan_c.specs.contracts.file_log.FileLog.{the_row as S}
use Rattle.rowanspan_c.specs.contracts.log_handle.LogHandle.{the_row as Hd, the_type}
use Rattle.rowanspan_c.proofs.log_handle.LogHandle.TheLaws.{lowers}
use Rattle.std.specs.declared.option.Option.{Option}
use Rattle.std.specs.declared.option.Option.TheVariants.{None, Some}
use Rattle.std.specs.declared.alloc.Global.{Global}
use Rattle.std.specs.contracts.impls.GlobalAllocator.TheImpl.{ghosts}
use Rattle.std_alloc.specs.Box.Ownership.{box_owns}
use Rattle.rowanspan_c.specs.Kept.{kept, is_held}

abbrev IsTrue : Bool → Type 0
IsTrue true = Unit {0}
IsTrue false = ⊥

module _ (R : RattleType) {M : Type 1} {𝓤 : Ura M} {𝓛 : Logic 𝓤} {K : Type 0} {Γ : List (Item 𝓤)} {G : Goal 𝓤 𝓛.H} where
  pub held_kept : K → (a : Global) (p : Ptr) (m : Option R.Denot) → true ≡ is_held m → ((x : R.Denot) → m ≡ Some x → Seq K 𝓛 (‵ (box_owns (ghosts.dealloc_token a) R p x) ∷ Γ) G) → Seq K 𝓛 (‵ (kept R a p m) ∷ Γ) G
  held_kept t a p None e k = absurd (subst IsTrue e tt)
  held_kept t a p (Some x) e k = k x refl

-- the handle of a kept box, or of none
module _ {M : Type 1} {𝓤 : Ura M} {𝓛 : Logic 𝓤} {K : Type 0} {Γ : List (Item 𝓤)} {G : Goal 𝓤 𝓛.H} where
  pub handle_in : K → (p : Ptr) (b : Bool) (a : Global) (m : Option S.Denot) (e : b ≡ is_held m)
      → Step K 𝓛 (‵ (Hd.own_val (record { at = p; is_open = b; alloc = a; held = m; told = e }) (lowers.lowered (record { at = p; is_open = b; alloc = a; held = m; told = e }) ∷ [])) ∷ Γ) G (‵ (kept S a p m) ∷ ‵ ((heap.the_row).own_val a (heap_laws.lowers.lowered a ∷ [])) ∷ Γ) G
  handle_in t p b a m e = step (λ s. let v : Val = lowers.lowered (record { at = p; is_open = b; alloc = a; held = m; told = e }) in
      nothing t $ move t (2 ∷ 0 ∷ []) $ fjoin t $ feq_i t (List Val) (bool_vals b) (bool_vals b) refl $ fjoin t $ feq_i t (List Val) (ptr_val p ∷ []) (ptr_val p ∷ []) refl $ fjoin t $ feq_i t (List Val) (v ∷ []) (v ∷ []) refl $ fjoin t $
      fpack t (Valss (RawPtr ∷ bool ∷ heap.the_row ∷ [])) (within (shape the_type) (to the_type (record { at = p; is_open = b; alloc = a; held = m; told = e })) (v ∷ [])) (ptr_val p ∷ [], (bool_vals b, (heap_laws.lowers.lowered a ∷ [], tt))) $ fjoin t $ s)
