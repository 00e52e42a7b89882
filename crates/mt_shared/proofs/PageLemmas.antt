-- Events that change nothing of the machine: that of a page, and that of a turn while there is no view.
use Rattle.std.proofs.Common.{ℕ, ◌≡◌, ◌≤◌, inl, List, Option, Some, None, Result, Ok, Err, false, true, refl}
use Rattle.std.specs.Prelude.{◌↔◌, IfOk, IsSome, IsTrue}
use Rattle.mt_types.specs.Limited.{PageIsLimited}
use Rattle.mt_types.specs.declared.numbers.ViewNo.{ViewNo}
use Rattle.mt_types.specs.declared.refusal.Refusal.{Refusal}
use Rattle.mt_types.specs.declared.event.Event.TheVariants.{ViewRead}
use Rattle.mt_types.specs.declared.event.Outcome.{Outcome}
use Rattle.mt_types.specs.declared.event.Outcome.TheVariants.{Current}
use Rattle.mt_types.specs.declared.view.Page.{Page}
use Rattle.mt_index.specs.Events.{Makes}
use Rattle.mt_index.specs.Stands.{MachineView, ReadsView, meant_number}
use Rattle.mt_index.specs.Viewing.{page_outcome}
use Rattle.mt_index.proofs.ApplyStands.{applies-stand, reads-stand}
use Rattle.mt_index.proofs.EventLemmas.{apply-does, read-does}
use Rattle.mt_index.proofs.LimitedLemmas.{outcome-limited}
use Rattle.mt_shared.specs.Inner.{InnerView, IsInner}
use Rattle.mt_shared.specs.Turns.{furthest}
use Rattle.mt_shared.proofs.ToldLemmas.{suits}

-- ---- a page
pub page_makes : (m : MachineView) (view : ViewNo) (floor : ℕ) (start : List ℕ) (limit : ℕ) (o : Outcome) → ReadsView m view.0 floor start limit o → Makes m (ViewRead view floor start limit) o m
page_makes m view floor start limit o reads = record {
  stands = λ h st. (0, reads-stand m h st view floor start limit o reads);
  happens = record { does = read-does m o view floor start limit reads; caused = tt; one_step = tt; one_field = tt };
  columns = refl;
  bounds = (refl, refl);
}

module _ (s : InnerView) (k : IsInner s) (view : ViewNo) (floor : ℕ) (start : List ℕ) (limit : ℕ) where
  -- it is at the floor or further on
  pub page_floor : (read : Result Page Refusal) → ReadsView s.machine view.0 floor start limit (page_outcome read) → IfOk read (λ page. floor ≤ page.at)
  page_floor (Ok page) reads =
      let (past, st, long, told) = k.stands in
      suits s.machine s.machine past (record { 0 = 0 }) (ViewRead view floor start limit) (page_outcome (Ok page)) st (page_makes s.machine view floor start limit (page_outcome (Ok page)) reads) refl
  page_floor (Err refusal) reads = tt

  -- and keeps the limits of an index
  pub page_limits : (read : Result Page Refusal) → ReadsView s.machine view.0 floor start limit (page_outcome read) → IfOk read PageIsLimited
  page_limits (Ok page) reads =
      let (past, st, long, told) = k.stands in
      outcome-limited s.machine past (ViewRead view floor start limit) (page_outcome (Ok page)) 0 (reads-stand s.machine past st view floor start limit (page_outcome (Ok page)) reads)
  page_limits (Err refusal) reads = tt

-- ---- a turn while there is no view
pub none_turns : (m : MachineView) → meant_number m 0 ≡ None → Makes m furthest Current m
none_turns m none = record {
  stands = λ h st. (0, applies-stand m h st m (record { 0 = 0 }) Current (inl (none, refl, refl)));
  happens = record { does = apply-does m m Current (record { 0 = 0 }) (inl (none, refl, refl)); caused = tt; one_step = tt; one_field = tt };
  columns = refl;
  bounds = (refl, refl);
}

none_there : (o : Option ℕ) → (IsSome o → false ≡ true) → o ≡ None
none_there None some = refl
none_there (Some number) some = let clash : false ≡ true = some refl in absurd (cc)

pub no_view : (m : MachineView) → (IsTrue false ↔ IsSome (meant_number m 0)) → meant_number m 0 ≡ None
no_view m is = none_there (meant_number m 0) is.1
