-- What a tidy reads on its way to the border before the one that it unlinks: what it leads to, and what others leave of it.
use Rattle.std.proofs.Common.{ℕ, ◌≡◌, ◌<◌, List, [], Option, Some, None, Bool, true, false, if◌then◌else◌, refl, sym, subst}
use Rattle.std.specs.Prelude.{◌^◌, nat_le}
use Rattle.std.specs.Int.{w64, to_be_bytes}
use Rattle.mt_types.specs.declared.row.Row.{Row}
use Rattle.mt_slice.specs.Place.{slice_number}
use Rattle.mt_word.specs.Version.{VersionView, is_flagged}
use Rattle.mt_border.specs.declared.entry.RightLink.{RightLink}
use Rattle.mt_arena.specs.Arena.{ArenaView}
use Rattle.mt_arena.specs.declared.part.Part.{Part}
use Rattle.mt_arena.specs.declared.part.Part.TheVariants.{Head as HeadPart, Interior as InteriorPart, Version as VersionPart, Right as RightPart, Order as OrderPart, Key as KeyPartOf, Value as ValuePartOf}
use Rattle.mt_chart.specs.Chart.{Holds, Evolves}
use Rattle.mt_tree.specs.Descent.{visit_head, visit_interior}
use Rattle.mt_tree.specs.declared.visit.Visit.{Visit}
use Rattle.mt_tree.specs.declared.visit.Visit.TheVariants.{Again as VisitAgain, To as VisitTo, Below as VisitBelow, Here as VisitHere}
use Rattle.mt_steps.specs.declared.reader.Counters.{Counters}
use Rattle.mt_steps.specs.declared.reader.Reader.TheVariants.{Begins, Looked, Bounded, Reads, AtValue, Settles}
use Rattle.mt_steps.specs.declared.reader.Reading.TheVariants.{Restarts, Repeats, GoesOn, To}
use Rattle.mt_steps.specs.Reader.{by_visit, looked, bounded, counters_of, wants}
use Rattle.mt_steps.specs.Finding.{Finding, FindReading}
use Rattle.mt_steps.specs.Listing.{ListReading, ListLeads, list_reading}
use Rattle.mt_steps.specs.Standing.{Lends}
use Rattle.mt_steps.specs.World.{World, IsWorld, BordersAge}
use Rattle.mt_steps.proofs.ListSteps.{list_leads}
use Rattle.mt_steps.proofs.RangeLemmas.{slice_back}
use Rattle.mt_steps.proofs.StandLemmas.{stands_stay}
use Rattle.mt_remove.specs.Reading.{seek_reading}
use Rattle.mt_remove.specs.Known.{LeftFinding, AtLock}

own : Row → Row
own row = row

module _ (a : ArenaView) (now : ℕ) (w : World) (world : IsWorld a now w) (begun : ℕ) (prefix : List ℕ) (slice number : ℕ) (fits : slice < 2 ^ 64) (held : Holds w.chart begun number prefix slice) where
  abbrev rest : List ℕ
  rest = to_be_bytes w64 slice

  same : slice_number rest ≡ slice
  same = slice_back slice rest refl fits

  -- it reads on, or advances
  abbrev pub LeftLeads : FindReading → Type 0
  LeftLeads (GoesOn next) = LeftFinding begun prefix slice number next a w
  LeftLeads (To node) = Holds w.chart begun node.0 prefix slice
  LeftLeads _ = Unit {0}

  abbrev Leads : ListReading → Type 0
  Leads reading = ListLeads own prefix slice number begun [] a w reading

  as_visit : (visit : Visit) → Leads (by_visit visit) → LeftLeads (by_visit visit)
  as_visit VisitAgain led = tt
  as_visit (VisitTo next) led = led
  as_visit (VisitBelow head) led = tt
  as_visit VisitHere led = tt

  as_looked : (version : VersionView) → Leads (looked version) → LeftLeads (looked version)
  as_looked version = go version.deleted (is_flagged version)
    where
      go : (d f : Bool) → Leads (if d then Restarts else if f then Repeats else GoesOn (Looked (counters_of version))) → LeftLeads (if d then Restarts else if f then Repeats else GoesOn (Looked (counters_of version)))
      go true f led = tt
      go false true led = tt
      go false false led = led

  as_bounded : (counters : Counters) (right : Option RightLink) → Leads (bounded slice counters right) → LeftLeads (bounded slice counters right)
  as_bounded counters None led = led.0
  as_bounded counters (Some next) led = go (nat_le next.low slice) led
    where
      go : (c : Bool) → Leads (if c then To next.node else GoesOn (Bounded counters (Some next))) → LeftLeads (if c then To next.node else GoesOn (Bounded counters (Some next)))
      go true led = led
      go false led = led.0

  of_begins : (part : Part) → Leads (list_reading Begins slice part) → LeftLeads (seek_reading Begins rest part)
  of_begins (HeadPart own) led = as_visit (visit_head own.now) led
  of_begins (InteriorPart own) led = subst (λ (s : ℕ). LeftLeads (by_visit (visit_interior s own.now))) (sym same) (as_visit (visit_interior slice own.now) led)
  of_begins (VersionPart version) led = as_looked version led
  of_begins (RightPart right) led = tt
  of_begins (OrderPart order) led = tt
  of_begins (KeyPartOf own) led = tt
  of_begins (ValuePartOf own) led = tt

  of_looked : (counters : Counters) (part : Part) → Leads (list_reading (Looked counters) slice part) → LeftLeads (seek_reading (Looked counters) rest part)
  of_looked counters (HeadPart own) led = as_visit (visit_head own.now) led
  of_looked counters (InteriorPart own) led = subst (λ (s : ℕ). LeftLeads (by_visit (visit_interior s own.now))) (sym same) (as_visit (visit_interior slice own.now) led)
  of_looked counters (VersionPart version) led = as_looked version led
  of_looked counters (RightPart right) led = subst (λ (s : ℕ). LeftLeads (bounded s counters right)) (sym same) (as_bounded counters right led)
  of_looked counters (OrderPart order) led = tt
  of_looked counters (KeyPartOf own) led = tt
  of_looked counters (ValuePartOf own) led = tt

  -- WHAT IT READS LEADS where it says
  pub left_leads : (finding : Finding) → LeftFinding begun prefix slice number finding a w → (part : Part) → Lends a number (wants finding) part → (AtLock finding → ⊥) → LeftLeads (seek_reading finding rest part)
  left_leads Begins truth part lent before = of_begins part (list_leads own a now w world begun prefix slice number [] fits held Begins tt part lent)
  left_leads (Looked counters) at part lent before = of_looked counters part (list_leads own a now w world begun prefix slice number [] fits held (Looked counters) at part lent)
  left_leads (Bounded counters right) truth part lent before = absurd (before tt)
  left_leads (Reads notes) truth part lent before = absurd truth
  left_leads (AtValue notes kind) truth part lent before = absurd truth
  left_leads (Settles counters sight) truth part lent before = absurd truth

-- ---- what others' steps leave
pub left_stays : (a after : ArenaView) (now : ℕ) (w next : World) → IsWorld after now next → BordersAge a after w next → (begun : ℕ) → Evolves begun w.chart next.chart → (prefix : List ℕ) (slice number : ℕ) (finding : Finding)
    → LeftFinding begun prefix slice number finding a w → LeftFinding begun prefix slice number finding after next
left_stays a after now w next world age begun evolves prefix slice number Begins truth = tt
left_stays a after now w next world age begun evolves prefix slice number (Looked counters) at = stands_stay a after now w next world age begun evolves prefix slice number counters at
left_stays a after now w next world age begun evolves prefix slice number (Bounded counters right) at = stands_stay a after now w next world age begun evolves prefix slice number counters at
left_stays a after now w next world age begun evolves prefix slice number (Reads notes) truth = absurd truth
left_stays a after now w next world age begun evolves prefix slice number (AtValue notes kind) truth = absurd truth
left_stays a after now w next world age begun evolves prefix slice number (Settles counters sight) truth = absurd truth
