-- A PAGE AT ONCE: a page of a view that is read while the lock is shared with other reads. It is no event.
use Rattle.std.specs.Prelude.{ℕ, true, ◌≡◌, ◌⊎◌, ◌↔◌, List, Option, Some, None, Result, IfSome, IsSome}
use Rattle.mt_types.specs.declared.numbers.PassNo.{PassNo}
use Rattle.mt_types.specs.declared.numbers.ViewNo.{ViewNo}
use Rattle.mt_types.specs.declared.refusal.Refusal.{Refusal}
use Rattle.mt_types.specs.declared.event.Event.TheVariants.{ViewRead}
use Rattle.mt_types.specs.declared.view.Page.{Page}
use Rattle.mt_index.specs.Events.{Makes}
use Rattle.mt_index.specs.Viewing.{page_outcome}
use Rattle.mt_shared.specs.declared.trace.Trace.TheVariants.{Off}
use Rattle.mt_shared.specs.Passes.{PassView, IsTold}
use Rattle.mt_shared.specs.Drives.{EventLaw}
use Rattle.mt_shared.specs.Inner.{InnerView, IsInner, has_counters}

-- the pass has counters, and no trace is kept, in which a page would be missing
abbrev pub MayPage : InnerView → PassNo → Type 0
MayPage s pass = (has_counters pass s.counters ≡ true) × (s.trace ≡ Off)

-- What a page at once of a pass gives: what the event that reads the page would come to at this moment. That event
-- changes nothing of the machine. It gives nothing exactly if the page may not be read at once.
pub record PagesNow (s : InnerView) (pass : PassNo) (view : ViewNo) (floor : ℕ) (start : List ℕ) (limit : ℕ)
    (result : Option (Result Page Refusal)) : Type 0 where
  pub may : IsSome result ↔ MayPage s pass
  pub page : IfSome result (λ read. Makes s.machine (ViewRead view floor start limit) (page_outcome read) s.machine)

-- the same of something that the lock keeps
pub record PagesSomewhere (pass : PassNo) (view : ViewNo) (floor : ℕ) (start : List ℕ) (limit : ℕ)
    (result : Option (Result Page Refusal)) : Type 0 where
  pub kept : InnerView
  pub keeps : IsInner kept
  pub pages : PagesNow kept pass view floor start limit result

-- ---- a page that may be read at once

-- what a page at once of a pass gives, of what is shared, S: by the view, the floor, the first key and the limit
abbrev pub PageLaw : Type 0 → Type 1
PageLaw S = S → PassNo → ViewNo → ℕ → List ℕ → ℕ → Option (Result Page Refusal) → Type 0

-- A PAGE IS READ: at once, and nothing changes; or, if it may not be, by one event, of which the pass learns
abbrev pub PageIsRead : {S : Type 0} → EventLaw S → PageLaw S → S → PassView → ViewNo → ℕ → List ℕ → ℕ → Result Page Refusal
    → S → PassView → Type 0
PageIsRead does pages s p view floor start limit result t q =
    (pages s p.number view floor start limit (Some result) × (t ≡ s) × (q ≡ p))
    ⊎ (pages s p.number view floor start limit None
    × does s p (ViewRead view floor start limit) (page_outcome result) t q
    × IsTold p (ViewRead view floor start limit) (page_outcome result) q)
