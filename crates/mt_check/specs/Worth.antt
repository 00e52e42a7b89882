-- What the audit is worth: an index that keeps its promise gives sound receipts only.
use Rattle.std.specs.Prelude.{ℕ, ◌≡◌, List, ◌∷◌, ◌++◌, slice_get, Some}
use Rattle.mt_types.specs.declared.numbers.ViewNo.{ViewNo}
use Rattle.mt_types.specs.declared.event.Event.TheVariants.{ViewRead}
use Rattle.mt_types.specs.declared.event.Outcome.TheVariants.{View}
use Rattle.mt_types.specs.declared.event.Request.{Request}
use Rattle.mt_types.specs.declared.event.Reply.{Reply}
use Rattle.mt_types.specs.declared.row.Delta.{Delta}
use Rattle.mt_types.specs.declared.view.ViewSpec.{ViewSpec}
use Rattle.mt_types.specs.declared.view.Page.{Page as PageShown}
use Rattle.mt_promise.specs.History.{History, happening, moment}
use Rattle.mt_promise.specs.Legal.{Legal}
use Rattle.mt_promise.specs.Headline.{IsFinished, StandsAt}
use Rattle.mt_commit.specs.Logged.{deltas_of}
use Rattle.mt_check.specs.Receipts.{GivesReceipt, IsSound}
use Rattle.mt_check.specs.Faults.{DeltaBreaks, IsFirstFault, IsFirstReceiptFault}
use Rattle.mt_check.specs.declared.fault.Fault.{Fault}
use Rattle.mt_check.specs.declared.receipt.Receipt.{Receipt}
use Rattle.mt_check.specs.declared.receipt.Receipt.TheVariants.{Call, Page}

-- the deltas of a history's commits
abbrev pub deltas_after : ℕ → History → List Delta
deltas_after C h = deltas_of C (moment h).commits

-- in a legal history each finished call, but a tidy or a build, gives a receipt that is sound against the deltas of the
--     history's commits
abbrev pub RepliesAreSound : Type 0
RepliesAreSound =
    (C : ℕ) (h : History) → Legal C h →
    (request : Request) (reply : Reply) (before past : History) → IsFinished h request reply before past →
    GivesReceipt request → IsSound C (deltas_after C h) (Call request reply.answer reply.from reply.to)

-- and each page of a view does
abbrev pub PagesAreSound : Type 0
PagesAreSound =
    (C : ℕ) (h : History) → Legal C h →
    (view : ViewNo) (floor : ℕ) (start : List ℕ) (limit : ℕ) (page : PageShown) (note : ℕ) (later past : History) →
    h ≡ later ++ happening (ViewRead view floor start limit) (View page) note ∷ past →
    (spec : ViewSpec) × StandsAt past view spec page.at
    × IsSound C (deltas_after C h) (Page spec floor start limit page page.at page.at)

-- ---- what an audit says of an index that keeps its promise
-- a receipt that the history gives: of a finished call of this number, or of a page that was read of a view that was
-- built for this specification
abbrev pub IsGiven : History → Receipt → ℕ → Type 0
IsGiven h (Call request answer from to) number =
    (reply : Reply) × (before : History) × (past : History) × (finished : IsFinished h request reply before past)
    × (finished.number.0 ≡ number) × GivesReceipt request
    × (answer ≡ reply.answer) × (from ≡ reply.from) × (to ≡ reply.to)
IsGiven h (Page spec floor start limit page from to) number =
    (view : ViewNo) × (note : ℕ) × (later : History) × (past : History)
    × (h ≡ later ++ happening (ViewRead view floor start limit) (View page) note ∷ past)
    × StandsAt past view spec page.at × (from ≡ page.at) × (to ≡ page.at)

abbrev pub IsOfCall : Receipt → Type 0
IsOfCall (Call request answer from to) = Unit {0}
IsOfCall (Page spec floor start limit page from to) = ⊥

-- receipts that the history gives, in any order: of calls of these numbers, each at most once, and of pages
pub record AreGiven (h : History) (receipts : List Receipt) : Type 0 where
  pub numbers : ℕ → ℕ
  pub given : (i : ℕ) (receipt : Receipt) → slice_get receipts i ≡ Some receipt → IsGiven h receipt (numbers i)
  pub once : (i j : ℕ) (one other : Receipt) → slice_get receipts i ≡ Some one → slice_get receipts j ≡ Some other
      → IsOfCall one → IsOfCall other → numbers i ≡ numbers j → i ≡ j

-- AN AUDIT BLAMES NO LEGAL HISTORY: against the deltas of its commits, neither these nor its receipts have a fault
abbrev pub AuditsBlameNone : Type 0
AuditsBlameNone =
    (C : ℕ) (h : History) (receipts : List Receipt) → Legal C h → AreGiven h receipts → (fault : Fault)
    → (¬ IsFirstFault DeltaBreaks (deltas_after C h) fault)
    × (¬ IsFirstReceiptFault C (deltas_after C h) receipts fault)
