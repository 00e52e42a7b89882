-- When a receipt is sound against the deltas of a log: the rows at each number of commits are what the deltas say.
use Rattle.std.specs.Prelude.{ℕ, ◌-◌, ◌≡◌, ◌<◌, ◌≤◌, ◌⊎◌, List, [], ◌∷◌, take, length, slice_get, Option, Some, None, IsSome, IfSome}
use Rattle.std.specs.FinMap.{get, empty}
use Rattle.mt_types.specs.Limits.{request_fault, spec_fault, page_fault}
use Rattle.mt_types.specs.Ranges.{IsRangeAnswer}
use Rattle.mt_types.specs.Rows.{Rows, shown, version_of}
use Rattle.mt_types.specs.Views.{afresh, column_sums, page_from}
use Rattle.mt_types.specs.declared.row.Row.{Row}
use Rattle.mt_types.specs.declared.row.Change.{Change}
use Rattle.mt_types.specs.declared.row.Change.TheVariants.{Put as PutChange, Drop as DropChange}
use Rattle.mt_types.specs.declared.row.Delta.{Delta}
use Rattle.mt_types.specs.declared.event.Request.{Request}
use Rattle.mt_types.specs.declared.event.Request.TheVariants.{Get, Put, PutIf, Remove, Range, Tidy, Build}
use Rattle.mt_types.specs.declared.event.Answer.{Answer}
use Rattle.mt_types.specs.declared.event.Answer.TheVariants.{Absent, Found, Stored, Removed, Rows as RowsAnswer}
use Rattle.mt_types.specs.declared.view.Page.{Page as PageShown}
use Rattle.mt_types.specs.declared.view.ViewSpec.{ViewSpec}
use Rattle.mt_commit.specs.Deltas.{redo}
use Rattle.mt_commit.specs.Log.{Numbered}
use Rattle.mt_commit.specs.Logged.{delta_made}
use Rattle.mt_check.specs.declared.receipt.Receipt.{Receipt}
use Rattle.mt_check.specs.declared.receipt.Receipt.TheVariants.{Call, Page}

-- the rows after these deltas, done one after the other
abbrev pub rows_after : List Delta → Rows → Rows
rows_after [] rows = rows
rows_after (delta ∷ deltas) rows = rows_after deltas (redo delta rows)

-- the rows at a number of commits
abbrev pub rows_at : List Delta → ℕ → Rows
rows_at deltas number = rows_after (take number deltas) empty

-- the number of a row, if there is one, is this
abbrev pub HasVersion : ℕ → Option Row → Type 0
HasVersion number row = IfSome row (λ r. r.version ≡ number)

-- A delta fits what its key had before it: that is its row before; its row after has the delta's number; and one of the
--     two is a row.
pub record FitsRow (there : Option Row) (delta : Delta) : Type 0 where
  pub before : there ≡ delta.before
  pub version : HasVersion delta.number delta.after
  pub changes : IsSome delta.before ⊎ IsSome delta.after

-- the deltas are numbered from 1, and each fits the rows at the number before
pub record IsSoundLog (deltas : List Delta) : Type 0 where
  pub numbered : Numbered 0 deltas
  pub fits : (number : ℕ) (delta : Delta) → slice_get deltas number ≡ Some delta
      → FitsRow (get (rows_at deltas number) delta.key) delta

-- at some number of commits from one to another
abbrev pub Sometime : ℕ → ℕ → (ℕ → Type 0) → Type 0
Sometime from to P = (number : ℕ) × (from ≤ number) × (number ≤ to) × P number

-- at each such number
abbrev pub Throughout : ℕ → ℕ → (ℕ → Type 0) → Type 0
Throughout from to P = (number : ℕ) → from ≤ number → number ≤ to → P number

-- the row that the key has at a number of commits, as it is shown
abbrev pub Shows : List Delta → List ℕ → List ℕ → Row → ℕ → Type 0
Shows deltas key asked answer number =
    (row : Row) × (get (rows_at deltas number) key ≡ Some row) × (answer ≡ shown asked row)

-- the key has no row then
abbrev pub Lacks : List Delta → List ℕ → ℕ → Type 0
Lacks deltas key number = get (rows_at deltas number) key ≡ None

-- the key has a row then
abbrev pub Stands : List Delta → List ℕ → ℕ → Type 0
Stands deltas key number = IsSome (get (rows_at deltas number) key)

-- the key's row is of this version then; 0: it has none
abbrev pub IsOfVersion : List Delta → List ℕ → ℕ → ℕ → Type 0
IsOfVersion deltas key version number = version_of (get (rows_at deltas number) key) ≡ version

-- the commit of this number was made after one number of commits and up to another, and its delta is that of the change
abbrev pub IsCommit : ℕ → List Delta → ℕ → ℕ → ℕ → Change → Type 0
IsCommit C deltas from to number change =
    (from < number) × (number ≤ to)
    × (slice_get deltas (number - 1) ≡ Some (delta_made C number change (rows_at deltas (number - 1))))

-- the answer to a request is right for a call that began at one number of commits and ended at another
abbrev pub IsRightAnswer : ℕ → List Delta → ℕ → ℕ → Request → Answer → Type 0
IsRightAnswer C deltas from to (Get key asked) Absent = Sometime from to (Lacks deltas key)
IsRightAnswer C deltas from to (Get key asked) (Found row) = Sometime from to (Shows deltas key asked row)
IsRightAnswer C deltas from to (Put key sets) (Stored number) = IsCommit C deltas from to number (PutChange key sets)
IsRightAnswer C deltas from to (PutIf key sets version) (Stored number) =
    IsCommit C deltas from to number (PutChange key sets) × IsOfVersion deltas key version (number - 1)
IsRightAnswer C deltas from to (Remove key) (Removed number) = IsCommit C deltas from to number (DropChange key)
IsRightAnswer C deltas from to (Remove key) Absent = Sometime from to (Lacks deltas key)
IsRightAnswer C deltas from to (Range start limit asked) (RowsAnswer pairs) =
    IsRangeAnswer (λ key answer. Sometime from to (Shows deltas key asked answer))
    (λ key. Throughout from to (Stands deltas key)) start limit pairs
IsRightAnswer C deltas from to _ _ = ⊥

-- what a view shows of these rows, which are those at a number of commits
abbrev pub page_of_rows : ℕ → Rows → ℕ → ViewSpec → List ℕ → ℕ → PageShown
page_of_rows C rows number spec start limit =
    let pairs = afresh spec rows in
    record { at = number; count = length pairs; sums = column_sums 0 C pairs; rows = page_from start limit pairs }

-- the page is of a view at a number of commits, not before the floor and not after the last
abbrev pub IsRightPage : ℕ → List Delta → ℕ → ViewSpec → ℕ → List ℕ → ℕ → PageShown → Type 0
IsRightPage C deltas to spec floor start limit page =
    (floor ≤ page.at) × (page.at ≤ to) × (page ≡ page_of_rows C (rows_at deltas page.at) page.at spec start limit)

-- a tidy and a build give no receipt
abbrev pub GivesReceipt : Request → Type 0
GivesReceipt (Tidy key) = ⊥
GivesReceipt (Build spec) = ⊥
GivesReceipt _ = Unit {0}

-- what a receipt says was asked for breaks no limit of an index of C columns
abbrev pub IsAsked : ℕ → Receipt → Type 0
IsAsked C (Call request answer from to) = GivesReceipt request × (request_fault C request ≡ None)
IsAsked C (Page spec floor start limit page from to) = (spec_fault C spec ≡ None) × (page_fault start limit ≡ None)

-- the receipt is of numbers of commits that the log has, the first not after the last
abbrev pub IsWithin : ℕ → Receipt → Type 0
IsWithin commits (Call request answer from to) = (from ≤ to) × (to ≤ commits)
IsWithin commits (Page spec floor start limit page from to) = (from ≤ to) × (to ≤ commits)

-- what it was given is right
abbrev pub IsRight : ℕ → List Delta → Receipt → Type 0
IsRight C deltas (Call request answer from to) = IsRightAnswer C deltas from to request answer
IsRight C deltas (Page spec floor start limit page from to) = IsRightPage C deltas to spec floor start limit page

abbrev pub IsSound : ℕ → List Delta → Receipt → Type 0
IsSound C deltas receipt = IsWithin (length deltas) receipt × IsRight C deltas receipt

abbrev pub claim_of : Request → Answer → Option ℕ
claim_of (Put key sets) (Stored number) = Some number
claim_of (PutIf key sets version) (Stored number) = Some number
claim_of (Remove key) (Removed number) = Some number
claim_of _ _ = None

-- the number of the commit that a receipt claims to have made
abbrev pub claim : Receipt → Option ℕ
claim (Call request answer from to) = claim_of request answer
claim (Page spec floor start limit page from to) = None

-- a receipt among these claims the number
abbrev pub IsClaimed : List Receipt → ℕ → Type 0
IsClaimed receipts number =
    (i : ℕ) × (receipt : Receipt) × (slice_get receipts i ≡ Some receipt) × (claim receipt ≡ Some number)

-- the number that the receipt claims is claimed by one of these too
abbrev pub ClaimsAgain : List Receipt → Receipt → Type 0
ClaimsAgain receipts receipt = (number : ℕ) × (claim receipt ≡ Some number) × IsClaimed receipts number

-- no number is claimed by two of the receipts
abbrev pub NoneClaimsAgain : List Receipt → Type 0
NoneClaimsAgain receipts =
    (i : ℕ) (receipt : Receipt) → slice_get receipts i ≡ Some receipt → ¬ ClaimsAgain (take i receipts) receipt
