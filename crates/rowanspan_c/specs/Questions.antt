-- What a reader asks, and which answers are right.
use Rattle.std.specs.Prelude.{ℕ, ◌≡◌, nat_lt, List, [], take, drop, Result, Ok, Err, Option, Some, None, MatchOption}
use Rattle.std.specs.Option.{option_copied, option_map, option_or}
use Rattle.std.specs.FinMap.{get}
use Rattle.mt_types.specs.Rows.{shown}
use Rattle.mt_types.specs.Limits.{request_fault, page_fault, refused_if}
use Rattle.mt_types.specs.declared.event.Request.TheVariants.{Get, Range}
use Rattle.mt_types.specs.declared.event.Outcome.TheVariants.{View}
use Rattle.mt_types.specs.declared.refusal.Refusal.{Refusal}
use Rattle.mt_types.specs.declared.refusal.Refusal.TheVariants.{NoMemory, NoSuchView, Behind}
use Rattle.mt_types.specs.declared.row.Row.{Row as RowValue}
use Rattle.mt_types.specs.declared.row.Delta.{Delta}
use Rattle.mt_types.specs.declared.view.Page.{Page as PageValue}
use Rattle.mt_promise.specs.History.{History, moment, rows}
use Rattle.mt_promise.specs.Alone.{IsRangeOfMap}
use Rattle.mt_commit.specs.Logged.{deltas_of}
use Rattle.mt_view.specs.State.{StateView}
use Rattle.mt_view.specs.Views.{state_at}
use Rattle.mt_index.specs.Stands.{MachineView, Stands, ReadsView}
use Rattle.mt_index.specs.Feed.{feed_fault}
use Rattle.mt_reads.specs.Counts.{count_fault, count_of, gets_fault, rows_of}
use Rattle.mt_reads.specs.Ranges.{IsRangeBack, back_fault}
use Rattle.rowanspan_c.specs.declared.reading.Question.{Question}
use Rattle.rowanspan_c.specs.declared.reading.Question.TheVariants.{Rows, RowsBack, Many, Page, Deltas}
use Rattle.rowanspan_c.specs.Keys.{keys_of}
use Rattle.rowanspan_c.specs.Spelling.{row_spelling, found_spelling, pairs_spelling, totals_spelling, page_spelling, deltas_spelling}

-- THE CAUSE OF A REFUSAL: the fault if there is one, and out of memory only if there is none
abbrev pub IsCausedBy : Option Refusal → Refusal → Type 0
IsCausedBy fault refusal = MatchOption fault (refusal ≡ NoMemory) (λ due. refusal ≡ due)

-- why a page of a view in this state is refused: there is no such view, or it is at fewer commits than the floor
abbrev pub state_refusal : Option StateView → ℕ → Option Refusal
state_refusal None floor = Some NoSuchView
state_refusal (Some state) floor = refused_if (nat_lt state.at floor) (Behind state.at)

-- why a page is refused: for the first limit that it breaks, and then for its view
abbrev pub page_refusal : MachineView → ℕ → ℕ → List ℕ → ℕ → Option Refusal
page_refusal s view floor start limit =
    option_or (page_fault start limit) (state_refusal (state_at view s.views.views) floor)

-- ---- what is right, at each history at which the machine is
-- the row of a key in the plain map of the rows, as it is shown
abbrev pub IsPlainRow : MachineView → List ℕ → List ℕ → Option RowValue → Type 0
IsPlainRow s key asked row = (h : History) → Stands s h
    → row ≡ option_map (shown asked) (get (rows s.columns (moment h)) key)

-- the first pairs of that map from a key
abbrev pub ArePlainRows : MachineView → List ℕ → ℕ → List ℕ → List (List ℕ × RowValue) → Type 0
ArePlainRows s start limit asked pairs = (h : History) → Stands s h
    → IsRangeOfMap (rows s.columns (moment h)) asked start limit pairs

-- the last pairs of that map before a bound
abbrev pub ArePlainRowsBack : MachineView → Option (List ℕ) → ℕ → List ℕ → List (List ℕ × RowValue) → Type 0
ArePlainRowsBack s before limit asked pairs = (h : History) → Stands s h
    → IsRangeBack (rows s.columns (moment h)) asked before limit pairs

-- the deltas of its commits after a number
abbrev pub AreDeltas : MachineView → ℕ → ℕ → List Delta → Type 0
AreDeltas s from limit deltas = (h : History) → Stands s h
    → deltas ≡ take limit (drop from (deltas_of s.columns (moment h).commits))

-- ---- the bytes of a right answer, or none if a key has no row; or why the reader is refused
-- a get is refused only for the first limit that it breaks, never as out of memory
abbrev pub ReadsRow : MachineView → List ℕ → List ℕ → Result (Option (List ℕ)) Refusal → Type 0
ReadsRow s key asked (Ok bytes) =
    (row : Option RowValue) × IsPlainRow s key asked row × (bytes ≡ option_map row_spelling row)
    × (request_fault s.columns (Get key asked) ≡ None)
ReadsRow s key asked (Err refusal) = request_fault s.columns (Get key asked) ≡ Some refusal

abbrev pub ReadsRows : MachineView → List ℕ → ℕ → List ℕ → Result (Option (List ℕ)) Refusal → Type 0
ReadsRows s start limit asked (Ok bytes) =
    (pairs : List (List ℕ × RowValue)) × ArePlainRows s start limit asked pairs
    × (bytes ≡ Some (pairs_spelling pairs)) × (request_fault s.columns (Range start limit asked) ≡ None)
ReadsRows s start limit asked (Err refusal) = IsCausedBy (request_fault s.columns (Range start limit asked)) refusal

abbrev pub ReadsRowsBack : MachineView → Option (List ℕ) → ℕ → List ℕ → Result (Option (List ℕ)) Refusal → Type 0
ReadsRowsBack s before limit asked (Ok bytes) =
    (pairs : List (List ℕ × RowValue)) × ArePlainRowsBack s before limit asked pairs
    × (bytes ≡ Some (pairs_spelling pairs)) × (back_fault s.columns before limit asked ≡ None)
ReadsRowsBack s before limit asked (Err refusal) = IsCausedBy (back_fault s.columns before limit asked) refusal

-- how many rows a range has, counted up to a number
abbrev pub CountsTo : MachineView → List ℕ → Option (List ℕ) → ℕ → Result ℕ Refusal → Type 0
CountsTo s start end most (Ok count) =
    ((h : History) → Stands s h → count ≡ count_of (rows s.columns (moment h)) start end most)
    × (count_fault start end ≡ None)
CountsTo s start end most (Err refusal) = IsCausedBy (count_fault start end) refusal

-- the rows of many keys, in their order, each of which may be absent
abbrev pub ReadsMany : MachineView → List (List ℕ) → List ℕ → Result (Option (List ℕ)) Refusal → Type 0
ReadsMany s keys asked (Ok bytes) =
    ((h : History) → Stands s h → bytes ≡ Some (found_spelling (rows_of (rows s.columns (moment h)) asked keys)))
    × (gets_fault s.columns keys asked ≡ None)
ReadsMany s keys asked (Err refusal) = IsCausedBy (gets_fault s.columns keys asked) refusal

abbrev pub ReadsPage : MachineView → ℕ → ℕ → List ℕ → ℕ → Result (Option (List ℕ)) Refusal → Type 0
ReadsPage s view floor start limit (Ok bytes) =
    (page : PageValue) × ReadsView s view floor start limit (View page) × (bytes ≡ Some (page_spelling page))
ReadsPage s view floor start limit (Err refusal) = IsCausedBy (page_refusal s view floor start limit) refusal

-- the totals of a view are those of each of its pages. They are refused only for the view, never as out of memory
abbrev pub ReadsTotals : MachineView → ℕ → ℕ → Result (Option (List ℕ)) Refusal → Type 0
ReadsTotals s view floor (Ok bytes) =
    (page : PageValue) × ReadsView s view floor [] 1 (View page) × (bytes ≡ Some (totals_spelling page))
ReadsTotals s view floor (Err refusal) = state_refusal (state_at view s.views.views) floor ≡ Some refusal

abbrev pub ReadsDeltas : MachineView → ℕ → ℕ → Result (Option (List ℕ)) Refusal → Type 0
ReadsDeltas s from limit (Ok bytes) =
    (deltas : List Delta) × AreDeltas s from limit deltas × (bytes ≡ Some (deltas_spelling deltas))
    × (feed_fault s.log from limit ≡ None)
ReadsDeltas s from limit (Err refusal) = IsCausedBy (feed_fault s.log from limit) refusal

-- WHAT A QUESTION IS ANSWERED
abbrev pub IsAnswer : MachineView → Question → Result (Option (List ℕ)) Refusal → Type 0
IsAnswer s (Rows start limit columns) read = ReadsRows s start.now limit columns.now read
IsAnswer s (RowsBack before limit columns) read = ReadsRowsBack s (option_copied before) limit columns.now read
IsAnswer s (Many keys columns) read = ReadsMany s (keys_of keys.now) columns.now read
IsAnswer s (Page view floor start limit) read = ReadsPage s view.0 floor start.now limit read
IsAnswer s (Deltas from limit) read = ReadsDeltas s from limit read
