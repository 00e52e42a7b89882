-- When the answer of a call is right. Each speaks of the moments from the call's begin to its end.
use Rattle.std.specs.Prelude.{ℕ, ◌+◌, ◌≡◌, ◌≤◌, List, length, Some, None, IsSome}
use Rattle.std.specs.FinMap.{get}
use Rattle.mt_types.specs.Ranges.{IsRangeAnswer}
use Rattle.mt_types.specs.Rows.{shown, version_of}
use Rattle.mt_promise.specs.History.{History, Moment, OpenCall, moment, rows, Sometime, Throughout}
use Rattle.mt_types.specs.declared.row.Row.{Row}
use Rattle.mt_types.specs.declared.event.Request.{Request}
use Rattle.mt_types.specs.declared.event.Request.TheVariants.{Get, Put, PutIf, Remove, Range, Tidy, Build}
use Rattle.mt_types.specs.declared.event.Answer.{Answer}
use Rattle.mt_types.specs.declared.event.Answer.TheVariants.{Absent, Found, Stored, Removed, Rows as RowsAnswer, Tidied, Built}

-- the row that the key has then, as it is shown
abbrev pub Shows : ℕ → List ℕ → List ℕ → Row → Moment → Type 0
Shows C key asked answer m = (row : Row) × (get (rows C m) key ≡ Some row) × (answer ≡ shown asked row)

-- the key has no row then
abbrev pub Lacks : ℕ → List ℕ → Moment → Type 0
Lacks C key m = get (rows C m) key ≡ None

-- the key has a row then
abbrev pub Stands : ℕ → List ℕ → Moment → Type 0
Stands C key m = IsSome (get (rows C m) key)

-- the key's row is of this version then; 0: it has none
abbrev pub HasVersion : ℕ → List ℕ → ℕ → Moment → Type 0
HasVersion C key version m = version_of (get (rows C m) key) ≡ version

-- the pairs of a range answer, asked from start on, at most limit of them, by a call that began when so much had
--     happened
abbrev pub RightRange : ℕ → ℕ → History → List ℕ → List ℕ → ℕ → List (List ℕ × Row) → Type 0
RightRange C began past start asked limit pairs =
    IsRangeAnswer (λ key answer. Sometime began (Shows C key asked answer) past)
    (λ key. Throughout began (Stands C key) past) start limit pairs

-- the answer of this call is right, given after this past
abbrev pub RightAnswer : ℕ → History → OpenCall → Request → Answer → ℕ → Type 0
RightAnswer C past call (Get key asked) Absent opens = Sometime call.began (Lacks C key) past
RightAnswer C past call (Get key asked) (Found row) opens = Sometime call.began (Shows C key asked row) past
RightAnswer C past call (Put key sets) (Stored number) opens = call.committed ≡ Some number
RightAnswer C past call (PutIf key sets version) (Stored number) opens = call.committed ≡ Some number
RightAnswer C past call (Remove key) (Removed number) opens = call.committed ≡ Some number
RightAnswer C past call (Remove key) Absent opens = (call.committed ≡ None) × Sometime call.began (Lacks C key) past
RightAnswer C past call (Range start limit asked) (RowsAnswer pairs) opens =
    RightRange C call.began past start asked limit pairs
RightAnswer C past call (Tidy key) (Tidied rule) opens = Unit {0}
RightAnswer C past call (Build spec) (Built number) opens =
    (number.0 ≡ (moment past).built + 1) × (call.from ≤ opens) × (opens ≤ length (moment past).commits)
RightAnswer C past call _ _ opens = ⊥
