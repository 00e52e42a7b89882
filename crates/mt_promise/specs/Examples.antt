-- Small histories of an index of one column, told in the order in which they happened: one that is legal, and those
-- that the definitions must refute.
use Rattle.std.specs.Prelude.{ℕ, ◌-◌, List, [], ◌∷◌, ◌++◌, None}
use Rattle.mt_promise.specs.History.{Happening, happening, History}
use Rattle.mt_promise.specs.Legal.{Legal}
use Rattle.mt_promise.specs.Headline.{ViewsAreRight}
use Rattle.mt_types.specs.declared.row.Row.{Row}
use Rattle.mt_types.specs.declared.view.ViewSpec.{ViewSpec}
use Rattle.mt_types.specs.declared.view.ViewSpec.TheVariants.{Range as RangeOf}
use Rattle.mt_types.specs.declared.view.RowTest.TheVariants.{AtLeast}
use Rattle.mt_types.specs.declared.event.Event.TheVariants.{Begin, Step, Apply, ViewRead, ViewDrop}
use Rattle.mt_types.specs.declared.event.Outcome.{Outcome}
use Rattle.mt_types.specs.declared.event.Outcome.TheVariants.{Call, Moved, Commit, Done, Applied, Dropped, View}
use Rattle.mt_types.specs.declared.event.Request.{Request}
use Rattle.mt_types.specs.declared.event.Request.TheVariants.{Get, Put, Range, Build}
use Rattle.mt_types.specs.declared.event.Answer.{Answer}
use Rattle.mt_types.specs.declared.event.Answer.TheVariants.{Absent, Found, Stored, Rows as RowsAnswer, Built}

-- these happenings after a past, in their order
abbrev pub told : History → List Happening → History
told past [] = past
told past (x ∷ xs) = told (x ∷ past) xs

-- the key and the bytes of the column
abbrev pub key : List ℕ
key = 97 ∷ []

abbrev pub bytes : List ℕ
bytes = 118 ∷ []

abbrev pub row : Row
row = record { version = 1; columns = bytes ∷ [] }

abbrev pub put : Request
put = Put key ((0, bytes) ∷ [])

abbrev pub get_all : Request
get_all = Get key []

abbrev pub begins : ℕ → Request → ℕ → Happening
begins pass request call = happening (Begin (record { 0 = pass }) request) (Call (record { 0 = call })) 0

abbrev pub steps : ℕ → Outcome → Happening
steps call outcome = happening (Step (record { 0 = call })) outcome 0

abbrev pub done : ℕ → ℕ → ℕ → ℕ → Answer → Happening
done pass call from to answer =
    steps call (Done (record {
      pass = record { 0 = pass };
      call = record { 0 = call };
      from = from;
      to = to;
      answer = answer;
    }))

-- a put and a get begin, and the put comes to the border
abbrev pub two_begun : History
two_begun =
    told [] (begins 1 put 1 ∷ begins 2 get_all 2 ∷ steps 1 Moved ∷ steps 1 Moved ∷ steps 1 Moved ∷ steps 2 Moved ∷ [])

-- the row is visible by its commit alone: a get before it finds nothing, a get after it finds the row, before the put
--     is done
abbrev pub visible_by_commit_alone : History
visible_by_commit_alone =
    told two_begun (done 2 2 0 0 Absent ∷ steps 1 (Commit 1) ∷ begins 2 get_all 3 ∷ steps 3 Moved ∷
    done 2 3 1 1 (Found row) ∷ done 1 1 0 1 (Stored 1) ∷ [])

-- a get that begins after the put is done finds nothing
abbrev pub late_absence : History
late_absence =
    told two_begun (done 2 2 0 0 Absent ∷ steps 1 (Commit 1) ∷ done 1 1 0 1 (Stored 1) ∷ begins 2 get_all 3 ∷
    steps 3 Moved ∷ done 2 3 1 1 Absent ∷ [])

-- a get finds the row before the commit
abbrev pub early_row : History
early_row = told two_begun (done 2 2 0 0 (Found row) ∷ [])

-- a range leaves out a key that was there throughout
abbrev pub key_left_out : History
key_left_out =
    told visible_by_commit_alone (begins 1 (Range [] 10 []) 4 ∷ steps 4 Moved ∷ done 1 4 1 1 (RowsAnswer []) ∷ [])

-- the first commit has the number 2
abbrev pub wrong_commit : History
wrong_commit = told two_begun (steps 1 (Commit 2) ∷ [])

-- a put commits twice
abbrev pub two_commits : History
two_commits = told two_begun (steps 1 (Commit 1) ∷ steps 1 (Commit 2) ∷ [])

-- a view of the rows whose amount is at least 5
abbrev pub at_least_five : ViewSpec
at_least_five = RangeOf [] None (AtLeast 0 5)

-- a put of one amount, from its begin to its end
abbrev pub put_amount : ℕ → ℕ → ℕ → List Happening
put_amount call number amount =
    begins 1 (Put key ((0, amount ∷ []) ∷ [])) call ∷ steps call (Commit number) ∷
    done 1 call (number - 1) number (Stored number) ∷ []

-- a row comes into the view with the amount 5 and goes out with the amount 4, and the 5 is left in the sum
abbrev pub amount_left : History
amount_left =
    told [] (begins 1 (Build at_least_five) 1 ∷ done 1 1 0 0 (Built (record { 0 = 1 })) ∷
    (put_amount 2 1 5 ++ put_amount 3 2 4 ++
    (happening (Apply (record { 0 = 1 })) (Applied 1) 0 ∷ happening (Apply (record { 0 = 1 })) (Applied 2) 0 ∷
    happening (ViewRead (record { 0 = 1 }) 0 [] 10) (View (record { at = 2; count = 0; sums = 5 ∷ []; rows = [] })) 0
    ∷ [])))

-- a view of this specification is built on an index without rows
abbrev pub build_first : List Happening
build_first = begins 1 (Build at_least_five) 1 ∷ done 1 1 0 0 (Built (record { 0 = 1 })) ∷ []

-- a page of the first view is shown, without rows
abbrev pub shows_none : ℕ → Happening
shows_none at =
    happening (ViewRead (record { 0 = 1 }) 0 [] 10) (View (record { at = at; count = 0; sums = 0 ∷ []; rows = [] })) 0

-- a view is dropped, and then a page of it is shown
abbrev pub page_after_drop : History
page_after_drop = told [] (build_first ++ (happening (ViewDrop (record { 0 = 1 })) Dropped 0 ∷ shows_none 0 ∷ []))

-- a view is advanced by a commit, and its page is still the one from before it
abbrev pub page_left_behind : History
page_left_behind =
    told [] (build_first ++ (put_amount 2 1 4
    ++ (happening (Apply (record { 0 = 1 })) (Applied 1) 0 ∷ shows_none 0 ∷ [])))

-- what the definitions say of them
abbrev pub VisibleIsLegal : Type 0
VisibleIsLegal = Legal 1 visible_by_commit_alone

abbrev pub LateAbsenceIsRefuted : Type 0
LateAbsenceIsRefuted = ¬ (Legal 1 late_absence)

abbrev pub EarlyRowIsRefuted : Type 0
EarlyRowIsRefuted = ¬ (Legal 1 early_row)

abbrev pub KeyLeftOutIsRefuted : Type 0
KeyLeftOutIsRefuted = ¬ (Legal 1 key_left_out)

abbrev pub WrongCommitIsRefuted : Type 0
WrongCommitIsRefuted = ¬ (Legal 1 wrong_commit)

abbrev pub TwoCommitsAreRefuted : Type 0
TwoCommitsAreRefuted = ¬ (Legal 1 two_commits)

abbrev pub AmountLeftIsRefuted : Type 0
AmountLeftIsRefuted = ¬ (Legal 1 amount_left)

abbrev pub PageAfterDropIsRefuted : Type 0
PageAfterDropIsRefuted = ¬ (Legal 1 page_after_drop)

abbrev pub PageLeftBehindIsRefuted : Type 0
PageLeftBehindIsRefuted = ¬ (Legal 1 page_left_behind)

-- and so says the promise itself, whatever is legal
abbrev pub PageAfterDropIsNotRight : Type 0
PageAfterDropIsNotRight = ¬ (ViewsAreRight 1 page_after_drop)

abbrev pub PageLeftBehindIsNotRight : Type 0
PageLeftBehindIsNotRight = ¬ (ViewsAreRight 1 page_left_behind)
