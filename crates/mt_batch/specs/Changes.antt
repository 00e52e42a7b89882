-- The changes of a batch: the puts in their order, and then the removes.
use Rattle.std.specs.Prelude.{ℕ, ◌+◌, ◌≡◌, List, [], ◌∷◌, ◌++◌, length, Option, Some, None, Contains}
use Rattle.std.specs.FinMap.{get}
use Rattle.mt_types.specs.Rows.{Rows, after}
use Rattle.mt_types.specs.declared.row.Row.{Row}
use Rattle.mt_types.specs.declared.row.Change.{Change as RowChange}
use Rattle.mt_types.specs.declared.row.Change.TheVariants as made
use Rattle.mt_types.specs.declared.event.Request.{Request}
use Rattle.mt_types.specs.declared.event.Request.TheVariants as asked
use Rattle.mt_asked.specs.Borrowed.{sets_of}
use Rattle.mt_undo.specs.Removing.{Taken, drops}
use Rattle.mt_batch.specs.declared.batch.Change.{Change}
use Rattle.mt_batch.specs.declared.batch.Change.TheVariants.{Put, Remove}

abbrev pub key_of : Change → List ℕ
key_of (Put key sets) = key.now
key_of (Remove key) = key.now

-- the change as a call of its own
abbrev pub request_of_change : Change → Request
request_of_change (Put key sets) = asked.Put key.now (sets_of sets.now)
request_of_change (Remove key) = asked.Remove key.now

-- the keys whose rows are to be removed
abbrev pub removed_keys : List Change → List (List ℕ)
removed_keys [] = []
removed_keys (Put key sets ∷ changes) = removed_keys changes
removed_keys (Remove key ∷ changes) = key.now ∷ removed_keys changes

-- a key is changed twice: by a change, and by one before it
abbrev pub IsTwice : List (List ℕ) → Type 0
IsTwice keys = (before later : List (List ℕ)) × (key : List ℕ) × (keys ≡ before ++ key ∷ later) × Contains before key

-- what the puts make
abbrev pub puts_of : List Change → List RowChange
puts_of [] = []
puts_of (Put key sets ∷ changes) = made.Put key.now (sets_of sets.now) ∷ puts_of changes
puts_of (Remove key ∷ changes) = puts_of changes

-- a key with its row, if it has one
abbrev pub taken_at : List ℕ → Option Row → List Taken
taken_at key None = []
taken_at key (Some row) = (key, row) ∷ []

-- the rows that the removes take away, of these rows
abbrev pub taken_of : Rows → List Change → List Taken
taken_of rows [] = []
taken_of rows (Put key sets ∷ changes) = taken_of rows changes
taken_of rows (Remove key ∷ changes) = taken_at key.now (get rows key.now) ++ taken_of rows changes

-- what a batch makes after these changes of an index of C columns: the puts, and then the removes of keys that have a row
abbrev pub made_of : ℕ → List RowChange → List Change → List RowChange
made_of C before changes = puts_of changes ++ drops (taken_of (after C (before ++ puts_of changes)) changes)

-- the number of a remove's commit, if the last remove had this number, and the number of the last remove then
abbrev pub number_at : ℕ → Option Row → ℕ
number_at last None = 0
number_at last (Some row) = last + 1

abbrev pub last_at : ℕ → Option Row → ℕ
last_at last None = last
last_at last (Some row) = last + 1

-- the number of each change's commit, or 0 for a remove that finds no row, of these rows: the next put has the number
-- after `put`, and the next remove the number after `last`
abbrev pub numbers_from : Rows → ℕ → ℕ → List Change → List ℕ
numbers_from rows put last [] = []
numbers_from rows put last (Put key sets ∷ changes) = (put + 1) ∷ numbers_from rows (put + 1) last changes
numbers_from rows put last (Remove key ∷ changes) =
    number_at last (get rows key.now) ∷ numbers_from rows put (last_at last (get rows key.now)) changes

-- the numbers of a batch's commits, after these changes
abbrev pub numbers_of : ℕ → List RowChange → List Change → List ℕ
numbers_of C before changes =
    numbers_from (after C (before ++ puts_of changes)) (length before) (length (before ++ puts_of changes)) changes
