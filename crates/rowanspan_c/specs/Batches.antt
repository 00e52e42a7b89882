-- What a batch does with what a handle holds, and what it reports.
use Rattle.std.specs.Prelude.{ℕ, ◌≡◌, ◌⊎◌, List, ◌++◌, length, min, take, drop, if◌then◌else◌, map, Result, Ok, Err, Option, Some, None, IfErr, IfOk, OnOk, OnErr, MatchOption}
use Rattle.mt_types.specs.declared.refusal.Refusal.TheVariants.{NoMemory}
use Rattle.mt_batch.specs.declared.batch.Batched.{Batched}
use Rattle.mt_batch.specs.declared.batch.Batched.TheVariants.{Made, Unmet}
use Rattle.mt_batch.specs.declared.batch.BatchError.{BatchError}
use Rattle.mt_batch.specs.declared.batch.BatchError.TheVariants.{BadBatch, Refused}
use Rattle.mt_batch.specs.declared.batch.Change.{Change}
use Rattle.mt_batch.specs.declared.batch.Change.TheVariants.{Put, Remove}
use Rattle.mt_batch.specs.declared.batch.Condition.{Condition}
use Rattle.mt_batch.specs.Batch.{MayFail, StaysThere, batch_fault}
use Rattle.mt_batch.specs.Changes.{IsTwice, key_of}
use Rattle.mt_map.specs.Batches.{MapBatches}
use Rattle.mt_map.specs.Tidies.{MapView}
use Rattle.rowanspan_c.specs.declared.batching.BorrowedChange.{BorrowedChange}
use Rattle.rowanspan_c.specs.declared.status.TheConstants.{BAD_BATCH, CLOSED, DONE, UNMET}
use Rattle.rowanspan_c.specs.Told.{Tells, TellsRefusal}

-- a change as a batch has it
abbrev pub change_of : BorrowedChange → Change
change_of change = if change.removes then Remove change.key else Put change.key change.sets

-- ---- how it ends
-- as of a map, but that memory may be refused before a limit of a change is tested
pub record BatchEnds (s : MapView) (conditions : List Condition) (changes : List Change)
    (came : Result Batched BatchError) (t : MapView) : Type 0 where
  pub made : IfOk came (λ batched. MapBatches s conditions changes batched t)
  pub stays : OnErr came (StaysThere s.machine t.machine)
  pub fault : MatchOption (batch_fault s.machine.columns conditions changes) (IfErr came (MayFail changes))
      (λ error. (came ≡ Err error) ⊎ (came ≡ Err (Refused NoMemory)))
  pub once : OnOk came (IsTwice (map key_of changes) → ⊥)
  pub tidies : t.tidies ≡ s.tidies

-- ---- what is reported
-- the numbers, as far as there is room
abbrev pub HandsOutNumbers : List ℕ → List ℕ → List ℕ → Type 0
HandsOutNumbers numbers old new =
    new ≡ take (min (length numbers) (length old)) numbers ++ drop (min (length numbers) (length old)) old

abbrev pub TellsBatch : Result Batched BatchError → List ℕ → List ℕ → ℕ → ℕ → ℕ → Type 0
TellsBatch (Ok (Made made)) old new status told found =
    HandsOutNumbers made.numbers.items old new × Tells DONE made.to status told × (found ≡ 0)
TellsBatch (Ok (Unmet place version)) old new status told found =
    (new ≡ old) × Tells UNMET place status told × (found ≡ version)
TellsBatch (Err BadBatch) old new status told found = (new ≡ old) × Tells BAD_BATCH 0 status told × (found ≡ 0)
TellsBatch (Err (Refused refusal)) old new status told found =
    (new ≡ old) × TellsRefusal refusal status told × (found ≡ 0)

-- A BATCH IS MADE of the index that the handle holds, as a map makes it, and what it came to is reported
abbrev pub Batches : Option MapView → List Condition → List Change → List ℕ → Option MapView → List ℕ → ℕ → ℕ → ℕ
    → Type 0
Batches None conditions changes old next new status told found =
    (next ≡ None) × (new ≡ old) × Tells CLOSED 0 status told × (found ≡ 0)
Batches (Some s) conditions changes old next new status told found =
    (t : MapView) × (next ≡ Some t) × (came : Result Batched BatchError) × BatchEnds s conditions changes came t
    × TellsBatch came old new status told found
