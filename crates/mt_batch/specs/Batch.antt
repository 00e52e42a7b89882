-- What a batch comes to.
use Rattle.std.specs.Prelude.{ℕ, ◌≡◌, ◌≢◌, List, [], ◌∷◌, length, map, take, slice_get, Option, Some, None, nat_lt, ◌||◌, if◌then◌else◌}
use Rattle.std.specs.Option.{option_map, option_or}
use Rattle.std.specs.FinMap.{get}
use Rattle.std.specs.List.{AllByRecursion}
use Rattle.mt_types.specs.Limits.{key_fault, request_fault}
use Rattle.mt_types.specs.Rows.{Rows, version_of}
use Rattle.mt_types.specs.declared.refusal.Refusal.{Refusal}
use Rattle.mt_types.specs.declared.refusal.Refusal.TheVariants.{ArenaFull, FeedFull, NoMemory, Spent}
use Rattle.mt_promise.specs.History.{History, moment, rows}
use Rattle.mt_index.specs.Marks.{GoesOnByCalls}
use Rattle.mt_index.specs.Stands.{MachineView, Stands}
use Rattle.mt_batch.specs.declared.batch.Condition.{Condition}
use Rattle.mt_batch.specs.declared.batch.Change.{Change}
use Rattle.mt_batch.specs.declared.batch.Made.{Made}
use Rattle.mt_batch.specs.declared.batch.Batched.{Batched}
use Rattle.mt_batch.specs.declared.batch.Batched.TheVariants as came
use Rattle.mt_batch.specs.declared.batch.BatchError.{BatchError}
use Rattle.mt_batch.specs.declared.batch.BatchError.TheVariants.{BadBatch, Refused}
use Rattle.mt_batch.specs.declared.batch.TheConstants.{MAX_BATCH}
use Rattle.mt_batch.specs.Changes.{IsTwice, key_of, made_of, numbers_of, request_of_change}

-- ---- limits
-- the first limit that a condition breaks
abbrev pub conditions_fault : List Condition → Option Refusal
conditions_fault [] = None
conditions_fault (condition ∷ conditions) = option_or (key_fault condition.key.now) (conditions_fault conditions)

-- the first limit that a change breaks, in an index of C columns
abbrev pub changes_fault : ℕ → List Change → Option Refusal
changes_fault C [] = None
changes_fault C (change ∷ changes) = option_or (request_fault C (request_of_change change)) (changes_fault C changes)

-- the limit that a batch breaks, if it breaks one
abbrev pub batch_fault : ℕ → List Condition → List Change → Option BatchError
batch_fault C conditions changes =
    if nat_lt MAX_BATCH (length conditions) || nat_lt MAX_BATCH (length changes) then Some BadBatch
    else option_map Refused (option_or (conditions_fault conditions) (changes_fault C changes))

-- what a put or a remove within its limits may be refused for
abbrev pub MayLack : Refusal → Type 0
MayLack NoMemory = Unit {0}
MayLack ArenaFull = Unit {0}
MayLack (FeedFull slowest) = Unit {0}
MayLack Spent = Unit {0}
MayLack _ = ⊥

-- why a batch within its limits may be refused: it changes a key twice, or for what a change of it may be
abbrev pub MayFail : List Change → BatchError → Type 0
MayFail changes BadBatch = IsTwice (map key_of changes)
MayFail changes (Refused refusal) = MayLack refusal

-- ---- conditions
abbrev pub Holds : Rows → Condition → Type 0
Holds rows condition = version_of (get rows condition.key.now) ≡ condition.version

-- those before this place hold
abbrev pub HoldUpTo : ℕ → Rows → List Condition → Type 0
HoldUpTo place rows conditions = AllByRecursion (Holds rows) (take place conditions)

-- the first that doesn't hold is at this place, and the row of its key has this version
pub record IsUnmet (rows : Rows) (conditions : List Condition) (place found : ℕ) : Type 0 where
  pub met : HoldUpTo place rows conditions
  pub condition : Condition
  pub there : slice_get conditions place ≡ Some condition
  pub has : found ≡ version_of (get rows condition.key.now)
  pub other : found ≢ condition.version

-- ---- changes
-- all changes are made, as consecutive commits, each as by a call of three events, and nothing else has happened; each has the
-- number that the answer says
pub record HasMade (s : MachineView) (h : History) (changes : List Change) (made : Made) (t : MachineView) : Type 0 where
  pub ahead : History
  pub stands : Stands t ahead
  pub goes : GoesOnByCalls s.columns h (made_of s.columns (moment h).commits changes) ahead
  pub from : made.from ≡ length (moment h).commits
  pub to : made.to ≡ length (moment ahead).commits
  pub numbers : made.numbers.items ≡ numbers_of s.columns (moment h).commits changes

-- whichever history the machine was at
abbrev pub HasMadeAll : MachineView → List Change → Made → MachineView → Type 0
HasMadeAll s changes made t = (h : History) → Stands s h → HasMade s h changes made t

-- WHAT A BATCH COMES TO: all conditions hold, and all changes are made; or a condition doesn't hold, and nothing has
-- changed
abbrev pub ComesTo : MachineView → List Condition → List Change → Batched → MachineView → Type 0
ComesTo s conditions changes (came.Made made) t =
    ((h : History) → Stands s h → AllByRecursion (Holds (rows s.columns (moment h))) conditions)
    × HasMadeAll s changes made t
ComesTo s conditions changes (came.Unmet place found) t =
    ((h : History) → Stands s h → IsUnmet (rows s.columns (moment h)) conditions place found) × (t ≡ s)

-- WHAT A REFUSED BATCH LEAVES: the machine is at each history at which it was
abbrev pub StaysThere : MachineView → MachineView → Type 0
StaysThere s t = (h : History) → Stands s h → Stands t h
