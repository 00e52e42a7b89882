-- A STORE OF ONE CALLER: its machine and what has happened on it; and calls of it, event by event.
use Rattle.std.specs.Prelude.{ℕ, ◌+◌, ◌-◌, ◌≡◌, ◌≤◌, ◌⊎◌, List, [], ◌∷◌, length, map, All, Option, IsSomeAnd, true}
use Rattle.mt_types.specs.Numbers.{greatest_number, least}
use Rattle.mt_types.specs.declared.limits.TheConstants.{MAX_NODES}
use Rattle.mt_types.specs.declared.numbers.PassNo.{PassNo}
use Rattle.mt_types.specs.declared.numbers.CallNo.{CallNo}
use Rattle.mt_types.specs.declared.refusal.Refusal.{Refusal}
use Rattle.mt_types.specs.declared.refusal.Refusal.TheVariants.{NoMemory, ArenaFull, FeedFull, Spent, OtherVersion}
use Rattle.mt_types.specs.declared.event.Event.{Event}
use Rattle.mt_types.specs.declared.event.Event.TheVariants.{Begin, Step}
use Rattle.mt_types.specs.declared.event.Outcome.{Outcome}
use Rattle.mt_types.specs.declared.event.Outcome.TheVariants.{Call as Called}
use Rattle.mt_types.specs.declared.event.Request.{Request}
use Rattle.mt_types.specs.declared.event.Request.TheVariants.{Put, PutIf, Remove, Build}
use Rattle.mt_promise.specs.History.{History, Moment, StandingView, GoesOn, moment}
use Rattle.mt_promise.specs.Legal.{begin_fault}
use Rattle.mt_word.specs.declared.version_word.TheConstants.{MAX_SPLITS}
use Rattle.mt_border.specs.Border.{insert_is_spent}
use Rattle.mt_arena.specs.Node.{border_at, occupied}
use Rattle.mt_index.specs.Events.{AllHappen}
use Rattle.mt_index.specs.Stands.{MachineView}
use Rattle.mt_shared.specs.Drives.{Continues}

pub record Store : Type 0 where
  pub machine : MachineView
  pub past : History

abbrev pub now : Store → Moment
now s = moment s.past

-- how many changes were made
abbrev pub newest : Store → ℕ
newest s = length (now s).commits

-- these events happened one after the other, with these outcomes, one for each: to the machine, and in the history
abbrev pub Leads : Store → List Event → List Outcome → Store → Type 0
Leads s events outcomes t = AllHappen s.machine events outcomes t.machine × GoesOn s.past events outcomes t.past

-- ---- a call
-- the first limit that a call breaks when it begins
abbrev pub fault : Store → Request → Option Refusal
fault s request = begin_fault s.machine.columns (now s).begun 0 (length (now s).views) request

-- its begin, and one step for each of these outcomes
abbrev pub call_events : PassNo → Request → CallNo → List Outcome → List Event
call_events pass request number outcomes =
    Begin pass request ∷ map (λ (outcome : Outcome). Step number) outcomes

-- a call of this pass and number has begun and made steps, by none of which it ended, and has come to this store
pub record ComesTo (s : Store) (pass : PassNo) (request : Request) (number : CallNo) (m : Store) : Type 0 where
  pub steps : List Outcome
  pub continue : All Continues steps
  pub leads : Leads s (call_events pass request number steps) (Called number ∷ steps) m

-- and then its last step had this outcome
pub record EndsBy (s : Store) (pass : PassNo) (request : Request) (number : CallNo) (last : Outcome)
    (t : Store) : Type 0 where
  pub m : Store
  pub comes : ComesTo s pass request number m
  pub ends : Leads m (Step number ∷ []) (last ∷ []) t

-- ---- what a call may lack
-- from which number of changes on the log is held: the least at which a view is, or that of all changes
abbrev pub slowest_view : Store → ℕ
slowest_view s = least (newest s) (map (λ (v : StandingView). v.at) (now s).views)

-- the log holds as many changes as it may for the view that is furthest behind, which is at this number
abbrev pub IsFull : Store → ℕ → Type 0
IsFull s slowest = (slowest ≡ slowest_view s) × (s.machine.log.capacity ≤ newest s - slowest)

-- at most one number of a node is free: a split wants one, a layer two
abbrev pub HasFewNodes : MachineView → Type 0
HasFewNodes m = MAX_NODES ≤ occupied m.tree.nodes + 1

-- a border has counted as many insertions, or as many splits, as its version can
abbrev pub HasSpentBorder : MachineView → Type 0
HasSpentBorder m = (number : ℕ) × IsSomeAnd (border_at m.tree.nodes number)
    (λ border. (insert_is_spent border ≡ true) ⊎ (border.version.vsplit ≡ MAX_SPLITS))

-- the call came to a store whose machine is so
abbrev pub Meets : Store → PassNo → Request → CallNo → (MachineView → Type 0) → Type 0
Meets s pass request number Lacks = (m : Store) × ComesTo s pass request number m × Lacks m.machine

-- no number is left for its commit, or in a border that it came to
abbrev pub MeetsSpent : Store → PassNo → Request → CallNo → Type 0
MeetsSpent s pass request number = (greatest_number ≤ newest s) ⊎ Meets s pass request number HasSpentBorder

-- WHY A CALL THAT HAS BEGUN IS REFUSED: it is out of memory; a put or remove found the log full, or numbers spent; a put
-- no free nodes; a conditional put its key's row of another version (of which, `EndsRefused` says); a build that as many
-- views were built as there are numbers.
abbrev pub MayLack : Store → PassNo → Request → CallNo → Refusal → Type 0
MayLack s pass request number NoMemory = Unit {0}
MayLack s pass (Put key sets) number ArenaFull = Meets s pass (Put key sets) number HasFewNodes
MayLack s pass (Put key sets) number (FeedFull slowest) = IsFull s slowest
MayLack s pass (Put key sets) number Spent = MeetsSpent s pass (Put key sets) number
MayLack s pass (PutIf key sets version) number ArenaFull =
    Meets s pass (PutIf key sets version) number HasFewNodes
MayLack s pass (PutIf key sets version) number (FeedFull slowest) = IsFull s slowest
MayLack s pass (PutIf key sets version) number Spent = MeetsSpent s pass (PutIf key sets version) number
MayLack s pass (PutIf key sets version) number (OtherVersion found) = Unit {0}
MayLack s pass (Remove key) number (FeedFull slowest) = IsFull s slowest
MayLack s pass (Remove key) number Spent = MeetsSpent s pass (Remove key) number
MayLack s pass (Build spec) number Spent = greatest_number ≤ (now s).built
MayLack s pass _ number _ = ⊥
