-- What the feed of a shared index returns, the copy of one of its views, and how many rows and nodes it has.
use Rattle.std.specs.Prelude.{ℕ, ◌≡◌, List, Result, Err, Some, IfOk, IfErr, MatchOption, take, drop}
use Rattle.std.specs.FinMap.{len}
use Rattle.std.specs.Global.{Vec}
use Rattle.mt_types.specs.declared.row.Delta.{Delta}
use Rattle.mt_types.specs.declared.refusal.Refusal.{Refusal}
use Rattle.mt_types.specs.declared.refusal.Refusal.TheVariants.{NoMemory, NoSuchView}
use Rattle.mt_promise.specs.History.{History, moment, rows}
use Rattle.mt_arena.specs.Node.{occupied}
use Rattle.mt_commit.specs.Log.{newest}
use Rattle.mt_commit.specs.Logged.{deltas_of}
use Rattle.mt_view.specs.State.{StateView}
use Rattle.mt_view.specs.Views.{state_at}
use Rattle.mt_index.specs.Feed.{feed_fault}
use Rattle.mt_index.specs.Viewing.{CopiesView}
use Rattle.mt_index.specs.Stands.{MachineView, Stands}
use Rattle.mt_shared.specs.Inner.{InnerView, IsInner, IsRefusedBy}
use Rattle.mt_shared.specs.declared.answers.At.{At}

-- at each history at which the machine is, these are the deltas of its commits after the first `from`, at most `limit`
abbrev pub AreNext : MachineView → ℕ → ℕ → List Delta → Type 0
AreNext m from limit deltas =
    (h : History) → Stands m h → deltas ≡ take limit (drop from (deltas_of m.columns (moment h).commits))

-- The feed of a machine: the next deltas; or the refusal that is due; or it is out of memory.
pub record Feeds (m : MachineView) (from limit : ℕ) (result : Result (Vec Delta) Refusal) : Type 0 where
  pub deltas : IfOk result (λ deltas. AreNext m from limit deltas.items)
  pub fault : IsRefusedBy (feed_fault m.log from limit) result

-- the feed of something that the lock keeps
pub record FeedsSomewhere (from limit : ℕ) (result : Result (Vec Delta) Refusal) : Type 0 where
  pub kept : InnerView
  pub keeps : IsInner kept
  pub feeds : Feeds kept.machine from limit result

-- The copy of a view of a machine: the state of the view, with the number of commits at which the view is. At each
-- history at which the machine is, the state is exactly the one that is computed there afresh from the view's
-- specification. Or the machine has no such view, or it is out of memory.
pub record Copies (m : MachineView) (view : ℕ) (result : Result (ℕ × StateView) Refusal) : Type 0 where
  pub state : IfOk result (λ copy. (state_at view m.views.views ≡ Some copy.1) × (copy.0 ≡ copy.1.at))
  pub exact : IfOk result (λ copy. (h : History) → Stands m h → CopiesView m.columns (moment h) view copy.1)
  pub fault : MatchOption (state_at view m.views.views) (result ≡ Err NoSuchView)
      (λ s. IfErr result (λ r. r ≡ NoMemory))

-- the copy of a view of something that the lock keeps
pub record CopiesSomewhere (view : ℕ) (result : Result (ℕ × StateView) Refusal) : Type 0 where
  pub kept : InnerView
  pub keeps : IsInner kept
  pub copies : Copies kept.machine view result

-- How many rows a machine has, with the number of the commits after which it has them, at each history at which it is.
pub record CountsRows (m : MachineView) (result : At ℕ) : Type 0 where
  pub value : (h : History) → Stands m h → result.value ≡ len (rows m.columns (moment h))
  pub from : result.from ≡ newest m.log
  pub to : result.to ≡ newest m.log

-- how many rows something has that the lock keeps
pub record CountsRowsSomewhere (result : At ℕ) : Type 0 where
  pub kept : InnerView
  pub keeps : IsInner kept
  pub counts : CountsRows kept.machine result

-- How many numbers of nodes are occupied in a machine, with its number of commits.
pub record CountsNodes (m : MachineView) (result : At ℕ) : Type 0 where
  pub value : result.value ≡ occupied m.tree.nodes
  pub from : result.from ≡ newest m.log
  pub to : result.to ≡ newest m.log

-- how many are occupied in something that the lock keeps
pub record CountsNodesSomewhere (result : At ℕ) : Type 0 where
  pub kept : InnerView
  pub keeps : IsInner kept
  pub counts : CountsNodes kept.machine result
