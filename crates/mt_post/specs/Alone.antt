-- A posting that runs alone: what holds of it, what each of its steps then comes to, and that it ends.
use Rattle.std.specs.Prelude.{ℕ, suc, ◌≡◌, ◌≤◌, List, Some, true, false}
use Rattle.mt_arena.specs.Node.{node_at}
use Rattle.mt_arena.specs.Arena.{ArenaView, IsArena}
use Rattle.mt_chart.specs.Tree.{Among}
use Rattle.mt_chart.specs.Chart.{Role, gone, spot, Chart}
use Rattle.mt_chart.specs.Walk.{IsOn}
use Rattle.mt_steps.specs.World.{World, IsWorld, IsLocked, IsTaken}
use Rattle.mt_post.specs.declared.posting.Posting.{Posting}
use Rattle.mt_post.specs.declared.posting.PostEnd.{PostEnd}
use Rattle.mt_post.specs.declared.posting.Progressed.{Progressed}
use Rattle.mt_post.specs.declared.posting.Progressed.TheVariants.{Moved, Waits, Ended}
use Rattle.mt_post.specs.declared.posting.PostStage.{PostStage}
use Rattle.mt_post.specs.declared.posting.PostStage.TheVariants.{Walks}
use Rattle.mt_post.specs.Posting.{owned, PostingIsTrue}
use Rattle.mt_post.specs.Follows.{mark_of, PostStep}
use Rattle.mt_post.specs.Ending.{steps_left}

-- the node of this number is gone
pub record HasGone (chart : Chart) (number : ℕ) : Type 0 where
  pub role : Role
  pub prefix : List ℕ
  pub low : ℕ
  pub epoch : ℕ
  pub place : chart number ≡ Some (spot role prefix low (gone epoch))

-- the number names no head or interior that is marked deleted
abbrev pub IsUnmarked : ArenaView → ℕ → Type 0
IsUnmarked a number = mark_of (node_at a.nodes number) ≡ false

-- while it walks, it is at no such node
abbrev pub WalksUnmarked : ArenaView → PostStage → Type 0
WalksUnmarked a (Walks node) = IsUnmarked a node.0
WalksUnmarked a _ = Unit {0}

-- THE POSTING RUNS ALONE: what is taken is its own; heads and interiors that are marked deleted are gone; and the
-- layer's head isn't marked
pub record RunsAlone (now begun : ℕ) (posting : Posting) (a : ArenaView) (w : World) : Type 0 where
  pub world : IsWorld a now w
  pub taken : (number : ℕ) → IsTaken a w number → Among number (owned posting)
  pub marked : (number : ℕ) → mark_of (node_at a.nodes number) ≡ true → HasGone w.chart number
  pub head : IsUnmarked a posting.head.0
  pub true : PostingIsTrue begun posting a w

-- no node that is on and not locked is marked deleted, of heads and interiors
abbrev pub UnlockedAreUnmarked : ArenaView → World → Type 0
UnlockedAreUnmarked a w = (number : ℕ) → IsOn w.chart number → (IsLocked (node_at a.nodes number) → ⊥) →
    IsUnmarked a number

-- while it walks, its node is on
abbrev pub WalksOn : World → PostStage → Type 0
WalksOn w (Walks node) = IsOn w.chart node.0
WalksOn w _ = Unit {0}

-- WHEN A POSTING RUNS ALONE: if all that is taken is its own, its layer's head is on, and what is on and not locked
-- isn't marked. Then, if the node at which it walks is on, that isn't marked.
abbrev pub PostingsRunAlone : Type 0
PostingsRunAlone = (now begun : ℕ) (a : ArenaView) (posting : Posting) (w : World) → IsWorld a now w →
    PostingIsTrue begun posting a w → ((number : ℕ) → IsTaken a w number → Among number (owned posting)) →
    UnlockedAreUnmarked a w → IsOn w.chart posting.head.0 →
    RunsAlone now begun posting a w × (WalksOn w posting.stage → WalksUnmarked a posting.stage)

-- it runs alone after the step too, and walks at no marked node then
pub record GoesOnAlone (now begun : ℕ) (after : ArenaView) (then : Posting) : Type 0 where
  pub next : World
  pub alone : RunsAlone now begun then after next
  pub unmarked : WalksUnmarked after then.stage

-- WHAT A STEP OF A LONE POSTING COMES TO: it continues alone, and waits only if it walked at a marked node. So of the
-- steps that it makes alone, only the first may wait.
abbrev pub LoneStep : ArenaView → ArenaView → Posting → Progressed → Posting → Type 0
LoneStep a after posting Moved then = (now begun : ℕ) (w : World) → begun ≤ now → RunsAlone now begun posting a w →
    GoesOnAlone now begun after then
LoneStep a after posting Waits then = (now begun : ℕ) (w : World) → begun ≤ now → RunsAlone now begun posting a w →
    (WalksUnmarked a posting.stage → ⊥) × GoesOnAlone now begun after then
LoneStep a after posting (Ended end) then = Unit {0}

-- a run of this number of steps of a posting, none of them its last, with no step of another call between them
pub data Run : ArenaView → Posting → ℕ → Type 0 where
  no_step : {a : ArenaView} {posting : Posting} → Run a posting 0
  one_more : {a after : ArenaView} {posting then : Posting} {p : Progressed} {steps : ℕ} →
      PostStep a after posting p then → ((end : PostEnd) → p ≡ Ended end → ⊥) → IsArena a → IsArena after →
      Run after then steps → Run a posting (suc steps)

-- A LONE POSTING ENDS: no run of its steps is longer than what is left tells, from where it walks at no marked node
abbrev pub LonePostingsEnd : Type 0
LonePostingsEnd = (now begun steps : ℕ) (a : ArenaView) (posting : Posting) (w : World) → begun ≤ now →
    RunsAlone now begun posting a w → WalksUnmarked a posting.stage → Run a posting steps →
    steps ≤ steps_left a posting
