-- What a collection frees, and what it leaves to open calls.
use Rattle.std.specs.Prelude.{ℕ, suc, ◌≡◌, ◌==◌, ◌<◌, ◌≤◌, if◌then◌else◌, List, [], ◌∷◌, length, take, drop, All, Option, Some, None}
use Rattle.mt_arena.specs.Arena.{ArenaView}
use Rattle.mt_arena.specs.Node.{Nodes, node_at}
use Rattle.mt_arena.specs.declared.node.Node.{Node}
use Rattle.mt_arena.specs.declared.retired.Retired.{Retired}
use Rattle.mt_chart.specs.Chart.{at_level, spot, gone, Evolves}
use Rattle.mt_chart.specs.Steps.{SameContent}
use Rattle.mt_tree.specs.Seen.{arena_seen}
use Rattle.mt_steps.specs.World.{World, IsWorld, IsTaken, IsSame, BordersAge}

-- what a number names once these nodes are freed: nothing, if it is one of theirs
abbrev pub named_without : List Retired → Nodes → ℕ → Option Node
named_without [] nodes number = node_at nodes number
named_without (freed ∷ others) nodes number =
    if number == freed.node.0 then None else named_without others nodes number

-- the first `count` retired nodes of an arena are freed, and nothing else is changed
pub record GivesBack (count : ℕ) (a after : ArenaView) : Type 0 where
  pub nodes : (number : ℕ) → node_at after.nodes number ≡ named_without (take count a.retired) a.nodes number
  pub rest : after.retired ≡ drop count a.retired

-- EXACTLY THE NODES THAT WERE RETIRED BEFORE the epoch are freed, the first `count` ones, and nothing else is changed
pub record IsCollected (a after : ArenaView) (before count : ℕ) : Type 0 where
  pub few : count ≤ length a.retired
  pub left : GivesBack count a after
  pub freed : All (λ node. node.epoch < before) (take count a.retired)
  pub kept : All (λ node. before ≤ node.epoch) after.retired

-- each interior that a call has taken, and that is gone, went in the epoch or later
abbrev pub TakenSince : ℕ → ArenaView → World → Type 0
TakenSince before a w = (number : ℕ) → IsTaken a w number → (below : ℕ) (prefix : List ℕ) (low epoch : ℕ) →
    w.chart number ≡ Some (spot (at_level (suc below)) prefix low (gone epoch)) → before ≤ epoch

-- what is left, in a next world: each call that began in the epoch or later may continue, each number that is taken is
-- as it was, and each border that the chart knows ages
pub record Leaves (now before : ℕ) (a after : ArenaView) (w : World) : Type 0 where
  pub next : World
  pub world : IsWorld after now next
  pub content : SameContent (arena_seen a) (arena_seen after)
  pub evolves : (begun : ℕ) → before ≤ begun → Evolves begun w.chart next.chart
  pub leaves : (number : ℕ) → IsTaken a w number → IsSame a after w next number
  pub takes : (number : ℕ) → IsTaken after next number → IsTaken a w number
  pub age : BordersAge a after w next

-- the law of a collection
abbrev pub CollectLaw : ArenaView → ArenaView → ℕ → Type 0
CollectLaw a after before = (now : ℕ) (w : World) → IsWorld a now w → TakenSince before a w
    → Leaves now before a after w
