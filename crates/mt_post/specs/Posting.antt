-- What is true of a posting, at each of its stages, and the law of its step.
use Rattle.std.specs.Prelude.{ℕ, ◌≡◌, ◌⊎◌, ◌<◌, ◌≤◌, ◌+◌, List, [], ◌∷◌, length, drop, slice_get, Some, None, true, false}
use Rattle.mt_types.specs.declared.limits.TheConstants.{MAX_LEVEL}
use Rattle.mt_types.specs.declared.numbers.NodeNo.{NodeNo}
use Rattle.mt_border.specs.declared.unwritten.Unwritten.TheVariants.{Nothing}
use Rattle.mt_border.specs.Border.{BorderView}
use Rattle.mt_interior.specs.Interior.{InteriorView, IsInterior, new_interior, with_children, with_lock}
use Rattle.mt_interior.specs.declared.child.Child.{Child}
use Rattle.mt_arena.specs.Node.{border_at, interior_at}
use Rattle.mt_arena.specs.Arena.{ArenaView}
use Rattle.mt_chart.specs.Chart.{Role, Standing, top, at_level, spot, on, Holds}
use Rattle.mt_chart.specs.Walk.{Known}
use Rattle.mt_chart.specs.Steps.{NoTwin, AreTwins, SameContent}
use Rattle.mt_interior.specs.declared.interior.TheConstants.{MAX_CHILDREN, KEPT_CHILDREN}
use Rattle.mt_tree.specs.Seen.{arena_seen}
use Rattle.mt_tree.specs.InteriorSteps.{IsInLayer}
use Rattle.mt_steps.specs.World.{World, IsLockedBorder, IsWorld, NotAmong, Goes}
use Rattle.mt_post.specs.declared.posting.Posting.{Posting}
use Rattle.mt_post.specs.declared.posting.Progressed.{Progressed}
use Rattle.mt_post.specs.declared.posting.Progressed.TheVariants.{Moved, Waits, Ended}
use Rattle.mt_post.specs.declared.posting.Root.{Root}
use Rattle.mt_post.specs.declared.split.Split.{Split}
use Rattle.mt_post.specs.declared.posting.PostStage.{PostStage}
use Rattle.mt_post.specs.declared.posting.PostStage.TheVariants.{Walks, RootWanted, RootSpared, RootFilled, RootLate, HalfWanted, HalfSpared, HalfLeftOut, LetGo, HalfPosted, HalfCut}

-- ---- what a posting owns: the border that is to be posted; the interiors that it splits, and their new halves; the
-- spare for a new root
abbrev pub split_owns : ℕ → List Split → List ℕ
split_owns half [] = half ∷ []
split_owns half (split ∷ waiting) = split.half.node.0 ∷ split.interior.0 ∷ split_owns half waiting

abbrev pub stage_owns : ℕ → List Split → PostStage → List ℕ
stage_owns half waiting (Walks node) = split_owns half waiting
stage_owns half waiting (RootWanted old) = split_owns half waiting
stage_owns half waiting (RootSpared old root) = root.0 ∷ split_owns half waiting
stage_owns half waiting (RootFilled old root) = root.0 ∷ split_owns half waiting
stage_owns half waiting (RootLate root) = root.0 ∷ split_owns half waiting
stage_owns half waiting (HalfWanted interior) = interior.0 ∷ split_owns half waiting
stage_owns half waiting (HalfSpared interior spare) = spare.0 ∷ interior.0 ∷ split_owns half waiting
stage_owns half waiting (HalfLeftOut left why) = left.half.node.0 ∷ left.interior.0 ∷ split_owns half waiting
stage_owns half waiting (LetGo interior why) = interior.0 ∷ split_owns half waiting
stage_owns half waiting (HalfPosted posted) = posted.half.node.0 ∷ posted.interior.0 ∷ split_owns half waiting
stage_owns half waiting (HalfCut posted) = posted.0 ∷ split_owns half waiting

abbrev pub owned : Posting → List ℕ
owned posting = stage_owns posting.half.0 posting.waiting posting.stage

-- once it has ended it owns the border alone
abbrev pub owned_after : Progressed → Posting → List ℕ
owned_after Moved posting = owned posting
owned_after Waits posting = owned posting
owned_after (Ended end) posting = posting.half.0 ∷ []

-- ---- what is true of it
-- the border that is to be posted: it is locked and not marked deleted, and on in the layer from this low on, and no
-- head or interior may name it
pub record IsToPost (a : ArenaView) (w : World) (prefix : List ℕ) (number low : ℕ) : Type 0 where
  pub b : BorderView
  pub named : border_at a.nodes number ≡ Some b
  pub low_is : b.low ≡ low
  pub locked : b.version.locked ≡ true
  pub alive : b.version.deleted ≡ false
  pub written : b.unwritten ≡ Nothing
  pub place : w.chart number ≡ Some (spot (at_level 0) prefix low (on false))
  pub free : NotAmong number w.closing

-- the number is the head of the layer, and didn't go before the epoch
abbrev pub IsHeadOf : World → ℕ → ℕ → List ℕ → Type 0
IsHeadOf w begun number prefix = Known w.chart begun number top prefix 0

-- what is to be named: the newest of the new halves that wait, or else the border
abbrev pub goal : NodeNo → ℕ → List Split → Child
goal half low [] = record { low = low; node = half; level = 0 }
goal half low (split ∷ waiting) = split.half

abbrev pub goal_of : Posting → Child
goal_of posting = goal posting.half posting.low posting.waiting

-- its level
abbrev pub goal_level : List Split → ℕ
goal_level [] = 0
goal_level (split ∷ waiting) = split.half.level

-- a head, or a node of a greater level than this
abbrev pub IsAbove : ℕ → Role → Type 0
IsAbove level top = Unit {0}
IsAbove level (at_level other) = level < other

-- it holds the node where it is, for the low of what is to be named, and above it
pub record IsWalking (begun : ℕ) (prefix : List ℕ) (wanted : Child) (node : ℕ) (w : World) : Type 0 where
  pub held : Holds w.chart begun node prefix wanted.low
  pub inner : IsAbove wanted.level held.role

-- the number names this interior, which the chart doesn't know, and which isn't marked deleted
pub record IsSpareInterior (a : ArenaView) (w : World) (number : ℕ) (interior : InteriorView) : Type 0 where
  pub named : interior_at a.nodes number ≡ Some interior
  pub unknown : w.chart number ≡ None
  pub alive : interior.version.deleted ≡ false

-- the old root, and what is to be named: the children of a new root
abbrev pub root_children : Root → Child → List Child
root_children old wanted = record { low = 0; node = old.node; level = old.level } ∷ wanted ∷ []

abbrev pub new_root : Child → InteriorView
new_root wanted = new_interior (wanted.level + 1) 0

-- a new root, filled and unlocked
abbrev pub root_over : Root → Child → InteriorView
root_over old wanted = with_lock (with_children (new_root wanted) (root_children old wanted)) false

-- the interior is full and not marked deleted, is on in the layer, and is locked by this call, which has not posted a
-- half of it
pub record IsSplitting (a : ArenaView) (w : World) (prefix : List ℕ) (number : ℕ)
    (interior : InteriorView) : Type 0 where
  pub named : interior_at a.nodes number ≡ Some interior
  pub locked : interior.version.locked ≡ true
  pub alive : interior.version.deleted ≡ false
  pub stands : IsInLayer w.chart number prefix
  pub lone : NoTwin w.twins number
  pub full : length interior.children ≡ MAX_CHILDREN
  pub below_top : interior.level + 1 ≤ MAX_LEVEL
  pub sound : IsInterior interior

-- the new half of an interior, before it is filled, and once it is
abbrev pub empty_half : InteriorView → ℕ → InteriorView
empty_half interior low = new_interior interior.level low

abbrev pub upper_half : InteriorView → ℕ → InteriorView
upper_half interior low = with_children (empty_half interior low) (drop KEPT_CHILDREN interior.children)

-- the low of the child from which on the new half is to have the children
abbrev pub StartsUpper : InteriorView → ℕ → Type 0
StartsUpper interior low = (middle : Child) × (slice_get interior.children KEPT_CHILDREN ≡ Some middle)
    × (middle.low ≡ low)

-- the split interior waits for its new half to be posted
pub record IsHalved (a : ArenaView) (w : World) (prefix : List ℕ) (split : Split) : Type 0 where
  pub interior : InteriorView
  pub splits : IsSplitting a w prefix split.interior.0 interior
  pub spare : IsSpareInterior a w split.half.node.0 (upper_half interior split.half.low)
  pub level : split.half.level ≡ interior.level
  pub starts : StartsUpper interior split.half.low

-- the splits that wait, the newest first: each is of a greater level than those before it
abbrev pub AreWaiting : ArenaView → World → List ℕ → List Split → Type 0
AreWaiting a w prefix [] = Unit {0}
AreWaiting a w prefix (split ∷ waiting) = (goal_level waiting < split.half.level) × IsHalved a w prefix split
    × AreWaiting a w prefix waiting

-- both halves are on and locked and not marked deleted, and twins of each other alone; the new one has the upper
-- children of the other
pub record IsPostedHalf (a : ArenaView) (w : World) (prefix : List ℕ) (split : Split) : Type 0 where
  pub interior : InteriorView
  pub half : InteriorView
  pub named : interior_at a.nodes split.interior.0 ≡ Some interior
  pub half_named : interior_at a.nodes split.half.node.0 ≡ Some half
  pub locked : interior.version.locked ≡ true
  pub half_locked : half.version.locked ≡ true
  pub alive : interior.version.deleted ≡ false
  pub half_alive : half.version.deleted ≡ false
  pub level : interior.level ≡ split.half.level
  pub half_level : half.level ≡ split.half.level
  pub stands : IsInLayer w.chart split.interior.0 prefix
  pub half_stands : IsInLayer w.chart split.half.node.0 prefix
  pub full : length interior.children ≡ MAX_CHILDREN
  pub upper : half.children ≡ drop KEPT_CHILDREN interior.children
  pub twins : (one other : ℕ) → AreTwins w.twins one other → (one ≡ split.interior.0) ⊎ (other ≡ split.interior.0)
      → (one ≡ split.half.node.0) ⊎ (other ≡ split.half.node.0)
  pub half_twins : (one other : ℕ) → AreTwins w.twins one other → (one ≡ split.half.node.0)
      ⊎ (other ≡ split.half.node.0) → (one ≡ split.interior.0) ⊎ (other ≡ split.interior.0)

-- an interior is on in the layer, is locked and not marked deleted, and has no twin; it is above what is to be named
pub record IsLetGo (a : ArenaView) (w : World) (prefix : List ℕ) (number below : ℕ) : Type 0 where
  pub interior : InteriorView
  pub named : interior_at a.nodes number ≡ Some interior
  pub locked : interior.version.locked ≡ true
  pub alive : interior.version.deleted ≡ false
  pub stands : IsInLayer w.chart number prefix
  pub lone : NoTwin w.twins number
  pub above : below < interior.level

abbrev pub PostStageIsTrue : ℕ → List ℕ → NodeNo → ℕ → List Split → PostStage → ArenaView → World → Type 0
PostStageIsTrue begun prefix half low waiting (Walks node) a w = IsWalking begun prefix (goal half low waiting) node.0 w
PostStageIsTrue begun prefix half low waiting (RootWanted old) a w = old.level < (goal half low waiting).level + 1
PostStageIsTrue begun prefix half low waiting (RootSpared old root) a w =
    (old.level < (goal half low waiting).level + 1) × IsSpareInterior a w root.0 (new_root (goal half low waiting))
PostStageIsTrue begun prefix half low waiting (RootFilled old root) a w =
    (old.level < (goal half low waiting).level + 1) × IsSpareInterior a w root.0 (root_over old (goal half low waiting))
PostStageIsTrue begun prefix half low waiting (RootLate root) a w = (spare : InteriorView)
    × (goal_level waiting < spare.level) × IsSpareInterior a w root.0 spare
PostStageIsTrue begun prefix half low waiting (HalfWanted interior) a w = (i : InteriorView)
    × (goal_level waiting < i.level) × IsSplitting a w prefix interior.0 i
PostStageIsTrue begun prefix half low waiting (HalfSpared interior spare) a w = (i : InteriorView)
    × (goal_level waiting < i.level) × IsSplitting a w prefix interior.0 i × (least : ℕ) × StartsUpper i least
    × IsInterior (empty_half i least) × IsSpareInterior a w spare.0 (empty_half i least)
PostStageIsTrue begun prefix half low waiting (HalfLeftOut left why) a w = (goal_level waiting < left.half.level)
    × IsHalved a w prefix left
PostStageIsTrue begun prefix half low waiting (LetGo interior why) a w =
    IsLetGo a w prefix interior.0 (goal_level waiting)
PostStageIsTrue begun prefix half low waiting (HalfPosted posted) a w = (goal_level waiting < posted.half.level)
    × IsPostedHalf a w prefix posted
PostStageIsTrue begun prefix half low waiting (HalfCut posted) a w = IsLetGo a w prefix posted.0 (goal_level waiting)

-- while it walks, it is at no other head than the layer's
abbrev pub WalksFrom : NodeNo → PostStage → World → Type 0
WalksFrom head (Walks node) w = (layer : List ℕ) (low : ℕ) (standing : Standing)
    → w.chart node.0 ≡ Some (spot top layer low standing) → node ≡ head
WalksFrom head _ w = Unit {0}

-- the layer has this prefix
pub record PostsIn (prefix : List ℕ) (begun : ℕ) (posting : Posting) (a : ArenaView) (w : World) : Type 0 where
  pub border : IsToPost a w prefix posting.half.0 posting.low
  pub head : IsHeadOf w begun posting.head.0 prefix
  pub waiting : AreWaiting a w prefix posting.waiting
  pub stage : PostStageIsTrue begun prefix posting.half posting.low posting.waiting posting.stage a w
  pub walks : WalksFrom posting.head posting.stage w

-- WHAT IS TRUE OF A POSTING whose call began in an epoch
abbrev pub PostingIsTrue : ℕ → Posting → ArenaView → World → Type 0
PostingIsTrue begun posting a w = (prefix : List ℕ) × PostsIn prefix begun posting a w

-- what is true after a step
abbrev pub ThenPosts : Progressed → ℕ → Posting → ArenaView → World → Type 0
ThenPosts Moved begun posting a w = PostingIsTrue begun posting a w
ThenPosts Waits begun posting a w = PostingIsTrue begun posting a w
ThenPosts (Ended end) begun posting a w = IsLockedBorder a w posting.half.0

-- ---- its step
-- THE LAW OF A STEP: wherever the tree is an index and the posting's record is true, the step goes, and the rows are as
-- before
pub record PostLaw (a after : ArenaView) (posting : Posting) (p : Progressed) (then : Posting) : Type 0 where
  pub steps : (now begun : ℕ) (w : World) → IsWorld a now w → begun ≤ now → PostingIsTrue begun posting a w →
      Goes now a after w (owned posting) (owned_after p then) (ThenPosts p begun then after)
      × SameContent (arena_seen a) (arena_seen after)

-- what a step asks: there is a world in which the posting's record is true
pub record MayPost (a : ArenaView) (posting : Posting) : Type 0 where
  pub now : ℕ
  pub begun : ℕ
  pub w : World
  pub world : IsWorld a now w
  pub true : PostingIsTrue begun posting a w

-- A NEW POSTING is true wherever the border is to be posted, and the head is its layer's
pub record NewPostingIsTrue (posting : Posting) : Type 0 where
  pub begins : (a : ArenaView) (w : World) (begun : ℕ) (prefix : List ℕ)
      → IsToPost a w prefix posting.half.0 posting.low → IsHeadOf w begun posting.head.0 prefix →
      PostingIsTrue begun posting a w × (owned posting ≡ posting.half.0 ∷ [])
