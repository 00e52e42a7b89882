-- How far a posting that runs alone is from its end, at most.
use Rattle.std.specs.Prelude.{ℕ, ◌-◌, ◌<◌, ◌≤◌, ◌&&◌, nat_eq, not, cond, Bool, false, List, [], ◌∷◌, Option, Some, None}
use Rattle.mt_types.specs.declared.limits.TheConstants.{MAX_NODES}
use Rattle.mt_types.specs.declared.numbers.NodeNo.{NodeNo}
use Rattle.mt_interior.specs.Head.{HeadView}
use Rattle.mt_arena.specs.declared.node.Node.{Node}
use Rattle.mt_arena.specs.declared.node.Node.TheVariants.{Head, Interior, Border}
use Rattle.mt_arena.specs.Node.{node_at, head_at, occupied}
use Rattle.mt_arena.specs.Arena.{ArenaView, IsArena}
use Rattle.mt_chart.specs.Posting.{Frame, walks, makes_root, late_spare, late_fill, late_name, late_back, wants_spare, fills, waits, gives_back, unlocks, cuts, goes_again, posting_measure}
use Rattle.mt_steps.specs.World.{World, IsWorld}
use Rattle.mt_post.specs.declared.posting.Posting.{Posting}
use Rattle.mt_post.specs.declared.posting.Progressed.{Progressed}
use Rattle.mt_post.specs.declared.posting.Progressed.TheVariants.{Moved, Waits, Ended}
use Rattle.mt_post.specs.declared.posting.Root.{Root}
use Rattle.mt_post.specs.declared.split.Split.{Split}
use Rattle.mt_post.specs.declared.posting.PostStage.{PostStage}
use Rattle.mt_post.specs.declared.posting.PostStage.TheVariants.{Walks, RootWanted, RootSpared, RootFilled, RootLate, HalfWanted, HalfSpared, HalfLeftOut, LetGo, HalfPosted, HalfCut}
use Rattle.mt_post.specs.Posting.{PostingIsTrue}

-- how many numbers name no node
abbrev pub free_numbers : ArenaView → ℕ
free_numbers a = MAX_NODES - occupied a.nodes

-- how many kinds of node are below a head or an interior in a layer's tree
abbrev pub kinds_below : Option Node → ℕ
kinds_below None = 0
kinds_below (Some (Head head)) = 16
kinds_below (Some (Interior interior)) = interior.level
kinds_below (Some (Border border)) = 0

-- whether the head, which isn't marked deleted, has this root
abbrev pub has_root : Option HeadView → Root → Bool
has_root None root = false
has_root (Some head) root = not head.version.deleted
    && (nat_eq head.root.0 root.node.0 && nat_eq head.level root.level)

abbrev pub is_root_still : ArenaView → NodeNo → Root → Bool
is_root_still a head root = has_root (head_at a.nodes head.0) root

-- The frame of a posting's stage, in the theory. An interior to be let go is one to be unlocked, whatever led to that.
abbrev pub stage_frame : ArenaView → NodeNo → PostStage → Frame
stage_frame a head (Walks node) = walks (kinds_below (node_at a.nodes node.0))
stage_frame a head (RootWanted old) = cond (is_root_still a head old) (makes_root 3) late_spare
stage_frame a head (RootSpared old root) = cond (is_root_still a head old) (makes_root 2) late_fill
stage_frame a head (RootFilled old root) = cond (is_root_still a head old) (makes_root 1) late_name
stage_frame a head (RootLate root) = late_back
stage_frame a head (HalfWanted interior) = wants_spare
stage_frame a head (HalfSpared interior half) = fills
stage_frame a head (HalfLeftOut left why) = gives_back
stage_frame a head (LetGo interior why) = unlocks
stage_frame a head (HalfPosted posted) = cuts
stage_frame a head (HalfCut half) = goes_again

-- a frame that waits, for each split that does
abbrev pub waiting_frames : List Split → List Frame
waiting_frames [] = []
waiting_frames (split ∷ waiting) = waits ∷ waiting_frames waiting

abbrev pub frames_of : ArenaView → Posting → List Frame
frames_of a posting = stage_frame a posting.head posting.stage ∷ waiting_frames posting.waiting

-- HOW MUCH IS LEFT of a posting that runs alone, at most
abbrev pub steps_left : ArenaView → Posting → ℕ
steps_left a posting = posting_measure (free_numbers a) (frames_of a posting)

-- A STEP THAT MOVES BRINGS THE POSTING NEARER TO ITS END, wherever the tree is an index, the posting's record is true,
-- and no more numbers name a node than there are. So a posting that never waits ends.
abbrev pub GetsNearer : ArenaView → ArenaView → Posting → Progressed → Posting → Type 0
GetsNearer a after posting Moved then = (now begun : ℕ) (w : World) → IsWorld a now w → begun ≤ now →
    PostingIsTrue begun posting a w → IsArena a → IsArena after → steps_left after then < steps_left a posting
GetsNearer a after posting Waits then = Unit {0}
GetsNearer a after posting (Ended end) then = Unit {0}
