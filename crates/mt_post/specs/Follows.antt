-- The stage of a posting after a step, by the nodes before the step and the posting before and after it.
use Rattle.std.specs.Prelude.{ℕ, ◌≡◌, ◌⊎◌, ◌<◌, ◌≤◌, ◌+◌, Bool, true, false, [], ◌∷◌, length, slice_get, Option, Some, None, IsSomeAnd}
use Rattle.mt_types.specs.declared.limits.TheConstants.{MAX_LEVEL}
use Rattle.mt_types.specs.declared.numbers.NodeNo.{NodeNo}
use Rattle.mt_types.specs.declared.refusal.Refusal.{Refusal}
use Rattle.mt_types.specs.declared.refusal.Refusal.TheVariants.{NoMemory}
use Rattle.mt_interior.specs.Interior.{InteriorView, children_up_to}
use Rattle.mt_interior.specs.Head.{HeadView}
use Rattle.mt_interior.specs.declared.child.Child.{Child}
use Rattle.mt_interior.specs.declared.interior.TheConstants.{MAX_CHILDREN}
use Rattle.mt_arena.specs.declared.node.Node.{Node}
use Rattle.mt_arena.specs.declared.node.Node.TheVariants.{Head, Interior, Border}
use Rattle.mt_arena.specs.Node.{node_at, head_at, interior_at, occupied}
use Rattle.mt_arena.specs.Arena.{ArenaView}
use Rattle.mt_post.specs.declared.posting.Posting.{Posting}
use Rattle.mt_post.specs.declared.posting.LeftOutCause.{LeftOutCause}
use Rattle.mt_post.specs.declared.posting.LeftOutCause.TheVariants.{HeadDeleted, Highest, Refused}
use Rattle.mt_post.specs.declared.posting.PostEnd.TheVariants.{LeftOut}
use Rattle.mt_post.specs.declared.posting.Progressed.{Progressed}
use Rattle.mt_post.specs.declared.posting.Progressed.TheVariants.{Moved, Waits, Ended}
use Rattle.mt_post.specs.declared.split.Split.{Split}
use Rattle.mt_post.specs.declared.posting.PostStage.{PostStage}
use Rattle.mt_post.specs.declared.posting.PostStage.TheVariants.{Walks, RootWanted, RootSpared, RootFilled, RootLate, HalfWanted, HalfSpared, HalfLeftOut, LetGo, HalfPosted, HalfCut}
use Rattle.mt_post.specs.Posting.{goal_of, PostLaw}
use Rattle.mt_post.specs.Causes.{StopsAt, IsRootStill, RefusesSpare, PostWaits, PostEnds}

-- it is at this stage, and otherwise as it was
abbrev pub GoesTo : Posting → Posting → PostStage → Type 0
GoesTo posting then stage = then ≡ record posting { stage = stage }

-- what was to be named is a new half, which waits no more: it is named, or left out for a cause
abbrev pub IsNamed : Posting → Posting → Type 0
IsNamed posting then = (split : Split) × (posting.waiting ≡ split ∷ then.waiting) × (then.stage ≡ HalfPosted split)

abbrev pub IsLeftOut : Posting → Posting → LeftOutCause → Type 0
IsLeftOut posting then why = (split : Split) × (posting.waiting ≡ split ∷ then.waiting)
    × (then.stage ≡ HalfLeftOut split why)

-- what is to be named is left out for a cause: the newest new half; or the border, if none waits
abbrev pub LeavesOut : Posting → LeftOutCause → Progressed → Posting → Type 0
LeavesOut posting why Moved then = IsLeftOut posting then why
    × (then ≡ record posting { waiting = then.waiting; stage = then.stage })
LeavesOut posting why Waits then = ⊥
LeavesOut posting why (Ended end) then = (end ≡ LeftOut why) × (posting.waiting ≡ [])
    × (then ≡ record posting { waiting = then.waiting })

-- because there is no number for a new root
abbrev pub IsLeftOutRefused : ArenaView → Posting → Posting → Type 0
IsLeftOutRefused a posting then = (refusal : Refusal) × RefusesSpare a refusal
    × IsLeftOut posting then (Refused refusal)

-- at a head: it goes to the root, if that is above what is to be named; otherwise it needs a new root
abbrev pub FollowsRoot : Posting → Posting → HeadView → Type 0
FollowsRoot posting then head = ((goal_of posting).level < head.level × GoesTo posting then (Walks head.root))
    ⊎ (head.level ≤ (goal_of posting).level
    × GoesTo posting then (RootWanted (record { node = head.root; level = head.level })))

-- so if the head isn't marked deleted
abbrev pub FollowsHead : Posting → Posting → HeadView → Type 0
FollowsHead posting then head =
    ((head.version.deleted ≡ false) × (head.level ≤ MAX_LEVEL) × FollowsRoot posting then head)
    ⊎ ((head.version.deleted ≡ true) × IsLeftOut posting then HeadDeleted)

-- at an interior: it goes to the last child whose low is at most that of what is to be named, if that child is above
-- it
pub record LeadsOn (posting then : Posting) (interior : InteriorView) : Type 0 where
  pub alive : interior.version.deleted ≡ false
  pub place : ℕ
  pub child : Child
  pub leads : place + 1 ≡ children_up_to (goal_of posting).low interior.children
  pub is_child : slice_get interior.children place ≡ Some child
  pub above : (goal_of posting).level < child.level
  pub goes : GoesTo posting then (Walks child.node)

-- a full interior is to be split, but for one of the greatest level
abbrev pub FollowsFull : Posting → Posting → NodeNo → InteriorView → Type 0
FollowsFull posting then node interior = (interior.level < MAX_LEVEL × GoesTo posting then (HalfWanted node))
    ⊎ ((interior.level ≡ MAX_LEVEL) × IsLeftOut posting then Highest)

-- if no child leads further, what is to be named is named there, provided that there is room
abbrev pub FollowsInterior : Posting → Posting → NodeNo → InteriorView → Type 0
FollowsInterior posting then node interior = LeadsOn posting then interior ⊎ (StopsAt posting interior ×
    ((length interior.children < MAX_CHILDREN × IsNamed posting then)
    ⊎ ((length interior.children ≡ MAX_CHILDREN) × FollowsFull posting then node interior)))

-- a split waits from now on, as the newest, and its new half is to be named; or memory runs out, and that is left out
abbrev pub WaitsNext : Posting → Split → Posting → Type 0
WaitsNext posting split then =
    (then ≡ record posting { waiting = split ∷ posting.waiting; stage = Walks posting.head })
    ⊎ GoesTo posting then (HalfLeftOut split (Refused NoMemory))

abbrev pub WaitsFor : Posting → Split → Progressed → Posting → Type 0
WaitsFor posting split p then = (p ≡ Moved) × WaitsNext posting split then

-- the new half has its children, and the split of this interior waits, or not
abbrev pub IsFilled : Posting → Posting → NodeNo → NodeNo → Type 0
IsFilled posting then interior half = (split : Split) × (split.interior ≡ interior) × (split.half.node ≡ half)
    × WaitsNext posting split then

-- because there is no number for a new half, the interior is let go
abbrev pub IsLetGoRefused : ArenaView → Posting → Posting → NodeNo → Type 0
IsLetGoRefused a posting then interior = (refusal : Refusal) × RefusesSpare a refusal
    × GoesTo posting then (LetGo interior (Refused refusal))

-- the stage that follows if it advances: if a new half is left out, its interior is let go, and what was to be named
-- there is left out, for the same cause
abbrev pub StageFollows : ArenaView → Posting → PostStage → Posting → Type 0
StageFollows a posting (Walks node) then = IsSomeAnd (head_at a.nodes node.0) (FollowsHead posting then)
    ⊎ IsSomeAnd (interior_at a.nodes node.0) (FollowsInterior posting then node)
StageFollows a posting (RootWanted old) then = ((root : NodeNo) × GoesTo posting then (RootSpared old root))
    ⊎ IsLeftOutRefused a posting then
StageFollows a posting (RootSpared old root) then = GoesTo posting then (RootFilled old root)
StageFollows a posting (RootFilled old root) then = (IsRootStill a posting.head.0 old × IsNamed posting then)
    ⊎ ((IsRootStill a posting.head.0 old → ⊥) × GoesTo posting then (RootLate root))
StageFollows a posting (RootLate root) then = GoesTo posting then (Walks posting.head)
StageFollows a posting (HalfWanted interior) then = ((half : NodeNo) × GoesTo posting then (HalfSpared interior half))
    ⊎ IsLetGoRefused a posting then interior
StageFollows a posting (HalfSpared interior half) then = IsFilled posting then interior half
StageFollows a posting (HalfLeftOut left why) then = GoesTo posting then (LetGo left.interior why)
StageFollows a posting (LetGo interior why) then = IsLeftOut posting then why
StageFollows a posting (HalfPosted posted) then = GoesTo posting then (HalfCut posted.half.node)
StageFollows a posting (HalfCut half) then = GoesTo posting then (Walks posting.head)

-- If it waits, it begins its way again; if it has ended, no split waits.
abbrev pub Follows : ArenaView → Posting → PostStage → Progressed → Posting → Type 0
Follows a posting stage Moved then = StageFollows a posting stage then
Follows a posting stage Waits then = GoesTo posting then (Walks posting.head)
Follows a posting stage (Ended end) then = posting.waiting ≡ []

abbrev pub PostFollows : ArenaView → Posting → Progressed → Posting → Type 0
PostFollows a posting p then = Follows a posting posting.stage p then

-- ---- what it changes
-- one more number names a node than before; one fewer; as many
abbrev pub OccupiesOne : ArenaView → ArenaView → Type 0
OccupiesOne a after = occupied after.nodes ≡ occupied a.nodes + 1

abbrev pub GivesOneBack : ArenaView → ArenaView → Type 0
GivesOneBack a after = occupied after.nodes + 1 ≡ occupied a.nodes

abbrev pub OccupiesAsMany : ArenaView → ArenaView → Type 0
OccupiesAsMany a after = occupied after.nodes ≡ occupied a.nodes

-- How many numbers are free after it moves from one stage to another: one fewer if a spare was occupied, one more if
-- one was given back, and otherwise as many. A number that isn't free names a node.
abbrev pub StageNumbers : ArenaView → PostStage → ArenaView → PostStage → Type 0
StageNumbers a (RootWanted old) after (RootSpared same root) = OccupiesOne a after
StageNumbers a (HalfWanted interior) after (HalfSpared same half) = OccupiesOne a after
StageNumbers a (RootLate root) after _ = GivesOneBack a after
StageNumbers a (HalfLeftOut left why) after _ = GivesOneBack a after
StageNumbers a _ after _ = OccupiesAsMany a after

-- the same of each step: as many if it waits or has ended
abbrev pub NumbersGo : ArenaView → PostStage → Progressed → ArenaView → PostStage → Type 0
NumbersGo a stage Moved after next = StageNumbers a stage after next
NumbersGo a stage Waits after next = OccupiesAsMany a after
NumbersGo a stage (Ended end) after next = OccupiesAsMany a after

abbrev pub NumbersFollow : ArenaView → Posting → Progressed → ArenaView → Posting → Type 0
NumbersFollow a posting p after then = NumbersGo a posting.stage p after then.stage

-- each number that names a head names it as before
abbrev pub SameHeads : ArenaView → ArenaView → Type 0
SameHeads a after = (number : ℕ) → head_at after.nodes number ≡ head_at a.nodes number

-- the heads are as before, unless a new root may be named
abbrev pub HeadsGo : ArenaView → PostStage → ArenaView → Type 0
HeadsGo a (RootFilled old root) after = Unit {0}
HeadsGo a _ after = SameHeads a after

abbrev pub HeadsFollow : ArenaView → Posting → ArenaView → Type 0
HeadsFollow a posting after = HeadsGo a posting.stage after

-- whether it is a head or an interior that is marked deleted
abbrev pub mark_of : Option Node → Bool
mark_of None = false
mark_of (Some (Head head)) = head.version.deleted
mark_of (Some (Interior interior)) = interior.version.deleted
mark_of (Some (Border border)) = false

-- each head or interior that is marked deleted after the step was so before
abbrev pub MarksNone : ArenaView → ArenaView → Type 0
MarksNone a after = (number : ℕ) → mark_of (node_at after.nodes number) ≡ true → mark_of (node_at a.nodes number) ≡ true

-- WHAT A STEP DOES, all of it
pub record PostStep (a after : ArenaView) (posting : Posting) (p : Progressed) (then : Posting) : Type 0 where
  pub same : then ≡ record posting { waiting = then.waiting; stage = then.stage }
  pub law : PostLaw a after posting p then
  pub waits : PostWaits a posting p
  pub ends : PostEnds a after posting p
  pub gets_on : PostFollows a posting p then
  pub numbers : NumbersFollow a posting p after then
  pub heads : HeadsFollow a posting after
  pub marks : MarksNone a after
