-- Which stage of a put or remove follows which: said of the nodes before the step, and of the call before and after it.
use Rattle.std.specs.Prelude.{ℕ, ◌≡◌, ◌≢◌, ◌⊎◌, ◌+◌, List, [], Option, Some, None, IsSomeAnd, IsTrue, false}
use Rattle.mt_border.specs.Cut.{IsBestCut, slices}
use Rattle.mt_types.specs.declared.refusal.Refusal.{Refusal}
use Rattle.mt_write.specs.Splitting.{CopiesOn}
use Rattle.mt_arena.specs.Node.{border_at}
use Rattle.mt_arena.specs.Arena.{ArenaView, with_border_changed}
use Rattle.mt_arena.specs.declared.part.Part.{Part}
use Rattle.mt_border.specs.Order.{IsBorder}
use Rattle.mt_border.specs.Border.{insert_is_spent, with_forgotten, with_unlocked}
use Rattle.mt_tree.specs.Keeping.{KeepsTree}
use Rattle.mt_types.specs.declared.event.Answer.TheVariants.{Absent}
use Rattle.mt_types.specs.declared.numbers.NodeNo.{NodeNo}
use Rattle.mt_types.specs.declared.refusal.Refusal.TheVariants.{NoMemory}
use Rattle.mt_steps.specs.declared.progress.Progress.{Progress}
use Rattle.mt_steps.specs.declared.progress.Progress.TheVariants.{Moved, Waits, Committed, Answered, Refused}
use Rattle.mt_steps.specs.declared.way.Way.{Way}
use Rattle.mt_steps.specs.declared.way.Went.TheVariants.{To}
use Rattle.mt_steps.specs.Standing.{Lends}
use Rattle.mt_steps.specs.Entering.{entered, wants}
use Rattle.mt_steps.specs.declared.entering.Entering.{Entering}
use Rattle.mt_steps.specs.declared.entering.Entering.TheVariants.{Locked}
use Rattle.mt_steps.specs.declared.entering.There.{There}
use Rattle.mt_steps.specs.Way.{Visits, rest_of, start}
use Rattle.mt_steps.specs.Causes.{IsMarkedAt, IsLockedAlready}
use Rattle.mt_post.specs.declared.posting.Posting.{Posting}
use Rattle.mt_post.specs.declared.posting.PostEnd.{PostEnd}
use Rattle.mt_post.specs.declared.posting.Progressed.{Progressed}
use Rattle.mt_post.specs.declared.posting.Progressed.TheVariants.{Moved as PostMoved, Waits as PostAgain, Ended as PostEnded}
use Rattle.mt_post.specs.declared.posting.PostStage.TheVariants.{Walks}
use Rattle.mt_post.specs.Causes.{PostEnds}
use Rattle.mt_post.specs.Follows.{PostFollows, MarksNone}
use Rattle.mt_post.specs.Ending.{GetsNearer}
use Rattle.mt_post.specs.Alone.{LoneStep}
use Rattle.mt_write.specs.declared.writing.Halves.{Halves}
use Rattle.mt_write.specs.declared.writing.Ending.{Ending}
use Rattle.mt_write.specs.declared.writing.Ending.TheVariants.{Stored as EndStored, Failed as EndFailed}
use Rattle.mt_write.specs.declared.writing.Stage.{Stage}
use Rattle.mt_write.specs.declared.writing.Stage.TheVariants.{Seeks, Enters, Rightward, Searched, Copies, GivesBack, Spared, HalfFilled, HalfLinked, Halved, Posts, LayerSpared, LayerFilled, LayerReady, LayerMarked, LayerLinked, Layered, Reserved, KeyWritten, Filled, Made, Taken, Stored, Hidden, Forgets, Failed}
use Rattle.mt_write.specs.declared.writing.Write.{Write as WriteView}
use Rattle.mt_commit.specs.Log.{LogView}
use Rattle.mt_write.specs.Held.{write_request, ending_stage}
use Rattle.mt_write.specs.Writing.{MayStage, StageLaw, entered_stage, way_right}
use Rattle.mt_write.specs.Causes.{IsPosting, StageWaits, StageFails}

-- it is at this stage, and at the node at which it was
abbrev pub StaysAt : Way → Way → Stage → Stage → Type 0
StaysAt way next new stage = (new ≡ stage) × (next ≡ way)

-- a full border is to be cut before the place nearest to the middle at which it may be, the lower of two that are as near
abbrev pub IsCutBest : ArenaView → Way → ℕ → Type 0
IsCutBest a way cut = IsSomeAnd (border_at a.nodes way.node.0) (λ b. IsBestCut (slices b.live) cut)

-- the number names a border that a write may lock: one that is neither locked nor marked deleted
abbrev pub MayLock : ArenaView → ℕ → Type 0
MayLock a number = IsSomeAnd (border_at a.nodes number)
    (λ b. IsBorder b × (b.version.locked ≡ false) × (b.version.deleted ≡ false))

-- at a border that it has locked it is lent the one field that it wants, and does what follows from it; or it has failed
abbrev pub ReadsOn : ArenaView → List ℕ → Way → Entering → Stage → Type 0
ReadsOn a key way entering new = ((part : Part) × Lends a way.node.0 (wants entering) part
    × (new ≡ entered_stage (entered (rest_of key way) entering part))) ⊎ (new ≡ Failed NoMemory None)

-- at its border, which it has locked, it has made something ready, or failed
abbrev pub IsMadeReady : ArenaView → Way → Stage → Type 0
IsMadeReady a way (Copies half cut place outline entries) = IsCutBest a way cut
IsMadeReady a way (LayerSpared layer entries) = Unit {0}
IsMadeReady a way (Reserved new slot_key row) = new.split ≡ None
IsMadeReady a way (Made place stored columns logged) = Unit {0}
IsMadeReady a way (Taken place stored before) = Unit {0}
IsMadeReady a way (Failed refusal split) = split ≡ None
IsMadeReady a way _ = ⊥

-- at the half where its key belongs its key and row are made, or it has failed
abbrev pub IsReadyIn : Halves → Stage → Type 0
IsReadyIn halves (Reserved new slot_key row) = new.split ≡ Some halves
IsReadyIn halves (Failed refusal split) = split ≡ Some halves
IsReadyIn halves _ = ⊥

-- its posting advances, or has ended
abbrev pub PostsOn : ArenaView → Posting → Ending → Stage → Type 0
PostsOn a posting ending (Posts then other) = (other ≡ ending) × PostFollows a posting PostMoved then
PostsOn a posting ending new = new ≡ ending_stage ending None

-- the border can't be marked for a row that is to be dropped: the counter of its insertions is at its greatest value
abbrev pub IsSpentAt : ArenaView → ℕ → Type 0
IsSpentAt a number = IsSomeAnd (border_at a.nodes number) (λ b. IsTrue (insert_is_spent b))

-- if it moves: on its way it locks a border, and continues from a head or an interior node to the next one; each other
-- stage leads to the next one
abbrev pub StageFollows : ArenaView → List ℕ → Way → Stage → Way → Stage → Type 0
StageFollows a key way Seeks next new = StaysAt way next new (Enters Locked)
    ⊎ ((new ≡ Seeks) × Visits a key way (To next) × (border_at a.nodes way.node.0 ≡ None))
StageFollows a key way (Enters entering) next new = ReadsOn a key way entering new × (next ≡ way)
StageFollows a key way (Rightward right) next new = (new ≡ Seeks) × (next ≡ way_right way right)
StageFollows a key way (Searched there) next new = IsMadeReady a way new × (next ≡ way)
StageFollows a key way (Copies half cut place outline entries) next new =
    CopiesOn a way.node.0 half cut place outline entries new × (next ≡ way)
StageFollows a key way (Spared half cut place right entries) next new = StaysAt way next new (HalfFilled half cut place)
StageFollows a key way (HalfFilled half cut place) next new = StaysAt way next new (HalfLinked half cut place)
StageFollows a key way (HalfLinked half cut place) next new = (there : ℕ)
    × (new ≡ Halved (record { left = way.node; half = half }) there) × (next.layer ≡ way.layer)
StageFollows a key way (Halved split place) next new = IsReadyIn split new × (next ≡ way)
StageFollows a key way (LayerSpared layer entries) next new = StaysAt way next new (LayerFilled layer)
StageFollows a key way (LayerFilled layer) next new = StaysAt way next new (LayerReady layer)
StageFollows a key way (LayerReady layer) next new = StaysAt way next new (LayerMarked layer)
StageFollows a key way (LayerMarked layer) next new = StaysAt way next new (LayerLinked layer.head)
StageFollows a key way (LayerLinked head) next new = StaysAt way next new (Layered head)
StageFollows a key way (Layered head) next new = (new ≡ Seeks) × (next ≡ record { node = head; layer = way.layer + 1 })
StageFollows a key way (Reserved insertion slot_key row) next new = StaysAt way next new (KeyWritten insertion row)
StageFollows a key way (KeyWritten insertion row) next new = StaysAt way next new
    (Filled insertion.place insertion.key insertion.logged insertion.split)
StageFollows a key way (Posts posting ending) next new = PostsOn a posting ending new × (next ≡ way)
StageFollows a key way (Stored commit split) next new = IsPosting (EndStored commit) new × (split ≢ None)
StageFollows a key way (Failed refusal split) next new = IsPosting (EndFailed refusal) new × (split ≢ None)
StageFollows a key way (Hidden commit) next new = ((new ≡ Forgets commit)
    ⊎ ((new ≡ Stored commit None) × IsSpentAt a way.node.0)) × (next ≡ way)
StageFollows a key way (Forgets commit) next new = StaysAt way next new (Stored commit None)
StageFollows a key way _ next new = ⊥

-- the halves of the border that it has split, at a stage that is ready
abbrev pub halves_of : Stage → Option Halves
halves_of (Filled place stored logged split) = split
halves_of _ = None

-- the stage at which it is once it has committed: a remove is to drop the row that it has hidden
abbrev pub committed_stage : ℕ → Stage → Stage
committed_stage number (Taken place stored before) = Hidden number
committed_stage number stage = Stored number (halves_of stage)

-- if it waits: on its way it begins again if the node is marked deleted; if it is not, and the border is locked, it
-- stays; or its posting waits
abbrev pub StageRests : ArenaView → Way → Stage → Way → Stage → Type 0
StageRests a way Seeks next new = (new ≡ Seeks)
    × ((IsMarkedAt a way.node.0 × (next ≡ start))
    ⊎ ((IsMarkedAt a way.node.0 → ⊥) × IsLockedAlready a way.node.0 × (next ≡ way)))
StageRests a way (Posts posting ending) next new = IsPosting ending new × (next ≡ way)
StageRests a way _ next new = ⊥

-- it commits only if all is ready
abbrev pub IsReady : Stage → Type 0
IsReady (Filled place stored logged split) = Unit {0}
IsReady (Made place stored columns logged) = Unit {0}
IsReady (Taken place stored before) = Unit {0}
IsReady _ = ⊥

-- it answers when it has read its border and there is no row to remove; or when it has stored, and nothing is to be
-- posted
abbrev pub MayAnswer : Stage → Type 0
MayAnswer (Searched there) = Unit {0}
MayAnswer (Stored commit split) = split ≡ None
MayAnswer _ = ⊥

-- it is refused only if it had failed
abbrev pub EndsRefused : Stage → Refusal → Type 0
EndsRefused (Failed failed split) refusal = (failed ≡ refusal) × (split ≡ None)
EndsRefused (GivesBack half) refusal = refusal ≡ NoMemory
EndsRefused _ refusal = ⊥

-- A STEP VISITS ONE NODE, and leads from stage to stage: if it commits, it is then to unlock, or first to drop the row
-- that it has hidden; it is refused only if it had failed
abbrev pub Follows : ArenaView → List ℕ → Way → Stage → Progress → Way → Stage → Type 0
Follows a key way stage Moved next new = StageFollows a key way stage next new
Follows a key way stage Waits next new = StageRests a way stage next new
Follows a key way stage (Committed number) next new = IsReady stage
    × StaysAt way next new (committed_stage number stage)
Follows a key way stage (Answered answer) next new = MayAnswer stage
Follows a key way stage (Refused refusal) next new = EndsRefused stage refusal

abbrev pub WriteFollows : ArenaView → WriteView → Progress → WriteView → Type 0
WriteFollows a write p new = Follows a write.key write.way write.stage p new.way new.stage

-- ---- the head of the layer in which it is
-- on its way: the same head in the same layer, and otherwise the node to which it goes; if it waits, it may begin again
abbrev pub HeadOnWay : NodeNo → Way → Progress → Way → NodeNo → Type 0
HeadOnWay head way Waits next then = Unit {0}
HeadOnWay head way p next then = ((next.layer ≡ way.layer) × (then ≡ head)) ⊎ ((next.layer ≢ way.layer)
    × (then ≡ next.node))

-- if it goes into a layer that it has linked, it is that layer's head; otherwise it stays the same
abbrev pub HeadGoes : NodeNo → Way → Stage → Progress → Way → NodeNo → Type 0
HeadGoes head way Seeks p next then = HeadOnWay head way p next then
HeadGoes head way (Layered below) p next then = then ≡ below
HeadGoes head way _ p next then = then ≡ head

abbrev pub HeadFollows : WriteView → Progress → WriteView → Type 0
HeadFollows write p new = HeadGoes write.head write.way write.stage p new.way new.head

-- ---- the row that it has hidden
-- with the step that follows its mark it is dropped: what a remove leaves in its slot takes no memory
abbrev pub DropsRow : ArenaView → ArenaView → ℕ → Stage → Type 0
DropsRow a after node (Forgets commit) = after ≡ with_border_changed a node with_forgotten
DropsRow a after node _ = Unit {0}

abbrev pub DropsFollow : ArenaView → ArenaView → WriteView → Type 0
DropsFollow a after write = DropsRow a after write.way.node.0 write.stage

-- ---- its posting
-- a new posting of a half in the layer of a head: no split waits, and it is at the head
pub record IsNewPosting (head half : NodeNo) (posting : Posting) : Type 0 where
  pub same_head : posting.head ≡ head
  pub same_half : posting.half ≡ half
  pub idle : posting.waiting ≡ []
  pub walks : posting.stage ≡ Walks head

-- what a step of its posting has done
pub record PostingSteps (a after : ArenaView) (posting : Posting) (p : Progressed) (then : Posting) : Type 0 where
  pub same : then ≡ record posting { waiting = then.waiting; stage = then.stage }
  pub ends : PostEnds a after posting p
  pub gets_on : PostFollows a posting p then
  pub nearer : GetsNearer a after posting p then
  pub alone : LoneStep a after posting p then
  pub marks : MarksNone a after

-- while it posts, a step of it is one of its posting
abbrev pub PostingGoes : ArenaView → ArenaView → Posting → Progress → Posting → Type 0
PostingGoes a after posting Moved then = PostingSteps a after posting PostMoved then
PostingGoes a after posting Waits then = PostingSteps a after posting PostAgain then
PostingGoes a after posting _ then = Unit {0}

-- the posting with which it continues: a new one of its right half, or the one that it had, after a step; or this has
-- ended in the step, posted or left out
abbrev pub PostsGo : ArenaView → ArenaView → NodeNo → Stage → Progress → Stage → Type 0
PostsGo a after head (Stored commit (Some split)) p (Posts posting ending) = IsNewPosting head split.half posting
PostsGo a after head (Failed refusal (Some split)) p (Posts posting ending) = IsNewPosting head split.half posting
PostsGo a after head (Posts posting ending) p (Posts then other) = PostingGoes a after posting p then
PostsGo a after head (Posts posting ending) p new = (then : Posting) × (end : PostEnd)
    × PostingSteps a after posting (PostEnded end) then
PostsGo a after head _ p new = Unit {0}

abbrev pub PostsFollow : ArenaView → ArenaView → WriteView → Progress → WriteView → Type 0
PostsFollow a after write p new = PostsGo a after write.head write.stage p new.stage

-- WHAT A STEP DOES, all of it, of a write that is at a stage
pub record WriteStep (C : ℕ) (a after : ArenaView) (log left : LogView) (write : WriteView) (stage : Stage) (p : Progress)
    (then : WriteView) : Type 0 where
  pub request : write_request then ≡ write_request write
  pub law : StageLaw C a after log left write stage p then
  pub waits : StageWaits a write.way.node.0 stage p
  pub fails : StageFails a log write.key write.edit write.way stage p then.stage
  pub follows : Follows a write.key write.way stage p then.way then.stage
  pub head : HeadGoes write.head write.way stage p then.way then.head
  pub posts : PostsGo a after write.head stage p then.stage
  pub drops : DropsRow a after write.way.node.0 stage

-- a step that leaves the log as it is and makes no columns does so much whatever log and number of columns there are
abbrev pub TreeStep : ArenaView → ArenaView → WriteView → Stage → Progress → WriteView → Type 0
TreeStep a after write stage p then = (C : ℕ) (log : LogView) → WriteStep C a after log log write stage p then

-- and what it asks: there are a log and a number of columns with which the write may be at the stage
abbrev pub MayBeAt : ArenaView → WriteView → Stage → Type 0
MayBeAt a write stage = (C : ℕ) × (log : LogView) × MayStage C a log write stage

-- there is no row to remove: the write has changed nothing, and with the unlock of its border it answers
abbrev pub FindsNone : ℕ → ArenaView → ArenaView → LogView → LogView → WriteView → There → Type 0
FindsNone C a same log left write there = (same ≡ a) × ((after : ArenaView)
    → after ≡ with_border_changed a write.way.node.0 with_unlocked → KeepsTree a after
    → WriteStep C a after log left write (Searched there) (Answered Absent) write)
