-- Why a posting waits, and why it ends: said of the nodes alone.
use Rattle.std.specs.Prelude.{ℕ, ◌≡◌, ◌≢◌, ◌<◌, ◌≤◌, ◌+◌, ◌⊎◌, length, slice_get, Some, IsSomeAnd, true, false}
use Rattle.mt_types.specs.declared.limits.TheConstants.{MAX_LEVEL, MAX_NODES}
use Rattle.mt_types.specs.declared.refusal.Refusal.{Refusal}
use Rattle.mt_types.specs.declared.refusal.Refusal.TheVariants.{ArenaFull, NoMemory}
use Rattle.mt_interior.specs.Interior.{InteriorView, children_up_to, with_child, with_lock}
use Rattle.mt_interior.specs.Head.{HeadView, with_root}
use Rattle.mt_interior.specs.declared.child.Child.{Child}
use Rattle.mt_interior.specs.declared.interior.TheConstants.{MAX_CHILDREN}
use Rattle.mt_arena.specs.Node.{head_at, interior_at, occupied}
use Rattle.mt_arena.specs.Arena.{ArenaView, with_interior_changed, with_head_changed}
use Rattle.mt_post.specs.declared.posting.Posting.{Posting}
use Rattle.mt_post.specs.Posting.{goal_of}
use Rattle.mt_post.specs.declared.posting.LeftOutCause.{LeftOutCause}
use Rattle.mt_post.specs.declared.posting.LeftOutCause.TheVariants.{HeadDeleted, Highest, Refused}
use Rattle.mt_post.specs.declared.posting.PostEnd.TheVariants.{Posted, LeftOut}
use Rattle.mt_post.specs.declared.posting.Progressed.{Progressed}
use Rattle.mt_post.specs.declared.posting.Progressed.TheVariants.{Waits, Ended}
use Rattle.mt_post.specs.declared.posting.Root.{Root}
use Rattle.mt_post.specs.declared.posting.PostStage.{PostStage}
use Rattle.mt_post.specs.declared.posting.PostStage.TheVariants.{Walks, RootWanted, RootFilled, LetGo}

-- the number names an interior that is marked deleted, or that another call has locked
abbrev pub IsHeldBack : ArenaView → ℕ → Type 0
IsHeldBack a number =
    IsSomeAnd (interior_at a.nodes number)
    (λ interior. (interior.version.deleted ≡ true) ⊎ (interior.version.locked ≡ true))

-- a posting waits only at such an interior
abbrev pub PostStageWaits : ArenaView → PostStage → Progressed → Type 0
PostStageWaits a (Walks node) Waits = IsHeldBack a node.0
PostStageWaits a _ Waits = ⊥
PostStageWaits a _ _ = Unit {0}

-- the interior names the border from now on
abbrev pub IsPosted : ArenaView → ArenaView → ℕ → Posting → Type 0
IsPosted a after number posting =
    after ≡ with_interior_changed a number
    (λ interior. with_child interior (record { low = posting.low; node = posting.half; level = 0 }))

-- the last child whose low is at most that of what is to be named is not above it: here it is to be named
pub record StopsAt (posting : Posting) (interior : InteriorView) : Type 0 where
  pub place : ℕ
  pub child : Child
  pub leads : place + 1 ≡ children_up_to (goal_of posting).low interior.children
  pub is_child : slice_get interior.children place ≡ Some child
  pub below : child.level ≤ (goal_of posting).level

-- while it is on its way, what is to be named may be left out for these causes only: at a head, that it is marked
-- deleted; at an interior, that it is full and of the greatest level
abbrev pub CanLeaveOut : ArenaView → Posting → ℕ → LeftOutCause → Type 0
CanLeaveOut a posting number HeadDeleted = IsSomeAnd (head_at a.nodes number) (λ head. head.version.deleted ≡ true)
CanLeaveOut a posting number Highest = IsSomeAnd (interior_at a.nodes number)
    (λ interior. StopsAt posting interior × (length interior.children ≡ MAX_CHILDREN)
    × (interior.level ≡ MAX_LEVEL))
CanLeaveOut a posting number (Refused refusal) = ⊥

-- why a new root or a new half has no number: each number names a node; or, if one doesn't, memory ran out
abbrev pub RefusesSpare : ArenaView → Refusal → Type 0
RefusesSpare a ArenaFull = occupied a.nodes ≡ MAX_NODES
RefusesSpare a NoMemory = occupied a.nodes ≢ MAX_NODES
RefusesSpare a _ = ⊥

-- the interior is neither marked deleted nor locked, is to name what is to be named, and is full
pub record IsFullAt (a : ArenaView) (posting : Posting) (number : ℕ) : Type 0 where
  pub interior : InteriorView
  pub named : interior_at a.nodes number ≡ Some interior
  pub alive : interior.version.deleted ≡ false
  pub unlocked : interior.version.locked ≡ false
  pub full : length interior.children ≡ MAX_CHILDREN
  pub stops : StopsAt posting interior

-- the same, but it has room
pub record HasRoomAt (a : ArenaView) (posting : Posting) (number : ℕ) : Type 0 where
  pub interior : InteriorView
  pub named : interior_at a.nodes number ≡ Some interior
  pub alive : interior.version.deleted ≡ false
  pub unlocked : interior.version.locked ≡ false
  pub room : length interior.children < MAX_CHILDREN
  pub stops : StopsAt posting interior

-- the head, which isn't marked deleted, has this root
pub record IsRootStill (a : ArenaView) (number : ℕ) (root : Root) : Type 0 where
  pub head : HeadView
  pub named : head_at a.nodes number ≡ Some head
  pub alive : head.version.deleted ≡ false
  pub root_is : head.root ≡ root.node
  pub level_is : head.level ≡ root.level

-- A posting ends when an interior that has room, or a new root, names the border; or when the border is left out: on
-- its way, for a cause that is seen there; because there is no number for a new root; or when an interior is let go,
-- for the same cause.
abbrev pub PostStageEnds : ArenaView → ArenaView → Posting → PostStage → Progressed → Type 0
PostStageEnds a after posting (Walks node) (Ended Posted) = IsPosted a after node.0 posting
PostStageEnds a after posting (Walks node) (Ended (LeftOut why)) = (after ≡ a) × CanLeaveOut a posting node.0 why
PostStageEnds a after posting (RootWanted old) (Ended (LeftOut (Refused refusal))) = (after ≡ a)
    × RefusesSpare a refusal
PostStageEnds a after posting (RootFilled old root) (Ended Posted) =
    after ≡ with_head_changed a posting.head.0 (λ head. with_root head root 1)
PostStageEnds a after posting (LetGo interior why) (Ended end) = (end ≡ LeftOut why)
    × (after ≡ with_interior_changed a interior.0 (λ x. with_lock x false))
PostStageEnds a after posting _ (Ended end) = ⊥
PostStageEnds a after posting _ _ = Unit {0}

abbrev pub PostWaits : ArenaView → Posting → Progressed → Type 0
PostWaits a posting p = PostStageWaits a posting.stage p

abbrev pub PostEnds : ArenaView → ArenaView → Posting → Progressed → Type 0
PostEnds a after posting p = PostStageEnds a after posting posting.stage p
