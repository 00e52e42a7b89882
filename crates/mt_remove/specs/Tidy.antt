-- What is true of a tidy, at each of its stages, and the law of its step.
use Rattle.std.specs.Prelude.{ℕ, ◌≡◌, ◌≢◌, ◌<◌, ◌≤◌, ◌⊎◌, List, [], ◌∷◌, length, slice_index, Some, None, Bool, true, false}
use Rattle.mt_types.specs.declared.event.Answer.TheVariants.{Tidied}
use Rattle.mt_types.specs.declared.event.Request.{Request}
use Rattle.mt_types.specs.declared.event.Request.TheVariants.{Tidy as TidyRequest}
use Rattle.mt_word.specs.declared.permutation_word.TheConstants.{SLOTS}
use Rattle.mt_border.specs.Border.{BorderView, with_locked}
use Rattle.mt_arena.specs.Node.{border_at}
use Rattle.mt_arena.specs.Arena.{ArenaView, with_border_changed}
use Rattle.mt_chart.specs.Tree.{Arena}
use Rattle.mt_chart.specs.Chart.{at_level, spot, on, Holds}
use Rattle.mt_chart.specs.Steps.{SameContent}
use Rattle.mt_tree.specs.Seen.{arena_seen}
use Rattle.mt_steps.specs.declared.way.Way.{Way}
use Rattle.mt_steps.specs.declared.progress.Progress.{Progress}
use Rattle.mt_steps.specs.declared.progress.Progress.TheVariants.{Moved, Waits, Committed, Answered, Refused}
use Rattle.mt_steps.specs.World.{World, IsWorld, IsLockedBorder, Goes}
use Rattle.mt_steps.specs.Step.{Held, left_with, ThenTrue}
use Rattle.mt_steps.specs.declared.reader.Reader.TheVariants.{Bounded, Settles}
use Rattle.mt_steps.specs.Finding.{Finding}
use Rattle.mt_steps.specs.Getting.{IsPlaceOf}
use Rattle.mt_steps.specs.Way.{prefix_of, IsLayerOf, IsOnWay, IsHeadOf}
use Rattle.mt_remove.specs.declared.noted.Noted.{Noted}
use Rattle.mt_remove.specs.declared.tidy.Tidy.{Tidy}
use Rattle.mt_remove.specs.declared.stage.Layer.{Layer}
use Rattle.mt_remove.specs.declared.stage.Unlinking.{Unlinking}
use Rattle.mt_remove.specs.declared.stage.Stage.{Stage}
use Rattle.mt_remove.specs.declared.stage.Stage.TheVariants.{Seeks, LooksAgain, LooksRight, Locked, Dropped, Marked, LeftLocked, LeftNames, LeftMissed, LeftWritten, Unlinked, Lonely, LoneLocked, Bypassed, RootLocked, AboveLocked, AboveBounded, AboveSearched, AboveFound, LinkFound, HeadMarked, RootMarked, LinkHidden, LayerGone, RootRetired, KeepsLayer, KeepsBorder, KeepsInterior}
use Rattle.mt_remove.specs.Known.{IsKnownIn, LeftFinding, LoneIsKnown, NamerIsKnown, NotedIsTrue, SeekIsTrue}
use Rattle.mt_remove.specs.Locked.{AtIsPlace, HasAbove, HasLeft, IsAbove, IsClosing, IsEmptied, IsEmptyBorder, IsGoneBorder, IsGoneHead, IsGoneInterior, IsLinkFound, IsLoneInterior, IsRootLocked, IsUnlinking, link_sought}

abbrev pub tidy_request : Tidy → Request
tidy_request tidy = TidyRequest tidy.key

-- ---- what a tidy owns: what it has locked, and the head that it has marked deleted, until it is retired
abbrev pub layer_owns : Layer → List ℕ
layer_owns layer = layer.above.0 ∷ layer.root.0 ∷ layer.head.0 ∷ []

abbrev pub unlinking_owns : Unlinking → List ℕ
unlinking_owns u = u.node.0 ∷ u.border.0 ∷ []

abbrev pub stage_owns : Stage → List ℕ
stage_owns (Seeks noted) = []
stage_owns (LooksAgain border head emptied glance) = border.0 ∷ []
stage_owns (LooksRight border head emptied right) = border.0 ∷ []
stage_owns (Locked border head parent) = border.0 ∷ []
stage_owns (Dropped border head) = border.0 ∷ []
stage_owns (Marked unlinking) = unlinking.border.0 ∷ []
stage_owns (LeftLocked unlinking) = unlinking_owns unlinking
stage_owns (LeftNames unlinking) = unlinking_owns unlinking
stage_owns (LeftMissed unlinking) = unlinking_owns unlinking
stage_owns (LeftWritten border left) = left.0 ∷ border.0 ∷ []
stage_owns (Unlinked border) = border.0 ∷ []
stage_owns (Lonely lone) = []
stage_owns (LoneLocked lone) = lone.interior.0 ∷ []
stage_owns (Bypassed interior rule) = interior.0 ∷ []
stage_owns (RootLocked layer) = layer.root.0 ∷ []
stage_owns (AboveLocked layer) = layer.above.0 ∷ layer.root.0 ∷ []
stage_owns (AboveBounded layer) = layer.above.0 ∷ layer.root.0 ∷ []
stage_owns (AboveSearched layer order place at) = layer.above.0 ∷ layer.root.0 ∷ []
stage_owns (AboveFound layer slot) = layer.above.0 ∷ layer.root.0 ∷ []
stage_owns (LinkFound layer) = layer.above.0 ∷ layer.root.0 ∷ []
stage_owns (HeadMarked layer) = layer_owns layer
stage_owns (RootMarked layer) = layer_owns layer
stage_owns (LinkHidden layer) = layer_owns layer
stage_owns (LayerGone root head) = root.0 ∷ head.0 ∷ []
stage_owns (RootRetired head) = head.0 ∷ []
stage_owns (KeepsLayer above root) = above.0 ∷ root.0 ∷ []
stage_owns (KeepsBorder border) = border.0 ∷ []
stage_owns (KeepsInterior interior) = interior.0 ∷ []

abbrev pub tidy_held : Tidy → Held
tidy_held tidy = record { owns = stage_owns tidy.stage; reserves = 0; committed = None; blocked = None }

abbrev pub StageIsTrue : ℕ → List ℕ → Way → Finding → Stage → ArenaView → World → Type 0
StageIsTrue begun key way finding (Seeks noted) a w =
    IsOnWay begun key way w × NotedIsTrue begun key way noted w × SeekIsTrue begun key way finding a w
StageIsTrue begun key way finding (LooksAgain border head emptied glance) a w =
    IsEmptied begun key way border.0 head.0 emptied glance.right a w × (length glance.order.live ≡ 0)
StageIsTrue begun key way finding (LooksRight border head emptied right) a w =
    (seen : IsEmptied begun key way border.0 head.0 emptied right a w) × (seen.own.b.live ≡ [])
StageIsTrue begun key way finding (Locked border head parent) a w =
    ((posted : Bool) × (empty : IsEmptyBorder a w border.0 (prefix_of key way) posted)
    × (empty.b.version.deleted ≡ false))
    × IsHeadOf w begun head.0 (prefix_of key way) × IsKnownIn w begun parent.0 (prefix_of key way)
StageIsTrue begun key way finding (Dropped border head) a w =
    IsEmptyBorder a w border.0 (prefix_of key way) false × IsHeadOf w begun head.0 (prefix_of key way)
StageIsTrue begun key way finding (Marked u) a w = IsUnlinking begun a w (prefix_of key way) u
    × Holds w.chart begun u.node.0 (prefix_of key way) u.slice
    × LeftFinding begun (prefix_of key way) u.slice u.node.0 finding a w
StageIsTrue begun key way finding (LeftLocked u) a w = HasLeft begun a w (prefix_of key way) u
StageIsTrue begun key way finding (LeftNames u) a w = (has : HasLeft begun a w (prefix_of key way) u)
    × (has.left.b.right ≡ Some (record { low = has.unlinking.border.b.low; node = u.border }))
StageIsTrue begun key way finding (LeftMissed u) a w = HasLeft begun a w (prefix_of key way) u
StageIsTrue begun key way finding (LeftWritten border left) a w =
    IsGoneBorder a w border.0 × IsLockedBorder a w left.0 × (left.0 ≢ border.0)
StageIsTrue begun key way finding (Unlinked border) a w = IsGoneBorder a w border.0
StageIsTrue begun key way finding (Lonely lone) a w = LoneIsKnown begun (prefix_of key way) w lone
StageIsTrue begun key way finding (LoneLocked lone) a w =
    IsLoneInterior a w lone.interior.0 (prefix_of key way) × NamerIsKnown begun (prefix_of key way) w lone.namer
StageIsTrue begun key way finding (Bypassed interior rule) a w = IsGoneInterior begun a w interior.0
StageIsTrue begun key way finding (RootLocked layer) a w = IsRootLocked begun key way layer a w
StageIsTrue begun key way finding (AboveLocked layer) a w = HasAbove begun key way layer a w
StageIsTrue begun key way finding (AboveBounded layer) a w = HasAbove begun key way layer a w
StageIsTrue begun key way finding (AboveSearched layer order place at) a w =
    (has : HasAbove begun key way layer a w) × (order ≡ has.above.b.order) × IsPlaceOf order place
    × AtIsPlace at order
StageIsTrue begun key way finding (AboveFound layer slot) a w =
    (has : HasAbove begun key way (link_sought layer) a w) × (layer.place < length has.above.b.order.live)
    × (slot ≡ slice_index has.above.b.order.live layer.place) × (slot < SLOTS)
StageIsTrue begun key way finding (LinkFound layer) a w = IsLinkFound begun (prefix_of key way) layer a w
StageIsTrue begun key way finding (HeadMarked layer) a w = IsClosing layer a w
StageIsTrue begun key way finding (RootMarked layer) a w =
    (closing : IsClosing layer a w) × (closing.root.b.version.deleted ≡ true)
StageIsTrue begun key way finding (LinkHidden layer) a w =
    IsAbove a w layer.above.0 × IsGoneBorder a w layer.root.0 × IsGoneHead a w layer.head.0
StageIsTrue begun key way finding (LayerGone root head) a w = IsGoneBorder a w root.0 × IsGoneHead a w head.0
StageIsTrue begun key way finding (RootRetired head) a w = IsGoneHead a w head.0
StageIsTrue begun key way finding (KeepsLayer above root) a w =
    IsLockedBorder a w above.0 × IsLockedBorder a w root.0 × (above.0 ≢ root.0)
StageIsTrue begun key way finding (KeepsBorder border) a w = IsLockedBorder a w border.0
StageIsTrue begun key way finding (KeepsInterior interior) a w = IsLoneInterior a w interior.0 (prefix_of key way)

abbrev pub TidyIsTrue : Tidy → ℕ → ArenaView → World → Type 0
TidyIsTrue tidy begun a w = StageIsTrue begun tidy.key tidy.way tidy.finding tidy.stage a w

abbrev pub TidyTruth : Tidy → ℕ → ℕ → List Arena → ArenaView → World → Type 0
TidyTruth tidy begun moves past a w = TidyIsTrue tidy begun a w

-- a tidy that begins has a record that is true
abbrev pub NewTidyIsTrue : Tidy → Type 0
NewTidyIsTrue tidy = (a : ArenaView) (now begun : ℕ) (w : World) → IsWorld a now w → TidyIsTrue tidy begun a w

-- ---- the law of its step
-- it advances, waits, or ends with what it did
abbrev pub IsTidied : Progress → Type 0
IsTidied Moved = Unit {0}
IsTidied Waits = Unit {0}
IsTidied (Committed number) = ⊥
IsTidied (Answered (Tidied rule)) = Unit {0}
IsTidied (Answered _) = ⊥
IsTidied (Refused refusal) = ⊥

abbrev pub ThenTidy : Progress → ℕ → Tidy → ArenaView → World → Type 0
ThenTidy p begun then after next = ThenTrue p 0 (λ moves x. TidyIsTrue then begun after x) next

-- WHAT A STEP CHANGES ON A WAY: no node, but at its place, where it may lock the border; and of the border before the one
-- that it unlinks no more than the lock
abbrev pub SeekKeeps : ArenaView → ArenaView → Finding → Type 0
SeekKeeps a after (Settles counters sight) = Unit {0}
SeekKeeps a after _ = after ≡ a

abbrev pub LeftKeeps : ArenaView → ArenaView → ℕ → Finding → Type 0
LeftKeeps a after number (Bounded counters right) =
    (after ≡ a) ⊎ (after ≡ with_border_changed a number with_locked)
LeftKeeps a after number _ = after ≡ a

abbrev pub StageReads : ArenaView → ArenaView → Finding → Stage → Type 0
StageReads a after finding (Seeks noted) = SeekKeeps a after finding
StageReads a after finding (Marked u) = LeftKeeps a after u.node.0 finding
StageReads a after finding _ = Unit {0}

abbrev pub TidyReads : ArenaView → ArenaView → Tidy → Type 0
TidyReads a after tidy = StageReads a after tidy.finding tidy.stage

-- what a step leaves, from a stage: the rows are the same
pub record StageLaw (epoch : ℕ) (a after : ArenaView) (tidy : Tidy) (stage : Stage) (p : Progress)
    (then : Tidy) : Type 0 where
  pub steps : (begun : ℕ) (w : World) → IsWorld a epoch w → begun ≤ epoch
      → StageIsTrue begun tidy.key tidy.way tidy.finding stage a w →
      Goes epoch a after w (stage_owns stage) (left_with p (tidy_held then)).owns (ThenTidy p begun then after)
      × SameContent (arena_seen a) (arena_seen after)
  pub reads : StageReads a after tidy.finding stage

abbrev pub TidyLaw : ℕ → ArenaView → ArenaView → Tidy → Progress → Tidy → Type 0
TidyLaw epoch a after tidy p then = StageLaw epoch a after tidy tidy.stage p then

-- what a step asks: there is a world of the epoch in which the record is true
pub record MayTidy (epoch : ℕ) (a : ArenaView) (tidy : Tidy) : Type 0 where
  pub begun : ℕ
  pub w : World
  pub world : IsWorld a epoch w
  pub true : TidyIsTrue tidy begun a w

-- IT IS AT ITS PLACE, and has read there that this border is on and not marked deleted
pub record IsAtItsPlace (begun : ℕ) (key : List ℕ) (way : Way) (seen : Noted) (a : ArenaView) (w : World) : Type 0 where
  pub layer : IsLayerOf key way
  pub b : BorderView
  pub named : border_at a.nodes way.node.0 ≡ Some b
  pub alive : b.version.deleted ≡ false
  pub posted : Bool
  pub place : w.chart way.node.0 ≡ Some (spot (at_level 0) (prefix_of key way) b.low (on posted))
  pub noted : NotedIsTrue begun key way seen w
