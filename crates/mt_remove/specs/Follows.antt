-- The stage of a tidy after a step, by the nodes before the step and the tidy before and after it.
use Rattle.std.specs.Prelude.{ℕ, ◌≡◌, ◌≢◌, ◌≤◌, ◌+◌, ◌-◌, ◌⊎◌, ◌==◌, Bool, true, false, List, [], ◌∷◌, ◌++◌, slice_index, Option, Some, None, IsSome, IsSomeAnd}
use Rattle.std.specs.Int.{w64, to_be_bytes}
use Rattle.mt_types.specs.declared.numbers.NodeNo.{NodeNo}
use Rattle.mt_types.specs.declared.event.Answer.TheVariants.{Tidied}
use Rattle.mt_types.specs.declared.event.TidyRule.{TidyRule}
use Rattle.mt_types.specs.declared.event.TidyRule.TheVariants.{Nothing as NoRule, EmptyBorder as BorderRule, LoneChild as ChildRule, LoneRootChild as RootRule, EmptyLayer as LayerRule}
use Rattle.mt_slice.specs.Place.{rest_at, slice_number}
use Rattle.mt_border.specs.Border.{BorderView}
use Rattle.mt_border.specs.Slots.{slot_at, key_at, order_shown}
use Rattle.mt_border.specs.declared.entry.RightLink.{RightLink}
use Rattle.mt_interior.specs.Head.{HeadView}
use Rattle.mt_arena.specs.Node.{node_at, head_at, border_at}
use Rattle.mt_arena.specs.Arena.{ArenaView}
use Rattle.mt_arena.specs.declared.node.Node.{Node}
use Rattle.mt_arena.specs.declared.part.Part.{Part}
use Rattle.mt_arena.specs.declared.retired.Retired.{Retired}
use Rattle.mt_chart.specs.Steps.{SameContent}
use Rattle.mt_tree.specs.Seen.{arena_seen}
use Rattle.mt_steps.specs.declared.way.Way.{Way}
use Rattle.mt_steps.specs.declared.finding.Sight.TheVariants.{Link as LinkSight}
use Rattle.mt_steps.specs.declared.reader.Reader.TheVariants.{Begins}
use Rattle.mt_steps.specs.declared.reader.Reading.TheVariants.{Restarts, Repeats, GoesOn, To, Finds}
use Rattle.mt_steps.specs.declared.progress.Progress.{Progress}
use Rattle.mt_steps.specs.declared.progress.Progress.TheVariants.{Moved, Waits, Answered}
use Rattle.mt_steps.specs.Causes.{IsMarkedAt, IsLockedAlready}
use Rattle.mt_steps.specs.Reader.{wants}
use Rattle.mt_steps.specs.Finding.{FindReading, FindingWaits}
use Rattle.mt_steps.specs.Standing.{Lends}
use Rattle.mt_steps.specs.Step.{left_with}
use Rattle.mt_steps.specs.Way.{rest_of, start}
use Rattle.mt_steps.specs.World.{World, IsWorld, Goes}
use Rattle.mt_remove.specs.declared.noted.Came.TheVariants.{Head as FromHead}
use Rattle.mt_remove.specs.declared.noted.Namer.{Namer}
use Rattle.mt_remove.specs.declared.noted.Namer.TheVariants.{Head as NamedByHead, Interior as NamedByInterior}
use Rattle.mt_remove.specs.declared.noted.OneChild.{OneChild}
use Rattle.mt_remove.specs.declared.noted.Noted.{Noted}
use Rattle.mt_remove.specs.declared.sign.Sign.{Sign}
use Rattle.mt_remove.specs.declared.sign.Sign.TheVariants.{Nothing, Empty, LoneChild}
use Rattle.mt_remove.specs.declared.sign.Emptied.{Emptied}
use Rattle.mt_remove.specs.declared.sign.Emptied.TheVariants.{Child as ByChild, Root as ByRoot}
use Rattle.mt_remove.specs.declared.tidy.Tidy.{Tidy}
use Rattle.mt_remove.specs.declared.stage.EmptyLayer.{EmptyLayer}
use Rattle.mt_remove.specs.declared.stage.Layer.{Layer}
use Rattle.mt_remove.specs.declared.stage.Stage.{Stage}
use Rattle.mt_remove.specs.declared.stage.Stage.TheVariants.{Seeks, LooksAgain, LooksRight, Locked, Dropped, Marked, LeftLocked, LeftNames, LeftMissed, LeftWritten, Unlinked, Lonely, LoneLocked, Bypassed, RootLocked, AboveLocked, AboveBounded, AboveSearched, AboveFound, LinkFound, HeadMarked, RootMarked, LinkHidden, LayerGone, RootRetired, KeepsLayer, KeepsBorder, KeepsInterior}
use Rattle.mt_remove.specs.declared.stage.Unlinking.{Unlinking}
use Rattle.mt_remove.specs.Noted.{noted_from, glanced, sign_of}
use Rattle.mt_remove.specs.Reading.{seek_reading}
use Rattle.mt_remove.specs.Seen.{is_lone, place_in, later_place, is_free_border, link_of}
use Rattle.mt_remove.specs.Above.{bound_stage, searched, key_noted, link_stage}
use Rattle.mt_remove.specs.Tidy.{IsTidied, TidyLaw, IsAtItsPlace, ThenTidy, tidy_held}
use Rattle.mt_remove.specs.Known.{AtLock}

-- it ends, and has done this
abbrev pub Did : TidyRule → Progress → Type 0
Did rule p = p ≡ Answered (Tidied rule)

-- it is at this stage, and otherwise as it was
abbrev pub GoesTo : Tidy → Progress → Tidy → Stage → Type 0
GoesTo tidy p then stage = (p ≡ Moved) × (then ≡ record tidy { stage = stage })

-- ---- on its way
-- at the head of layer 0 nothing is noted yet
abbrev pub not_noted : Noted
not_noted = record { head = record { 0 = 0 }; above = None; came = FromHead; lone = None; glance = None }

-- AT ITS PLACE a tidy begins the first rule whose signs are seen
abbrev pub BeginsBy : Tidy → Noted → Sign → Progress → Tidy → Type 0
BeginsBy tidy noted Nothing p then = Did NoRule p
BeginsBy tidy noted (Empty emptied glance) p then =
    GoesTo tidy p then (LooksAgain tidy.way.node noted.head emptied glance)
BeginsBy tidy noted (LoneChild lone) p then = GoesTo tidy p then (Lonely lone)

-- but if the border is locked, it ends
abbrev pub BeginsAt : Tidy → Noted → BorderView → Progress → Tidy → Type 0
BeginsAt tidy noted b p then = ((b.version.locked ≡ true) × Did NoRule p) ⊎ ((b.version.locked ≡ false)
    × BeginsBy tidy noted (sign_of b.low noted) p then)

-- it advances to another node
abbrev pub advanced : Tidy → Node → Way → Noted → Tidy
advanced tidy node next noted = record tidy { way = next; stage = Seeks (noted_from node tidy.way next noted) }

abbrev pub Advances : ArenaView → Tidy → Noted → Way → Progress → Tidy → Type 0
Advances a tidy noted next p then = (p ≡ Moved)
    × IsSomeAnd (node_at a.nodes tidy.way.node.0) (λ node. then ≡ advanced tidy node next noted)

-- what follows a reading, of a tidy that has read nothing else of the node
abbrev pub FollowsReading : ArenaView → Tidy → Noted → FindReading → Progress → Tidy → Type 0
FollowsReading a tidy noted Restarts p then =
    (p ≡ Waits) × (then ≡ record tidy { way = start; stage = Seeks not_noted })
FollowsReading a tidy noted Repeats p then = (p ≡ Waits) × (then ≡ record tidy { stage = Seeks noted })
FollowsReading a tidy noted (GoesOn next) p then =
    (p ≡ Moved) × (then ≡ record tidy { finding = next; stage = Seeks noted })
FollowsReading a tidy noted (To node) p then =
    Advances a tidy noted (record { node = node; layer = tidy.way.layer }) p then
FollowsReading a tidy noted (Finds (LinkSight head)) p then =
    Advances a tidy noted (record { node = head; layer = tidy.way.layer + 1 }) p then
FollowsReading a tidy noted (Finds _) p then =
    IsSomeAnd (border_at a.nodes tidy.way.node.0) (λ b. BeginsAt tidy noted b p then)

-- the node at which it is now, of which it has read nothing
abbrev pub unread : Tidy → Tidy
unread tidy = record tidy { finding = Begins }

-- A STEP ON ITS WAY READS ONE FIELD of a border, or visits one head or interior: it is lent that, and does what follows
-- from it
pub record FollowsPart (a : ArenaView) (tidy : Tidy) (noted : Noted) (p : Progress) (then : Tidy) : Type 0 where
  pub part : Part
  pub lent : Lends a tidy.way.node.0 (wants tidy.finding) part
  pub does : FollowsReading a (unread tidy) (glanced tidy.finding (border_at a.nodes tidy.way.node.0) noted)
      (seek_reading tidy.finding (rest_of tidy.key tidy.way) part) p then

-- ---- a border that was read as empty
-- ITS ORDER IS READ AGAIN, and then its right link; if one is another, the tidy gives up
abbrev pub LooksAt : Tidy → NodeNo → Type 0 → Stage → Progress → Tidy → Type 0
LooksAt tidy border Same stage p then =
    (Same × GoesTo tidy p then stage) ⊎ ((Same → ⊥) × GoesTo tidy p then (KeepsBorder border))

abbrev pub emptied_stage : NodeNo → NodeNo → Emptied → Stage
emptied_stage border head (ByChild parent) = Locked border head parent
emptied_stage border head (ByRoot above) = RootLocked (record { above = above; head = head; root = border })

-- ---- an empty border
-- the interior drops the border, if it still names it, not as its first child; or the tidy gives up
abbrev pub DropsBy : Tidy → NodeNo → NodeNo → Option ℕ → Progress → Tidy → Type 0
DropsBy tidy border head None p then = GoesTo tidy p then (KeepsBorder border)
DropsBy tidy border head (Some place) p then = GoesTo tidy p then (Dropped border head)

-- ON THE WAY TO THE BORDER BEFORE it is lent the version and the right link of a border, one a step, or a head or interior
-- node
abbrev pub slice_rest : Unlinking → List ℕ
slice_rest u = to_be_bytes w64 u.slice

abbrev pub approach_progress : FindReading → Progress
approach_progress Restarts = Waits
approach_progress (To node) = Moved
approach_progress (GoesOn finding) = Moved
approach_progress _ = Waits

abbrev pub approached : Tidy → Unlinking → FindReading → Tidy
approached tidy u Restarts = record tidy { finding = Begins; stage = Marked (record u { node = u.head }) }
approached tidy u (To node) = record tidy { finding = Begins; stage = Marked (record u { node = node }) }
approached tidy u (GoesOn finding) = record tidy { finding = finding; stage = Marked u }
approached tidy u _ = record tidy { finding = Begins; stage = Marked u }

pub record ApproachesPart (a : ArenaView) (tidy : Tidy) (u : Unlinking) (p : Progress) (then : Tidy) : Type 0 where
  pub before : AtLock tidy.finding → ⊥
  pub part : Part
  pub lent : Lends a u.node.0 (wants tidy.finding) part
  pub does : (p ≡ approach_progress (seek_reading tidy.finding (slice_rest u) part))
      × (then ≡ approached tidy u (seek_reading tidy.finding (slice_rest u) part))

-- then it is to lock that border. It looks at its mark first: if it is marked deleted, the way begins again. If another
-- call has locked it, the tidy waits. If neither, it locks it
abbrev pub LocksLeftBy : Tidy → Unlinking → Bool → Bool → Progress → Tidy → Type 0
LocksLeftBy tidy u true locked p then = (p ≡ Waits) × (then ≡ approached tidy u Restarts)
LocksLeftBy tidy u false true p then = (p ≡ Waits) × (then ≡ tidy)
LocksLeftBy tidy u false false p then =
    (p ≡ Moved) × (then ≡ record tidy { finding = Begins; stage = LeftLocked u })

abbrev pub LocksLeft : ArenaView → Tidy → Unlinking → Progress → Tidy → Type 0
LocksLeft a tidy u p then = AtLock tidy.finding × IsSomeAnd (border_at a.nodes u.node.0)
    (λ b. LocksLeftBy tidy u b.version.deleted b.version.locked p then)

-- a right link is to the border
abbrev pub names : Option RightLink → NodeNo → Bool
names None border = false
names (Some link) border = link.node.0 == border.0

-- ITS RIGHT LINK IS READ AGAIN: it names the border still, or the way begins again
abbrev pub LooksLeft : Tidy → Unlinking → Bool → Progress → Tidy → Type 0
LooksLeft tidy u true p then = GoesTo tidy p then (LeftNames u)
LooksLeft tidy u false p then = GoesTo tidy p then (LeftMissed u)

-- ---- an interior with one child
-- it is locked, if it still has the one child that was noted; or the tidy ends
abbrev pub LocksBy : Tidy → OneChild → Bool → Progress → Tidy → Type 0
LocksBy tidy lone true p then = GoesTo tidy p then (LoneLocked lone)
LocksBy tidy lone false p then = Did NoRule p

-- the head's root is the node, and the head is not marked deleted
abbrev pub IsRootOf : NodeNo → HeadView → Type 0
IsRootOf node h = (h.version.deleted ≡ false) × (h.root ≡ node)

-- what named the interior names its child, if it still names the interior; or the tidy gives up
abbrev pub BypassesBy : Tidy → NodeNo → Option ℕ → Progress → Tidy → Type 0
BypassesBy tidy interior None p then = GoesTo tidy p then (KeepsInterior interior)
BypassesBy tidy interior (Some place) p then = GoesTo tidy p then (Bypassed interior ChildRule)

abbrev pub FollowsNamer : ArenaView → Tidy → NodeNo → Namer → Progress → Tidy → Type 0
FollowsNamer a tidy interior (NamedByInterior parent) p then =
    IsSomeAnd (node_at a.nodes parent.0) (λ node. BypassesBy tidy interior (place_in node interior) p then)
FollowsNamer a tidy interior (NamedByHead head) p then = IsSomeAnd (head_at a.nodes head.0) (λ h.
    (IsRootOf interior h × GoesTo tidy p then (Bypassed interior RootRule)) ⊎ ((IsRootOf interior h → ⊥)
    × GoesTo tidy p then (KeepsInterior interior)))

-- ---- an empty layer
-- what the layers above the layer above have left of the key
abbrev pub rest_above : Tidy → List ℕ
rest_above tidy = rest_at (tidy.way.layer - 1) tidy.key

-- the border above is locked, unless it is marked deleted or locked; or the tidy gives up
abbrev pub LocksAbove : Tidy → EmptyLayer → Bool → Progress → Tidy → Type 0
LocksAbove tidy layer true p then = GoesTo tidy p then (AboveLocked layer)
LocksAbove tidy layer false p then = GoesTo tidy p then (KeepsBorder layer.root)

-- the head is marked deleted, if the border is still its root; or the tidy gives up
abbrev pub FollowsAbove : ArenaView → Tidy → Layer → Progress → Tidy → Type 0
FollowsAbove a tidy layer p then = IsSomeAnd (head_at a.nodes layer.head.0) (λ h.
    (IsRootOf layer.root h × GoesTo tidy p then (HeadMarked layer)) ⊎ ((IsRootOf layer.root h → ⊥)
    × GoesTo tidy p then (KeepsLayer layer.above layer.root)))

-- ---- at each stage
abbrev pub Follows : ArenaView → Tidy → Stage → Progress → Tidy → Type 0
Follows a tidy (Seeks noted) p then = FollowsPart a tidy noted p then
Follows a tidy (LooksAgain border head emptied glance) p then = IsSomeAnd (border_at a.nodes border.0)
    (λ b. LooksAt tidy border (order_shown b ≡ glance.order) (LooksRight border head emptied glance.right) p then)
Follows a tidy (LooksRight border head emptied right) p then = IsSomeAnd (border_at a.nodes border.0)
    (λ b. LooksAt tidy border (b.right ≡ right) (emptied_stage border head emptied) p then)
Follows a tidy (Locked border head parent) p then =
    IsSomeAnd (node_at a.nodes parent.0) (λ node. DropsBy tidy border head (later_place node border) p then)
Follows a tidy (Dropped border head) p then = IsSomeAnd (border_at a.nodes border.0) (λ b. GoesTo (unread tidy) p then
    (Marked (record { border = border; head = head; node = head; slice = b.low - 1; right = b.right })))
Follows a tidy (Marked u) p then = ApproachesPart a tidy u p then ⊎ LocksLeft a tidy u p then
Follows a tidy (LeftLocked u) p then =
    IsSomeAnd (border_at a.nodes u.node.0) (λ b. LooksLeft tidy u (names b.right u.border) p then)
Follows a tidy (LeftNames u) p then = GoesTo tidy p then (LeftWritten u.border u.node)
Follows a tidy (LeftMissed u) p then = GoesTo (unread tidy) p then (Marked (record u { node = u.head }))
Follows a tidy (LeftWritten border left) p then = GoesTo tidy p then (Unlinked border)
Follows a tidy (Unlinked border) p then = Did BorderRule p
Follows a tidy (Lonely lone) p then =
    IsSomeAnd (node_at a.nodes lone.interior.0) (λ node. LocksBy tidy lone (is_lone node lone.child) p then)
Follows a tidy (LoneLocked lone) p then = FollowsNamer a tidy lone.interior lone.namer p then
Follows a tidy (Bypassed interior rule) p then = Did rule p
Follows a tidy (RootLocked layer) p then =
    IsSomeAnd (node_at a.nodes layer.above.0) (λ node. LocksAbove tidy layer (is_free_border node) p then)
Follows a tidy (AboveLocked layer) p then = IsSomeAnd (border_at a.nodes layer.above.0)
    (λ b. GoesTo tidy p then (bound_stage (slice_number (rest_above tidy)) layer b.right))
Follows a tidy (AboveBounded layer) p then = IsSomeAnd (border_at a.nodes layer.above.0)
    (λ b. GoesTo tidy p then (searched layer (order_shown b) 0 None))
Follows a tidy (AboveSearched layer order place at) p then = IsSomeAnd (border_at a.nodes layer.above.0)
    (λ b. GoesTo tidy p then (searched layer order (place + 1)
    (key_noted (slice_number (rest_above tidy)) place (key_at b (slice_index order.live place)) at)))
Follows a tidy (AboveFound layer slot) p then = IsSomeAnd (border_at a.nodes layer.above.0)
    (λ b. GoesTo tidy p then (link_stage layer (link_of (slot_at b slot).entry.content)))
Follows a tidy (LinkFound layer) p then = FollowsAbove a tidy layer p then
Follows a tidy (HeadMarked layer) p then = GoesTo tidy p then (RootMarked layer)
Follows a tidy (RootMarked layer) p then = GoesTo tidy p then (LinkHidden layer)
Follows a tidy (LinkHidden layer) p then = GoesTo tidy p then (LayerGone layer.root layer.head)
Follows a tidy (LayerGone root head) p then = GoesTo tidy p then (RootRetired head)
Follows a tidy (RootRetired head) p then = Did LayerRule p
Follows a tidy (KeepsLayer above root) p then = GoesTo tidy p then (KeepsBorder root)
Follows a tidy (KeepsBorder border) p then = Did NoRule p
Follows a tidy (KeepsInterior interior) p then = Did NoRule p

abbrev pub TidyFollows : ArenaView → Tidy → Progress → Tidy → Type 0
TidyFollows a tidy p then = Follows a tidy tidy.stage p then

-- WHY IT WAITS: for what a get waits for at the node that it reads; or the border before the one that it unlinks, which
-- it is to lock, is marked deleted or locked. At no other stage does it wait.
abbrev pub StageWaits : ArenaView → Tidy → Stage → Progress → Type 0
StageWaits a tidy (Seeks noted) Waits = IsSomeAnd (node_at a.nodes tidy.way.node.0) (FindingWaits tidy.finding)
StageWaits a tidy (Marked u) Waits = IsSomeAnd (node_at a.nodes u.node.0) (FindingWaits tidy.finding)
    ⊎ (AtLock tidy.finding × (IsMarkedAt a u.node.0 ⊎ IsLockedAlready a u.node.0))
StageWaits a tidy _ Waits = ⊥
StageWaits a tidy _ _ = Unit {0}

abbrev pub TidyWaits : ArenaView → Tidy → Progress → Type 0
TidyWaits a tidy p = StageWaits a tidy tidy.stage p

-- WHAT IT RETIRES, in the epoch: a node that went by this tidy, and nothing else
abbrev pub then_retired : ℕ → Stage → List Retired → List Retired
then_retired epoch (Unlinked border) retired = retired ++ record { node = border; epoch = epoch } ∷ []
then_retired epoch (Bypassed interior rule) retired = retired ++ record { node = interior; epoch = epoch } ∷ []
then_retired epoch (LayerGone root head) retired = retired ++ record { node = root; epoch = epoch } ∷ []
then_retired epoch (RootRetired head) retired = retired ++ record { node = head; epoch = epoch } ∷ []
then_retired epoch _ retired = retired

abbrev pub TidyRetires : ℕ → ArenaView → ArenaView → Tidy → Type 0
TidyRetires epoch a after tidy = after.retired ≡ then_retired epoch tidy.stage a.retired

-- WHAT A STEP DOES, all of it
pub record TidyStep (epoch : ℕ) (a after : ArenaView) (tidy : Tidy) (p : Progress) (then : Tidy) : Type 0 where
  pub key : then.key ≡ tidy.key
  pub law : TidyLaw epoch a after tidy p then
  pub tidied : IsTidied p
  pub waits : TidyWaits a tidy p
  pub follows : Follows a tidy tidy.stage p then
  pub retires : TidyRetires epoch a after tidy

-- at its place: the same, by what is true once it is there
pub record PlaceStep (epoch : ℕ) (a after : ArenaView) (tidy : Tidy) (noted : Noted) (p : Progress) (then : Tidy) : Type 0 where
  pub key : then.key ≡ tidy.key
  pub steps : (begun : ℕ) (w : World) → IsWorld a epoch w → begun ≤ epoch
      → IsAtItsPlace begun tidy.key tidy.way noted a w →
      Goes epoch a after w [] (left_with p (tidy_held then)).owns (ThenTidy p begun then after)
      × SameContent (arena_seen a) (arena_seen after)
  pub tidied : IsTidied p
  pub waits_not : p ≢ Waits
  pub begins : IsSomeAnd (border_at a.nodes tidy.way.node.0) (λ b. BeginsAt tidy noted b p then)
  pub retires : after.retired ≡ a.retired

-- once it is at its place, it is at a border
abbrev pub AtPlace : ArenaView → ℕ → FindReading → Type 0
AtPlace a number (Finds (LinkSight head)) = Unit {0}
AtPlace a number (Finds _) = IsSome (border_at a.nodes number)
AtPlace a number _ = Unit {0}

-- after a reading: no node is changed, but at its place
abbrev pub ReadChanges : ℕ → ArenaView → ArenaView → Tidy → Noted → FindReading → Progress → Tidy → Type 0
ReadChanges epoch a after tidy noted (Finds (LinkSight head)) p then = after ≡ a
ReadChanges epoch a after tidy noted (Finds _) p then = PlaceStep epoch a after tidy noted p then
ReadChanges epoch a after tidy noted _ p then = after ≡ a

pub record ReadStep (epoch : ℕ) (a after : ArenaView) (tidy : Tidy) (noted : Noted) (reading : FindReading)
    (p : Progress) (then : Tidy) : Type 0 where
  pub key : then.key ≡ tidy.key
  pub changes : ReadChanges epoch a after tidy noted reading p then
  pub follows : FollowsReading a tidy noted reading p then
