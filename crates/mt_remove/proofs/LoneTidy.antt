-- A tidy that runs alone comes nearer to its end with each move.
use Rattle.std.proofs.Common.{ℕ, ◌≡◌, ◌<◌, ◌≤◌, ◌+◌, ◌-◌, ◌==◌, inl, inr, List, length, Option, Some, None, Bool, true, false, refl, sym, subst, arith}
use Rattle.std.specs.Prelude.{nat_le, nat_lt, slice_index, IsSomeAnd, if◌then◌else◌}
use Rattle.mt_types.specs.declared.numbers.NodeNo.{NodeNo}
use Rattle.mt_types.specs.declared.event.TidyRule.TheVariants.{Nothing as NoRule, EmptyBorder as BorderRule, EmptyLayer as LayerRule}
use Rattle.mt_types.specs.declared.limits.TheConstants.{MAX_KEY_BYTES}
use Rattle.mt_slice.specs.Place.{AreBytes, slice_number}
use Rattle.mt_word.specs.Slots.{Slots}
use Rattle.mt_border.specs.Border.{BorderView}
use Rattle.mt_border.specs.Slots.{slot_at, key_at, order_shown}
use Rattle.mt_border.specs.declared.entry.RightLink.{RightLink}
use Rattle.mt_arena.specs.Node.{node_at, head_at, border_at}
use Rattle.mt_arena.specs.Arena.{ArenaView}
use Rattle.mt_chart.specs.Tree.{Among}
use Rattle.mt_steps.specs.declared.progress.Progress.TheVariants.{Moved}
use Rattle.mt_steps.specs.Finding.{Finding}
use Rattle.mt_steps.specs.World.{World, IsWorld, IsTaken, NotAmong}
use Rattle.mt_remove.specs.declared.noted.Namer.{Namer}
use Rattle.mt_remove.specs.declared.noted.Namer.TheVariants.{Head as NamedByHead, Interior as NamedByInterior}
use Rattle.mt_remove.specs.declared.noted.OneChild.{OneChild}
use Rattle.mt_remove.specs.declared.sign.Emptied.{Emptied}
use Rattle.mt_remove.specs.declared.sign.Emptied.TheVariants.{Child as ByChild, Root as ByRoot}
use Rattle.mt_remove.specs.declared.tidy.Tidy.{Tidy}
use Rattle.mt_remove.specs.declared.stage.EmptyLayer.{EmptyLayer}
use Rattle.mt_remove.specs.declared.stage.Layer.{Layer}
use Rattle.mt_remove.specs.declared.stage.Unlinking.{Unlinking}
use Rattle.mt_remove.specs.declared.stage.Stage.{Stage}
use Rattle.mt_remove.specs.declared.stage.Stage.TheVariants.{Seeks, LooksAgain, LooksRight, Locked, Dropped, Marked, LeftLocked, LeftNames, LeftMissed, LeftWritten, Unlinked, Lonely, LoneLocked, Bypassed, RootLocked, AboveLocked, AboveBounded, AboveSearched, AboveFound, LinkFound, HeadMarked, RootMarked, LinkHidden, LayerGone, RootRetired, KeepsLayer, KeepsBorder, KeepsInterior}
use Rattle.mt_remove.specs.Above.{gives_up, bound_stage, found_stage, key_noted, searched, link_stage}
use Rattle.mt_remove.specs.Seen.{is_lone, place_in, later_place, is_free_border, link_of}
use Rattle.mt_remove.specs.Tidy.{stage_owns, tidy_held, StageIsTrue, StageReads, TidyReads, TidyIsTrue}
use Rattle.mt_remove.specs.Follows.{GoesTo, names, unread, emptied_stage, LooksAt, LooksLeft, DropsBy, LocksBy, BypassesBy, FollowsNamer, LocksAbove, rest_above, Follows, TidyFollows}
use Rattle.mt_remove.proofs.LoneStages.{LeftNamesIt, head_stands, some_gives, stage_left, stage_stands, tidy_left, tidy_stands}
use Rattle.mt_remove.proofs.LoneWays.{head_beside, marked_nearer, most_heights, not_done, seeks_nearer}

module _ (a after : ArenaView) (now begun : ℕ) (w next : World) (world : IsWorld a now w) (world_next : IsWorld after now next) (tidy : Tidy) (bytes : AreBytes tidy.key) (fits : length tidy.key ≤ MAX_KEY_BYTES) (all_owned : (number : ℕ) → IsTaken a w number → Among number (tidy_held tidy).owns) where
  -- nothing stands elsewhere than before, but for what the tidy owned or owns
  abbrev Spots : List ℕ → List ℕ → Type 0
  Spots owned owns = (number : ℕ) → NotAmong number owned → NotAmong number owns → next.chart number ≡ w.chart number

  -- it stands so after the step, and is nearer to its end than at this stage
  abbrev Nearer : Finding → Stage → Tidy → Type 0
  Nearer finding stage new = stage_stands after next new.key new.way new.finding new.stage × (stage_left after new.way new.finding new.stage < stage_left a tidy.way finding stage)

  abbrev Comes : Stage → Tidy → Type 0
  Comes stage new = Spots (stage_owns stage) (stage_owns new.stage) → StageIsTrue begun new.key new.way new.finding new.stage after next → Nearer tidy.finding stage new

  goes : (stage to : Stage) (new : Tidy) → GoesTo tidy Moved new to → Comes stage (record tidy { stage = to }) → Comes stage new
  goes stage to new follows comes = subst (λ (t : Tidy). Comes stage t) (sym follows.1) comes

  -- ---- an empty border
  by_order : (border head : NodeNo) (emptied : Emptied) (glance : _) → head_stands w tidy.key tidy.way head → (new : Tidy) (Same : Type 0) → LooksAt tidy border Same (LooksRight border head emptied glance) Moved new → (from : _) → Comes (LooksAgain border head emptied from) new
  by_order border head emptied right stands new Same (inl (same, follows)) from = goes (LooksAgain border head emptied from) (LooksRight border head emptied right) new follows (λ spots new_true. (head_beside a after now begun w next world world_next tidy bytes fits all_owned border.0 head stands _ _ _ _ spots new_true.0.headed new_true.0.own.place, omega arith))
  by_order border head emptied right stands new Same (inr (other, follows)) from = goes (LooksAgain border head emptied from) (KeepsBorder border) new follows (λ spots new_true. (tt, omega arith))

  by_right : (border head : NodeNo) (emptied : Emptied) (right : Option RightLink) → head_stands w tidy.key tidy.way head → (new : Tidy) (Same : Type 0) → LooksAt tidy border Same (emptied_stage border head emptied) Moved new → Comes (LooksRight border head emptied right) new
  by_right border head (ByChild parent) right stands new Same (inl (same, follows)) = goes (LooksRight border head (ByChild parent) right) (Locked border head parent) new follows (λ spots new_true.
      let ((posted, e, alive), known, held) = new_true in
      (head_beside a after now begun w next world world_next tidy bytes fits all_owned border.0 head stands _ _ _ _ spots known e.place, omega arith))
  by_right border head (ByRoot above) right stands new Same (inl (same, follows)) = goes (LooksRight border head (ByRoot above) right) (RootLocked (record { above = above; head = head; root = border })) new follows (λ spots new_true. (tt, omega arith))
  by_right border head emptied right stands new Same (inr (other, follows)) = goes (LooksRight border head emptied right) (KeepsBorder border) new follows (λ spots new_true. (tt, omega arith))

  by_place : (border head parent : NodeNo) → head_stands w tidy.key tidy.way head → (new : Tidy) (place : Option ℕ) → DropsBy tidy border head place Moved new → Comes (Locked border head parent) new
  by_place border head parent stands new None follows = goes (Locked border head parent) (KeepsBorder border) new follows (λ spots new_true. (tt, omega arith))
  by_place border head parent stands new (Some place) follows = goes (Locked border head parent) (Dropped border head) new follows (λ spots new_true. (head_beside a after now begun w next world world_next tidy bytes fits all_owned border.0 head stands _ _ _ _ spots new_true.1 new_true.0.place, omega arith))

  marks_nearer : (border head : NodeNo) → head_stands w tidy.key tidy.way head → (new : Tidy) (slice : ℕ) (right : Option RightLink) → GoesTo (unread tidy) Moved new (Marked (record { border = border; head = head; node = head; slice = slice; right = right })) → Comes (Dropped border head) new
  marks_nearer border head stands new slice right follows = subst (λ (t : Tidy). Comes (Dropped border head) t) (sym follows.1) (λ spots new_true.
      let still = head_beside a after now begun w next world world_next tidy bytes fits all_owned border.0 head stands _ _ _ _ spots new_true.0.headed new_true.0.border.place in
      ((still, still.0, tt), let most = most_heights after tidy.way.layer head.0 in omega (arith, most)))

  by_left : (u : Unlinking) → LeftNamesIt a u → (new : Tidy) → IsSomeAnd (border_at a.nodes u.node.0) (λ b. LooksLeft tidy u (names b.right u.border) Moved new) → Comes (LeftLocked u) new
  by_left u (b, named, names_it) new follows = go (subst (λ (o : Option BorderView). IsSomeAnd o (λ x. LooksLeft tidy u (names x.right u.border) Moved new)) named follows)
    where
      go : LooksLeft tidy u (names b.right u.border) Moved new → Comes (LeftLocked u) new
      go does = let so : LooksLeft tidy u true Moved new = subst (λ (c : Bool). LooksLeft tidy u c Moved new) names_it does in goes (LeftLocked u) (LeftNames u) new so (λ spots new_true. (tt, omega arith))

  -- ---- the other stages
  by_namer : (lone : OneChild) (new : Tidy) (namer : Namer) → FollowsNamer a tidy lone.interior namer Moved new → Comes (LoneLocked lone) new
  by_namer lone new (NamedByInterior parent) follows = some_gives (node_at a.nodes parent.0) _ (Comes (LoneLocked lone) new) (λ node h. by_place_in (place_in node lone.interior) h) follows
    where
      by_place_in : (place : Option ℕ) → BypassesBy tidy lone.interior place Moved new → Comes (LoneLocked lone) new
      by_place_in None h = goes (LoneLocked lone) _ new h (λ spots new_true. (tt, omega arith))
      by_place_in (Some place) h = goes (LoneLocked lone) _ new h (λ spots new_true. (tt, omega arith))
  by_namer lone new (NamedByHead head) follows = some_gives (head_at a.nodes head.0) _ (Comes (LoneLocked lone) new)
      (λ top h. elim h [
        | inl root ↦ goes (LoneLocked lone) _ new root.1 (λ spots new_true. (tt, omega arith))
        | inr other ↦ goes (LoneLocked lone) _ new other.1 (λ spots new_true. (tt, omega arith))
      ]) follows

  by_lone : (lone : OneChild) (new : Tidy) (one : Bool) → LocksBy tidy lone one Moved new → Comes (Lonely lone) new
  by_lone lone new true follows = goes (Lonely lone) (LoneLocked lone) new follows (λ spots new_true. (tt, omega arith))
  by_lone lone new false done = absurd (not_done NoRule done)

  by_free : (layer : EmptyLayer) (new : Tidy) (free : Bool) → LocksAbove tidy layer free Moved new → Comes (RootLocked layer) new
  by_free layer new true follows = goes (RootLocked layer) (AboveLocked layer) new follows (λ spots new_true. (tt, omega arith))
  by_free layer new false follows = goes (RootLocked layer) (KeepsBorder layer.root) new follows (λ spots new_true. (tt, omega arith))

  by_bound : (layer : EmptyLayer) (new : Tidy) (slice : ℕ) (right : Option RightLink) → GoesTo tidy Moved new (bound_stage slice layer right) → Comes (AboveLocked layer) new
  by_bound layer new slice None follows = goes (AboveLocked layer) (AboveBounded layer) new follows (λ spots new_true. (tt, omega arith))
  by_bound layer new slice (Some link) follows = go (nat_le link.low slice) follows
    where
      go : (c : Bool) → GoesTo tidy Moved new (if c then gives_up layer else AboveBounded layer) → Comes (AboveLocked layer) new
      go true follows = goes (AboveLocked layer) (gives_up layer) new follows (λ spots new_true. (tt, omega arith))
      go false follows = goes (AboveLocked layer) (AboveBounded layer) new follows (λ spots new_true. (tt, omega arith))

  by_found : (from : Stage) → (11 ≤ stage_left a tidy.way tidy.finding from) → (layer : EmptyLayer) (new : Tidy) (order : Slots) (at : Option ℕ) → GoesTo tidy Moved new (found_stage layer order at) → Comes from new
  by_found from most layer new order None follows = goes from (gives_up layer) new follows (λ spots new_true. (tt, omega (arith, most)))
  by_found from most layer new order (Some place) follows = goes from (found_stage layer order (Some place)) new follows (λ spots new_true. (tt, omega (arith, most)))

  by_first : (layer : EmptyLayer) (new : Tidy) (order : Slots) → GoesTo tidy Moved new (searched layer order 0 None) → Comes (AboveBounded layer) new
  by_first layer new order follows = go (nat_lt 0 (length order.live)) follows
    where
      go : (c : Bool) → GoesTo tidy Moved new (if c then AboveSearched layer order 0 None else found_stage layer order None) → Comes (AboveBounded layer) new
      go true follows = goes (AboveBounded layer) (AboveSearched layer order 0 None) new follows (λ spots new_true. let (has, order_is, (within, few), is_place) = new_true in (tt, omega (arith, within, few)))
      go false follows = by_found (AboveBounded layer) (omega arith) layer new order None follows

  by_key : (layer : EmptyLayer) (new : Tidy) (order : Slots) (place : ℕ) (at noted : Option ℕ) → place < length order.live → GoesTo tidy Moved new (searched layer order (place + 1) noted) → Comes (AboveSearched layer order place at) new
  by_key layer new order place at noted within follows = go (nat_lt (place + 1) (length order.live)) follows
    where
      go : (c : Bool) → GoesTo tidy Moved new (if c then AboveSearched layer order (place + 1) noted else found_stage layer order noted) → Comes (AboveSearched layer order place at) new
      go true follows = goes (AboveSearched layer order place at) (AboveSearched layer order (place + 1) noted) new follows (λ spots new_true. (tt, omega (arith, within)))
      go false follows = by_found (AboveSearched layer order place at) (omega (arith, within)) layer new order noted follows

  by_value : (layer : Layer) (slot : ℕ) (new : Tidy) (link : Option NodeNo) → GoesTo tidy Moved new (link_stage layer link) → Comes (AboveFound layer slot) new
  by_value layer slot new None follows = goes (AboveFound layer slot) (KeepsLayer layer.above layer.root) new follows (λ spots new_true. (tt, omega arith))
  by_value layer slot new (Some head) follows = go (head.0 == layer.head.0) follows
    where
      go : (c : Bool) → GoesTo tidy Moved new (if c then LinkFound layer else KeepsLayer layer.above layer.root) → Comes (AboveFound layer slot) new
      go true follows = goes (AboveFound layer slot) (LinkFound layer) new follows (λ spots new_true. (tt, omega arith))
      go false follows = goes (AboveFound layer slot) (KeepsLayer layer.above layer.root) new follows (λ spots new_true. (tt, omega arith))

  by_head : (layer : Layer) (new : Tidy) → Follows a tidy (LinkFound layer) Moved new → Comes (LinkFound layer) new
  by_head layer new follows = some_gives (head_at a.nodes layer.head.0) _ (Comes (LinkFound layer) new)
      (λ top h. elim h [
        | inl root ↦ goes (LinkFound layer) (HeadMarked layer) new root.1 (λ spots new_true. (tt, omega arith))
        | inr other ↦ goes (LinkFound layer) (KeepsLayer layer.above layer.root) new other.1 (λ spots new_true. (tt, omega arith))
      ]) follows

  stage_nearer : (stage : Stage) → tidy.stage ≡ stage → (new : Tidy) → StageIsTrue begun tidy.key tidy.way tidy.finding stage a w → stage_stands a w tidy.key tidy.way tidy.finding stage → StageReads a after tidy.finding stage → Follows a tidy stage Moved new → Comes stage new
  stage_nearer (Seeks noted) is new truth stands reads follows = seeks_nearer a after now begun w next world world_next tidy bytes fits all_owned noted is truth stands reads new follows
  stage_nearer (LooksAgain border head emptied glance) is new truth stands reads follows = some_gives (border_at a.nodes border.0) _ (Comes (LooksAgain border head emptied glance) new) (λ b h. by_order border head emptied glance.right stands new (order_shown b ≡ glance.order) h glance) follows
  stage_nearer (LooksRight border head emptied right) is new truth stands reads follows = some_gives (border_at a.nodes border.0) _ (Comes (LooksRight border head emptied right) new) (λ b h. by_right border head emptied right stands new (b.right ≡ right) h) follows
  stage_nearer (Locked border head parent) is new truth stands reads follows = some_gives (node_at a.nodes parent.0) _ (Comes (Locked border head parent) new)
      (λ node h. by_place border head parent stands new (later_place node border) h) follows
  stage_nearer (Dropped border head) is new truth stands reads follows = some_gives (border_at a.nodes border.0) _ (Comes (Dropped border head) new) (λ b h. marks_nearer border head stands new (b.low - 1) b.right h) follows
  stage_nearer (Marked u) is new truth stands reads follows = marked_nearer a after now begun w next world world_next tidy bytes fits all_owned u is truth stands reads new follows
  stage_nearer (LeftLocked u) is new truth stands reads follows = by_left u stands new follows
  stage_nearer (LeftNames u) is new truth stands reads follows = goes (LeftNames u) (LeftWritten u.border u.node) new follows (λ spots new_true. (tt, omega arith))
  stage_nearer (LeftMissed u) is new truth stands reads follows = absurd stands
  stage_nearer (LeftWritten border left) is new truth stands reads follows = goes (LeftWritten border left) (Unlinked border) new follows (λ spots new_true. (tt, omega arith))
  stage_nearer (Unlinked border) is new truth stands reads done = absurd (not_done BorderRule done)
  stage_nearer (Lonely lone) is new truth stands reads follows = some_gives (node_at a.nodes lone.interior.0) _ (Comes (Lonely lone) new)
      (λ node h. by_lone lone new (is_lone node lone.child) h) follows
  stage_nearer (LoneLocked lone) is new truth stands reads follows = by_namer lone new lone.namer follows
  stage_nearer (Bypassed interior rule) is new truth stands reads done = absurd (not_done rule done)
  stage_nearer (RootLocked layer) is new truth stands reads follows = some_gives (node_at a.nodes layer.above.0) _ (Comes (RootLocked layer) new) (λ node h. by_free layer new (is_free_border node) h) follows
  stage_nearer (AboveLocked layer) is new truth stands reads follows = some_gives (border_at a.nodes layer.above.0) _ (Comes (AboveLocked layer) new) (λ b h. by_bound layer new (slice_number (rest_above tidy)) b.right h) follows
  stage_nearer (AboveBounded layer) is new truth stands reads follows = some_gives (border_at a.nodes layer.above.0) _ (Comes (AboveBounded layer) new) (λ b h. by_first layer new (order_shown b) h) follows
  stage_nearer (AboveSearched layer order place at) is new truth stands reads follows = some_gives (border_at a.nodes layer.above.0) _ (Comes (AboveSearched layer order place at) new)
      (λ b h. by_key layer new order place at (key_noted (slice_number (rest_above tidy)) place (key_at b (slice_index order.live place)) at) truth.2.0 h) follows
  stage_nearer (AboveFound layer slot) is new truth stands reads follows = some_gives (border_at a.nodes layer.above.0) _ (Comes (AboveFound layer slot) new) (λ b h. by_value layer slot new (link_of (slot_at b slot).entry.content) h) follows
  stage_nearer (LinkFound layer) is new truth stands reads follows = by_head layer new follows
  stage_nearer (HeadMarked layer) is new truth stands reads follows = goes (HeadMarked layer) (RootMarked layer) new follows (λ spots new_true. (tt, omega arith))
  stage_nearer (RootMarked layer) is new truth stands reads follows = goes (RootMarked layer) (LinkHidden layer) new follows (λ spots new_true. (tt, omega arith))
  stage_nearer (LinkHidden layer) is new truth stands reads follows = goes (LinkHidden layer) (LayerGone layer.root layer.head) new follows (λ spots new_true. (tt, omega arith))
  stage_nearer (LayerGone root head) is new truth stands reads follows = goes (LayerGone root head) (RootRetired head) new follows (λ spots new_true. (tt, omega arith))
  stage_nearer (RootRetired head) is new truth stands reads done = absurd (not_done LayerRule done)
  stage_nearer (KeepsLayer above root) is new truth stands reads follows = goes (KeepsLayer above root) (KeepsBorder root) new follows (λ spots new_true. (tt, omega arith))
  stage_nearer (KeepsBorder border) is new truth stands reads done = absurd (not_done NoRule done)
  stage_nearer (KeepsInterior interior) is new truth stands reads done = absurd (not_done NoRule done)

-- A TIDY COMES NEARER TO ITS END with each move, if nothing stands elsewhere than before but for what it owned or owns
pub lone_tidy_nearer : (a after : ArenaView) (now begun : ℕ) (w next : World) (tidy new : Tidy) → IsWorld a now w → TidyIsTrue tidy begun a w → tidy_stands a w tidy → ((number : ℕ) → IsTaken a w number → Among number (tidy_held tidy).owns) → AreBytes tidy.key → length tidy.key ≤ MAX_KEY_BYTES
    → TidyReads a after tidy → TidyFollows a tidy Moved new → IsWorld after now next
    → ((number : ℕ) → NotAmong number (tidy_held tidy).owns → NotAmong number (tidy_held new).owns → next.chart number ≡ w.chart number)
    → TidyIsTrue new begun after next → tidy_stands after next new × (tidy_left after new < tidy_left a tidy)
lone_tidy_nearer a after now begun w next tidy new world truth stands owned bytes fits reads follows world_next spots new_true =
    stage_nearer a after now begun w next world world_next tidy bytes fits owned tidy.stage refl new truth stands reads follows spots new_true
