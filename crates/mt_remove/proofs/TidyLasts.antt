-- What others' steps leave of a tidy, what a tidy owns, and since when an interior that it has bypassed is gone.
use Rattle.std.proofs.Common.{ℕ, suc, ◌≡◌, ◌≤◌, inl, inr, List, [], ◌∷◌, Option, Some, None, IsSome, Bool, true, false, refl, sym, ap, subst, ◌∙◌}
use Rattle.std.specs.Prelude.{IsSomeAnd}
use Rattle.std.specs.Option.{option_and_then}
use Rattle.mt_types.specs.declared.numbers.NodeNo.{NodeNo}
use Rattle.mt_slice.specs.Place.{slices_above}
use Rattle.mt_border.specs.Border.{BorderView}
use Rattle.mt_interior.specs.Head.{HeadView}
use Rattle.mt_interior.specs.Interior.{InteriorView}
use Rattle.mt_arena.specs.Node.{head_of, interior_at, interior_of, border_at, border_of}
use Rattle.mt_arena.specs.Arena.{ArenaView}
use Rattle.mt_arena.specs.declared.node.Node.{Node}
use Rattle.mt_arena.proofs.NodeLemmas.{node-from_interior, node-from_border}
use Rattle.mt_chart.specs.Tree.{Among, first, later, head as plain_head, interior as plain_interior, PlainNode}
use Rattle.mt_chart.specs.Chart.{top, at_level, gone, Spot, spot, Evolves}
use Rattle.mt_chart.specs.Steps.{NoTwin}
use Rattle.mt_chart.proofs.HeldNodes.{holds_kept}
use Rattle.mt_chart.proofs.Walk.{known_kept}
use Rattle.mt_tree.specs.Seen.{head_seen}
use Rattle.mt_tree.proofs.SeenLemmas.{seen-head}
use Rattle.mt_steps.specs.World.{World, IsWorld, IsLocked, IsTaken, IsSame, IsLockedBorder, GoneSince, BordersAge}
use Rattle.mt_steps.specs.Way.{prefix_of, IsHeadOf}
use Rattle.mt_steps.specs.declared.way.Way.{Way}
use Rattle.mt_steps.proofs.CollectLemmas.{border_no, on_no, only_since}
use Rattle.mt_remove.specs.declared.noted.Came.{Came}
use Rattle.mt_remove.specs.declared.noted.Came.TheVariants.{Head as FromHead, Child as AsChild, Left as FromLeft}
use Rattle.mt_remove.specs.declared.noted.Namer.{Namer}
use Rattle.mt_remove.specs.declared.noted.Namer.TheVariants.{Head as NamedByHead, Interior as NamedByInterior}
use Rattle.mt_remove.specs.declared.noted.OneChild.{OneChild}
use Rattle.mt_remove.specs.declared.noted.Noted.{Noted}
use Rattle.mt_remove.specs.declared.tidy.Tidy.{Tidy}
use Rattle.mt_remove.specs.declared.sign.Emptied.{Emptied}
use Rattle.mt_remove.specs.declared.sign.Emptied.TheVariants.{Child as ByChild, Root as ByRoot}
use Rattle.mt_remove.specs.declared.stage.EmptyLayer.{EmptyLayer}
use Rattle.mt_remove.specs.declared.stage.Unlinking.{Unlinking}
use Rattle.mt_remove.specs.declared.stage.Layer.{Layer}
use Rattle.mt_border.specs.declared.entry.RightLink.{RightLink}
use Rattle.mt_steps.specs.Finding.{Finding}
use Rattle.mt_remove.specs.declared.stage.Stage.{Stage}
use Rattle.mt_remove.specs.declared.stage.Stage.TheVariants.{Seeks, LooksAgain, LooksRight, Locked, Dropped, Marked, LeftLocked, LeftNames, LeftMissed, LeftWritten, Unlinked, Lonely, LoneLocked, Bypassed, RootLocked, AboveLocked, AboveBounded, AboveSearched, AboveFound, LinkFound, HeadMarked, RootMarked, LinkHidden, LayerGone, RootRetired, KeepsLayer, KeepsBorder, KeepsInterior}
use Rattle.mt_remove.specs.Tidy.{stage_owns, unlinking_owns, tidy_held, layer_owns, StageIsTrue, TidyIsTrue}
use Rattle.mt_remove.specs.Locked.{IsOwnBorder, EmptiedIsKnown, IsEmptied, IsEmptyBorder, IsUnlinking, HasLeft, IsGoneBorder, IsLoneInterior, IsEmptyRoot, IsAbove, IsRootLocked, HasAbove, HasLayer, link_sought, IsOwnHead, IsGoneHead, IsClosing}
use Rattle.mt_remove.specs.Known.{IsKnownIn, NamerIsKnown, IfLone, CameIsKnown, IfAbove, NotedIsTrue}
use Rattle.mt_remove.proofs.LeftReads.{left_stays}
use Rattle.mt_remove.proofs.SeekReads.{seek_stays}

-- ---- what others' steps leave
module _ (a after : ArenaView) (now : ℕ) (w next : World) (world : IsWorld after now next) (age : BordersAge a after w next) (begun : ℕ) (evolves : Evolves begun w.chart next.chart) where
  known_stays : (number : ℕ) (prefix : List ℕ) → IsKnownIn w begun number prefix → IsKnownIn next begun number prefix
  known_stays number prefix k = record { role = k.role; low = k.low; known = known_kept begun number k.role prefix k.low w.chart next.chart evolves k.known }

  head_stays : (number : ℕ) (prefix : List ℕ) → IsHeadOf w begun number prefix → IsHeadOf next begun number prefix
  head_stays number prefix k = known_kept begun number top prefix 0 w.chart next.chart evolves k

  namer_stays : (prefix : List ℕ) (namer : Namer) → NamerIsKnown begun prefix w namer → NamerIsKnown begun prefix next namer
  namer_stays prefix (NamedByHead head) k = head_stays head.0 prefix k
  namer_stays prefix (NamedByInterior interior) k = known_stays interior.0 prefix k

  lone_stays : (prefix : List ℕ) (lone : Option OneChild) → IfLone begun prefix w lone → IfLone begun prefix next lone
  lone_stays prefix None k = tt
  lone_stays prefix (Some lone) k = (known_stays lone.interior.0 prefix k.0, namer_stays prefix lone.namer k.1)

  came_stays : (prefix : List ℕ) (came : Came) → CameIsKnown begun prefix w came → CameIsKnown begun prefix next came
  came_stays prefix FromHead k = tt
  came_stays prefix FromLeft k = tt
  came_stays prefix (AsChild parent is_one) k = known_stays parent.0 prefix k

  above_stays : (key : List ℕ) (layer : ℕ) (above : Option NodeNo) → IfAbove begun key layer w above → IfAbove begun key layer next above
  above_stays key layer None k = tt
  above_stays key layer (Some above) (upper, is, k) = (upper, is, known_stays above.0 (slices_above upper key) k)

  noted_stays : (key : List ℕ) (way : Way) (noted : Noted) → NotedIsTrue begun key way noted w → NotedIsTrue begun key way noted next
  noted_stays key way noted t = record {
    head = head_stays noted.head.0 (prefix_of key way) t.head;
    above = above_stays key way.layer noted.above t.above;
    came = came_stays (prefix_of key way) noted.came t.came;
    lone = lone_stays (prefix_of key way) noted.lone t.lone;
  }

  border_stays : (number : ℕ) (b : BorderView) → IsSame a after w next number → border_at a.nodes number ≡ Some b → border_at after.nodes number ≡ Some b
  border_stays number b same named = ap (option_and_then border_of) same.node ∙ named

  interior_stays : (number : ℕ) (i : InteriorView) → IsSame a after w next number → interior_at a.nodes number ≡ Some i → interior_at after.nodes number ≡ Some i
  interior_stays number i same named = ap (option_and_then interior_of) same.node ∙ named

  twin_stays : (number : ℕ) → IsSame a after w next number → NoTwin w.twins number → NoTwin next.twins number
  twin_stays number same lone = ((λ other pair. lone.0 other ((same.twins other number (inr refl)).0 pair)), (λ other pair. lone.1 other ((same.twins number other (inl refl)).0 pair)))

  empty_stays : (number : ℕ) (prefix : List ℕ) (posted : Bool) → IsSame a after w next number → IsEmptyBorder a w number prefix posted → IsEmptyBorder after next number prefix posted
  empty_stays number prefix posted same e = record { b = e.b; named = border_stays number e.b same e.named; locked = e.locked; written = e.written; empty = e.empty; later = e.later; place = same.spot ∙ e.place; free = λ i. e.free (same.closing i) }

  single_stays : (number : ℕ) (prefix : List ℕ) → IsSame a after w next number → IsLoneInterior a w number prefix → IsLoneInterior after next number prefix
  single_stays number prefix same l = record {
    i = l.i;
    named = interior_stays number l.i same l.named;
    locked = l.locked;
    alive = l.alive;
    stands = record { level = l.stands.level; low = l.stands.low; posted = l.stands.posted; place = same.spot ∙ l.stands.place };
    apart = twin_stays number same l.apart;
    one = l.one;
  }

  gone_stays : (number : ℕ) → IsSame a after w next number → IsGoneBorder a w number → IsGoneBorder after next number
  gone_stays number s g = record {
    b = g.b;
    named = border_stays number g.b s g.named;
    locked = g.locked;
    written = g.written;
    prefix = g.prefix;
    low = g.low;
    epoch = g.epoch;
    place = s.spot ∙ g.place;
    free = λ i. g.free (s.closing i);
    kept = s.retired.1 g.kept;
  }

  locked_stays : (number : ℕ) → IsSame a after w next number → IsLockedBorder a w number → IsLockedBorder after next number
  locked_stays number s k = record { b = k.b; named = border_stays number k.b s k.named; known = subst (λ (x : Option Spot). IsSome x) (sym s.spot) k.known; locked = k.locked; alive = k.alive; written = k.written; free = λ i. k.free (s.closing i) }

  root_stays : (number : ℕ) → IsSame a after w next number → IsEmptyRoot a w number → IsEmptyRoot after next number
  root_stays number s e = record { b = e.b; named = border_stays number e.b s e.named; known = subst (λ (x : Option Spot). IsSome x) (sym s.spot) e.known; locked = e.locked; written = e.written; empty = e.empty; right = e.right }

  over_stays : (number : ℕ) → IsSame a after w next number → IsAbove a w number → IsAbove after next number
  over_stays number s u = record {
    b = u.b;
    named = border_stays number u.b s u.named;
    locked = u.locked;
    alive = u.alive;
    written = u.written;
    prefix = u.prefix;
    stands = record { low = u.stands.low; posted = u.stands.posted; place = s.spot ∙ u.stands.place };
    free = λ i. u.free (s.closing i);
  }

  link_stays : (layer : Layer) → IsSame a after w next layer.above.0 → HasLayer a w layer → HasLayer after next layer
  unfolding over_stays
  link_stays layer s l = record { border = over_stays layer.above.0 s l.border; slice = l.slice; linked = l.linked }

  own_head_stays : (number : ℕ) → IsSame a after w next number → IsOwnHead a number → IsOwnHead after number
  own_head_stays number s k = record { h = k.h; named = ap (option_and_then head_of) s.node ∙ k.named; marked = k.marked; unlocked = k.unlocked; kept = s.retired.1 k.kept }

  gone_head_stays : (number : ℕ) → IsSame a after w next number → IsGoneHead a w number → IsGoneHead after next number
  gone_head_stays number s k = record { head = own_head_stays number s k.head; prefix = k.prefix; low = k.low; epoch = k.epoch; place = s.spot ∙ k.place }

  closing_stays : (layer : Layer) → ((number : ℕ) → Among number (layer_owns layer) → IsSame a after w next number) → IsClosing layer a w → IsClosing layer after next
  unfolding own_head_stays
  closing_stays layer same k = record {
    root = root_stays layer.root.0 (same layer.root.0 (later first)) k.root;
    above = link_stays layer (same layer.above.0 first) k.above;
    head = own_head_stays layer.head.0 (same layer.head.0 (later (later first))) k.head;
    names = k.names;
    prefix = k.prefix;
    stands = (same layer.head.0 (later (later first))).spot ∙ k.stands;
  }

  own_stays : (number : ℕ) (prefix : List ℕ) → IsSame a after w next number → IsOwnBorder a w number prefix → IsOwnBorder after next number prefix
  own_stays number prefix s k = record { b = k.b; named = border_stays number k.b s k.named; locked = k.locked; alive = k.alive; written = k.written; posted = k.posted; place = s.spot ∙ k.place; free = λ i. k.free (s.closing i) }

  emptied_known_stays : (key : List ℕ) (way : Way) (low : ℕ) (emptied : Emptied) → EmptiedIsKnown begun key way low emptied w → EmptiedIsKnown begun key way low emptied next
  emptied_known_stays key way low (ByChild parent) k = (k.0, known_stays parent.0 (prefix_of key way) k.1)
  emptied_known_stays key way low (ByRoot above) k = (k.0, above_stays key way.layer (Some above) k.1)

  emptied_stays : (key : List ℕ) (way : Way) (border head : ℕ) (emptied : Emptied) (right : Option RightLink) → IsSame a after w next border → IsEmptied begun key way border head emptied right a w → IsEmptied begun key way border head emptied right after next
  unfolding own_stays
  emptied_stays key way border head emptied right s k = record { own = own_stays border (prefix_of key way) s k.own; known = emptied_known_stays key way k.own.b.low emptied k.known; headed = head_stays head (prefix_of key way) k.headed; right = k.right }

  unlinking_stays : (prefix : List ℕ) (u : Unlinking) → IsSame a after w next u.border.0 → IsUnlinking begun a w prefix u → IsUnlinking begun after next prefix u
  unfolding empty_stays
  unlinking_stays prefix u s k = record { border = empty_stays u.border.0 prefix false s k.border; marked = k.marked; before = k.before; fits = k.fits; noted = k.noted; above = k.above; headed = head_stays u.head.0 prefix k.headed }

  left_stays_locked : (prefix : List ℕ) (u : Unlinking) → ((number : ℕ) → Among number (unlinking_owns u) → IsSame a after w next number) → HasLeft begun a w prefix u → HasLeft begun after next prefix u
  unfolding own_stays unlinking_stays
  left_stays_locked prefix u same k = record { unlinking = unlinking_stays prefix u (same u.border.0 (later first)) k.unlinking; left = own_stays u.node.0 prefix (same u.node.0 first) k.left; low = k.low }

  root_locked_stays : (key : List ℕ) (way : Way) (layer : EmptyLayer) → IsSame a after w next layer.root.0 → IsRootLocked begun key way layer a w → IsRootLocked begun key way layer after next
  unfolding root_stays
  root_locked_stays key way layer s t = record {
    border = root_stays layer.root.0 s t.border;
    alive = t.alive;
    free = λ i. t.free (s.closing i);
    headed = head_stays layer.head.0 (prefix_of key way) t.headed;
    within = t.within;
    known = above_stays key way.layer (Some layer.above) t.known;
  }

  over_both_stay : (key : List ℕ) (way : Way) (layer : EmptyLayer) → ((number : ℕ) → Among number (layer.above.0 ∷ layer.root.0 ∷ []) → IsSame a after w next number) → HasAbove begun key way layer a w → HasAbove begun key way layer after next
  unfolding over_stays root_locked_stays
  over_both_stay key way layer same t = record { root = root_locked_stays key way layer (same layer.root.0 (later first)) t.root; above = over_stays layer.above.0 (same layer.above.0 first) t.above; apart = t.apart }

  stage_stays : (key : List ℕ) (way : Way) (finding : Finding) (stage : Stage) → ((number : ℕ) → Among number (stage_owns stage) → IsSame a after w next number) → StageIsTrue begun key way finding stage a w → StageIsTrue begun key way finding stage after next
  unfolding empty_stays closing_stays root_stays emptied_stays unlinking_stays left_stays_locked root_locked_stays over_both_stay over_stays own_stays
  stage_stays key way finding (Seeks noted) same t = (record { layer = t.0.layer; held = holds_kept begun way.node.0 _ _ w.chart next.chart evolves t.0.held }, noted_stays key way noted t.1, seek_stays a after now w next world age begun evolves key way finding t.2)
  stage_stays key way finding (LooksAgain border head emptied glance) same t = (emptied_stays key way border.0 head.0 emptied glance.right (same border.0 first) t.0, t.1)
  stage_stays key way finding (LooksRight border head emptied right) same t = (emptied_stays key way border.0 head.0 emptied right (same border.0 first) t.0, t.1)
  stage_stays key way finding (Locked border head parent) same t = let ((posted, e, alive), known, held) = t in ((posted, empty_stays border.0 (prefix_of key way) posted (same border.0 first) e, alive), head_stays head.0 (prefix_of key way) known, known_stays parent.0 (prefix_of key way) held)
  stage_stays key way finding (Dropped border head) same t = (empty_stays border.0 (prefix_of key way) false (same border.0 first) t.0, head_stays head.0 (prefix_of key way) t.1)
  stage_stays key way finding (Marked u) same t = (
    unlinking_stays (prefix_of key way) u (same u.border.0 first) t.0,
    holds_kept begun u.node.0 _ _ w.chart next.chart evolves t.1,
    left_stays a after now w next world age begun evolves (prefix_of key way) u.slice u.node.0 finding t.2,
  )
  stage_stays key way finding (LeftLocked u) same k = left_stays_locked (prefix_of key way) u same k
  stage_stays key way finding (LeftNames u) same k = (left_stays_locked (prefix_of key way) u same k.0, k.1)
  stage_stays key way finding (LeftMissed u) same k = left_stays_locked (prefix_of key way) u same k
  stage_stays key way finding (LeftWritten border left) same t = let (g, l, apart) = t in (gone_stays border.0 (same border.0 (later first)) g, locked_stays left.0 (same left.0 first) l, apart)
  stage_stays key way finding (Unlinked border) same g = gone_stays border.0 (same border.0 first) g
  stage_stays key way finding (Lonely lone) same t = (known_stays lone.interior.0 (prefix_of key way) t.0, namer_stays (prefix_of key way) lone.namer t.1)
  stage_stays key way finding (LoneLocked lone) same t = (single_stays lone.interior.0 (prefix_of key way) (same lone.interior.0 first) t.0, namer_stays (prefix_of key way) lone.namer t.1)
  stage_stays key way finding (Bypassed interior rule) same g = let s = same interior.0 first in record {
    i = g.i;
    named = interior_stays interior.0 g.i s g.named;
    locked = g.locked;
    level = g.level;
    prefix = g.prefix;
    low = g.low;
    epoch = g.epoch;
    place = s.spot ∙ g.place;
    since = g.since;
    apart = twin_stays interior.0 s g.apart;
    kept = s.retired.1 g.kept;
  }
  stage_stays key way finding (RootLocked layer) same t = root_locked_stays key way layer (same layer.root.0 first) t
  stage_stays key way finding (AboveLocked layer) same t = over_both_stay key way layer same t
  stage_stays key way finding (AboveBounded layer) same t = over_both_stay key way layer same t
  stage_stays key way finding (AboveSearched layer order place at) same t = let (has, order_is, within, is_place) = t in (over_both_stay key way layer same has, order_is, within, is_place)
  stage_stays key way finding (AboveFound layer slot) same t = let (has, within, slot_is, few) = t in (over_both_stay key way (link_sought layer) same has, within, slot_is, few)
  stage_stays key way finding (LinkFound layer) same t = record {
    root = root_stays layer.root.0 (same layer.root.0 (later first)) t.root;
    alive = t.alive;
    free = λ i. t.free ((same layer.root.0 (later first)).closing i);
    headed = head_stays layer.head.0 (prefix_of key way) t.headed;
    above = link_stays layer (same layer.above.0 first) t.above;
  }
  stage_stays key way finding (HeadMarked layer) same k = closing_stays layer same k
  stage_stays key way finding (RootMarked layer) same k = (closing_stays layer same k.0, k.1)
  stage_stays key way finding (LinkHidden layer) same t = let (u, g, k) = t in (over_stays layer.above.0 (same layer.above.0 first) u, gone_stays layer.root.0 (same layer.root.0 (later first)) g, gone_head_stays layer.head.0 (same layer.head.0 (later (later first))) k)
  stage_stays key way finding (LayerGone root head) same t = (gone_stays root.0 (same root.0 first) t.0, gone_head_stays head.0 (same head.0 (later first)) t.1)
  stage_stays key way finding (RootRetired head) same k = gone_head_stays head.0 (same head.0 first) k
  stage_stays key way finding (KeepsLayer above root) same t = let (u, r, apart) = t in (locked_stays above.0 (same above.0 first) u, locked_stays root.0 (same root.0 (later first)) r, apart)
  stage_stays key way finding (KeepsBorder border) same k = locked_stays border.0 (same border.0 first) k
  stage_stays key way finding (KeepsInterior interior) same l = single_stays interior.0 (prefix_of key way) (same interior.0 first) l

  -- the law of others' steps: if they don't change what a tidy owns, what is true of it stays true
  pub tidy_stays : (tidy : Tidy) → ((number : ℕ) → Among number (tidy_held tidy).owns → IsSame a after w next number) → TidyIsTrue tidy begun a w → TidyIsTrue tidy begun after next
  tidy_stays tidy same truth = stage_stays tidy.key tidy.way tidy.finding tidy.stage same truth

-- ---- what a tidy owns is taken
module _ (a : ArenaView) (w : World) (begun : ℕ) where
  border_taken : (n number : ℕ) (b : BorderView) → border_at a.nodes n ≡ Some b → b.version.locked ≡ true → Among number (n ∷ []) → IsTaken a w number
  border_taken n number b named locked first = inl (subst (λ (x : Option Node). IsLocked x) (sym (node-from_border a.nodes n b named)) locked)
  border_taken n number b named locked (later i) = elim i [ ]

  interior_taken : (n number : ℕ) (i : InteriorView) → interior_at a.nodes n ≡ Some i → i.version.locked ≡ true → Among number (n ∷ []) → IsTaken a w number
  interior_taken n number i named locked first = inl (subst (λ (x : Option Node). IsLocked x) (sym (node-from_interior a.nodes n i named)) locked)
  interior_taken n number i named locked (later k) = elim k [ ]

  among_more : (n number : ℕ) (rest : List ℕ) → (Among number (n ∷ []) → IsTaken a w number) → (Among number rest → IsTaken a w number) → Among number (n ∷ rest) → IsTaken a w number
  among_more n number rest one more first = one first
  among_more n number rest one more (later i) = more i

  head_taken : (n number : ℕ) → IsOwnHead a n → Among number (n ∷ []) → IsTaken a w number
  head_taken n number k first = inr (inr (record { marked = subst (λ (o : Option HeadView). IsSomeAnd o (λ h. h.version.deleted ≡ true)) (sym k.named) k.marked; kept = k.kept }))
  head_taken n number k (later i) = elim i [ ]

  closing_taken : (layer : Layer) (number : ℕ) → IsClosing layer a w → Among number (layer_owns layer) → IsTaken a w number
  closing_taken layer number k i =
      among_more layer.above.0 number _ (border_taken layer.above.0 number k.above.border.b k.above.border.named k.above.border.locked)
      (among_more layer.root.0 number _ (border_taken layer.root.0 number k.root.b k.root.named k.root.locked) (head_taken layer.head.0 number k.head)) i

  left_taken : (prefix : List ℕ) (u : Unlinking) (number : ℕ) → HasLeft begun a w prefix u → Among number (unlinking_owns u) → IsTaken a w number
  left_taken prefix u number k i = among_more u.node.0 number _ (border_taken u.node.0 number k.left.b k.left.named k.left.locked) (border_taken u.border.0 number k.unlinking.border.b k.unlinking.border.named k.unlinking.border.locked) i

  over_taken : (key : List ℕ) (way : Way) (layer : EmptyLayer) (number : ℕ) → HasAbove begun key way layer a w → Among number (layer.above.0 ∷ layer.root.0 ∷ []) → IsTaken a w number
  over_taken key way layer number t i = among_more layer.above.0 number _ (border_taken layer.above.0 number t.above.b t.above.named t.above.locked) (border_taken layer.root.0 number t.root.border.b t.root.border.named t.root.border.locked) i

  stage_taken : (key : List ℕ) (way : Way) (finding : Finding) (stage : Stage) → StageIsTrue begun key way finding stage a w → (number : ℕ) → Among number (stage_owns stage) → IsTaken a w number
  stage_taken key way finding (Seeks noted) t number i = elim i [ ]
  stage_taken key way finding (LooksAgain border head emptied glance) t number i = border_taken border.0 number t.0.own.b t.0.own.named t.0.own.locked i
  stage_taken key way finding (LooksRight border head emptied right) t number i = border_taken border.0 number t.0.own.b t.0.own.named t.0.own.locked i
  stage_taken key way finding (Locked border head parent) t number i = let ((posted, e, alive), known, held) = t in border_taken border.0 number e.b e.named e.locked i
  stage_taken key way finding (Dropped border head) t number i = border_taken border.0 number t.0.b t.0.named t.0.locked i
  stage_taken key way finding (Marked u) t number i = border_taken u.border.0 number t.0.border.b t.0.border.named t.0.border.locked i
  stage_taken key way finding (LeftLocked u) k number i = left_taken (prefix_of key way) u number k i
  stage_taken key way finding (LeftNames u) k number i = left_taken (prefix_of key way) u number k.0 i
  stage_taken key way finding (LeftMissed u) k number i = left_taken (prefix_of key way) u number k i
  stage_taken key way finding (LeftWritten border left) t number i = let (g, l, apart) = t in among_more left.0 number _ (border_taken left.0 number l.b l.named l.locked) (border_taken border.0 number g.b g.named g.locked) i
  stage_taken key way finding (Unlinked border) t number i = border_taken border.0 number t.b t.named t.locked i
  stage_taken key way finding (Lonely lone) t number i = elim i [ ]
  stage_taken key way finding (LoneLocked lone) t number i = interior_taken lone.interior.0 number t.0.i t.0.named t.0.locked i
  stage_taken key way finding (Bypassed interior rule) t number i = interior_taken interior.0 number t.i t.named t.locked i
  stage_taken key way finding (RootLocked layer) t number i = border_taken layer.root.0 number t.border.b t.border.named t.border.locked i
  stage_taken key way finding (AboveLocked layer) t number i = over_taken key way layer number t i
  stage_taken key way finding (AboveBounded layer) t number i = over_taken key way layer number t i
  stage_taken key way finding (AboveSearched layer order place at) t number i = over_taken key way layer number t.0 i
  stage_taken key way finding (AboveFound layer slot) t number i = over_taken key way (link_sought layer) number t.0 i
  stage_taken key way finding (LinkFound layer) t number i = among_more layer.above.0 number _ (border_taken layer.above.0 number t.above.border.b t.above.border.named t.above.border.locked) (border_taken layer.root.0 number t.root.b t.root.named t.root.locked) i
  stage_taken key way finding (HeadMarked layer) k number i = closing_taken layer number k i
  stage_taken key way finding (RootMarked layer) k number i = closing_taken layer number k.0 i
  stage_taken key way finding (LinkHidden layer) t number i =
      let (u, g, k) = t in
      among_more layer.above.0 number _ (border_taken layer.above.0 number u.b u.named u.locked) (among_more layer.root.0 number _ (border_taken layer.root.0 number g.b g.named g.locked) (head_taken layer.head.0 number k.head)) i
  stage_taken key way finding (LayerGone root head) t number i = let (g, k) = t in among_more root.0 number _ (border_taken root.0 number g.b g.named g.locked) (head_taken head.0 number k.head) i
  stage_taken key way finding (RootRetired head) k number i = head_taken head.0 number k.head i
  stage_taken key way finding (KeepsLayer above root) t number i = let (u, r, apart) = t in among_more above.0 number _ (border_taken above.0 number u.b u.named u.locked) (border_taken root.0 number r.b r.named r.locked) i
  stage_taken key way finding (KeepsBorder border) t number i = border_taken border.0 number t.b t.named t.locked i
  stage_taken key way finding (KeepsInterior interior) t number i = interior_taken interior.0 number t.i t.named t.locked i

  pub tidy_taken : (tidy : Tidy) → TidyIsTrue tidy begun a w → (number : ℕ) → Among number (tidy_held tidy).owns → IsTaken a w number
  tidy_taken tidy truth number i = stage_taken tidy.key tidy.way tidy.finding tidy.stage truth number i

  -- ---- an interior that it owns, and that is gone, went since its begin
  both_since : (one : ℕ) (rest : List ℕ) → GoneSince begun w (one ∷ []) → GoneSince begun w rest → GoneSince begun w (one ∷ rest)
  both_since one rest here more number first = here number first
  both_since one rest here more number (later i) = more number i

  border_since : (now number : ℕ) (b : BorderView) → IsWorld a now w → border_at a.nodes number ≡ Some b → GoneSince begun w (number ∷ [])
  border_since now number b world named = only_since begun w number (border_no a now w number b world named)

  -- a head is no interior
  head_since : (now number : ℕ) → IsWorld a now w → IsOwnHead a number → GoneSince begun w (number ∷ [])
  head_since now number world k = only_since begun w number (λ below prefix low epoch place.
      let t = world.index.tree.interiors number below prefix low (gone epoch) place in
      absurd (let clash : ◌≡◌ {A = Option PlainNode} (Some (plain_interior t.node)) (Some (plain_head (head_seen k.h))) = sym t.is_node ∙ seen-head a number k.h k.named in cc))

  closing_since : (now : ℕ) (layer : Layer) → IsWorld a now w → IsClosing layer a w → GoneSince begun w (layer_owns layer)
  closing_since now layer world k = both_since layer.above.0 _ (border_since now layer.above.0 k.above.border.b world k.above.border.named) (both_since layer.root.0 _ (border_since now layer.root.0 k.root.b world k.root.named) (head_since now layer.head.0 world k.head))

  two_since : (now one other : ℕ) (b c : BorderView) → IsWorld a now w → border_at a.nodes one ≡ Some b → border_at a.nodes other ≡ Some c → GoneSince begun w (one ∷ other ∷ [])
  two_since now one other b c world named there = both_since one _ (border_since now one b world named) (border_since now other c world there)

  left_since : (now : ℕ) (prefix : List ℕ) (u : Unlinking) → IsWorld a now w → HasLeft begun a w prefix u → GoneSince begun w (unlinking_owns u)
  left_since now prefix u world k = two_since now u.node.0 u.border.0 k.left.b k.unlinking.border.b world k.left.named k.unlinking.border.named

  over_since : (now : ℕ) (key : List ℕ) (way : Way) (layer : EmptyLayer) → IsWorld a now w → HasAbove begun key way layer a w → GoneSince begun w (layer.above.0 ∷ layer.root.0 ∷ [])
  over_since now key way layer world t = two_since now layer.above.0 layer.root.0 t.above.b t.root.border.b world t.above.named t.root.border.named

  stage_since : (now : ℕ) → IsWorld a now w → (key : List ℕ) (way : Way) (finding : Finding) (stage : Stage) → StageIsTrue begun key way finding stage a w → GoneSince begun w (stage_owns stage)
  stage_since now world key way finding (Seeks noted) t = λ number i. elim i [ ]
  stage_since now world key way finding (LooksAgain border head emptied glance) t = border_since now border.0 t.0.own.b world t.0.own.named
  stage_since now world key way finding (LooksRight border head emptied right) t = border_since now border.0 t.0.own.b world t.0.own.named
  stage_since now world key way finding (Locked border head parent) t = let ((posted, e, alive), known, held) = t in only_since begun w border.0 (border_no a now w border.0 e.b world e.named)
  stage_since now world key way finding (Dropped border head) t = only_since begun w border.0 (border_no a now w border.0 t.0.b world t.0.named)
  stage_since now world key way finding (Marked u) t = border_since now u.border.0 t.0.border.b world t.0.border.named
  stage_since now world key way finding (LeftLocked u) k = left_since now (prefix_of key way) u world k
  stage_since now world key way finding (LeftNames u) k = left_since now (prefix_of key way) u world k.0
  stage_since now world key way finding (LeftMissed u) k = left_since now (prefix_of key way) u world k
  stage_since now world key way finding (LeftWritten border left) t = let (g, l, apart) = t in two_since now left.0 border.0 l.b g.b world l.named g.named
  stage_since now world key way finding (Unlinked border) t = only_since begun w border.0 (border_no a now w border.0 t.b world t.named)
  stage_since now world key way finding (Lonely lone) t = λ number i. elim i [ ]
  stage_since now world key way finding (LoneLocked lone) t = only_since begun w lone.interior.0 (on_no begun w lone.interior.0 _ _ _ _ t.0.stands.place)
  stage_since now world key way finding (Bypassed interior rule) t = only_since begun w interior.0 (λ below prefix low epoch place. subst (λ (e : ℕ). begun ≤ e) (same_epoch t.level below t.low low t.epoch epoch t.prefix prefix (sym t.place ∙ place)) t.since)
    where
      same_epoch : (level below low other one two : ℕ) (prefix layer : List ℕ) → ◌≡◌ {A = Option Spot} (Some (spot (at_level level) prefix low (gone one))) (Some (spot (at_level (suc below)) layer other (gone two))) → one ≡ two
      same_epoch level below low other one two prefix layer e = cc
  stage_since now world key way finding (RootLocked layer) t = border_since now layer.root.0 t.border.b world t.border.named
  stage_since now world key way finding (AboveLocked layer) t = over_since now key way layer world t
  stage_since now world key way finding (AboveBounded layer) t = over_since now key way layer world t
  stage_since now world key way finding (AboveSearched layer order place at) t = over_since now key way layer world t.0
  stage_since now world key way finding (AboveFound layer slot) t = over_since now key way (link_sought layer) world t.0
  stage_since now world key way finding (LinkFound layer) t = two_since now layer.above.0 layer.root.0 t.above.border.b t.root.b world t.above.border.named t.root.named
  stage_since now world key way finding (HeadMarked layer) k = closing_since now layer world k
  stage_since now world key way finding (RootMarked layer) k = closing_since now layer world k.0
  stage_since now world key way finding (LinkHidden layer) t = let (u, g, k) = t in both_since layer.above.0 _ (border_since now layer.above.0 u.b world u.named) (both_since layer.root.0 _ (border_since now layer.root.0 g.b world g.named) (head_since now layer.head.0 world k.head))
  stage_since now world key way finding (LayerGone root head) t = let (g, k) = t in both_since root.0 _ (border_since now root.0 g.b world g.named) (head_since now head.0 world k.head)
  stage_since now world key way finding (RootRetired head) k = head_since now head.0 world k.head
  stage_since now world key way finding (KeepsLayer above root) t = let (u, r, apart) = t in two_since now above.0 root.0 u.b r.b world u.named r.named
  stage_since now world key way finding (KeepsBorder border) t = only_since begun w border.0 (border_no a now w border.0 t.b world t.named)
  stage_since now world key way finding (KeepsInterior interior) t = only_since begun w interior.0 (on_no begun w interior.0 _ _ _ _ t.stands.place)

  pub tidy_since : (now : ℕ) → IsWorld a now w → (tidy : Tidy) → TidyIsTrue tidy begun a w → GoneSince begun w (tidy_held tidy).owns
  tidy_since now world tidy truth = stage_since now world tidy.key tidy.way tidy.finding tidy.stage truth
