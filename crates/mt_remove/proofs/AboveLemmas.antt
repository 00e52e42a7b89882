-- The steps that lock the border above an empty layer, and seek the link to the layer there.
use Rattle.std.proofs.Common.{ℕ, ◌≡◌, ◌≢◌, ◌<◌, ◌==◌, inl, inr, [], ◌∷◌, length, Option, Some, None, IsSome, Bool, true, false, if◌then◌else◌, refl, sym, ap, subst, ◌∙◌, arith}
use Rattle.std.specs.Prelude.{◌≤◌, ◌+◌, ◌-◌, ◌*◌, nat_le, nat_lt, slice_index, IsSomeAnd}
use Rattle.std.proofs.lemmas.Bool.{eqb-true, ltb-true}
use Rattle.mt_types.specs.declared.numbers.NodeNo.{NodeNo}
use Rattle.mt_slice.specs.Place.{slices_above, slice_number}
use Rattle.mt_word.specs.Slots.{Slots}
use Rattle.mt_word.specs.declared.permutation_word.TheConstants.{SLOTS}
use Rattle.mt_border.specs.Border.{BorderView, with_locked}
use Rattle.mt_border.specs.Order.{IsBorder}
use Rattle.mt_border.specs.Slots.{slot_at, key_at, order_in, order_shown}
use Rattle.mt_border.specs.declared.entry.Content.{Content}
use Rattle.mt_border.specs.declared.entry.Content.TheVariants.{Short, Long, Link}
use Rattle.mt_border.specs.declared.entry.Entry.{Entry}
use Rattle.mt_border.specs.declared.entry.RightLink.{RightLink}
use Rattle.mt_border.specs.declared.unwritten.Unwritten.{Unwritten}
use Rattle.std.proofs.lemmas.Option.{slice_get-get_or}
use Rattle.mt_border.specs.Table.{blank_slot}
use Rattle.mt_border.proofs.BorderLemmas.{unlocked_written}
use Rattle.mt_border.proofs.SlotLemmas.{live_count}
use Rattle.mt_border.proofs.TableLemmas.{live_below}
use Rattle.mt_tree.proofs.AgeLemmas.{ages_locked, entry_read}
use Rattle.mt_arena.specs.Node.{node_at, border_at}
use Rattle.mt_arena.specs.Arena.{ArenaView, with_border_changed}
use Rattle.mt_chart.specs.Tree.{first, later}
use Rattle.mt_chart.specs.Steps.{SameContent}
use Rattle.mt_chart.proofs.Entries.{among_cases}
use Rattle.mt_chart.proofs.HeldNodes.{border_is_on}
use Rattle.mt_tree.specs.Seen.{arena_seen, border_seen}
use Rattle.mt_tree.specs.Keeping.{KeepsTree, IsOnIn}
use Rattle.mt_tree.proofs.SeenLemmas.{seen-border}
use Rattle.mt_steps.specs.declared.progress.Progress.TheVariants.{Moved}
use Rattle.mt_steps.specs.World.{World, Goes}
use Rattle.mt_steps.proofs.BorderLemmas.{alive_changed, keys_same, now_named, goes_border, unlocked_free, unlocked_root, on_kept}
use Rattle.mt_steps.proofs.NodeLemmas.{known_some}
use Rattle.mt_remove.specs.declared.stage.EmptyLayer.{EmptyLayer}
use Rattle.mt_remove.specs.declared.stage.Layer.{Layer}
use Rattle.mt_remove.specs.declared.stage.Stage.{Stage}
use Rattle.mt_remove.specs.declared.stage.Stage.TheVariants.{RootLocked, AboveLocked, AboveBounded, AboveSearched, AboveFound, LinkFound, KeepsLayer, KeepsBorder}
use Rattle.mt_remove.specs.declared.tidy.Tidy.{Tidy}
use Rattle.mt_remove.specs.Seen.{is_free_border, leads_below, link_of}
use Rattle.mt_remove.specs.Above.{gives_up, bound_stage, found_stage, place_noted, searched, link_stage}
use Rattle.mt_remove.specs.Tidy.{StageIsTrue, MayTidy, stage_owns}
use Rattle.mt_remove.specs.Locked.{HasAbove, AtIsPlace, link_sought}
use Rattle.mt_remove.specs.Follows.{rest_above, LocksAbove, StageWaits, then_retired, Follows, TidyStep}
use Rattle.mt_remove.proofs.StageLemmas.{at_stage, true_at, law_same, holds_known, known_there, IsSeenBorder, border_named, free_seen, some_by}
use Rattle.mt_remove.proofs.LayerFacts.{root_locked, above_locked, same_border, root_beside}

-- ---- the border above is locked
module _ (epoch : ℕ) (a : ArenaView) (tidy : Tidy) (layer : EmptyLayer) (is : tidy.stage ≡ RootLocked layer) where
  abbrev n : ℕ
  n = layer.above.0

  pub above_there : MayTidy epoch a tidy → IsSome (node_at a.nodes n)
  above_there may = let t = true_at epoch a tidy (RootLocked layer) is may in let (upper, deeper, known) = t.known in known_there a epoch may.begun may.w n (slices_above upper tidy.key) may.world known

  -- it is marked deleted, or another call has locked it
  pub not_free : IsSomeAnd (node_at a.nodes n) (λ node. false ≡ is_free_border node) → TidyStep epoch a a tidy Moved (record tidy { stage = KeepsBorder layer.root })
  not_free other = at_stage epoch a a tidy (RootLocked layer) Moved (record tidy { stage = KeepsBorder layer.root }) is refl refl
      (law_same epoch a tidy (RootLocked layer) Moved (record tidy { stage = KeepsBorder layer.root }) refl (λ begun w world t. root_locked a w layer.root.0 t.border t.alive t.free)) tt tt
      (some_by (node_at a.nodes n) _ _ (λ node e. subst (λ (x : Bool). LocksAbove tidy layer x Moved (record tidy { stage = KeepsBorder layer.root })) e (refl, refl)) other)

  module _ (free : IsSomeAnd (node_at a.nodes n) (λ node. true ≡ is_free_border node)) where
    seen : IsSeenBorder (node_at a.nodes n)
    seen = free_seen (node_at a.nodes n) free

    abbrev b : BorderView
    b = seen.b

    b_named : border_at a.nodes n ≡ Some b
    b_named = border_named a n seen

    abbrev lock : BorderView → BorderView
    lock x = with_locked x

    abbrev new : ArenaView
    new = with_border_changed a n lock

    pub free_unlocked : IsSomeAnd (border_at a.nodes n) (λ x. x.version.locked ≡ false)
    free_unlocked = subst (λ (o : Option BorderView). IsSomeAnd o (λ x. x.version.locked ≡ false)) (sym b_named) seen.unlocked

    pub locks_above : (after : ArenaView) → IsSomeAnd (border_at a.nodes n) IsBorder → after ≡ new → KeepsTree a after → TidyStep epoch a after tidy Moved (record tidy { stage = AboveLocked layer })
    unfolding root_beside
    locks_above after whole value keeps = at_stage epoch a after tidy (RootLocked layer) Moved (record tidy { stage = AboveLocked layer }) is refl (ap (λ (x : ArenaView). x.retired) value) (record {
      reads = tt;
      steps = λ begun w world before t.
          let (upper, deeper, known) = t.known in
          let (on_border, low) = border_is_on (arena_seen a) w.chart world.index.tree begun n known.low (slices_above upper tidy.key) (border_seen b) (holds_known begun w n (slices_above upper tidy.key) known) (seen-border a n b b_named) seen.alive in
          let sound : IsBorder b = subst (λ (o : Option BorderView). IsSomeAnd o IsBorder) b_named whole in
          let stands : IsOnIn w.chart n (slices_above upper tidy.key) = record { low = b.low; posted = on_border.posted; place = on_border.place } in
          let differ : layer.root.0 ≢ n = λ e. clash_locked t.border.b t.border.locked (ap (λ (m : ℕ). border_at a.nodes m) (sym e) ∙ t.border.named) in
          let kept = (subst (λ (x : ArenaView). KeepsTree a x) value keeps).keeps epoch w.twins w.chart world.index in
          let Then : ArenaView → World → Type 0 = λ x next. HasAbove begun tidy.key tidy.way layer x next in
          subst (λ (x : ArenaView). Goes epoch a x w (layer.root.0 ∷ []) (n ∷ layer.root.0 ∷ []) (Then x) × SameContent (arena_seen a) (arena_seen x)) (sym value) (
            goes_border a n b lock b_named epoch w (layer.root.0 ∷ []) (n ∷ layer.root.0 ∷ []) (Then new) world (λ known. (ages_locked b, inr refl)) kept.index (keys_same a new kept.content world.keys)
                (unlocked_free a n b lock b_named w (layer.root.0 ∷ []) seen.unlocked (known_some w n _ stands.place))
                (λ other i. elim (among_cases other n (layer.root.0 ∷ []) i) [ inl e ↦ inr e | inr j ↦ inl j ]) (λ other ne i. later i) (λ locked. first)
                (on_kept a epoch w.chart n _ _ _ _ stands.place world.retired, λ i. refl, alive_changed a n b lock b_named w.chart (inl refl)) (record {
                  root = record {
                    border = root_beside a w w n layer.root.0 b lock b_named differ refl t.border;
                    alive = t.alive;
                    free = t.free;
                    headed = t.headed;
                    within = t.within;
                    known = t.known;
                  };
                  above = record { b = lock b; named = now_named a n b lock b_named; locked = refl; alive = seen.alive; written = unlocked_written b sound seen.unlocked; prefix = slices_above upper tidy.key; stands = stands; free = unlocked_root a w.closing w.chart n b b_named seen.unlocked world.heads };
                  apart = λ e. differ (sym e);
                }),
            kept.content,
          );
    }) tt tt (some_by (node_at a.nodes n) _ _ (λ node e. subst (λ (x : Bool). LocksAbove tidy layer x Moved (record tidy { stage = AboveLocked layer })) e (refl, refl)) free)
      where
        clash_locked : (x : BorderView) → x.version.locked ≡ true → border_at a.nodes n ≡ Some x → ⊥
        clash_locked x locked named =
            let same = same_border a n b x b_named named in
            let clash : false ≡ true = sym seen.unlocked ∙ (ap (λ (y : BorderView). y.version.locked) same ∙ locked) in
            cc

-- ---- once it is locked
module _ (epoch : ℕ) (a : ArenaView) (tidy : Tidy) where
  abbrev slice : ℕ
  slice = slice_number (rest_above tidy)

  abbrev Truth : ℕ → World → Stage → Type 0
  Truth begun w stage = StageIsTrue begun tidy.key tidy.way tidy.finding stage a w

  -- it gives up
  keeps_both : (begun : ℕ) (w : World) (layer : EmptyLayer) → HasAbove begun tidy.key tidy.way layer a w → Truth begun w (gives_up layer)
  keeps_both begun w layer has = (above_locked a w layer.above.0 has.above, root_locked a w layer.root.0 has.root.border has.root.alive has.root.free, has.apart)

  above_named : (begun : ℕ) (w : World) (layer : EmptyLayer) → HasAbove begun tidy.key tidy.way layer a w → IsSome (border_at a.nodes layer.above.0)
  above_named begun w layer has = subst (λ (o : Option BorderView). IsSome o) (sym has.above.named) refl

  above_1 : (begun : ℕ) (w : World) (layer : EmptyLayer) → HasAbove begun tidy.key tidy.way layer a w → 0 < tidy.way.layer
  above_1 begun w layer has = let (upper, is, known) = has.root.known in omega (arith, is)

  above_within : (begun : ℕ) (w : World) (layer : EmptyLayer) → HasAbove begun tidy.key tidy.way layer a w → 8 * (tidy.way.layer - 1) ≤ length tidy.key
  above_within begun w layer has = let within = has.root.within in omega (arith, within)

  -- a step that only reads, from a stage at which it owns both to another
  reads_so : (layer : EmptyLayer) (stage to : Stage) → tidy.stage ≡ stage → stage_owns stage ≡ layer.above.0 ∷ layer.root.0 ∷ [] → stage_owns to ≡ layer.above.0 ∷ layer.root.0 ∷ [] → ((begun : ℕ) (w : World) → Truth begun w stage → Truth begun w to) → StageWaits a tidy stage Moved
      → a.retired ≡ then_retired epoch stage a.retired → Follows a tidy stage Moved (record tidy { stage = to }) → TidyStep epoch a a tidy Moved (record tidy { stage = to })
  reads_so layer stage to is owned owns goes waits retires follows = at_stage epoch a a tidy stage Moved (record tidy { stage = to }) is refl retires
      (law_same epoch a tidy stage Moved (record tidy { stage = to }) (owned ∙ sym owns) (λ begun w world t. goes begun w t)) tt waits follows

  -- what is read of a border there
  read_so : (number : ℕ) (P Q : BorderView → Type 0) → IsSomeAnd (border_at a.nodes number) P → ((b : BorderView) → P b → Q b) → IsSomeAnd (border_at a.nodes number) Q
  read_so number P Q read so = some_by (border_at a.nodes number) P Q so read

  of_above : (P : BorderView → Type 0) (number : ℕ) (b : BorderView) → border_at a.nodes number ≡ Some b → IsSomeAnd (border_at a.nodes number) P → P b
  of_above P number b named read = subst (λ (o : Option BorderView). IsSomeAnd o P) named read

  -- ---- its right link
  module _ (layer : EmptyLayer) (is : tidy.stage ≡ AboveLocked layer) where
    pub bound_there : MayTidy epoch a tidy → IsSome (border_at a.nodes layer.above.0)
    bound_there may = above_named may.begun may.w layer (true_at epoch a tidy (AboveLocked layer) is may)

    pub bound_below : MayTidy epoch a tidy → 0 < tidy.way.layer
    bound_below may = above_1 may.begun may.w layer (true_at epoch a tidy (AboveLocked layer) is may)

    pub bound_within : MayTidy epoch a tidy → 8 * (tidy.way.layer - 1) ≤ length tidy.key
    bound_within may = above_within may.begun may.w layer (true_at epoch a tidy (AboveLocked layer) is may)

    bound_owns : (right : Option RightLink) → stage_owns (bound_stage slice layer right) ≡ layer.above.0 ∷ layer.root.0 ∷ []
    bound_owns None = refl
    bound_owns (Some link) = go (nat_le link.low slice)
      where
        go : (c : Bool) → stage_owns (if c then gives_up layer else AboveBounded layer) ≡ layer.above.0 ∷ layer.root.0 ∷ []
        go true = refl
        go false = refl

    bound_true : (begun : ℕ) (w : World) → HasAbove begun tidy.key tidy.way layer a w → (right : Option RightLink) → Truth begun w (bound_stage slice layer right)
    bound_true begun w has None = has
    bound_true begun w has (Some link) = go (nat_le link.low slice)
      where
        go : (c : Bool) → Truth begun w (if c then gives_up layer else AboveBounded layer)
        go true = keeps_both begun w layer has
        go false = has

    pub bounds : (right : Option RightLink) → IsSomeAnd (border_at a.nodes layer.above.0) (λ b. right ≡ b.right) → (to : Stage) → to ≡ bound_stage slice layer right → TidyStep epoch a a tidy Moved (record tidy { stage = to })
    bounds right read to to_is = subst (λ (s : Stage). TidyStep epoch a a tidy Moved (record tidy { stage = s })) (sym to_is)
        (reads_so layer (AboveLocked layer) (bound_stage slice layer right) is refl (bound_owns right) (λ begun w has. bound_true begun w has right) tt refl
        (read_so layer.above.0 _ _ read (λ b e. (refl, ap (λ (r : Option RightLink). record tidy { stage = bound_stage slice layer r }) e))))

  -- ---- its order and its keys
  searched_owns : (layer : EmptyLayer) (order : Slots) (place : ℕ) (at : Option ℕ) → stage_owns (searched layer order place at) ≡ layer.above.0 ∷ layer.root.0 ∷ []
  searched_owns layer order place at = go (nat_lt place (length order.live)) at
    where
      go : (c : Bool) (at : Option ℕ) → stage_owns (if c then AboveSearched layer order place at else found_stage layer order at) ≡ layer.above.0 ∷ layer.root.0 ∷ []
      go true at = refl
      go false None = refl
      go false (Some there) = refl

  searched_true : (begun : ℕ) (w : World) (layer : EmptyLayer) (has : HasAbove begun tidy.key tidy.way layer a w) → IsBorder has.above.b → (order : Slots) → order ≡ has.above.b.order → (place : ℕ) (at : Option ℕ) → AtIsPlace at order → Truth begun w (searched layer order place at)
  searched_true begun w layer has sound order order_is place at is_place = go (nat_lt place (length order.live)) refl at is_place
    where
      few : length order.live ≤ SLOTS
      few = let together = sound.slots in let count = live_count has.above.b.live has.above.b.unused has.above.b.slots has.above.b.order sound.seen in let same = ap (λ (s : Slots). length s.live) order_is in omega (arith, together, count, same)

      go : (c : Bool) → nat_lt place (length order.live) ≡ c → (at : Option ℕ) → AtIsPlace at order → Truth begun w (if c then AboveSearched layer order place at else found_stage layer order at)
      go true is at is_place = (has, order_is, (ltb-true place (length order.live) is, few), is_place)
      go false is None is_place = keeps_both begun w layer has
      go false is (Some there) is_place =
          let inside : there < length has.above.b.order.live = subst (λ (s : Slots). there < length s.live) order_is is_place in
          (record { root = has.root; above = has.above; apart = has.apart }, inside, ap (λ (s : Slots). slice_index s.live there) order_is, subst (λ (s : Slots). slice_index s.live there < SLOTS) (sym order_is) (live_below has.above.b.order there sound.seen.table.arranged inside))

  module _ (layer : EmptyLayer) (is : tidy.stage ≡ AboveBounded layer) where
    pub order_there : MayTidy epoch a tidy → IsSome (border_at a.nodes layer.above.0)
    order_there may = above_named may.begun may.w layer (true_at epoch a tidy (AboveBounded layer) is may)

    pub orders : (order : Slots) → IsSomeAnd (border_at a.nodes layer.above.0) (λ b. IsBorder b × (order ≡ order_shown b)) → (to : Stage) → to ≡ searched layer order 0 None → TidyStep epoch a a tidy Moved (record tidy { stage = to })
    orders order read to to_is = subst (λ (s : Stage). TidyStep epoch a a tidy Moved (record tidy { stage = s })) (sym to_is)
        (reads_so layer (AboveBounded layer) (searched layer order 0 None) is refl (searched_owns layer order 0 None) (λ begun w has.
        let (sound, shown) = of_above (λ b. IsBorder b × (order ≡ order_shown b)) layer.above.0 has.above.b has.above.named read in
        searched_true begun w layer has sound order (shown ∙ ap (λ (u : Unwritten). order_in u has.above.b.order) has.above.written) 0 None tt) tt refl
        (read_so layer.above.0 _ _ read (λ b e. (refl, ap (λ (o : Slots). record tidy { stage = searched layer o 0 None }) e.1))))

  module _ (layer : EmptyLayer) (order : Slots) (place : ℕ) (at : Option ℕ) (is : tidy.stage ≡ AboveSearched layer order place at) where
    pub search_there : MayTidy epoch a tidy → IsSome (border_at a.nodes layer.above.0)
    search_there may = above_named may.begun may.w layer (true_at epoch a tidy (AboveSearched layer order place at) is may).0

    pub search_below : MayTidy epoch a tidy → 0 < tidy.way.layer
    search_below may = above_1 may.begun may.w layer (true_at epoch a tidy (AboveSearched layer order place at) is may).0

    pub search_within : MayTidy epoch a tidy → 8 * (tidy.way.layer - 1) ≤ length tidy.key
    search_within may = above_within may.begun may.w layer (true_at epoch a tidy (AboveSearched layer order place at) is may).0

    pub search_place : MayTidy epoch a tidy → place < length order.live
    search_place may = let (has, order_is, within, is_place) = true_at epoch a tidy (AboveSearched layer order place at) is may in within.0

    noted_is : (is_it : Bool) → place < length order.live → AtIsPlace at order → AtIsPlace (place_noted is_it place at) order
    noted_is true within is_place = within
    noted_is false within is_place = is_place

    pub search_at : MayTidy epoch a tidy → (is_it : Bool) (noted : Option ℕ) → noted ≡ place_noted is_it place at → AtIsPlace noted order
    search_at may is_it noted noted_so = let (has, order_is, within, is_place) = true_at epoch a tidy (AboveSearched layer order place at) is may in subst (λ (o : Option ℕ). AtIsPlace o order) (sym noted_so) (noted_is is_it within.0 is_place)

    pub searches : (from : ℕ) → from ≡ slice → (slot : ℕ) → slot ≡ slice_index order.live place → (is_it : Bool) → IsSomeAnd (border_at a.nodes layer.above.0) (λ b. IsBorder b × (is_it ≡ leads_below from (key_at b slot))) → (noted : Option ℕ) → noted ≡ place_noted is_it place at
        → (to : Stage) → to ≡ searched layer order (place + 1) noted → TidyStep epoch a a tidy Moved (record tidy { stage = to })
    searches from from_is slot slot_is is_it read noted noted_so to to_is = subst (λ (s : Stage). TidyStep epoch a a tidy Moved (record tidy { stage = s })) (sym (to_is ∙ ap (λ (o : Option ℕ). searched layer order (place + 1) o) noted_so))
        (reads_so layer (AboveSearched layer order place at) (searched layer order (place + 1) (place_noted is_it place at)) is refl (searched_owns layer order (place + 1) (place_noted is_it place at)) (λ begun w t.
        let (has, order_is, within, is_place) = t in
        let sound : IsBorder has.above.b = (of_above (λ b. IsBorder b × (is_it ≡ leads_below from (key_at b slot))) layer.above.0 has.above.b has.above.named read).0 in
        searched_true begun w layer has sound order order_is (place + 1) (place_noted is_it place at) (noted_is is_it within.0 is_place)) tt refl
        (read_so layer.above.0 _ _ read (λ b e. (refl, ap (λ (c : Bool). record tidy { stage = searched layer order (place + 1) (place_noted c place at) }) (e.1 ∙ (ap (λ (s : ℕ). leads_below s (key_at b slot)) from_is ∙ ap (λ (n : ℕ). leads_below slice (key_at b n)) slot_is))))))

  -- ---- the value of its slot
  module _ (layer : Layer) (slot : ℕ) (is : tidy.stage ≡ AboveFound layer slot) where
    pub find_there : MayTidy epoch a tidy → IsSome (border_at a.nodes layer.above.0)
    find_there may = above_named may.begun may.w (link_sought layer) (true_at epoch a tidy (AboveFound layer slot) is may).0

    pub find_slot : MayTidy epoch a tidy → slot < SLOTS
    find_slot may = let (has, within, slot_is, few) = true_at epoch a tidy (AboveFound layer slot) is may in few

    found_owns : (link : Option NodeNo) → stage_owns (link_stage layer link) ≡ layer.above.0 ∷ layer.root.0 ∷ []
    found_owns None = refl
    found_owns (Some head) = go (head.0 == layer.head.0)
      where
        go : (c : Bool) → stage_owns (if c then LinkFound layer else KeepsLayer layer.above layer.root) ≡ layer.above.0 ∷ layer.root.0 ∷ []
        go true = refl
        go false = refl

    link_is : (content : Content) (head : NodeNo) → link_of content ≡ Some head → content ≡ Link head
    link_is (Short bytes row) head e = absurd (cc)
    link_is (Long suffix row) head e = absurd (cc)
    link_is (Link own) head e = ap Link (let same : own ≡ head = cc in same)

    same_head : (one other : NodeNo) → (one.0 == other.0) ≡ true → one ≡ other
    same_head one other e = ap (λ (n : ℕ). record { 0 = n }) (eqb-true one.0 other.0 e)

    found_true : (begun : ℕ) (w : World) → Truth begun w (AboveFound layer slot) → (link : Option NodeNo) → IsSomeAnd (border_at a.nodes layer.above.0) (λ b. IsBorder b × (link ≡ link_of (slot_at b slot).entry.content)) → Truth begun w (link_stage layer link)
    found_true begun w (has, within, slot_is, few) None read = keeps_both begun w (link_sought layer) has
    found_true begun w (has, within, slot_is, few) (Some head) read = go (head.0 == layer.head.0) refl
      where
        go : (c : Bool) → (head.0 == layer.head.0) ≡ c → Truth begun w (if c then LinkFound layer else KeepsLayer layer.above layer.root)
        go false differ = keeps_both begun w (link_sought layer) has
        go true same =
            let b = has.above.b in
            let (sound, told) = of_above (λ x. IsBorder x × (Some head ≡ link_of (slot_at x slot).entry.content)) layer.above.0 b has.above.named read in
            let entry : Entry = (slot_at b slot).entry in
            let content : entry.content ≡ Link layer.head = link_is entry.content head (sym told) ∙ ap Link (same_head head layer.head same) in
            let inside : layer.place < length b.live = omega (arith, within, live_count b.live b.unused b.slots b.order sound.seen) in
            record {
              root = has.root.border;
              alive = has.root.alive;
              free = has.root.free;
              headed = has.root.headed;
              above = record {
                border = has.above;
                slice = entry.slice;
                linked = slice_get-get_or b.live layer.place blank_slot.entry inside ∙ (ap Some (entry_read b sound layer.place inside ∙ ap (λ (n : ℕ). (slot_at b n).entry) (sym slot_is)) ∙ λ i. Some (record { slice = entry.slice; content = content i }));
              };
            }

    pub finds : (link : Option NodeNo) → IsSomeAnd (border_at a.nodes layer.above.0) (λ b. IsBorder b × (link ≡ link_of (slot_at b slot).entry.content)) → (to : Stage) → to ≡ link_stage layer link → TidyStep epoch a a tidy Moved (record tidy { stage = to })
    finds link read to to_is = subst (λ (s : Stage). TidyStep epoch a a tidy Moved (record tidy { stage = s })) (sym to_is)
        (reads_so (link_sought layer) (AboveFound layer slot) (link_stage layer link) is refl (found_owns link) (λ begun w t. found_true begun w t link read) tt refl
        (read_so layer.above.0 _ _ read (λ b e. (refl, ap (λ (o : Option NodeNo). record tidy { stage = link_stage layer o }) e.1))))
