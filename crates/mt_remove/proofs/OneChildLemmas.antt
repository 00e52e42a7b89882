-- The steps that bypass an interior with one child, and retire it.
use Rattle.std.proofs.Common.{ℕ, ◌≡◌, ◌≢◌, ◌<◌, ◌≤◌, ◌⊎◌, inl, inr, List, [], ◌∷◌, length, slice_get, Option, Some, None, IsSome, Bool, true, false, refl, sym, ap, subst, ◌∙◌, arith}
use Rattle.std.specs.Prelude.{IsSomeAnd}
use Rattle.std.specs.Option.{option_and_then}
use Rattle.mt_types.specs.declared.numbers.NodeNo.{NodeNo}
use Rattle.mt_types.specs.declared.event.Answer.TheVariants.{Tidied}
use Rattle.mt_types.specs.declared.event.TidyRule.{TidyRule}
use Rattle.mt_types.specs.declared.event.TidyRule.TheVariants.{Nothing as NoRule, LoneChild as ChildRule, LoneRootChild as RootRule}
use Rattle.mt_interior.specs.Head.{HeadView, with_root}
use Rattle.mt_interior.specs.Interior.{InteriorView, with_lock, with_deleted, with_bypass}
use Rattle.mt_interior.specs.declared.child.Child.{Child}
use Rattle.mt_arena.specs.Node.{node_at, head_at, head_of, interior_at, interior_of, border_of, Updates}
use Rattle.mt_arena.specs.Arena.{ArenaView, with_interior_changed, with_head_changed, with_retired}
use Rattle.mt_arena.specs.declared.node.Node.{Node}
use Rattle.mt_arena.specs.declared.node.Node.TheVariants.{Head}
use Rattle.mt_arena.proofs.NodeLemmas.{updates-with_node, node-from_head, node-from_interior}
use Rattle.mt_chart.specs.Tree.{first}
use Rattle.mt_chart.specs.Chart.{Role, top, at_level, Standing, on, gone, Spot, spot, Chart, OnHead}
use Rattle.mt_chart.specs.Steps.{SameContent, Keeps}
use Rattle.mt_chart.proofs.Basics.{same_number}
use Rattle.mt_chart.proofs.Entries.{among_cases}
use Rattle.mt_chart.proofs.HeldNodes.{evolves_same}
use Rattle.mt_tree.specs.Seen.{arena_seen, child_seen}
use Rattle.mt_tree.specs.Keeping.{KeepsTree, KeepsWhere, KeepsAlong}
use Rattle.mt_tree.specs.InteriorSteps.{child_at, IsInLayer, IsNotGone, BypassesAt}
use Rattle.mt_tree.specs.HeadSteps.{BypassesRootAt}
use Rattle.mt_tree.proofs.SeenLemmas.{changed-head}
use Rattle.mt_tree.proofs.InteriorPlaces.{is_on_as}
use Rattle.mt_tree.proofs.ChildLists.{among_read}
use Rattle.mt_steps.specs.declared.progress.Progress.TheVariants.{Moved, Answered}
use Rattle.mt_steps.specs.World.{World, IsWorld, HeadsStand, IsTaken, IsLocked, NotRetired, Goes}
use Rattle.mt_steps.specs.Way.{prefix_of, IsHeadOf}
use Rattle.mt_steps.proofs.FoundLemmas.{some_at}
use Rattle.mt_steps.proofs.LayerLemmas.{content_twice}
use Rattle.mt_steps.proofs.SplitLemmas.{with_spot, spot_changes}
use Rattle.mt_steps.proofs.AliveLemmas.{alive_node, alive_gone, alive_there, alive_placed}
use Rattle.mt_steps.proofs.AgingLemmas.{age_beside}
use Rattle.mt_steps.proofs.BorderLemmas.{known_stays, no_interior, no_root, roots_kept, on_kept}
use Rattle.mt_steps.proofs.NodeLemmas.{at_chart, goes_kept, goes_at, goes_beside, twins_lone, heads_beside, heads_were, interior_now, interior_others, interior_no_head, interior_no_border, interior_alive, interior_taken, interior_is_taken, alive_free, not_both, known_some, root_place, seen_on, head_there, free_no_twin, unlocked_no}
use Rattle.mt_steps.proofs.RetireLemmas.{goes_retired}
use Rattle.mt_remove.specs.declared.noted.Namer.{Namer}
use Rattle.mt_remove.specs.declared.noted.Namer.TheVariants.{Head as NamedByHead, Interior as NamedByInterior}
use Rattle.mt_remove.specs.declared.noted.OneChild.{OneChild}
use Rattle.mt_remove.specs.declared.tidy.Tidy.{Tidy}
use Rattle.mt_remove.specs.declared.stage.Stage.TheVariants.{Lonely, LoneLocked, Bypassed, KeepsInterior}
use Rattle.mt_remove.specs.Seen.{is_lone, place_in}
use Rattle.mt_remove.specs.Tidy.{StageLaw, MayTidy}
use Rattle.mt_remove.specs.Locked.{IsLoneInterior, IsGoneInterior}
use Rattle.mt_remove.specs.Known.{NamerIsKnown, IsKnownIn}
use Rattle.mt_remove.specs.Follows.{IsRootOf, LocksBy, BypassesBy, FollowsNamer, TidyStep}
use Rattle.mt_remove.proofs.StageLemmas.{at_stage, none_retired, true_at, law_same, holds_known, known_there, IsSeen, IsSeenLone, named_so, place_seen, lone_seen, some_by}

-- ---- it is locked
module _ (epoch : ℕ) (a : ArenaView) (tidy : Tidy) (lone : OneChild) (is : tidy.stage ≡ Lonely lone) where
  abbrev p : ℕ
  p = lone.interior.0

  abbrev lock : InteriorView → InteriorView
  lock x = with_lock x true

  pub lone_there : MayTidy epoch a tidy → IsSome (node_at a.nodes p)
  lone_there may = let (known, namer) = true_at epoch a tidy (Lonely lone) is may in known_there a epoch may.begun may.w p (prefix_of tidy.key tidy.way) may.world known

  -- it has not the one child that was noted
  pub ends : IsSomeAnd (node_at a.nodes p) (λ node. false ≡ is_lone node lone.child) → TidyStep epoch a a tidy (Answered (Tidied NoRule)) tidy
  ends other = at_stage epoch a a tidy (Lonely lone) (Answered (Tidied NoRule)) tidy is refl refl (law_same epoch a tidy (Lonely lone) (Answered (Tidied NoRule)) tidy refl (λ begun w world truth. tt)) tt tt
      (some_by (node_at a.nodes p) _ _ (λ node e. subst (λ (b : Bool). LocksBy tidy lone b (Answered (Tidied NoRule)) tidy) e refl) other)

  module _ (found : IsSomeAnd (node_at a.nodes p) (λ node. true ≡ is_lone node lone.child)) where
    has : IsSeenLone (node_at a.nodes p)
    has = lone_seen (node_at a.nodes p) lone.child found

    abbrev i : InteriorView
    i = has.seen.i

    i_named : interior_at a.nodes p ≡ Some i
    i_named = named_so a p has.seen

    pub may_lock : IsSomeAnd (interior_at a.nodes p) (λ x. x.version.locked ≡ false)
    may_lock = subst (λ (o : Option InteriorView). IsSomeAnd o (λ x. x.version.locked ≡ false)) (sym i_named) has.seen.unlocked

    abbrev new : ArenaView
    new = with_interior_changed a p lock

    locks_law : KeepsTree a new → StageLaw epoch a new tidy (Lonely lone) Moved (record tidy { stage = LoneLocked lone })
    locks_law keeps = record {
      reads = tt;
      steps = λ begun w world before truth.
          let (known, namer) = truth in
          let prefix = prefix_of tidy.key tidy.way in
          let stands = seen_on a w.chart begun p known.low prefix i world.index.tree (holds_known begun w p prefix known) i_named has.seen.alive has.seen.unlocked in
          let kept = keeps.keeps epoch w.twins w.chart world.index in
          let others = interior_others a p i lock i_named in
          let no_lock = unlocked_no a w.chart p i i_named has.seen.unlocked in
          let free : IsTaken a w p → ⊥ = λ taken. not_both i.version.locked (w.chart p) has.seen.unlocked (known_some w p _ stands.place) (interior_is_taken a p i w i_named taken) in
          goes_at epoch a new w w.chart p [] (p ∷ []) _ world (age_beside p (interior_no_border a p i lock i_named) others) kept refl (on_kept a epoch w.chart p _ _ _ _ stands.place world.retired) others (λ other out. refl)
          (heads_beside a new w.chart w.chart p (λ number q h. h) (interior_no_head a p i lock i_named) (interior_no_border a p i lock i_named) others world.heads)
          (alive_there a new w.chart p (interior_alive a p i lock i_named w.chart (inl refl)) others world.alive)
          no_lock (λ taken out. free taken)
          (λ other taken out k. elim (among_cases other p [] k) [ inl e ↦ free (subst (λ (m : ℕ). IsTaken a w m) e taken) | inr j ↦ out j ])
          (λ other k taken. elim k [ ]) (λ out taken. first) (
            record { i = lock i; named = interior_now a p i lock i_named; locked = refl; alive = has.seen.alive; stands = stands; apart = free_no_twin a w.chart w.twins p no_lock world.twins; one = has.one },
            namer,
          );
    }

    pub locks : (after : ArenaView) → after ≡ new → KeepsTree a after → TidyStep epoch a after tidy Moved (record tidy { stage = LoneLocked lone })
    locks after value keeps = at_stage epoch a after tidy (Lonely lone) Moved (record tidy { stage = LoneLocked lone }) is refl (ap (λ (x : ArenaView). x.retired) value)
        (subst (λ (x : ArenaView). StageLaw epoch a x tidy (Lonely lone) Moved (record tidy { stage = LoneLocked lone })) (sym value) (locks_law (subst (λ (x : ArenaView). KeepsTree a x) value keeps))) tt tt
        (some_by (node_at a.nodes p) _ _ (λ node e. subst (λ (b : Bool). LocksBy tidy lone b Moved (record tidy { stage = LoneLocked lone })) e (refl, refl)) found)

-- ---- it is bypassed
first_is : (children : List Child) → length children ≡ 1 → (child : Child) × (slice_get children 0 ≡ Some child)
first_is [] one = absurd (let clash : 0 ≡ 1 = one in omega (arith, clash))
first_is (child ∷ children) one = (child, refl)

module _ (epoch : ℕ) (a : ArenaView) (tidy : Tidy) (lone : OneChild) (is : tidy.stage ≡ LoneLocked lone) where
  abbrev q : ℕ
  q = lone.interior.0

  -- what named it does so no more
  gives_law : StageLaw epoch a a tidy (LoneLocked lone) Moved (record tidy { stage = KeepsInterior lone.interior })
  gives_law = law_same epoch a tidy (LoneLocked lone) Moved (record tidy { stage = KeepsInterior lone.interior }) refl (λ begun w world truth. truth.0)

  -- what is known once it is bypassed
  gone_so : (begun : ℕ) (new : ArenaView) (w : World) (chart : Chart) → IsWorld a epoch w → begun ≤ epoch → new.retired ≡ a.retired → (l : IsLoneInterior a w q (prefix_of tidy.key tidy.way)) → interior_at new.nodes q ≡ Some l.i
      → chart q ≡ Some (spot (at_level l.stands.level) (prefix_of tidy.key tidy.way) l.stands.low (gone epoch)) → IsGoneInterior begun new (at_chart w chart) q
  gone_so begun _ w chart world before same l named place = record {
    i = l.i;
    named = named;
    locked = l.locked;
    level = l.stands.level;
    prefix = prefix_of tidy.key tidy.way;
    low = l.stands.low;
    epoch = epoch;
    place = place;
    since = before;
    apart = l.apart;
    kept = subst (λ r. NotRetired r q) (sym same) (on_kept a epoch w.chart q _ _ _ _ l.stands.place world.retired);
  }

  -- ---- by an interior
  module _ (parent : NodeNo) (by : lone.namer ≡ NamedByInterior parent) where
    abbrev m : ℕ
    m = parent.0

    known_parent : (begun : ℕ) (w : World) → NamerIsKnown begun (prefix_of tidy.key tidy.way) w lone.namer → IsKnownIn w begun m (prefix_of tidy.key tidy.way)
    known_parent begun w namer = subst (λ (n : Namer). NamerIsKnown begun (prefix_of tidy.key tidy.way) w n) by namer

    pub parent_there : MayTidy epoch a tidy → IsSome (node_at a.nodes m)
    parent_there may = let (l, namer) = true_at epoch a tidy (LoneLocked lone) is may in known_there a epoch may.begun may.w m (prefix_of tidy.key tidy.way) may.world (known_parent may.begun may.w namer)

    pub gives_up : IsSomeAnd (node_at a.nodes m) (λ node. None ≡ place_in node lone.interior) → TidyStep epoch a a tidy Moved (record tidy { stage = KeepsInterior lone.interior })
    gives_up none = at_stage epoch a a tidy (LoneLocked lone) Moved (record tidy { stage = KeepsInterior lone.interior }) is refl refl gives_law tt tt
        (subst (λ (n : Namer). FollowsNamer a tidy lone.interior n Moved (record tidy { stage = KeepsInterior lone.interior })) (sym by)
        (some_by (node_at a.nodes m) _ _ (λ node e. subst (λ (o : Option ℕ). BypassesBy tidy lone.interior o Moved (record tidy { stage = KeepsInterior lone.interior })) e (refl, refl)) none))

    module _ (place : ℕ) (found : IsSomeAnd (node_at a.nodes m) (λ node. Some place ≡ place_in node lone.interior)) (named : IsSomeAnd (child_at a.nodes m place) (λ there. there.node ≡ lone.interior)) where
      seen : IsSeen (node_at a.nodes m)
      seen = place_seen (node_at a.nodes m) lone.interior place found

      abbrev j : InteriorView
      j = seen.i

      j_named : interior_at a.nodes m ≡ Some j
      j_named = named_so a m seen

      stands_so : (begun : ℕ) (w : World) → IsWorld a epoch w → NamerIsKnown begun (prefix_of tidy.key tidy.way) w lone.namer → IsInLayer w.chart m (prefix_of tidy.key tidy.way)
      stands_so begun w world namer =
          let k = known_parent begun w namer in
          seen_on a w.chart begun m k.low (prefix_of tidy.key tidy.way) j world.index.tree (holds_known begun w m (prefix_of tidy.key tidy.way) k) j_named seen.alive seen.unlocked

      -- the interior's child is of a lower level than its namer
      lower_so : (w : World) (prefix : List ℕ) (child there : Child) → IsWorld a epoch w → (l : IsLoneInterior a w q prefix) → IsInLayer w.chart m prefix → slice_get l.i.children 0 ≡ Some child → slice_get j.children place ≡ Some there → there.node ≡ lone.interior → child.level < j.level
      lower_so w prefix child there world l stands read read_there same =
          let low = is_on_as a q l.i l.named epoch w.twins w.chart world.index prefix l.stands in
          let high = is_on_as a m j j_named epoch w.twins w.chart world.index prefix stands in
          let one = low.children.each (child_seen child) (among_read l.i.children 0 child read) in
          let two = high.children.each (child_seen there) (among_read j.children place there read_there) in
          let at : w.chart q ≡ Some (spot (at_level there.level) prefix there.low two.standing) = ap (λ (x : NodeNo). w.chart x.0) (sym same) ∙ two.place in
          let level : l.stands.level ≡ there.level = level_is l.stands.level there.level prefix l.stands.low there.low (on l.stands.posted) two.standing (sym l.stands.place ∙ at) in
          let a_level = low.is_level in
          let b_level = high.node_level in
          let less = one.lower in
          let less_too = two.lower in
          omega (arith, level, a_level, b_level, less, less_too)
        where
          level_is : (x y : ℕ) (prefix : List ℕ) (low other : ℕ) (one two : Standing) → ◌≡◌ {A = Option Spot} (Some (spot (at_level x) prefix low one)) (Some (spot (at_level y) prefix other two)) → x ≡ y
          level_is x y prefix low other one two e = cc

      pub may_bypass : MayTidy epoch a tidy → IsSomeAnd (child_at a.nodes q 0) (λ child. IsSomeAnd (interior_at a.nodes m) (λ x. child.level < x.level))
      may_bypass may =
          let (l, namer) = true_at epoch a tidy (LoneLocked lone) is may in
          let prefix = prefix_of tidy.key tidy.way in
          let (child, read) = first_is l.i.children l.one in
          let at : child_at a.nodes q 0 ≡ Some child = ap (option_and_then (λ (x : InteriorView). slice_get x.children 0)) l.named ∙ read in
          subst (λ (o : Option Child). IsSomeAnd o (λ c. IsSomeAnd (interior_at a.nodes m) (λ x. c.level < x.level))) (sym at)
          (subst (λ (o : Option InteriorView). IsSomeAnd o (λ x. child.level < x.level)) (sym j_named) (go (child_at a.nodes m place) refl named may.w prefix child may.world l (stands_so may.begun may.w may.world namer) read))
        where
          go : (o : Option Child) → child_at a.nodes m place ≡ o → IsSomeAnd o (λ there. there.node ≡ lone.interior) → (w : World) (prefix : List ℕ) (child : Child) → IsWorld a epoch w → (l : IsLoneInterior a w q prefix) → IsInLayer w.chart m prefix → slice_get l.i.children 0 ≡ Some child → child.level < j.level
          go None at same w prefix child world l stands read = absurd same
          go (Some there) at same w prefix child world l stands read = lower_so w prefix child there world l stands read (sym (ap (option_and_then (λ (x : InteriorView). slice_get x.children place)) j_named) ∙ at) same

      bypass_law : (change : InteriorView → InteriorView) → KeepsAlong a (with_interior_changed a m change) (BypassesAt m q) → (change j).version.locked ≡ false → (change j).version.deleted ≡ false → StageLaw epoch a (with_interior_changed a m change) tidy (LoneLocked lone) Moved (record tidy { stage = Bypassed lone.interior ChildRule })
      bypass_law change keeps unlocked alive = record {
        reads = tt;
        steps = λ begun w world before truth.
            let (l, namer) = truth in
            let prefix = prefix_of tidy.key tidy.way in
            let new : ArenaView = with_interior_changed a m change in
            let stands = stands_so begun w world namer in
            let there : Spot = spot (at_level l.stands.level) prefix l.stands.low (gone epoch) in
            let chart : Chart = with_spot w.chart q there in
            let charted = spot_changes w.chart q there in
            let no_lock = unlocked_no a w.chart m j j_named seen.unlocked in
            let kept = keeps.keeps epoch w.twins w.chart chart world.index (record { prefix = prefix; stands = stands; stood = l.stands; charted = charted; no_twin = free_no_twin a w.chart w.twins m no_lock world.twins; gone_no_twin = l.apart }) in
            let is_known = known_some w m _ stands.place in
            let apart : q ≢ m = λ e. clash_locked l.i l.locked (ap (λ (x : ℕ). interior_at a.nodes x) (sym e) ∙ l.named) in
            goes_beside epoch a new w chart m q (Some there) _ world (age_beside m (interior_no_border a m j change j_named) (interior_others a m j change j_named)) kept refl (on_kept a epoch w.chart m _ _ _ _ stands.place world.retired) (interior_others a m j change j_named) charted
            (heads_beside a new w.chart chart m (heads_were w.chart chart q l.stands.level l.stands.low prefix (gone epoch) charted) (interior_no_head a m j change j_named) (interior_no_border a m j change j_named) (interior_others a m j change j_named) world.heads)
            (alive_there a new chart m (interior_alive a m j change j_named chart (inr alive)) (interior_others a m j change j_named)
            (alive_placed a w.chart chart q (Some there) charted (alive_gone a chart q (at_level l.stands.level) prefix l.stands.low epoch charted.now) world.alive))
            no_lock
            (λ taken. not_both j.version.locked (w.chart m) seen.unlocked is_known (interior_is_taken a m j w j_named taken))
            (λ taken. not_both (change j).version.locked (chart m) unlocked (known_stays w.chart chart m (kept.evolves 0 (omega arith)) is_known) (interior_taken a m j change j_named (at_chart w chart) taken))
            (gone_so begun new w chart world before refl l (ap (option_and_then interior_of) (interior_others a m j change j_named q apart) ∙ l.named) charted.now);
      }
        where
          clash_locked : (x : InteriorView) → x.version.locked ≡ true → interior_at a.nodes m ≡ Some x → ⊥
          clash_locked x locked at =
              let same : j ≡ x = (let both : ◌≡◌ {A = Option InteriorView} (Some j) (Some x) = sym j_named ∙ at in cc) in
              let clash : false ≡ true = sym seen.unlocked ∙ (ap (λ (v : InteriorView). v.version.locked) same ∙ locked) in
              cc

      pub bypasses : (after : ArenaView) → IsSomeAnd (child_at a.nodes q 0) (λ child. after ≡ with_interior_changed a m (λ x. with_bypass x place child.node child.level)) → KeepsAlong a after (BypassesAt m q) → TidyStep epoch a after tidy Moved (record tidy { stage = Bypassed lone.interior ChildRule })
      bypasses after value keeps = at_stage epoch a after tidy (LoneLocked lone) Moved (record tidy { stage = Bypassed lone.interior ChildRule }) is refl (none_retired (child_at a.nodes q 0) a after _ (λ child. refl) value) (go (child_at a.nodes q 0) value) tt tt
          (subst (λ (n : Namer). FollowsNamer a tidy lone.interior n Moved (record tidy { stage = Bypassed lone.interior ChildRule })) (sym by)
          (some_by (node_at a.nodes m) _ _ (λ node e. subst (λ (o : Option ℕ). BypassesBy tidy lone.interior o Moved (record tidy { stage = Bypassed lone.interior ChildRule })) e (refl, refl)) found))
        where
          go : (o : Option Child) → IsSomeAnd o (λ child. after ≡ with_interior_changed a m (λ x. with_bypass x place child.node child.level)) → StageLaw epoch a after tidy (LoneLocked lone) Moved (record tidy { stage = Bypassed lone.interior ChildRule })
          go None h = absurd h
          go (Some child) h = subst (λ (x : ArenaView). StageLaw epoch a x tidy (LoneLocked lone) Moved (record tidy { stage = Bypassed lone.interior ChildRule })) (sym h)
              (bypass_law (λ x. with_bypass x place child.node child.level) (subst (λ (x : ArenaView). KeepsAlong a x (BypassesAt m q)) h keeps) seen.unlocked seen.alive)

  -- ---- by the head
  module _ (head : NodeNo) (by : lone.namer ≡ NamedByHead head) where
    abbrev n : ℕ
    n = head.0

    known_head : (begun : ℕ) (w : World) → NamerIsKnown begun (prefix_of tidy.key tidy.way) w lone.namer → IsHeadOf w begun n (prefix_of tidy.key tidy.way)
    known_head begun w namer = subst (λ (x : Namer). NamerIsKnown begun (prefix_of tidy.key tidy.way) w x) by namer

    pub top_there : MayTidy epoch a tidy → IsSome (head_at a.nodes n)
    top_there may = let (l, namer) = true_at epoch a tidy (LoneLocked lone) is may in head_there a may.w may.begun n (prefix_of tidy.key tidy.way) epoch may.world (known_head may.begun may.w namer)

    pub root_lost : (h : HeadView) → head_at a.nodes n ≡ Some h → (IsRootOf lone.interior h → ⊥) → TidyStep epoch a a tidy Moved (record tidy { stage = KeepsInterior lone.interior })
    root_lost h named lost = at_stage epoch a a tidy (LoneLocked lone) Moved (record tidy { stage = KeepsInterior lone.interior }) is refl refl gives_law tt tt
        (subst (λ (x : Namer). FollowsNamer a tidy lone.interior x Moved (record tidy { stage = KeepsInterior lone.interior })) (sym by)
        (subst (λ (o : Option HeadView). IsSomeAnd o (λ v. (IsRootOf lone.interior v × ((Moved ≡ Moved) × (record tidy { stage = KeepsInterior lone.interior } ≡ record tidy { stage = Bypassed lone.interior RootRule }))) ⊎ ((IsRootOf lone.interior v → ⊥) × ((Moved ≡ Moved) × (record tidy { stage = KeepsInterior lone.interior } ≡ record tidy { stage = KeepsInterior lone.interior }))))) (sym named) (inr (lost, (refl, refl)))))

    module _ (h : HeadView) (named : head_at a.nodes n ≡ Some h) (root : IsRootOf lone.interior h) where
      none_there : interior_at a.nodes n ≡ None
      none_there = ap (option_and_then interior_of) (node-from_head a.nodes n h named)

      root_law : (change : HeadView → HeadView) → (change h).version ≡ h.version → KeepsAlong a (with_head_changed a n change) (BypassesRootAt n q) → StageLaw epoch a (with_head_changed a n change) tidy (LoneLocked lone) Moved (record tidy { stage = Bypassed lone.interior RootRule })
      root_law change same keeps = record {
        reads = tt;
        steps = λ begun w world before truth.
            let (l, namer) = truth in
            let prefix = prefix_of tidy.key tidy.way in
            let known = known_head begun w namer in
            let (stands, is_root) = root_place a w.chart begun n 0 prefix h world.index.tree (record { role = top; low = 0; standing = known.standing; place = known.place; at_most = omega arith; since = known.since }) named root.0 in
            let there : Spot = spot (at_level l.stands.level) prefix l.stands.low (gone epoch) in
            let chart : Chart = with_spot w.chart q there in
            let charted = spot_changes w.chart q there in
            let kept = keeps.keeps epoch w.twins w.chart chart world.index (record {
              prefix = prefix;
              stands = stands;
              stood = l.stands;
              charted = charted;
              no_twin = free_no_twin a w.chart w.twins n (no_interior a w.chart n none_there) world.twins;
              gone_no_twin = l.apart;
            }) in
            let is_known = known_some w n _ stands in
            let free = (world.heads.alive n prefix h stands named).1 in
            let apart : q ≢ n = λ e. no_head l.i (ap (λ (x : ℕ). interior_at a.nodes x) (sym e) ∙ l.named) in
            goes_beside epoch a new w chart n q (Some there) _ world (age_beside n (ap (option_and_then border_of) (node-from_head a.nodes n h named)) updated.others) kept refl (on_kept a epoch w.chart n _ _ _ _ stands world.retired) updated.others charted
            (heads_named w chart world (heads_were w.chart chart q l.stands.level l.stands.low prefix (gone epoch) charted))
            (alive_there a new chart n (alive_node new chart n (Head (change h)) updated.changed (inr (ap (λ v. v.deleted) same ∙ root.0))) updated.others
            (alive_placed a w.chart chart q (Some there) charted (alive_gone a chart q (at_level l.stands.level) prefix l.stands.low epoch charted.now) world.alive))
            (no_interior a w.chart n none_there)
            (λ taken. alive_free a n h w named free root.0 is_known taken)
            (λ taken. alive_free new n (change h) (at_chart w chart) now_is (ap (λ v. v.locked) same ∙ free) (ap (λ v. v.deleted) same ∙ root.0) (known_stays w.chart chart n (kept.evolves 0 (omega arith)) is_known) taken)
            (gone_so begun new w chart world before refl l (ap (option_and_then interior_of) (updated.others q apart) ∙ l.named) charted.now);
      }
        where
          new : ArenaView
          new = with_head_changed a n change

          updated : Updates a.nodes (with_head_changed a n change).nodes n (Some (Head (change h)))
          updated = subst (λ (x : ArenaView). Updates a.nodes x.nodes n (Some (Head (change h)))) (sym (changed-head a n h change named))
              (updates-with_node a.nodes n (Head (change h)) (subst (λ (x : Option Node). IsSome x) (sym (node-from_head a.nodes n h named)) refl))

          now_is : head_at (with_head_changed a n change).nodes n ≡ Some (change h)
          now_is = ap (option_and_then head_of) updated.changed

          no_head : (i : InteriorView) → interior_at a.nodes n ≡ Some i → ⊥
          no_head i e = (let clash : ◌≡◌ {A = Option InteriorView} None (Some i) = sym none_there ∙ e in cc)

          heads_named : (w : World) (chart : Chart) → IsWorld a epoch w → ((number : ℕ) (layer : List ℕ) → OnHead chart number layer → OnHead w.chart number layer) → HeadsStand (with_head_changed a n change) w.closing chart
          heads_named w chart world were = record {
            alive = λ number layer x place there. elim (same_number number n) [
              | inl e ↦ (let both : ◌≡◌ {A = Option HeadView} (Some (change h)) (Some x) = sym now_is ∙ (ap (λ (k : ℕ). head_at (with_head_changed a n change).nodes k) (sym e) ∙ there) in
                  let is_x : change h ≡ x = cc in
                  let old_head = world.heads.alive n layer h (subst (λ (k : ℕ). OnHead w.chart k layer) e (were number layer place)) named in
                  (inl (ap (λ (v : HeadView). v.version.deleted) (sym is_x) ∙ (ap (λ v. v.deleted) same ∙ root.0)), ap (λ (v : HeadView). v.version.locked) (sym is_x) ∙ (ap (λ v. v.locked) same ∙ old_head.1)))
              | inr out ↦ world.heads.alive number layer x (were number layer place) (sym (ap (option_and_then head_of) (updated.others number out)) ∙ there)
            ];
            roots = roots_kept a (with_head_changed a n change) w.closing n (λ i. absurd (no_root a w.closing w.chart n (ap (option_and_then border_of) (node-from_head a.nodes n h named)) world.heads i)) updated.others world.heads.roots;
          }

      pub bypasses_root : (after : ArenaView) → IsSomeAnd (child_at a.nodes q 0) (λ child. after ≡ with_head_changed a n (λ x. with_root x child.node child.level)) → KeepsAlong a after (BypassesRootAt n q) → TidyStep epoch a after tidy Moved (record tidy { stage = Bypassed lone.interior RootRule })
      bypasses_root after value keeps = at_stage epoch a after tidy (LoneLocked lone) Moved (record tidy { stage = Bypassed lone.interior RootRule }) is refl (none_retired (child_at a.nodes q 0) a after _ (λ child. refl) value) (go (child_at a.nodes q 0) value) tt tt
          (subst (λ (x : Namer). FollowsNamer a tidy lone.interior x Moved (record tidy { stage = Bypassed lone.interior RootRule })) (sym by)
          (subst (λ (o : Option HeadView). IsSomeAnd o (λ v. (IsRootOf lone.interior v × ((Moved ≡ Moved) × (record tidy { stage = Bypassed lone.interior RootRule } ≡ record tidy { stage = Bypassed lone.interior RootRule }))) ⊎ ((IsRootOf lone.interior v → ⊥) × ((Moved ≡ Moved) × (record tidy { stage = Bypassed lone.interior RootRule } ≡ record tidy { stage = KeepsInterior lone.interior }))))) (sym named) (inl (root, (refl, refl)))))
        where
          go : (o : Option Child) → IsSomeAnd o (λ child. after ≡ with_head_changed a n (λ x. with_root x child.node child.level)) → StageLaw epoch a after tidy (LoneLocked lone) Moved (record tidy { stage = Bypassed lone.interior RootRule })
          go None h = absurd h
          go (Some child) e = subst (λ (x : ArenaView). StageLaw epoch a x tidy (LoneLocked lone) Moved (record tidy { stage = Bypassed lone.interior RootRule })) (sym e)
              (root_law (λ x. with_root x child.node child.level) refl (subst (λ (x : ArenaView). KeepsAlong a x (BypassesRootAt n q)) e keeps))

-- ---- it is retired
module _ (epoch : ℕ) (a : ArenaView) (tidy : Tidy) (interior : NodeNo) (rule : TidyRule) (is : tidy.stage ≡ Bypassed interior rule) where
  abbrev g : ℕ
  g = interior.0

  abbrev mark : InteriorView → InteriorView
  mark x = with_deleted x

  abbrev unlock : InteriorView → InteriorView
  unlock x = with_lock x false

  pub retires : (one two after : ArenaView) → one ≡ with_interior_changed a g mark → KeepsTree a one → two ≡ with_interior_changed one g unlock → IsSomeAnd (interior_at one.nodes g) (λ x. KeepsWhere one two (λ chart. IsNotGone chart g ⊎ (x.version.deleted ≡ true))) → after ≡ with_retired two interior epoch → KeepsTree two after
      → TidyStep epoch a after tidy (Answered (Tidied rule)) tidy
  retires one two after marked keeps unlocked keeps_two retired keeps_last = at_stage epoch a after tidy (Bypassed interior rule) (Answered (Tidied rule)) tidy is refl (ap (λ (x : ArenaView). x.retired) (retired ∙ ap (λ (x : ArenaView). with_retired x interior epoch) (unlocked ∙ ap (λ (x : ArenaView). with_interior_changed x g unlock) marked))) (record {
    reads = tt;
    steps = λ begun w world before t.
        let first_new : ArenaView = with_interior_changed a g mark in
        let new : ArenaView = with_interior_changed first_new g unlock in
        let last : ArenaView = with_retired new interior epoch in
        let there = interior_now a g t.i mark t.named in
        let is_new : two ≡ new = unlocked ∙ ap (λ (x : ArenaView). with_interior_changed x g unlock) marked in
        let is_last : after ≡ last = retired ∙ ap (λ (x : ArenaView). with_retired x interior epoch) is_new in
        let kept = (subst (λ (x : ArenaView). KeepsTree a x) marked keeps).keeps epoch w.twins w.chart world.index in
        let where_new : KeepsWhere first_new new (λ chart. IsNotGone chart g ⊎ ((mark t.i).version.deleted ≡ true)) =
        some_at _ (interior_at first_new.nodes g) (mark t.i) (subst (λ (x : ArenaView). IsSomeAnd (interior_at first_new.nodes g) (λ v. KeepsWhere first_new x (λ chart. IsNotGone chart g ⊎ (v.version.deleted ≡ true)))) is_new (subst (λ (x : ArenaView). IsSomeAnd (interior_at x.nodes g) (λ v. KeepsWhere x two (λ chart. IsNotGone chart g ⊎ (v.version.deleted ≡ true)))) marked keeps_two)) there in
        let again = where_new.keeps epoch w.twins w.chart kept.index (inr refl) in
        let both : Keeps epoch w.twins (arena_seen a) (arena_seen new) w.chart w.chart = record { index = again.index; content = content_twice a first_new new kept.content again.content; evolves = λ b le. evolves_same b w.chart } in
        let others : (other : ℕ) → other ≢ g → node_at new.nodes other ≡ node_at a.nodes other = λ other out. interior_others first_new g (mark t.i) unlock there other out ∙ interior_others a g t.i mark t.named other out in
        let keeps_new : KeepsTree new last = subst (λ (x : ArenaView). KeepsTree x (with_retired x interior epoch)) is_new (subst (λ (x : ArenaView). KeepsTree two x) retired keeps_last) in
        let now_is = interior_now first_new g (mark t.i) unlock there in
        subst (λ (x : ArenaView). Goes epoch a x w (g ∷ []) [] (λ next. Unit {0}) × SameContent (arena_seen a) (arena_seen x)) (sym is_last)
        (goes_retired epoch a new w interior [] (λ next. Unit {0}) (at_level t.level) t.prefix t.low t.epoch world both refl others t.place t.kept
        (λ locked. (let clash : false ≡ true = subst (λ (x : Option Node). IsLocked x) (node-from_interior new.nodes g (unlock (mark t.i)) now_is) locked in cc))
        (age_beside g (interior_no_border a g t.i mark t.named) others)
        (heads_beside a new w.chart w.chart g (λ number layer h. h) (interior_no_head first_new g (mark t.i) unlock there) (interior_no_border a g t.i mark t.named) others world.heads)
        (twins_lone a new w.chart w.chart w.twins g (evolves_same 0 w.chart) t.apart others world.twins) keeps_new (λ i. elim i [ ]) tt);
  }) tt tt refl

-- ---- it is unlocked as it was
module _ (epoch : ℕ) (a : ArenaView) (tidy : Tidy) (interior : NodeNo) (is : tidy.stage ≡ KeepsInterior interior) where
  abbrev open_it : InteriorView → InteriorView
  open_it x = with_lock x false

  pub keeps_interior : (after : ArenaView) → after ≡ with_interior_changed a interior.0 open_it → IsSomeAnd (interior_at a.nodes interior.0) (λ x. KeepsWhere a after (λ chart. IsNotGone chart interior.0 ⊎ (x.version.deleted ≡ true))) → TidyStep epoch a after tidy (Answered (Tidied NoRule)) tidy
  keeps_interior after value keeps = at_stage epoch a after tidy (KeepsInterior interior) (Answered (Tidied NoRule)) tidy is refl (ap (λ (x : ArenaView). x.retired) value) (record {
    reads = tt;
    steps = λ begun w world before l.
        let n : ℕ = interior.0 in
        let new : ArenaView = with_interior_changed a n open_it in
        let kept = (subst (λ (x : ArenaView). KeepsWhere a x (λ chart. IsNotGone chart n ⊎ (l.i.version.deleted ≡ true))) value (some_at _ (interior_at a.nodes n) l.i keeps l.named)).keeps epoch w.twins w.chart world.index
        (inl (λ role p low went e. not_gone l.stands.level l.stands.low l.stands.posted (prefix_of tidy.key tidy.way) role p low went (sym l.stands.place ∙ e))) in
        let others = interior_others a n l.i open_it l.named in
        let free : IsTaken new w n → ⊥ = λ taken. not_both (open_it l.i).version.locked (w.chart n) refl (known_some w n _ l.stands.place) (interior_taken a n l.i open_it l.named w taken) in
        subst (λ (x : ArenaView). Goes epoch a x w (n ∷ []) [] (λ next. Unit {0}) × SameContent (arena_seen a) (arena_seen x)) (sym value)
        (goes_kept epoch a new w w.chart n (n ∷ []) [] (λ next. Unit {0}) world (age_beside n (interior_no_border a n l.i open_it l.named) others) kept refl (on_kept a epoch w.chart n _ _ _ _ l.stands.place world.retired) others (λ other out. refl)
        (heads_beside a new w.chart w.chart n (λ number layer h. h) (interior_no_head a n l.i open_it l.named) (interior_no_border a n l.i open_it l.named) others world.heads)
        (alive_there a new w.chart n (interior_alive a n l.i open_it l.named w.chart (inr l.alive)) others world.alive)
        (twins_lone a new w.chart w.chart w.twins n (evolves_same 0 w.chart) l.apart others world.twins)
        (λ taken out. absurd (out first)) (λ other taken out k. elim k [ ])
        (λ other k taken. elim (among_cases other n [] k) [ inl e ↦ absurd (free (subst (λ (x : ℕ). IsTaken new w x) e taken)) | inr j ↦ j ])
        (λ out taken. absurd (out first)) tt);
  }) tt tt refl
    where
      not_gone : (level low : ℕ) (posted : Bool) (prefix : List ℕ) (role : Role) (other : List ℕ) (least epoch : ℕ) → ◌≡◌ {A = Option Spot} (Some (spot (at_level level) prefix low (on posted))) (Some (spot role other least (gone epoch))) → ⊥
      not_gone level low posted prefix role other least epoch e = cc
