-- The steps that take an empty border out, up to its mark: it is dropped from the interior that names it, or the tidy gives up.
use Rattle.std.proofs.Common.{ℕ, ◌≡◌, ◌≢◌, ◌-◌, inl, inr, List, [], ◌∷◌, slice_get, Option, Some, None, IsSome, Bool, true, false, refl, sym, ap, subst, ◌∙◌, arith}
use Rattle.std.specs.Prelude.{◌<◌, ◌^◌, IsSomeAnd}
use Rattle.std.specs.Option.{option_and_then}
use Rattle.mt_types.specs.declared.numbers.NodeNo.{NodeNo}
use Rattle.mt_types.specs.declared.event.Answer.TheVariants.{Tidied}
use Rattle.mt_types.specs.declared.event.TidyRule.TheVariants.{Nothing as NoRule}
use Rattle.mt_border.specs.Border.{BorderView, with_unlocked, with_deleted}
use Rattle.mt_border.specs.Order.{IsBorder, IsLeftOf}
use Rattle.mt_border.specs.declared.entry.RightLink.{RightLink}
use Rattle.mt_interior.specs.Interior.{InteriorView, without_child}
use Rattle.mt_interior.specs.declared.child.Child.{Child}
use Rattle.mt_arena.specs.Node.{node_at, interior_at, border_at}
use Rattle.mt_arena.specs.Arena.{ArenaView, with_interior_changed, with_border_changed}
use Rattle.mt_arena.specs.declared.node.Node.TheVariants.{Border}
use Rattle.mt_arena.proofs.NodeLemmas.{node-from_border}
use Rattle.mt_chart.specs.Tree.{Among, first, later}
use Rattle.mt_chart.specs.Chart.{top, at_level, Standing, on, Spot, spot, Chart}
use Rattle.mt_chart.specs.Steps.{SameContent}
use Rattle.mt_chart.proofs.Walk.{known_kept}
use Rattle.mt_tree.specs.Seen.{arena_seen, child_seen}
use Rattle.mt_tree.specs.Keeping.{KeepsTree, KeepsAlong}
use Rattle.mt_tree.specs.InteriorSteps.{child_at, IsInLayer, DropsAt}
use Rattle.mt_tree.proofs.InteriorPlaces.{is_on_as}
use Rattle.mt_tree.proofs.ChildLists.{among_read}
use Rattle.mt_steps.specs.declared.progress.Progress.TheVariants.{Moved, Answered}
use Rattle.mt_steps.specs.World.{World, IsWorld, IsLockedBorder, Goes}
use Rattle.mt_steps.specs.Way.{prefix_of}
use Rattle.mt_steps.proofs.SplitLemmas.{with_spot, spot_changes}
use Rattle.mt_steps.proofs.AliveLemmas.{alive_node, alive_there, alive_placed}
use Rattle.mt_tree.proofs.AgeLemmas.{ages_unlocked, ages_deleted}
use Rattle.mt_steps.proofs.AgingLemmas.{age_beside}
use Rattle.mt_steps.proofs.BorderLemmas.{now_named, keys_same, known_stays, goes_border, locked_may, mine_free, on_kept}
use Rattle.mt_steps.proofs.NodeLemmas.{at_chart, goes_beside, heads_beside, heads_were, interior_others, interior_no_head, interior_no_border, interior_alive, interior_border, interior_taken, interior_is_taken, not_both, known_some, seen_on, free_no_twin, unlocked_no}
use Rattle.mt_steps.specs.declared.reader.Reader.TheVariants.{Begins}
use Rattle.mt_remove.specs.declared.stage.Unlinking.{Unlinking}
use Rattle.mt_remove.specs.declared.tidy.Tidy.{Tidy}
use Rattle.mt_remove.specs.declared.stage.Stage.TheVariants.{Locked, Dropped, Marked, KeepsBorder}
use Rattle.mt_remove.specs.Seen.{later_place}
use Rattle.mt_remove.specs.Tidy.{StageIsTrue, StageLaw, MayTidy}
use Rattle.mt_remove.specs.Locked.{IsEmptyBorder}
use Rattle.mt_remove.specs.Follows.{DropsBy, GoesTo, unread, TidyStep}
use Rattle.mt_remove.proofs.StageLemmas.{at_stage, true_at, law_same, holds_known, known_there, IsSeen, named_so, later_seen, some_by}

-- an empty border that the call has locked, and that is not marked deleted, is a locked border
pub empty_locked : (a : ArenaView) (w : World) (number : ℕ) (prefix : List ℕ) (posted : Bool) (e : IsEmptyBorder a w number prefix posted) → e.b.version.deleted ≡ false → IsLockedBorder a w number
empty_locked a w number prefix posted e alive = record { b = e.b; named = e.named; known = known_some w number _ e.place; locked = e.locked; alive = alive; written = e.written; free = e.free }

-- ---- it is dropped
module _ (epoch : ℕ) (a : ArenaView) (tidy : Tidy) (border head parent : NodeNo) (is : tidy.stage ≡ Locked border head parent) where
  abbrev n : ℕ
  n = parent.0

  pub parent_there : MayTidy epoch a tidy → IsSome (node_at a.nodes n)
  parent_there may = let (empty, known, held) = true_at epoch a tidy (Locked border head parent) is may in known_there a epoch may.begun may.w n (prefix_of tidy.key tidy.way) may.world held

  -- the interior doesn't name it any more, or not as a later child
  pub gives_up : IsSomeAnd (node_at a.nodes n) (λ node. None ≡ later_place node border) → TidyStep epoch a a tidy Moved (record tidy { stage = KeepsBorder border })
  gives_up none = at_stage epoch a a tidy (Locked border head parent) Moved (record tidy { stage = KeepsBorder border }) is refl refl
      (law_same epoch a tidy (Locked border head parent) Moved (record tidy { stage = KeepsBorder border }) refl (λ begun w world truth. let ((posted, e, alive), known, held) = truth in empty_locked a w border.0 (prefix_of tidy.key tidy.way) posted e alive)) tt tt
      (some_by (node_at a.nodes n) _ _ (λ node e. subst (λ (o : Option ℕ). DropsBy tidy border head o Moved (record tidy { stage = KeepsBorder border })) e (refl, refl)) none)

  module _ (place : ℕ) (found : IsSomeAnd (node_at a.nodes n) (λ node. Some place ≡ later_place node border)) (named : IsSomeAnd (child_at a.nodes n place) (λ there. there.node ≡ border)) where
    seen : IsSeen (node_at a.nodes n)
    seen = later_seen (node_at a.nodes n) border place found

    abbrev i : InteriorView
    i = seen.i

    i_named : interior_at a.nodes n ≡ Some i
    i_named = named_so a n seen

    pub is_child : IsSome (child_at a.nodes n place)
    is_child = go (child_at a.nodes n place) named
      where
        go : (o : Option Child) → IsSomeAnd o (λ there. there.node ≡ border) → IsSome o
        go None h = absurd h
        go (Some c) h = refl

    abbrev change : InteriorView → InteriorView
    change x = without_child x place

    abbrev new : ArenaView
    new = with_interior_changed a n change

    module _ (child : Child) (read : child_at a.nodes n place ≡ Some child) (same : child.node ≡ border) where
      read_in : slice_get i.children place ≡ Some child
      read_in = sym (ap (option_and_then (λ (x : InteriorView). slice_get x.children place)) i_named) ∙ read

      -- the border may be named
      is_posted : (now : ℕ) (w : World) (prefix : List ℕ) (low : ℕ) (posted : Bool) → IsWorld a now w → IsInLayer w.chart n prefix → w.chart border.0 ≡ Some (spot (at_level 0) prefix low (on posted)) → w.chart border.0 ≡ Some (spot (at_level 0) prefix low (on true))
      is_posted now w prefix low posted world stands here =
          let whole = is_on_as a n i i_named now w.twins w.chart world.index prefix stands in
          let c = whole.children.each (child_seen child) (among_read i.children place child read_in) in
          let there : w.chart border.0 ≡ Some (spot (at_level child.level) prefix child.low c.standing) = ap (λ (m : NodeNo). w.chart m.0) (sym same) ∙ c.place in
          here ∙ ap (λ (s : Standing). Some (spot (at_level 0) prefix low s)) (standing_is child.level low child.low prefix (on posted) c.standing (sym here ∙ there) ∙ c.may)
        where
          standing_is : (level low other : ℕ) (prefix : List ℕ) (one two : Standing) → ◌≡◌ {A = Option Spot} (Some (spot (at_level 0) prefix low one)) (Some (spot (at_level level) prefix other two)) → one ≡ two
          standing_is level low other prefix one two e = cc

      drops_law : KeepsAlong a new (DropsAt n child) → StageLaw epoch a new tidy (Locked border head parent) Moved (record tidy { stage = Dropped border head })
      drops_law keeps = record {
        reads = tt;
        steps = λ begun w world before truth.
            let ((posted, e, alive), known, held) = truth in
            let prefix = prefix_of tidy.key tidy.way in
            let h = holds_known begun w n prefix held in
            let stands = seen_on a w.chart begun n held.low prefix i world.index.tree h i_named seen.alive seen.unlocked in
            let here = is_posted epoch w prefix e.b.low posted world stands e.place in
            let there : Spot = spot (at_level 0) prefix e.b.low (on false) in
            let chart : Chart = with_spot w.chart border.0 there in
            let charted = spot_changes w.chart border.0 there in
            let no_lock = unlocked_no a w.chart n i i_named seen.unlocked in
            let kept = keeps.keeps epoch w.twins w.chart chart world.index (record {
              prefix = prefix;
              stands = stands;
              low = e.b.low;
              named = ap (λ (m : NodeNo). w.chart m.0) same ∙ here;
              charted = record { now = ap (λ (m : NodeNo). chart m.0) same ∙ charted.now; rest = λ other out. charted.rest other (λ x. out (x ∙ sym (ap (λ (m : NodeNo). m.0) same))) };
              no_twin = free_no_twin a w.chart w.twins n no_lock world.twins;
            }) in
            let is_known = known_some w n _ stands.place in
            goes_beside epoch a new w chart n border.0 (Some there) _ world (age_beside n (interior_no_border a n i change i_named) (interior_others a n i change i_named)) kept refl (on_kept a epoch w.chart n _ _ _ _ stands.place world.retired) (interior_others a n i change i_named) charted
            (heads_beside a new w.chart chart n (heads_were w.chart chart border.0 0 e.b.low prefix (on false) charted) (interior_no_head a n i change i_named) (interior_no_border a n i change i_named) (interior_others a n i change i_named) world.heads)
            (alive_there a new chart n (interior_alive a n i change i_named chart (inr seen.alive)) (interior_others a n i change i_named)
            (alive_placed a w.chart chart border.0 (Some there) charted (alive_node a chart border.0 (Border e.b) (node-from_border a.nodes border.0 e.b e.named) (inl e.locked)) world.alive))
            no_lock
            (λ taken. not_both i.version.locked (w.chart n) seen.unlocked is_known (interior_is_taken a n i w i_named taken))
            (λ taken. not_both i.version.locked (chart n) seen.unlocked (known_stays w.chart chart n (kept.evolves 0 (omega arith)) is_known) (interior_taken a n i change i_named (at_chart w chart) taken)) (
              record { b = e.b; named = interior_border a n i change i_named border.0 e.b e.named; locked = e.locked; written = e.written; empty = e.empty; later = e.later; place = charted.now; free = e.free },
              known_kept begun head.0 top prefix 0 w.chart chart (kept.evolves begun before) known,
            );
      }

    pub drops : (after : ArenaView) → after ≡ new → IsSomeAnd (child_at a.nodes n place) (λ child. KeepsAlong a after (DropsAt n child)) → TidyStep epoch a after tidy Moved (record tidy { stage = Dropped border head })
    drops after value keeps = go (child_at a.nodes n place) refl named keeps
      where
        go : (o : Option Child) → child_at a.nodes n place ≡ o → IsSomeAnd o (λ there. there.node ≡ border) → IsSomeAnd o (λ child. KeepsAlong a after (DropsAt n child)) → TidyStep epoch a after tidy Moved (record tidy { stage = Dropped border head })
        go None read same keep = absurd same
        go (Some child) read same keep = at_stage epoch a after tidy (Locked border head parent) Moved (record tidy { stage = Dropped border head }) is refl (ap (λ (x : ArenaView). x.retired) value)
            (subst (λ (x : ArenaView). StageLaw epoch a x tidy (Locked border head parent) Moved (record tidy { stage = Dropped border head })) (sym value) (drops_law child read same (subst (λ (x : ArenaView). KeepsAlong a x (DropsAt n child)) value keep))) tt tt
            (some_by (node_at a.nodes n) _ _ (λ node e. subst (λ (o : Option ℕ). DropsBy tidy border head o Moved (record tidy { stage = Dropped border head })) e (refl, refl)) found)

-- ---- it is marked deleted
module _ (epoch : ℕ) (a : ArenaView) (tidy : Tidy) (border head : NodeNo) (is : tidy.stage ≡ Dropped border head) where
  abbrev at_head : ℕ → Option RightLink → Unlinking
  at_head slice right = record { border = border; head = head; node = head; slice = slice; right = right }

  pub marks : (b : BorderView) (slice : ℕ) (right : Option RightLink) (after : ArenaView) → border_at a.nodes border.0 ≡ Some b → IsBorder b → slice ≡ b.low - 1 → right ≡ b.right → slice < 2 ^ 64 → after ≡ with_border_changed a border.0 with_deleted → KeepsTree a after → TidyStep epoch a after tidy Moved (record tidy { finding = Begins; stage = Marked (at_head slice right) })
  marks b slice right after read sound low_is right_is within value keeps = at_stage epoch a after tidy (Dropped border head) Moved (record tidy { finding = Begins; stage = Marked (at_head slice right) }) is refl (ap (λ (x : ArenaView). x.retired) value) (record {
    reads = tt;
    steps = λ begun w world before truth.
        let (e, known) = truth in
        let prefix = prefix_of tidy.key tidy.way in
        let same : e.b ≡ b = (let both : ◌≡◌ {A = Option BorderView} (Some e.b) (Some b) = sym e.named ∙ read in cc) in
        let low : slice ≡ e.b.low - 1 = low_is ∙ ap (λ (x : BorderView). x.low - 1) (sym same) in
        let link : e.b.right ≡ right = ap (λ (x : BorderView). x.right) same ∙ sym right_is in
        let Over : BorderView → Option RightLink → Type 0 = λ x r. IsLeftOf x.low x.live r in
        let new : ArenaView = with_border_changed a border.0 with_deleted in
        let kept = (subst (λ (x : ArenaView). KeepsTree a x) value keeps).keeps epoch w.twins w.chart world.index in
        let Then : ArenaView → World → Type 0 = λ x next. StageIsTrue begun tidy.key tidy.way Begins (Marked (at_head slice right)) x next in
        subst (λ (x : ArenaView). Goes epoch a x w (border.0 ∷ []) (border.0 ∷ []) (Then x) × SameContent (arena_seen a) (arena_seen x)) (sym value) (
          goes_border a border.0 e.b with_deleted e.named epoch w (border.0 ∷ []) (border.0 ∷ []) (Then new) world (λ known. (ages_deleted e.b, inr refl)) kept.index (keys_same a new kept.content world.keys) (mine_free a border.0 w (border.0 ∷ []) first) (λ other i. inl i) (λ other ne i. i) (λ locked. first)
              (locked_may a border.0 e.b with_deleted e.named epoch w world e.locked e.free (inl e.locked)) (
                record {
                  border = record { b = with_deleted e.b; named = now_named a border.0 e.b with_deleted e.named; locked = e.locked; written = e.written; empty = e.empty; later = e.later; place = e.place; free = e.free };
                  marked = refl;
                  before = let above = e.later in omega (arith, low, above);
                  fits = within;
                  noted = link;
                  above = subst (λ (r : Option RightLink). Over e.b r) link (subst (λ (x : BorderView). Over x x.right) (sym same) sound.left_of);
                  headed = known;
                },
                record { role = top; low = 0; standing = known.standing; place = known.place; at_most = omega arith; since = known.since },
                tt,
              ),
          kept.content,
        );
  }) tt tt (subst (λ (o : Option BorderView). IsSomeAnd o (λ x. GoesTo (unread tidy) Moved (record tidy { finding = Begins; stage = Marked (at_head slice right) }) (Marked (at_head (x.low - 1) x.right)))) (sym read) (refl, as_read))
    where
      as_read : record tidy { finding = Begins; stage = Marked (at_head slice right) } ≡ record tidy { finding = Begins; stage = Marked (at_head (b.low - 1) b.right) }
      as_read = λ i. record tidy { finding = Begins; stage = Marked (at_head (low_is i) (right_is i)) }

-- ---- it is unlocked as it was
module _ (epoch : ℕ) (a : ArenaView) (tidy : Tidy) (border : NodeNo) (is : tidy.stage ≡ KeepsBorder border) where
  abbrev unlock : BorderView → BorderView
  unlock b = with_unlocked b

  pub keeps_border : (after : ArenaView) → after ≡ with_border_changed a border.0 unlock → KeepsTree a after → TidyStep epoch a after tidy (Answered (Tidied NoRule)) tidy
  keeps_border after value keeps = at_stage epoch a after tidy (KeepsBorder border) (Answered (Tidied NoRule)) tidy is refl (ap (λ (x : ArenaView). x.retired) value) (record {
    reads = tt;
    steps = λ begun w world before at.
        let new : ArenaView = with_border_changed a border.0 unlock in
        let kept = (subst (λ (x : ArenaView). KeepsTree a x) value keeps).keeps epoch w.twins w.chart world.index in
        subst (λ (x : ArenaView). Goes epoch a x w (border.0 ∷ []) [] (λ next. Unit {0}) × SameContent (arena_seen a) (arena_seen x)) (sym value) (
          goes_border a border.0 at.b unlock at.named epoch w (border.0 ∷ []) [] (λ next. Unit {0}) world (λ known. (ages_unlocked at.b, inr refl)) kept.index (keys_same a new kept.content world.keys) (mine_free a border.0 w (border.0 ∷ []) first) (λ other i. elim i [ ]) (λ other ne i. absurd (only other ne i))
              (λ taken. absurd (elim taken [ inl locked ↦ (let clash : false ≡ true = locked in cc) | inr none ↦ (let some : IsSome (let nothing : Option Spot = None in nothing) = subst (λ (x : Option Spot). IsSome x) none at.known in cc) ]))
              (locked_may a border.0 at.b unlock at.named epoch w world at.locked at.free (inr at.alive)) tt,
          kept.content,
        );
  }) tt tt refl
    where
      only : (other : ℕ) → other ≢ border.0 → Among other (border.0 ∷ []) → ⊥
      only other ne first = ne refl
      only other ne (later i) = elim i [ ]
