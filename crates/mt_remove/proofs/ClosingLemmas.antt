-- The steps that take an empty layer out.
use Rattle.std.proofs.Common.{ℕ, ◌≡◌, ◌≢◌, ◌⊎◌, inl, inr, List, [], ◌∷◌, Option, Some, IsSome, true, false, refl, sym, ap, subst, ◌∙◌, arith}
use Rattle.std.specs.Prelude.{IsSomeAnd}
use Rattle.std.specs.Option.{option_and_then}
use Rattle.std.proofs.lemmas.List.Elements.{All-push}
use Rattle.mt_types.specs.declared.numbers.NodeNo.{NodeNo}
use Rattle.mt_types.specs.declared.event.Answer.TheVariants.{Tidied}
use Rattle.mt_types.specs.declared.event.TidyRule.TheVariants.{EmptyLayer as LayerRule}
use Rattle.mt_border.specs.Border.{BorderView, with_unlocked, with_deleted}
use Rattle.mt_interior.specs.Head.{HeadView}
use Rattle.mt_interior.specs.Head.{with_deleted as head_deleted}
use Rattle.mt_arena.specs.Node.{head_at, border_at, border_of}
use Rattle.mt_arena.specs.Arena.{ArenaView, with_head_changed, with_border_changed, with_retired}
use Rattle.mt_arena.specs.declared.node.Node.{Node}
use Rattle.mt_arena.specs.declared.retired.Retired.{Retired}
use Rattle.mt_arena.proofs.NodeLemmas.{node-from_head, node-from_border}
use Rattle.mt_chart.specs.Tree.{Among, first, later}
use Rattle.mt_chart.specs.Chart.{top, at_level, on, gone, Spot, spot, Holds}
use Rattle.mt_chart.specs.Steps.{SameContent}
use Rattle.mt_chart.proofs.Entries.{among_cases}
use Rattle.mt_chart.proofs.HeldNodes.{evolves_same}
use Rattle.mt_tree.specs.Seen.{arena_seen}
use Rattle.mt_tree.specs.Keeping.{KeepsTree}
use Rattle.mt_steps.specs.declared.progress.Progress.TheVariants.{Moved, Answered}
use Rattle.mt_steps.specs.World.{World, IsLocked, Goes}
use Rattle.mt_steps.specs.Way.{prefix_of}
use Rattle.mt_steps.proofs.LayerLemmas.{head_apart}
use Rattle.mt_tree.proofs.AgeLemmas.{ages_unlocked, ages_deleted}
use Rattle.mt_steps.proofs.AgingLemmas.{age_same, age_one}
use Rattle.mt_steps.proofs.BorderLemmas.{alive_changed, keys_same, now_named, others_named, goes_border, heads_changed, twins_changed, mine_free, locked_kept, on_kept, among_one}
use Rattle.mt_steps.proofs.NodeLemmas.{known_some, root_place, head_there}
use Rattle.mt_steps.proofs.RetireLemmas.{goes_retired}
use Rattle.mt_remove.specs.declared.tidy.Tidy.{Tidy}
use Rattle.mt_remove.specs.declared.stage.Layer.{Layer}
use Rattle.mt_remove.specs.declared.stage.Stage.TheVariants.{LinkFound, HeadMarked, RootMarked, LinkHidden, LayerGone, RootRetired, KeepsLayer, KeepsBorder}
use Rattle.mt_remove.specs.Tidy.{StageIsTrue, MayTidy}
use Rattle.mt_remove.specs.Locked.{IsGoneHead}
use Rattle.mt_remove.specs.Follows.{IsRootOf, TidyStep}
use Rattle.mt_remove.proofs.StageLemmas.{at_stage, true_at, law_same, same_content}
use Rattle.mt_remove.proofs.LayerFacts.{root_locked, above_locked, layer_apart, above_beside, head_beside, gone_beside, gone_head_beside}
use Rattle.mt_remove.proofs.ReleaseLemmas.{unlocked_one, goes_unlocked}
use Rattle.mt_remove.proofs.ClosingGoes.{head_now, border_same, goes_marked}

-- ---- the head is marked deleted
module _ (epoch : ℕ) (a : ArenaView) (tidy : Tidy) (layer : Layer) (is : tidy.stage ≡ LinkFound layer) where
  abbrev t : ℕ
  t = layer.head.0

  pub top_there : MayTidy epoch a tidy → IsSome (head_at a.nodes t)
  top_there may = let k = true_at epoch a tidy (LinkFound layer) is may in head_there a may.w may.begun t (prefix_of tidy.key tidy.way) epoch may.world k.headed

  -- the border is not its root any more
  pub lost_root : (h : HeadView) → head_at a.nodes t ≡ Some h → (IsRootOf layer.root h → ⊥) → TidyStep epoch a a tidy Moved (record tidy { stage = KeepsLayer layer.above layer.root })
  lost_root h named lost = at_stage epoch a a tidy (LinkFound layer) Moved (record tidy { stage = KeepsLayer layer.above layer.root }) is refl refl
      (law_same epoch a tidy (LinkFound layer) Moved (record tidy { stage = KeepsLayer layer.above layer.root }) refl (λ begun w world k. (above_locked a w layer.above.0 k.above.border, root_locked a w layer.root.0 k.root k.alive k.free, layer_apart a w layer k.root k.above))) tt tt
      (subst (λ (o : Option HeadView). IsSomeAnd o (λ v. (IsRootOf layer.root v × ((Moved ≡ Moved) × (record tidy { stage = KeepsLayer layer.above layer.root } ≡ record tidy { stage = HeadMarked layer }))) ⊎ ((IsRootOf layer.root v → ⊥) × ((Moved ≡ Moved) × (record tidy { stage = KeepsLayer layer.above layer.root } ≡ record tidy { stage = KeepsLayer layer.above layer.root }))))) (sym named) (inr (lost, (refl, refl))))

  module _ (h : HeadView) (named : head_at a.nodes t ≡ Some h) (root : IsRootOf layer.root h) where
    root_named : (b : BorderView) → border_at a.nodes layer.root.0 ≡ Some b → border_at a.nodes h.root.0 ≡ Some b
    root_named b is_b = ap (λ (m : NodeNo). border_at a.nodes m.0) root.1 ∙ is_b

    pub marks_head : (after : ArenaView) → after ≡ with_head_changed a t head_deleted → KeepsTree a after → TidyStep epoch a after tidy Moved (record tidy { stage = HeadMarked layer })
    marks_head after value keeps = at_stage epoch a after tidy (LinkFound layer) Moved (record tidy { stage = HeadMarked layer }) is refl (ap (λ (x : ArenaView). x.retired) value) (record {
      reads = tt;
      steps = λ begun w world before k.
          let prefix = prefix_of tidy.key tidy.way in
          let new : ArenaView = with_head_changed a t head_deleted in
          let held : Holds w.chart begun t prefix 0 = record { role = top; low = 0; standing = k.headed.standing; place = k.headed.place; at_most = omega arith; since = k.headed.since } in
          let (stands, is_root) = root_place a w.chart begun t 0 prefix h world.index.tree held named root.0 in
          let owned : List ℕ = layer.above.0 ∷ layer.root.0 ∷ [] in
          let owns : List ℕ = layer.above.0 ∷ layer.root.0 ∷ t ∷ [] in
          let Then : ArenaView → World → Type 0 = λ x next. StageIsTrue begun tidy.key tidy.way tidy.finding (HeadMarked layer) x next in
          subst (λ (x : ArenaView). Goes epoch a x w owned owns (Then x) × SameContent (arena_seen a) (arena_seen x)) (sym value) (
          goes_marked a t h named epoch w prefix k.root.b owned owns (Then new) world stands root.0 (root_named k.root.b k.root.named) k.root.locked (subst (λ (m : NodeNo). Among m.0 owned) (sym root.1) (later first))
          (subst (λ (x : ArenaView). KeepsTree a x) value keeps) more (later (later first)) fewer (record {
            root = record { b = k.root.b; named = border_same a t h named layer.root.0 k.root.b k.root.named; known = k.root.known; locked = k.root.locked; written = k.root.written; empty = k.root.empty; right = k.root.right };
            above = record {
              border = record {
                b = k.above.border.b;
                named = border_same a t h named layer.above.0 k.above.border.b k.above.border.named;
                locked = k.above.border.locked;
                alive = k.above.border.alive;
                written = k.above.border.written;
                prefix = k.above.border.prefix;
                stands = k.above.border.stands;
                free = λ i. elim (among_cases layer.above.0 h.root.0 w.closing i) [
                  | inl e ↦ layer_apart a w layer k.root k.above (e ∙ ap (λ (m : NodeNo). m.0) root.1)
                  | inr j ↦ k.above.border.free j
                ];
              };
              slice = k.above.slice;
              linked = k.above.linked;
            };
            head = record {
              h = head_deleted h;
              named = head_now a t h named;
              marked = refl;
              unlocked = (world.heads.alive t prefix h stands named).1;
              kept = on_kept a epoch w.chart t _ _ _ _ stands world.retired;
            };
            names = root.1;
            prefix = prefix;
            stands = stands;
          })
          );
    }) tt tt (subst (λ (o : Option HeadView). IsSomeAnd o (λ v. (IsRootOf layer.root v × ((Moved ≡ Moved) × (record tidy { stage = HeadMarked layer } ≡ record tidy { stage = HeadMarked layer }))) ⊎ ((IsRootOf layer.root v → ⊥) × ((Moved ≡ Moved) × (record tidy { stage = HeadMarked layer } ≡ record tidy { stage = KeepsLayer layer.above layer.root }))))) (sym named) (inl (root, (refl, refl))))
      where
        more : (other : ℕ) → Among other (layer.above.0 ∷ layer.root.0 ∷ []) → Among other (layer.above.0 ∷ layer.root.0 ∷ t ∷ [])
        more other first = first
        more other (later first) = later first
        more other (later (later i)) = elim i [ ]

        fewer : (other : ℕ) → other ≢ t → Among other (layer.above.0 ∷ layer.root.0 ∷ t ∷ []) → Among other (layer.above.0 ∷ layer.root.0 ∷ [])
        fewer other differ first = first
        fewer other differ (later first) = later first
        fewer other differ (later (later first)) = absurd (differ refl)
        fewer other differ (later (later (later i))) = elim i [ ]

-- ---- the layer's border is marked deleted
module _ (epoch : ℕ) (a : ArenaView) (tidy : Tidy) (layer : Layer) (is : tidy.stage ≡ HeadMarked layer) where
  pub marks_root : (after : ArenaView) → after ≡ with_border_changed a layer.root.0 with_deleted → KeepsTree a after → TidyStep epoch a after tidy Moved (record tidy { stage = RootMarked layer })
  unfolding head_beside
  marks_root after value keeps = at_stage epoch a after tidy (HeadMarked layer) Moved (record tidy { stage = RootMarked layer }) is refl (ap (λ (x : ArenaView). x.retired) value) (record {
    reads = tt;
    steps = λ begun w world before k.
        let n : ℕ = layer.root.0 in
        let b : BorderView = k.root.b in
        let named : border_at a.nodes n ≡ Some b = k.root.named in
        let new : ArenaView = with_border_changed a n with_deleted in
        let owned : List ℕ = layer.above.0 ∷ n ∷ layer.head.0 ∷ [] in
        let kept = (subst (λ (x : ArenaView). KeepsTree a x) value keeps).keeps epoch w.twins w.chart world.index in
        let Then : ArenaView → World → Type 0 = λ x next. StageIsTrue begun tidy.key tidy.way tidy.finding (RootMarked layer) x next in
        subst (λ (x : ArenaView). Goes epoch a x w owned owned (Then x) × SameContent (arena_seen a) (arena_seen x)) (sym value) (
          goes_border a n b with_deleted named epoch w owned owned (Then new) world (λ known. (ages_deleted b, inr refl)) kept.index (keys_same a new kept.content world.keys) (mine_free a n w owned (later first)) (λ other i. inl i) (λ other ne i. i) (λ locked. later first)
              (locked_kept a epoch w.chart n (subst (λ (x : Option Node). IsLocked x) (sym (node-from_border a.nodes n b named)) k.root.locked) world.retired, λ i. k.root.locked, alive_changed a n b with_deleted named w.chart (inl k.root.locked)) (
                record {
                  root = record { b = with_deleted b; named = now_named a n b with_deleted named; known = k.root.known; locked = k.root.locked; written = k.root.written; empty = k.root.empty; right = k.root.right };
                  above = above_beside a w n b with_deleted layer named (layer_apart a w layer k.root k.above) k.above;
                  head = head_beside a n layer.head.0 b with_deleted named k.head;
                  names = k.names;
                  prefix = k.prefix;
                  stands = k.stands;
                },
                refl,
              ),
          kept.content,
        );
  }) tt tt (refl, refl)

-- ---- the border above is unlocked, once the link is hidden
module _ (epoch : ℕ) (a : ArenaView) (tidy : Tidy) (layer : Layer) (is : tidy.stage ≡ LinkHidden layer) where
  pub unlocks_above : (after : ArenaView) → after ≡ with_border_changed a layer.above.0 unlocked_one → KeepsTree a after → TidyStep epoch a after tidy Moved (record tidy { stage = LayerGone layer.root layer.head })
  unlocks_above after value keeps = at_stage epoch a after tidy (LinkHidden layer) Moved (record tidy { stage = LayerGone layer.root layer.head }) is refl (ap (λ (x : ArenaView). x.retired) value) (record {
    reads = tt;
    steps = λ begun w world before truth.
        let (u, g, k) = truth in
        let n : ℕ = layer.above.0 in
        let differ : layer.root.0 ≢ n = λ e. still_on _ _ _ _ _ _ (sym (ap w.chart e ∙ u.stands.place) ∙ g.place) in
        goes_unlocked epoch a w n u.b u.named u.locked u.alive u.free (known_some w n _ u.stands.place) (layer.root.0 ∷ layer.head.0 ∷ []) (λ i. elim (among_cases n layer.root.0 (layer.head.0 ∷ []) i) [
          | inl e ↦ differ (sym e)
          | inr j ↦ head_apart a layer.head.0 n k.head.h u.b k.head.named u.named (among_one n layer.head.0 j)
        ]) world after value keeps (λ x next. StageIsTrue begun tidy.key tidy.way tidy.finding (LayerGone layer.root layer.head) x next)
        (gone_beside a w n layer.root.0 u.b unlocked_one u.named differ g, gone_head_beside a w n layer.head.0 u.b unlocked_one u.named k);
  }) tt tt (refl, refl)
    where
      still_on : (low other : ℕ) (prefix at : List ℕ) (posted : _) (epoch : ℕ) → ◌≡◌ {A = Option Spot} (Some (spot (at_level 0) prefix low (on posted))) (Some (spot (at_level 0) at other (gone epoch))) → ⊥
      still_on low other prefix at posted epoch e = cc

-- ---- the two are retired
module _ (epoch : ℕ) (a : ArenaView) (tidy : Tidy) (root head : NodeNo) (is : tidy.stage ≡ LayerGone root head) where
  abbrev unlock : BorderView → BorderView
  unlock b = with_unlocked b

  pub retires_root : (mid after : ArenaView) → mid ≡ with_border_changed a root.0 unlock → KeepsTree a mid → after ≡ with_retired mid root epoch → KeepsTree mid after → TidyStep epoch a after tidy Moved (record tidy { stage = RootRetired head })
  retires_root mid after unlocked keeps retired keeps_too = at_stage epoch a after tidy (LayerGone root head) Moved (record tidy { stage = RootRetired head }) is refl (ap (λ (x : ArenaView). x.retired) (retired ∙ ap (λ (x : ArenaView). with_retired x root epoch) unlocked)) (record {
    reads = tt;
    steps = λ begun w world before truth.
        let (g, k) = truth in
        let n : ℕ = root.0 in
        let new : ArenaView = with_border_changed a n unlock in
        let last : ArenaView = with_retired new root epoch in
        let is_last : after ≡ last = retired ∙ ap (λ (x : ArenaView). with_retired x root epoch) unlocked in
        let kept = (subst (λ (x : ArenaView). KeepsTree a x) unlocked keeps).keeps epoch w.twins w.chart world.index in
        let keeps_last : KeepsTree new last = subst (λ (x : ArenaView). KeepsTree x (with_retired x root epoch)) unlocked (subst (λ (x : ArenaView). KeepsTree mid x) retired keeps_too) in
        let now_is = now_named a n g.b unlock g.named in
        let apart : n ≢ head.0 = head_apart a head.0 n k.head.h g.b k.head.named g.named in
        let Then : ArenaView → World → Type 0 = λ x next. StageIsTrue begun tidy.key tidy.way tidy.finding (RootRetired head) x next in
        subst (λ (x : ArenaView). Goes epoch a x w (n ∷ head.0 ∷ []) (head.0 ∷ []) (Then x) × SameContent (arena_seen a) (arena_seen x)) (sym is_last)
        (goes_retired epoch a new w root (head.0 ∷ []) (Then last) (at_level 0) g.prefix g.low g.epoch world kept refl (others_named a n g.b unlock g.named) g.place g.kept
        (λ locked. (let clash : false ≡ true = subst (λ (x : Option Node). IsLocked x) (node-from_border new.nodes n (unlock g.b) now_is) locked in cc))
        (age_one n g.b (unlock g.b) g.named now_is (λ known. (ages_unlocked g.b, inr refl)) (others_named a n g.b unlock g.named))
        (heads_changed a n g.b unlock g.named w.chart (λ i. absurd (g.free i)) world.heads)
        (twins_changed a n g.b unlock g.named w.chart w.chart w.twins (evolves_same 0 w.chart) world.twins) keeps_last (λ i. apart (among_one n head.0 i))
        (gone_head_then new w root head.0 epoch apart (gone_head_beside a w n head.0 g.b unlock g.named k)));
  }) tt tt (refl, refl)
    where
      gone_head_then : (left : ArenaView) (w : World) (root : NodeNo) (number when : ℕ) → root.0 ≢ number → IsGoneHead left w number → IsGoneHead (with_retired left root when) w number
      gone_head_then left w root number when apart k = record {
        head = record {
          h = k.head.h;
          named = k.head.named;
          marked = k.head.marked;
          unlocked = k.head.unlocked;
          kept = All-push (λ (r : Retired). r.node.0 ≢ number) left.retired (record { node = root; epoch = when }) k.head.kept apart;
        };
        prefix = k.prefix;
        low = k.low;
        epoch = k.epoch;
        place = k.place;
      }

module _ (epoch : ℕ) (a : ArenaView) (tidy : Tidy) (head : NodeNo) (is : tidy.stage ≡ RootRetired head) where
  pub retires_head : (after : ArenaView) → after ≡ with_retired a head epoch → KeepsTree a after → TidyStep epoch a after tidy (Answered (Tidied LayerRule)) tidy
  retires_head after value keeps = at_stage epoch a after tidy (RootRetired head) (Answered (Tidied LayerRule)) tidy is refl (ap (λ (x : ArenaView). x.retired) value) (record {
    reads = tt;
    steps = λ begun w world before k.
        subst (λ (x : ArenaView). Goes epoch a x w (head.0 ∷ []) [] (λ next. Unit {0}) × SameContent (arena_seen a) (arena_seen x)) (sym value)
        (goes_retired epoch a a w head [] (λ next. Unit {0}) top k.prefix k.low k.epoch world (record { index = world.index; content = same_content a; evolves = λ b le. evolves_same b w.chart }) refl (λ other differ. refl) k.place k.head.kept
        (λ locked. (let clash : false ≡ true = sym k.head.unlocked ∙ subst (λ (x : Option Node). IsLocked x) (node-from_head a.nodes head.0 k.head.h k.head.named) locked in cc))
        age_same world.heads world.twins (subst (λ (x : ArenaView). KeepsTree a x) value keeps) (λ i. elim i [ ]) tt);
  }) tt tt refl

-- ---- the border above is unlocked as it was
module _ (epoch : ℕ) (a : ArenaView) (tidy : Tidy) (above root : NodeNo) (is : tidy.stage ≡ KeepsLayer above root) where
  pub keeps_above : (after : ArenaView) → after ≡ with_border_changed a above.0 unlocked_one → KeepsTree a after → TidyStep epoch a after tidy Moved (record tidy { stage = KeepsBorder root })
  keeps_above after value keeps = at_stage epoch a after tidy (KeepsLayer above root) Moved (record tidy { stage = KeepsBorder root }) is refl (ap (λ (x : ArenaView). x.retired) value) (record {
    reads = tt;
    steps = λ begun w world before truth.
        let (u, r, apart) = truth in
        let n : ℕ = above.0 in
        goes_unlocked epoch a w n u.b u.named u.locked u.alive u.free u.known (root.0 ∷ []) (λ i. apart (among_one n root.0 i)) world after value keeps (λ x next. StageIsTrue begun tidy.key tidy.way tidy.finding (KeepsBorder root) x next) (record {
          b = r.b;
          named = ap (option_and_then border_of) (others_named a n u.b unlocked_one u.named root.0 (λ e. apart (sym e))) ∙ r.named;
          known = r.known;
          locked = r.locked;
          alive = r.alive;
          written = r.written;
          free = r.free;
        });
  }) tt tt (refl, refl)
