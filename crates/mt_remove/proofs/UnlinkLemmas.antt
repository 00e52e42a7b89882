-- The steps that unlink a border from the one before it, which is locked, and retire it.
use Rattle.std.proofs.Common.{ℕ, ◌≡◌, ◌≢◌, inl, inr, List, [], ◌∷◌, Option, Some, None, IsSome, Bool, true, false, refl, sym, ap, subst, ◌∙◌, arith}
use Rattle.std.specs.Prelude.{IsSomeAnd}
use Rattle.std.specs.Option.{option_map, option_and_then}
use Rattle.std.proofs.lemmas.Bool.{eqb-true}
use Rattle.mt_types.specs.declared.event.Answer.TheVariants.{Tidied}
use Rattle.mt_types.specs.declared.event.TidyRule.TheVariants.{EmptyBorder as BorderRule}
use Rattle.mt_types.specs.declared.numbers.NodeNo.{NodeNo}
use Rattle.mt_border.specs.Border.{BorderView, with_unlocked, with_right}
use Rattle.mt_border.specs.Order.{IsLeftOf}
use Rattle.mt_border.specs.declared.entry.RightLink.{RightLink}
use Rattle.mt_arena.specs.Node.{interior_of, border_at, border_of}
use Rattle.mt_arena.specs.Arena.{ArenaView, with_border_changed, with_retired}
use Rattle.mt_arena.specs.declared.node.Node.{Node}
use Rattle.mt_arena.proofs.NodeLemmas.{node-from_border}
use Rattle.mt_chart.specs.Tree.{Among, first, later}
use Rattle.mt_chart.specs.Chart.{at_level, Standing, on, gone, Spot, spot, Chart}
use Rattle.mt_chart.specs.Steps.{SameContent}
use Rattle.mt_chart.proofs.HeldNodes.{evolves_same}
use Rattle.mt_tree.specs.Seen.{arena_seen, border_seen, right_seen}
use Rattle.mt_tree.specs.Keeping.{KeepsTree, IsOnIn}
use Rattle.mt_tree.specs.BorderSteps.{IsMarkedRight, MayUnlink, UnlinksAt}
use Rattle.mt_tree.specs.Fields.{BorderChanges}
use Rattle.mt_tree.proofs.SeenLemmas.{seen-border}
use Rattle.mt_tree.proofs.AgeLemmas.{ages_unlocked, ages_right, NotLower, not_lower}
use Rattle.mt_steps.specs.declared.progress.Progress.TheVariants.{Moved, Answered}
use Rattle.mt_steps.specs.declared.reader.Reader.TheVariants.{Begins}
use Rattle.mt_steps.specs.Way.{prefix_of}
use Rattle.mt_steps.specs.World.{World, IsWorld, IsLocked, Goes}
use Rattle.mt_steps.proofs.AgingLemmas.{age_one, on_as}
use Rattle.mt_steps.proofs.AliveLemmas.{alive_gone, alive_there, alive_placed}
use Rattle.mt_steps.proofs.BorderLemmas.{alive_changed, now_named, others_named, no_interior, known_stays, heads_changed, twins_changed, on_kept, among_one}
use Rattle.mt_steps.proofs.NodeLemmas.{goes_at, heads_were, known_some}
use Rattle.mt_steps.proofs.RetireLemmas.{goes_retired}
use Rattle.mt_steps.proofs.SplitLemmas.{with_spot, spot_changes}
use Rattle.mt_remove.specs.declared.stage.Stage.TheVariants.{Marked, LeftLocked, LeftNames, LeftMissed, LeftWritten, Unlinked}
use Rattle.mt_remove.specs.declared.stage.Unlinking.{Unlinking}
use Rattle.mt_remove.specs.declared.tidy.Tidy.{Tidy}
use Rattle.mt_remove.specs.Tidy.{StageIsTrue, StageLaw, MayTidy}
use Rattle.mt_remove.specs.Locked.{HasLeft}
use Rattle.mt_remove.specs.Follows.{names, LooksLeft, TidyStep}
use Rattle.mt_remove.proofs.LayerFacts.{gone_beside}
use Rattle.mt_remove.proofs.ReleaseLemmas.{goes_unlocked}
use Rattle.mt_remove.proofs.StageLemmas.{at_stage, true_at, law_same}
use Rattle.mt_remove.proofs.LeftLemmas.{from_head, unlinking_beside}

-- ---- once it is locked
-- the border that is unlinked is another than the one before it, since it is marked deleted
pub left_apart : (begun : ℕ) (a : ArenaView) (w : World) (prefix : List ℕ) (u : Unlinking) → HasLeft begun a w prefix u → u.node.0 ≢ u.border.0
left_apart begun a w prefix u k e =
    let same : k.left.b ≡ k.unlinking.border.b = (let both : ◌≡◌ {A = Option BorderView} (Some k.left.b) (Some k.unlinking.border.b) = sym k.left.named ∙ (ap (λ (m : ℕ). border_at a.nodes m) e ∙ k.unlinking.border.named) in cc) in
    let clash : false ≡ true = sym k.left.alive ∙ (ap (λ (x : BorderView). x.version.deleted) same ∙ k.unlinking.marked) in
    absurd (cc)

module _ (epoch : ℕ) (a : ArenaView) (tidy : Tidy) (u : Unlinking) where
  abbrev in_layer : List ℕ
  in_layer = prefix_of tidy.key tidy.way

  left_some : (w : World) (begun : ℕ) → HasLeft begun a w in_layer u → IsSome (border_at a.nodes u.node.0)
  left_some w begun k = subst (λ (o : Option BorderView). IsSome o) (sym k.left.named) refl

  -- its right link is read again
  module _ (is : tidy.stage ≡ LeftLocked u) where
    pub look_there : MayTidy epoch a tidy → IsSome (border_at a.nodes u.node.0)
    look_there may = left_some may.w may.begun (true_at epoch a tidy (LeftLocked u) is may)

    module _ (right : Option RightLink) (read : IsSomeAnd (border_at a.nodes u.node.0) (λ b. right ≡ b.right)) where
      looks : (named : Bool) (new : Tidy) → names right u.border ≡ named → LooksLeft tidy u named Moved new → IsSomeAnd (border_at a.nodes u.node.0) (λ b. LooksLeft tidy u (names b.right u.border) Moved new)
      looks named new is_named does = go (border_at a.nodes u.node.0) read
        where
          go : (o : Option BorderView) → IsSomeAnd o (λ b. right ≡ b.right) → IsSomeAnd o (λ b. LooksLeft tidy u (names b.right u.border) Moved new)
          go None h = absurd h
          go (Some b) h = subst (λ (x : Bool). LooksLeft tidy u x Moved new) (sym (sym (ap (λ (r : Option RightLink). names r u.border) h) ∙ is_named)) does

      -- a right link to the border is from its low on
      link_is : (now begun : ℕ) (w : World) → IsWorld a now w → (k : HasLeft begun a w in_layer u) → (r : Option RightLink) → k.left.b.right ≡ r → names r u.border ≡ true → k.left.b.right ≡ Some (record { low = k.unlinking.border.b.low; node = u.border })
      link_is now begun w world k None is_right named = absurd (let clash : false ≡ true = named in cc)
      link_is now begun w world k (Some link) is_right named =
          let same : link.node.0 ≡ u.border.0 = eqb-true link.node.0 u.border.0 named in
          let facts = world.index.tree.each_border u.node.0 in_layer (border_seen k.left.b) (record { posted = k.left.posted; place = k.left.place; node = seen-border a u.node.0 k.left.b k.left.named }) in
          let (above, stands, place) = facts.right (right_seen link) (ap (option_map right_seen) is_right) in
          let low : link.low ≡ k.unlinking.border.b.low = low_of in_layer link.low k.unlinking.border.b.low (on stands) (on false) (sym place ∙ (ap w.chart same ∙ k.unlinking.border.place)) in
          is_right ∙ link_as link low same
        where
          low_of : (prefix : List ℕ) (one other : ℕ) (s t : Standing) → ◌≡◌ {A = Option Spot} (Some (spot (at_level 0) prefix one s)) (Some (spot (at_level 0) prefix other t)) → one ≡ other
          low_of prefix one other s t e = cc

          link_as : (link : RightLink) → link.low ≡ k.unlinking.border.b.low → link.node.0 ≡ u.border.0 → ◌≡◌ {A = Option RightLink} (Some link) (Some (record { low = k.unlinking.border.b.low; node = u.border }))
          link_as link low same = λ i. Some (record { low = low i; node = record { 0 = same i } })

      -- it names the border still
      pub looks_named : names right u.border ≡ true → TidyStep epoch a a tidy Moved (record tidy { stage = LeftNames u })
      looks_named named = at_stage epoch a a tidy (LeftLocked u) Moved (record tidy { stage = LeftNames u }) is refl refl
          (law_same epoch a tidy (LeftLocked u) Moved (record tidy { stage = LeftNames u }) refl (λ begun w world k.
          let right_is : right ≡ k.left.b.right = subst (λ (o : Option BorderView). IsSomeAnd o (λ b. right ≡ b.right)) k.left.named read in
          (k, link_is epoch begun w world k right (sym right_is) named))) tt tt
          (looks true (record tidy { stage = LeftNames u }) named (refl, refl))

      -- it names another
      pub looks_missed : names right u.border ≡ false → TidyStep epoch a a tidy Moved (record tidy { stage = LeftMissed u })
      looks_missed named = at_stage epoch a a tidy (LeftLocked u) Moved (record tidy { stage = LeftMissed u }) is refl refl
          (law_same epoch a tidy (LeftLocked u) Moved (record tidy { stage = LeftMissed u }) refl (λ begun w world k. k)) tt tt
          (looks false (record tidy { stage = LeftMissed u }) named (refl, refl))

  abbrev free : BorderView → BorderView
  free x = with_unlocked x

  -- the border before is unlocked as it was
  module _ (is : tidy.stage ≡ LeftMissed u) where
    pub passes_left : (after : ArenaView) → after ≡ with_border_changed a u.node.0 free → KeepsTree a after → TidyStep epoch a after tidy Moved (record tidy { finding = Begins; stage = Marked (record u { node = u.head }) })
    passes_left after value keeps = at_stage epoch a after tidy (LeftMissed u) Moved (record tidy { finding = Begins; stage = Marked (record u { node = u.head }) }) is refl (ap (λ (x : ArenaView). x.retired) value) (record {
      reads = tt;
      steps = λ begun w world before k.
          let l = k.left in
          let (again, held) = from_head begun a w in_layer u k.unlinking in
          goes_unlocked epoch a w u.node.0 l.b l.named l.locked l.alive l.free (known_some w u.node.0 _ l.place) (u.border.0 ∷ []) (λ i. left_apart begun a w in_layer u k (among_one u.node.0 u.border.0 i)) world after value keeps
          (λ x next. StageIsTrue begun tidy.key tidy.way Begins (Marked (record u { node = u.head })) x next)
          (unlinking_beside begun a w in_layer (record u { node = u.head }) u.node.0 again l.b free l.named (λ e. left_apart begun a w in_layer u k (sym e)), held, tt);
    }) tt tt (refl, refl)

  -- ---- its right link is written
  module _ (is : tidy.stage ≡ LeftNames u) where
    left_unlinks : (begun : ℕ) (w : World) → StageIsTrue begun tidy.key tidy.way tidy.finding (LeftNames u) a w → MayUnlink a u.node.0 u.border u.right
    left_unlinks begun w (k, named) =
        let marked : IsMarkedRight k.left.b k.unlinking.border.b u.border u.right = record { named = named; marked = k.unlinking.marked; noted = k.unlinking.noted; above = k.unlinking.above } in
        subst (λ (o : Option BorderView). IsSomeAnd o (λ b. IsSomeAnd (border_at a.nodes u.border.0) (λ right. IsMarkedRight b right u.border u.right))) (sym k.left.named)
        (subst (λ (o : Option BorderView). IsSomeAnd o (λ right. IsMarkedRight k.left.b right u.border u.right)) (sym k.unlinking.border.named) marked)

    pub may_unlink : MayTidy epoch a tidy → (gone_border : NodeNo) × MayUnlink a u.node.0 gone_border u.right
    may_unlink may = (u.border, left_unlinks may.begun may.w (true_at epoch a tidy (LeftNames u) is may))

    abbrev change : BorderView → BorderView
    change b = with_right b u.right

    unlinked_law : ((gone_border : NodeNo) → MayUnlink a u.node.0 gone_border u.right → UnlinksAt a (with_border_changed a u.node.0 change) u.node.0 gone_border.0)
        → StageLaw epoch a (with_border_changed a u.node.0 change) tidy (LeftNames u) Moved (record tidy { stage = LeftWritten u.border u.node })
    unlinked_law unlinks = record {
      reads = tt;
      steps = λ begun w world before truth.
          let (k, named) = truth in
          let n = u.node.0 in
          let c = k.left.b in
          let e = k.unlinking.border in
          let new : ArenaView = with_border_changed a n change in
          let there : Spot = spot (at_level 0) in_layer e.b.low (gone epoch) in
          let chart : Chart = with_spot w.chart u.border.0 there in
          let charted = spot_changes w.chart u.border.0 there in
          let stands : IsOnIn w.chart n in_layer = record { low = c.low; posted = k.left.posted; place = k.left.place } in
          let kept = ((unlinks u.border (left_unlinks begun w truth)).unlinks e.b e.named).keeps epoch w.twins w.chart chart world.index (record { prefix = in_layer; stands = stands; dropped = e.place; charted = charted }) in
          let heads = heads_changed a n c change k.left.named w.chart (λ i. absurd (k.left.free i)) world.heads in
          let apart : u.node.0 ≢ u.border.0 = left_apart begun a w in_layer u k in
          goes_at epoch a new w chart n (n ∷ u.border.0 ∷ []) (n ∷ u.border.0 ∷ []) _ world
          (age_one n c (change c) k.left.named (now_named a n c change k.left.named) (λ known. (further begun w k named, inl (on_as {chart = w.chart} stands (charted.rest n apart)))) (others_named a n c change k.left.named))
          kept refl (on_kept a epoch w.chart n _ _ _ _ k.left.place world.retired) (others_named a n c change k.left.named)
          (λ other out. charted.rest other (λ x. out (subst (λ (m : ℕ). Among m (n ∷ u.border.0 ∷ [])) (sym x) (later first))))
          (record { alive = λ number layer h place x. heads.alive number layer h (heads_were w.chart chart u.border.0 0 e.b.low in_layer (gone epoch) charted number layer place) x; roots = heads.roots })
          (alive_there a new chart n (alive_changed a n c change k.left.named chart (inl k.left.locked)) (others_named a n c change k.left.named)
          (alive_placed a w.chart chart u.border.0 (Some there) charted (alive_gone a chart u.border.0 (at_level 0) in_layer e.b.low epoch charted.now) world.alive))
          (no_interior a w.chart n (ap (option_and_then interior_of) (node-from_border a.nodes n c k.left.named)))
          (λ taken out. out first) (λ other taken out. out) (λ other i taken. i) (λ out taken. absurd (out first)) (
            record {
              b = e.b;
              named = ap (option_and_then border_of) (others_named a n c change k.left.named u.border.0 (λ x. apart (sym x))) ∙ e.named;
              locked = e.locked;
              written = e.written;
              prefix = in_layer;
              low = e.b.low;
              epoch = epoch;
              place = charted.now;
              free = e.free;
              kept = on_kept a epoch w.chart u.border.0 _ _ _ _ e.place world.retired;
            },
            record {
              b = change c;
              named = now_named a n c change k.left.named;
              known = known_stays w.chart chart n (kept.evolves 0 (omega arith)) (known_some w n _ k.left.place);
              locked = k.left.locked;
              alive = k.left.alive;
              written = k.left.written;
              free = k.left.free;
            },
            apart,
          );
    }
      where
        -- the link that it gets is further to the right
        further : (begun : ℕ) (w : World) (k : HasLeft begun a w in_layer u) → k.left.b.right ≡ Some (record { low = k.unlinking.border.b.low; node = u.border }) → BorderChanges None k.left.b (change k.left.b)
        further begun w k named =
            ages_right k.left.b u.right (subst (λ (r : Option RightLink). NotLower r u.right) (sym named)
            (not_lower (record { low = k.unlinking.border.b.low; node = u.border }) u.right (λ link is. (subst (λ (r : Option RightLink). IsLeftOf k.unlinking.border.b.low k.unlinking.border.b.live r) is k.unlinking.above).0)))

    pub writes_left : (after : ArenaView) → after ≡ with_border_changed a u.node.0 change → ((gone_border : NodeNo) → MayUnlink a u.node.0 gone_border u.right → UnlinksAt a after u.node.0 gone_border.0) → TidyStep epoch a after tidy Moved (record tidy { stage = LeftWritten u.border u.node })
    writes_left after value unlinks = at_stage epoch a after tidy (LeftNames u) Moved (record tidy { stage = LeftWritten u.border u.node }) is refl (ap (λ (x : ArenaView). x.retired) value)
        (subst (λ (x : ArenaView). StageLaw epoch a x tidy (LeftNames u) Moved (record tidy { stage = LeftWritten u.border u.node })) (sym value)
        (unlinked_law (subst (λ (x : ArenaView). (gone_border : NodeNo) → MayUnlink a u.node.0 gone_border u.right → UnlinksAt a x u.node.0 gone_border.0) value unlinks))) tt tt (refl, refl)

-- ---- the border before is unlocked
module _ (epoch : ℕ) (a : ArenaView) (tidy : Tidy) (border left : NodeNo) (is : tidy.stage ≡ LeftWritten border left) where
  abbrev release : BorderView → BorderView
  release x = with_unlocked x

  pub unlocks_left : (after : ArenaView) → after ≡ with_border_changed a left.0 release → KeepsTree a after → TidyStep epoch a after tidy Moved (record tidy { stage = Unlinked border })
  unlocks_left after value keeps = at_stage epoch a after tidy (LeftWritten border left) Moved (record tidy { stage = Unlinked border }) is refl (ap (λ (x : ArenaView). x.retired) value) (record {
    reads = tt;
    steps = λ begun w world before truth.
        let (g, l, apart) = truth in
        goes_unlocked epoch a w left.0 l.b l.named l.locked l.alive l.free l.known (border.0 ∷ []) (λ i. apart (among_one left.0 border.0 i)) world after value keeps (λ x next. StageIsTrue begun tidy.key tidy.way tidy.finding (Unlinked border) x next)
        (gone_beside a w left.0 border.0 l.b release l.named (λ e. apart (sym e)) g);
  }) tt tt (refl, refl)

-- ---- it is retired
module _ (epoch : ℕ) (a : ArenaView) (tidy : Tidy) (border : NodeNo) (is : tidy.stage ≡ Unlinked border) where
  abbrev unlock : BorderView → BorderView
  unlock b = with_unlocked b

  pub retires : (mid after : ArenaView) → mid ≡ with_border_changed a border.0 unlock → KeepsTree a mid → after ≡ with_retired mid border epoch → KeepsTree mid after → TidyStep epoch a after tidy (Answered (Tidied BorderRule)) tidy
  retires mid after unlocked keeps retired keeps_too = at_stage epoch a after tidy (Unlinked border) (Answered (Tidied BorderRule)) tidy is refl (ap (λ (x : ArenaView). x.retired) (retired ∙ ap (λ (x : ArenaView). with_retired x border epoch) unlocked)) (record {
    reads = tt;
    steps = λ begun w world before g.
        let new : ArenaView = with_border_changed a border.0 unlock in
        let last : ArenaView = with_retired new border epoch in
        let is_last : after ≡ last = retired ∙ ap (λ (x : ArenaView). with_retired x border epoch) unlocked in
        let kept = (subst (λ (x : ArenaView). KeepsTree a x) unlocked keeps).keeps epoch w.twins w.chart world.index in
        let keeps_last : KeepsTree new last = subst (λ (x : ArenaView). KeepsTree x (with_retired x border epoch)) unlocked (subst (λ (x : ArenaView). KeepsTree mid x) retired keeps_too) in
        let now_is = now_named a border.0 g.b unlock g.named in
        subst (λ (x : ArenaView). Goes epoch a x w (border.0 ∷ []) [] (λ next. Unit {0}) × SameContent (arena_seen a) (arena_seen x)) (sym is_last)
        (goes_retired epoch a new w border [] (λ next. Unit {0}) (at_level 0) g.prefix g.low g.epoch world kept refl (others_named a border.0 g.b unlock g.named) g.place g.kept
        (λ locked. (let clash : false ≡ true = subst (λ (x : Option Node). IsLocked x) (node-from_border new.nodes border.0 (unlock g.b) now_is) locked in cc))
        (age_one border.0 g.b (unlock g.b) g.named now_is (λ known. (ages_unlocked g.b, inr refl)) (others_named a border.0 g.b unlock g.named))
        (heads_changed a border.0 g.b unlock g.named w.chart (λ i. absurd (g.free i)) world.heads)
        (twins_changed a border.0 g.b unlock g.named w.chart w.chart w.twins (evolves_same 0 w.chart) world.twins) keeps_last (λ i. elim i [ ]) tt);
  }) tt tt refl
