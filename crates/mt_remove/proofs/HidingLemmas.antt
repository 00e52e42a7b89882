-- The step that hides the link to an empty layer, whose head and border are marked deleted: from then on they are gone.
use Rattle.std.proofs.Common.{ℕ, ◌≡◌, ◌≢◌, inl, inr, List, ◌∷◌, Option, Some, Bool, true, refl, sym, ap, subst, ◌∙◌, arith}
use Rattle.std.specs.Option.{option_and_then}
use Rattle.mt_types.specs.declared.numbers.NodeNo.{NodeNo}
use Rattle.mt_border.specs.Border.{BorderView, with_hidden}
use Rattle.mt_interior.specs.Head.{HeadView}
use Rattle.mt_arena.specs.Node.{node_at, head_at, head_of, interior_of, border_at, border_of}
use Rattle.mt_arena.specs.Arena.{ArenaView, with_border_changed}
use Rattle.mt_arena.specs.declared.node.Node.{Node}
use Rattle.mt_arena.proofs.NodeLemmas.{node-from_head, node-from_border}
use Rattle.mt_chart.specs.Tree.{Among, first, later}
use Rattle.mt_chart.specs.Chart.{top, at_level, gone, on, Spot, spot, Chart, OnHead, Owns, by_head}
use Rattle.mt_chart.specs.Steps.{SameContent, AreTwins}
use Rattle.mt_chart.proofs.Basics.{same_number}
use Rattle.mt_tree.specs.Seen.{arena_seen}
use Rattle.mt_tree.specs.BorderSteps.{DropsLayerAt}
use Rattle.mt_tree.proofs.SeenLemmas.{seen-head}
use Rattle.mt_steps.specs.declared.progress.Progress.TheVariants.{Moved}
use Rattle.mt_steps.specs.World.{World, IsWorld, HeadsStand, FreeAreAlive, IsLocked, IsSame, NotAmong, Goes}
use Rattle.mt_steps.proofs.FrameLemmas.{is_among, taken_back}
use Rattle.mt_tree.proofs.AgeLemmas.{ages_hidden}
use Rattle.mt_steps.proofs.AgingLemmas.{age_one}
use Rattle.mt_steps.proofs.BorderLemmas.{alive_changed, keys_same, no_interior, twins_changed, retired_kept, locked_kept, on_kept, roots_kept, now_named, others_named}
use Rattle.mt_steps.proofs.LayerLemmas.{head_apart}
use Rattle.mt_steps.proofs.SplitLemmas.{with_spot, spot_changes}
use Rattle.mt_steps.proofs.AliveLemmas.{alive_gone, alive_there, alive_placed}
use Rattle.mt_remove.specs.declared.tidy.Tidy.{Tidy}
use Rattle.mt_remove.specs.declared.stage.Layer.{Layer}
use Rattle.mt_remove.specs.declared.stage.Stage.TheVariants.{RootMarked, LinkHidden}
use Rattle.mt_remove.specs.Tidy.{layer_owns, StageIsTrue}
use Rattle.mt_remove.specs.Locked.{IsClosing, IsAbove, IsGoneBorder, IsGoneHead}
use Rattle.mt_remove.specs.Follows.{TidyStep}
use Rattle.mt_remove.proofs.StageLemmas.{at_stage}
use Rattle.mt_remove.proofs.LayerFacts.{layer_apart, head_beside}
use Rattle.mt_remove.proofs.ClosingGoes.{without, among_without, without_among}

-- the spot of the head once it is gone, and that of its root, in the layer of a prefix
abbrev pub gone_head : ℕ → List ℕ → Spot
gone_head now prefix = spot top prefix 0 (gone now)

abbrev pub gone_root : ℕ → List ℕ → Spot
gone_root now prefix = spot (at_level 0) prefix 0 (gone now)

-- the world in which they are gone, and in which the root is no closing border any more
abbrev pub closed : World → ℕ → ℕ → ℕ → List ℕ → World
closed w now head root prefix = record {
  twins = w.twins;
  closing = without root w.closing;
  chart = with_spot (with_spot w.chart root (gone_root now prefix)) head (gone_head now prefix);
}

module _ (now : ℕ) (a : ArenaView) (w : World) (layer : Layer) (k : IsClosing layer a w) (world : IsWorld a now w) where
  abbrev n : ℕ
  n = layer.above.0

  abbrev t : ℕ
  t = layer.head.0

  abbrev r : ℕ
  r = layer.root.0

  abbrev b : BorderView
  b = k.above.border.b

  abbrev hide : BorderView → BorderView
  hide x = with_hidden x layer.place

  abbrev new : ArenaView
  new = with_border_changed a n hide

  abbrev below : List ℕ
  below = k.above.slice ∷ k.above.border.prefix

  abbrev next : World
  next = closed w now t r below

  named : border_at a.nodes n ≡ Some b
  named = k.above.border.named

  others : (other : ℕ) → other ≢ n → node_at new.nodes other ≡ node_at a.nodes other
  others = others_named a n b hide named

  two : r ≢ t
  two = head_apart a t r k.head.h k.root.b k.head.named k.root.named

  head_goes : next.chart t ≡ Some (gone_head now below)
  head_goes = (spot_changes (with_spot w.chart r (gone_root now below)) t (gone_head now below)).now

  root_goes : next.chart r ≡ Some (gone_root now below)
  root_goes = (spot_changes (with_spot w.chart r (gone_root now below)) t (gone_head now below)).rest r two ∙ (spot_changes w.chart r (gone_root now below)).now

  others_stay : (other : ℕ) → other ≢ t → other ≢ r → next.chart other ≡ w.chart other
  others_stay other ne_head ne_root = (spot_changes (with_spot w.chart r (gone_root now below)) t (gone_head now below)).rest other ne_head ∙ (spot_changes w.chart r (gone_root now below)).rest other ne_root

  no_twin : (other : ℕ) → AreTwins w.twins other t → ⊥
  no_twin other pair = no_interior a w.chart t (ap (option_and_then interior_of) (node-from_head a.nodes t k.head.h k.head.named)) (world.twins.locked other t pair).1

  -- another head that is on has another root
  other_root : (number : ℕ) (at : List ℕ) (x : HeadView) → number ≢ t → OnHead w.chart number at → head_at a.nodes number ≡ Some x → x.root.0 ≢ r
  other_root number at x differ standing there same =
      let one : Owns (arena_seen a) w.chart number r = by_head at _ standing (seen-head a number x there) same in
      let other : Owns (arena_seen a) w.chart t r = by_head k.prefix _ k.stands (seen-head a t k.head.h k.head.named) (ap (λ (m : NodeNo). m.0) k.names) in
      elim (world.index.owned.one_owner number t r one other) [ inl e ↦ differ e | inr pair ↦ no_twin number pair ]

  heads_hidden : HeadsStand new next.closing next.chart
  heads_hidden = record {
    alive = λ number at x standing there. elim (same_number number t) [
      | inl e ↦ absurd (no_gone_head (sym head_goes ∙ (ap next.chart (sym e) ∙ standing)))
      | inr ne_head ↦ elim (same_number number r) [
        | inl e ↦ absurd (no_gone_root (sym root_goes ∙ (ap next.chart (sym e) ∙ standing)))
        | inr ne_root ↦
            let was_on : OnHead w.chart number at = sym (others_stay number ne_head ne_root) ∙ standing in
            let differ : number ≢ n = λ e. no_top (sym k.above.border.stands.place ∙ (ap w.chart (sym e) ∙ was_on)) in
            let was_there : head_at a.nodes number ≡ Some x = sym (ap (option_and_then head_of) (others number differ)) ∙ there in
            let was = world.heads.alive number at x was_on was_there in
            (elim was.0 [ inl d ↦ inl d | inr i ↦ inr (without_among r x.root.0 w.closing i (other_root number at x ne_head was_on was_there)) ], was.1)
      ]
    ];
    roots = λ number i. roots_kept a new w.closing n (λ k. absurd (free_above k)) others world.heads.roots number (among_without r number w.closing i).0;
  }
    where
      no_top : {low : ℕ} {at other : List ℕ} {posted : Bool} → ◌≡◌ {A = Option Spot} (Some (spot (at_level 0) at low (on posted))) (Some (spot top other 0 (on true))) → ⊥
      no_top e = cc

      no_gone_head : {at other : List ℕ} {epoch : ℕ} → ◌≡◌ {A = Option Spot} (Some (spot top at 0 (gone epoch))) (Some (spot top other 0 (on true))) → ⊥
      no_gone_head e = cc

      no_gone_root : {at other : List ℕ} {epoch : ℕ} → ◌≡◌ {A = Option Spot} (Some (spot (at_level 0) at 0 (gone epoch))) (Some (spot top other 0 (on true))) → ⊥
      no_gone_root e = cc

      free_above : NotAmong n w.closing
      free_above = k.above.border.free

  abbrev between : Chart
  between = with_spot w.chart r (gone_root now below)

  -- the border above is not marked deleted, and the two are gone
  alive_hidden : FreeAreAlive new next.chart
  alive_hidden = alive_there a new next.chart n (alive_changed a n b hide named next.chart (inr k.above.border.alive)) others
      (alive_placed a between next.chart t (Some (gone_head now below)) (spot_changes between t (gone_head now below)) (alive_gone a next.chart t top below 0 now head_goes)
      (alive_placed a w.chart between r (Some (gone_root now below)) (spot_changes w.chart r (gone_root now below)) (alive_gone a between r (at_level 0) below 0 now (spot_changes w.chart r (gone_root now below)).now) world.alive))

  is_hidden : (other : ℕ) → NotAmong other (layer_owns layer) → IsSame a new w next other
  is_hidden other out = record {
    node = others other (λ e. out (subst (λ (m : ℕ). Among m (layer_owns layer)) (sym e) first));
    spot = others_stay other (λ e. out (subst (λ (m : ℕ). Among m (layer_owns layer)) (sym e) (later (later first)))) (λ e. out (subst (λ (m : ℕ). Among m (layer_owns layer)) (sym e) (later first)));
    twins = λ one other here. ((λ x. x), (λ x. x));
    closing = λ i. (among_without r other w.closing i).0;
    retired = ((λ x. x), (λ x. x));
  }

  -- what is then true
  still_above : IsAbove new next n
  still_above = record {
    b = hide b;
    named = now_named a n b hide named;
    locked = k.above.border.locked;
    alive = k.above.border.alive;
    written = k.above.border.written;
    prefix = k.above.border.prefix;
    stands = record {
      low = k.above.border.stands.low;
      posted = k.above.border.stands.posted;
      place = others_stay n (head_apart a t n k.head.h b k.head.named named) (layer_apart a w layer k.root k.above) ∙ k.above.border.stands.place;
    };
    free = λ i. k.above.border.free (among_without r n w.closing i).0;
  }

  then_gone : IsGoneBorder new next r
  then_gone = record {
    b = k.root.b;
    named = ap (option_and_then border_of) (others r (λ e. layer_apart a w layer k.root k.above (sym e))) ∙ k.root.named;
    locked = k.root.locked;
    written = k.root.written;
    prefix = below;
    low = 0;
    epoch = now;
    place = root_goes;
    free = λ i. (among_without r r w.closing i).1 refl;
    kept = locked_kept a now w.chart r (subst (λ (x : Option Node). IsLocked x) (sym (node-from_border a.nodes r k.root.b k.root.named)) k.root.locked) world.retired;
  }

  head_then_gone : IsGoneHead new next t
  head_then_gone = record { head = head_beside a n t b hide named k.head; prefix = below; low = 0; epoch = now; place = head_goes }

  goes_hidden : DropsLayerAt a new n layer.place → Goes now a new w (layer_owns layer) (layer_owns layer) (λ x. IsAbove new x n × IsGoneBorder new x r × IsGoneHead new x t) × SameContent (arena_seen a) (arena_seen new)
  goes_hidden drops =
      let kept = (drops.drops b k.above.slice layer.head k.head.h named k.above.linked k.head.named).keeps now w.twins w.chart next.chart world.index (record {
        prefix = k.above.border.prefix;
        stands = k.above.border.stands;
        no_twin = no_twin;
        head_goes = head_goes;
        root_goes = subst (λ (m : NodeNo). next.chart m.0 ≡ Some (gone_root now below)) (sym k.names) root_goes;
        others = λ other ne_head ne_root. others_stay other ne_head (λ e. ne_root (e ∙ ap (λ (m : NodeNo). m.0) (sym k.names)));
      }) in (
        record {
          next = next;
          world = record {
            index = kept.index;
            keys = keys_same a new kept.content world.keys;
            heads = heads_hidden;
            alive = alive_hidden;
            twins = twins_changed a n b hide named w.chart next.chart w.twins (kept.evolves 0 (omega arith)) world.twins;
            retired = retired_kept a new now w.chart next.chart n (kept.evolves 0 (omega arith)) (on_kept a now w.chart n _ _ _ _ k.above.border.stands.place world.retired) others refl world.retired;
          };
          evolves = kept.evolves;
          leaves = λ other taken out. (is_hidden other out, out);
          takes = λ number taken. elim (is_among number (layer_owns layer)) [
            | inl i ↦ inl i
            | inr out ↦ inr (taken_back a new w next number (is_hidden number out) taken, out)
          ];
          spots = λ number out apart. (is_hidden number out).spot;
          age = age_one n b (hide b) named (now_named a n b hide named) (λ known. (ages_hidden b layer.place k.above.border.written, inr refl)) others;
          true = (still_above, then_gone, head_then_gone);
        },
        kept.content,
      )

-- ---- the step
module _ (epoch : ℕ) (a : ArenaView) (tidy : Tidy) (layer : Layer) (is : tidy.stage ≡ RootMarked layer) where
  pub hides : (after : ArenaView) → after ≡ with_border_changed a layer.above.0 (λ b. with_hidden b layer.place) → DropsLayerAt a after layer.above.0 layer.place → TidyStep epoch a after tidy Moved (record tidy { stage = LinkHidden layer })
  hides after value drops = at_stage epoch a after tidy (RootMarked layer) Moved (record tidy { stage = LinkHidden layer }) is refl (ap (λ (x : ArenaView). x.retired) value) (record {
    reads = tt;
    steps = λ begun w world before truth.
        let (k, marked) = truth in
        subst (λ (x : ArenaView). Goes epoch a x w (layer_owns layer) (layer_owns layer) (λ next. StageIsTrue begun tidy.key tidy.way tidy.finding (LinkHidden layer) x next) × SameContent (arena_seen a) (arena_seen x)) (sym value)
        (goes_hidden epoch a w layer k world (subst (λ (x : ArenaView). DropsLayerAt a x layer.above.0 layer.place) value drops));
  }) tt tt (refl, refl)
