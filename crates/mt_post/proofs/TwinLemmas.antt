-- The steps of a posting that make twins, and that end them: the new half of an interior is named, and then the interior is cut.
use Rattle.std.proofs.Common.{ℕ, ◌≡◌, ◌≢◌, ◌≤◌, ◌<◌, ◌⊎◌, inl, inr, List, ◌∷◌, Option, Some, IsSome, true, false, refl, sym, ap, subst, ◌∙◌, arith}
use Rattle.std.specs.Prelude.{IsSomeAnd}
use Rattle.std.specs.Option.{option_and_then}
use Rattle.mt_types.specs.declared.numbers.NodeNo.{NodeNo}
use Rattle.mt_interior.specs.Interior.{InteriorView, with_child}
use Rattle.mt_interior.specs.declared.child.Child.{Child}
use Rattle.mt_interior.specs.declared.interior.TheConstants.{KEPT_CHILDREN}
use Rattle.mt_arena.specs.Node.{node_at, interior_at, interior_of}
use Rattle.mt_arena.specs.Arena.{ArenaView, with_interior_changed}
use Rattle.mt_arena.specs.declared.node.Node.TheVariants.{Interior}
use Rattle.mt_arena.proofs.NodeLemmas.{node-from_interior}
use Rattle.mt_chart.specs.Tree.{first, later, Among}
use Rattle.mt_chart.specs.Chart.{at_level, on, Spot, spot, Chart}
use Rattle.mt_chart.specs.Steps.{Twin, AreTwins, SameContent}
use Rattle.mt_chart.proofs.Entries.{among_cases}
use Rattle.mt_chart.proofs.Walk.{known_kept}
use Rattle.mt_tree.specs.Seen.{arena_seen}
use Rattle.mt_tree.specs.InteriorSteps.{HasUpperChildren, HasRoomFrom, KeepsHalf}
use Rattle.mt_steps.specs.World.{World, IsWorld, IsLockedInterior, TwinsAreLocked, HasSameTwins, IsTaken, Goes}
use Rattle.mt_steps.proofs.BorderLemmas.{keys_same, known_stays, twins_beside, retired_kept, on_kept}
use Rattle.mt_steps.proofs.AliveLemmas.{alive_node, alive_there, alive_placed}
use Rattle.mt_steps.proofs.FoundLemmas.{some_at}
use Rattle.mt_steps.proofs.SplitLemmas.{with_spot, spot_changes}
use Rattle.mt_post.specs.declared.posting.Posting.{Posting}
use Rattle.mt_post.specs.declared.posting.Progressed.TheVariants.{Moved}
use Rattle.mt_post.specs.declared.split.Split.{Split}
use Rattle.mt_post.specs.declared.posting.PostStage.TheVariants.{Walks, HalfPosted}
use Rattle.mt_post.specs.Causes.{HasRoomAt}
use Rattle.mt_post.specs.Posting.{goal, split_owns, AreWaiting, IsToPost, IsHeadOf, IsWalking, IsHalved, IsPostedHalf, upper_half, PostingIsTrue, MayPost}
use Rattle.mt_post.specs.Follows.{FollowsInterior, PostStep}
use Rattle.mt_steps.proofs.AgingLemmas.{age_beside}
use Rattle.mt_steps.proofs.NodeLemmas.{goes_with, heads_beside, interior_others, interior_no_head, interior_no_border, interior_alive, interior_taken, interior_is_taken, not_both, known_some, heads_were}
use Rattle.mt_post.proofs.WalkLemmas.{at_stage, true_at, in_layer, is_above, room_for}
use Rattle.mt_post.proofs.KeptLemmas.{all_stay, apart_known, owns_beside, beside_half}
use Rattle.mt_post.proofs.NumberLemmas.{interior_leaves_by}

-- ---- two more twins
abbrev pub with_pair : ℕ → ℕ → List Twin → List Twin
with_pair half number twins = record { one = half; other = number } ∷ record { one = number; other = half } ∷ twins

pub pair_cases : (half number : ℕ) (twins : List Twin) (one other : ℕ) → AreTwins (with_pair half number twins) one other → ((one ≡ half) × (other ≡ number)) ⊎ (((one ≡ number) × (other ≡ half)) ⊎ AreTwins twins one other)
pair_cases half number twins one other pair = elim (among_cases (record { one = one; other = other }) (record { one = half; other = number }) (record { one = number; other = half } ∷ twins) pair) [
  | inl e ↦ inl (ap (λ (t : Twin). t.one) e, ap (λ (t : Twin). t.other) e)
  | inr i ↦ elim (among_cases (record { one = one; other = other }) (record { one = number; other = half }) twins i) [
    | inl e ↦ inr (inl (ap (λ (t : Twin). t.one) e, ap (λ (t : Twin). t.other) e))
    | inr j ↦ inr (inr j)
  ]
]

-- others have the twins that they had
pub pair_same : (half number : ℕ) (twins : List Twin) (other : ℕ) → other ≢ half → other ≢ number → HasSameTwins twins (with_pair half number twins) other
pair_same half number twins other not_half not_number one two here = (
  (λ pair. elim (pair_cases half number twins one two pair) [
    | inl e ↦ absurd (elim here [ inl h ↦ not_half (sym h ∙ e.0) | inr h ↦ not_number (sym h ∙ e.1) ])
    | inr rest ↦ elim rest [
      | inl e ↦ absurd (elim here [ inl h ↦ not_number (sym h ∙ e.0) | inr h ↦ not_half (sym h ∙ e.1) ])
      | inr old ↦ old
    ]
  ]),
  (λ old. later (later old)),
)

-- the pair is locked, and the twins that there were
pair_locked : (a : ArenaView) (chart : Chart) (half number : ℕ) (twins : List Twin) → IsLockedInterior a chart half → IsLockedInterior a chart number → TwinsAreLocked a chart twins → TwinsAreLocked a chart (with_pair half number twins)
pair_locked a chart half number twins locked_half locked all = record {
  locked = λ one other pair. elim (pair_cases half number twins one other pair) [
    | inl e ↦ (subst (λ (m : ℕ). IsLockedInterior a chart m) (sym e.0) locked_half, subst (λ (m : ℕ). IsLockedInterior a chart m) (sym e.1) locked)
    | inr rest ↦ elim rest [
      | inl e ↦ (subst (λ (m : ℕ). IsLockedInterior a chart m) (sym e.0) locked, subst (λ (m : ℕ). IsLockedInterior a chart m) (sym e.1) locked_half)
      | inr old ↦ all.locked one other old
    ]
  ];
}

-- ---- the new half is named: what holds then
module _ (a after : ArenaView) (now : ℕ) (w : World) (chart : Chart) (prefix : List ℕ) (split : Split) (world : IsWorld a now w) (h : IsHalved a w prefix split) where
  abbrev i : ℕ
  i = split.interior.0

  abbrev m : ℕ
  m = split.half.node.0

  abbrev u : InteriorView
  u = upper_half h.interior split.half.low

  abbrev more : List Twin
  more = with_pair m i w.twins

  abbrev half_place : Spot
  half_place = spot (at_level h.interior.level) prefix split.half.low (on true)

  -- the new half was no twin
  half_alone : (other : ℕ) → (AreTwins w.twins m other ⊎ AreTwins w.twins other m) → ⊥
  half_alone other (inl pair) = (let known = (world.twins.locked m other pair).0.known in let clash : false ≡ true = subst (λ (x : Option Spot). IsSome x) h.spare.unknown known in cc)
  half_alone other (inr pair) = (let known = (world.twins.locked other m pair).1.known in let clash : false ≡ true = subst (λ (x : Option Spot). IsSome x) h.spare.unknown known in cc)

  pub half_is_posted : node_at after.nodes i ≡ node_at a.nodes i → node_at after.nodes m ≡ node_at a.nodes m → chart i ≡ w.chart i → chart m ≡ Some half_place
      → IsPostedHalf after (record { twins = more; closing = w.closing; chart = chart }) prefix split
  half_is_posted same same_half same_spot charted = record {
    interior = h.interior;
    half = u;
    named = ap (option_and_then interior_of) same ∙ h.splits.named;
    half_named = ap (option_and_then interior_of) same_half ∙ h.spare.named;
    locked = h.splits.locked;
    half_locked = refl;
    alive = h.splits.alive;
    half_alive = refl;
    level = sym h.level;
    half_level = sym h.level;
    stands = record { level = h.splits.stands.level; low = h.splits.stands.low; posted = h.splits.stands.posted; place = same_spot ∙ h.splits.stands.place };
    half_stands = record { level = h.interior.level; low = split.half.low; posted = true; place = charted };
    full = h.splits.full;
    upper = refl;
    twins = λ one other pair here. elim (pair_cases m i w.twins one other pair) [
      | inl e ↦ inl e.0
      | inr rest ↦ elim rest [
        | inl e ↦ inr e.1
        | inr old ↦ absurd (elim here [
          | inl at ↦ h.splits.lone.1 other (subst (λ (x : ℕ). AreTwins w.twins x other) at old)
          | inr at ↦ h.splits.lone.0 one (subst (λ (x : ℕ). AreTwins w.twins one x) at old)
        ])
      ]
    ];
    half_twins = λ one other pair here. elim (pair_cases m i w.twins one other pair) [
      | inl e ↦ inr e.1
      | inr rest ↦ elim rest [
        | inl e ↦ inl e.0
        | inr old ↦ absurd (elim here [
          | inl at ↦ half_alone other (inl (subst (λ (x : ℕ). AreTwins w.twins x other) at old))
          | inr at ↦ half_alone one (inr (subst (λ (x : ℕ). AreTwins w.twins one x) at old))
        ])
      ]
    ];
  }

  -- the new twins are locked
  pub twins_now : node_at after.nodes i ≡ node_at a.nodes i → node_at after.nodes m ≡ node_at a.nodes m → chart i ≡ w.chart i → chart m ≡ Some half_place → TwinsAreLocked after chart w.twins → TwinsAreLocked after chart more
  twins_now same same_half same_spot charted all = pair_locked after chart m i w.twins
      (record {
        known = subst (λ (x : Option Spot). IsSome x) (sym charted) refl;
        locked = subst (λ (o : Option InteriorView). IsSomeAnd o (λ x. x.version.locked ≡ true)) (sym (ap (option_and_then interior_of) same_half ∙ h.spare.named)) refl;
      })
      (record {
        known = subst (λ (x : Option Spot). IsSome x) (sym (same_spot ∙ h.splits.stands.place)) refl;
        locked = subst (λ (o : Option InteriorView). IsSomeAnd o (λ x. x.version.locked ≡ true)) (sym (ap (option_and_then interior_of) same ∙ h.splits.named)) h.splits.locked;
      }) all

  pub has_upper : HasUpperChildren u h.interior
  has_upper = record { place = KEPT_CHILDREN; within = let full = h.splits.full in omega (arith, full); level = refl; children = refl }

  pub new_pair : (other : ℕ) → (other ≡ i) ⊎ AreTwins w.twins other i → AreTwins more m other × AreTwins more other m
  new_pair other (inl e) = (subst (λ (x : ℕ). AreTwins more m x) (sym e) first, subst (λ (x : ℕ). AreTwins more x m) (sym e) (later first))
  new_pair other (inr pair) = absurd (h.splits.lone.0 other pair)

-- ---- an interior that has room names the new half
module _ (a : ArenaView) (posting : Posting) (node : NodeNo) (split : Split) (waiting : List Split) (is : posting.stage ≡ Walks node) (some : posting.waiting ≡ split ∷ waiting) (r : HasRoomAt a posting node.0) where
  abbrev n : ℕ
  n = node.0

  abbrev owns : List ℕ
  owns = split_owns posting.half.0 (split ∷ waiting)

  abbrev names : InteriorView → InteriorView → InteriorView
  names upper x = with_child x (record { low = upper.low; node = split.half.node; level = upper.level })

  abbrev then : Posting
  then = record posting { waiting = waiting; stage = HalfPosted split }

  named_so : (now begun : ℕ) (w : World) (prefix : List ℕ) → IsWorld a now w → begun ≤ now → IsToPost a w prefix posting.half.0 posting.low → IsHeadOf w begun posting.head.0 prefix → (all : AreWaiting a w prefix (split ∷ waiting)) → IsWalking begun prefix split.half n w
      → KeepsHalf a (with_interior_changed a n (names (upper_half all.1.interior split.half.low))) n split.half.node.0
      → Goes now a (with_interior_changed a n (names (upper_half all.1.interior split.half.low))) w owns owns (λ next. PostingIsTrue begun then (with_interior_changed a n (names (upper_half all.1.interior split.half.low))) next)
      × SameContent (arena_seen a) (arena_seen (with_interior_changed a n (names (upper_half all.1.interior split.half.low))))
  named_so now begun w prefix world before t known (above, h, more) truth keeps =
      let x = r.interior in
      let i : ℕ = split.interior.0 in
      let m : ℕ = split.half.node.0 in
      let half : ℕ = posting.half.0 in
      let change = names (upper_half h.interior split.half.low) in
      let new : ArenaView = with_interior_changed a n change in
      let place : Spot = spot (at_level h.interior.level) prefix split.half.low (on true) in
      let chart : Chart = with_spot w.chart m place in
      let next : World = record { twins = with_pair m i w.twins; closing = w.closing; chart = chart } in
      let charted = spot_changes w.chart m place in
      let stands = in_layer a posting node is (goal posting.half posting.low posting.waiting) refl x r.named r.alive r.unlocked begun w.chart prefix split.half.low world.index.tree truth.held in
      let is_known = known_some w n _ stands.place in
      let others = interior_others a n x change r.named in
      let free : IsTaken a w n → ⊥ = λ taken. not_both x.version.locked (w.chart n) r.unlocked is_known (interior_is_taken a n x w r.named taken) in
      let apart : (number : ℕ) → Among number owns → number ≢ n = owns_beside a w prefix half posting.low n (split ∷ waiting) t (above, h, more) free in
      let i_spot = charted.rest i (apart_known a w prefix i m _ h.splits.stands.place h.spare.unknown) in
      let kept = keeps.keeps now i w.twins (with_pair m i w.twins) w.chart chart world.index (record {
        split = h.interior;
        half = upper_half h.interior split.half.low;
        is_split = h.splits.named;
        is_half = h.spare.named;
        upper = has_upper a new now w chart prefix split world h;
        prefix = prefix;
        stands = stands;
        split_stands = h.splits.stands;
        unknown = h.spare.unknown;
        charted = charted;
        kept_twins = λ one other pair. later (later pair);
        new_twins = new_pair a new now w chart prefix split world h;
      }) in
      let clash_locked : IsLockedInterior a w.chart n → ⊥ = λ locked. (let clash : false ≡ true = sym r.unlocked ∙ some_at _ (interior_at a.nodes n) x locked.locked r.named in cc) in
      let stay = all_stay a new w next prefix half posting.low waiting (λ number k. record {
        node = others number (apart number (later (later k)));
        spot = charted.rest number (beside_half a w prefix split half posting.low waiting t h above more number k).0;
        twins = pair_same m i w.twins number (beside_half a w prefix split half posting.low waiting t h above more number k).0 (beside_half a w prefix split half posting.low waiting t h above more number k).1;
        closing = λ j. j;
        retired = ((λ e. e), (λ e. e));
      }) t more in (
        goes_with now a new w next n owns owns (λ v. PostingIsTrue begun then new v) (record {
          index = kept.index;
          keys = keys_same a new kept.content world.keys;
          heads = heads_beside a new w.chart chart n (heads_were w.chart chart m h.interior.level split.half.low prefix (on true) charted) (interior_no_head a n x change r.named) (interior_no_border a n x change r.named) others world.heads;
          alive = alive_there a new chart n (interior_alive a n x change r.named chart (inr r.alive)) others
              (alive_placed a w.chart chart m (Some place) charted (alive_node a chart m (Interior (upper_half h.interior split.half.low)) (node-from_interior a.nodes m _ h.spare.named) (inl refl)) world.alive);
          twins = twins_now a new now w chart prefix split world h (others i (apart i (later first))) (others m (apart m first)) i_spot charted.now (twins_beside a new w.chart chart w.twins n (kept.evolves 0 (omega arith)) clash_locked others world.twins);
          retired = retired_kept a new now w.chart chart n (kept.evolves 0 (omega arith)) (on_kept a now w.chart n _ _ _ _ stands.place world.retired) others refl world.retired;
        }) (age_beside n (interior_no_border a n x change r.named) others) refl refl kept.evolves others
            (λ other out. charted.rest other (λ e. out (subst (λ (k : ℕ). Among k owns) (sym e) first)))
            (λ other out. pair_same m i w.twins other (λ e. out (subst (λ (k : ℕ). Among k owns) (sym e) first)) (λ e. out (subst (λ (k : ℕ). Among k owns) (sym e) (later first))))
            (λ taken out. free taken) (λ other taken out k. out k) (λ other k taken. k)
            (λ out taken. absurd (not_both x.version.locked (chart n) r.unlocked (known_stays w.chart chart n (kept.evolves 0 (omega arith)) is_known) (interior_taken a n x change r.named (record { twins = w.twins; closing = w.closing; chart = chart }) taken))) (
              prefix,
              record {
                border = stay.0;
                head = known_kept begun posting.head.0 _ prefix 0 w.chart chart (kept.evolves begun before) known;
                waiting = stay.1;
                walks = tt;
                stage = (above, half_is_posted a new now w chart prefix split world h (others i (apart i (later first))) (others m (apart m first)) i_spot charted.now);
              },
            ),
        kept.content,
      )

  pub posts_half : (after : ArenaView) → IsSomeAnd (interior_at a.nodes split.half.node.0) (λ upper. after ≡ with_interior_changed a n (names upper)) → KeepsHalf a after n split.half.node.0 → PostStep a after posting Moved then
  posts_half after value keeps = at_stage a after posting (split ∷ waiting) (Walks node) Moved then some is (record {
    steps = λ now begun w prefix world before t known all truth.
        let h = all.1 in
        let same : after ≡ with_interior_changed a n (names (upper_half h.interior split.half.low)) = some_at _ (interior_at a.nodes split.half.node.0) (upper_half h.interior split.half.low) value h.spare.named in
        subst (λ (x : ArenaView). Goes now a x w owns owns (λ next. PostingIsTrue begun then x next) × SameContent (arena_seen a) (arena_seen x)) (sym same)
        (named_so now begun w prefix world before t known all truth (subst (λ (x : ArenaView). KeepsHalf a x n split.half.node.0) same keeps));
    same = refl;
    waits = tt;
    ends = tt;
    gets_on = inr (subst (λ (o : Option InteriorView). IsSomeAnd o (FollowsInterior posting then node)) (sym r.named) (inr (r.stops, inl (r.room, (split, some, refl)))));
    numbers = (interior_leaves_by a after n names (interior_at a.nodes split.half.node.0) value (λ x i. refl)).numbers;
    heads = (interior_leaves_by a after n names (interior_at a.nodes split.half.node.0) value (λ x i. refl)).heads;
    marks = (interior_leaves_by a after n names (interior_at a.nodes split.half.node.0) value (λ x i. refl)).marks;
  })

  -- what the call asks
  pub may_post_half : (may : MayPost a posting) → IsSomeAnd (interior_at a.nodes split.half.node.0) (λ upper. IsSomeAnd (interior_at a.nodes n) (HasRoomFrom upper.low)) × IsSomeAnd (interior_at a.nodes split.half.node.0) (λ upper. IsSomeAnd (interior_at a.nodes n) (λ x. upper.level < x.level))
  may_post_half may =
      let wanted : Child = goal posting.half posting.low posting.waiting in
      let (less, h, more) = subst (λ (o : List Split). AreWaiting a may.w may.true.0 o) some may.true.1.waiting in
      let room = room_for a posting node is wanted refl r.interior r.named r.alive r.unlocked may r.room in
      let above : split.half.level < r.interior.level = subst (λ (o : List Split). (goal posting.half posting.low o).level < r.interior.level) some
      (is_above a posting node is wanted refl r.interior r.named r.alive r.unlocked may.begun may.true.0 may.w may.world.index.tree (true_at may.begun a may.w posting (Walks node) is may.true)) in (
        subst (λ (o : Option InteriorView). IsSomeAnd o (λ upper. IsSomeAnd (interior_at a.nodes n) (HasRoomFrom upper.low))) (sym h.spare.named) (subst (λ (o : List Split). IsSomeAnd (interior_at a.nodes n) (HasRoomFrom (goal posting.half posting.low o).low)) some room),
        subst (λ (o : Option InteriorView). IsSomeAnd o (λ upper. IsSomeAnd (interior_at a.nodes n) (λ x. upper.level < x.level))) (sym h.spare.named)
            (subst (λ (o : Option InteriorView). IsSomeAnd o (λ x. h.interior.level < x.level)) (sym r.named) (let same = h.level in omega (arith, above, same))),
      )
