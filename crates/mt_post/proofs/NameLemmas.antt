-- The step of a posting that names a new root over an interior that is split and its new half.
use Rattle.std.proofs.Common.{ℕ, ◌≡◌, ◌≢◌, ◌≤◌, ◌<◌, ◌+◌, inl, inr, List, [], ◌∷◌, slice_get, drop, Option, Some, None, IsSome, true, refl, sym, ap, subst, ◌∙◌, arith}
use Rattle.std.specs.Prelude.{IsSomeAnd}
use Rattle.std.specs.Option.{option_and_then}
use Rattle.mt_types.specs.declared.numbers.NodeNo.{NodeNo}
use Rattle.mt_interior.specs.Head.{HeadView, with_root}
use Rattle.mt_interior.specs.Interior.{InteriorView, StartsAt}
use Rattle.mt_interior.specs.declared.interior.TheConstants.{KEPT_CHILDREN}
use Rattle.mt_arena.specs.Node.{head_at, head_of, interior_at, interior_of, Updates, border_of}
use Rattle.mt_arena.specs.Arena.{ArenaView, IsArena, with_head_changed}
use Rattle.mt_arena.specs.declared.node.Node.{Node}
use Rattle.mt_arena.specs.declared.node.Node.TheVariants.{Head, Interior}
use Rattle.mt_arena.proofs.NodeLemmas.{updates-with_node, node-from_head, node-from_interior}
use Rattle.mt_chart.specs.Tree.{first, later, Among}
use Rattle.mt_chart.specs.Chart.{at_level, on, Spot, spot, Chart, OnHead}
use Rattle.mt_chart.specs.Steps.{SameContent}
use Rattle.mt_chart.proofs.Basics.{same_number}
use Rattle.mt_chart.proofs.Entries.{among_cases}
use Rattle.mt_chart.proofs.Walk.{known_kept}
use Rattle.mt_tree.specs.Seen.{arena_seen}
use Rattle.mt_tree.specs.HeadSteps.{IsRootOverHalf, KeepsRootOverHalf}
use Rattle.mt_tree.proofs.SeenLemmas.{changed-head}
use Rattle.mt_tree.proofs.RootLemmas.{root_of_split}
use Rattle.mt_steps.specs.World.{World, IsWorld, HeadsStand, IsTaken, Goes}
use Rattle.mt_steps.proofs.BorderLemmas.{keys_same, known_stays, no_interior, twins_beside, retired_kept, on_kept, no_root, roots_kept}
use Rattle.mt_steps.proofs.AliveLemmas.{alive_node, alive_there, alive_placed}
use Rattle.mt_steps.proofs.FoundLemmas.{some_at}
use Rattle.mt_steps.proofs.SplitLemmas.{with_spot, spot_changes}
use Rattle.mt_post.specs.declared.posting.Posting.{Posting}
use Rattle.mt_post.specs.declared.posting.Progressed.TheVariants.{Moved}
use Rattle.mt_post.specs.declared.posting.Root.{Root}
use Rattle.mt_post.specs.declared.split.Split.{Split}
use Rattle.mt_post.specs.declared.posting.PostStage.TheVariants.{RootFilled, HalfPosted}
use Rattle.mt_post.specs.Causes.{IsRootStill}
use Rattle.mt_post.specs.Posting.{split_owns, AreWaiting, PostStageIsTrue, IsToPost, IsHeadOf, IsSpareInterior, IsHalved, upper_half, root_over, PostingIsTrue, MayPost}
use Rattle.mt_post.specs.Follows.{PostStep}
use Rattle.mt_steps.proofs.AgingLemmas.{age_beside}
use Rattle.mt_steps.proofs.NodeLemmas.{at_chart, goes_with, interior_is_taken, alive_free, not_both, known_some, root_place, heads_were}
use Rattle.mt_post.proofs.WalkLemmas.{at_stage, true_at, from_head}
use Rattle.mt_post.proofs.KeptLemmas.{all_stay, apart_known, interior_apart_head, owns_below, owns_beside, beside_half}
use Rattle.mt_post.proofs.HalfLemmas.{from_place}
use Rattle.mt_post.proofs.TwinLemmas.{with_pair, pair_cases, pair_same, half_is_posted, twins_now, has_upper, new_pair}
use Rattle.mt_post.proofs.NumberLemmas.{head_leaves_by}

module _ (a : ArenaView) (posting : Posting) (old : Root) (root : NodeNo) (split : Split) (waiting : List Split) (is : posting.stage ≡ RootFilled old root) (some : posting.waiting ≡ split ∷ waiting) (sound : IsArena a) (still : IsRootStill a posting.head.0 old) where
  abbrev n : ℕ
  n = posting.head.0

  abbrev h : HeadView
  h = still.head

  abbrev i : ℕ
  i = split.interior.0

  abbrev m : ℕ
  m = split.half.node.0

  abbrev half : ℕ
  half = posting.half.0

  abbrev owns : List ℕ
  owns = split_owns half (split ∷ waiting)

  abbrev top_root : InteriorView
  top_root = root_over old split.half

  abbrev change : HeadView → HeadView
  change x = with_root x root top_root.level

  abbrev new : ArenaView
  new = with_head_changed a n change

  abbrev then : Posting
  then = record posting { waiting = waiting; stage = HalfPosted split }

  updated : Updates a.nodes new.nodes n (Some (Head (change h)))
  updated = subst (λ (x : ArenaView). Updates a.nodes x.nodes n (Some (Head (change h)))) (sym (changed-head a n h change still.named))
      (updates-with_node a.nodes n (Head (change h)) (subst (λ (x : Option Node). IsSome x) (sym (node-from_head a.nodes n h still.named)) refl))

  none_there : interior_at a.nodes n ≡ None
  none_there = ap (option_and_then interior_of) (node-from_head a.nodes n h still.named)

  -- the root is the interior that is split
  root_is_split : (now begun : ℕ) (w : World) (prefix : List ℕ) → IsWorld a now w → OnHead w.chart n prefix → (s : IsHalved a w prefix split) → old.level < split.half.level + 1 → h.root.0 ≡ i
  root_is_split now begun w prefix world stands s less =
      root_of_split a now w.twins w.chart n i prefix h s.interior sound world.index stands still.named s.splits.named s.splits.stands
      (let same = still.level_is in let level = s.level in omega (arith, same, level, less))

  heads_named : (chart next : Chart) → ((number : ℕ) (layer : List ℕ) → OnHead next number layer → OnHead chart number layer) → {closing : List ℕ} → HeadsStand a closing chart → HeadsStand new closing next
  heads_named chart next were {closing = closing} heads = record {
    alive = λ number layer x place there. elim (same_number number n) [
      | inl e ↦ (let both : ◌≡◌ {A = Option HeadView} (Some (change h)) (Some x) = sym (ap (option_and_then head_of) updated.changed) ∙ (ap (λ (k : ℕ). head_at new.nodes k) (sym e) ∙ there) in
          let same : change h ≡ x = cc in
          let old_head = heads.alive n layer h (subst (λ (k : ℕ). OnHead chart k layer) e (were number layer place)) still.named in
          (inl (ap (λ (v : HeadView). v.version.deleted) (sym same) ∙ still.alive), ap (λ (v : HeadView). v.version.locked) (sym same) ∙ old_head.1))
      | inr apart ↦ heads.alive number layer x (were number layer place) (sym (ap (option_and_then head_of) (updated.others number apart)) ∙ there)
    ];
    roots = roots_kept a new closing n (λ i. absurd (no_root a closing chart n (ap (option_and_then border_of) (node-from_head a.nodes n h still.named)) heads i)) updated.others heads.roots;
  }

  named_so : (now begun : ℕ) (w : World) (prefix : List ℕ) → IsWorld a now w → begun ≤ now → IsToPost a w prefix half posting.low → IsHeadOf w begun n prefix → AreWaiting a w prefix (split ∷ waiting) → old.level < split.half.level + 1
      → IsSpareInterior a w root.0 top_root → KeepsRootOverHalf a new n root.0
      → Goes now a new w (root.0 ∷ owns) owns (λ next. PostingIsTrue begun then new next) × SameContent (arena_seen a) (arena_seen new)
  named_so now begun w prefix world before t known (above, s, more) less spare keeps =
      let (stands, is_root) = root_place a w.chart begun n split.half.low prefix h world.index.tree ((from_head begun prefix split.half n w known).held) still.named still.alive in
      let all : AreWaiting a w prefix (split ∷ waiting) = (above, s, more) in
      let u = upper_half s.interior split.half.low in
      let half_place : Spot = spot (at_level s.interior.level) prefix split.half.low (on true) in
      let root_at : Spot = spot (at_level top_root.level) prefix 0 (on true) in
      let between : Chart = with_spot w.chart m half_place in
      let chart : Chart = with_spot between root.0 root_at in
      let half_charted = spot_changes w.chart m half_place in
      let root_charted = spot_changes between root.0 root_at in
      let is_i = root_is_split now begun w prefix world stands s less in
      let is_known = known_some w n _ stands in
      let free = (world.heads.alive n prefix h stands still.named).1 in
      let i_apart = interior_apart_head a w prefix n i s.interior h s.splits.named still.named in
      let m_apart = interior_apart_head a w prefix n m u h s.spare.named still.named in
      let x_apart = interior_apart_head a w prefix n root.0 top_root h spare.named still.named in
      let head_free : IsTaken a w n → ⊥ = λ taken. alive_free a n h w still.named free still.alive is_known taken in
      let below_root : (number : ℕ) → Among number owns → number ≢ root.0 = owns_below a w prefix half posting.low root.0 top_root (split ∷ waiting) t all spare.named (omega arith) in
      let apart_n : (number : ℕ) → Among number owns → number ≢ n = owns_beside a w prefix half posting.low n (split ∷ waiting) t all head_free in
      let i_spot = root_charted.rest i (apart_known a w prefix i root.0 _ s.splits.stands.place spare.unknown) ∙ half_charted.rest i (apart_known a w prefix i m _ s.splits.stands.place s.spare.unknown) in
      let m_spot = root_charted.rest m (below_root m first) ∙ half_charted.now in
      let stay = all_stay a new w (record { twins = with_pair m i w.twins; closing = w.closing; chart = chart }) prefix half posting.low waiting (λ number k.
      let (not_half, not_split) = beside_half a w prefix split half posting.low waiting t s above more number k in
      record { node = updated.others number (apart_n number (later (later k))); spot = root_charted.rest number (below_root number (later (later k))) ∙ half_charted.rest number not_half; twins = pair_same m i w.twins number not_half not_split; closing = λ j. j; retired = ((λ e. e), (λ e. e)) }) t more in
      let kept = keeps.keeps now w.twins (with_pair m i w.twins) w.chart chart world.index (record {
        old = h;
        root = top_root;
        posted = split.half;
        split = s.interior;
        half = u;
        is_old = still.named;
        is_root = spare.named;
        is_posted = ap (option_and_then (λ v. slice_get v.children 1)) spare.named;
        is_split = ap (λ (k : ℕ). interior_at a.nodes k) is_i ∙ s.splits.named;
        is_half = s.spare.named;
        upper = has_upper a new now w chart prefix split world s;
        prefix = prefix;
        stands = stands;
        unknown = spare.unknown;
        half_unknown = s.spare.unknown;
        between = between;
        half_charted = half_charted;
        root_charted = root_charted;
        kept_twins = λ one other pair. later (later pair);
        new_twins = λ other either. new_pair a new now w chart prefix split world s other (elim either [ inl e ↦ inl (e ∙ is_i) | inr pair ↦ inr (subst (λ (k : ℕ). Among (record { one = other; other = k }) w.twins) is_i pair) ]);
        no_twin = (
          (λ other pair. elim (pair_cases m i w.twins other n pair) [
            | inl e ↦ i_apart (sym e.1)
            | inr rest ↦ elim rest [ inl e ↦ m_apart (sym e.1) | inr o ↦ no_interior a w.chart n none_there (world.twins.locked other n o).1 ]
          ]),
          (λ other pair. elim (pair_cases m i w.twins n other pair) [
            | inl e ↦ m_apart (sym e.0)
            | inr rest ↦ elim rest [ inl e ↦ i_apart (sym e.0) | inr o ↦ no_interior a w.chart n none_there (world.twins.locked n other o).0 ]
          ]),
        );
      }) in (
        goes_with now a new w (record { twins = with_pair m i w.twins; closing = w.closing; chart = chart }) n (root.0 ∷ owns) owns (λ next. PostingIsTrue begun then new next) (record {
          index = kept.index;
          keys = keys_same a new kept.content world.keys;
          heads = heads_named w.chart chart (λ number layer place. heads_were w.chart between m s.interior.level split.half.low prefix (on true) half_charted number layer (heads_were between chart root.0 top_root.level 0 prefix (on true) root_charted number layer place)) world.heads;
          alive = alive_there a new chart n (alive_node new chart n (Head (change h)) updated.changed (inr still.alive)) updated.others
              (alive_placed a between chart root.0 (Some root_at) root_charted (alive_node a chart root.0 (Interior top_root) (node-from_interior a.nodes root.0 top_root spare.named) (inr refl))
              (alive_placed a w.chart between m (Some half_place) half_charted (alive_node a between m (Interior u) (node-from_interior a.nodes m u s.spare.named) (inl refl)) world.alive));
          twins = twins_now a new now w chart prefix split world s (updated.others i i_apart) (updated.others m m_apart) i_spot m_spot (twins_beside a new w.chart chart w.twins n (kept.evolves 0 (omega arith)) (no_interior a w.chart n none_there) updated.others world.twins);
          retired = retired_kept a new now w.chart chart n (kept.evolves 0 (omega arith)) (on_kept a now w.chart n _ _ _ _ stands world.retired) updated.others refl world.retired;
        }) (age_beside n (ap (option_and_then border_of) (node-from_head a.nodes n h still.named)) updated.others) refl refl kept.evolves updated.others
            (λ other apart. root_charted.rest other (λ e. apart (subst (λ (k : ℕ). Among k (root.0 ∷ owns)) (sym e) first)) ∙ half_charted.rest other (λ e. apart (subst (λ (k : ℕ). Among k (root.0 ∷ owns)) (sym e) (later first))))
            (λ other apart. pair_same m i w.twins other (λ e. apart (subst (λ (k : ℕ). Among k (root.0 ∷ owns)) (sym e) (later first))) (λ e. apart (subst (λ (k : ℕ). Among k (root.0 ∷ owns)) (sym e) (later (later first)))))
            (λ taken apart. head_free taken)
            (λ other taken out k. out (later k))
            (λ other k taken. elim (among_cases other root.0 owns k) [
              | inl e ↦ absurd (not_both top_root.version.locked (chart root.0) refl (known_some (at_chart w chart) root.0 root_at root_charted.now)
                  (interior_is_taken new root.0 top_root (at_chart w chart) (ap (option_and_then interior_of) (updated.others root.0 x_apart) ∙ spare.named) (subst (λ (k : ℕ). IsTaken new (at_chart w chart) k) e taken)))
              | inr j ↦ j
            ])
            (λ apart taken. absurd (alive_free new n (change h) (at_chart w chart) (ap (option_and_then head_of) updated.changed) free still.alive (known_stays w.chart chart n (kept.evolves 0 (omega arith)) is_known) taken)) (
              prefix,
              record {
                border = stay.0;
                head = known_kept begun n _ prefix 0 w.chart chart (kept.evolves begun before) known;
                waiting = stay.1;
                walks = tt;
                stage = (above, half_is_posted a new now w chart prefix split world s (updated.others i i_apart) (updated.others m m_apart) i_spot m_spot);
              },
            ),
        kept.content,
      )

  pub names_half : (after : ArenaView) → IsSomeAnd (interior_at a.nodes root.0) (λ x. after ≡ with_head_changed a n (λ v. with_root v root x.level)) → KeepsRootOverHalf a after n root.0 → PostStep a after posting Moved then
  names_half after value keeps = at_stage a after posting (split ∷ waiting) (RootFilled old root) Moved then some is (record {
    steps = λ now begun w prefix world before t known all truth.
        let (less, spare) = truth in
        let same : after ≡ new = some_at _ (interior_at a.nodes root.0) top_root value spare.named in
        subst (λ (x : ArenaView). Goes now a x w (root.0 ∷ owns) owns (λ next. PostingIsTrue begun then x next) × SameContent (arena_seen a) (arena_seen x)) (sym same)
        (named_so now begun w prefix world before t known all less spare (subst (λ (x : ArenaView). KeepsRootOverHalf a x n root.0) same keeps));
    same = refl;
    waits = tt;
    ends = tt;
    gets_on = inl (still, (split, some, refl));
    numbers = (head_leaves_by a after n (λ (x : InteriorView) (v : HeadView). with_root v root x.level) (interior_at a.nodes root.0) value (λ x h. refl)).0;
    marks = (head_leaves_by a after n (λ (x : InteriorView) (v : HeadView). with_root v root x.level) (interior_at a.nodes root.0) value (λ x h. refl)).1;
    heads = tt;
  })

  -- what the call asks
  pub may_name_half : (may : MayPost a posting) → IsSomeAnd (head_at a.nodes n) (λ x. IsSomeAnd (interior_at a.nodes root.0) (IsRootOverHalf a.nodes x))
  may_name_half may =
      let prefix = may.true.0 in
      let s = (subst (λ (o : List Split). AreWaiting a may.w prefix o) some may.true.1.waiting).1 in
      let (less, spare) = subst (λ (o : List Split). PostStageIsTrue may.begun prefix posting.half posting.low o (RootFilled old root) a may.w) some (true_at may.begun a may.w posting (RootFilled old root) is may.true) in
      let (stands, is_root) = root_place a may.w.chart may.begun n split.half.low prefix h may.world.index.tree ((from_head may.begun prefix split.half n may.w may.true.1.head).held) still.named still.alive in
      let is_i = root_is_split may.now may.begun may.w prefix may.world stands s less in
      let (middle, read, low_is) = s.starts in
      subst (λ (o : Option HeadView). IsSomeAnd o (λ x. IsSomeAnd (interior_at a.nodes root.0) (IsRootOverHalf a.nodes x))) (sym still.named)
      (subst (λ (o : Option InteriorView). IsSomeAnd o (IsRootOverHalf a.nodes h)) (sym spare.named) (record {
        low = refl;
        split = s.interior;
        is_split = ap (λ (k : ℕ). interior_at a.nodes k) is_i ∙ s.splits.named;
        posted = split.half;
        half = upper_half s.interior split.half.low;
        is_half = s.spare.named;
        half_low = refl;
        half_level = s.level;
        half_starts = subst (λ (l : ℕ). StartsAt l (drop KEPT_CHILDREN s.interior.children)) low_is (from_place KEPT_CHILDREN s.interior.children middle read);
        children = ap (λ (r : NodeNo). record { low = 0; node = r; level = old.level } ∷ split.half ∷ []) (sym still.root_is) ∙ ap (λ (l : ℕ). record { low = 0; node = h.root; level = l } ∷ split.half ∷ []) (sym still.level_is);
      }))
