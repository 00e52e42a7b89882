-- The steps of a posting that makes a new root: a number is spared and filled, and the head names it, or it is given back.
use Rattle.std.proofs.Common.{ℕ, ◌≡◌, ◌≢◌, ◌≤◌, ◌<◌, ◌+◌, ◌⊎◌, inl, inr, List, [], ◌∷◌, slice_get, Option, Some, None, IsSome, true, false, refl, sym, ap, subst, ◌∙◌, arith}
use Rattle.std.specs.Prelude.{IsSomeAnd}
use Rattle.std.specs.Option.{option_and_then}
use Rattle.mt_types.specs.declared.limits.TheConstants.{MAX_LEVEL}
use Rattle.mt_post.specs.declared.split.Split.{Split}
use Rattle.mt_post.proofs.KeptLemmas.{all_stay, same_beside, apart_from, apart_head, owns_below, owns_beside, goal_below, goal_has_level}
use Rattle.mt_types.specs.declared.numbers.NodeNo.{NodeNo}
use Rattle.mt_interior.specs.Head.{HeadView, with_root}
use Rattle.mt_interior.specs.Interior.{InteriorView, with_children, with_lock}
use Rattle.mt_interior.specs.declared.child.Child.{Child}
use Rattle.mt_arena.specs.Node.{node_at, head_at, head_of, interior_at, interior_of, border_of, Updates, border_at}
use Rattle.mt_arena.specs.Arena.{ArenaView, with_head_changed, with_interior_changed, without_node}
use Rattle.mt_arena.specs.declared.node.Node.{Node}
use Rattle.mt_arena.specs.declared.node.Node.TheVariants.{Head, Interior, Border}
use Rattle.mt_arena.proofs.NodeLemmas.{updates-with_node, updates-without, node-from_head, node-from_interior, node-from_border}
use Rattle.mt_chart.specs.Tree.{first, later, Among}
use Rattle.mt_chart.specs.Chart.{at_level, on, gone, Spot, spot, Chart, OnHead}
use Rattle.mt_chart.specs.Steps.{Keeps, SameContent}
use Rattle.mt_chart.proofs.Basics.{same_number}
use Rattle.mt_chart.proofs.Entries.{among_cases}
use Rattle.mt_chart.proofs.HeldNodes.{evolves_same}
use Rattle.mt_tree.specs.Seen.{arena_seen}
use Rattle.mt_tree.specs.Keeping.{KeepsTree, KeepsUnknown, KeepsWhere, KeepsAlong, IsUnknown}
use Rattle.mt_tree.specs.InteriorSteps.{IsNotGone}
use Rattle.mt_tree.specs.HeadSteps.{IsRootOver, NamesRootAt}
use Rattle.mt_tree.proofs.SeenLemmas.{changed-head}
use Rattle.mt_steps.specs.World.{World, IsWorld, HeadsStand, IsLocked, IsTaken, IsSame, Goes}
use Rattle.mt_steps.proofs.BorderLemmas.{known_stays, no_interior, unknown_kept, on_kept, no_root, roots_kept}
use Rattle.mt_steps.proofs.AliveLemmas.{alive_node, alive_unknown, alive_there, alive_placed}
use Rattle.mt_steps.proofs.FoundLemmas.{some_at}
use Rattle.mt_steps.proofs.SplitLemmas.{goes_occupied, with_spot, spot_changes}
use Rattle.mt_post.specs.declared.posting.Posting.{Posting}
use Rattle.mt_post.specs.declared.posting.PostEnd.TheVariants.{Posted}
use Rattle.mt_post.specs.declared.posting.Progressed.TheVariants.{Moved, Ended}
use Rattle.mt_post.specs.declared.posting.Root.{Root}
use Rattle.mt_post.specs.declared.posting.PostStage.TheVariants.{Walks, RootWanted, RootSpared, RootFilled, RootLate}
use Rattle.mt_post.specs.Posting.{goal, goal_level, split_owns, AreWaiting, IsToPost, IsHeadOf, IsSpareInterior, root_children, new_root, root_over, PostingIsTrue, ThenPosts, MayPost}
use Rattle.mt_post.specs.Causes.{IsRootStill}
use Rattle.mt_post.specs.Follows.{PostStep}
use Rattle.mt_steps.proofs.AgingLemmas.{age_beside}
use Rattle.mt_steps.proofs.NodeLemmas.{at_chart, goes_at, heads_beside, interior_now, interior_others, interior_no_head, interior_no_border, interior_is_taken, alive_free, not_both, known_some, root_place, heads_were, head_there}
use Rattle.mt_post.proofs.WalkLemmas.{at_stage, true_at, from_head, goes_on}
use Rattle.mt_post.specs.Follows.{OccupiesOne, GivesOneBack, SameHeads, MarksNone}
use Rattle.mt_post.proofs.NumberLemmas.{interior_leaves_twice, head_leaves_by, occupied_heads, occupied_marks, given_back}

-- what names nothing is not taken
pub vacant_free : (a : ArenaView) (w : World) (number : ℕ) → node_at a.nodes number ≡ None → IsTaken a w number → ⊥
vacant_free a w number none (inl locked) = subst (λ (x : Option Node). IsLocked x) none locked
vacant_free a w number none (inr (inl spare)) = (let clash : false ≡ true = subst (λ (x : Option Node). IsSome x) none spare.0 in cc)
vacant_free a w number none (inr (inr m)) = subst (λ (o : Option HeadView). IsSomeAnd o (λ h. h.version.deleted ≡ true)) (ap (option_and_then head_of) none) m.marked

-- what a step leaves that gives a spare back
pub gives_number : (now : ℕ) (a : ArenaView) (w : World) (n : ℕ) (owns : List ℕ) (Then : World → Type 0) → IsWorld a now w → IsSome (node_at a.nodes n) → border_at a.nodes n ≡ None → w.chart n ≡ None
    → Keeps now w.twins (arena_seen a) (arena_seen (without_node a n)) w.chart w.chart → Then w
    → Goes now a (without_node a n) w (n ∷ owns) owns Then × SameContent (arena_seen a) (arena_seen (without_node a n))
gives_number now a w n owns Then world named none unknown kept truth =
    let new : ArenaView = without_node a n in
    let updates : Updates a.nodes new.nodes n None = updates-without a.nodes n named in
    goes_at now a new w w.chart n (n ∷ owns) owns Then world (age_beside n none updates.others) kept refl (unknown_kept a now w.chart n unknown world.retired) updates.others (λ other apart. refl)
    (heads_beside a new w.chart w.chart n (λ number p h. h) (ap (option_and_then head_of) updates.changed) none updates.others world.heads)
    (alive_there a new w.chart n (alive_unknown new w.chart n unknown) updates.others world.alive)
    (λ locked. (let known_root = locked.known in let clash : false ≡ true = subst (λ (x : Option Spot). IsSome x) unknown known_root in cc))
    (λ taken apart. absurd (apart first)) (λ other t out k. out (later k))
    (λ other k taken. elim (among_cases other n owns k) [
      | inl e ↦ absurd (vacant_free new w n updates.changed (subst (λ (m : ℕ). IsTaken new w m) e taken))
      | inr j ↦ j
    ])
    (λ apart taken. absurd (apart first)) truth

-- what is to be named is below the greatest level
goal_fits : (a : ArenaView) (w : World) (prefix : List ℕ) (half : NodeNo) (low : ℕ) (waiting : List Split) → AreWaiting a w prefix waiting → (goal half low waiting).level + 1 ≤ MAX_LEVEL
goal_fits a w prefix half low waiting all = subst (λ (l : ℕ). l + 1 ≤ MAX_LEVEL) (sym (goal_has_level half low waiting)) (goal_below a w prefix waiting all)

-- a new root is above it
root_above : (half : NodeNo) (low : ℕ) (waiting : List Split) → goal_level waiting < (goal half low waiting).level + 1
root_above half low waiting = let same = goal_has_level half low waiting in omega (arith, same)

-- ---- a number is spared
module _ (a : ArenaView) (posting : Posting) (old : Root) (is : posting.stage ≡ RootWanted old) (wanted : Child) (is_goal : wanted ≡ goal posting.half posting.low posting.waiting) where
  pub may_spare : (may : MayPost a posting) → wanted.level + 1 ≤ MAX_LEVEL
  may_spare may =
      subst (λ (c : Child). c.level + 1 ≤ MAX_LEVEL) (sym is_goal) (goal_fits a may.w may.true.0 posting.half posting.low posting.waiting may.true.1.waiting)

  pub spares : (root : NodeNo) (after : ArenaView) → node_at a.nodes root.0 ≡ None → Updates a.nodes after.nodes root.0 (Some (Interior (new_root wanted))) → after.retired ≡ a.retired → IsUnknown a root.0 → KeepsTree a after → OccupiesOne a after
      → PostStep a after posting Moved (record posting { stage = RootSpared old root })
  spares root after vacant updates_wanted retired unknown keeps numbers = at_stage a after posting posting.waiting (RootWanted old) Moved (record posting { stage = RootSpared old root }) refl is (record {
    steps = λ now begun w prefix world before border known all truth.
        let half : ℕ = posting.half.0 in
        let waiting : List Split = posting.waiting in
        let updates = subst (λ (c : Child). Updates a.nodes after.nodes root.0 (Some (Interior (new_root c)))) is_goal updates_wanted in
        let out = unknown.unknown now w.twins w.chart world.index in
        let same : (number : ℕ) → Among number (split_owns half waiting) → IsSame a after w w number = λ number i.
        same_beside a after w retired root.0 updates.others number (owns_beside a w prefix half posting.low root.0 waiting border all (vacant_free a w root.0 vacant) number i) in
        let stay = all_stay a after w w prefix half posting.low waiting same border all in (
          goes_occupied now a after w root.0 (Interior (new_root (goal posting.half posting.low waiting))) (split_owns half waiting) _ vacant updates retired unknown keeps world (
            prefix,
            record { border = stay.0; head = known; waiting = stay.1; walks = tt; stage = (truth, record { named = ap (option_and_then interior_of) updates.changed; unknown = out; alive = refl }) },
          ),
          (keeps.keeps now w.twins w.chart world.index).content,
        );
    same = refl;
    waits = tt;
    ends = tt;
    gets_on = inl (root, refl);
    numbers = numbers;
    heads = occupied_heads a after root.0 (new_root wanted) vacant updates_wanted;
    marks = occupied_marks a after root.0 (new_root wanted) updates_wanted refl;
  })

-- ---- it is filled
module _ (a : ArenaView) (posting : Posting) (old : Root) (root : NodeNo) (is : posting.stage ≡ RootSpared old root) (wanted : Child) (is_goal : wanted ≡ goal posting.half posting.low posting.waiting) where
  abbrev children : List Child
  children = root_children old wanted

  abbrev fill : InteriorView → InteriorView
  fill i = with_children i children

  abbrev unlock : InteriorView → InteriorView
  unlock i = with_lock i false

  -- the spare, for what is wanted
  spare_wanted : (w : World) → IsSpareInterior a w root.0 (new_root (goal posting.half posting.low posting.waiting)) → IsSpareInterior a w root.0 (new_root wanted)
  spare_wanted w s = subst (λ (c : Child). IsSpareInterior a w root.0 (new_root c)) (sym is_goal) s

  pub fills : (between after : ArenaView) → between ≡ with_interior_changed a root.0 fill → KeepsTree a between → after ≡ with_interior_changed between root.0 unlock
      → IsSomeAnd (interior_at between.nodes root.0) (λ i. KeepsWhere between after (λ chart. IsNotGone chart root.0 ⊎ (i.version.deleted ≡ true)))
      → PostStep a after posting Moved (record posting { stage = RootFilled old root })
  fills between after filled keeps unlocked keeps_again = at_stage a after posting posting.waiting (RootSpared old root) Moved (record posting { stage = RootFilled old root }) refl is (record {
    steps = λ now begun w prefix world before border known all truth.
        let (less, spare_goal) = truth in
        let spare = spare_wanted w spare_goal in
        let half : ℕ = posting.half.0 in
        let waiting : List Split = posting.waiting in
        let n : ℕ = root.0 in
        let middle : ArenaView = with_interior_changed a n fill in
        let new : ArenaView = with_interior_changed middle n unlock in
        let there : interior_at middle.nodes n ≡ Some (fill (new_root wanted)) = interior_now a n (new_root wanted) fill spare.named in
        let is_new : after ≡ new = unlocked ∙ ap (λ (x : ArenaView). with_interior_changed x n unlock) filled in
        let kept = (subst (λ (x : ArenaView). KeepsTree a x) filled keeps).keeps now w.twins w.chart world.index in
        let again = some_at _ (interior_at middle.nodes n) (fill (new_root wanted)) (subst (λ (x : ArenaView). IsSomeAnd (interior_at x.nodes n) (λ i. KeepsWhere x after (λ chart. IsNotGone chart n ⊎ (i.version.deleted ≡ true)))) filled keeps_again) there in
        let kept_again = (subst (λ (x : ArenaView). KeepsWhere middle x (λ chart. IsNotGone chart n ⊎ ((fill (new_root wanted)).version.deleted ≡ true))) is_new again).keeps now w.twins w.chart kept.index
        (inl (λ role p low epoch e. (let clash : ◌≡◌ {A = Option Spot} None (Some (spot role p low (gone epoch))) = sym spare.unknown ∙ e in cc))) in
        let others : (other : ℕ) → other ≢ n → node_at new.nodes other ≡ node_at a.nodes other = λ other apart. interior_others middle n (fill (new_root wanted)) unlock there other apart ∙ interior_others a n (new_root wanted) fill spare.named other apart in
        let above : goal_level waiting < wanted.level + 1 = subst (λ (c : Child). goal_level waiting < c.level + 1) (sym is_goal) (root_above posting.half posting.low waiting) in
        let same : (number : ℕ) → Among number (split_owns half waiting) → IsSame a new w w number = λ number i. same_beside a new w refl n others number (owns_below a w prefix half posting.low n (new_root wanted) waiting border all spare.named above number i) in
        let stay = all_stay a new w w prefix half posting.low waiting same border all in
        subst (λ (x : ArenaView). Goes now a x w (n ∷ split_owns half waiting) (n ∷ split_owns half waiting) (λ next. PostingIsTrue begun (record posting { stage = RootFilled old root }) x next) × SameContent (arena_seen a) (arena_seen x)) (sym is_new)
        (goes_at now a new w w.chart n (n ∷ split_owns half waiting) (n ∷ split_owns half waiting) (λ next. PostingIsTrue begun (record posting { stage = RootFilled old root }) new next) world
        (age_beside n (interior_no_border a n (new_root wanted) fill spare.named) others)
        (record { index = kept_again.index; content = λ key row. ((λ h. (kept.content key row).0 ((kept_again.content key row).0 h)), (λ h. (kept_again.content key row).1 ((kept.content key row).1 h))); evolves = λ b le. evolves_same b w.chart })
        refl (unknown_kept a now w.chart n spare.unknown world.retired) others (λ other apart. refl)
        (heads_beside a new w.chart w.chart n (λ number p h. h) (interior_no_head middle n (fill (new_root wanted)) unlock there) (interior_no_border a n (new_root wanted) fill spare.named) others world.heads)
        (alive_there a new w.chart n (alive_unknown new w.chart n spare.unknown) others world.alive)
        (λ locked. (let known_root = locked.known in let clash : false ≡ true = subst (λ (x : Option Spot). IsSome x) spare.unknown known_root in cc))
        (λ taken apart. absurd (apart first)) (λ other t out k. out k) (λ other k taken. k) (λ apart taken. absurd (apart first)) (
          prefix,
          record {
            border = stay.0;
            head = known;
            waiting = stay.1;
            walks = tt;
            stage = (less, subst (λ (c : Child). IsSpareInterior new w n (root_over old c)) is_goal (record { named = interior_now middle n (fill (new_root wanted)) unlock there; unknown = spare.unknown; alive = refl }));
          },
        ));
    same = refl;
    waits = tt;
    ends = tt;
    gets_on = refl;
    numbers = (interior_leaves_twice a between after root.0 fill unlock filled unlocked (λ i. refl) (λ i. refl)).numbers;
    heads = (interior_leaves_twice a between after root.0 fill unlock filled unlocked (λ i. refl) (λ i. refl)).heads;
    marks = (interior_leaves_twice a between after root.0 fill unlock filled unlocked (λ i. refl) (λ i. refl)).marks;
  })

-- ---- the head names it, or it comes too late
module _ (a : ArenaView) (posting : Posting) (old : Root) (root : NodeNo) (is : posting.stage ≡ RootFilled old root) where
  abbrev n : ℕ
  n = posting.head.0

  abbrev half : ℕ
  half = posting.half.0

  abbrev posted_child : Child
  posted_child = record { low = posting.low; node = posting.half; level = 0 }

  abbrev top_root : InteriorView
  top_root = root_over old posted_child

  -- the head is there
  pub has_head : (may : MayPost a posting) → IsSome (head_at a.nodes n)
  has_head may = head_there a may.w may.begun n may.true.0 may.now may.world may.true.1.head

  -- the root isn't the old one still
  pub not_still : (h : HeadView) → head_at a.nodes n ≡ Some h → (h.version.deleted ≡ true) ⊎ ((h.root.0 ≢ old.node.0) ⊎ (h.level ≢ old.level)) → IsRootStill a n old → ⊥
  not_still h named why still =
      let both : ◌≡◌ {A = Option HeadView} (Some still.head) (Some h) = sym still.named ∙ named in
      let same : still.head ≡ h = cc in
      elim why [
        | inl deleted ↦ (let alive = still.alive in let clash : false ≡ true = sym alive ∙ (ap (λ (x : HeadView). x.version.deleted) same ∙ deleted) in cc)
        | inr other ↦ elim other [
          | inl root ↦ root (ap (λ (x : HeadView). x.root.0) (sym same) ∙ ap (λ (r : NodeNo). r.0) still.root_is)
          | inr level ↦ level (ap (λ (x : HeadView). x.level) (sym same) ∙ still.level_is)
        ]
      ]

  pub too_late : (IsRootStill a posting.head.0 old → ⊥) → PostStep a a posting Moved (record posting { stage = RootLate root })
  too_late not_still = goes_on a posting posting.waiting posting.waiting (RootFilled old root) (RootLate root) refl refl is (λ now begun w prefix world border known all truth. (all, (root_over old (goal posting.half posting.low posting.waiting), root_above posting.half posting.low posting.waiting, truth.1), tt)) tt tt (inr (not_still, refl)) refl

  module _ (h : HeadView) (named : head_at a.nodes n ≡ Some h) (alive : h.version.deleted ≡ false) (same_root : h.root ≡ old.node) (same_level : h.level ≡ old.level) (none : posting.waiting ≡ []) where
    -- what the call asks
    pub may_name : (may : MayPost a posting) → IsSomeAnd (head_at a.nodes n) (λ head. IsSomeAnd (interior_at a.nodes root.0) (IsRootOver head))
    may_name may =
        let (less, spare_goal) = true_at may.begun a may.w posting (RootFilled old root) is may.true in
        let spare = subst (λ (o : List Split). IsSpareInterior a may.w root.0 (root_over old (goal posting.half posting.low o))) none spare_goal in
        subst (λ (o : Option HeadView). IsSomeAnd o (λ x. IsSomeAnd (interior_at a.nodes root.0) (IsRootOver x))) (sym named)
        (subst (λ (o : Option InteriorView). IsSomeAnd o (IsRootOver h)) (sym spare.named) (record {
          low = refl;
          posted = posted_child;
          is_border = refl;
          children = ap (λ (r : NodeNo). record { low = 0; node = r; level = old.level } ∷ posted_child ∷ []) (sym same_root) ∙ ap (λ (l : ℕ). record { low = 0; node = h.root; level = l } ∷ posted_child ∷ []) (sym same_level);
        }))

    abbrev change : HeadView → HeadView
    change x = with_root x root 1

    abbrev new : ArenaView
    new = with_head_changed a n change

    head_updated : Updates a.nodes new.nodes n (Some (Head (change h)))
    head_updated = subst (λ (x : ArenaView). Updates a.nodes x.nodes n (Some (Head (change h)))) (sym (changed-head a n h change named))
        (updates-with_node a.nodes n (Head (change h)) (subst (λ (x : Option Node). IsSome x) (sym (node-from_head a.nodes n h named)) refl))

    head_now : head_at new.nodes n ≡ Some (change h)
    head_now = ap (option_and_then head_of) head_updated.changed

    none_there : interior_at a.nodes n ≡ None
    none_there = ap (option_and_then interior_of) (node-from_head a.nodes n h named)

    named_so : (now begun : ℕ) (w : World) (prefix : List ℕ) → IsWorld a now w → IsToPost a w prefix half posting.low → IsHeadOf w begun n prefix → IsSpareInterior a w root.0 top_root → KeepsAlong a new (NamesRootAt a n root.0)
        → Goes now a new w (root.0 ∷ half ∷ []) (half ∷ []) (ThenPosts (Ended Posted) begun posting new) × SameContent (arena_seen a) (arena_seen new)
    named_so now begun w prefix world border known spare keeps =
        let (stands, is_root) = root_place a w.chart begun n posting.low prefix h world.index.tree ((from_head begun prefix posted_child n w known).held) named alive in
        let half_place : Spot = spot (at_level 0) prefix posting.low (on true) in
        let root_at : Spot = spot (at_level 1) prefix 0 (on true) in
        let between : Chart = with_spot w.chart half half_place in
        let chart : Chart = with_spot between root.0 root_at in
        let half_charted = spot_changes w.chart half half_place in
        let root_charted = spot_changes between root.0 root_at in
        let differ = apart_from a w prefix half posting.low root.0 border spare.unknown in
        let beside = apart_head a w prefix n half posting.low h border named in
        let is_known = known_some w n _ stands in
        let kept = keeps.keeps now w.twins w.chart chart world.index (record {
          root = top_root;
          posted = posted_child;
          is_root = spare.named;
          is_posted = ap (option_and_then (λ i. slice_get i.children 1)) spare.named;
          prefix = prefix;
          stands = stands;
          unnamed = border.place;
          unknown = spare.unknown;
          between = between;
          posted_charted = half_charted;
          root_charted = root_charted;
          no_twin = (
            (λ other pair. no_interior a w.chart n none_there (world.twins.locked other n pair).1),
            (λ other pair. no_interior a w.chart n none_there (world.twins.locked n other pair).0),
          );
        }) in
        let free = (world.heads.alive n prefix h stands named).1 in
        goes_at now a new w chart n (root.0 ∷ half ∷ []) (half ∷ []) _ world (age_beside n (ap (option_and_then border_of) (node-from_head a.nodes n h named)) head_updated.others) kept refl (on_kept a now w.chart n _ _ _ _ stands world.retired) head_updated.others
        (λ other apart. root_charted.rest other (λ e. apart (subst (λ (m : ℕ). Among m (root.0 ∷ half ∷ [])) (sym e) first)) ∙ half_charted.rest other (λ e. apart (subst (λ (m : ℕ). Among m (root.0 ∷ half ∷ [])) (sym e) (later first))))
        (heads_named w.chart chart (λ number layer place. heads_were w.chart between half 0 posting.low prefix (on true) half_charted number layer (heads_were between chart root.0 1 0 prefix (on true) root_charted number layer place)) world.heads)
        (alive_there a new chart n (alive_node new chart n (Head (change h)) head_updated.changed (inr alive)) head_updated.others
        (alive_placed a between chart root.0 (Some root_at) root_charted (alive_node a chart root.0 (Interior top_root) (node-from_interior a.nodes root.0 top_root spare.named) (inr refl))
        (alive_placed a w.chart between half (Some half_place) half_charted (alive_node a between half (Border border.b) (node-from_border a.nodes half border.b border.named) (inl border.locked)) world.alive)))
        (no_interior a w.chart n none_there)
        (λ taken apart. alive_free a n h w named free alive is_known taken)
        (λ other t out k. out (later k))
        (λ other k taken. elim (among_cases other root.0 (half ∷ []) k) [
          | inl e ↦ absurd (not_both (top_root.version.locked) (chart root.0) refl (known_some (at_chart w chart) root.0 root_at root_charted.now)
              (interior_is_taken new root.0 top_root (at_chart w chart) (root_named w spare) (subst (λ (m : ℕ). IsTaken new (at_chart w chart) m) e taken)))
          | inr i ↦ i
        ])
        (λ apart taken. absurd (alive_free new n (change h) (at_chart w chart) head_now free alive (known_stays w.chart chart n (kept.evolves 0 (omega arith)) is_known) taken))
        (record {
          b = border.b;
          named = ap (option_and_then border_of) (head_updated.others half beside) ∙ border.named;
          known = known_some (at_chart w chart) half half_place (root_charted.rest half differ ∙ half_charted.now);
          locked = border.locked;
          alive = border.alive;
          written = border.written;
          free = border.free;
        })
      where
        root_named : (w : World) → IsSpareInterior a w root.0 top_root → interior_at new.nodes root.0 ≡ Some top_root
        root_named w spare = ap (option_and_then interior_of) (head_updated.others root.0 apart) ∙ spare.named
          where
            apart : root.0 ≢ n
            apart e = (let clash : ◌≡◌ {A = Option InteriorView} None (Some top_root) = sym none_there ∙ (ap (λ (m : ℕ). interior_at a.nodes m) (sym e) ∙ spare.named) in cc)

        heads_named : (chart next : Chart) → ((number : ℕ) (layer : List ℕ) → OnHead next number layer → OnHead chart number layer) → {closing : List ℕ} → HeadsStand a closing chart → HeadsStand new closing next
        heads_named chart next were {closing = closing} heads = record {
          alive = λ number layer x place there. elim (same_number number n) [
            | inl e ↦ (let both : ◌≡◌ {A = Option HeadView} (Some (change h)) (Some x) = sym head_now ∙ (ap (λ (m : ℕ). head_at new.nodes m) (sym e) ∙ there) in
                let same : change h ≡ x = cc in
                let old_head = heads.alive n layer h (subst (λ (m : ℕ). OnHead chart m layer) e (were number layer place)) named in
                (inl (ap (λ (v : HeadView). v.version.deleted) (sym same) ∙ alive), ap (λ (v : HeadView). v.version.locked) (sym same) ∙ old_head.1))
            | inr apart ↦ heads.alive number layer x (were number layer place) (sym (ap (option_and_then head_of) (head_updated.others number apart)) ∙ there)
          ];
          roots = roots_kept a new closing n (λ i. absurd (no_root a closing chart n (ap (option_and_then border_of) (node-from_head a.nodes n h named)) heads i)) head_updated.others heads.roots;
        }

    pub names : (after : ArenaView) (left : List Split) → IsSomeAnd (interior_at a.nodes root.0) (λ i. after ≡ with_head_changed a n (λ x. with_root x root i.level)) → KeepsAlong a after (NamesRootAt a n root.0) → MayPost a posting → PostStep a after posting (Ended Posted) (record posting { waiting = left })
    names after left value keeps may = at_stage a after posting [] (RootFilled old root) (Ended Posted) (record posting { waiting = left }) none is (record {
      steps = λ now begun w prefix world before border known all truth.
          let same : after ≡ new = some_at _ (interior_at a.nodes root.0) top_root value truth.1.named in
          subst (λ (x : ArenaView). Goes now a x w (root.0 ∷ half ∷ []) (half ∷ []) (ThenPosts (Ended Posted) begun posting x) × SameContent (arena_seen a) (arena_seen x)) (sym same)
          (named_so now begun w prefix world border known truth.1 (subst (λ (x : ArenaView). KeepsAlong a x (NamesRootAt a n root.0)) same keeps));
      same = refl;
      waits = tt;
      ends =
          let (less, spare_goal) = true_at may.begun a may.w posting (RootFilled old root) is may.true in
          let spare = subst (λ (o : List Split). IsSpareInterior a may.w root.0 (root_over old (goal posting.half posting.low o))) none spare_goal in
          some_at _ (interior_at a.nodes root.0) top_root value spare.named;
      gets_on = none;
      numbers = (head_leaves_by a after n (λ (i : InteriorView) (x : HeadView). with_root x root i.level) (interior_at a.nodes root.0) value (λ x h. refl)).0;
      marks = (head_leaves_by a after n (λ (i : InteriorView) (x : HeadView). with_root x root i.level) (interior_at a.nodes root.0) value (λ x h. refl)).1;
      heads = tt;
    })

-- ---- the number is given back
module _ (a : ArenaView) (posting : Posting) (root : NodeNo) (is : posting.stage ≡ RootLate root) where
  is_named : (w : World) (i : InteriorView) → IsSpareInterior a w root.0 i → IsSome (node_at a.nodes root.0)
  is_named w i spare = subst (λ (x : Option Node). IsSome x) (sym (node-from_interior a.nodes root.0 i spare.named)) refl

  given : (may : MayPost a posting) (after : ArenaView) → after ≡ without_node a root.0 → GivesOneBack a after × SameHeads a after × MarksNone a after
  given may after value =
      let (i, above, spare) = true_at may.begun a may.w posting (RootLate root) is may.true in
      given_back a after root.0 value (is_named may.w i spare) (ap (option_and_then head_of) (node-from_interior a.nodes root.0 i spare.named))

  pub gives_back : (after : ArenaView) → after ≡ without_node a root.0 → KeepsUnknown a after root.0 → MayPost a posting → PostStep a after posting Moved (record posting { stage = Walks posting.head })
  gives_back after value keeps may = at_stage a after posting posting.waiting (RootLate root) Moved (record posting { stage = Walks posting.head }) refl is (record {
    steps = λ now begun w prefix world before border known all truth.
        let (i, above, spare) = truth in
        let half : ℕ = posting.half.0 in
        let waiting : List Split = posting.waiting in
        let n : ℕ = root.0 in
        let new : ArenaView = without_node a n in
        let updates : Updates a.nodes new.nodes n None = updates-without a.nodes n (is_named w i spare) in
        let kept = (subst (λ (x : ArenaView). KeepsUnknown a x n) value keeps).keeps now w.twins w.chart world.index spare.unknown in
        let same : (number : ℕ) → Among number (split_owns half waiting) → IsSame a new w w number = λ number k. same_beside a new w refl n updates.others number (owns_below a w prefix half posting.low n i waiting border all spare.named above number k) in
        let stay = all_stay a new w w prefix half posting.low waiting same border all in
        subst (λ (x : ArenaView). Goes now a x w (n ∷ split_owns half waiting) (split_owns half waiting) (λ next. PostingIsTrue begun (record posting { stage = Walks posting.head }) x next) × SameContent (arena_seen a) (arena_seen x)) (sym value)
        (gives_number now a w n (split_owns half waiting) (λ next. PostingIsTrue begun (record posting { stage = Walks posting.head }) new next) world (is_named w i spare) (ap (option_and_then border_of) (node-from_interior a.nodes root.0 i spare.named)) spare.unknown kept (
          prefix,
          record { border = stay.0; head = known; waiting = stay.1; walks = λ layer low standing at. refl; stage = from_head begun prefix (goal posting.half posting.low waiting) posting.head.0 w known },
        ));
    same = refl;
    waits = tt;
    ends = tt;
    gets_on = refl;
    numbers = (given may after value).0;
    heads = (given may after value).1;
    marks = (given may after value).2;
  })
