-- The steps of a posting on its way: at a head, and at an interior, which comes to name the border.
use Rattle.std.proofs.Common.{ℕ, zero, suc, ◌≡◌, ◌≤◌, ◌<◌, ◌+◌, ◌⊎◌, inl, inr, List, [], ◌∷◌, length, slice_get, Option, Some, None, true, false, refl, sym, ap, subst, ◌∙◌, arith}
use Rattle.std.specs.Prelude.{IsSomeAnd}
use Rattle.std.specs.Option.{option_map}
use Rattle.mt_types.specs.declared.numbers.NodeNo.{NodeNo}
use Rattle.mt_border.specs.Border.{BorderView}
use Rattle.mt_interior.specs.Head.{HeadView}
use Rattle.mt_interior.specs.Interior.{InteriorView, children_up_to, with_child}
use Rattle.mt_interior.specs.declared.child.Child.{Child}
use Rattle.mt_interior.specs.declared.interior.TheConstants.{MAX_CHILDREN}
use Rattle.mt_arena.specs.Node.{node_at, head_at, interior_at, border_at}
use Rattle.mt_arena.specs.Arena.{ArenaView, with_interior_changed}
use Rattle.mt_arena.specs.declared.node.Node.TheVariants.{Border}
use Rattle.mt_arena.proofs.NodeLemmas.{node-from_border}
use Rattle.mt_chart.specs.Tree.{border as plain_border, first, Among}
use Rattle.mt_chart.specs.Chart.{Role, top, at_level, Standing, on, gone, Spot, spot, Chart, Holds, IsTree, AreChildren}
use Rattle.mt_chart.specs.Steps.{SameContent}
use Rattle.mt_chart.proofs.TreeLemmas.{children_held, free_interiors_on}
use Rattle.mt_tree.specs.Seen.{arena_seen, node_seen, interior_seen, border_seen, child_seen, children_seen}
use Rattle.mt_tree.specs.Descent.{MayVisit}
use Rattle.mt_tree.specs.Keeping.{KeepsAlong}
use Rattle.mt_tree.specs.InteriorSteps.{PostsAt, IsInLayer, HasRoomFrom}
use Rattle.mt_tree.proofs.SeenLemmas.{seen-interior}
use Rattle.mt_tree.proofs.HeldLemmas.{held_may_visit}
use Rattle.mt_tree.proofs.InteriorPlaces.{stands_as}
use Rattle.mt_tree.proofs.ChildLists.{among_read}
use Rattle.mt_steps.specs.World.{World, IsWorld, Goes}
use Rattle.mt_steps.proofs.FrameLemmas.{goes_same}
use Rattle.mt_steps.proofs.BorderLemmas.{known_stays, on_kept}
use Rattle.mt_steps.proofs.FoundLemmas.{some_at}
use Rattle.mt_steps.proofs.SplitLemmas.{with_spot, spot_changes}
use Rattle.mt_post.specs.declared.posting.Posting.{Posting}
use Rattle.mt_post.specs.declared.posting.LeftOutCause.{LeftOutCause}
use Rattle.mt_post.specs.declared.posting.LeftOutCause.TheVariants.{HeadDeleted, Highest, Refused}
use Rattle.mt_post.specs.declared.posting.PostEnd.{PostEnd}
use Rattle.mt_post.specs.declared.posting.PostEnd.TheVariants.{Posted, LeftOut}
use Rattle.mt_post.specs.declared.posting.Progressed.{Progressed}
use Rattle.mt_post.specs.declared.posting.Progressed.TheVariants.{Moved, Waits, Ended}
use Rattle.mt_post.specs.declared.posting.Root.{Root}
use Rattle.mt_post.specs.declared.split.Split.{Split}
use Rattle.mt_post.specs.declared.posting.PostStage.{PostStage}
use Rattle.mt_post.specs.declared.posting.PostStage.TheVariants.{Walks, RootWanted, HalfLeftOut}
use Rattle.mt_post.specs.Posting.{stage_owns, owned_after, IsToPost, IsHeadOf, IsAbove, goal, split_owns, IsWalking, PostStageIsTrue, AreWaiting, PostingIsTrue, ThenPosts, NewPostingIsTrue, MayPost}
use Rattle.mt_post.specs.Causes.{IsHeldBack, CanLeaveOut, PostStageWaits, PostStageEnds}
use Rattle.mt_post.specs.Follows.{FollowsHead, FollowsInterior, LeavesOut, StageFollows, Follows, PostStep}
use Rattle.mt_steps.specs.World.{IsLockedBorder}
use Rattle.mt_steps.proofs.AliveLemmas.{alive_node, alive_there, alive_placed}
use Rattle.mt_steps.proofs.AgingLemmas.{age_beside}
use Rattle.mt_steps.proofs.NodeLemmas.{at_chart, goes_at, heads_beside, interior_others, interior_no_head, interior_no_border, interior_alive, interior_border, interior_taken, interior_is_taken, not_both, known_some, heads_were, root_place}
use Rattle.mt_types.specs.declared.limits.TheConstants.{MAX_LEVEL}
use Rattle.mt_post.specs.declared.posting.PostStage.TheVariants.{RootFilled}
use Rattle.mt_post.specs.Posting.{WalksFrom}
use Rattle.mt_post.specs.Follows.{NumbersGo, HeadsGo, MarksNone}
use Rattle.mt_post.proofs.NumberLemmas.{interior_leaves_by}

-- ---- what a step does, of a posting that is at a stage
pub record StageStep (a after : ArenaView) (posting : Posting) (waiting : List Split) (stage : PostStage) (p : Progressed) (then : Posting) : Type 0 where
  pub steps : (now begun : ℕ) (w : World) (prefix : List ℕ) → IsWorld a now w → begun ≤ now → IsToPost a w prefix posting.half.0 posting.low → IsHeadOf w begun posting.head.0 prefix → AreWaiting a w prefix waiting
      → PostStageIsTrue begun prefix posting.half posting.low waiting stage a w
      → Goes now a after w (stage_owns posting.half.0 waiting stage) (owned_after p then) (ThenPosts p begun then after) × SameContent (arena_seen a) (arena_seen after)
  pub same : then ≡ record posting { waiting = then.waiting; stage = then.stage }
  pub waits : PostStageWaits a stage p
  pub ends : PostStageEnds a after posting stage p
  pub gets_on : Follows a posting stage p then
  pub numbers : NumbersGo a stage p after then.stage
  pub heads : HeadsGo a stage after
  pub marks : MarksNone a after

pub at_stage : (a after : ArenaView) (posting : Posting) (waiting : List Split) (stage : PostStage) (p : Progressed) (then : Posting) → posting.waiting ≡ waiting → posting.stage ≡ stage → StageStep a after posting waiting stage p then → PostStep a after posting p then
at_stage a after posting waiting stage p then has is step = record {
  same = step.same;
  law = record {
    steps = λ now begun w world before truth.
        let (prefix, t) = truth in
        subst (λ (s : PostStage). Goes now a after w (stage_owns posting.half.0 posting.waiting s) (owned_after p then) (ThenPosts p begun then after) × SameContent (arena_seen a) (arena_seen after)) (sym is)
        (subst (λ (o : List Split). Goes now a after w (stage_owns posting.half.0 o stage) (owned_after p then) (ThenPosts p begun then after) × SameContent (arena_seen a) (arena_seen after)) (sym has)
        (step.steps now begun w prefix world before t.border t.head (subst (λ (o : List Split). AreWaiting a w prefix o) has t.waiting) (subst (λ (o : List Split). PostStageIsTrue begun prefix posting.half posting.low o stage a w) has (subst (λ (s : PostStage). PostStageIsTrue begun prefix posting.half posting.low posting.waiting s a w) is t.stage))));
  };
  waits = subst (λ (s : PostStage). PostStageWaits a s p) (sym is) step.waits;
  ends = subst (λ (s : PostStage). PostStageEnds a after posting s p) (sym is) step.ends;
  gets_on = subst (λ (s : PostStage). Follows a posting s p then) (sym is) step.gets_on;
  numbers = subst (λ (s : PostStage). NumbersGo a s p after then.stage) (sym is) step.numbers;
  heads = subst (λ (s : PostStage). HeadsGo a s after) (sym is) step.heads;
  marks = step.marks;
}

-- what is true of the stage where it is
pub true_at : (begun : ℕ) (a : ArenaView) (w : World) (posting : Posting) (stage : PostStage) → posting.stage ≡ stage → (truth : PostingIsTrue begun posting a w) → PostStageIsTrue begun truth.0 posting.half posting.low posting.waiting stage a w
true_at begun a w posting stage is truth = subst (λ (s : PostStage). PostStageIsTrue begun truth.0 posting.half posting.low posting.waiting s a w) is truth.1.stage

-- the border that was to be posted is locked
pub still_locked : (a : ArenaView) (w : World) (prefix : List ℕ) (number low : ℕ) → IsToPost a w prefix number low → IsLockedBorder a w number
still_locked a w prefix number low t = record { b = t.b; named = t.named; known = known_some w number _ t.place; locked = t.locked; alive = t.alive; written = t.written; free = t.free }

-- from the head it begins its way
pub from_head : (begun : ℕ) (prefix : List ℕ) (wanted : Child) (number : ℕ) (w : World) → IsHeadOf w begun number prefix → IsWalking begun prefix wanted number w
from_head begun prefix wanted number w known = record {
  held = record { role = top; low = 0; standing = known.standing; place = known.place; at_most = omega arith; since = known.since };
  inner = tt;
}

pub new_is_true : (posting : Posting) → posting.waiting ≡ [] → posting.stage ≡ Walks posting.head → NewPostingIsTrue posting
new_is_true posting none is = record {
  begins = λ a w begun prefix border known. (
    (
      prefix,
      record {
        border = border;
        head = known;
        waiting = subst (λ (o : List Split). AreWaiting a w prefix o) (sym none) tt;
        stage = subst (λ (s : PostStage). PostStageIsTrue begun prefix posting.half posting.low posting.waiting s a w) (sym is) (from_head begun prefix (goal posting.half posting.low posting.waiting) posting.head.0 w known);
        walks = subst (λ (s : PostStage). WalksFrom posting.head s w) (sym is) (λ layer low standing at. refl);
      },
    ),
    ap (stage_owns posting.half.0 posting.waiting) is ∙ ap (split_owns posting.half.0) none,
  );
}

-- ---- steps that change nothing
module _ (a : ArenaView) (posting : Posting) where
  same_content : SameContent (arena_seen a) (arena_seen a)
  same_content key row = ((λ h. h), (λ h. h))

  same_heads : (stage : PostStage) → HeadsGo a stage a
  same_heads (RootFilled old root) = tt
  same_heads _ = λ number. refl

  -- the border is left out
  pub left_out : (end : PostEnd) (stage : PostStage) (left : List Split) → stage_owns posting.half.0 [] stage ≡ posting.half.0 ∷ [] → posting.waiting ≡ [] → posting.stage ≡ stage → PostStageWaits a stage (Ended end) → PostStageEnds a a posting stage (Ended end)
      → PostStep a a posting (Ended end) (record posting { waiting = left })
  left_out end stage left owns none is waits ends = at_stage a a posting [] stage (Ended end) (record posting { waiting = left }) none is (record {
    steps = λ now begun w prefix world before border known all truth. (goes_same now a w _ (stage_owns posting.half.0 [] stage) (posting.half.0 ∷ []) owns world (still_locked a w prefix posting.half.0 posting.low border), same_content);
    same = refl;
    waits = waits;
    ends = ends;
    gets_on = none;
    numbers = refl;
    heads = same_heads stage;
    marks = λ number marked. marked;
  })

  module _ (p : Progressed) (waiting next_waiting : List Split) (stage next : PostStage) (owns : stage_owns posting.half.0 waiting stage ≡ stage_owns posting.half.0 next_waiting next) (has : posting.waiting ≡ waiting) (is : posting.stage ≡ stage) where
    abbrev then : Posting
    then = record posting { waiting = next_waiting; stage = next }

    abbrev ThenStage : Type 0
    ThenStage = (now begun : ℕ) (w : World) (prefix : List ℕ) → IsWorld a now w → IsToPost a w prefix posting.half.0 posting.low → IsHeadOf w begun posting.head.0 prefix → AreWaiting a w prefix waiting
        → PostStageIsTrue begun prefix posting.half posting.low waiting stage a w → AreWaiting a w prefix next_waiting × PostStageIsTrue begun prefix posting.half posting.low next_waiting next a w × WalksFrom posting.head next w

    goes_so : (p ≡ Moved) ⊎ (p ≡ Waits) → ThenStage → PostStageWaits a stage p → PostStageEnds a a posting stage p → Follows a posting stage p then → NumbersGo a stage p a next → PostStep a a posting p then
    goes_so either goes waits ends gets_on numbers = at_stage a a posting waiting stage p then has is (record {
      steps = λ now begun w prefix world before border known all truth.
          let both = goes now begun w prefix world border known all truth in
          let t : PostingIsTrue begun then a w = (prefix, record { border = border; head = known; waiting = both.0; stage = both.1; walks = both.2 }) in
          elim either [
            | inl e ↦ subst (λ (q : Progressed). Goes now a a w (stage_owns posting.half.0 waiting stage) (owned_after q then) (ThenPosts q begun then a) × SameContent (arena_seen a) (arena_seen a)) (sym e)
                (goes_same now a w _ (stage_owns posting.half.0 waiting stage) (stage_owns posting.half.0 next_waiting next) owns world t, same_content)
            | inr e ↦ subst (λ (q : Progressed). Goes now a a w (stage_owns posting.half.0 waiting stage) (owned_after q then) (ThenPosts q begun then a) × SameContent (arena_seen a) (arena_seen a)) (sym e)
                (goes_same now a w _ (stage_owns posting.half.0 waiting stage) (stage_owns posting.half.0 next_waiting next) owns world t, same_content)
          ];
      same = refl;
      waits = waits;
      ends = ends;
      gets_on = gets_on;
      numbers = numbers;
      heads = same_heads stage;
      marks = λ number marked. marked;
    })

  module _ (waiting next_waiting : List Split) (stage next : PostStage) (owns : stage_owns posting.half.0 waiting stage ≡ stage_owns posting.half.0 next_waiting next) (has : posting.waiting ≡ waiting) (is : posting.stage ≡ stage) where
    pub goes_on : ThenStage Moved waiting next_waiting stage next owns has is → PostStageWaits a stage Moved → PostStageEnds a a posting stage Moved → Follows a posting stage Moved (record posting { waiting = next_waiting; stage = next }) → NumbersGo a stage Moved a next
        → PostStep a a posting Moved (record posting { waiting = next_waiting; stage = next })
    goes_on goes waits ends gets_on numbers = goes_so Moved waiting next_waiting stage next owns has is (inl refl) goes waits ends gets_on numbers

    pub waits_on : ThenStage Waits waiting next_waiting stage next owns has is → PostStageWaits a stage Waits → PostStageEnds a a posting stage Waits → Follows a posting stage Waits (record posting { waiting = next_waiting; stage = next })
        → PostStep a a posting Waits (record posting { waiting = next_waiting; stage = next })
    waits_on goes waits ends gets_on = goes_so Waits waiting next_waiting stage next owns has is (inr refl) goes waits ends gets_on refl

-- ---- at a head
module _ (a : ArenaView) (posting : Posting) (node : NodeNo) (is : posting.stage ≡ Walks node) (wanted : Child) (is_goal : wanted ≡ goal posting.half posting.low posting.waiting) where
  -- its place on its way, seen for what is to be named
  walks_for : (begun : ℕ) (prefix : List ℕ) (number : ℕ) (w : World) → IsWalking begun prefix wanted number w → IsWalking begun prefix (goal posting.half posting.low posting.waiting) number w
  walks_for begun prefix number w at = subst (λ (g : Child). IsWalking begun prefix g number w) is_goal at

  walks_wanted : (begun : ℕ) (prefix : List ℕ) (number : ℕ) (w : World) → IsWalking begun prefix (goal posting.half posting.low posting.waiting) number w → IsWalking begun prefix wanted number w
  walks_wanted begun prefix number w at = subst (λ (g : Child). IsWalking begun prefix g number w) (sym is_goal) at

  -- a node at a level is no head
  below_head : (w : World) (number level : ℕ) (prefix : List ℕ) (low : ℕ) (standing : Standing) → w.chart number ≡ Some (spot (at_level level) prefix low standing)
      → (layer : List ℕ) (least : ℕ) (other : Standing) → w.chart number ≡ Some (spot top layer least other) → record { 0 = number } ≡ posting.head
  below_head w number level prefix low standing place layer least other at = absurd (let clash : ◌≡◌ {A = Option Spot} (Some (spot (at_level level) prefix low standing)) (Some (spot top layer least other)) = sym place ∙ at in cc)

  pub head_leads : (h : HeadView) (root : NodeNo) (level : ℕ) → head_at a.nodes node.0 ≡ Some h → h.version.deleted ≡ false → h.level ≤ MAX_LEVEL → root ≡ h.root → level ≡ h.level → wanted.level < level → PostStep a a posting Moved (record posting { stage = Walks root })
  head_leads h root level named alive most same same_level from = goes_on a posting posting.waiting posting.waiting (Walks node) (Walks root) refl refl is (λ now begun w prefix world border known all truth.
      let (stands, is_root) = root_place a w.chart begun node.0 wanted.low prefix h world.index.tree ((walks_wanted begun prefix node.0 w truth).held) named alive in (
        all,
        walks_for begun prefix root.0 w (record {
          held = record { role = at_level h.level; low = 0; standing = on true; place = ap (λ (r : NodeNo). w.chart r.0) same ∙ is_root; at_most = omega arith; since = λ epoch e. absurd (let clash : on true ≡ gone epoch = e in cc) };
          inner = subst (λ (l : ℕ). wanted.level < l) same_level from;
        }),
        below_head w root.0 h.level prefix 0 (on true) (ap (λ (r : NodeNo). w.chart r.0) same ∙ is_root),
      )) tt tt (inl (subst (λ (o : Option HeadView). IsSomeAnd o (FollowsHead posting (record posting { stage = Walks root }))) (sym named)
      (inl (alive, most, inl (subst (λ (g : Child). g.level < h.level) is_goal (subst (λ (l : ℕ). wanted.level < l) same_level from), ap (λ (r : NodeNo). record posting { stage = Walks r }) same))))) refl

  pub head_lacks : (h : HeadView) (old : Root) → head_at a.nodes node.0 ≡ Some h → h.version.deleted ≡ false → h.level ≤ MAX_LEVEL → old.node ≡ h.root → old.level ≡ h.level → old.level ≤ wanted.level → PostStep a a posting Moved (record posting { stage = RootWanted old })
  head_lacks h old named alive most same same_level less = goes_on a posting posting.waiting posting.waiting (Walks node) (RootWanted old) refl refl is (λ now begun w prefix world border known all truth. (all, subst (λ (g : Child). old.level < g.level + 1) is_goal (omega (arith, less)), tt)) tt tt
      (inl (subst (λ (o : Option HeadView). IsSomeAnd o (FollowsHead posting (record posting { stage = RootWanted old }))) (sym named)
      (inl (
        alive,
        most,
        inr (
          subst (λ (g : Child). h.level ≤ g.level) is_goal (subst (λ (l : ℕ). l ≤ wanted.level) same_level less),
          ap (λ (r : NodeNo). record posting { stage = RootWanted (record { node = r; level = old.level }) }) same ∙ ap (λ (l : ℕ). record posting { stage = RootWanted (record { node = h.root; level = l }) }) same_level,
        ),
      )))) refl

  -- ---- at an interior
  pub held_back : IsHeldBack a node.0 → PostStep a a posting Waits (record posting { stage = Walks posting.head })
  held_back cause = waits_on a posting posting.waiting posting.waiting (Walks node) (Walks posting.head) refl refl is (λ now begun w prefix world border known all truth. (all, from_head begun prefix (goal posting.half posting.low posting.waiting) posting.head.0 w known, λ layer low standing at. refl)) cause tt refl

  pub child_leads : (i : InteriorView) (place : ℕ) (child : Child) → interior_at a.nodes node.0 ≡ Some i → i.version.deleted ≡ false → place + 1 ≡ children_up_to wanted.low i.children → slice_get i.children place ≡ Some child → child.low ≤ wanted.low → wanted.level < child.level
      → PostStep a a posting Moved (record posting { stage = Walks child.node })
  child_leads i place child named alive leads read from_low from = goes_on a posting posting.waiting posting.waiting (Walks node) (Walks child.node) refl refl is (λ now begun w prefix world border known all truth.
      let there = seen-interior a node.0 i named in
      let at = walks_wanted begun prefix node.0 w truth in
      let stands = stands_as (arena_seen a) w.chart node.0 (interior_seen i) world.index.tree there at.held.role prefix at.held.low at.held.standing at.held.place in
      let held = children_held (arena_seen a) w.chart world.index.tree begun node.0 wanted.low prefix (interior_seen i) (child_seen child) at.held there alive (among_read i.children place child read) from_low in (
        all,
        walks_for begun prefix child.node.0 w (record { held = held; inner = subst (λ (r : Role). IsAbove wanted.level r) (sym (role_is w.chart held.role held.standing prefix held.low at.held.standing stands.below at.held.low held.place stands.ok)) from }),
        below_head w child.node.0 child.level prefix held.low held.standing (held.place ∙ ap (λ (r : Role). Some (spot r prefix held.low held.standing)) (role_is w.chart held.role held.standing prefix held.low at.held.standing stands.below at.held.low held.place stands.ok)),
      )) tt tt
      (inr (subst (λ (o : Option InteriorView). IsSomeAnd o (FollowsInterior posting (record posting { stage = Walks child.node }) node)) (sym named)
      (inl (record { alive = alive; place = place; child = child; leads = subst (λ (g : Child). place + 1 ≡ children_up_to g.low i.children) is_goal leads; is_child = read; above = subst (λ (g : Child). g.level < child.level) is_goal from; goes = refl })))) refl
    where
      role_is : (chart : Chart) (role : Role) (standing : Standing) (prefix : List ℕ) (low : ℕ) (namer : Standing) (below least : ℕ) → chart child.node.0 ≡ Some (spot role prefix low standing)
          → (((epoch : ℕ) × (namer ≡ gone epoch)) × ((interior_seen i).deleted ≡ true)) ⊎ AreChildren chart namer prefix least (suc below) (children_seen i.children) → role ≡ at_level child.level
      role_is chart role standing prefix low namer below least here (inl marked) = absurd (let clash : false ≡ true = sym alive ∙ marked.1 in cc)
      role_is chart role standing prefix low namer below least here (inr children) = (let there = (children.each (child_seen child) (among_read i.children place child read)).place in cc)

  -- what may be visited
  pub may_visit : (may : MayPost a posting) → MayVisit a node.0 wanted.low
  may_visit may =
      let truth = true_at may.begun a may.w posting (Walks node) is may.true in
      held_may_visit a may.now may.w.twins may.w.chart may.begun node.0 wanted.low may.true.0 may.world.index ((walks_wanted may.begun may.true.0 node.0 may.w truth).held)

  -- it is no border
  pub no_border : (may : MayPost a posting) (b : BorderView) → node_at a.nodes node.0 ≡ Some (Border b) → ⊥
  no_border may b named =
      let truth = walks_wanted may.begun may.true.0 node.0 may.w (true_at may.begun a may.w posting (Walks node) is may.true) in
      go may.w.chart may.true.0 truth.held.low may.world.index.tree truth.held.role truth.held.standing truth.held.place truth.inner
    where
      there : arena_seen a node.0 ≡ Some (plain_border (border_seen b))
      there = ap (option_map node_seen) named

      go : (chart : Chart) (prefix : List ℕ) (low : ℕ) → IsTree (arena_seen a) chart → (role : Role) (standing : Standing) → chart node.0 ≡ Some (spot role prefix low standing) → IsAbove wanted.level role → ⊥
      go chart prefix low tree top (on posted) place inner = (let at_node = there in let is_node = (tree.heads node.0 prefix low posted place).is_node in cc)
      go chart prefix low tree top (gone epoch) place inner = (let at_node = there in let (u, is_node, marked) = tree.gone_heads node.0 prefix low epoch place in cc)
      go chart prefix low tree (at_level zero) standing place inner = omega (arith, inner)
      go chart prefix low tree (at_level (suc below)) standing place inner = (let at_node = there in let is_node = (tree.interiors node.0 below prefix low standing place).is_node in cc)

  -- ---- the interior comes to name the border
  module _ (i : InteriorView) (named : interior_at a.nodes node.0 ≡ Some i) (alive : i.version.deleted ≡ false) (unlocked : i.version.locked ≡ false) where
    -- it is on
    pub in_layer : (begun : ℕ) (chart : Chart) (prefix : List ℕ) (least : ℕ) → IsTree (arena_seen a) chart → Holds chart begun node.0 prefix least → IsInLayer chart node.0 prefix
    in_layer begun chart prefix least tree held =
        let there = seen-interior a node.0 i named in
        let stands = stands_as (arena_seen a) chart node.0 (interior_seen i) tree there held.role prefix held.low held.standing held.place in
        let place : chart node.0 ≡ Some (spot (at_level (suc stands.below)) prefix held.low held.standing) = held.place ∙ ap (λ (r : Role). Some (spot r prefix held.low held.standing)) stands.is_role in
        let (posted, is_on) = free_interiors_on (arena_seen a) chart tree node.0 stands.below prefix held.low held.standing (interior_seen i) place there alive unlocked in
        record { level = suc stands.below; low = held.low; posted = posted; place = place ∙ ap (λ (s : Standing). Some (spot (at_level (suc stands.below)) prefix held.low s)) is_on }

    -- it is above what is to be named
    pub is_above : (begun : ℕ) (prefix : List ℕ) (w : World) → IsTree (arena_seen a) w.chart → IsWalking begun prefix wanted node.0 w → wanted.level < i.level
    is_above begun prefix w tree at =
        let stands = stands_as (arena_seen a) w.chart node.0 (interior_seen i) tree (seen-interior a node.0 i named) at.held.role prefix at.held.low at.held.standing at.held.place in
        let above : wanted.level < suc stands.below = subst (λ (role : Role). IsAbove wanted.level role) stands.is_role at.inner in
        let node_level = stands.node_level in
        omega (arith, above, node_level)

    abbrev names : ℕ → InteriorView → InteriorView
    names low x = with_child x (record { low = low; node = posting.half; level = 0 })

    pub posts : (after : ArenaView) (left : List Split) → posting.waiting ≡ [] → IsSomeAnd (border_at a.nodes posting.half.0) (λ border. after ≡ with_interior_changed a node.0 (names border.low)) → KeepsAlong a after (PostsAt node.0 posting.half.0) → MayPost a posting → PostStep a after posting (Ended Posted) (record posting { waiting = left })
    posts after left none value keeps may = at_stage a after posting [] (Walks node) (Ended Posted) (record posting { waiting = left }) none is (record {
      steps = λ now begun w prefix world before border known all truth.
          let same : after ≡ with_interior_changed a node.0 (names border.b.low) = some_at _ (border_at a.nodes posting.half.0) border.b value border.named in
          subst (λ (x : ArenaView). Goes now a x w (posting.half.0 ∷ []) (posting.half.0 ∷ []) (ThenPosts (Ended Posted) begun posting x) × SameContent (arena_seen a) (arena_seen x)) (sym same)
          (posted now begun w prefix world border truth (subst (λ (x : ArenaView). KeepsAlong a x (PostsAt node.0 posting.half.0)) same keeps));
      same = refl;
      waits = tt;
      ends = let border = may.true.1.border in some_at _ (border_at a.nodes posting.half.0) border.b value border.named ∙ ap (λ (l : ℕ). with_interior_changed a node.0 (names l)) border.low_is;
      gets_on = none;
      numbers = (interior_leaves_by a after node.0 (λ (b : BorderView). names b.low) (border_at a.nodes posting.half.0) value (λ x i. refl)).numbers;
      heads = (interior_leaves_by a after node.0 (λ (b : BorderView). names b.low) (border_at a.nodes posting.half.0) value (λ x i. refl)).heads;
      marks = (interior_leaves_by a after node.0 (λ (b : BorderView). names b.low) (border_at a.nodes posting.half.0) value (λ x i. refl)).marks;
    })
      where
        posted : (now begun : ℕ) (w : World) (prefix : List ℕ) → IsWorld a now w → (border : IsToPost a w prefix posting.half.0 posting.low) → IsWalking begun prefix (goal posting.half posting.low []) node.0 w
            → KeepsAlong a (with_interior_changed a node.0 (names border.b.low)) (PostsAt node.0 posting.half.0)
            → Goes now a (with_interior_changed a node.0 (names border.b.low)) w (posting.half.0 ∷ []) (posting.half.0 ∷ []) (ThenPosts (Ended Posted) begun posting (with_interior_changed a node.0 (names border.b.low)))
            × SameContent (arena_seen a) (arena_seen (with_interior_changed a node.0 (names border.b.low)))
        posted now begun w prefix world border truth keeps_new =
            let n : ℕ = node.0 in
            let change : InteriorView → InteriorView = names border.b.low in
            let new : ArenaView = with_interior_changed a n change in
            let place : Spot = spot (at_level 0) prefix posting.low (on true) in
            let chart : Chart = with_spot w.chart posting.half.0 place in
            let charted = spot_changes w.chart posting.half.0 place in
            let stands = in_layer begun w.chart prefix posting.low world.index.tree truth.held in
            let kept = keeps_new.keeps now w.twins w.chart chart world.index (record { prefix = prefix; stands = stands; low = posting.low; unnamed = border.place; charted = charted }) in
            let is_known = known_some w n _ stands.place in
            goes_at now a new w chart n (posting.half.0 ∷ []) (posting.half.0 ∷ []) _ world (age_beside n (interior_no_border a n i change named) (interior_others a n i change named)) kept refl (on_kept a now w.chart n _ _ _ _ stands.place world.retired) (interior_others a n i change named)
            (λ other apart. charted.rest other (λ e. apart (subst (λ (m : ℕ). Among m (posting.half.0 ∷ [])) (sym e) first)))
            (heads_beside a new w.chart chart n (heads_were w.chart chart posting.half.0 0 posting.low prefix (on true) charted) (interior_no_head a n i change named) (interior_no_border a n i change named) (interior_others a n i change named) world.heads)
            (alive_there a new chart n (interior_alive a n i change named chart (inr alive)) (interior_others a n i change named)
            (alive_placed a w.chart chart posting.half.0 (Some place) charted (alive_node a chart posting.half.0 (Border border.b) (node-from_border a.nodes posting.half.0 border.b border.named) (inl border.locked)) world.alive))
            (λ locked. (let clash : false ≡ true = sym unlocked ∙ some_at _ (interior_at a.nodes n) i locked.locked named in cc))
            (λ taken apart. not_both i.version.locked (w.chart n) unlocked is_known (interior_is_taken a n i w named taken))
            (λ other t out k. out k) (λ other k taken. k)
            (λ apart taken. absurd (not_both i.version.locked (chart n) unlocked (known_stays w.chart chart n (kept.evolves 0 (omega arith)) is_known) (interior_taken a n i change named (at_chart w chart) taken)))
            (record { b = border.b; named = interior_border a n i change named posting.half.0 border.b border.named; known = known_some (at_chart w chart) posting.half.0 place charted.now; locked = border.locked; alive = border.alive; written = border.written; free = border.free })

    -- it has room, and its low is at most that of what is to be named
    pub room_for : (may : MayPost a posting) → length i.children < MAX_CHILDREN → IsSomeAnd (interior_at a.nodes node.0) (HasRoomFrom wanted.low)
    room_for may room =
        let can = (may_visit may).has_child i named alive in
        subst (λ (o : Option InteriorView). IsSomeAnd o (HasRoomFrom wanted.low)) (sym named) (record { some = can.0; room = room; from_low = can.1 })

    pub has_room : (may : MayPost a posting) → posting.waiting ≡ [] → length i.children < MAX_CHILDREN → IsSomeAnd (border_at a.nodes posting.half.0) (λ border. IsSomeAnd (interior_at a.nodes node.0) (HasRoomFrom border.low))
    has_room may none room =
        let border = may.true.1.border in
        subst (λ (o : Option BorderView). IsSomeAnd o (λ b. IsSomeAnd (interior_at a.nodes node.0) (HasRoomFrom b.low))) (sym border.named)
        (subst (λ (l : ℕ). IsSomeAnd (interior_at a.nodes node.0) (HasRoomFrom l)) (ap (λ (c : Child). c.low) (is_goal ∙ ap (goal posting.half posting.low) none) ∙ sym border.low_is) (room_for may room))

-- ---- what is to be named is left out
is_some_weaker : {T : Type 0} (o : Option T) (P Q : T → Type 0) → ((x : T) → P x → Q x) → IsSomeAnd o P → IsSomeAnd o Q
is_some_weaker None P Q weaker h = h
is_some_weaker (Some x) P Q weaker h = weaker x h

module _ (a : ArenaView) (posting : Posting) (stage : PostStage) (owns : (waiting : List Split) → stage_owns posting.half.0 waiting stage ≡ split_owns posting.half.0 waiting) (is : posting.stage ≡ stage) where
  pub half_left_out : (why : LeftOutCause) (split : Split) (waiting : List Split) → posting.waiting ≡ split ∷ waiting → PostStageWaits a stage Moved → PostStageEnds a a posting stage Moved → Follows a posting stage Moved (record posting { waiting = waiting; stage = HalfLeftOut split why }) → NumbersGo a stage Moved a (HalfLeftOut split why)
      → PostStep a a posting Moved (record posting { waiting = waiting; stage = HalfLeftOut split why })
  half_left_out why split waiting some waits ends gets_on numbers = goes_on a posting (split ∷ waiting) waiting stage (HalfLeftOut split why) (owns (split ∷ waiting)) some is (λ now begun w prefix world border known all truth. let (above, halved, more) = all in (more, (above, halved), tt)) waits ends gets_on numbers

  pub all_left_out : (why : LeftOutCause) (left : List Split) → posting.waiting ≡ [] → PostStageWaits a stage (Ended (LeftOut why)) → PostStageEnds a a posting stage (Ended (LeftOut why)) → PostStep a a posting (Ended (LeftOut why)) (record posting { waiting = left })
  all_left_out why left none waits ends = left_out a posting (LeftOut why) stage left (owns []) none is waits ends

-- one of the two
pub left_out_so : (posting : Posting) (why : LeftOutCause) (P : Progressed → Posting → Type 0) (p : Progressed) (then : Posting) → LeavesOut posting why p then → ((left : List Split) → posting.waiting ≡ [] → P (Ended (LeftOut why)) (record posting { waiting = left }))
    → ((split : Split) (waiting : List Split) → posting.waiting ≡ split ∷ waiting → P Moved (record posting { waiting = waiting; stage = HalfLeftOut split why })) → P p then
left_out_so posting why P Moved next ((split, some, at), same) border half = subst (λ (t : Posting). P Moved t) (sym (same ∙ ap (λ (s : PostStage). record posting { waiting = next.waiting; stage = s }) at)) (half split next.waiting some)
left_out_so posting why P Waits next none border half = elim none [ ]
left_out_so posting why P (Ended end) next (is, none, same) border half = subst (λ (e : PostEnd). P (Ended e) next) (sym is) (subst (λ (t : Posting). P (Ended (LeftOut why)) t) (sym same) (border next.waiting none))

-- at a node where it can be
pub follows_left_out : (a : ArenaView) (posting : Posting) (node : NodeNo) (why : LeftOutCause) (split : Split) (waiting : List Split) → posting.waiting ≡ split ∷ waiting → CanLeaveOut a posting node.0 why → StageFollows a posting (Walks node) (record posting { waiting = waiting; stage = HalfLeftOut split why })
follows_left_out a posting node HeadDeleted split waiting some marked = inl (is_some_weaker (head_at a.nodes node.0) _ _ (λ head deleted. inr (deleted, (split, some, refl))) marked)
follows_left_out a posting node Highest split waiting some full = inr (is_some_weaker (interior_at a.nodes node.0) _ _ (λ i at. inr (at.0, inr (at.1, inr (at.2, (split, some, refl))))) full)
follows_left_out a posting node (Refused refusal) split waiting some none = elim none [ ]
