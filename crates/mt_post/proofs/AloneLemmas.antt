-- A posting that runs alone waits only if it walks at a node that is marked deleted; and it continues alone.
use Rattle.std.proofs.Common.{ℕ, suc, ◌≡◌, ◌≤◌, ◌<◌, ◌⊎◌, inl, inr, List, [], ◌∷◌, Bool, true, false, Option, Some, None, IsSome, refl, sym, ap, subst, ◌∙◌, arith}
use Rattle.mt_types.specs.declared.numbers.NodeNo.{NodeNo}
use Rattle.mt_interior.specs.Head.{HeadView}
use Rattle.mt_interior.specs.Interior.{InteriorView}
use Rattle.mt_arena.specs.Node.{node_at, head_at, interior_at}
use Rattle.mt_arena.specs.Arena.{ArenaView, IsArena}
use Rattle.mt_arena.specs.declared.node.Node.{Node}
use Rattle.mt_arena.proofs.NodeLemmas.{node-from_interior, node-from_border}
use Rattle.mt_chart.specs.Tree.{Among, first, later}
use Rattle.mt_chart.specs.Chart.{Role, at_level, Standing, on, gone, Spot, spot, Chart, AreChildren, Later, still_gone, Evolves}
use Rattle.mt_chart.specs.Walk.{IsOn}
use Rattle.mt_tree.specs.Seen.{arena_seen, interior_seen, child_seen, children_seen}
use Rattle.mt_tree.proofs.SeenLemmas.{seen-interior}
use Rattle.mt_tree.proofs.InteriorPlaces.{stands_as}
use Rattle.mt_tree.proofs.ChildLists.{among_read}
use Rattle.mt_steps.specs.World.{World, IsWorld, is_locked, IsLocked, IsTaken, Goes}
use Rattle.mt_steps.proofs.NodeLemmas.{root_place}
use Rattle.mt_post.specs.declared.posting.Posting.{Posting}
use Rattle.mt_types.specs.declared.refusal.Refusal.TheVariants.{NoMemory}
use Rattle.mt_post.specs.declared.posting.LeftOutCause.TheVariants.{Refused}
use Rattle.mt_post.specs.declared.posting.PostEnd.{PostEnd}
use Rattle.mt_post.specs.declared.posting.Progressed.{Progressed}
use Rattle.mt_post.specs.declared.posting.Progressed.TheVariants.{Moved, Waits, Ended}
use Rattle.mt_post.specs.declared.split.Split.{Split}
use Rattle.mt_post.specs.declared.posting.PostStage.{PostStage}
use Rattle.mt_post.specs.declared.posting.PostStage.TheVariants.{Walks, RootWanted, RootSpared, RootFilled, RootLate, HalfWanted, HalfSpared, HalfLeftOut, LetGo, HalfPosted, HalfCut}
use Rattle.mt_post.specs.Posting.{owned, stage_owns, split_owns, goal, IsAbove, IsToPost, IsWalking, AreWaiting, PostStageIsTrue, PostingIsTrue}
use Rattle.mt_post.specs.Causes.{IsHeldBack, PostStageWaits}
use Rattle.mt_post.specs.Follows.{GoesTo, FollowsHead, FollowsInterior, LeadsOn, StageFollows, MarksNone, mark_of, PostStep}
use Rattle.mt_post.specs.Ending.{steps_left}
use Rattle.mt_post.specs.Alone.{HasGone, IsUnmarked, WalksUnmarked, RunsAlone, LoneStep, UnlockedAreUnmarked, WalksOn, PostingsRunAlone, Run, no_step, one_more, LonePostingsEnd}
use Rattle.mt_post.proofs.KeptLemmas.{only, owns_below, locked_taken, goal_has_level}
use Rattle.mt_post.proofs.EndingLemmas.{from_some, posting_gets_nearer}

-- ---- what isn't marked
pub unless : (b : Bool) → (b ≡ true → ⊥) → b ≡ false
unless true not_so = absurd (not_so refl)
unless false not_so = refl

-- stays so if nothing is marked
unmarked_kept : (a after : ArenaView) → MarksNone a after → (number : ℕ) → IsUnmarked a number → IsUnmarked after number
unmarked_kept a after marks number unmarked = unless (mark_of (node_at after.nodes number)) (λ e. (let clash : false ≡ true = sym unmarked ∙ marks number e in cc))

goes_there : (after : ArenaView) (posting then : Posting) (stage : PostStage) → GoesTo posting then stage → WalksUnmarked after stage → WalksUnmarked after then.stage
goes_there after posting then stage goes unmarked = subst (λ (t : Posting). WalksUnmarked after t.stage) (sym goes) unmarked

-- what is gone stays so
gone_later : {epoch : ℕ} {later : Standing} → Later 0 (gone epoch) later → later ≡ gone epoch
gone_later still_gone = refl

pub gone_stays : (chart new : Chart) (number : ℕ) → Evolves 0 chart new → HasGone chart number → HasGone new number
gone_stays chart new number evolves g = elim (evolves number g.role g.prefix g.low (gone g.epoch) g.place) [
  | inl kept ↦ record { role = g.role; prefix = g.prefix; low = g.low; epoch = g.epoch; place = kept.1 ∙ ap (λ (s : Standing). Some (spot g.role g.prefix g.low s)) (gone_later kept.2) }
  | inr freed ↦ absurd (let less = freed.2 in omega (arith, less))
]

-- ---- its walk, if all that is taken is its own
module _ (a : ArenaView) (posting : Posting) (w : World) (now begun : ℕ) (prefix : List ℕ) (node : NodeNo) (world : IsWorld a now w) (border : IsToPost a w prefix posting.half.0 posting.low) (waiting : AreWaiting a w prefix posting.waiting)
    (at : IsWalking begun prefix (goal posting.half posting.low posting.waiting) node.0 w) (taken : (number : ℕ) → IsTaken a w number → Among number (split_owns posting.half.0 posting.waiting)) where
  -- the interior isn't locked: those that the posting has locked are lower
  not_locked : (i : InteriorView) → interior_at a.nodes node.0 ≡ Some i → i.version.locked ≡ true → ⊥
  not_locked i named locked =
      let stands = stands_as (arena_seen a) w.chart node.0 (interior_seen i) world.index.tree (seen-interior a node.0 i named) at.held.role prefix at.held.low at.held.standing at.held.place in
      let inner : (goal posting.half posting.low posting.waiting).level < suc stands.below = subst (λ (role : Role). IsAbove (goal posting.half posting.low posting.waiting).level role) stands.is_role at.inner in
      let level = stands.node_level in
      let wanted = goal_has_level posting.half posting.low posting.waiting in
      owns_below a w prefix posting.half.0 posting.low node.0 i posting.waiting border waiting named (omega (arith, inner, level, wanted)) node.0 (taken node.0 (locked_taken a w prefix node.0 i named locked)) refl

  -- so it waits only at a marked node
  never_waits : IsUnmarked a node.0 → IsHeldBack a node.0 → ⊥
  never_waits unmarked held = from_some (interior_at a.nodes node.0) (λ i. (i.version.deleted ≡ true) ⊎ (i.version.locked ≡ true)) ⊥ (λ i named why. elim why [
    | inl deleted ↦ (let clash : false ≡ true = sym unmarked ∙ (ap mark_of (node-from_interior a.nodes node.0 i named) ∙ deleted) in cc)
    | inr locked ↦ not_locked i named locked
  ]) held

  -- ---- if it is at no marked node, it goes to none
  module _ (after : ArenaView) (then : Posting) (marked : (number : ℕ) → mark_of (node_at a.nodes number) ≡ true → HasGone w.chart number) (marks : MarksNone a after) where
    -- what is on isn't marked
    on_unmarked : (number : ℕ) (role : Role) (layer : List ℕ) (low : ℕ) (posted : Bool) → w.chart number ≡ Some (spot role layer low (on posted)) → IsUnmarked after number
    on_unmarked number role layer low posted place = unmarked_kept a after marks number (unless (mark_of (node_at a.nodes number)) (λ e. (let g = marked number e in
        let both : ◌≡◌ {A = Option Spot} (Some (spot role layer low (on posted))) (Some (spot g.role g.prefix g.low (gone g.epoch))) = sym place ∙ g.place in cc)))

    at_head : (h : HeadView) → head_at a.nodes node.0 ≡ Some h → FollowsHead posting then h → WalksUnmarked after then.stage
    at_head h named (inl (alive, most, inl (less, goes))) =
        let (stands, is_root) = root_place a w.chart begun node.0 (goal posting.half posting.low posting.waiting).low prefix h world.index.tree at.held named alive in
        goes_there after posting then (Walks h.root) goes (on_unmarked h.root.0 (at_level h.level) prefix 0 true is_root)
    at_head h named (inl (alive, most, inr (less, goes))) = goes_there after posting then (RootWanted (record { node = h.root; level = h.level })) goes tt
    at_head h named (inr (deleted, (split, some, is))) = subst (λ (s : PostStage). WalksUnmarked after s) (sym is) tt

    -- a child of an interior that is neither marked nor locked is on
    child_unmarked : (i : InteriorView) (namer : Standing) (least level : ℕ) → LeadsOn posting then i → (i.version.locked ≡ true → ⊥) → ((epoch : ℕ) → namer ≡ gone epoch → (i.version.deleted ≡ true) ⊎ (i.version.locked ≡ true))
        → (((epoch : ℕ) × (namer ≡ gone epoch)) × (i.version.deleted ≡ true)) ⊎ AreChildren w.chart namer prefix least level (children_seen i.children) → WalksUnmarked after then.stage
    child_unmarked i namer least level leads free held (inl is_marked) = absurd (let alive = leads.alive in let clash : false ≡ true = sym alive ∙ is_marked.1 in cc)
    child_unmarked i (gone epoch) least level leads free held (inr children) = absurd (elim (held epoch refl) [
      | inl deleted ↦ (let alive = leads.alive in let clash : false ≡ true = sym alive ∙ deleted in cc)
      | inr locked ↦ free locked
    ])
    child_unmarked i (on posted) least level leads free held (inr children) =
        let c = children.each (child_seen leads.child) (among_read i.children leads.place leads.child leads.is_child) in
        let is_on : c.standing ≡ on true = c.may in
        goes_there after posting then (Walks leads.child.node) leads.goes
        (on_unmarked leads.child.node.0 (at_level leads.child.level) prefix leads.child.low true (c.place ∙ ap (λ (s : Standing). Some (spot (at_level leads.child.level) prefix leads.child.low s)) is_on))

    at_interior : (i : InteriorView) → interior_at a.nodes node.0 ≡ Some i → FollowsInterior posting then node i → WalksUnmarked after then.stage
    at_interior i named (inl leads) =
        let stands = stands_as (arena_seen a) w.chart node.0 (interior_seen i) world.index.tree (seen-interior a node.0 i named) at.held.role prefix at.held.low at.held.standing at.held.place in
        child_unmarked i at.held.standing at.held.low (suc stands.below) leads (not_locked i named) stands.locked_till_deleted stands.ok
    at_interior i named (inr (stops, inl (room, (split, some, is)))) = subst (λ (s : PostStage). WalksUnmarked after s) (sym is) tt
    at_interior i named (inr (stops, inr (full, inl (below, goes)))) = goes_there after posting then (HalfWanted node) goes tt
    at_interior i named (inr (stops, inr (full, inr (most, (split, some, is))))) = subst (λ (s : PostStage). WalksUnmarked after s) (sym is) tt

-- ---- a step of a posting that runs alone
module _ (a after : ArenaView) (posting then : Posting) (w : World) (now begun : ℕ) (before : begun ≤ now) (lone : RunsAlone now begun posting a w) where
  -- it runs on alone
  module _ (p : Progressed) (step : PostStep a after posting p then) (goes : Goes now a after w (owned posting) (owned then) (λ next. PostingIsTrue begun then after next)) where
    runs_on : RunsAlone now begun then after goes.next
    runs_on = record {
      world = goes.world;
      taken = λ number taken. elim (goes.takes number taken) [ inl own ↦ own | inr other ↦ absurd (other.1 (lone.taken number other.0)) ];
      marked = λ number marked. gone_stays w.chart goes.next.chart number (goes.evolves 0 (omega arith)) (lone.marked number (step.marks number marked));
      head = subst (λ (n : NodeNo). IsUnmarked after n.0) (sym (ap (λ (t : Posting). t.head) step.same)) (unmarked_kept a after step.marks posting.head.0 lone.head);
      true = goes.true;
    }

  -- from the head on
  again : MarksNone a after → GoesTo posting then (Walks posting.head) → WalksUnmarked after then.stage
  again marks goes = goes_there after posting then (Walks posting.head) goes (unmarked_kept a after marks posting.head.0 lone.head)

  stage_unmarked : (stage : PostStage) → MarksNone a after → PostStageIsTrue begun lone.true.0 posting.half posting.low posting.waiting stage a w → ((number : ℕ) → IsTaken a w number → Among number (stage_owns posting.half.0 posting.waiting stage))
      → StageFollows a posting stage then → WalksUnmarked after then.stage
  stage_unmarked (Walks node) marks truth own (inl follows) =
      from_some (head_at a.nodes node.0) (FollowsHead posting then) _ (λ h named f. at_head a posting w now begun lone.true.0 node lone.world lone.true.1.border lone.true.1.waiting truth own after then lone.marked marks h named f) follows
  stage_unmarked (Walks node) marks truth own (inr follows) =
      from_some (interior_at a.nodes node.0) (FollowsInterior posting then node) _ (λ i named f. at_interior a posting w now begun lone.true.0 node lone.world lone.true.1.border lone.true.1.waiting truth own after then lone.marked marks i named f) follows
  stage_unmarked (RootWanted old) marks truth own (inl (root, goes)) = goes_there after posting then (RootSpared old root) goes tt
  stage_unmarked (RootWanted old) marks truth own (inr (refusal, refused, (split, some, is))) = subst (λ (s : PostStage). WalksUnmarked after s) (sym is) tt
  stage_unmarked (RootSpared old root) marks truth own goes = goes_there after posting then (RootFilled old root) goes tt
  stage_unmarked (RootFilled old root) marks truth own (inl (still, (split, some, is))) = subst (λ (s : PostStage). WalksUnmarked after s) (sym is) tt
  stage_unmarked (RootFilled old root) marks truth own (inr (not_still, goes)) = goes_there after posting then (RootLate root) goes tt
  stage_unmarked (RootLate root) marks truth own goes = again marks goes
  stage_unmarked (HalfWanted interior) marks truth own (inl (half, goes)) = goes_there after posting then (HalfSpared interior half) goes tt
  stage_unmarked (HalfWanted interior) marks truth own (inr (refusal, refused, goes)) = goes_there after posting then (LetGo interior (Refused refusal)) goes tt
  stage_unmarked (HalfSpared interior half) marks truth own (split, one, two, inr goes) = goes_there after posting then (HalfLeftOut split (Refused NoMemory)) goes tt
  stage_unmarked (HalfSpared interior half) marks truth own (split, one, two, inl is) = subst (λ (t : Posting). WalksUnmarked after t.stage) (sym is) (unmarked_kept a after marks posting.head.0 lone.head)
  stage_unmarked (HalfLeftOut left why) marks truth own goes = goes_there after posting then (LetGo left.interior why) goes tt
  stage_unmarked (LetGo interior why) marks truth own (split, some, is) = subst (λ (s : PostStage). WalksUnmarked after s) (sym is) tt
  stage_unmarked (HalfPosted posted) marks truth own goes = goes_there after posting then (HalfCut posted.half.node) goes tt
  stage_unmarked (HalfCut half) marks truth own goes = again marks goes

  -- if it waits, it walked at a marked node
  pub waits_marked : (stage : PostStage) → PostStageIsTrue begun lone.true.0 posting.half posting.low posting.waiting stage a w → ((number : ℕ) → IsTaken a w number → Among number (stage_owns posting.half.0 posting.waiting stage))
      → PostStageWaits a stage Waits → WalksUnmarked a stage → ⊥
  waits_marked (Walks node) truth own held unmarked = never_waits a posting w now begun lone.true.0 node lone.world lone.true.1.border lone.true.1.waiting truth own unmarked held
  waits_marked _ truth own held unmarked = held

-- WHAT EACH STEP OF A LONE POSTING COMES TO
pub lone_step : (a after : ArenaView) (posting : Posting) (p : Progressed) (then : Posting) → PostStep a after posting p then → LoneStep a after posting p then
lone_step a after posting Moved then step = λ now begun w before lone.
    let goes = (step.law.steps now begun w lone.world before lone.true).0 in
    record {
      next = goes.next;
      alone = runs_on a after posting then w now begun before lone Moved step goes;
      unmarked = stage_unmarked a after posting then w now begun before lone posting.stage step.marks lone.true.1.stage lone.taken step.gets_on;
    }
lone_step a after posting Waits then step = λ now begun w before lone.
    let goes = (step.law.steps now begun w lone.world before lone.true).0 in (
      (λ unmarked. waits_marked a after posting then w now begun before lone posting.stage lone.true.1.stage lone.taken step.waits unmarked),
      record {
        next = goes.next;
        alone = runs_on a after posting then w now begun before lone Waits step goes;
        unmarked = again a after posting then w now begun before lone step.marks step.gets_on;
      },
    )
lone_step a after posting (Ended end) then step = tt

-- A LONE POSTING ENDS: if `steps` more steps are left after a step, at least one more was left before it
one_step : (now begun steps : ℕ) (a after : ArenaView) (posting : Posting) (p : Progressed) (then : Posting) (w : World) → begun ≤ now → RunsAlone now begun posting a w → WalksUnmarked a posting.stage → ((end : PostEnd) → p ≡ Ended end → ⊥) → IsArena a → IsArena after
    → PostStep a after posting p then → ((next : World) → RunsAlone now begun then after next → WalksUnmarked after then.stage → steps ≤ steps_left after then) → suc steps ≤ steps_left a posting
one_step now begun steps a after posting Moved then w before lone unmarked goes_on sound sound_after one more =
    let alone = lone_step a after posting Moved then one now begun w before lone in
    let fewer = more alone.next alone.alone alone.unmarked in
    let nearer = posting_gets_nearer a after posting then one now begun w lone.world before lone.true sound sound_after in
    omega (arith, fewer, nearer)
one_step now begun steps a after posting Waits then w before lone unmarked goes_on sound sound_after one more = absurd ((lone_step a after posting Waits then one now begun w before lone).0 unmarked)
one_step now begun steps a after posting (Ended end) then w before lone unmarked goes_on sound sound_after one more = absurd (goes_on end refl)

run_ends : {a : ArenaView} {posting : Posting} {steps : ℕ} → Run a posting steps → (now begun : ℕ) (w : World) → begun ≤ now → RunsAlone now begun posting a w → WalksUnmarked a posting.stage → steps ≤ steps_left a posting
run_ends no_step now begun w before lone unmarked = omega arith
run_ends (one_more {a} {after} {posting} {then} {p} {steps} one goes_on sound sound_after more) now begun w before lone unmarked =
    one_step now begun steps a after posting p then w before lone unmarked goes_on sound sound_after one (λ next alone there. run_ends more now begun next before alone there)

pub lone_postings_end : LonePostingsEnd
lone_postings_end now begun steps a posting w before lone unmarked run = run_ends run now begun w before lone unmarked

-- ---- what a posting owns isn't marked
module _ (a : ArenaView) (w : World) (prefix : List ℕ) where
  named_unmarked : (number : ℕ) (i : InteriorView) → interior_at a.nodes number ≡ Some i → i.version.deleted ≡ false → IsUnmarked a number
  named_unmarked number i named alive = ap mark_of (node-from_interior a.nodes number i named) ∙ alive

  rest_unmarked : (half low : ℕ) (waiting : List Split) → IsToPost a w prefix half low → AreWaiting a w prefix waiting → (number : ℕ) → Among number (split_owns half waiting) → IsUnmarked a number
  rest_unmarked half low [] t all number i = only (λ (m : ℕ). IsUnmarked a m) half number (ap mark_of (node-from_border a.nodes half t.b t.named)) i
  rest_unmarked half low (split ∷ waiting) t (less, h, more) number first = named_unmarked split.half.node.0 _ h.spare.named h.spare.alive
  rest_unmarked half low (split ∷ waiting) t (less, h, more) number (later first) = named_unmarked split.interior.0 h.interior h.splits.named h.splits.alive
  rest_unmarked half low (split ∷ waiting) t (less, h, more) number (later (later i)) = rest_unmarked half low waiting t more number i

  one_unmarked : (one : ℕ) (owns : List ℕ) → IsUnmarked a one → ((number : ℕ) → Among number owns → IsUnmarked a number) → (number : ℕ) → Among number (one ∷ owns) → IsUnmarked a number
  one_unmarked one owns unmarked others number first = unmarked
  one_unmarked one owns unmarked others number (later i) = others number i

  module _ (begun : ℕ) (half : NodeNo) (low : ℕ) (waiting : List Split) (t : IsToPost a w prefix half.0 low) (all : AreWaiting a w prefix waiting) where
    abbrev rest : (number : ℕ) → Among number (split_owns half.0 waiting) → IsUnmarked a number
    rest number i = rest_unmarked half.0 low waiting t all number i

    pub stage_own_unmarked : (stage : PostStage) → PostStageIsTrue begun prefix half low waiting stage a w → (number : ℕ) → Among number (stage_owns half.0 waiting stage) → IsUnmarked a number
    stage_own_unmarked (Walks node) truth = rest
    stage_own_unmarked (RootWanted old) truth = rest
    stage_own_unmarked (RootSpared old root) truth = one_unmarked root.0 _ (named_unmarked root.0 _ truth.1.named truth.1.alive) rest
    stage_own_unmarked (RootFilled old root) truth = one_unmarked root.0 _ (named_unmarked root.0 _ truth.1.named truth.1.alive) rest
    stage_own_unmarked (RootLate root) (i, above, spare) = one_unmarked root.0 _ (named_unmarked root.0 i spare.named spare.alive) rest
    stage_own_unmarked (HalfWanted interior) (i, above, s) = one_unmarked interior.0 _ (named_unmarked interior.0 i s.named s.alive) rest
    stage_own_unmarked (HalfSpared interior spare) (i, above, s, least, starts, sound, spared) =
        one_unmarked spare.0 _ (named_unmarked spare.0 _ spared.named spared.alive) (one_unmarked interior.0 _ (named_unmarked interior.0 i s.named s.alive) rest)
    stage_own_unmarked (HalfLeftOut left why) (above, h) =
        one_unmarked left.half.node.0 _ (named_unmarked left.half.node.0 _ h.spare.named h.spare.alive) (one_unmarked left.interior.0 _ (named_unmarked left.interior.0 h.interior h.splits.named h.splits.alive) rest)
    stage_own_unmarked (LetGo interior why) truth = one_unmarked interior.0 _ (named_unmarked interior.0 truth.interior truth.named truth.alive) rest
    stage_own_unmarked (HalfPosted posted) (above, p) =
        one_unmarked posted.half.node.0 _ (named_unmarked posted.half.node.0 p.half p.half_named p.half_alive) (one_unmarked posted.interior.0 _ (named_unmarked posted.interior.0 p.interior p.named p.alive) rest)
    stage_own_unmarked (HalfCut posted) truth = one_unmarked posted.0 _ (named_unmarked posted.0 truth.interior truth.named truth.alive) rest

-- ---- when a posting runs alone
locked_or_not : (o : Option Node) → IsLocked o ⊎ (IsLocked o → ⊥)
locked_or_not None = inr (λ h. h)
locked_or_not (Some node) = go (is_locked node)
  where
    go : (b : Bool) → (b ≡ true) ⊎ (b ≡ true → ⊥)
    go true = inl refl
    go false = inr (λ e. (let clash : false ≡ true = e in cc))

marked_some : (o : Option Node) → mark_of o ≡ true → IsSome o
marked_some None e = absurd (cc)
marked_some (Some node) e = refl

module _ (now begun : ℕ) (a : ArenaView) (posting : Posting) (w : World) (world : IsWorld a now w) (truth : PostingIsTrue begun posting a w) (taken : (number : ℕ) → IsTaken a w number → Among number (owned posting)) (marks : UnlockedAreUnmarked a w) where
  own_unmarked : (number : ℕ) → IsTaken a w number → IsUnmarked a number
  own_unmarked number is = stage_own_unmarked a w truth.0 begun posting.half posting.low posting.waiting truth.1.border truth.1.waiting posting.stage truth.1.stage number (taken number is)

  -- what is on isn't marked
  on_is_unmarked : (number : ℕ) → IsOn w.chart number → IsUnmarked a number
  on_is_unmarked number is_on = elim (locked_or_not (node_at a.nodes number)) [
    | inl locked ↦ own_unmarked number (inl locked)
    | inr free ↦ marks number is_on free
  ]

  marked_has_gone : (number : ℕ) → mark_of (node_at a.nodes number) ≡ true → (o : Option Spot) → w.chart number ≡ o → HasGone w.chart number
  marked_has_gone number marked None place = absurd (let unmarked = own_unmarked number (inr (inl (marked_some (node_at a.nodes number) marked, place))) in let clash : false ≡ true = sym unmarked ∙ marked in cc)
  marked_has_gone number marked (Some (spot role layer low (on posted))) place = absurd (let unmarked = on_is_unmarked number (record { role = role; prefix = layer; low = low; posted = posted; place = place }) in let clash : false ≡ true = sym unmarked ∙ marked in cc)
  marked_has_gone number marked (Some (spot role layer low (gone epoch))) place = record { role = role; prefix = layer; low = low; epoch = epoch; place = place }

  walk_unmarked : (stage : PostStage) → WalksOn w stage → WalksUnmarked a stage
  walk_unmarked (Walks node) is_on = on_is_unmarked node.0 is_on
  walk_unmarked _ is_on = tt

pub postings_run_alone : PostingsRunAlone
postings_run_alone now begun a posting w world truth taken marks head_on = (
  record {
    world = world;
    taken = taken;
    marked = λ number marked. marked_has_gone now begun a posting w world truth taken marks number marked (w.chart number) refl;
    head = on_is_unmarked now begun a posting w world truth taken marks posting.head.0 head_on;
    true = truth;
  },
  walk_unmarked now begun a posting w world truth taken marks posting.stage,
)
