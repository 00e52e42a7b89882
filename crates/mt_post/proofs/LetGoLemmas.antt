-- The new half of an interior is given back, and the interior unlocked.
use Rattle.std.proofs.Common.{ℕ, ◌≡◌, ◌<◌, ◌⊎◌, inl, inr, List, [], ◌∷◌, Option, Some, None, IsSome, true, false, refl, sym, ap, subst, ◌∙◌}
use Rattle.std.specs.Prelude.{IsSomeAnd}
use Rattle.std.specs.Option.{option_and_then}
use Rattle.mt_types.specs.declared.numbers.NodeNo.{NodeNo}
use Rattle.mt_interior.specs.Interior.{InteriorView, with_lock}
use Rattle.mt_arena.specs.Node.{node_at, interior_at, Updates, border_of}
use Rattle.mt_arena.specs.Arena.{ArenaView, with_interior_changed, without_node}
use Rattle.mt_arena.specs.declared.node.Node.{Node}
use Rattle.mt_arena.proofs.NodeLemmas.{updates-without, node-from_interior}
use Rattle.mt_chart.specs.Tree.{first, later}
use Rattle.mt_chart.specs.Chart.{at_level, on, gone, Spot, spot}
use Rattle.mt_chart.specs.Steps.{SameContent}
use Rattle.mt_chart.proofs.Entries.{among_cases}
use Rattle.mt_chart.proofs.HeldNodes.{evolves_same}
use Rattle.mt_tree.specs.Seen.{arena_seen}
use Rattle.mt_tree.specs.Keeping.{KeepsUnknown, KeepsWhere}
use Rattle.mt_tree.specs.InteriorSteps.{IsNotGone}
use Rattle.mt_steps.specs.World.{World, IsWorld, IsTaken, Goes}
use Rattle.mt_steps.proofs.AliveLemmas.{alive_there}
use Rattle.mt_steps.proofs.FoundLemmas.{some_at}
use Rattle.mt_post.specs.declared.posting.Posting.{Posting}
use Rattle.mt_post.specs.declared.posting.LeftOutCause.{LeftOutCause}
use Rattle.mt_post.specs.declared.posting.PostEnd.TheVariants.{LeftOut}
use Rattle.mt_post.specs.declared.posting.Progressed.TheVariants.{Moved, Ended}
use Rattle.mt_post.specs.declared.split.Split.{Split}
use Rattle.mt_post.specs.declared.posting.PostStage.TheVariants.{Walks, HalfLeftOut, LetGo, HalfCut}
use Rattle.mt_post.specs.Posting.{goal, goal_level, split_owns, AreWaiting, IsToPost, IsHalved, IsLetGo, PostingIsTrue, MayPost}
use Rattle.mt_post.specs.Follows.{PostStep}
use Rattle.mt_steps.specs.World.{IsLockedBorder}
use Rattle.mt_steps.proofs.BorderLemmas.{on_kept}
use Rattle.mt_steps.proofs.AgingLemmas.{age_beside}
use Rattle.mt_steps.proofs.NodeLemmas.{goes_kept, twins_lone, heads_beside, interior_others, interior_no_head, interior_no_border, interior_alive, interior_taken, not_both, known_some}
use Rattle.mt_post.proofs.WalkLemmas.{at_stage, true_at, still_locked, from_head}
use Rattle.mt_post.proofs.KeptLemmas.{all_stay, same_beside, splitting_stays, apart_known, owns_below}
use Rattle.mt_post.proofs.RootLemmas.{gives_number}
use Rattle.mt_arena.specs.Node.{head_of}
use Rattle.mt_post.specs.Follows.{GivesOneBack, SameHeads, MarksNone}
use Rattle.mt_post.proofs.NumberLemmas.{interior_leaves, given_back}

-- ---- the new half is given back
module _ (a : ArenaView) (posting : Posting) (left : Split) (why : LeftOutCause) (is : posting.stage ≡ HalfLeftOut left why) where
  half_named : (w : World) (prefix : List ℕ) (h : IsHalved a w prefix left) → IsSome (node_at a.nodes left.half.node.0)
  half_named w prefix h = subst (λ (x : Option Node). IsSome x) (sym (node-from_interior a.nodes left.half.node.0 _ h.spare.named)) refl

  given_half : (may : MayPost a posting) (after : ArenaView) → after ≡ without_node a left.half.node.0 → GivesOneBack a after × SameHeads a after × MarksNone a after
  given_half may after value =
      let (above, h) = true_at may.begun a may.w posting (HalfLeftOut left why) is may.true in
      given_back a after left.half.node.0 value (half_named may.w may.true.0 h) (ap (option_and_then head_of) (node-from_interior a.nodes left.half.node.0 _ h.spare.named))

  pub gives_half_back : (after : ArenaView) → after ≡ without_node a left.half.node.0 → KeepsUnknown a after left.half.node.0 → MayPost a posting → PostStep a after posting Moved (record posting { stage = LetGo left.interior why })
  gives_half_back after value keeps may = at_stage a after posting posting.waiting (HalfLeftOut left why) Moved (record posting { stage = LetGo left.interior why }) refl is (record {
    steps = λ now begun w prefix world before border known all truth.
        let (less, h) = truth in
        let above : goal_level posting.waiting < h.interior.level = subst (λ (l : ℕ). goal_level posting.waiting < l) h.level less in
        let m : ℕ = left.half.node.0 in
        let half : ℕ = posting.half.0 in
        let rest : List ℕ = split_owns half posting.waiting in
        let new : ArenaView = without_node a m in
        let updates : Updates a.nodes new.nodes m None = updates-without a.nodes m (half_named w prefix h) in
        let kept = (subst (λ (x : ArenaView). KeepsUnknown a x m) value keeps).keeps now w.twins w.chart world.index h.spare.unknown in
        let same = same_beside a new w refl m updates.others in
        let s = splitting_stays a new w w prefix left.interior.0 h.interior (same left.interior.0 (apart_known a w prefix left.interior.0 m _ h.splits.stands.place h.spare.unknown)) h.splits in
        let stay = all_stay a new w w prefix half posting.low posting.waiting (λ number k. same number (owns_below a w prefix half posting.low m _ posting.waiting border all h.spare.named above number k)) border all in
        subst (λ (x : ArenaView). Goes now a x w (m ∷ left.interior.0 ∷ rest) (left.interior.0 ∷ rest) (λ next. PostingIsTrue begun (record posting { stage = LetGo left.interior why }) x next) × SameContent (arena_seen a) (arena_seen x)) (sym value)
        (gives_number now a w m (left.interior.0 ∷ rest) (λ next. PostingIsTrue begun (record posting { stage = LetGo left.interior why }) new next) world (half_named w prefix h) (ap (option_and_then border_of) (node-from_interior a.nodes m _ h.spare.named)) h.spare.unknown kept (
          prefix,
          record {
            border = stay.0;
            head = known;
            waiting = stay.1;
            walks = tt;
            stage = record { interior = h.interior; named = s.named; locked = s.locked; alive = s.alive; stands = s.stands; lone = s.lone; above = above };
          },
        ));
    same = refl;
    waits = tt;
    ends = tt;
    gets_on = refl;
    numbers = (given_half may after value).0;
    heads = (given_half may after value).1;
    marks = (given_half may after value).2;
  })

-- ---- an interior without a twin is unlocked
module _ (a : ArenaView) (posting : Posting) (n : ℕ) where
  abbrev unlock : InteriorView → InteriorView
  unlock i = with_lock i false

  abbrev unlocked : ArenaView
  unlocked = with_interior_changed a n unlock

  abbrev Keeps : ArenaView → Type 0
  Keeps after = IsSomeAnd (interior_at a.nodes n) (λ i. KeepsWhere a after (λ chart. IsNotGone chart n ⊎ (i.version.deleted ≡ true)))

  pub may_unlock_lone : (w : World) (prefix : List ℕ) (below : ℕ) → IsLetGo a w prefix n below → IsSomeAnd (interior_at a.nodes n) (λ i. i.version.locked ≡ true)
  may_unlock_lone w prefix below l = subst (λ (o : Option InteriorView). IsSomeAnd o (λ i. i.version.locked ≡ true)) (sym l.named) l.locked

  -- the splits that wait are as they were, and the border
  pub rest_beside : (w : World) (prefix : List ℕ) (waiting : List Split) → IsLetGo a w prefix n (goal_level waiting) → IsToPost a w prefix posting.half.0 posting.low → AreWaiting a w prefix waiting
      → IsToPost unlocked w prefix posting.half.0 posting.low × AreWaiting unlocked w prefix waiting
  rest_beside w prefix waiting l t all =
      all_stay a unlocked w w prefix posting.half.0 posting.low waiting (λ number k. same_beside a unlocked w refl n (interior_others a n l.interior unlock l.named) number (owns_below a w prefix posting.half.0 posting.low n l.interior waiting t all l.named l.above number k)) t all

  pub unlocks_lone : (now : ℕ) (after : ArenaView) (w : World) (prefix : List ℕ) (below : ℕ) (rest : List ℕ) (Then : ArenaView → World → Type 0) → IsWorld a now w → IsLetGo a w prefix n below → after ≡ unlocked → Keeps after → Then unlocked w
      → Goes now a after w (n ∷ rest) rest (Then after) × SameContent (arena_seen a) (arena_seen after)
  unlocks_lone now after w prefix below rest Then world l value keeps truth =
      let i = l.interior in
      let kept = (subst (λ (x : ArenaView). KeepsWhere a x (λ chart. IsNotGone chart n ⊎ (i.version.deleted ≡ true))) value (some_at _ (interior_at a.nodes n) i keeps l.named)).keeps now w.twins w.chart world.index
      (inl (λ role p low epoch e. (let clash : ◌≡◌ {A = Option Spot} (Some (spot (at_level l.stands.level) prefix l.stands.low (on l.stands.posted))) (Some (spot role p low (gone epoch))) = sym l.stands.place ∙ e in cc))) in
      let others = interior_others a n i unlock l.named in
      let free : IsTaken unlocked w n → ⊥ = λ taken. not_both (unlock i).version.locked (w.chart n) refl (known_some w n _ l.stands.place) (interior_taken a n i unlock l.named w taken) in
      subst (λ (x : ArenaView). Goes now a x w (n ∷ rest) rest (Then x) × SameContent (arena_seen a) (arena_seen x)) (sym value)
      (goes_kept now a unlocked w w.chart n (n ∷ rest) rest (Then unlocked) world (age_beside n (interior_no_border a n i unlock l.named) others) kept refl (on_kept a now w.chart n _ _ _ _ l.stands.place world.retired) others (λ other apart. refl)
      (heads_beside a unlocked w.chart w.chart n (λ number p h. h) (interior_no_head a n i unlock l.named) (interior_no_border a n i unlock l.named) others world.heads)
      (alive_there a unlocked w.chart n (interior_alive a n i unlock l.named w.chart (inr l.alive)) others world.alive)
      (twins_lone a unlocked w.chart w.chart w.twins n (evolves_same 0 w.chart) l.lone others world.twins)
      (λ taken apart. absurd (apart first)) (λ other t out k. out (later k))
      (λ other k taken. elim (among_cases other n rest k) [ inl e ↦ absurd (free (subst (λ (m : ℕ). IsTaken unlocked w m) e taken)) | inr j ↦ j ])
      (λ apart taken. absurd (apart first)) truth)

module _ (a : ArenaView) (posting : Posting) (interior : NodeNo) (after : ArenaView) (value : after ≡ unlocked a posting interior.0) (keeps : Keeps a posting interior.0 after) where
  -- the interior is let go, and the border left out
  pub lets_go : (why : LeftOutCause) (left : List Split) → posting.stage ≡ LetGo interior why → posting.waiting ≡ [] → PostStep a after posting (Ended (LeftOut why)) (record posting { waiting = left })
  lets_go why left is none = at_stage a after posting [] (LetGo interior why) (Ended (LeftOut why)) (record posting { waiting = left }) none is (record {
    steps = λ now begun w prefix world before border known all truth.
        unlocks_lone a posting interior.0 now after w prefix 0 (posting.half.0 ∷ []) (λ x next. IsLockedBorder x next posting.half.0) world truth value keeps
        (still_locked (unlocked a posting interior.0) w prefix posting.half.0 posting.low (rest_beside a posting interior.0 w prefix [] truth border tt).0);
    same = refl;
    waits = tt;
    ends = (refl, value);
    gets_on = none;
    numbers = (interior_leaves a after interior.0 (unlock a posting interior.0) value (λ i. refl)).numbers;
    heads = (interior_leaves a after interior.0 (unlock a posting interior.0) value (λ i. refl)).heads;
    marks = (interior_leaves a after interior.0 (unlock a posting interior.0) value (λ i. refl)).marks;
  })

  -- or the newest of the new halves that wait is left out
  pub lets_next : (why : LeftOutCause) (split : Split) (waiting : List Split) → posting.stage ≡ LetGo interior why → posting.waiting ≡ split ∷ waiting → PostStep a after posting Moved (record posting { waiting = waiting; stage = HalfLeftOut split why })
  lets_next why split waiting is some = at_stage a after posting (split ∷ waiting) (LetGo interior why) Moved (record posting { waiting = waiting; stage = HalfLeftOut split why }) some is (record {
    steps = λ now begun w prefix world before border known all truth.
        let (t, (above, halved, more)) = rest_beside a posting interior.0 w prefix (split ∷ waiting) truth border all in
        unlocks_lone a posting interior.0 now after w prefix split.half.level (split_owns posting.half.0 (split ∷ waiting)) (λ x next. PostingIsTrue begun (record posting { waiting = waiting; stage = HalfLeftOut split why }) x next) world truth value keeps
        (prefix, record { border = t; head = known; waiting = more; stage = (above, halved); walks = tt });
    same = refl;
    waits = tt;
    ends = tt;
    gets_on = (split, some, refl);
    numbers = (interior_leaves a after interior.0 (unlock a posting interior.0) value (λ i. refl)).numbers;
    heads = (interior_leaves a after interior.0 (unlock a posting interior.0) value (λ i. refl)).heads;
    marks = (interior_leaves a after interior.0 (unlock a posting interior.0) value (λ i. refl)).marks;
  })

  -- the new half is unlocked, and the way of what is to be named begins again
  pub goes_again : posting.stage ≡ HalfCut interior → PostStep a after posting Moved (record posting { stage = Walks posting.head })
  goes_again is = at_stage a after posting posting.waiting (HalfCut interior) Moved (record posting { stage = Walks posting.head }) refl is (record {
    steps = λ now begun w prefix world before border known all truth.
        let stay = rest_beside a posting interior.0 w prefix posting.waiting truth border all in
        unlocks_lone a posting interior.0 now after w prefix (goal_level posting.waiting) (split_owns posting.half.0 posting.waiting) (λ x next. PostingIsTrue begun (record posting { stage = Walks posting.head }) x next) world truth value keeps
        (prefix, record { border = stay.0; head = known; waiting = stay.1; walks = λ layer low standing at. refl; stage = from_head begun prefix (goal posting.half posting.low posting.waiting) posting.head.0 w known });
    same = refl;
    waits = tt;
    ends = tt;
    gets_on = refl;
    numbers = (interior_leaves a after interior.0 (unlock a posting interior.0) value (λ i. refl)).numbers;
    heads = (interior_leaves a after interior.0 (unlock a posting interior.0) value (λ i. refl)).heads;
    marks = (interior_leaves a after interior.0 (unlock a posting interior.0) value (λ i. refl)).marks;
  })

pub may_unlock_at : (a : ArenaView) (posting : Posting) (interior : NodeNo) (may : MayPost a posting) → (((why : LeftOutCause) × (posting.stage ≡ LetGo interior why)) ⊎ (posting.stage ≡ HalfCut interior)) → IsSomeAnd (interior_at a.nodes interior.0) (λ i. i.version.locked ≡ true)
may_unlock_at a posting interior may (inl (why, is)) = may_unlock_lone a posting interior.0 may.w may.true.0 _ (true_at may.begun a may.w posting (LetGo interior why) is may.true)
may_unlock_at a posting interior may (inr is) = may_unlock_lone a posting interior.0 may.w may.true.0 _ (true_at may.begun a may.w posting (HalfCut interior) is may.true)
