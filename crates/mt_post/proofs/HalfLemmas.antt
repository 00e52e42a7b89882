-- The steps of a posting that splits a full interior, but for those that make twins: it is locked, its new half spared and filled, or let go.
use Rattle.std.proofs.Common.{ℕ, zero, suc, ◌≡◌, ◌≢◌, ◌≤◌, ◌<◌, ◌+◌, inl, inr, List, [], ◌∷◌, length, slice_get, drop, Option, Some, None, IsSome, true, false, refl, sym, ap, subst, ◌∙◌, arith, length-drop}
use Rattle.std.specs.Prelude.{IsSomeAnd}
use Rattle.std.proofs.lemmas.Bool.{cases_lt}
use Rattle.std.specs.Option.{option_and_then}
use Rattle.std.proofs.lemmas.List.Elements.{All-drop}
use Rattle.std.proofs.lemmas.List.Sorted.{IsNonDecreasingBy-drop}
use Rattle.mt_types.specs.declared.limits.TheConstants.{MAX_LEVEL}
use Rattle.mt_types.specs.declared.numbers.NodeNo.{NodeNo}
use Rattle.mt_interior.specs.Interior.{InteriorView, IsInterior, StartsAt, with_children, with_lock}
use Rattle.mt_interior.specs.declared.child.Child.{Child}
use Rattle.mt_interior.specs.declared.interior.TheConstants.{MAX_CHILDREN, KEPT_CHILDREN}
use Rattle.mt_arena.specs.Node.{node_at, interior_at, interior_of, Updates}
use Rattle.mt_arena.specs.Arena.{ArenaView, with_interior_changed}
use Rattle.mt_arena.specs.declared.node.Node.TheVariants.{Interior}
use Rattle.mt_chart.specs.Tree.{first, later}
use Rattle.mt_chart.specs.Chart.{Spot}
use Rattle.mt_chart.specs.Steps.{SameContent}
use Rattle.mt_chart.proofs.Entries.{among_cases}
use Rattle.mt_tree.specs.Seen.{arena_seen}
use Rattle.mt_tree.specs.Keeping.{KeepsTree, IsUnknown}
use Rattle.mt_steps.specs.World.{World, IsWorld, IsLockedInterior, IsTaken, Goes}
use Rattle.mt_steps.proofs.AliveLemmas.{alive_unknown, alive_there}
use Rattle.mt_steps.proofs.FoundLemmas.{some_at}
use Rattle.mt_steps.proofs.SplitLemmas.{goes_occupied}
use Rattle.mt_post.specs.declared.posting.Posting.{Posting}
use Rattle.mt_types.specs.declared.refusal.Refusal.{Refusal}
use Rattle.mt_post.specs.declared.posting.LeftOutCause.TheVariants.{Refused}
use Rattle.mt_types.specs.declared.refusal.Refusal.TheVariants.{NoMemory}
use Rattle.mt_post.specs.declared.posting.Progressed.TheVariants.{Moved}
use Rattle.mt_post.specs.declared.split.Split.{Split}
use Rattle.mt_post.specs.declared.posting.PostStage.TheVariants.{Walks, HalfWanted, HalfSpared, HalfLeftOut, LetGo}
use Rattle.mt_post.specs.Causes.{IsFullAt, RefusesSpare}
use Rattle.mt_post.specs.Posting.{owned, PostsIn, goal, goal_level, split_owns, AreWaiting, IsToPost, IsHeadOf, IsWalking, IsSpareInterior, IsSplitting, IsHalved, StartsUpper, empty_half, upper_half, PostingIsTrue, MayPost}
use Rattle.mt_post.specs.Follows.{FollowsInterior, WaitsNext, PostStep}
use Rattle.mt_steps.proofs.BorderLemmas.{unknown_kept, on_kept}
use Rattle.mt_steps.proofs.AgingLemmas.{age_beside}
use Rattle.mt_steps.proofs.NodeLemmas.{goes_at, heads_beside, interior_now, interior_others, interior_no_head, interior_no_border, interior_alive, interior_is_taken, not_both, known_some}
use Rattle.mt_post.proofs.WalkLemmas.{at_stage, true_at, from_head, goes_on, in_layer, is_above}
use Rattle.mt_post.proofs.KeptLemmas.{all_stay, same_beside, splitting_stays, apart_known, owns_below, owns_beside, goal_has_level}
use Rattle.mt_post.proofs.RootLemmas.{vacant_free}
use Rattle.mt_post.specs.Follows.{OccupiesOne}
use Rattle.mt_post.proofs.NumberLemmas.{interior_leaves, occupied_heads, occupied_marks}

-- two interiors under one number are one
pub same_interior : (a : ArenaView) (n : ℕ) (i j : InteriorView) → interior_at a.nodes n ≡ Some i → interior_at a.nodes n ≡ Some j → i ≡ j
same_interior a n i j is js = (let both : ◌≡◌ {A = Option InteriorView} (Some i) (Some j) = sym is ∙ js in cc)

-- ---- a full interior is locked
module _ (a : ArenaView) (posting : Posting) (node : NodeNo) (is : posting.stage ≡ Walks node) (f : IsFullAt a posting node.0) (below : f.interior.level + 1 ≤ MAX_LEVEL) where
  abbrev n : ℕ
  n = node.0

  abbrev rest : List ℕ
  rest = split_owns posting.half.0 posting.waiting

  abbrev lock : InteriorView → InteriorView
  lock i = with_lock i true

  abbrev locked_one : ArenaView
  locked_one = with_interior_changed a n lock

  locked_so : (now begun : ℕ) (w : World) (prefix : List ℕ) → IsWorld a now w → (t : IsToPost a w prefix posting.half.0 posting.low) → IsHeadOf w begun posting.head.0 prefix → AreWaiting a w prefix posting.waiting
      → IsWalking begun prefix (goal posting.half posting.low posting.waiting) n w → KeepsTree a locked_one → IsSomeAnd (interior_at locked_one.nodes n) IsInterior
      → Goes now a locked_one w rest (n ∷ rest) (λ next. PostingIsTrue begun (record posting { stage = HalfWanted node }) locked_one next) × SameContent (arena_seen a) (arena_seen locked_one)
  locked_so now begun w prefix world t known all truth keeps sound =
      let i = f.interior in
      let half : ℕ = posting.half.0 in
      let wanted : Child = goal posting.half posting.low posting.waiting in
      let kept = keeps.keeps now w.twins w.chart world.index in
      let others = interior_others a n i lock f.named in
      let stands = in_layer a posting node is wanted refl i f.named f.alive f.unlocked begun w.chart prefix wanted.low world.index.tree truth.held in
      let is_known = known_some w n _ stands.place in
      let clash_locked : IsLockedInterior a w.chart n → ⊥ = λ locked. (let clash : false ≡ true = sym f.unlocked ∙ some_at _ (interior_at a.nodes n) i locked.locked f.named in cc) in
      let free : IsTaken a w n → ⊥ = λ taken. not_both i.version.locked (w.chart n) f.unlocked is_known (interior_is_taken a n i w f.named taken) in
      let stay = all_stay a locked_one w w prefix half posting.low posting.waiting (λ number k. same_beside a locked_one w refl n others number (owns_beside a w prefix half posting.low n posting.waiting t all free number k)) t all in
      goes_at now a locked_one w w.chart n rest (n ∷ rest) _ world (age_beside n (interior_no_border a n i lock f.named) others) kept refl (on_kept a now w.chart n _ _ _ _ stands.place world.retired) others (λ other apart. refl)
      (heads_beside a locked_one w.chart w.chart n (λ number p h. h) (interior_no_head a n i lock f.named) (interior_no_border a n i lock f.named) others world.heads)
      (alive_there a locked_one w.chart n (interior_alive a n i lock f.named w.chart (inl refl)) others world.alive)
      clash_locked (λ taken apart. free taken)
      (λ other taken out k. elim (among_cases other n rest k) [ inl e ↦ free (subst (λ (m : ℕ). IsTaken a w m) e taken) | inr j ↦ out j ])
      (λ other k taken. later k) (λ apart taken. first) (
        prefix,
        record {
          border = stay.0;
          head = known;
          waiting = stay.1;
          walks = tt;
          stage = (
            lock i,
            (let level = is_above a posting node is wanted refl i f.named f.alive f.unlocked begun prefix w world.index.tree truth in let same = goal_has_level posting.half posting.low posting.waiting in omega (arith, level, same)),
            record {
              named = interior_now a n i lock f.named;
              locked = refl;
              alive = f.alive;
              stands = stands;
              lone = (
                (λ other pair. clash_locked (world.twins.locked other n pair).1),
                (λ other pair. clash_locked (world.twins.locked n other pair).0),
              );
              full = f.full;
              below_top = below;
              sound = some_at _ (interior_at locked_one.nodes n) (lock i) sound (interior_now a n i lock f.named);
            },
          );
        },
      )

  pub locks : (after : ArenaView) → after ≡ locked_one → KeepsTree a after → IsSomeAnd (interior_at after.nodes n) IsInterior → PostStep a after posting Moved (record posting { stage = HalfWanted node })
  locks after value keeps sound = at_stage a after posting posting.waiting (Walks node) Moved (record posting { stage = HalfWanted node }) refl is (record {
    steps = λ now begun w prefix world before border known all truth.
        subst (λ (x : ArenaView). Goes now a x w rest (n ∷ rest) (λ next. PostingIsTrue begun (record posting { stage = HalfWanted node }) x next) × SameContent (arena_seen a) (arena_seen x)) (sym value)
        (locked_so now begun w prefix world border known all truth (subst (λ (x : ArenaView). KeepsTree a x) value keeps) (subst (λ (x : ArenaView). IsSomeAnd (interior_at x.nodes n) IsInterior) value sound));
    same = refl;
    waits = tt;
    ends = tt;
    gets_on = inr (subst (λ (o : Option InteriorView). IsSomeAnd o (FollowsInterior posting (record posting { stage = HalfWanted node }) node)) (sym f.named) (inr (f.stops, inr (f.full, inl (omega (arith, below), refl)))));
    numbers = (interior_leaves a after n lock value (λ i. refl)).numbers;
    heads = (interior_leaves a after n lock value (λ i. refl)).heads;
    marks = (interior_leaves a after n lock value (λ i. refl)).marks;
  })

-- ---- a number is spared for the new half
module _ (a : ArenaView) (posting : Posting) (interior : NodeNo) (is : posting.stage ≡ HalfWanted interior) where
  pub half_refused : (after : ArenaView) (refusal : Refusal) → after ≡ a → RefusesSpare a refusal → PostStep a after posting Moved (record posting { stage = LetGo interior (Refused refusal) })
  half_refused after refusal same refused = subst (λ (x : ArenaView). PostStep a x posting Moved (record posting { stage = LetGo interior (Refused refusal) })) (sym same)
      (goes_on a posting posting.waiting posting.waiting (HalfWanted interior) (LetGo interior (Refused refusal)) refl refl is (λ now begun w prefix world border known all truth.
      let (i, above, s) = truth in (all, record { interior = i; named = s.named; locked = s.locked; alive = s.alive; stands = s.stands; lone = s.lone; above = above }, tt)) tt tt (inr (refusal, refused, refl)) refl)

  pub half_spares : (i : InteriorView) (middle : Child) (spare : NodeNo) (after : ArenaView) → interior_at a.nodes interior.0 ≡ Some i → slice_get i.children KEPT_CHILDREN ≡ Some middle → IsInterior (empty_half i middle.low)
      → node_at a.nodes spare.0 ≡ None → Updates a.nodes after.nodes spare.0 (Some (Interior (empty_half i middle.low))) → after.retired ≡ a.retired → IsUnknown a spare.0 → KeepsTree a after → OccupiesOne a after
      → PostStep a after posting Moved (record posting { stage = HalfSpared interior spare })
  half_spares i middle spare after named read sound vacant updates retired unknown keeps numbers = at_stage a after posting posting.waiting (HalfWanted interior) Moved (record posting { stage = HalfSpared interior spare }) refl is (record {
    steps = λ now begun w prefix world before border known all truth.
        let (j, above, was) = truth in
        let half : ℕ = posting.half.0 in
        let same_one = same_interior a interior.0 j i was.named named in
        let s = subst (λ (x : InteriorView). IsSplitting a w prefix interior.0 x) same_one was in
        let out = unknown.unknown now w.twins w.chart world.index in
        let free = vacant_free a w spare.0 vacant in
        let same = same_beside a after w retired spare.0 updates.others in
        let stay = all_stay a after w w prefix half posting.low posting.waiting (λ number k. same number (owns_beside a w prefix half posting.low spare.0 posting.waiting border all free number k)) border all in (
          goes_occupied now a after w spare.0 (Interior (empty_half i middle.low)) (interior.0 ∷ split_owns half posting.waiting) _ vacant updates retired unknown keeps world (
            prefix,
            record {
              border = stay.0;
              head = known;
              waiting = stay.1;
              walks = tt;
              stage = (
                i,
                subst (λ (x : InteriorView). goal_level posting.waiting < x.level) same_one above,
                splitting_stays a after w w prefix interior.0 i (same interior.0 (apart_known a w prefix interior.0 spare.0 _ s.stands.place out)) s,
                middle.low,
                (middle, read, refl),
                sound,
                record { named = ap (option_and_then interior_of) updates.changed; unknown = out; alive = refl },
              );
            },
          ),
          (keeps.keeps now w.twins w.chart world.index).content,
        );
    same = refl;
    waits = tt;
    ends = tt;
    gets_on = inl (spare, refl);
    numbers = numbers;
    heads = occupied_heads a after spare.0 (empty_half i middle.low) vacant updates;
    marks = occupied_marks a after spare.0 (empty_half i middle.low) updates refl;
  })

-- ---- it is filled
-- what stands from a place on
pub from_place : (place : ℕ) (children : List Child) (middle : Child) → slice_get children place ≡ Some middle → StartsAt middle.low (drop place children)
from_place place [] middle read = absurd (cc)
from_place zero (child ∷ children) middle read = let same : child ≡ middle = cc in ap (λ (c : Child). c.low) same
from_place (suc place) (child ∷ children) middle read = from_place place children middle read

half_sound : (i : InteriorView) (low : ℕ) → IsInterior i → IsInterior (empty_half i low) → StartsUpper i low → IsInterior (upper_half i low)
half_sound i low sound empty (middle, read, low_is) = record {
  least = empty.least;
  most = empty.most;
  low_fits = empty.low_fits;
  few = let shorter = length-drop KEPT_CHILDREN i.children in let few = sound.few in omega (arith, shorter, few);
  starts = subst (λ (l : ℕ). StartsAt l (drop KEPT_CHILDREN i.children)) low_is (from_place KEPT_CHILDREN i.children middle read);
  rising = record { lows = IsNonDecreasingBy-drop (λ (c : Child). c.low) KEPT_CHILDREN i.children sound.rising.lows };
  lower = record { each = All-drop (λ (c : Child). c.level < i.level) KEPT_CHILDREN i.children sound.lower.each };
  inner = empty.inner;
  counters = empty.counters;
}

module _ (a : ArenaView) (posting : Posting) (interior spare : NodeNo) (is : posting.stage ≡ HalfSpared interior spare) where
  pub is_there_still : (may : MayPost a posting) → (i : InteriorView) × (interior_at a.nodes interior.0 ≡ Some i) × (length i.children ≡ MAX_CHILDREN)
  is_there_still may = let (i, above, s, least, starts, sound, spared) = true_at may.begun a may.w posting (HalfSpared interior spare) is may.true in (i, s.named, s.full)

  module _ (i : InteriorView) (middle : Child) (upper : List Child) (named : interior_at a.nodes interior.0 ≡ Some i) (read : slice_get i.children KEPT_CHILDREN ≡ Some middle) (upper_is : upper ≡ drop KEPT_CHILDREN i.children) where
    -- the record, for what is read
    seen_so : (w : World) (prefix : List ℕ) → ((j : InteriorView) × (goal_level posting.waiting < j.level) × IsSplitting a w prefix interior.0 j × (least : ℕ) × StartsUpper j least × IsInterior (empty_half j least) × IsSpareInterior a w spare.0 (empty_half j least))
        → (goal_level posting.waiting < i.level) × IsSplitting a w prefix interior.0 i × IsInterior (empty_half i middle.low) × IsSpareInterior a w spare.0 (empty_half i middle.low)
    seen_so w prefix (j, above, s, least, (mid, mid_read, low_is), sound, spared) =
        let same = same_interior a interior.0 j i s.named named in
        let same_low : least ≡ middle.low = sym low_is ∙ low_of mid (subst (λ (x : InteriorView). slice_get x.children KEPT_CHILDREN ≡ Some mid) same mid_read) in (
          subst (λ (x : InteriorView). goal_level posting.waiting < x.level) same above,
          subst (λ (x : InteriorView). IsSplitting a w prefix interior.0 x) same s,
          subst (λ (l : ℕ). IsInterior (empty_half i l)) same_low (subst (λ (x : InteriorView). IsInterior (empty_half x least)) same sound),
          subst (λ (l : ℕ). IsSpareInterior a w spare.0 (empty_half i l)) same_low (subst (λ (x : InteriorView). IsSpareInterior a w spare.0 (empty_half x least)) same spared),
        )
      where
        low_of : (mid : Child) → slice_get i.children KEPT_CHILDREN ≡ Some mid → mid.low ≡ middle.low
        low_of mid at = (let both : ◌≡◌ {A = Option Child} (Some mid) (Some middle) = sym at ∙ read in let same : mid ≡ middle = cc in ap (λ (c : Child). c.low) same)

    pub may_fill_half : (may : MayPost a posting) → IsSomeAnd (interior_at a.nodes spare.0) (λ x. x.children ≡ []) × IsSomeAnd (interior_at a.nodes spare.0) (λ x. IsInterior (with_children x upper))
    may_fill_half may =
        let (above, s, sound, spared) = seen_so may.w may.true.0 (true_at may.begun a may.w posting (HalfSpared interior spare) is may.true) in (
          subst (λ (o : Option InteriorView). IsSomeAnd o (λ x. x.children ≡ [])) (sym spared.named) refl,
          subst (λ (o : Option InteriorView). IsSomeAnd o (λ x. IsInterior (with_children x upper))) (sym spared.named)
              (subst (λ (l : List Child). IsInterior (with_children (empty_half i middle.low) l)) (sym upper_is) (half_sound i middle.low s.sound sound (middle, read, refl))),
        )

    abbrev split : Split
    split = record { interior = interior; half = record { low = middle.low; node = spare; level = i.level } }

    abbrev fill : InteriorView → InteriorView
    fill x = with_children x upper

    abbrev filled : ArenaView
    filled = with_interior_changed a spare.0 fill

    -- whatever follows, if it owns the same numbers, and is true when the split is halved
    fills_so : (after : ArenaView) → after ≡ filled → KeepsTree a after → (then : Posting) → then ≡ record posting { waiting = then.waiting; stage = then.stage } → owned then ≡ spare.0 ∷ interior.0 ∷ split_owns posting.half.0 posting.waiting
        → ((begun : ℕ) (w : World) (prefix : List ℕ) → IsToPost filled w prefix posting.half.0 posting.low → IsHeadOf w begun posting.head.0 prefix → goal_level posting.waiting < i.level → IsHalved filled w prefix split → AreWaiting filled w prefix posting.waiting
        → PostsIn prefix begun then filled w) → WaitsNext posting split then → PostStep a after posting Moved then
    fills_so after value keeps then kept_else owned_is is_true next = at_stage a after posting posting.waiting (HalfSpared interior spare) Moved then refl is (record {
      steps = λ now begun w prefix world before border known all truth.
          let (above, s, sound, spared) = seen_so w prefix truth in
          let m : ℕ = spare.0 in
          let half : ℕ = posting.half.0 in
          let owns : List ℕ = m ∷ interior.0 ∷ split_owns half posting.waiting in
          let kept = (subst (λ (x : ArenaView). KeepsTree a x) value keeps).keeps now w.twins w.chart world.index in
          let others = interior_others a m (empty_half i middle.low) fill spared.named in
          let same = same_beside a filled w refl m others in
          let stay = all_stay a filled w w prefix half posting.low posting.waiting (λ number k. same number (owns_below a w prefix half posting.low m (empty_half i middle.low) posting.waiting border all spared.named above number k)) border all in
          subst (λ (x : ArenaView). Goes now a x w owns (owned then) (λ next. PostingIsTrue begun then x next) × SameContent (arena_seen a) (arena_seen x)) (sym value)
          (subst (λ (o : List ℕ). Goes now a filled w owns o (λ next. PostingIsTrue begun then filled next) × SameContent (arena_seen a) (arena_seen filled)) (sym owned_is)
          (goes_at now a filled w w.chart m owns owns (λ next. PostingIsTrue begun then filled next) world (age_beside m (interior_no_border a m (empty_half i middle.low) fill spared.named) others) kept refl (unknown_kept a now w.chart m spared.unknown world.retired) others (λ other apart. refl)
          (heads_beside a filled w.chart w.chart m (λ number p h. h) (interior_no_head a m (empty_half i middle.low) fill spared.named) (interior_no_border a m (empty_half i middle.low) fill spared.named) others world.heads)
          (alive_there a filled w.chart m (alive_unknown filled w.chart m spared.unknown) others world.alive)
          (λ locked. (let known_half = locked.known in let clash : false ≡ true = subst (λ (x : Option Spot). IsSome x) spared.unknown known_half in cc))
          (λ taken apart. absurd (apart first)) (λ other t out k. out k) (λ other k taken. k) (λ apart taken. absurd (apart first)) (
            prefix,
            is_true begun w prefix stay.0 known above (record {
              interior = i;
              splits = splitting_stays a filled w w prefix interior.0 i (same interior.0 (apart_known a w prefix interior.0 m _ s.stands.place spared.unknown)) s;
              spare = record { named = interior_now a m (empty_half i middle.low) fill spared.named ∙ ap (λ (l : List Child). Some (with_children (empty_half i middle.low) l)) upper_is; unknown = spared.unknown; alive = refl };
              level = refl;
              starts = (middle, read, refl);
            }) stay.1,
          )));
      same = kept_else;
      waits = tt;
      ends = tt;
      gets_on = (split, refl, refl, next);
      numbers = (interior_leaves a after spare.0 fill value (λ i. refl)).numbers;
      heads = (interior_leaves a after spare.0 fill value (λ i. refl)).heads;
      marks = (interior_leaves a after spare.0 fill value (λ i. refl)).marks;
    })

    -- the split waits, and its new half is to be named; or memory runs out, and the new half is left out
    pub fills_half : (after : ArenaView) → after ≡ filled → KeepsTree a after → (then : Posting) → WaitsNext posting split then → PostStep a after posting Moved then
    fills_half after value keeps then (inl goes) = subst (λ (t : Posting). PostStep a after posting Moved t) (sym goes)
        (fills_so after value keeps (record posting { waiting = split ∷ posting.waiting; stage = Walks posting.head }) refl refl
        (λ begun w prefix border known above halved all. record { border = border; head = known; waiting = (above, halved, all); walks = λ layer low standing at. refl; stage = from_head begun prefix split.half posting.head.0 w known }) (inl refl))
    fills_half after value keeps then (inr goes) = subst (λ (t : Posting). PostStep a after posting Moved t) (sym goes)
        (fills_so after value keeps (record posting { stage = HalfLeftOut split (Refused NoMemory) }) refl refl
        (λ begun w prefix border known above halved all. record { border = border; head = known; waiting = all; walks = tt; stage = (above, halved) }) (inr refl))

-- ---- what is read of an interior
-- below the greatest level
pub below_top : (level : ℕ) → level ≤ MAX_LEVEL → level ≢ MAX_LEVEL → level + 1 ≤ MAX_LEVEL
below_top level most other = elim (cases_lt level MAX_LEVEL) [ inl less ↦ omega (arith, less) | inr from ↦ absurd (other (omega (arith, most, from))) ]

pub full_below : (a : ArenaView) (posting : Posting) (n : ℕ) (f : IsFullAt a posting n) (i : InteriorView) (level : ℕ) → interior_at a.nodes n ≡ Some i → IsInterior i → level ≡ i.level → level ≢ MAX_LEVEL → f.interior.level + 1 ≤ MAX_LEVEL
full_below a posting n f i level named sound is other =
    let same = same_interior a n f.interior i f.named named in
    subst (λ (x : InteriorView). x.level + 1 ≤ MAX_LEVEL) (sym same) (below_top i.level sound.most (λ e. other (is ∙ e)))

-- what stands from a place on is the element there, and what stands from the next
drop_read : (k : ℕ) (children : List Child) (child : Child) → slice_get children k ≡ Some child → drop k children ≡ child ∷ drop (suc k) children
drop_read k [] child e = absurd (cc)
drop_read zero (x ∷ children) child e = let same : x ≡ child = cc in ap (λ (c : Child). c ∷ children) same
drop_read (suc k) (x ∷ children) child e = drop_read k children child e

drop_all : (k : ℕ) (children : List Child) → length children ≡ k → drop k children ≡ []
drop_all zero [] e = refl
drop_all zero (x ∷ children) e = absurd (omega (arith, e))
drop_all (suc k) [] e = absurd (omega (arith, e))
drop_all (suc k) (x ∷ children) e = drop_all k children (omega (arith, e))

-- the eight children of a full interior from the place on where it is cut
pub upper_eight : (children : List Child) (a b c d e f g h : Child) → length children ≡ MAX_CHILDREN → slice_get children 8 ≡ Some a → slice_get children 9 ≡ Some b → slice_get children 10 ≡ Some c → slice_get children 11 ≡ Some d
    → slice_get children 12 ≡ Some e → slice_get children 13 ≡ Some f → slice_get children 14 ≡ Some g → slice_get children 15 ≡ Some h → a ∷ b ∷ c ∷ d ∷ e ∷ f ∷ g ∷ h ∷ [] ≡ drop KEPT_CHILDREN children
upper_eight children a b c d e f g h full ra rb rc rd re rf rg rh = sym (
    drop_read 8 children a ra ∙ ap (λ (l : List Child). a ∷ l) (drop_read 9 children b rb ∙ ap (λ (l : List Child). b ∷ l) (drop_read 10 children c rc ∙ ap (λ (l : List Child). c ∷ l) (drop_read 11 children d rd
    ∙ ap (λ (l : List Child). d ∷ l) (drop_read 12 children e re ∙ ap (λ (l : List Child). e ∷ l) (drop_read 13 children f rf ∙ ap (λ (l : List Child). f ∷ l) (drop_read 14 children g rg ∙ ap (λ (l : List Child). g ∷ l) (drop_read 15 children h rh
    ∙ ap (λ (l : List Child). h ∷ l) (drop_all 16 children full)))))))))
