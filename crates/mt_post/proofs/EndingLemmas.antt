-- Each step of a posting brings it nearer to its end: its stages are frames of the theory, and its steps the theory's.
use Rattle.std.proofs.Common.{ℕ, zero, suc, ◌≡◌, ◌<◌, ◌-◌, ◌⊎◌, inl, inr, List, [], ◌∷◌, Bool, true, false, Option, Some, None, IsSome, refl, sym, ap, subst, ◌∙◌, arith, eq-eqb}
use Rattle.std.specs.Prelude.{IsSomeAnd, not, cond}
use Rattle.std.specs.Option.{option_map}
use Rattle.std.proofs.lemmas.Bool.{and_from, and_parts, eqb-true}
use Rattle.mt_types.specs.declared.limits.TheConstants.{MAX_NODES}
use Rattle.mt_types.specs.declared.numbers.NodeNo.{NodeNo}
use Rattle.mt_interior.specs.Head.{HeadView}
use Rattle.mt_interior.specs.Interior.{InteriorView}
use Rattle.mt_interior.specs.declared.child.Child.{Child}
use Rattle.mt_arena.specs.declared.node.Node.{Node}
use Rattle.mt_arena.specs.declared.node.Node.TheVariants.{Head, Interior, Border}
use Rattle.mt_arena.specs.Node.{node_at, head_at, interior_at}
use Rattle.mt_arena.specs.Arena.{ArenaView, IsArena}
use Rattle.mt_arena.proofs.NodeLemmas.{node-from_head, node-from_interior}
use Rattle.mt_chart.specs.Tree.{BorderNode, InteriorNode, border as plain_border, interior as plain_interior}
use Rattle.mt_chart.specs.Chart.{top, at_level, Standing, on, gone, spot, Chart, IsTree, AreChildren, Evolves}
use Rattle.mt_chart.specs.Posting.{Frame, walks, makes_root, late_spare, late_fill, late_name, late_back, wants_spare, lets_go, fills, waits, gives_back, unlocks, cuts, goes_again, AllWait, Posts, once_posted, once_left_out, goes_down, needs_root, too_high, is_put, is_full, root_spare, root_refused, root_filled, root_named, late_has, late_refused, late_filled, late_seen, late_begins_again, has_spare, is_refused, nests, is_back, ends_so, has_cut, from_head, posting_measure}
use Rattle.mt_chart.proofs.Posting.{posting_falls}
use Rattle.mt_chart.proofs.Walk.{known_kept}
use Rattle.mt_tree.specs.Seen.{arena_seen, node_seen, interior_seen, child_seen, children_seen}
use Rattle.mt_tree.proofs.SeenLemmas.{seen-interior}
use Rattle.mt_tree.proofs.InteriorPlaces.{stands_as}
use Rattle.mt_tree.proofs.ChildLists.{among_read}
use Rattle.mt_steps.specs.World.{World, IsWorld}
use Rattle.mt_steps.proofs.NodeLemmas.{head_there, root_place}
use Rattle.mt_post.specs.declared.posting.Posting.{Posting}
use Rattle.mt_post.specs.declared.posting.LeftOutCause.{LeftOutCause}
use Rattle.mt_types.specs.declared.refusal.Refusal.TheVariants.{NoMemory}
use Rattle.mt_post.specs.declared.posting.LeftOutCause.TheVariants.{HeadDeleted, Highest, Refused}
use Rattle.mt_post.specs.declared.posting.Progressed.{Progressed}
use Rattle.mt_post.specs.declared.posting.Progressed.TheVariants.{Moved, Waits, Ended}
use Rattle.mt_post.specs.declared.posting.Root.{Root}
use Rattle.mt_post.specs.declared.split.Split.{Split}
use Rattle.mt_post.specs.declared.posting.PostStage.{PostStage}
use Rattle.mt_post.specs.declared.posting.PostStage.TheVariants.{Walks, RootWanted, RootSpared, RootFilled, RootLate, HalfWanted, HalfSpared, HalfLeftOut, LetGo, HalfPosted, HalfCut}
use Rattle.mt_post.specs.Posting.{IsHeadOf, IsWalking, WalksFrom, PostStageIsTrue, goal}
use Rattle.mt_post.specs.Causes.{IsRootStill}
use Rattle.mt_post.specs.Follows.{GoesTo, IsNamed, IsLeftOut, FollowsHead, FollowsInterior, LeadsOn, StageFollows, StageNumbers, OccupiesOne, GivesOneBack, OccupiesAsMany, SameHeads, HeadsGo, PostStep}
use Rattle.mt_post.specs.Ending.{free_numbers, kinds_below, has_root, is_root_still, stage_frame, waiting_frames, frames_of, steps_left, GetsNearer}

-- ---- the splits that wait are frames that do
all_wait : (waiting : List Split) → AllWait (waiting_frames waiting)
all_wait [] = tt
all_wait (split ∷ waiting) = (refl, all_wait waiting)

-- ---- whether the head has the root still
still_true : (a : ArenaView) (head : NodeNo) (root : Root) → IsRootStill a head.0 root → is_root_still a head root ≡ true
still_true a head root still =
    ap (λ (o : Option HeadView). has_root o root) still.named
    ∙ and_from _ _ (ap not still.alive) (and_from _ _ (eq-eqb _ _ (ap (λ (n : NodeNo). n.0) still.root_is)) (eq-eqb _ _ still.level_is))

not_false : (b : Bool) → not b ≡ true → b ≡ false
not_false true e = absurd (cc)
not_false false e = refl

still_from : (a : ArenaView) (head : NodeNo) (root : Root) → is_root_still a head root ≡ true → IsRootStill a head.0 root
still_from a head root is = go (head_at a.nodes head.0) refl is
  where
    go : (o : Option HeadView) → head_at a.nodes head.0 ≡ o → has_root o root ≡ true → IsRootStill a head.0 root
    go None named e = absurd (cc)
    go (Some h) named e =
        let (alive, same) = and_parts _ _ e in
        let (node, level) = and_parts _ _ same in
        record { head = h; named = named; alive = not_false h.version.deleted alive; root_is = ap (λ (n : ℕ). record { 0 = n }) (eqb-true _ _ node); level_is = eqb-true _ _ level }

still_false : (a : ArenaView) (head : NodeNo) (root : Root) → (IsRootStill a head.0 root → ⊥) → is_root_still a head root ≡ false
still_false a head root not_still = go (is_root_still a head root) (λ e. not_still (still_from a head root e))
  where
    go : (b : Bool) → (b ≡ true → ⊥) → b ≡ false
    go true off = absurd (off refl)
    go false off = refl

-- the same if the heads are the same
same_still : (a after : ArenaView) (head : NodeNo) (root : Root) → SameHeads a after → is_root_still after head root ≡ is_root_still a head root
same_still a after head root same = ap (λ (o : Option HeadView). has_root o root) (same head.0)

-- ---- how many kinds of node are below one
border_level : (o : Option Node) (b : BorderNode) → option_map node_seen o ≡ Some (plain_border b) → kinds_below o ≡ 0
border_level None b e = absurd (cc)
border_level (Some (Head h)) b e = absurd (cc)
border_level (Some (Interior i)) b e = absurd (cc)
border_level (Some (Border x)) b e = refl

interior_level : (o : Option Node) (i : InteriorNode) → option_map node_seen o ≡ Some (plain_interior i) → kinds_below o ≡ i.level
interior_level None i e = absurd (cc)
interior_level (Some (Head h)) i e = absurd (cc)
interior_level (Some (Interior x)) i e = let same : interior_seen x ≡ i = cc in ap (λ (v : InteriorNode). v.level) same
interior_level (Some (Border b)) i e = absurd (cc)

-- a node at a level has `level` kinds below it
kinds_at : (a : ArenaView) (chart : Chart) (number level low : ℕ) (prefix : List ℕ) (standing : Standing) → IsTree (arena_seen a) chart → chart number ≡ Some (spot (at_level level) prefix low standing) → kinds_below (node_at a.nodes number) ≡ level
kinds_at a chart number zero low prefix (on posted) tree place = let (b, there, low_is) = tree.borders number prefix low posted place in border_level (node_at a.nodes number) b there
kinds_at a chart number zero low prefix (gone epoch) tree place = let (b, there, marked) = tree.gone_borders number prefix low epoch place in border_level (node_at a.nodes number) b there
kinds_at a chart number (suc below) low prefix standing tree place = let u = tree.interiors number below prefix low standing place in interior_level (node_at a.nodes number) u.node u.is_node ∙ u.level

-- a head has sixteen
pub kinds_of_head : (a : ArenaView) (number : ℕ) (h : HeadView) → head_at a.nodes number ≡ Some h → kinds_below (node_at a.nodes number) ≡ 16
kinds_of_head a number h named = ap kinds_below (node-from_head a.nodes number h named)

kinds_of_interior : (a : ArenaView) (number : ℕ) (i : InteriorView) → interior_at a.nodes number ≡ Some i → kinds_below (node_at a.nodes number) ≡ i.level
kinds_of_interior a number i named = ap kinds_below (node-from_interior a.nodes number i named)

some_head : (a : ArenaView) (number : ℕ) → IsSome (head_at a.nodes number) → kinds_below (node_at a.nodes number) ≡ 16
some_head a number some = go (head_at a.nodes number) refl some
  where
    go : (o : Option HeadView) → head_at a.nodes number ≡ o → IsSome o → kinds_below (node_at a.nodes number) ≡ 16
    go None named e = absurd (cc)
    go (Some h) named e = kinds_of_head a number h named

-- what holds of an option's value
pub from_some : {T : Type 0} (o : Option T) (P : T → Type 0) (Q : Type 0) → ((x : T) → o ≡ Some x → P x → Q) → IsSomeAnd o P → Q
from_some None P Q so h = absurd h
from_some (Some x) P Q so h = so x refl h

-- ---- a step of a posting, of which this much is true
module _ (a after : ArenaView) (posting then : Posting) (w next : World) (now begun : ℕ) (prefix : List ℕ) (world : IsWorld a now w) (world_after : IsWorld after now next) (evolves : Evolves begun w.chart next.chart) (all_evolve : Evolves 0 w.chart next.chart) (known : IsHeadOf w begun posting.head.0 prefix) (sound : IsArena a) (sound_after : IsArena after) where
  abbrev free : ℕ
  free = free_numbers a

  abbrev free_after : ℕ
  free_after = free_numbers after

  abbrev left : List Frame
  left = waiting_frames posting.waiting

  -- what is left falls from a frame on
  abbrev Falls : Frame → Type 0
  Falls frame = steps_left after then < posting_measure free (frame ∷ left)

  -- with the numbers that are free after it
  falls : (frame : Frame) (frames : List Frame) → frames_of after then ≡ frames → Posts free (frame ∷ left) free_after frames → Falls frame
  falls frame frames is posts = subst (λ (l : List Frame). posting_measure free_after l < posting_measure free (frame ∷ left)) (sym is) (posting_falls free free_after frame left frames (all_wait posting.waiting) posts)

  as_many : (frame : Frame) (frames : List Frame) → OccupiesAsMany a after → frames_of after then ≡ frames → Posts free (frame ∷ left) free frames → Falls frame
  as_many frame frames same is posts = falls frame frames is (subst (λ (m : ℕ). Posts free (frame ∷ left) m frames) (ap (λ (o : ℕ). MAX_NODES - o) (sym same)) posts)

  one_fewer : (frame : Frame) (frames : List Frame) → OccupiesOne a after → frames_of after then ≡ frames → Posts (suc free_after) (frame ∷ left) free_after frames → Falls frame
  one_fewer frame frames more is posts =
      let within = sound_after.within in
      let so : suc free_after ≡ free = omega (arith, more, within) in
      falls frame frames is (subst (λ (n : ℕ). Posts n (frame ∷ left) free_after frames) so posts)

  one_more : (frame : Frame) (frames : List Frame) → GivesOneBack a after → frames_of after then ≡ frames → Posts free (frame ∷ left) (suc free) frames → Falls frame
  one_more frame frames fewer is posts =
      let within = sound.within in
      let so : suc free ≡ free_after = omega (arith, fewer, within) in
      falls frame frames is (subst (λ (m : ℕ). Posts free (frame ∷ left) m frames) so posts)

  -- the frames if it goes to a stage
  goes_there : (stage : PostStage) → GoesTo posting then stage → frames_of after then ≡ stage_frame after posting.head stage ∷ left
  goes_there stage goes = ap (λ (t : Posting). frames_of after t) goes

  -- if a new half that waited is named, or left out
  named_there : IsNamed posting then → frames_of after then ≡ once_posted left
  named_there (split, some, is) = ap (λ (s : PostStage). stage_frame after then.head s ∷ waiting_frames then.waiting) is ∙ ap (λ (l : List Split). once_posted (waiting_frames l)) (sym some)

  left_out_there : (why : LeftOutCause) → IsLeftOut posting then why → frames_of after then ≡ once_left_out left
  left_out_there why (split, some, is) = ap (λ (s : PostStage). stage_frame after then.head s ∷ waiting_frames then.waiting) is ∙ ap (λ (l : List Split). once_left_out (waiting_frames l)) (sym some)

  -- if it begins its way again
  at_head : kinds_below (node_at after.nodes posting.head.0) ≡ 16
  at_head = some_head after posting.head.0 (head_there after next begun posting.head.0 prefix now world_after (known_kept begun posting.head.0 top prefix 0 w.chart next.chart evolves known))

  walks_again : GoesTo posting then (Walks posting.head) → frames_of after then ≡ walks 16 ∷ left
  walks_again goes = goes_there (Walks posting.head) goes ∙ ap (λ (k : ℕ). walks k ∷ left) at_head

  -- a node at a level has as many kinds below it after the step
  kept_level : (number level low : ℕ) (standing : Standing) → w.chart number ≡ Some (spot (at_level level) prefix low standing) → kinds_below (node_at after.nodes number) ≡ level
  kept_level number level low standing place =
      let kept = known_kept 0 number (at_level level) prefix low w.chart next.chart all_evolve (record { standing = standing; place = place; since = λ epoch e. omega arith }) in
      kinds_at after next.chart number level low prefix kept.standing world_after.index.tree kept.place

  -- ---- it walks
  abbrev wanted : Child
  wanted = goal posting.half posting.low posting.waiting

  -- at a head
  module _ (node : NodeNo) (at : IsWalking begun prefix wanted node.0 w) (same : OccupiesAsMany a after) where
    head_falls : (h : HeadView) → head_at a.nodes node.0 ≡ Some h → WalksFrom posting.head (Walks node) w → SameHeads a after → FollowsHead posting then h → Falls (walks 16)
    head_falls h named from heads (inr (marked, out)) = as_many (walks 16) _ same (left_out_there HeadDeleted out) too_high
    head_falls h named from heads (inl (alive, most, inl (less, goes))) =
        let (stands, is_root) = root_place a w.chart begun node.0 wanted.low prefix h world.index.tree at.held named alive in
        let kinds = kept_level h.root.0 h.level 0 (on true) is_root in
        as_many (walks 16) _ same (goes_there (Walks h.root) goes) (goes_down (omega (arith, kinds, most)))
    head_falls h named from heads (inl (alive, most, inr (less, goes))) =
        let (stands, is_root) = root_place a w.chart begun node.0 wanted.low prefix h world.index.tree at.held named alive in
        let old : Root = record { node = h.root; level = h.level } in
        let there : head_at after.nodes posting.head.0 ≡ Some h = heads posting.head.0 ∙ (ap (λ (n : NodeNo). head_at a.nodes n.0) (sym (from prefix 0 (on true) stands)) ∙ named) in
        let still = still_true after posting.head old (record { head = h; named = there; alive = alive; root_is = refl; level_is = refl }) in
        as_many (walks 16) (makes_root 3 ∷ left) same (goes_there (RootWanted old) goes ∙ ap (λ (b : Bool). cond b (makes_root 3) late_spare ∷ left) still) (needs_root (omega arith))

    -- at an interior
    child_below : (i : InteriorView) → LeadsOn posting then i → (namer : Standing) (least level : ℕ) → (((epoch : ℕ) × (namer ≡ gone epoch)) × (i.version.deleted ≡ true)) ⊎ AreChildren w.chart namer prefix least level (children_seen i.children)
        → (child : NodeNo) × GoesTo posting then (Walks child) × (kinds_below (node_at after.nodes child.0) < level)
    child_below i leads namer least level (inl marked) = absurd (let alive = leads.alive in let clash : false ≡ true = sym alive ∙ marked.1 in cc)
    child_below i leads namer least level (inr children) =
        let c = children.each (child_seen leads.child) (among_read i.children leads.place leads.child leads.is_child) in
        let kinds = kept_level leads.child.node.0 leads.child.level leads.child.low c.standing c.place in
        let lower = c.lower in
        (leads.child.node, leads.goes, omega (arith, kinds, lower))

    interior_falls : (i : InteriorView) → interior_at a.nodes node.0 ≡ Some i → FollowsInterior posting then node i → Falls (walks i.level)
    interior_falls i named follows =
        let stands = stands_as (arena_seen a) w.chart node.0 (interior_seen i) world.index.tree (seen-interior a node.0 i named) at.held.role prefix at.held.low at.held.standing at.held.place in
        let level = stands.node_level in
        elim follows [
          | inl leads ↦ (let (child, goes, less) = child_below i leads at.held.standing at.held.low (suc stands.below) stands.ok in
              as_many (walks i.level) _ same (goes_there (Walks child) goes) (goes_down (omega (arith, less, level))))
          | inr stops ↦ elim stops.1 [
            | inl room ↦ as_many (walks i.level) _ same (named_there room.1) is_put
            | inr full ↦ elim full.1 [
              | inl below ↦ as_many (walks i.level) _ same (goes_there (HalfWanted node) below.1) (is_full (omega (arith, level)))
              | inr most ↦ as_many (walks i.level) _ same (left_out_there Highest most.1) too_high
            ]
          ]
        ]

  -- ---- it makes a new root, which comes too late where the head has another root by then
  root_occupied : (b : Bool) → Posts (suc free_after) (cond b (makes_root 3) late_spare ∷ left) free_after (cond b (makes_root 2) late_fill ∷ left)
  root_occupied true = root_spare
  root_occupied false = late_has

  root_not_had : (b : Bool) → Posts free (cond b (makes_root 3) late_spare ∷ left) free (once_left_out left)
  root_not_had true = root_refused
  root_not_had false = late_refused

  root_is_filled : (b : Bool) → Posts free (cond b (makes_root 2) late_fill ∷ left) free (cond b (makes_root 1) late_name ∷ left)
  root_is_filled true = root_filled
  root_is_filled false = late_filled

  -- ---- at each stage
  stage_falls : (stage : PostStage) → PostStageIsTrue begun prefix posting.half posting.low posting.waiting stage a w → WalksFrom posting.head stage w → StageFollows a posting stage then → StageNumbers a stage after then.stage → HeadsGo a stage after
      → Falls (stage_frame a posting.head stage)
  stage_falls (Walks node) truth from (inl follows) numbers heads =
      from_some (head_at a.nodes node.0) (FollowsHead posting then) _ (λ h named f. subst (λ (k : ℕ). Falls (walks k)) (sym (kinds_of_head a node.0 h named)) (head_falls node truth numbers h named from heads f)) follows
  stage_falls (Walks node) truth from (inr follows) numbers heads =
      from_some (interior_at a.nodes node.0) (FollowsInterior posting then node) _ (λ i named f. subst (λ (k : ℕ). Falls (walks k)) (sym (kinds_of_interior a node.0 i named)) (interior_falls node truth numbers i named f)) follows
  stage_falls (RootWanted old) truth from (inl (root, goes)) numbers heads =
      let b : Bool = is_root_still a posting.head old in
      one_fewer (stage_frame a posting.head (RootWanted old)) (cond b (makes_root 2) late_fill ∷ left) (subst (λ (s : PostStage). StageNumbers a (RootWanted old) after s) (ap (λ (t : Posting). t.stage) goes) numbers)
      (goes_there (RootSpared old root) goes ∙ ap (λ (x : Bool). cond x (makes_root 2) late_fill ∷ left) (same_still a after posting.head old heads)) (root_occupied b)
  stage_falls (RootWanted old) truth from (inr (refusal, refused, out)) numbers heads =
      as_many (stage_frame a posting.head (RootWanted old)) _ (subst (λ (s : PostStage). StageNumbers a (RootWanted old) after s) out.2 numbers) (left_out_there (Refused refusal) out) (root_not_had (is_root_still a posting.head old))
  stage_falls (RootSpared old root) truth from goes numbers heads =
      let b : Bool = is_root_still a posting.head old in
      as_many (stage_frame a posting.head (RootSpared old root)) (cond b (makes_root 1) late_name ∷ left) numbers (goes_there (RootFilled old root) goes ∙ ap (λ (x : Bool). cond x (makes_root 1) late_name ∷ left) (same_still a after posting.head old heads)) (root_is_filled b)
  stage_falls (RootFilled old root) truth from (inl (still, is)) numbers heads =
      subst (λ (b : Bool). Falls (cond b (makes_root 1) late_name)) (sym (still_true a posting.head old still)) (as_many (makes_root 1) _ numbers (named_there is) root_named)
  stage_falls (RootFilled old root) truth from (inr (not_still, goes)) numbers heads =
      subst (λ (b : Bool). Falls (cond b (makes_root 1) late_name)) (sym (still_false a posting.head old not_still)) (as_many late_name _ numbers (goes_there (RootLate root) goes) late_seen)
  stage_falls (RootLate root) truth from goes numbers heads = one_more late_back _ numbers (walks_again goes) late_begins_again
  stage_falls (HalfWanted interior) truth from (inl (half, goes)) numbers heads =
      one_fewer wants_spare _ (subst (λ (s : PostStage). StageNumbers a (HalfWanted interior) after s) (ap (λ (t : Posting). t.stage) goes) numbers) (goes_there (HalfSpared interior half) goes) has_spare
  stage_falls (HalfWanted interior) truth from (inr (refusal, refused, goes)) numbers heads = let_go_falls (subst (λ (s : PostStage). StageNumbers a (HalfWanted interior) after s) (ap (λ (t : Posting). t.stage) goes) numbers) (goes_there (LetGo interior (Refused refusal)) goes)
    where
      let_go_falls : OccupiesAsMany a after → frames_of after then ≡ unlocks ∷ left → Falls wants_spare
      let_go_falls same is =
          let less : posting_measure free (unlocks ∷ left) < posting_measure free (wants_spare ∷ left) = posting_falls free free wants_spare left (lets_go ∷ left) (all_wait posting.waiting) is_refused in
          subst (λ (l : List Frame). posting_measure free_after l < posting_measure free (wants_spare ∷ left)) (sym is) (subst (λ (m : ℕ). posting_measure m (unlocks ∷ left) < posting_measure free (wants_spare ∷ left)) (ap (λ (o : ℕ). MAX_NODES - o) (sym same)) less)
  stage_falls (HalfSpared interior half) truth from (split, one, two, inr goes) numbers heads = no_room_falls numbers (goes_there (HalfLeftOut split (Refused NoMemory)) goes)
    where
      no_room_falls : OccupiesAsMany a after → frames_of after then ≡ gives_back ∷ left → Falls fills
      no_room_falls same is =
          let less : posting_measure free (gives_back ∷ left) < posting_measure free (fills ∷ left) = omega arith in
          subst (λ (l : List Frame). posting_measure free_after l < posting_measure free (fills ∷ left)) (sym is) (subst (λ (m : ℕ). posting_measure m (gives_back ∷ left) < posting_measure free (fills ∷ left)) (ap (λ (o : ℕ). MAX_NODES - o) (sym same)) less)
  stage_falls (HalfSpared interior half) truth from (split, one, two, inl is) numbers heads =
      as_many fills _ numbers (ap (λ (t : Posting). frames_of after t) is ∙ ap (λ (k : ℕ). walks k ∷ waits ∷ left) at_head) nests
  stage_falls (HalfLeftOut split why) truth from goes numbers heads = one_more gives_back _ numbers (goes_there (LetGo split.interior why) goes) is_back
  stage_falls (LetGo interior why) truth from out numbers heads = as_many unlocks _ numbers (left_out_there why out) ends_so
  stage_falls (HalfPosted split) truth from goes numbers heads = as_many cuts _ numbers (goes_there (HalfCut split.half.node) goes) has_cut
  stage_falls (HalfCut half) truth from goes numbers heads = as_many goes_again _ numbers (walks_again goes) from_head

-- EACH STEP THAT MOVES BRINGS A POSTING NEARER TO ITS END
pub posting_gets_nearer : (a after : ArenaView) (posting then : Posting) → PostStep a after posting Moved then → GetsNearer a after posting Moved then
posting_gets_nearer a after posting then step now begun w world before (prefix, t) sound sound_after =
    let (goes, content) = step.law.steps now begun w world before (prefix, t) in
    stage_falls a after posting then w goes.next now begun prefix world goes.world (goes.evolves begun before) (goes.evolves 0 (omega arith)) t.head sound sound_after posting.stage t.stage t.walks step.gets_on step.numbers step.heads

-- the same of any step
pub step_gets_nearer : (a after : ArenaView) (posting : Posting) (p : Progressed) (then : Posting) → PostStep a after posting p then → GetsNearer a after posting p then
step_gets_nearer a after posting Moved then step = posting_gets_nearer a after posting then step
step_gets_nearer a after posting Waits then step = tt
step_gets_nearer a after posting (Ended end) then step = tt
