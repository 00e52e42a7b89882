-- What others' steps leave of a posting, and what a posting owns.
use Rattle.std.proofs.Common.{ℕ, ◌≡◌, List, [], ◌∷◌, Option, Some, true, sym, ap, ◌∙◌}
use Rattle.mt_types.specs.declared.numbers.NodeNo.{NodeNo}
use Rattle.mt_interior.specs.Interior.{InteriorView}
use Rattle.mt_interior.specs.declared.child.Child.{Child}
use Rattle.mt_arena.specs.Node.{interior_at}
use Rattle.mt_arena.specs.Arena.{ArenaView}
use Rattle.mt_chart.specs.Tree.{Among, first, later}
use Rattle.mt_chart.specs.Chart.{Role, top, Spot, spot, Evolves}
use Rattle.mt_chart.proofs.Walk.{known_kept}
use Rattle.mt_tree.specs.InteriorSteps.{IsInLayer}
use Rattle.mt_steps.specs.World.{World, IsWorld, IsTaken, IsSame, GoneSince}
use Rattle.mt_steps.proofs.CollectLemmas.{only_since, on_no, unknown_no}
use Rattle.mt_post.specs.declared.posting.Posting.{Posting}
use Rattle.mt_post.specs.declared.split.Split.{Split}
use Rattle.mt_post.specs.declared.posting.PostStage.{PostStage}
use Rattle.mt_post.specs.declared.posting.PostStage.TheVariants.{Walks, RootWanted, RootSpared, RootFilled, RootLate, HalfWanted, HalfSpared, HalfLeftOut, LetGo, HalfPosted, HalfCut}
use Rattle.mt_post.specs.Posting.{split_owns, stage_owns, owned, WalksFrom, IsToPost, IsWalking, IsSpareInterior, AreWaiting, PostStageIsTrue, PostingIsTrue}
use Rattle.mt_post.proofs.KeptLemmas.{all_stay, spare_stays, splitting_stays, halved_stays, let_go_stays, posted_half_stays, owns_taken, spare_taken, locked_taken}

-- ---- what others' steps leave
module _ (a after : ArenaView) (w next : World) (begun : ℕ) (evolves : Evolves begun w.chart next.chart) where
  -- it walks on from where it is
  walking_stays : (prefix : List ℕ) (wanted : Child) (node : ℕ) → IsWalking begun prefix wanted node w → IsWalking begun prefix wanted node next
  walking_stays prefix wanted node at =
      let held = at.held in
      let known = known_kept begun node held.role prefix held.low w.chart next.chart evolves (record { standing = held.standing; place = held.place; since = held.since }) in
      record { held = record { role = held.role; low = held.low; standing = known.standing; place = known.place; at_most = held.at_most; since = known.since }; inner = at.inner }

  stage_stays : (prefix : List ℕ) (half : NodeNo) (low : ℕ) (waiting : List Split) (stage : PostStage) → ((number : ℕ) → Among number (stage_owns half.0 waiting stage) → IsSame a after w next number) → PostStageIsTrue begun prefix half low waiting stage a w → PostStageIsTrue begun prefix half low waiting stage after next
  stage_stays prefix half low waiting (Walks node) same truth = walking_stays prefix _ node.0 truth
  stage_stays prefix half low waiting (RootWanted old) same truth = truth
  stage_stays prefix half low waiting (RootSpared old root) same truth = (truth.0, spare_stays a after w next prefix root.0 _ (same root.0 first) truth.1)
  stage_stays prefix half low waiting (RootFilled old root) same truth = (truth.0, spare_stays a after w next prefix root.0 _ (same root.0 first) truth.1)
  stage_stays prefix half low waiting (RootLate root) same truth = let (i, above, spare) = truth in (i, above, spare_stays a after w next prefix root.0 i (same root.0 first) spare)
  stage_stays prefix half low waiting (HalfWanted interior) same truth = let (i, above, s) = truth in (i, above, splitting_stays a after w next prefix interior.0 i (same interior.0 first) s)
  stage_stays prefix half low waiting (HalfSpared interior spare) same truth =
      let (i, above, s, least, starts, sound, spared) = truth in (i, above, splitting_stays a after w next prefix interior.0 i (same interior.0 (later first)) s, least, starts, sound, spare_stays a after w next prefix spare.0 _ (same spare.0 first) spared)
  stage_stays prefix half low waiting (HalfLeftOut left why) same truth = (truth.0, halved_stays a after w next prefix left (same left.interior.0 (later first)) (same left.half.node.0 first) truth.1)
  stage_stays prefix half low waiting (LetGo interior why) same truth = let_go_stays a after w next prefix interior.0 _ (same interior.0 first) truth
  stage_stays prefix half low waiting (HalfPosted posted) same truth = (truth.0, posted_half_stays a after w next prefix posted (same posted.interior.0 (later first)) (same posted.half.node.0 first) truth.1)
  stage_stays prefix half low waiting (HalfCut posted) same truth = let_go_stays a after w next prefix posted.0 _ (same posted.0 first) truth

  -- while it walks, it is at no other head than the layer's
  walks_stay : (prefix : List ℕ) (head half : NodeNo) (low : ℕ) (waiting : List Split) (stage : PostStage) → PostStageIsTrue begun prefix half low waiting stage a w → WalksFrom head stage w → WalksFrom head stage next
  walks_stay prefix head half low waiting (Walks node) truth walks = λ layer least standing at.
      let held = truth.held in
      let known = known_kept begun node.0 held.role prefix held.low w.chart next.chart evolves (record { standing = held.standing; place = held.place; since = held.since }) in
      let both : ◌≡◌ {A = Option Spot} (Some (spot held.role prefix held.low known.standing)) (Some (spot top layer least standing)) = sym known.place ∙ at in
      let is_top : held.role ≡ top = cc in
      walks prefix held.low held.standing (held.place ∙ ap (λ (r : Role). Some (spot r prefix held.low held.standing)) is_top)
  walks_stay prefix head half low waiting _ truth walks = tt

  -- the splits that wait, and the border, are owned at each stage
  among_stage : (half : ℕ) (waiting : List Split) (stage : PostStage) (number : ℕ) → Among number (split_owns half waiting) → Among number (stage_owns half waiting stage)
  among_stage half waiting (Walks node) number i = i
  among_stage half waiting (RootWanted old) number i = i
  among_stage half waiting (HalfSpared interior spare) number i = later (later i)
  among_stage half waiting (HalfLeftOut left why) number i = later (later i)
  among_stage half waiting (HalfPosted posted) number i = later (later i)
  among_stage half waiting _ number i = later i

  -- the law of others' steps: if they don't change what a posting owns, what is true of it stays true
  pub posting_stays : (posting : Posting) → ((number : ℕ) → Among number (owned posting) → IsSame a after w next number) → PostingIsTrue begun posting a w → PostingIsTrue begun posting after next
  posting_stays posting same truth =
      let (prefix, t) = truth in
      let stay = all_stay a after w next prefix posting.half.0 posting.low posting.waiting (λ number i. same number (among_stage posting.half.0 posting.waiting posting.stage number i)) t.border t.waiting in (
        prefix,
        record {
          border = stay.0;
          head = known_kept begun posting.head.0 _ prefix 0 w.chart next.chart evolves t.head;
          waiting = stay.1;
          walks = walks_stay prefix posting.head posting.half posting.low posting.waiting posting.stage t.stage t.walks;
          stage = stage_stays prefix posting.half posting.low posting.waiting posting.stage same t.stage;
        },
      )

-- ---- what a posting owns is taken
module _ (a : ArenaView) (w : World) (begun : ℕ) (prefix : List ℕ) (half : NodeNo) (low : ℕ) (waiting : List Split) (t : IsToPost a w prefix half.0 low) (all : AreWaiting a w prefix waiting) where
  rest_taken : (number : ℕ) → Among number (split_owns half.0 waiting) → IsTaken a w number
  rest_taken number i = owns_taken a w prefix half.0 low waiting t all number i

  one_taken : (one number : ℕ) → IsTaken a w one → Among number (one ∷ split_owns half.0 waiting) → IsTaken a w number
  one_taken one number taken first = taken
  one_taken one number taken (later k) = rest_taken number k

  two_taken : (one other number : ℕ) → IsTaken a w one → IsTaken a w other → Among number (one ∷ other ∷ split_owns half.0 waiting) → IsTaken a w number
  two_taken one other number taken other_taken first = taken
  two_taken one other number taken other_taken (later k) = one_taken other number other_taken k

  is_spare : (root : ℕ) (i : InteriorView) → IsSpareInterior a w root i → IsTaken a w root
  is_spare root i spare = spare_taken a w prefix root i spare

  is_locked : (number : ℕ) (i : InteriorView) → interior_at a.nodes number ≡ Some i → i.version.locked ≡ true → IsTaken a w number
  is_locked number i named locked = locked_taken a w prefix number i named locked

  stage_taken : (stage : PostStage) → PostStageIsTrue begun prefix half low waiting stage a w → (number : ℕ) → Among number (stage_owns half.0 waiting stage) → IsTaken a w number
  stage_taken (Walks node) truth number i = rest_taken number i
  stage_taken (RootWanted old) truth number i = rest_taken number i
  stage_taken (RootSpared old root) truth number i = one_taken root.0 number (is_spare root.0 _ truth.1) i
  stage_taken (RootFilled old root) truth number i = one_taken root.0 number (is_spare root.0 _ truth.1) i
  stage_taken (RootLate root) truth number i = let (x, above, spare) = truth in one_taken root.0 number (is_spare root.0 x spare) i
  stage_taken (HalfWanted interior) truth number i = let (x, above, s) = truth in one_taken interior.0 number (is_locked interior.0 x s.named s.locked) i
  stage_taken (HalfSpared interior spare) truth number i = let (x, above, s, least, starts, sound, spared) = truth in two_taken spare.0 interior.0 number (is_spare spare.0 _ spared) (is_locked interior.0 x s.named s.locked) i
  stage_taken (HalfLeftOut left why) truth number i = let h = truth.1 in two_taken left.half.node.0 left.interior.0 number (is_spare left.half.node.0 _ h.spare) (is_locked left.interior.0 h.interior h.splits.named h.splits.locked) i
  stage_taken (LetGo interior why) truth number i = one_taken interior.0 number (is_locked interior.0 truth.interior truth.named truth.locked) i
  stage_taken (HalfPosted posted) truth number i = let p = truth.1 in two_taken posted.half.node.0 posted.interior.0 number (is_locked posted.half.node.0 p.half p.half_named p.half_locked) (is_locked posted.interior.0 p.interior p.named p.locked) i
  stage_taken (HalfCut posted) truth number i = one_taken posted.0 number (is_locked posted.0 truth.interior truth.named truth.locked) i

pub posting_taken : (a : ArenaView) (w : World) (begun : ℕ) (posting : Posting) → PostingIsTrue begun posting a w → (number : ℕ) → Among number (owned posting) → IsTaken a w number
posting_taken a w begun posting truth = let (prefix, t) = truth in stage_taken a w begun prefix posting.half posting.low posting.waiting t.border t.waiting posting.stage t.stage

-- ---- an interior that a posting owns is on, or not known
module _ (a : ArenaView) (now begun : ℕ) (w : World) (world : IsWorld a now w) (prefix : List ℕ) where
  both_since : (one : ℕ) (rest : List ℕ) → GoneSince begun w (one ∷ []) → GoneSince begun w rest → GoneSince begun w (one ∷ rest)
  both_since one rest here there number first = here one first
  both_since one rest here there number (later i) = there number i

  spare_since : (number : ℕ) (i : InteriorView) → IsSpareInterior a w number i → GoneSince begun w (number ∷ [])
  spare_since number i spare = only_since begun w number (unknown_no begun w number spare.unknown)

  layer_since : (number : ℕ) → IsInLayer w.chart number prefix → GoneSince begun w (number ∷ [])
  layer_since number stands = only_since begun w number (on_no begun w number _ _ _ _ stands.place)

  split_since : (half : NodeNo) (low : ℕ) (waiting : List Split) → IsToPost a w prefix half.0 low → AreWaiting a w prefix waiting → GoneSince begun w (split_owns half.0 waiting)
  split_since half low [] t all = only_since begun w half.0 (on_no begun w half.0 _ _ _ _ t.place)
  split_since half low (split ∷ waiting) t (above, h, more) = both_since split.half.node.0 _ (spare_since split.half.node.0 _ h.spare) (both_since split.interior.0 _ (layer_since split.interior.0 h.splits.stands) (split_since half low waiting t more))

  stage_since : (half : NodeNo) (low : ℕ) (waiting : List Split) (stage : PostStage) → IsToPost a w prefix half.0 low → AreWaiting a w prefix waiting → PostStageIsTrue begun prefix half low waiting stage a w → GoneSince begun w (stage_owns half.0 waiting stage)
  stage_since half low waiting (Walks node) t all truth = split_since half low waiting t all
  stage_since half low waiting (RootWanted old) t all truth = split_since half low waiting t all
  stage_since half low waiting (RootSpared old root) t all truth = both_since root.0 _ (spare_since root.0 _ truth.1) (split_since half low waiting t all)
  stage_since half low waiting (RootFilled old root) t all truth = both_since root.0 _ (spare_since root.0 _ truth.1) (split_since half low waiting t all)
  stage_since half low waiting (RootLate root) t all truth = let (i, above, spare) = truth in both_since root.0 _ (spare_since root.0 i spare) (split_since half low waiting t all)
  stage_since half low waiting (HalfWanted interior) t all truth = let (i, above, s) = truth in both_since interior.0 _ (layer_since interior.0 s.stands) (split_since half low waiting t all)
  stage_since half low waiting (HalfSpared interior spare) t all truth =
      let (i, above, s, least, starts, sound, spared) = truth in both_since spare.0 _ (spare_since spare.0 _ spared) (both_since interior.0 _ (layer_since interior.0 s.stands) (split_since half low waiting t all))
  stage_since half low waiting (HalfLeftOut left why) t all truth = both_since left.half.node.0 _ (spare_since left.half.node.0 _ truth.1.spare) (both_since left.interior.0 _ (layer_since left.interior.0 truth.1.splits.stands) (split_since half low waiting t all))
  stage_since half low waiting (LetGo interior why) t all truth = both_since interior.0 _ (layer_since interior.0 truth.stands) (split_since half low waiting t all)
  stage_since half low waiting (HalfPosted posted) t all truth = both_since posted.half.node.0 _ (layer_since posted.half.node.0 truth.1.half_stands) (both_since posted.interior.0 _ (layer_since posted.interior.0 truth.1.stands) (split_since half low waiting t all))
  stage_since half low waiting (HalfCut posted) t all truth = both_since posted.0 _ (layer_since posted.0 truth.stands) (split_since half low waiting t all)

pub posting_since : (a : ArenaView) (now begun : ℕ) (w : World) → IsWorld a now w → (posting : Posting) → PostingIsTrue begun posting a w → GoneSince begun w (owned posting)
posting_since a now begun w world posting truth = let (prefix, t) = truth in stage_since a now begun w world prefix posting.half posting.low posting.waiting posting.stage t.border t.waiting t.stage
