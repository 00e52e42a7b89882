-- A put or remove that runs alone, with its posting: it waits nowhere, and with each step that gets on less is left.
use Rattle.std.proofs.Common.{ℕ, ◌≡◌, ◌≢◌, ◌<◌, ◌≤◌, ◌+◌, ◌*◌, ◌⊎◌, inl, inr, List, [], ◌∷◌, length, Option, Some, None, Bool, true, false, refl, sym, ap, subst, ◌∙◌, arith}
use Rattle.std.specs.Option.{option_and_then}
use Rattle.mt_types.specs.declared.limits.TheConstants.{MAX_KEY_BYTES, MAX_NODES}
use Rattle.mt_types.specs.declared.numbers.NodeNo.{NodeNo}
use Rattle.mt_slice.specs.Place.{AreBytes}
use Rattle.mt_border.specs.Border.{BorderView}
use Rattle.mt_interior.specs.Head.{HeadView}
use Rattle.mt_interior.specs.Interior.{InteriorView}
use Rattle.mt_arena.specs.Node.{node_at, head_at, interior_at, border_at, head_of}
use Rattle.mt_arena.specs.Arena.{ArenaView, IsArena}
use Rattle.mt_arena.specs.declared.node.Node.{Node}
use Rattle.mt_arena.specs.declared.node.Node.TheVariants.{Head, Interior, Border}
use Rattle.mt_arena.proofs.NodeLemmas.{node-from_interior, node-from_border}
use Rattle.mt_chart.specs.Tree.{Among, first, later, HeadNode}
use Rattle.mt_chart.specs.Chart.{Standing, on, gone, top, Spot, spot, Chart, Evolves}
use Rattle.mt_chart.specs.Walk.{IsOn}
use Rattle.mt_tree.specs.Seen.{arena_seen}
use Rattle.mt_tree.specs.Descent.{is_marked}
use Rattle.mt_tree.proofs.SeenLemmas.{head-seen}
use Rattle.mt_steps.specs.declared.progress.Progress.{Progress}
use Rattle.mt_steps.specs.declared.progress.Progress.TheVariants.{Moved, Waits, Committed, Answered, Refused}
use Rattle.mt_steps.specs.declared.way.Way.{Way}
use Rattle.mt_steps.specs.World.{World, IsWorld, IsTaken}
use Rattle.mt_steps.specs.Way.{prefix_of, IsOnWay}
use Rattle.mt_steps.proofs.LoneLemmas.{untaken_alive}
use Rattle.mt_steps.proofs.LoneWay.{IsOnThere, way_moves}
use Rattle.mt_post.specs.declared.posting.Posting.{Posting}
use Rattle.mt_post.specs.declared.posting.Progressed.TheVariants.{Moved as PostMoved, Waits as PostAgain}
use Rattle.mt_post.specs.declared.split.Split.{Split}
use Rattle.mt_post.specs.declared.posting.PostStage.{PostStage}
use Rattle.mt_post.specs.declared.posting.PostStage.TheVariants.{Walks, RootWanted, RootSpared, RootFilled, RootLate, HalfWanted, HalfSpared, HalfLeftOut, LetGo, HalfPosted, HalfCut}
use Rattle.mt_post.specs.Posting.{PostingIsTrue, PostStageIsTrue, IsToPost, AreWaiting, split_owns, stage_owns, owned as posting_owned}
use Rattle.mt_post.specs.Causes.{PostWaits}
use Rattle.mt_post.specs.Follows.{mark_of}
use Rattle.mt_post.specs.Ending.{free_numbers, kinds_below, stage_frame, waiting_frames, steps_left}
use Rattle.mt_post.specs.Alone.{HasGone, IsUnmarked, WalksUnmarked, WalksOn, UnlockedAreUnmarked, RunsAlone}
use Rattle.mt_chart.specs.Posting.{posting_measure}
use Rattle.mt_post.proofs.EndingLemmas.{kinds_of_head}
use Rattle.mt_post.proofs.AloneLemmas.{unless, gone_stays, stage_own_unmarked, waits_marked, postings_run_alone}
use Rattle.mt_write.specs.declared.writing.Write.{Write}
use Rattle.mt_write.specs.declared.writing.Edit.{Edit}
use Rattle.mt_write.specs.declared.writing.Halves.{Halves}
use Rattle.mt_write.specs.declared.writing.Ending.{Ending}
use Rattle.mt_chart.proofs.Basics.{same_number}
use Rattle.mt_write.specs.declared.writing.Stage.{Stage}
use Rattle.mt_write.specs.declared.writing.Stage.TheVariants.{Seeks, Enters, Rightward, Searched, Copies, GivesBack, Spared, HalfFilled, HalfLinked, Halved, Posts, LayerSpared, LayerFilled, LayerReady, LayerMarked, LayerLinked, Layered, Reserved, KeyWritten, Filled, Made, Taken, Stored, Hidden, Forgets, Failed}
use Rattle.mt_write.specs.Held.{stage_held, write_held, owned}
use Rattle.mt_write.specs.Writing.{StageIsTrue, HasLocked, HasOthers}
use Rattle.mt_write.specs.Causes.{WriteWaits}
use Rattle.mt_write.specs.Follows.{Follows, WriteFollows, HeadGoes, HeadFollows, IsNewPosting, PostingSteps, PostsGo, PostsFollow}
use Rattle.mt_write.proofs.LinkLemmas.{linked_head_stands}
use Rattle.mt_write.specs.Runs.{Advances}
use Rattle.mt_write.proofs.LoneStands.{head_place}
use Rattle.mt_write.proofs.LoneWrite.{OnlyOwn, KeepsSpots, PostingGoesOn, stage_stands, write_stands, write_left, write_begins, lone_write_waits_not, lone_write_nearer, IsLoneWrite, IsLoneStep}

-- ---- a head that the chart knows is never the write's own
-- the number names no head, or the chart doesn't know it
abbrev NoHead : ArenaView → World → ℕ → Type 0
NoHead a w number = (head_at a.nodes number ≡ None) ⊎ (w.chart number ≡ None)

-- the number is the head of a layer, and is on
pub record HeadIsOn (chart : Chart) (number : ℕ) : Type 0 where
  pub prefix : List ℕ
  pub low : ℕ
  pub posted : Bool
  pub place : chart number ≡ Some (spot top prefix low (on posted))

named_head : (a : ArenaView) (number : ℕ) (node : HeadNode) → arena_seen a number ≡ Some (Rattle.mt_chart.specs.Tree.head node) → head_at a.nodes number ≡ None → ⊥
named_head a number node there none =
    let (h, named, same) = head-seen a number node there in
    let clash : ◌≡◌ {A = Option HeadView} None (Some h) = sym none ∙ named in
    cc

known_head : (a : ArenaView) (now : ℕ) (w : World) → IsWorld a now w → (number : ℕ) (prefix : List ℕ) (low : ℕ) (standing : Standing) → w.chart number ≡ Some (spot top prefix low standing) → NoHead a w number → ⊥
known_head a now w world number prefix low standing place (inr unknown) = let clash : ◌≡◌ {A = Option Spot} None (Some (spot top prefix low standing)) = sym unknown ∙ place in cc
known_head a now w world number prefix low (on posted) place (inl none) = let h = world.index.tree.heads number prefix low posted place in named_head a number h.node h.is_node none
known_head a now w world number prefix low (gone epoch) place (inl none) = let (node, there, marked) = world.index.tree.gone_heads number prefix low epoch place in named_head a number node there none

module _ (a : ArenaView) (w : World) where
  of_border : (number : ℕ) (b : BorderView) → border_at a.nodes number ≡ Some b → NoHead a w number
  of_border number b named = inl (ap (option_and_then head_of) (node-from_border a.nodes number b named))

  of_interior : (number : ℕ) (i : InteriorView) → interior_at a.nodes number ≡ Some i → NoHead a w number
  of_interior number i named = inl (ap (option_and_then head_of) (node-from_interior a.nodes number i named))

  no_others : (number : ℕ) → Among number [] → NoHead a w number
  no_others number i = elim i [ ]

  one_more : (one : ℕ) (owns : List ℕ) → NoHead a w one → ((number : ℕ) → Among number owns → NoHead a w number) → (number : ℕ) → Among number (one ∷ owns) → NoHead a w number
  one_more one owns here others number first = here
  one_more one owns here others number (later i) = others number i

  -- what a posting owns
  splits_no_head : (prefix : List ℕ) (half low : ℕ) (waiting : List Split) → IsToPost a w prefix half low → AreWaiting a w prefix waiting → (number : ℕ) → Among number (split_owns half waiting) → NoHead a w number
  splits_no_head prefix half low [] t all = one_more half [] (of_border half t.b t.named) no_others
  splits_no_head prefix half low (split ∷ waiting) t (less, h, more) =
      one_more split.half.node.0 _ (of_interior split.half.node.0 _ h.spare.named) (one_more split.interior.0 _ (of_interior split.interior.0 h.interior h.splits.named) (splits_no_head prefix half low waiting t more))

  module _ (begun : ℕ) (prefix : List ℕ) (half : NodeNo) (low : ℕ) (waiting : List Split) (t : IsToPost a w prefix half.0 low) (all : AreWaiting a w prefix waiting) where
    abbrev rest : (number : ℕ) → Among number (split_owns half.0 waiting) → NoHead a w number
    rest = splits_no_head prefix half.0 low waiting t all

    posting_no_head : (stage : PostStage) → PostStageIsTrue begun prefix half low waiting stage a w → (number : ℕ) → Among number (stage_owns half.0 waiting stage) → NoHead a w number
    posting_no_head (Walks node) truth = rest
    posting_no_head (RootWanted old) truth = rest
    posting_no_head (RootSpared old root) truth = one_more root.0 _ (of_interior root.0 _ truth.1.named) rest
    posting_no_head (RootFilled old root) truth = one_more root.0 _ (of_interior root.0 _ truth.1.named) rest
    posting_no_head (RootLate root) (i, above, spare) = one_more root.0 _ (of_interior root.0 i spare.named) rest
    posting_no_head (HalfWanted interior) (i, above, s) = one_more interior.0 _ (of_interior interior.0 i s.named) rest
    posting_no_head (HalfSpared interior spare) (i, above, s, least, starts, sound, spared) = one_more spare.0 _ (of_interior spare.0 _ spared.named) (one_more interior.0 _ (of_interior interior.0 i s.named) rest)
    posting_no_head (HalfLeftOut left why) (above, h) = one_more left.half.node.0 _ (of_interior left.half.node.0 _ h.spare.named) (one_more left.interior.0 _ (of_interior left.interior.0 h.interior h.splits.named) rest)
    posting_no_head (LetGo interior why) truth = one_more interior.0 _ (of_interior interior.0 truth.interior truth.named) rest
    posting_no_head (HalfPosted posted) (above, p) = one_more posted.half.node.0 _ (of_interior posted.half.node.0 p.half p.half_named) (one_more posted.interior.0 _ (of_interior posted.interior.0 p.interior p.named) rest)
    posting_no_head (HalfCut posted) truth = one_more posted.0 _ (of_interior posted.0 truth.interior truth.named) rest

  -- what a write owns
  halves_no_head : (prefix : List ℕ) (place : ℕ) (split : Option Halves) → HasLocked prefix a w place split → (number : ℕ) → Among number (owned place split) → NoHead a w number
  halves_no_head prefix place split has number i = let l = has.locked number i in of_border number l.b l.named

  others_no_head : (prefix : List ℕ) (way : Way) (split : Option Halves) (b : BorderView) → border_at a.nodes way.node.0 ≡ Some b → HasOthers prefix a w way.node.0 split → (number : ℕ) → Among number (owned way.node.0 split) → NoHead a w number
  others_no_head prefix way split b named has number i = elim (same_number number way.node.0) [
    | inl e ↦ subst (λ (m : ℕ). NoHead a w m) (sym e) (of_border way.node.0 b named)
    | inr differ ↦ (let l = has.locked number i differ in of_border number l.b l.named)
  ]

  stage_no_head : (C begun : ℕ) (key : List ℕ) (edit : Edit) (way : Way) (stage : Stage) → StageIsTrue C key edit way stage begun a w → (number : ℕ) → Among number (stage_held way.node.0 stage).owns → NoHead a w number
  stage_no_head C begun key edit way Seeks truth = no_others
  stage_no_head C begun key edit way (Enters entering) (k, held, read) = one_more way.node.0 [] (of_border way.node.0 k.b k.named) no_others
  stage_no_head C begun key edit way (Rightward next) (k, held) = one_more way.node.0 [] (of_border way.node.0 k.b k.named) no_others
  stage_no_head C begun key edit way (Searched there) (b, at, found) = one_more way.node.0 [] (of_border way.node.0 b at.named) no_others
  stage_no_head C begun key edit way (Copies half cut place outline entries) (b, at, f, c, spare, r, e, p) = one_more half.0 _ (of_border half.0 _ spare.named) (one_more way.node.0 [] (of_border way.node.0 b at.named) no_others)
  stage_no_head C begun key edit way (GivesBack half) (k, u, spare) = one_more half.0 _ (of_border half.0 _ spare.named) (one_more way.node.0 [] (of_border way.node.0 k.b k.named) no_others)
  stage_no_head C begun key edit way (Spared half cut place right entries) (b, at, f, c, spare, same, p, noted) = one_more half.0 _ (of_border half.0 _ spare.named) (one_more way.node.0 [] (of_border way.node.0 b at.named) no_others)
  stage_no_head C begun key edit way (HalfFilled half cut place) (b, at, f, c, spare, p) = one_more half.0 _ (of_border half.0 _ spare.named) (one_more way.node.0 [] (of_border way.node.0 b at.named) no_others)
  stage_no_head C begun key edit way (HalfLinked half cut place) (h, p) = one_more half.0 _ (of_border half.0 _ h.filled) (one_more way.node.0 [] (of_border way.node.0 _ h.named) no_others)
  stage_no_head C begun key edit way (Halved split place) (b, at, half, has, p) = halves_no_head (prefix_of key way) way.node.0 (Some split) has
  stage_no_head C begun key edit way (LayerSpared layer entries) (b, at, fill) = one_more layer.head.0 _ (inr fill.has.head_unknown) (one_more layer.root.0 _ (of_border layer.root.0 _ fill.has.is_root) (one_more way.node.0 [] (of_border way.node.0 b at.named) no_others))
  stage_no_head C begun key edit way (LayerFilled layer) (b, at, link) = one_more layer.head.0 _ (inr link.has.head_unknown) (one_more layer.root.0 _ (of_border layer.root.0 _ link.has.is_root) (one_more way.node.0 [] (of_border way.node.0 b at.named) no_others))
  stage_no_head C begun key edit way (LayerReady layer) (b, at, link) = one_more layer.head.0 _ (inr link.has.head_unknown) (one_more layer.root.0 _ (of_border layer.root.0 _ link.has.is_root) (one_more way.node.0 [] (of_border way.node.0 b at.named) no_others))
  stage_no_head C begun key edit way (LayerMarked layer) (b, at, link, unstable) = one_more layer.head.0 _ (inr link.has.head_unknown) (one_more layer.root.0 _ (of_border layer.root.0 _ link.has.is_root) (one_more way.node.0 [] (of_border way.node.0 b at.named) no_others))
  stage_no_head C begun key edit way (LayerLinked below) (has, onward, head) = one_more way.node.0 [] (of_border way.node.0 has.b has.named) no_others
  stage_no_head C begun key edit way (Layered below) (has, onward, head) = one_more way.node.0 [] (of_border way.node.0 has.border.b has.border.named) no_others
  stage_no_head C begun key edit way (Reserved new slot_key row) (b, at, p, made, awaits, has) = halves_no_head (prefix_of key way) way.node.0 new.split has
  stage_no_head C begun key edit way (KeyWritten new row) (b, at, p, made, awaits, has) = others_no_head (prefix_of key way) way new.split b at.named has
  stage_no_head C begun key edit way (Filled place stored logged split) (b, at, p, filled, has) = halves_no_head (prefix_of key way) way.node.0 split has
  stage_no_head C begun key edit way (Made place stored columns logged) (b, at, p, made) = one_more way.node.0 [] (of_border way.node.0 b at.named) no_others
  stage_no_head C begun key edit way (Taken place stored before) (b, at, found) = one_more way.node.0 [] (of_border way.node.0 b at.named) no_others
  stage_no_head C begun key edit way (Posts posting ending) (truth, half, may) = posting_no_head begun truth.0 posting.half posting.low posting.waiting truth.1.border truth.1.waiting posting.stage truth.1.stage
  stage_no_head C begun key edit way (Stored commit split) has = halves_no_head (prefix_of key way) way.node.0 split has
  stage_no_head C begun key edit way (Hidden commit) has = one_more way.node.0 [] (of_border way.node.0 has.b has.named) no_others
  stage_no_head C begun key edit way (Forgets commit) has = one_more way.node.0 [] (of_border way.node.0 has.b has.named) no_others
  stage_no_head C begun key edit way (Failed refusal split) (has, may, tells) = halves_no_head (prefix_of key way) way.node.0 split has

-- ---- its posting
-- what else is true of a posting that runs alone
abbrev pub post_stands : ArenaView → World → Posting → Type 0
post_stands a w posting = ((number : ℕ) → mark_of (node_at a.nodes number) ≡ true → HasGone w.chart number) × IsUnmarked a posting.head.0 × WalksUnmarked a posting.stage

-- the most steps that a posting takes from its begin on
abbrev pub most_steps : ℕ
most_steps = 64 * MAX_NODES + 18

alive_unmarked : (o : Option Node) → mark_of o ≡ true → ((node : Node) → o ≡ Some node → is_marked node ≡ false) → ⊥
alive_unmarked None e alive = let clash : false ≡ true = e in cc
alive_unmarked (Some (Head h)) e alive = let clash : false ≡ true = sym (alive (Head h) refl) ∙ e in cc
alive_unmarked (Some (Interior i)) e alive = let clash : false ≡ true = sym (alive (Interior i) refl) ∙ e in cc
alive_unmarked (Some (Border b)) e alive = let clash : false ≡ true = e in cc

module _ (a : ArenaView) (now begun : ℕ) (w : World) (posting : Posting) (world : IsWorld a now w) (truth : PostingIsTrue begun posting a w) (only : OnlyOwn a w (posting_owned posting)) where
  own_unmarked : (number : ℕ) → IsTaken a w number → IsUnmarked a number
  own_unmarked number taken = stage_own_unmarked a w truth.0 begun posting.half posting.low posting.waiting truth.1.border truth.1.waiting posting.stage truth.1.stage number (only number taken)

  -- if all that is taken is its own, what is on isn't marked
  on_unmarked : (number : ℕ) → IsOn w.chart number → IsUnmarked a number
  on_unmarked number stands = unless (mark_of (node_at a.nodes number)) (λ marked.
      let free : IsTaken a w number → ⊥ = λ taken. (let clash : false ≡ true = sym (own_unmarked number taken) ∙ marked in cc) in
      alive_unmarked (node_at a.nodes number) marked (λ node named. untaken_alive a now w world number free stands node named))

  -- a posting that begins
  posting_begins : (head half : NodeNo) → HeadIsOn w.chart head.0 → IsNewPosting head half posting → post_stands a w posting × (steps_left a posting ≤ most_steps)
  posting_begins head half h new =
      let here : IsOn w.chart head.0 = record { role = top; prefix = h.prefix; low = h.low; posted = h.posted; place = h.place } in
      let free : UnlockedAreUnmarked a w = λ number stands unlocked. on_unmarked number stands in
      let (alone, walks) = postings_run_alone now begun a posting w world truth only free (subst (λ (n : NodeNo). IsOn w.chart n.0) (sym new.same_head) here) in
      let at = world.index.tree.heads head.0 h.prefix h.low h.posted h.place in
      let (v, named, same) = head-seen a head.0 at.node at.is_node in
      let kinds : kinds_below (node_at a.nodes head.0) ≡ 16 = kinds_of_head a head.0 v named in
      let left : steps_left a posting ≡ posting_measure (free_numbers a) (stage_frame a posting.head (Walks head) ∷ waiting_frames []) =
      ap (λ (s : PostStage). posting_measure (free_numbers a) (stage_frame a posting.head s ∷ waiting_frames posting.waiting)) new.walks
      ∙ ap (λ (l : List Split). posting_measure (free_numbers a) (stage_frame a posting.head (Walks head) ∷ waiting_frames l)) new.idle in
      ((alone.marked, alone.head, walks (subst (λ (s : PostStage). WalksOn w s) (sym new.walks) here)), omega (arith, left, kinds))

  -- a step of it that moves
  module _ (before : begun ≤ now) (stands : post_stands a w posting) where
    abbrev alone : RunsAlone now begun posting a w
    alone = record { world = world; taken = only; marked = stands.0; head = stands.1; true = truth }

    posting_moves : (after : ArenaView) (next : World) (then : Posting) → Evolves 0 w.chart next.chart → PostingSteps a after posting PostMoved then → IsArena a → IsArena after
        → post_stands after next then × (steps_left after then < steps_left a posting)
    posting_moves after next then evolves steps sound sound_after =
        let goes = steps.alone now begun w before alone in
        let marked : (number : ℕ) → mark_of (node_at after.nodes number) ≡ true → HasGone next.chart number = λ number m. gone_stays w.chart next.chart number evolves (stands.0 number (steps.marks number m)) in
        ((marked, goes.alone.head, goes.unmarked), steps.nearer now begun w world before truth sound sound_after)

    posting_waits_not : PostWaits a posting PostAgain → ⊥
    posting_waits_not waits = waits_marked a a posting posting w now begun before alone posting.stage truth.1.stage only waits stands.2

-- ---- a step of the write
module _ (C now begun : ℕ) (a after : ArenaView) (w next : World) (key : List ℕ) (edit new_edit : Edit) (way goal : Way) (world : IsWorld a now w) (then_world : IsWorld after now next)
    (evolves : Evolves 0 w.chart next.chart) (bytes : AreBytes key) (fits : length key ≤ MAX_KEY_BYTES) (stage new : Stage) (truth : StageIsTrue C key edit way stage begun a w) (new_truth : StageIsTrue C key new_edit goal new begun after next)
    (spots : KeepsSpots w next (stage_held way.node.0 stage).owns (stage_held goal.node.0 new).owns) where
  -- a head that is on stays so
  head_kept : (number : ℕ) → HeadIsOn w.chart number → HeadIsOn next.chart number
  head_kept number h = record { prefix = h.prefix; low = h.low; posted = h.posted; place = spots number before then ∙ h.place }
    where
      before : Among number (stage_held way.node.0 stage).owns → ⊥
      before i = known_head a now w world number h.prefix h.low (on h.posted) h.place (stage_no_head a w C begun key edit way stage truth number i)

      then : Among number (stage_held goal.node.0 new).owns → ⊥
      then i = elim (evolves number top h.prefix h.low (on h.posted) h.place) [
        | inl kept ↦ known_head after now next then_world number h.prefix h.low kept.0 kept.1 (stage_no_head after next C begun key new_edit goal new new_truth number i)
        | inr freed ↦ absurd (let clash : on h.posted ≡ gone freed.0 = freed.1 in cc)
      ]

  -- the head of the layer where it then is is on
  head_follows : (p : Progress) (head then : NodeNo) → HeadIsOn w.chart head.0 → stage_stands post_stands a w key way stage → Advances p → HeadGoes head way stage p goal then → Follows a key way stage p goal new → HeadIsOn next.chart then.0
  head_follows p head then h stands gets goes follows = go stage p truth stands gets goes follows
    where
      same : then ≡ head → HeadIsOn next.chart then.0
      same is = subst (λ (n : NodeNo). HeadIsOn next.chart n.0) (sym is) (head_kept head.0 h)

      moved : IsOnWay begun key way w → IsOnThere w key way → ((goal.layer ≡ way.layer) × (then ≡ head)) ⊎ ((goal.layer ≢ way.layer) × (then ≡ goal.node)) → Follows a key way Seeks Moved goal new → HeadIsOn next.chart then.0
      moved held there (inl stays) follows = same stays.1
      moved held there (inr leaves) (inl at) = absurd (leaves.0 (ap (λ (x : Way). x.layer) at.1))
      moved held there (inr leaves) (inr on_way) =
          let goes = on_way.1.goes now w begun world held in
          let (on_there, falls) = way_moves a now begun w key way goal world bytes fits held there goes in
          elim goes.2 [
            | inl stays ↦ absurd (leaves.0 stays)
            | inr known ↦
                let place = head_place w goal.node.0 (prefix_of key goal) known.1.standing known.1.place (record { role = on_there.role; prefix = prefix_of key goal; low = on_there.low; posted = on_there.posted; place = on_there.place }) in
                subst (λ (n : NodeNo). HeadIsOn next.chart n.0) (sym leaves.1) (head_kept goal.node.0 (record { prefix = prefix_of key goal; low = 0; posted = on_there.posted; place = place }))
          ]

      below_on : (below : NodeNo) → StageIsTrue C key edit way (Layered below) begun a w → then ≡ below → HeadIsOn next.chart then.0
      below_on below truth is = subst (λ (n : NodeNo). HeadIsOn next.chart n.0) (sym is)
          (head_kept below.0 (record { prefix = truth.0.slice ∷ prefix_of key way; low = 0; posted = true; place = linked_head_stands (prefix_of key way) a now w way.node.0 below world truth.0 }))

      go : (stage : Stage) (p : Progress) → StageIsTrue C key edit way stage begun a w → stage_stands post_stands a w key way stage → Advances p → HeadGoes head way stage p goal then → Follows a key way stage p goal new → HeadIsOn next.chart then.0
      go Seeks Moved truth stands gets goes follows = moved truth stands goes follows
      go Seeks (Committed number) truth stands gets goes follows = absurd follows.0
      go Seeks Waits truth stands gets goes follows = absurd gets
      go Seeks (Answered answer) truth stands gets goes follows = absurd gets
      go Seeks (Refused refusal) truth stands gets goes follows = absurd gets
      go (Layered below) p truth stands gets goes follows = below_on below truth goes
      go _ p truth stands gets goes follows = same goes

-- what is true of its posting after the step
module _ (now begun : ℕ) (a after : ArenaView) (w next : World) (key : List ℕ) (way goal : Way) (head : NodeNo) (world : IsWorld a now w) (then_world : IsWorld after now next) (before : begun ≤ now)
    (evolves : Evolves 0 w.chart next.chart) (sound : IsArena a) (sound_after : IsArena after) (head_on : HeadIsOn next.chart head.0) (C : ℕ) (edit new_edit : Edit) where
  begins_posting : (half : NodeNo) (posting : Posting) (ending : Ending) → StageIsTrue C key new_edit goal (Posts posting ending) begun after next → OnlyOwn after next (posting_owned posting) → IsNewPosting head half posting
      → post_stands after next posting × (steps_left after posting ≤ most_steps)
  begins_posting half posting ending truth only new = posting_begins after now begun next posting then_world truth.0 only head half head_on new

  posts_go : (stage new : Stage) (p : Progress) → StageIsTrue C key edit way stage begun a w → stage_stands post_stands a w key way stage → OnlyOwn a w (stage_held way.node.0 stage).owns
      → StageIsTrue C key new_edit goal new begun after next → OnlyOwn after next (stage_held goal.node.0 new).owns → Advances p → Follows a key way stage p goal new → PostsGo a after head stage p new
      → PostingGoesOn post_stands steps_left most_steps a after next stage new
  posts_go (Stored commit (Some split)) (Posts posting ending) p truth stands only new_truth new_only gets follows posts = begins_posting split.half posting ending new_truth new_only posts
  posts_go (Failed refusal (Some split)) (Posts posting ending) p truth stands only new_truth new_only gets follows posts = begins_posting split.half posting ending new_truth new_only posts
  posts_go (Stored commit None) (Posts posting ending) Moved truth stands only new_truth new_only gets follows posts = absurd (follows.1 refl)
  posts_go (Stored commit None) (Posts posting ending) (Committed number) truth stands only new_truth new_only gets follows posts = absurd follows.0
  posts_go (Failed refusal None) (Posts posting ending) Moved truth stands only new_truth new_only gets follows posts = absurd (follows.1 refl)
  posts_go (Failed refusal None) (Posts posting ending) (Committed number) truth stands only new_truth new_only gets follows posts = absurd follows.0
  posts_go (Posts posting ending) (Posts then other) Moved truth stands only new_truth new_only gets follows posts =
      posting_moves a now begun w posting world truth.0 only before stands after next then evolves posts sound sound_after
  posts_go (Posts posting ending) (Posts then other) (Committed number) truth stands only new_truth new_only gets follows posts = absurd follows.0
  posts_go stage new Waits truth stands only new_truth new_only gets follows posts = absurd gets
  posts_go stage new (Answered answer) truth stands only new_truth new_only gets follows posts = absurd gets
  posts_go stage new (Refused refusal) truth stands only new_truth new_only gets follows posts = absurd gets
  posts_go stage new p truth stands only new_truth new_only gets follows posts = tt

-- ---- WHAT IS TRUE OF A PUT OR REMOVE THAT RUNS ALONE, and how much is left of it at most
abbrev pub lone_stands : ArenaView → World → Write → Type 0
lone_stands a w write = HeadIsOn w.chart write.head.0 × write_stands post_stands a w write

abbrev pub lone_left : ArenaView → Write → ℕ
lone_left a write = write_left steps_left most_steps a write

-- it is true where it begins
pub begins : (a : ArenaView) (now : ℕ) (w : World) (write : Write) → IsWorld a now w → ((number : ℕ) → IsTaken a w number → ⊥) → write.way ≡ record { node = record { 0 = 0 }; layer = 0 } → write.head ≡ record { 0 = 0 } → write.stage ≡ Seeks
    → lone_stands a w write
begins a now w write world free start head seeks = (
  subst (λ (n : NodeNo). HeadIsOn w.chart n.0) (sym head) (record { prefix = []; low = 0; posted = true; place = world.index.tree.layer_0 }),
  write_begins post_stands a now w write world start seeks,
)

-- IT WAITS NOWHERE
pub waits_not : (C now begun : ℕ) (a : ArenaView) (w : World) (write : Write) → IsWorld a now w → begun ≤ now → StageIsTrue C write.key write.edit write.way write.stage begun a w → lone_stands a w write → AreBytes write.key
    → length write.key ≤ MAX_KEY_BYTES → OnlyOwn a w (write_held write).owns → WriteWaits a write Waits → ⊥
waits_not C now begun a w write world before truth stands bytes fits only waits =
    lone_write_waits_not post_stands (λ x n b v posting is_world earlier is_true there own waiting. posting_waits_not x n b v posting is_world is_true own earlier there waiting)
    C now begun a w write before (record { world = world; true = truth; stands = stands.1; bytes = bytes; fits = fits; only_own = only }) waits

-- WITH EACH STEP THAT GETS ON less is left, and it runs on alone
pub nearer : (C now begun : ℕ) (a after : ArenaView) (w next : World) (write new : Write) (p : Progress) → IsWorld a now w → begun ≤ now → StageIsTrue C write.key write.edit write.way write.stage begun a w → lone_stands a w write
    → AreBytes write.key → length write.key ≤ MAX_KEY_BYTES → OnlyOwn a w (write_held write).owns → IsArena a → IsArena after
    → WriteFollows a write p new → HeadFollows write p new → PostsFollow a after write p new → Advances p → IsWorld after now next
    → KeepsSpots w next (write_held write).owns (write_held new).owns → Evolves 0 w.chart next.chart → StageIsTrue C new.key new.edit new.way new.stage begun after next
    → OnlyOwn after next (write_held new).owns → new.key ≡ write.key
    → lone_stands after next new × (lone_left after new < lone_left a write)
nearer C now begun a after w next write new p world before truth stands bytes fits only sound sound_after follows heads posts gets then_world spots evolves new_truth new_only same_key =
    let then_true = subst (λ (k : List ℕ). StageIsTrue C k new.edit new.way new.stage begun after next) same_key new_truth in
    let head_on = head_kept C now begun a after w next write.key write.edit new.edit write.way new.way world then_world evolves bytes fits write.stage new.stage truth then_true spots write.head.0 stands.0 in
    let then_head = head_follows C now begun a after w next write.key write.edit new.edit write.way new.way world then_world evolves bytes fits write.stage new.stage truth then_true spots p write.head new.head stands.0 stands.1 gets heads follows in
    let goes = posts_go now begun a after w next write.key write.way new.way write.head world then_world before evolves sound sound_after head_on C write.edit new.edit write.stage new.stage p truth stands.1 only then_true new_only gets follows posts in
    let lone : IsLoneWrite post_stands C now begun a w write = record { world = world; true = truth; stands = stands.1; bytes = bytes; fits = fits; only_own = only } in
    let step : IsLoneStep post_stands steps_left most_steps C now begun a after w next write p new = record { follows = follows; gets_on = gets; same_key = same_key; world = then_world; evolves = evolves; spots = spots; true = new_truth; posts = goes } in
    let (still, less) = lone_write_nearer post_stands steps_left most_steps C now begun a after w next write new p lone step in
    ((then_head, still), less)
