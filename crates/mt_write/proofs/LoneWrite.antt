-- A put or remove that runs alone: it waits nowhere, and with each step that gets on what is left of it falls.
use Rattle.std.proofs.Common.{ℕ, ◌≡◌, ◌≢◌, ◌<◌, ◌≤◌, ◌+◌, ◌-◌, ◌==◌, inl, inr, Bool, List, [], ◌∷◌, length, length-append, Option, Some, None, true, false, refl, sym, ap, subst, ◌∙◌, arith}
use Rattle.std.specs.Prelude.{cond, IsSomeAnd}
use Rattle.mt_word.specs.declared.permutation_word.TheConstants.{SLOTS}
use Rattle.mt_border.specs.declared.entry.Entry.{Entry}
use Rattle.std.specs.Option.{option_and_then}
use Rattle.mt_types.specs.declared.limits.TheConstants.{MAX_KEY_BYTES}
use Rattle.mt_types.specs.declared.numbers.NodeNo.{NodeNo}
use Rattle.mt_types.specs.declared.event.Request.{Request}
use Rattle.mt_types.specs.declared.event.Request.TheVariants.{Put as PutRequest, PutIf as PutIfRequest, Remove as RemoveRequest}
use Rattle.mt_types.specs.declared.refusal.Refusal.TheVariants.{NoMemory}
use Rattle.mt_slice.specs.Place.{AreBytes}
use Rattle.mt_border.specs.Order.{IsBorder}
use Rattle.mt_arena.specs.Node.{node_at, border_of}
use Rattle.mt_arena.specs.Arena.{ArenaView, IsArena}
use Rattle.mt_arena.specs.declared.node.Node.{Node}
use Rattle.mt_arena.specs.declared.node.Node.TheVariants.{Head, Interior, Border}
use Rattle.mt_chart.specs.Tree.{Among}
use Rattle.mt_chart.specs.Chart.{Evolves, top}
use Rattle.mt_chart.specs.Walk.{IsOn}
use Rattle.mt_tree.specs.Seen.{border_seen}
use Rattle.mt_tree.proofs.SeenLemmas.{seen-border}
use Rattle.mt_steps.specs.declared.progress.Progress.{Progress}
use Rattle.mt_steps.specs.declared.progress.Progress.TheVariants.{Moved, Waits, Committed, Answered, Refused}
use Rattle.mt_steps.specs.declared.way.Way.{Way}
use Rattle.mt_steps.specs.declared.entering.Entering.{Entering}
use Rattle.mt_steps.specs.declared.entering.Entering.TheVariants.{Locked}
use Rattle.mt_steps.specs.declared.entering.Entered.{Entered}
use Rattle.mt_steps.specs.declared.entering.Entered.TheVariants.{Enters as EntersNext, Right as EntersRight, Below as EntersBelow, Here as EntersHere}
use Rattle.mt_steps.specs.declared.entering.There.{There}
use Rattle.mt_steps.specs.Entering.{EnteredIsTrue, HasFewerLeft, entered, entering_left, wants}
use Rattle.mt_steps.specs.World.{World, IsWorld, IsTaken, IsLocked, NotAmong}
use Rattle.mt_steps.specs.Way.{prefix_of, rest_of, IsOnWay}
use Rattle.mt_steps.proofs.EnterLemmas.{entered_is, fewer_left}
use Rattle.mt_steps.proofs.LoneWay.{way_left, IsOnThere, way_moves, not_marked, starts_on}
use Rattle.mt_steps.proofs.PartLemmas.{lends_field}
use Rattle.mt_post.specs.declared.posting.Posting.{Posting}
use Rattle.mt_post.specs.declared.posting.Progressed.TheVariants.{Waits as PostAgain}
use Rattle.mt_post.specs.Posting.{PostingIsTrue, owned as posting_owned}
use Rattle.mt_post.specs.Causes.{PostWaits}
use Rattle.mt_write.specs.declared.writing.Write.{Write}
use Rattle.mt_write.specs.declared.writing.Edit.{Edit}
use Rattle.mt_write.specs.declared.writing.Edit.TheVariants.{Put as PutEdit, Remove as RemoveEdit}
use Rattle.mt_write.specs.declared.writing.Halves.{Halves}
use Rattle.mt_write.specs.declared.writing.Ending.{Ending}
use Rattle.mt_write.specs.declared.writing.Ending.TheVariants.{Stored as EndStored, Failed as EndFailed}
use Rattle.mt_write.specs.declared.writing.Stage.{Stage}
use Rattle.mt_write.specs.declared.writing.Stage.TheVariants.{Seeks, Enters, Rightward, Searched, Copies, GivesBack, Spared, HalfFilled, HalfLinked, Halved, Posts, LayerSpared, LayerFilled, LayerReady, LayerMarked, LayerLinked, Layered, Reserved, KeyWritten, Filled, Made, Taken, Stored, Hidden, Forgets, Failed}
use Rattle.mt_write.specs.Held.{edit_request, stage_held, write_held, ending_stage}
use Rattle.mt_steps.specs.declared.entering.Outline.{Outline}
use Rattle.mt_write.specs.Splitting.{CopiesOn, copied_stage}
use Rattle.mt_write.specs.Writing.{StageIsTrue, entered_stage, way_below, way_right}
use Rattle.mt_write.specs.Causes.{StageWaits, WriteWaits, IsPosting}
use Rattle.mt_write.specs.Runs.{Advances}
use Rattle.mt_write.specs.Follows.{IsMadeReady, IsReadyIn, IsReady, PostsOn, ReadsOn, StaysAt, committed_stage, StageFollows, Follows, WriteFollows}
use Rattle.mt_write.proofs.EnterSteps.{right_visits}
use Rattle.mt_write.proofs.LinkLemmas.{linked_head_is_on}
use Rattle.mt_write.proofs.LoneStands.{layer_left, times, more, above, locks_times, below_times, moves_times, ends_times, left_by_spot, same_left, still_on, more_left, head_apart, not_only, not_none, head_place}

-- ---- what is left
-- WHAT IS LEFT of a put or remove at a stage, at most, given the steps that are left of a posting
abbrev pub stage_left : (ArenaView → Posting → ℕ) → ℕ → ArenaView → Way → Stage → ℕ
stage_left posting_left most a way Seeks = times most (way_left a way.layer way.node.0)
stage_left posting_left most a way (Enters entering) = times most (way_left a way.layer way.node.0 - 1) + (most + 41 + entering_left entering)
stage_left posting_left most a way (Rightward next) = times most (way_left a way.layer next.0) + 2
stage_left posting_left most a way (Searched there) = times most (layer_left way.layer) + (most + 40)
stage_left posting_left most a way (LayerSpared layer entries) = times most (layer_left way.layer) + 7
stage_left posting_left most a way (LayerFilled layer) = times most (layer_left way.layer) + 6
stage_left posting_left most a way (LayerReady layer) = times most (layer_left way.layer) + 5
stage_left posting_left most a way (LayerMarked layer) = times most (layer_left way.layer) + 4
stage_left posting_left most a way (LayerLinked head) = times most (layer_left way.layer) + 3
stage_left posting_left most a way (Layered head) = times most (layer_left way.layer) + 2
stage_left posting_left most a way (Copies half cut place outline entries) = most + (22 + (SLOTS - (cut + length entries)))
stage_left posting_left most a way (GivesBack half) = 1
stage_left posting_left most a way (Spared half cut place right entries) = most + 21
stage_left posting_left most a way (HalfFilled half cut place) = most + 20
stage_left posting_left most a way (HalfLinked half cut place) = most + 19
stage_left posting_left most a way (Halved split place) = most + 18
stage_left posting_left most a way (Reserved new slot_key row) = most + 17
stage_left posting_left most a way (KeyWritten new row) = most + 16
stage_left posting_left most a way (Filled place stored logged split) = most + 15
stage_left posting_left most a way (Made place stored columns logged) = most + 16
stage_left posting_left most a way (Taken place stored before) = most + 16
stage_left posting_left most a way (Stored commit (Some split)) = most + 4
stage_left posting_left most a way (Stored commit None) = 1
stage_left posting_left most a way (Hidden commit) = 3
stage_left posting_left most a way (Forgets commit) = 2
stage_left posting_left most a way (Failed refusal (Some split)) = most + 4
stage_left posting_left most a way (Failed refusal None) = 2
stage_left posting_left most a way (Posts posting ending) = posting_left a posting + 3

abbrev pub write_left : (ArenaView → Posting → ℕ) → ℕ → ArenaView → Write → ℕ
write_left posting_left most a write = stage_left posting_left most a write.way write.stage

-- WHAT ELSE IS TRUE of a put or remove that runs alone, given what else is true of a posting
abbrev pub stage_stands : (ArenaView → World → Posting → Type 0) → ArenaView → World → List ℕ → Way → Stage → Type 0
stage_stands post_stands a w key way Seeks = IsOnThere w key way
stage_stands post_stands a w key way (Enters entering) = IsOnThere w key way
stage_stands post_stands a w key way (Rightward next) = IsOnThere w key (way_right way next) × (next.0 ≢ way.node.0)
stage_stands post_stands a w key way (Posts posting ending) = post_stands a w posting
stage_stands post_stands a w key way _ = Unit {0}

abbrev pub write_stands : (ArenaView → World → Posting → Type 0) → ArenaView → World → Write → Type 0
write_stands post_stands a w write = stage_stands post_stands a w write.key write.way write.stage

-- all that is taken is among these
abbrev pub OnlyOwn : ArenaView → World → List ℕ → Type 0
OnlyOwn a w owns = (number : ℕ) → IsTaken a w number → Among number owns

-- what the call didn't own and doesn't own has the spot that it had
abbrev pub KeepsSpots : World → World → List ℕ → List ℕ → Type 0
KeepsSpots w next owned owns = (number : ℕ) → NotAmong number owned → NotAmong number owns → next.chart number ≡ w.chart number

-- ---- it waits not
locked_node : (o : Option Node) → IsSomeAnd (option_and_then border_of o) (λ b. b.version.locked ≡ true) → IsLocked o
locked_node None h = absurd h
locked_node (Some (Head x)) h = absurd h
locked_node (Some (Interior x)) h = absurd h
locked_node (Some (Border x)) h = h

-- a call on its way doesn't wait, if nothing is taken
seeks_waits_not : (a : ArenaView) (now : ℕ) (w : World) (key : List ℕ) (way : Way) → IsWorld a now w → IsOnThere w key way → OnlyOwn a w []
    → StageWaits a way.node.0 Seeks Waits → ⊥
seeks_waits_not a now w key way world there only (inl marked) = not_marked a now w world way.node.0 (λ taken. not_none way.node.0 (only way.node.0 taken))
    (record { role = there.role; prefix = prefix_of key way; low = there.low; posted = there.posted; place = there.place }) marked
seeks_waits_not a now w key way world there only (inr locked) = not_none way.node.0 (only way.node.0 (inl (locked_node (node_at a.nodes way.node.0) locked)))

-- ---- each step that gets on leaves less
-- what is true of its posting after a step: when a write that was to end begins to post, and while it posts
abbrev pub PostingGoesOn : (ArenaView → World → Posting → Type 0) → (ArenaView → Posting → ℕ) → ℕ → ArenaView → ArenaView → World → Stage → Stage → Type 0
PostingGoesOn post_stands posting_left most a after w (Stored commit split) (Posts posting ending) = post_stands after w posting × (posting_left after posting ≤ most)
PostingGoesOn post_stands posting_left most a after w (Failed refusal split) (Posts posting ending) = post_stands after w posting × (posting_left after posting ≤ most)
PostingGoesOn post_stands posting_left most a after w (Posts posting ending) (Posts then other) = post_stands after w then × (posting_left after then < posting_left a posting)
PostingGoesOn post_stands posting_left most a after w _ _ = Unit {0}

-- A PUT OR REMOVE THAT RUNS ALONE in a world: all that is taken is its own
pub record IsLoneWrite (post_stands : ArenaView → World → Posting → Type 0) (C now begun : ℕ) (a : ArenaView) (w : World) (write : Write) : Type 0 where
  pub world : IsWorld a now w
  pub true : StageIsTrue C write.key write.edit write.way write.stage begun a w
  pub stands : write_stands post_stands a w write
  pub bytes : AreBytes write.key
  pub fits : length write.key ≤ MAX_KEY_BYTES
  pub only_own : (number : ℕ) → IsTaken a w number → Among number (write_held write).owns

-- and its step that gets on, to the next world
pub record IsLoneStep (post_stands : ArenaView → World → Posting → Type 0) (posting_left : ArenaView → Posting → ℕ) (most C now begun : ℕ) (a after : ArenaView) (w next : World) (write : Write) (p : Progress) (new : Write) : Type 0 where
  pub follows : WriteFollows a write p new
  pub gets_on : Advances p
  pub same_key : new.key ≡ write.key
  pub world : IsWorld after now next
  pub evolves : Evolves 0 w.chart next.chart
  pub spots : (number : ℕ) → NotAmong number (write_held write).owns → NotAmong number (write_held new).owns → next.chart number ≡ w.chart number
  pub true : StageIsTrue C new.key new.edit new.way new.stage begun after next
  pub posts : PostingGoesOn post_stands posting_left most a after next write.stage new.stage

module _ (post_stands : ArenaView → World → Posting → Type 0) (posting_left : ArenaView → Posting → ℕ) (most : ℕ) where
  -- what is true after a step, and that less is left
  abbrev Nearer : ArenaView → ArenaView → World → List ℕ → Way → Stage → Way → Stage → Type 0
  Nearer a after next key way stage goal new = stage_stands post_stands after next key goal new
      × (stage_left posting_left most after goal new < stage_left posting_left most a way stage)

  -- a step that leaves the way where it is
  stays : (a after : ArenaView) (next : World) (key : List ℕ) (way goal : Way) (stage new : Stage) → goal ≡ way
      → Nearer a after next key way stage way new → Nearer a after next key way stage goal new
  stays a after next key way goal stage new same there = subst (λ (g : Way). Nearer a after next key way stage g new) (sym same) there

  -- a step that leads to a given stage
  leads : (a after : ArenaView) (next : World) (key : List ℕ) (way goal : Way) (stage new then : Stage) → new ≡ then
      → Nearer a after next key way stage goal then → Nearer a after next key way stage goal new
  leads a after next key way goal stage new then is there = subst (λ (s : Stage). Nearer a after next key way stage goal s) (sym is) there

  stays_at : (a after : ArenaView) (next : World) (key : List ℕ) (way goal : Way) (stage new then : Stage) → StaysAt way goal new then
      → Nearer a after next key way stage way then → Nearer a after next key way stage goal new
  stays_at a after next key way goal stage new then (is, same) there =
      leads a after next key way goal stage new then is (stays a after next key way goal stage then same there)

  -- from what it has found on
  readied : (a after : ArenaView) (next : World) (key : List ℕ) (way : Way) (there : There) (new : Stage) → IsMadeReady a way new → Nearer a after next key way (Searched there) way new
  readied a after next key way there (Copies half cut place outline entries) ready = (tt, above _ _ _ (omega arith))
  readied a after next key way there (LayerSpared layer entries) ready = (tt, more _ _ _ (omega arith))
  readied a after next key way there (Reserved new slot_key row) ready = (tt, above _ _ _ (omega arith))
  readied a after next key way there (Made place stored columns logged) ready = (tt, above _ _ _ (omega arith))
  readied a after next key way there (Taken place stored before) ready = (tt, above _ _ _ (omega arith))
  readied a after next key way there (Failed refusal None) ready = (tt, above _ _ _ (omega arith))
  readied a after next key way there (Failed refusal (Some split)) ready = (tt, above _ _ _ (omega arith))
  readied a after next key way there _ ready = absurd ready

  half_readied : (a after : ArenaView) (next : World) (key : List ℕ) (way : Way) (split : Halves) (place : ℕ) (new : Stage) → IsReadyIn split new → Nearer a after next key way (Halved split place) way new
  half_readied a after next key way split place (Reserved insertion slot_key row) ready = (tt, omega arith)
  half_readied a after next key way split place (Failed refusal None) ready = (tt, omega arith)
  half_readied a after next key way split place (Failed refusal (Some halves)) ready = (tt, omega arith)
  half_readied a after next key way split place _ ready = absurd ready

  -- an entry more is copied, or the half is to be given back
  copied : (a after : ArenaView) (next : World) (key : List ℕ) (way : Way) (half : NodeNo) (cut place : ℕ) (outline : Outline) (entries : List Entry) (new : Stage) → cut + length entries < SLOTS → CopiesOn a way.node.0 half cut place outline entries new
      → Nearer a after next key way (Copies half cut place outline entries) way new
  copied a after next key way half cut place outline entries new some (inr is) = leads a after next key way way (Copies half cut place outline entries) new (GivesBack half) is (tt, omega arith)
  copied a after next key way half cut place outline entries new some (inl (copies, c, is)) =
      let count : length copies ≡ length entries + 1 = ap (λ (es : List Entry). length es) c.more ∙ length-append entries (c.entry ∷ []) in
      leads a after next key way way (Copies half cut place outline entries) new (copied_stage half cut place outline copies) is (go copies count (cut + length copies == SLOTS))
    where
      go : (copies : List Entry) → length copies ≡ length entries + 1 → (all : Bool) → Nearer a after next key way (Copies half cut place outline entries) way (cond all (Spared half cut place outline.right copies) (Copies half cut place outline copies))
      go copies count true = (tt, omega arith)
      go copies count false = (tt, omega (arith, some, count))

  -- a posting that has ended
  posted : (a after : ArenaView) (next : World) (key : List ℕ) (way : Way) (posting : Posting) (ending : Ending) → Nearer a after next key way (Posts posting ending) way (ending_stage ending None)
  posted a after next key way posting (EndStored commit) = (tt, omega arith)
  posted a after next key way posting (EndFailed refusal) = (tt, omega arith)

  -- a commit
  committed : (a after : ArenaView) (next : World) (key : List ℕ) (way : Way) (number : ℕ) (stage : Stage) → IsReady stage → Nearer a after next key way stage way (committed_stage number stage)
  committed a after next key way number (Filled place stored logged None) ready = (tt, omega arith)
  committed a after next key way number (Filled place stored logged (Some split)) ready = (tt, omega arith)
  committed a after next key way number (Made place stored columns logged) ready = (tt, omega arith)
  committed a after next key way number (Taken place stored before) ready = (tt, omega arith)
  committed a after next key way number _ ready = absurd ready

  -- the right half of a border that it has split is to be posted
  ended : (a after : ArenaView) (next : World) (key : List ℕ) (way goal : Way) (stage new : Stage) (ending : Ending) → IsPosting ending new → stage_left posting_left most a way stage ≡ most + 4
      → ((posting : Posting) (other : Ending) → new ≡ Posts posting other → post_stands after next posting × (posting_left after posting ≤ most))
      → Nearer a after next key way stage goal new
  ended a after next key way goal stage (Posts posting other) ending is left begins =
      let (stands, within) = begins posting other refl in
      (stands, omega (arith, within, left))
  ended a after next key way goal stage _ ending is left begins = absurd is

  -- at a border that it has locked
  module _ (C now begun : ℕ) (a after : ArenaView) (w next : World) (key : List ℕ) (edit new_edit : Edit) (way : Way) (world : IsWorld a now w) (then_world : IsWorld after now next)
      (evolves : Evolves 0 w.chart next.chart) (bytes : AreBytes key) (fits : length key ≤ MAX_KEY_BYTES) (entering : Entering) (truth : StageIsTrue C key edit way (Enters entering) begun a w) (there : IsOnThere w key way) where
    -- after a field
    has_read : IsBorder truth.0.b → IsArena a → (e : Entered) → EnteredIsTrue (rest_of key way) e truth.0.b → HasFewerLeft entering e → StageIsTrue C key new_edit way (entered_stage e) begun after next
        → KeepsSpots w next (way.node.0 ∷ []) (stage_held way.node.0 (entered_stage e)).owns → Nearer a after next key way (Enters entering) way (entered_stage e)
    has_read sound arena (EntersNext other) right fewer then spots =
        let (still, left) = still_on a after now w next world then_world key way there evolves then.0 in
        (still, subst (λ (n : ℕ). times most (n - 1) + (most + 41 + entering_left other) < times most (way_left a way.layer way.node.0 - 1) + (most + 41 + entering_left entering)) (sym left) (omega (arith, fewer)))
    has_read sound arena (EntersRight to) right fewer then spots =
        let (on_there, falls) = way_moves a now begun w key way (way_right way to) world bytes fits truth.1 there ((right_visits a w key way truth.0 sound arena to right).goes now w begun world truth.1) in
        let apart : to.0 ≢ way.node.0 = λ same. (let one : way_left a way.layer to.0 ≡ way_left a way.layer way.node.0 = ap (way_left a way.layer) same in omega (arith, falls, one)) in
        let (still, left) = same_left a after now w next world then_world key (way_right way to) on_there (spots to.0 (not_only to.0 way.node.0 apart) (not_only to.0 way.node.0 apart)) in
        ((still, apart), subst (λ (n : ℕ). times most n + 2 < times most (way_left a way.layer way.node.0 - 1) + (most + 41 + entering_left entering)) (sym left) (omega (arith, below_times most _ _ falls)))
    has_read sound arena (EntersBelow head) right fewer then spots = (tt, omega (arith, below_times most _ _ (more_left a now begun w key way world bytes fits truth.1 there)))
    has_read sound arena (EntersHere found) right fewer then spots = (tt, omega (arith, below_times most _ _ (more_left a now begun w key way world bytes fits truth.1 there)))

    reads_on : (new : Stage) → StageIsTrue C key new_edit way new begun after next → KeepsSpots w next (way.node.0 ∷ []) (stage_held way.node.0 new).owns → ReadsOn a key way entering new → Nearer a after next key way (Enters entering) way new
    reads_on new then spots (inl (part, lent, is)) =
        let (k, held, read) = truth in
        let rest = rest_of key way in
        let field = lends_field a way.node.0 (wants entering) part lent k.b k.named in
        let e = entered rest entering part in
        leads a after next key way way (Enters entering) new (entered_stage e) is
        (has_read field.sound lent.arena e (entered_is rest k.b field.sound k.written entering read part field.is) (fewer_left rest k.b field.sound entering read part field.is)
        (subst (λ (s : Stage). StageIsTrue C key new_edit way s begun after next) is then) (subst (λ (s : Stage). KeepsSpots w next (way.node.0 ∷ []) (stage_held way.node.0 s).owns) is spots))
    reads_on new then spots (inr is) = leads a after next key way way (Enters entering) new (Failed NoMemory None) is (tt, above _ _ _ (omega arith))

  module _ (C now begun : ℕ) (a after : ArenaView) (w next : World) (key : List ℕ) (edit new_edit : Edit) (way goal : Way) (world : IsWorld a now w) (then_world : IsWorld after now next)
      (evolves : Evolves 0 w.chart next.chart) (bytes : AreBytes key) (fits : length key ≤ MAX_KEY_BYTES) where
    -- on its way
    sought : IsOnWay begun key way w → IsOnThere w key way → (new : Stage) → StageIsTrue C key new_edit goal new begun after next → KeepsSpots w next [] (stage_held goal.node.0 new).owns
        → StageFollows a key way Seeks goal new → Nearer a after next key way Seeks goal new
    sought held there new then spots (inl (is, to)) =
        let locked : StageIsTrue C key new_edit way (Enters Locked) begun after next =
        subst (λ (g : Way). StageIsTrue C key new_edit g (Enters Locked) begun after next) to (subst (λ (s : Stage). StageIsTrue C key new_edit goal s begun after next) is then) in
        let (still, left) = still_on a after now w next world then_world key way there evolves locked.0 in
        stays_at a after next key way goal Seeks new (Enters Locked) (is, to) (
          still,
          subst (λ (n : ℕ). times most (n - 1) + (most + 41 + entering_left Locked) < times most (way_left a way.layer way.node.0)) (sym left)
              (omega (arith, locks_times most _ _ (more_left a now begun w key way world bytes fits held there))),
        )
    sought held there new then spots (inr (is, visits, no_border)) =
        let (on_there, falls) = way_moves a now begun w key way goal world bytes fits held there (visits.goes now w begun world held) in
        let free : NotAmong goal.node.0 (stage_held goal.node.0 new).owns = subst (λ (s : Stage). NotAmong goal.node.0 (stage_held goal.node.0 s).owns) (sym is) (not_none goal.node.0) in
        let (still, left) = same_left a after now w next world then_world key goal on_there (spots goal.node.0 (not_none goal.node.0) free) in
        leads a after next key way goal Seeks new Seeks is (still, subst (λ (n : ℕ). times most n < times most (way_left a way.layer way.node.0)) (sym left) (moves_times most _ _ falls))

    -- to the right, when it has unlocked its border
    went_right : (to : NodeNo) → IsOnThere w key (way_right way to) → to.0 ≢ way.node.0 → (new : Stage) → KeepsSpots w next (way.node.0 ∷ []) (stage_held goal.node.0 new).owns
        → StageFollows a key way (Rightward to) goal new → Nearer a after next key way (Rightward to) goal new
    went_right to there apart new spots (is, at) =
        let free : NotAmong to.0 (stage_held goal.node.0 new).owns = subst (λ (s : Stage). NotAmong to.0 (stage_held goal.node.0 s).owns) (sym is) (not_none to.0) in
        let (still, left) = same_left a after now w next world then_world key (way_right way to) there (spots to.0 (not_only to.0 way.node.0 apart) free) in
        leads a after next key way goal (Rightward to) new Seeks is
        (subst (λ (g : Way). Nearer a after next key way (Rightward to) g Seeks) (sym at) (still, ends_times most _ _ left))

    -- into the layer that it has linked
    went_below : (below : NodeNo) → StageIsTrue C key edit way (Layered below) begun a w → IsOn w.chart below.0 → (new : Stage)
        → KeepsSpots w next (way.node.0 ∷ []) (stage_held goal.node.0 new).owns → StageFollows a key way (Layered below) goal new → Nearer a after next key way (Layered below) goal new
    went_below below truth stands new spots (is, to) =
        let locked = truth.0 in
        let known = truth.2 in
        let prefix = prefix_of key (way_below way below) in
        let place = head_place w below.0 prefix known.standing known.place stands in
        let h = world.index.tree.heads below.0 prefix 0 stands.posted place in
        let apart = head_apart a below.0 way.node.0 h.node (border_seen locked.border.b) h.is_node (seen-border a way.node.0 locked.border.b locked.border.named) in
        let free : NotAmong below.0 (stage_held goal.node.0 new).owns = subst (λ (s : Stage). NotAmong below.0 (stage_held goal.node.0 s).owns) (sym is) (not_none below.0) in
        let same = spots below.0 (not_only below.0 way.node.0 apart) free in
        let here : IsOnThere next key (way_below way below) = record { posted = stands.posted; role = top; low = 0; place = same ∙ place } in
        leads a after next key way goal (Layered below) new Seeks is
        (subst (λ (g : Way). Nearer a after next key way (Layered below) g Seeks) (sym to) (here, ends_times most _ _ (left_by_spot after now next then_world key (way_below way below) here)))

    -- while it posts
    posts_on : (posting : Posting) (ending : Ending) (new : Stage) → PostingGoesOn post_stands posting_left most a after next (Posts posting ending) new
        → PostsOn a posting ending new → goal ≡ way → Nearer a after next key way (Posts posting ending) goal new
    posts_on posting ending (Posts then other) (still, falls) follows to = (still, omega (arith, falls))
    posts_on posting ending new goes is to = leads a after next key way goal (Posts posting ending) new (ending_stage ending None) is
        (stays a after next key way goal (Posts posting ending) (ending_stage ending None) to (posted a after next key way posting ending))

    -- if it moves
    moved : (stage new : Stage) → StageIsTrue C key edit way stage begun a w → StageIsTrue C key new_edit goal new begun after next
        → stage_stands post_stands a w key way stage → KeepsSpots w next (stage_held way.node.0 stage).owns (stage_held goal.node.0 new).owns
        → PostingGoesOn post_stands posting_left most a after next stage new → StageFollows a key way stage goal new → Nearer a after next key way stage goal new
    moved Seeks new truth then stands spots goes follows = sought truth stands new then spots follows
    moved (Enters entering) new truth then stands spots goes (reads, to) = stays a after next key way goal (Enters entering) new to
        (reads_on C now begun a after w next key edit new_edit way world then_world evolves bytes fits entering truth stands new (subst (λ (g : Way). StageIsTrue C key new_edit g new begun after next) to then)
        (subst (λ (g : Way). KeepsSpots w next (way.node.0 ∷ []) (stage_held g.node.0 new).owns) to spots) reads)
    moved (Rightward right) new truth then stands spots goes follows = went_right right stands.0 stands.1 new spots follows
    moved (Searched there) new truth then stands spots goes (ready, to) = stays a after next key way goal (Searched there) new to (readied a after next key way there new ready)
    moved (Copies half cut place outline entries) new truth then stands spots goes (copies, to) =
        let (b, at, flagged, c, spare, read, are, p) = truth in
        stays a after next key way goal (Copies half cut place outline entries) new to (copied a after next key way half cut place outline entries new are.some copies)
    moved (GivesBack half) new truth then stands spots goes follows = absurd follows
    moved (Spared half cut place right entries) new truth then stands spots goes follows = stays_at a after next key way goal (Spared half cut place right entries) new (HalfFilled half cut place) follows (tt, omega arith)
    moved (HalfFilled half cut place) new truth then stands spots goes follows = stays_at a after next key way goal (HalfFilled half cut place) new (HalfLinked half cut place) follows (tt, omega arith)
    moved (HalfLinked half cut place) new truth then stands spots goes (there, is, layer) = leads a after next key way goal (HalfLinked half cut place) new _ is (tt, omega arith)
    moved (Halved split place) new truth then stands spots goes (ready, to) = stays a after next key way goal (Halved split place) new to (half_readied a after next key way split place new ready)
    moved (LayerSpared layer entries) new truth then stands spots goes follows =
        stays_at a after next key way goal (LayerSpared layer entries) new (LayerFilled layer) follows (tt, more _ _ _ (omega arith))
    moved (LayerFilled layer) new truth then stands spots goes follows = stays_at a after next key way goal (LayerFilled layer) new (LayerReady layer) follows (tt, more _ _ _ (omega arith))
    moved (LayerReady layer) new truth then stands spots goes follows = stays_at a after next key way goal (LayerReady layer) new (LayerMarked layer) follows (tt, more _ _ _ (omega arith))
    moved (LayerMarked layer) new truth then stands spots goes follows = stays_at a after next key way goal (LayerMarked layer) new (LayerLinked layer.head) follows (tt, more _ _ _ (omega arith))
    moved (LayerLinked head) new truth then stands spots goes follows = stays_at a after next key way goal (LayerLinked head) new (Layered head) follows (tt, more _ _ _ (omega arith))
    moved (Layered below) new truth then stands spots goes follows = went_below below truth (linked_head_is_on (prefix_of key way) a now w way.node.0 below world truth.0) new spots follows
    moved (Posts posting ending) new truth then stands spots goes (follows, to) = posts_on posting ending new goes follows to
    moved (Stored commit None) new truth then stands spots goes (is, split) = absurd (split refl)
    moved (Stored commit (Some split)) new truth then stands spots goes (is, some) = ended a after next key way goal (Stored commit (Some split)) new (EndStored commit) is refl
        (λ posting other at. subst (λ (s : Stage). PostingGoesOn post_stands posting_left most a after next (Stored commit (Some split)) s) at goes)
    moved (Hidden commit) new truth then stands spots goes (inl is, to) = stays_at a after next key way goal (Hidden commit) new (Forgets commit) (is, to) (tt, omega arith)
    moved (Hidden commit) new truth then stands spots goes (inr (is, spent), to) = stays_at a after next key way goal (Hidden commit) new (Stored commit None) (is, to) (tt, omega arith)
    moved (Forgets commit) new truth then stands spots goes follows = stays_at a after next key way goal (Forgets commit) new (Stored commit None) follows (tt, omega arith)
    moved (Failed refusal None) new truth then stands spots goes (is, split) = absurd (split refl)
    moved (Failed refusal (Some split)) new truth then stands spots goes (is, some) = ended a after next key way goal (Failed refusal (Some split)) new (EndFailed refusal) is refl
        (λ posting other at. subst (λ (s : Stage). PostingGoesOn post_stands posting_left most a after next (Failed refusal (Some split)) s) at goes)
    moved (Reserved insertion slot_key row) new truth then stands spots goes follows = stays_at a after next key way goal (Reserved insertion slot_key row) new (KeyWritten insertion row) follows (tt, omega arith)
    moved (KeyWritten insertion row) new truth then stands spots goes follows = stays_at a after next key way goal (KeyWritten insertion row) new (Filled insertion.place insertion.key insertion.logged insertion.split) follows (tt, omega arith)
    moved (Filled place stored logged split) new truth then stands spots goes follows = absurd follows
    moved (Made place stored columns logged) new truth then stands spots goes follows = absurd follows
    moved (Taken place stored before) new truth then stands spots goes follows = absurd follows

    -- if it moves or commits
    got_on : (stage new : Stage) (p : Progress) → StageIsTrue C key edit way stage begun a w → StageIsTrue C key new_edit goal new begun after next
        → stage_stands post_stands a w key way stage → KeepsSpots w next (stage_held way.node.0 stage).owns (stage_held goal.node.0 new).owns
        → PostingGoesOn post_stands posting_left most a after next stage new → Advances p → Follows a key way stage p goal new → Nearer a after next key way stage goal new
    got_on stage new Moved truth then stands spots goes gets follows = moved stage new truth then stands spots goes follows
    got_on stage new (Committed number) truth then stands spots goes gets (ready, at) = stays_at a after next key way goal stage new (committed_stage number stage) at (committed a after next key way number stage ready)
    got_on stage new Waits truth then stands spots goes gets follows = absurd gets
    got_on stage new (Answered answer) truth then stands spots goes gets follows = absurd gets
    got_on stage new (Refused refusal) truth then stands spots goes gets follows = absurd gets

  -- WITH EACH STEP THAT GETS ON less is left
  pub lone_write_nearer : (C now begun : ℕ) (a after : ArenaView) (w next : World) (write new : Write) (p : Progress)
      → IsLoneWrite post_stands C now begun a w write → IsLoneStep post_stands posting_left most C now begun a after w next write p new
      → write_stands post_stands after next new × (write_left posting_left most after new < write_left posting_left most a write)
  lone_write_nearer C now begun a after w next write new p lone step =
      let (stands, falls) = got_on C now begun a after w next write.key write.edit new.edit write.way new.way lone.world step.world step.evolves lone.bytes lone.fits
      write.stage new.stage p lone.true (subst (λ (k : List ℕ). StageIsTrue C k new.edit new.way new.stage begun after next) step.same_key step.true) lone.stands step.spots step.posts step.gets_on step.follows in
      (subst (λ (k : List ℕ). stage_stands post_stands after next k new.way new.stage) (sym step.same_key) stands, falls)

-- it begins at a node that is on
pub write_begins : (post_stands : ArenaView → World → Posting → Type 0) (a : ArenaView) (now : ℕ) (w : World) (write : Write) → IsWorld a now w
    → write.way ≡ record { node = record { 0 = 0 }; layer = 0 } → write.stage ≡ Seeks → write_stands post_stands a w write
write_begins post_stands a now w write world begins seeks =
    subst (λ (s : Stage). stage_stands post_stands a w write.key write.way s) (sym seeks)
    (subst (λ (way : Way). IsOnThere w write.key way) (sym begins) (starts_on a now w write.key world))

-- IT WAITS NOWHERE, if its posting doesn't
pub lone_write_waits_not : (post_stands : ArenaView → World → Posting → Type 0)
    (posting_waits_not : (a : ArenaView) (now begun : ℕ) (w : World) (posting : Posting) → IsWorld a now w → begun ≤ now → PostingIsTrue begun posting a w → post_stands a w posting
    → OnlyOwn a w (posting_owned posting) → PostWaits a posting PostAgain → ⊥)
    (C now begun : ℕ) (a : ArenaView) (w : World) (write : Write) → begun ≤ now → IsLoneWrite post_stands C now begun a w write → WriteWaits a write Waits → ⊥
lone_write_waits_not post_stands posting_waits_not C now begun a w write before lone waits = go write.stage lone.true lone.stands lone.only_own waits
  where
    go : (stage : Stage) → StageIsTrue C write.key write.edit write.way stage begun a w → stage_stands post_stands a w write.key write.way stage
        → OnlyOwn a w (stage_held write.way.node.0 stage).owns → StageWaits a write.way.node.0 stage Waits → ⊥
    go Seeks truth stands only waits = seeks_waits_not a now w write.key write.way lone.world stands only waits
    go (Posts posting ending) truth stands only waits = posting_waits_not a now begun w posting lone.world before truth.0 stands only waits
    go _ truth stands only waits = absurd waits

-- ---- from step to step, by the law
abbrev key_asked : Request → List ℕ
key_asked (PutRequest key sets) = key
key_asked (PutIfRequest key sets version) = key
key_asked (RemoveRequest key) = key
key_asked _ = []

has_key : (key : List ℕ) (edit : Edit) → key_asked (edit_request key edit) ≡ key
has_key key (PutEdit sets None) = refl
has_key key (PutEdit sets (Some version)) = refl
has_key key RemoveEdit = refl

pub request_key : (one other : List ℕ) (edit then : Edit) → edit_request one edit ≡ edit_request other then → one ≡ other
request_key one other edit then e = sym (has_key one edit) ∙ ap key_asked e ∙ has_key other then
