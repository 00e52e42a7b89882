-- What a step does, whole, of a write that is at a stage: for each stage.
use Rattle.std.proofs.Common.{ℕ, zero, suc, ◌≡◌, ◌≢◌, ◌≤◌, ◌<◌, ◌+◌, ◌⊎◌, inl, inr, List, [], ◌∷◌, length, slice_get, arith, Option, Some, None, IsSome, true, false, refl, sym, subst, ◌∙◌}
use Rattle.std.specs.Prelude.{IsSomeAnd}
use Rattle.mt_types.specs.declared.numbers.NodeNo.{NodeNo}
use Rattle.mt_types.specs.declared.row.Row.{Row}
use Rattle.mt_types.specs.declared.refusal.Refusal.{Refusal}
use Rattle.mt_types.specs.declared.event.Answer.TheVariants.{Absent as AbsentAnswer}
use Rattle.mt_commit.specs.Log.{LogView, newest, with_delta}
use Rattle.mt_border.specs.Cut.{IsBestCut, slices}
use Rattle.mt_border.specs.Border.{BorderView, row_at, with_hidden, with_unlocked, with_shown, with_value}
use Rattle.mt_border.specs.Entry.{entry_row}
use Rattle.mt_border.specs.declared.entry.Entry.{Entry}
use Rattle.mt_border.specs.declared.entry.RightLink.{RightLink}
use Rattle.mt_border.specs.declared.found.Found.TheVariants.{Row as RowFound}
use Rattle.mt_arena.specs.Node.{head_at, border_at}
use Rattle.mt_arena.specs.declared.node.Node.{Node}
use Rattle.mt_arena.proofs.NodeLemmas.{node-from_border}
use Rattle.mt_arena.specs.Arena.{ArenaView, with_border_changed}
use Rattle.mt_tree.specs.Spares.{MayFill}
use Rattle.mt_tree.specs.Keeping.{KeepsTree}
use Rattle.mt_tree.specs.Descent.{found_for, row_found, is_marked}
use Rattle.mt_slice.specs.Place.{AreBytes}
use Rattle.mt_border.specs.Order.{IsBorder}
use Rattle.std.specs.Option.{IfSome, option_or}
use Rattle.mt_tree.specs.BorderSteps.{MayForget, AwaitsSome, AwaitsSomeCut, AwaitsSomeMark, MayMarkUnstable, MayWriteKey, HasLayerFor, HasRowAt, HidesRowAt, IsUpperHalf, MayShowAt, SetsRowAt, ShowsNext}
use Rattle.mt_tree.proofs.RowLemmas.{stands_at}
use Rattle.mt_steps.specs.declared.entering.There.{There}
use Rattle.mt_steps.specs.declared.way.Way.{Way}
use Rattle.mt_steps.specs.declared.way.Went.{Went}
use Rattle.mt_steps.specs.declared.way.Went.TheVariants.{Again, To, Here}
use Rattle.mt_steps.specs.declared.progress.Progress.{Progress}
use Rattle.mt_steps.specs.declared.progress.Progress.TheVariants.{Moved, Waits, Committed, Answered}
use Rattle.mt_steps.specs.Causes.{IsMarkedAt, IsLockedAlready}
use Rattle.mt_steps.specs.Way.{start, rest_of, prefix_of, MayGo, Visits}
use Rattle.mt_steps.specs.Step.{MayStep, StepLaw}
use Rattle.mt_steps.proofs.FoundLemmas.{some_and, some_at}
use Rattle.mt_steps.proofs.GetLemmas.{may_go}
use Rattle.mt_post.specs.declared.posting.Posting.{Posting}
use Rattle.mt_post.specs.Posting.{MayPost}
use Rattle.mt_write.specs.declared.writing.Write.{Write}
use Rattle.mt_write.specs.declared.writing.Edit.{Edit}
use Rattle.mt_write.specs.declared.writing.Edit.TheVariants.{Put as PutEdit, Remove as RemoveEdit}
use Rattle.mt_write.specs.declared.writing.Halves.{Halves}
use Rattle.mt_write.specs.declared.writing.Layer.{Layer}
use Rattle.mt_write.specs.declared.writing.Ending.{Ending}
use Rattle.mt_write.specs.declared.writing.Stage.{Stage}
use Rattle.mt_write.specs.declared.writing.Stage.TheVariants.{Seeks, Searched, Copies, Spared, HalfFilled, HalfLinked, Posts, LayerSpared, LayerFilled, LayerReady, LayerMarked, LayerLinked, Layered, Reserved, KeyWritten, Filled, Made, Taken, Stored, Hidden, Forgets, Failed}
use Rattle.mt_write.specs.Held.{edit_request, write_held, stage_held, ending_stage}
use Rattle.mt_write.specs.Writing.{StageIsTrue, WriteIsTrue, MayStage}
use Rattle.mt_write.specs.Ready.{Prepares, PreparesRemove, put_delta, remove_delta}
use Rattle.mt_write.specs.Causes.{StageWaits, StageFails, FailsBy, RemoveFailsBy, edit_fault, version_fault, put_fault, remove_fault}
use Rattle.mt_write.specs.Follows.{WriteStep, TreeStep, MayBeAt, FindsNone, Follows, HeadGoes, PostsGo, DropsRow, IsMadeReady}
use Rattle.mt_write.proofs.WriteLemmas.{seek_waits, may_at}
use Rattle.mt_write.proofs.ReadyLemmas.{readies}
use Rattle.mt_write.proofs.ForgetLemmas.{may_forget}
use Rattle.mt_write.proofs.CommitLemmas.{differs, takes, lacks, shows, writes, hides}
use Rattle.mt_write.proofs.HalfLemmas.{spared_fill, filled_link, linked_cut}
use Rattle.mt_border.specs.Entry.{key_of_rest}
use Rattle.mt_border.specs.declared.unwritten.SlotKey.{SlotKey}
use Rattle.mt_steps.specs.World.{World, IsLockedBorder}
use Rattle.mt_write.specs.declared.writing.Insertion.{Insertion}
use Rattle.mt_write.proofs.NewLayerLemmas.{spared_root, filled_head, ready_mark, ready_link, linked_mark}
use Rattle.mt_write.proofs.PostLemmas.{headed, headed_end, restarts, moves_on, halves_locked}

-- ---- at the stage of a write, what was proved of a stage that was taken out of it
pub at_step : (C : ℕ) (a after : ArenaView) (log left : LogView) (write : Write) (idle stage : Stage) (p : Progress) (then : Write) → write.stage ≡ stage → WriteStep C a after log left (record write { stage = idle }) stage p then → WriteStep C a after log left write write.stage p then
at_step C a after log left write idle stage p then is s = subst (λ (t : Stage). WriteStep C a after log left write t p then) (sym is)
    (record { request = s.request; law = s.law; waits = s.waits; fails = s.fails; follows = s.follows; head = s.head; posts = s.posts; drops = s.drops })

pub may_be : (C : ℕ) (a : ArenaView) (log : LogView) (write : Write) (idle stage : Stage) → write.stage ≡ stage → MayStep a log (write_held write) (WriteIsTrue C write) → MayStage C a log (record write { stage = idle }) stage
may_be C a log write idle stage is may = may_at C a log write.key write.edit write.way write.head stage write.stage is may

-- ---- once it has turned to the next stage
pub turned : (C : ℕ) (a after : ArenaView) (log left : LogView) (write : Write) (stage : Stage) (p : Progress) (next then : Write) → then ≡ next → WriteStep C a after log left write stage p next → WriteStep C a after log left write stage p then
turned C a after log left write stage p next then is s = subst (λ (w : Write). WriteStep C a after log left write stage p w) (sym is) s

pub turned_tree : (a after : ArenaView) (write : Write) (stage : Stage) (p : Progress) (next then : Write) → then ≡ next → TreeStep a after write stage p next → TreeStep a after write stage p then
turned_tree a after write stage p next then is s = subst (λ (w : Write). TreeStep a after write stage p w) (sym is) s

-- ---- the kinds of steps
module _ (C : ℕ) (a after : ArenaView) (log left : LogView) (write : Write) (stage : Stage) (p : Progress) where
  -- a step that leads to a stage, in the layer of its head
  pub leads : (new : Stage) (way : Way) → prefix_of write.key write.way ≡ prefix_of write.key way
      → StepLaw C a after log left (edit_request write.key write.edit) (stage_held write.way.node.0 stage) p (stage_held way.node.0 new) (λ begun moves past x w. StageIsTrue C write.key write.edit write.way stage begun x w) (λ begun moves past x w. StageIsTrue C write.key write.edit way new begun x w)
      → StageWaits a write.way.node.0 stage p → StageFails a log write.key write.edit write.way stage p new → Follows a write.key write.way stage p way new → HeadGoes write.head write.way stage p way write.head → PostsGo a after write.head stage p new → DropsRow a after write.way.node.0 stage
      → WriteStep C a after log left write stage p (record write { way = way; stage = new })
  leads new way same law waits fails follows head posts drops = record {
    request = refl;
    law = headed C a after log left (edit_request write.key write.edit) write.key write.edit write.way way write.head stage new (stage_held write.way.node.0 stage) (stage_held way.node.0 new) p same law;
    waits = waits;
    fails = fails;
    follows = follows;
    head = head;
    posts = posts;
    drops = drops;
  }

  -- a step with which it ends, and leaves its record as it is
  pub closes : StepLaw C a after log left (edit_request write.key write.edit) (stage_held write.way.node.0 stage) p (write_held write) (λ begun moves past x w. StageIsTrue C write.key write.edit write.way stage begun x w) (WriteIsTrue C write)
      → StageWaits a write.way.node.0 stage p → StageFails a log write.key write.edit write.way stage p write.stage → Follows a write.key write.way stage p write.way write.stage → HeadGoes write.head write.way stage p write.way write.head → PostsGo a after write.head stage p write.stage → DropsRow a after write.way.node.0 stage
      → WriteStep C a after log left write stage p write
  closes law waits fails follows head posts drops = record {
    request = refl;
    law = headed_end C a after log left (edit_request write.key write.edit) write.key write.edit write.way write.head stage (stage_held write.way.node.0 stage) (write_held write) p (WriteIsTrue C write) law;
    waits = waits;
    fails = fails;
    follows = follows;
    head = head;
    posts = posts;
    drops = drops;
  }

-- ---- what the calls of a stage ask for
-- a row that is found at a place is there
pub row_there : (live : List Entry) (place : ℕ) (entry : Entry) → slice_get live place ≡ Some entry → IsSome (entry_row entry) → (place < length live) × IsSome (row_at place live)
row_there [] place entry e has = absurd (let clash : ◌≡◌ {A = Option Entry} None (Some entry) = e in cc)
row_there (one ∷ live) zero entry e has =
    let same : ◌≡◌ {A = Option Entry} (Some one) (Some entry) = e in
    (omega arith, subst (λ (x : Entry). IsSome (entry_row x)) (let turned : entry ≡ one = cc in turned) has)
row_there (one ∷ live) (suc place) entry e has = let (less, row) = row_there live place entry e has in (omega (arith, less), row)

module _ (a : ArenaView) (write : Write) where
  pub may_fill_half : (half : NodeNo) (cut place : ℕ) (right : Option RightLink) (entries : List Entry) → MayBeAt a write (Spared half cut place right entries) → IsSomeAnd (border_at a.nodes half.0) (λ spare. MayFill spare entries right)
  may_fill_half half cut place right entries (C, log, may) = spared_fill C may.begun a may.w write.key write.edit write.way half cut place right entries may.true.0

  pub may_link_half : (half : NodeNo) (cut place : ℕ) → MayBeAt a write (HalfFilled half cut place) → IsSomeAnd (border_at a.nodes write.way.node.0) (λ b. IsSomeAnd (border_at a.nodes half.0) (λ upper. IsUpperHalf b upper cut))
  may_link_half half cut place (C, log, may) = filled_link C may.begun a may.w write.key write.edit write.way half cut place may.true.0

  pub may_cut : (half : NodeNo) (cut place : ℕ) → MayBeAt a write (HalfLinked half cut place) → IsSomeAnd (border_at a.nodes write.way.node.0) AwaitsSomeCut × IsSome (border_at a.nodes half.0)
  may_cut half cut place (C, log, may) = linked_cut C may.begun a may.w write.key write.edit write.way half cut place may.true.0

  pub may_fill_root : (layer : Layer) (entries : List Entry) → MayBeAt a write (LayerSpared layer entries) → IsSomeAnd (border_at a.nodes layer.root.0) (λ b. MayFill b entries None)
  may_fill_root layer entries (C, log, may) = spared_root C may.begun a may.w write.key write.edit write.way layer entries may.true.0

  pub head_locked : (layer : Layer) → MayBeAt a write (LayerFilled layer) → IsSomeAnd (head_at a.nodes layer.head.0) (λ head. head.version.locked ≡ true)
  head_locked layer (C, log, may) = filled_head C may.begun a may.w write.key write.edit write.way layer may.true.0

  pub may_mark_unstable : (layer : Layer) → MayBeAt a write (LayerReady layer) → IsSomeAnd (border_at a.nodes write.way.node.0) (λ b. MayMarkUnstable b layer.place)
  may_mark_unstable layer (C, log, may) = ready_mark C may.begun a may.w write.key write.edit write.way layer may.true.0

  pub may_mark_layer : (head : NodeNo) → MayBeAt a write (LayerLinked head) → IsSomeAnd (border_at a.nodes write.way.node.0) AwaitsSomeMark
  may_mark_layer head (C, log, may) = linked_mark C may.begun a may.w write.key write.edit write.way head may.true.0

  pub may_link_layer : (layer : Layer) → MayBeAt a write (LayerMarked layer) → IsSomeAnd (border_at a.nodes write.way.node.0) (λ b. HasLayerFor a.nodes b layer.place layer.head.0)
  may_link_layer layer (C, log, may) = ready_link C may.begun a may.w write.key write.edit write.way layer may.true.0

  -- the border that it has locked
  pub border_owned : (head : NodeNo) → MayBeAt a write (Layered head) → (w : World) × IsLockedBorder a w write.way.node.0
  border_owned head (C, log, may) = (may.w, may.true.0.0.border)

  pub left_owned : (split : Halves) (ending : Ending) → MayBeAt a write (ending_stage ending (Some split)) → (w : World) × IsLockedBorder a w split.left.0
  left_owned split ending (C, log, may) = (may.w, (halves_locked C may.begun a may.w write.key write.edit write.way split ending may.true.0).0)

  -- what its first unused slot asks for
  pub may_write_key : (new : Insertion) (slot_key : SlotKey) (row : Row) → MayBeAt a write (Reserved new slot_key row) → IsSomeAnd (border_at a.nodes write.way.node.0) (λ b. MayWriteKey b slot_key)
  may_write_key new slot_key row (C, log, may) =
      let (b, at, p, f, k, has) = may.true.0 in
      subst (λ (o : Option BorderView). IsSomeAnd o (λ x. MayWriteKey x slot_key)) (sym at.named) (record { room = k.room; locked = at.locked; written = at.written; marked = k.marked; whole = k.whole })

  pub may_write_value : (new : Insertion) (row : Row) → MayBeAt a write (KeyWritten new row) → IsSomeAnd (border_at a.nodes write.way.node.0) AwaitsSome
  may_write_value new row (C, log, may) =
      let (b, at, p, f, k, has) = may.true.0 in
      subst (λ (o : Option BorderView). IsSomeAnd o AwaitsSome) (sym at.named) (key_of_rest (rest_of write.key write.way), k)

  pub may_drop_row : (commit : ℕ) → MayBeAt a write (Forgets commit) → IsSomeAnd (border_at a.nodes write.way.node.0) MayForget
  may_drop_row commit (C, log, may) = may_forget a may.w write.way.node.0 may.true.0

  pub may_post : (posting : Posting) (ending : Ending) → MayBeAt a write (Posts posting ending) → MayPost a posting
  may_post posting ending (C, log, may) = record { now = may.now; begun = may.begun; w = may.w; world = may.world; true = may.true.0.0 }

  pub may_show : (log : LogView) (place : ℕ) (stored : List ℕ) (logged : List (List ℕ)) (split : Option Halves) → (C : ℕ) × MayStage C a log write (Filled place stored logged split)
      → IsSomeAnd (border_at a.nodes write.way.node.0) (λ b. (version : ℕ) → MayShowAt b place version)
  may_show log place stored logged split (C, may) = let (b, at, p, f, has) = may.true.0 in subst (λ (o : Option BorderView). IsSomeAnd o (λ x. (version : ℕ) → MayShowAt x place version)) (sym at.named) f.shows

  pub may_write : (log : LogView) (place : ℕ) (stored : List ℕ) (columns logged : List (List ℕ)) → (C : ℕ) × MayStage C a log write (Made place stored columns logged) → IsSomeAnd (border_at a.nodes write.way.node.0) (λ b. HasRowAt b place)
  may_write log place stored columns logged (C, may) =
      let (b, at, p, f) = may.true.0 in
      let e = stands_at b f.sound (rest_of write.key write.way) (RowFound place) f.there in
      let (less, row) = row_there b.live place e.entry e.stands e.row in
      subst (λ (o : Option BorderView). IsSomeAnd o (λ x. HasRowAt x place)) (sym at.named) (record { within = less; row = row })

  pub may_hide : (log : LogView) (place : ℕ) (stored : List ℕ) (before : Row) → (C : ℕ) × MayStage C a log write (Taken place stored before) → IsSomeAnd (border_at a.nodes write.way.node.0) (λ b. HasRowAt b place)
  may_hide log place stored before (C, may) =
      let (b, at, f) = may.true.0 in
      let e = stands_at b f.sound (rest_of write.key write.way) (RowFound place) f.there in
      let (less, row) = row_there b.live place e.entry e.stands e.row in
      subst (λ (o : Option BorderView). IsSomeAnd o (λ x. HasRowAt x place)) (sym at.named) (record { within = less; row = row })

  -- the same stage, if the halves are known
  pub with_halves : (stage : Option Halves → Stage) (split : Option Halves) (halves : Halves) → split ≡ Some halves → MayBeAt a write (stage split) → MayBeAt a write (stage (Some halves))
  with_halves stage split halves is may = subst (λ (s : Option Halves). MayBeAt a write (stage s)) is may

-- ---- on its way
pub may_seek : (a : ArenaView) (write : Write) → MayBeAt a write Seeks → MayGo a write.key write.way
may_seek a write (C, log, may) = may_go a write.key write.way may.now may.begun may.w may.world may.true.0

module _ (a : ArenaView) (write : Write) (went : Went) (visits : Visits a write.key write.way went) (idle : write.stage ≡ Seeks) where
  pub seeks_again : IsMarkedAt a write.way.node.0 → TreeStep a a write Seeks Waits (record write { way = start; head = record { 0 = 0 } })
  seeks_again marked = λ C log. subst (λ (s : Stage). WriteStep C a a log log write Seeks Waits (record { key = write.key; edit = write.edit; way = start; head = record { 0 = 0 }; stage = s })) (sym idle) (record {
    request = refl;
    law = restarts C a write.key write.edit write.way write.head log;
    waits = inl marked;
    fails = (tt, tt);
    follows = (refl, inl (marked, refl));
    head = tt;
    posts = tt;
    drops = tt;
  })

  pub seeks_on : (next : Way) (head : NodeNo) → went ≡ To next → border_at a.nodes write.way.node.0 ≡ None → ((next.layer ≡ write.way.layer) × (head ≡ write.head)) ⊎ ((next.layer ≢ write.way.layer) × (head ≡ next.node)) → TreeStep a a write Seeks Moved (record write { way = next; head = head })
  seeks_on next head is no_border either = λ C log. subst (λ (s : Stage). WriteStep C a a log log write Seeks Moved (record { key = write.key; edit = write.edit; way = next; head = head; stage = s })) (sym idle) (record {
    request = refl;
    law = moves_on C a write.key write.edit write.way write.head log went visits next head is either;
    waits = tt;
    fails = (tt, tt);
    follows = inr (refl, subst (λ (w : Went). Visits a write.key write.way w) is visits, no_border);
    head = either;
    posts = tt;
    drops = tt;
  })

  pub seeks_still : (b : BorderView) → border_at a.nodes write.way.node.0 ≡ Some b → b.version.deleted ≡ false → b.version.locked ≡ true → TreeStep a a write Seeks Waits write
  seeks_still b named alive is = λ C log.
      let unmarked : IsMarkedAt a write.way.node.0 → ⊥ = λ marked.
      let deleted : b.version.deleted ≡ true = subst (λ (n : Option Node). IsSomeAnd n (λ x. is_marked x ≡ true)) (node-from_border a.nodes write.way.node.0 b named) marked in
      let clash : true ≡ false = sym deleted ∙ alive in
      absurd (cc) in
      let locked : IsLockedAlready a write.way.node.0 = subst (λ (o : Option BorderView). IsSomeAnd o (λ b. b.version.locked ≡ true)) (sym named) is in
      subst (λ (s : Stage). WriteStep C a a log log write Seeks Waits (record { key = write.key; edit = write.edit; way = write.way; head = write.head; stage = s })) (sym idle)
      (leads C a a log log write Seeks Waits Seeks write.way refl (seek_waits C a write.key write.edit write.way log) (inr locked) (tt, tt) (refl, inr (unmarked, locked, refl)) tt tt tt)

-- what a visit leads to that doesn't end at its border
pub seeks_led : (a : ArenaView) (write : Write) (went : Went) (p : Progress) (then : Write) → Visits a write.key write.way went → write.stage ≡ Seeks → went ≢ Here → (went ≢ Again → border_at a.nodes write.way.node.0 ≡ None) → (went ≡ Again → IsMarkedAt a write.way.node.0)
    → (went ≡ Again → (p ≡ Waits) × (then ≡ record write { way = start; head = start.node }))
    → ((next : Way) → went ≡ To next → (p ≡ Moved) × (then ≡ record write { way = next; head = then.head }) × (((next.layer ≡ write.way.layer) × (then.head ≡ write.head)) ⊎ ((next.layer ≢ write.way.layer) × (then.head ≡ next.node))))
    → TreeStep a a write Seeks p then
seeks_led a write Again p then visits idle on no_border marked again to =
    let (waits, is) = again refl in
    subst (λ (q : Progress). TreeStep a a write Seeks q then) (sym waits)
    (turned_tree a a write Seeks Waits (record write { way = start; head = start.node }) then is (seeks_again a write Again visits idle (marked refl)))
seeks_led a write (To next) p then visits idle on no_border marked again to =
    let (moved, is, either) = to next refl in
    subst (λ (q : Progress). TreeStep a a write Seeks q then) (sym moved)
    (turned_tree a a write Seeks Moved (record write { way = next; head = then.head }) then is (seeks_on a write (To next) visits idle next then.head refl (no_border (λ e. cc)) either))
seeks_led a write Here p then visits idle on no_border marked again to = absurd (on refl)

-- ---- at its border
-- what a put makes ready, which has split no border
put_ready : (C : ℕ) (a after : ArenaView) (log left : LogView) (key : List ℕ) (sets : List (ℕ × List ℕ)) (way : Way) (stage : Stage) → Prepares C key sets way a log None stage after left → IsMadeReady a way stage
put_ready C a after log left key sets way (Copies half cut place outline entries) f =
    subst (λ (o : Option BorderView). IsSomeAnd o (λ b. IsBestCut (slices b.live) cut)) (sym f.1.named) f.1.cut_at.best
put_ready C a after log left key sets way (LayerSpared layer entries) f = tt
put_ready C a after log left key sets way (Reserved new slot_key row) f = f.0
put_ready C a after log left key sets way (Made place stored columns logged) f = tt
put_ready C a after log left key sets way (Failed refusal split) f = f.0
put_ready C a after log left key sets way _ f = absurd f

-- what a remove makes ready
remove_ready : (a : ArenaView) (log left : LogView) (key : List ℕ) (way : Way) (stage : Stage) → PreparesRemove key way a log (Some stage) left → IsMadeReady a way stage
remove_ready a log left key way (Taken place stored before) f = tt
remove_ready a log left key way (Failed refusal split) f = f.0
remove_ready a log left key way _ f = absurd f

module _ (C : ℕ) (a after : ArenaView) (log left : LogView) (write : Write) where
  -- what is found at its border for its key
  abbrev fault_at : Edit → BorderView → Option Refusal
  fault_at edit b = edit_fault a log edit b (found_for (rest_of write.key write.way) b.live)

  -- what the border tells of the version that is asked for
  abbrev pub Faults : Option ℕ → Option Refusal → Type 0
  Faults only fault = IsSomeAnd (border_at a.nodes write.way.node.0) (λ b. IsBorder b × (fault ≡ version_fault only (row_found b.live (found_for (rest_of write.key write.way) b.live))))

  faults_at : (sets : List (ℕ × List ℕ)) (only : Option ℕ) (fault : Option Refusal) (stage : Stage) → Faults only fault → IsSomeAnd (border_at a.nodes write.way.node.0) (λ b. FailsBy (option_or fault (put_fault a log b (found_for (rest_of write.key write.way) b.live))) None stage)
      → write.edit ≡ PutEdit sets only → IsSomeAnd (border_at a.nodes write.way.node.0) (λ b. FailsBy (fault_at write.edit b) None stage)
  faults_at sets only fault stage here fails is =
      let (b, named, f) = some_and _ (border_at a.nodes write.way.node.0) fails in
      let told = some_at _ (border_at a.nodes write.way.node.0) b here named in
      subst (λ (e : Edit). IsSomeAnd (border_at a.nodes write.way.node.0) (λ b. FailsBy (fault_at e b) None stage)) (sym is)
      (subst (λ (o : Option BorderView). IsSomeAnd o (λ b. FailsBy (fault_at (PutEdit sets only) b) None stage)) (sym named)
      (subst (λ (r : Option Refusal). FailsBy (option_or r (put_fault a log b (found_for (rest_of write.key write.way) b.live))) None stage) told.1 f))

  pub readies_put : (there : There) (sets : List (ℕ × List ℕ)) (only : Option ℕ) (stage : Stage) → write.edit ≡ PutEdit sets only → Faults only None → Prepares C write.key sets write.way a log None stage after left
      → IsSomeAnd (border_at a.nodes write.way.node.0) (λ b. FailsBy (put_fault a log b (found_for (rest_of write.key write.way) b.live)) None stage) → WriteStep C a after log left write (Searched there) Moved (record write { stage = stage })
  readies_put there sets only stage is agrees ready fault =
      leads C a after log left write (Searched there) Moved stage write.way refl
      (readies C a log write.key sets only write.way there stage write.edit after left is (λ b named. sym (some_at _ (border_at a.nodes write.way.node.0) b agrees named).1) ready) tt
      (tt, faults_at sets only None stage agrees fault is)
      (put_ready C a after log left write.key sets write.way stage ready, refl) refl tt tt

  pub shows_row : (place : ℕ) (stored : List ℕ) (logged : List (List ℕ)) (split : Option Halves) (number : ℕ) → number ≡ newest log + 1 → after ≡ with_border_changed a write.way.node.0 (λ b. with_shown b place (newest log + 1)) → ShowsNext a after write.way.node.0 (newest log + 1)
      → left ≡ with_delta log (put_delta (newest log + 1) stored None logged) → 1 ≤ log.reserved → WriteStep C a after log left write (Filled place stored logged split) (Committed number) (record write { stage = Stored number split })
  shows_row place stored logged split number next shown keeps appended room =
      leads C a after log left write (Filled place stored logged split) (Committed number) (Stored number split) write.way refl
      (shows C a log write.key write.edit write.way split place stored logged number after left next shown keeps appended room) tt (tt, tt) (tt, (refl, refl)) refl tt tt

  pub writes_row : (place : ℕ) (stored : List ℕ) (columns logged : List (List ℕ)) (number : ℕ) → number ≡ newest log + 1 → after ≡ with_border_changed a write.way.node.0 (λ b. with_value b place (record { version = newest log + 1; columns = columns }))
      → SetsRowAt a after write.way.node.0 place (record { version = newest log + 1; columns = columns }) → IsSomeAnd (border_at a.nodes write.way.node.0) (λ b. left ≡ with_delta log (put_delta (newest log + 1) stored (row_at place b.live) logged)) → 1 ≤ log.reserved
      → WriteStep C a after log left write (Made place stored columns logged) (Committed number) (record write { stage = Stored number None })
  writes_row place stored columns logged number next written sets appended room =
      leads C a after log left write (Made place stored columns logged) (Committed number) (Stored number None) write.way refl
      (writes C a log write.key write.edit write.way place stored columns logged number after left next written sets appended room) tt (tt, tt) (tt, (refl, refl)) refl tt tt

  pub hides_row : (place : ℕ) (stored : List ℕ) (before : Row) (number : ℕ) → number ≡ newest log + 1 → after ≡ with_border_changed a write.way.node.0 (λ b. with_hidden b place) → HidesRowAt a after write.way.node.0 place → left ≡ with_delta log (remove_delta (newest log + 1) stored before) → 1 ≤ log.reserved
      → WriteStep C a after log left write (Taken place stored before) (Committed number) (record write { stage = Hidden number })
  hides_row place stored before number next hidden keeps appended room =
      leads C a after log left write (Taken place stored before) (Committed number) (Hidden number) write.way refl
      (hides C a log write.key write.edit write.way place stored before number after left next hidden keeps appended room) tt (tt, tt) (tt, (refl, refl)) refl tt tt

-- ---- a commit of what is ready, at a stage that is known to be so
module _ (C : ℕ) (a after : ArenaView) (log left : LogView) (write : Write) (stage : Stage) where
  at_stage : (at : Stage) → stage ≡ at → ((D : ℕ) × MayStage D a log write stage) → (D : ℕ) × MayStage D a log write at
  at_stage at is (D, may) = (D, subst (λ (st : Stage). MayStage D a log write st) is may)

  pub commits_written : (place : ℕ) (stored : List ℕ) (columns logged : List (List ℕ)) (number : ℕ) → stage ≡ Made place stored columns logged → number ≡ newest log + 1 → after ≡ with_border_changed a write.way.node.0 (λ b. with_value b place (record { version = newest log + 1; columns = columns }))
      → SetsRowAt a after write.way.node.0 place (record { version = newest log + 1; columns = columns }) → IsSomeAnd (border_at a.nodes write.way.node.0) (λ b. left ≡ with_delta log (put_delta (newest log + 1) stored (row_at place b.live) logged)) → ((D : ℕ) × MayStage D a log write stage)
      → WriteStep C a after log left write stage (Committed number) (record write { stage = Stored number None })
  commits_written place stored columns logged number is next written sets appended may = subst (λ (st : Stage). WriteStep C a after log left write st (Committed number) (record write { stage = Stored number None })) (sym is)
      (writes_row C a after log left write place stored columns logged number next written sets appended (at_stage (Made place stored columns logged) is may).1.room)

  pub commits_hidden : (place : ℕ) (stored : List ℕ) (before : Row) (number : ℕ) → stage ≡ Taken place stored before → number ≡ newest log + 1 → after ≡ with_border_changed a write.way.node.0 (λ b. with_hidden b place) → HidesRowAt a after write.way.node.0 place → left ≡ with_delta log (remove_delta (newest log + 1) stored before)
      → ((D : ℕ) × MayStage D a log write stage) → WriteStep C a after log left write stage (Committed number) (record write { stage = Hidden number })
  commits_hidden place stored before number is next hidden keeps appended may = subst (λ (st : Stage). WriteStep C a after log left write st (Committed number) (record write { stage = Hidden number })) (sym is)
      (hides_row C a after log left write place stored before number next hidden keeps appended (at_stage (Taken place stored before) is may).1.room)

module _ (C : ℕ) (a : ArenaView) (log left : LogView) (write : Write) (there : There) (is : write.edit ≡ RemoveEdit) (made : Option Stage) (ready : PreparesRemove write.key write.way a log made left)
    (fault : IsSomeAnd (border_at a.nodes write.way.node.0) (λ b. RemoveFailsBy (remove_fault log (found_for (rest_of write.key write.way) b.live)) made)) where
  pub readies_remove : (stage : Stage) → made ≡ Some stage → WriteStep C a a log left write (Searched there) Moved (record write { stage = stage })
  readies_remove stage made_is =
      let prepared = subst (λ (s : Option Stage). PreparesRemove write.key write.way a log s left) made_is ready in
      leads C a a log left write (Searched there) Moved stage write.way refl (takes C a log write.key write.edit write.way there stage left is prepared) tt (
        tt,
        subst (λ (e : Edit). IsSomeAnd (border_at a.nodes write.way.node.0) (λ b. FailsBy (edit_fault a log e b (found_for (rest_of write.key write.way) b.live)) None stage)) (sym is)
            (subst (λ (s : Option Stage). IsSomeAnd (border_at a.nodes write.way.node.0) (λ b. RemoveFailsBy (remove_fault log (found_for (rest_of write.key write.way) b.live)) s)) made_is fault),
      )
      (remove_ready a log left write.key write.way stage prepared, refl) refl tt tt

  pub finds_none : (after : ArenaView) → made ≡ None → after ≡ with_border_changed a write.way.node.0 with_unlocked → KeepsTree a after → WriteStep C a after log left write (Searched there) (Answered AbsentAnswer) write
  finds_none after none value keeps =
      let (lacking, same) = subst (λ (s : Option Stage). PreparesRemove write.key write.way a log s left) none ready in
      closes C a after log left write (Searched there) (Answered AbsentAnswer) (lacks C a log write.key write.edit write.way there (write_held write) (WriteIsTrue C write) after is value keeps lacking left same) tt
      (subst (λ (e : Edit). IsSomeAnd (border_at a.nodes write.way.node.0) (λ b. edit_fault a log e b (found_for (rest_of write.key write.way) b.live) ≡ None)) (sym is)
      (subst (λ (s : Option Stage). IsSomeAnd (border_at a.nodes write.way.node.0) (λ b. RemoveFailsBy (remove_fault log (found_for (rest_of write.key write.way) b.live)) s)) none fault)) tt refl tt tt

pub removes_some : (C : ℕ) (a : ArenaView) (log left : LogView) (write : Write) (there : There) → write.edit ≡ RemoveEdit → (made : Option Stage) → PreparesRemove write.key write.way a log made left
    → IsSomeAnd (border_at a.nodes write.way.node.0) (λ b. RemoveFailsBy (remove_fault log (found_for (rest_of write.key write.way) b.live)) made) → IfSome made (λ stage. WriteStep C a a log left write (Searched there) Moved (record write { stage = stage }))
removes_some C a log left write there is None ready fault = tt
removes_some C a log left write there is (Some stage) ready fault = readies_remove C a log left write there is (Some stage) ready fault stage refl

pub removes_none : (C : ℕ) (a : ArenaView) (log left : LogView) (write : Write) (there : There) → write.edit ≡ RemoveEdit → (made : Option Stage) → PreparesRemove write.key write.way a log made left
    → IsSomeAnd (border_at a.nodes write.way.node.0) (λ b. RemoveFailsBy (remove_fault log (found_for (rest_of write.key write.way) b.live)) made) → made ≡ None → FindsNone C a a log left write there
removes_none C a log left write there is made ready fault none = (refl, λ after value keeps. finds_none C a log left write there is made ready fault after none value keeps)

-- a put that asks for another version than its key's row is of
module _ (C : ℕ) (a : ArenaView) (log : LogView) (write : Write) (there : There) where
  pub turns_away : (sets : List (ℕ × List ℕ)) (only : Option ℕ) (refusal : Refusal) → write.edit ≡ PutEdit sets only → AreBytes write.key → Faults C a a log log write only (Some refusal) → WriteStep C a a log log write (Searched there) Moved (record write { stage = Failed refusal None })
  turns_away sets only refusal is bytes fault =
      let (b, named, here) = some_and _ (border_at a.nodes write.way.node.0) fault in
      let fails = subst (λ (o : Option BorderView). IsSomeAnd o (λ b. FailsBy (option_or (Some refusal) (put_fault a log b (found_for (rest_of write.key write.way) b.live))) None (Failed refusal None))) (sym named) refl in
      leads C a a log log write (Searched there) Moved (Failed refusal None) write.way refl (differs C a log write.key write.edit write.way there sets only refusal is bytes fault) tt
      (tt, faults_at C a a log log write sets only (Some refusal) (Failed refusal None) fault fails is)
      (refl, refl) refl tt tt
