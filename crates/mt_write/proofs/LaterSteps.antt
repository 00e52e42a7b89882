-- What a step does, whole, at the stages of a split, of a new layer, and of the end.
use Rattle.std.proofs.Common.{ℕ, ◌≡◌, inl, inr, List, Option, Some, None, false, refl, sym, ap, subst}
use Rattle.std.specs.Prelude.{IsSomeAnd}
use Rattle.mt_types.specs.declared.numbers.NodeNo.{NodeNo}
use Rattle.mt_types.specs.declared.refusal.Refusal.{Refusal}
use Rattle.mt_types.specs.declared.event.Answer.{Answer}
use Rattle.mt_commit.specs.Log.{LogView}
use Rattle.mt_border.specs.Border.{BorderView, with_entries, with_unstable, with_link_at, with_unlocked, with_half_linked, with_written}
use Rattle.mt_border.specs.declared.entry.Entry.{Entry}
use Rattle.mt_border.specs.declared.entry.RightLink.{RightLink}
use Rattle.mt_interior.specs.Head.{with_lock as with_head_lock}
use Rattle.mt_arena.specs.Node.{border_at}
use Rattle.mt_arena.specs.Arena.{ArenaView, with_border_changed, with_head_changed}
use Rattle.mt_tree.specs.Keeping.{KeepsTree, KeepsUnknown}
use Rattle.mt_tree.specs.BorderSteps.{LinksHalfAt, MakesLayerAt}
use Rattle.mt_steps.specs.declared.way.Way.{Way}
use Rattle.mt_steps.specs.declared.progress.Progress.{Progress}
use Rattle.mt_steps.specs.declared.progress.Progress.TheVariants.{Moved, Waits, Answered, Refused}
use Rattle.mt_steps.proofs.FoundLemmas.{some_and}
use Rattle.mt_post.specs.declared.posting.Posting.{Posting}
use Rattle.mt_post.specs.declared.posting.PostEnd.{PostEnd}
use Rattle.mt_post.specs.declared.posting.Progressed.{Progressed}
use Rattle.mt_post.specs.declared.posting.Progressed.TheVariants.{Moved as PostMoved, Waits as PostAgain, Ended}
use Rattle.mt_post.specs.Posting.{NewPostingIsTrue, PostLaw}
use Rattle.mt_post.specs.Causes.{PostWaits}
use Rattle.mt_write.specs.declared.writing.Write.{Write}
use Rattle.mt_write.specs.declared.writing.Edit.{Edit}
use Rattle.mt_write.specs.declared.writing.Edit.TheVariants.{Put as PutEdit, Remove as RemoveEdit}
use Rattle.mt_write.specs.declared.writing.Halves.{Halves}
use Rattle.mt_write.specs.declared.writing.Layer.{Layer}
use Rattle.mt_write.specs.declared.writing.Ending.{Ending}
use Rattle.mt_write.specs.declared.writing.Ending.TheVariants.{Stored as EndStored, Failed as EndFailed}
use Rattle.mt_write.specs.declared.writing.Stage.{Stage}
use Rattle.mt_write.specs.declared.writing.Stage.TheVariants.{Seeks, Copies, Spared, HalfFilled, HalfLinked, Halved, Posts, LayerSpared, LayerFilled, LayerReady, LayerMarked, LayerLinked, Layered, Reserved, KeyWritten, Filled, Made, Stored, Hidden, Forgets, Failed}
use Rattle.mt_write.specs.Held.{write_held, written_answer, ending_stage}
use Rattle.mt_write.specs.Writing.{WriteIsTrue, way_below}
use Rattle.mt_write.specs.Splitting.{IsHalfOf}
use Rattle.mt_write.specs.Ready.{SomeSets, Prepares}
use Rattle.mt_write.specs.Causes.{IsNotFailed, EndsWith, FailsBy, fill_fault}
use Rattle.mt_write.specs.Follows.{WriteStep, TreeStep, PostingSteps, IsNewPosting, IsReadyIn, IsSpentAt}
use Rattle.mt_write.proofs.ReadyLemmas.{half_readies, one_or_none}
use Rattle.mt_write.proofs.CommitLemmas.{answers, refuses}
use Rattle.mt_write.proofs.HalfLemmas.{fills_half, links, half_prefix, cuts}
use Rattle.mt_write.proofs.NewLayerLemmas.{fills_root, unlocks_head, marks_unstable, links_layer, marks_layer, goes_below}
use Rattle.mt_write.proofs.PostLemmas.{unlocks_left, posts_on, posts_again, posts_end}
use Rattle.mt_write.proofs.InsertLemmas.{keys, values}
use Rattle.mt_write.proofs.ForgetLemmas.{forgets, marks, skips}
use Rattle.mt_write.proofs.StageSteps.{closes, leads}
use Rattle.mt_border.specs.Border.{with_filled, with_forgotten, with_inserting, with_key}
use Rattle.mt_border.specs.Entry.{entry_with}
use Rattle.mt_border.specs.Order.{IsBorder}
use Rattle.mt_border.specs.declared.unwritten.SlotKey.{SlotKey}
use Rattle.mt_border.specs.declared.unwritten.Unwritten.TheVariants.{Value}
use Rattle.mt_types.specs.declared.row.Row.{Row}
use Rattle.mt_write.specs.declared.writing.Insertion.{Insertion}

-- ---- a split
-- what is made ready in a half
half_ready : (C : ℕ) (a after : ArenaView) (log left : LogView) (key : List ℕ) (sets : List (ℕ × List ℕ)) (way : Way) (split : Halves) (stage : Stage) → Prepares C key sets way a log (Some split) stage after left → IsReadyIn split stage
half_ready C a after log left key sets way split (Reserved new slot_key row) f = f.0
half_ready C a after log left key sets way split (Failed refusal halves) f = f.0
half_ready C a after log left key sets way split (Copies half cut place outline entries) f = absurd (one_or_none f.0)
half_ready C a after log left key sets way split (LayerSpared layer entries) f = absurd (one_or_none f.0)
half_ready C a after log left key sets way split (Made place stored columns logged) f = absurd (one_or_none f.0)
half_ready C a after log left key sets way split _ f = absurd f

edit_ready : (C : ℕ) (a after : ArenaView) (log left : LogView) (key : List ℕ) (edit : Edit) (way : Way) (split : Halves) (stage : Stage) → SomeSets edit (λ sets. Prepares C key sets way a log (Some split) stage after left) → IsReadyIn split stage
edit_ready C a after log left key (PutEdit sets only) way split stage ready = half_ready C a after log left key sets way split stage ready
edit_ready C a after log left key RemoveEdit way split stage ready = absurd ready

pub readies_half : (C : ℕ) (a after : ArenaView) (log left : LogView) (write : Write) (split : Halves) (there : ℕ) (stage : Stage) → SomeSets write.edit (λ sets. Prepares C write.key sets write.way a log (Some split) stage after left)
    → IsSomeAnd (border_at a.nodes write.way.node.0) (λ b. FailsBy (fill_fault log b) (Some split) stage) → WriteStep C a after log left write (Halved split there) Moved (record write { stage = stage })
readies_half C a after log left write split there stage ready fault =
    leads C a after log left write (Halved split there) Moved stage write.way refl (half_readies C a log write.key write.edit write.way split there stage after left ready) tt (tt, fault)
    (edit_ready C a after log left write.key write.edit write.way split stage ready, refl) refl tt tt

same_layer : (a : ArenaView) (key : List ℕ) (way goal : Way) (half : NodeNo) (cut place there : ℕ) → IsSomeAnd (border_at a.nodes half.0) (λ upper. IsHalfOf key way half upper.low cut place goal there) → goal.layer ≡ way.layer
same_layer a key way goal half cut place there either =
    let (r, read, one) = some_and _ (border_at a.nodes half.0) either in
    elim one [ inl left ↦ ap (λ (w : Way). w.layer) left.1 | inr right ↦ ap (λ (w : Way). w.layer) right.1 ]

ends_so : (posting : Posting) (ending : Ending) → EndsWith ending (Posts posting ending)
ends_so posting (EndStored commit) = tt
ends_so posting (EndFailed refusal) = tt

module _ (a after : ArenaView) (write : Write) where
  pub fills_spared : (half : NodeNo) (cut place : ℕ) (right : Option RightLink) (entries : List Entry) → after ≡ with_border_changed a half.0 (λ spare. with_entries spare entries right) → KeepsUnknown a after half.0
      → TreeStep a after write (Spared half cut place right entries) Moved (record write { stage = HalfFilled half cut place })
  fills_spared half cut place right entries filled keeps = λ C log.
      leads C a after log log write (Spared half cut place right entries) Moved (HalfFilled half cut place) write.way refl (fills_half C a log write.key write.edit write.way half cut place right entries after filled keeps) tt (tt, tt) (refl, refl) refl tt tt

  pub links_half : (half : NodeNo) (cut place : ℕ) → IsSomeAnd (border_at a.nodes half.0) (λ upper. after ≡ with_border_changed a write.way.node.0 (λ b. with_half_linked b cut (record { low = upper.low; node = half }))) → LinksHalfAt a after write.way.node.0 half.0
      → TreeStep a after write (HalfFilled half cut place) Moved (record write { stage = HalfLinked half cut place })
  links_half half cut place linked keeps = λ C log.
      leads C a after log log write (HalfFilled half cut place) Moved (HalfLinked half cut place) write.way refl (links C a log write.key write.edit write.way half cut place after linked keeps) tt (tt, tt) (refl, refl) refl tt tt

  pub cuts_order : (half : NodeNo) (cut place : ℕ) (goal : Way) (there : ℕ) → after ≡ with_border_changed a write.way.node.0 with_written → KeepsTree a after → IsSomeAnd (border_at a.nodes half.0) (λ upper. IsHalfOf write.key write.way half upper.low cut place goal there)
      → TreeStep a after write (HalfLinked half cut place) Moved (record write { way = goal; stage = Halved (record { left = write.way.node; half = half }) there })
  cuts_order half cut place goal there changed keeps either = λ C log.
      leads C a after log log write (HalfLinked half cut place) Moved (Halved (record { left = write.way.node; half = half }) there) goal (half_prefix a write.key write.way goal half cut place there either)
      (cuts C a log write.key write.edit write.way half cut place after changed keeps goal there either) tt (tt, tt) (there, refl, same_layer a write.key write.way goal half cut place there either) refl tt tt

  -- ---- a new layer
  pub fills_layer : (layer : Layer) (entries : List Entry) → after ≡ with_border_changed a layer.root.0 (λ b. with_entries b entries None) → KeepsUnknown a after layer.root.0 → TreeStep a after write (LayerSpared layer entries) Moved (record write { stage = LayerFilled layer })
  fills_layer layer entries filled keeps = λ C log.
      leads C a after log log write (LayerSpared layer entries) Moved (LayerFilled layer) write.way refl (fills_root C a log write.key write.edit write.way layer entries after filled keeps) tt (tt, tt) (refl, refl) refl tt tt

  pub unlocks_layer : (layer : Layer) → after ≡ with_head_changed a layer.head.0 (λ head. with_head_lock head false) → KeepsTree a after → TreeStep a after write (LayerFilled layer) Moved (record write { stage = LayerReady layer })
  unlocks_layer layer unlocked keeps = λ C log.
      leads C a after log log write (LayerFilled layer) Moved (LayerReady layer) write.way refl (unlocks_head C a log write.key write.edit write.way layer after unlocked keeps) tt (tt, tt) (refl, refl) refl tt tt

  pub marks_key : (layer : Layer) → after ≡ with_border_changed a write.way.node.0 (λ b. with_unstable b layer.place) → KeepsTree a after → IsSomeAnd (border_at after.nodes write.way.node.0) IsBorder → TreeStep a after write (LayerReady layer) Moved (record write { stage = LayerMarked layer })
  marks_key layer marked keeps sound = λ C log.
      leads C a after log log write (LayerReady layer) Moved (LayerMarked layer) write.way refl (marks_unstable C a log write.key write.edit write.way layer after marked keeps sound) tt (tt, tt) (refl, refl) refl tt tt

  pub links_below : (layer : Layer) → after ≡ with_border_changed a write.way.node.0 (λ b. with_link_at b layer.place layer.head) → MakesLayerAt a after write.way.node.0 layer.place layer.head.0 → TreeStep a after write (LayerMarked layer) Moved (record write { stage = LayerLinked layer.head })
  links_below layer linked makes = λ C log.
      leads C a after log log write (LayerMarked layer) Moved (LayerLinked layer.head) write.way refl (links_layer C a log write.key write.edit write.way layer after linked makes) tt (tt, tt) (refl, refl) refl tt tt

  pub marks_done : (head : NodeNo) → after ≡ with_border_changed a write.way.node.0 with_written → KeepsTree a after → TreeStep a after write (LayerLinked head) Moved (record write { stage = Layered head })
  marks_done head marked keeps = λ C log.
      leads C a after log log write (LayerLinked head) Moved (Layered head) write.way refl (marks_layer C a log write.key write.edit write.way head after marked keeps) tt (tt, tt) (refl, refl) refl tt tt

  -- ---- a new key
  pub writes_key : (new : Insertion) (slot_key : SlotKey) (row : Row) → after ≡ with_border_changed a write.way.node.0 (λ b. with_key b slot_key) → KeepsTree a after → IsSomeAnd (border_at after.nodes write.way.node.0) IsBorder → TreeStep a after write (Reserved new slot_key row) Moved (record write { stage = KeyWritten new row })
  writes_key new slot_key row is keeps sound = λ C log.
      leads C a after log log write (Reserved new slot_key row) Moved (KeyWritten new row) write.way refl (keys C a log write.key write.edit write.way new row after keeps sound slot_key is) tt (tt, tt) (refl, refl) refl tt tt

  pub writes_value : (new : Insertion) (row : Row) → ((slot_key : SlotKey) → IsSomeAnd (border_at a.nodes write.way.node.0) (λ b. b.unwritten ≡ Value slot_key) → after ≡ with_border_changed a write.way.node.0 (λ b. with_filled b (entry_with slot_key row))) → KeepsTree a after → IsSomeAnd (border_at after.nodes write.way.node.0) IsBorder
      → TreeStep a after write (KeyWritten new row) Moved (record write { stage = Filled new.place new.key new.logged new.split })
  writes_value new row is keeps sound = λ C log.
      leads C a after log log write (KeyWritten new row) Moved (Filled new.place new.key new.logged new.split) write.way refl (values C a log write.key write.edit write.way new row after keeps sound is) tt (tt, tt) (refl, refl) refl tt tt

  -- ---- a row that was hidden is dropped
  pub marks_hidden : (commit : ℕ) → after ≡ with_border_changed a write.way.node.0 with_inserting → KeepsTree a after → IsSomeAnd (border_at after.nodes write.way.node.0) IsBorder → TreeStep a after write (Hidden commit) Moved (record write { stage = Forgets commit })
  marks_hidden commit is keeps sound = λ C log.
      leads C a after log log write (Hidden commit) Moved (Forgets commit) write.way refl (marks C a log write.key write.edit write.way commit after keeps sound is) tt (tt, tt) (inl refl, refl) refl tt tt

  pub leaves_hidden : (commit : ℕ) → after ≡ a → IsSpentAt a write.way.node.0 → TreeStep a after write (Hidden commit) Moved (record write { stage = Stored commit None })
  leaves_hidden commit same spent = λ C log.
      leads C a after log log write (Hidden commit) Moved (Stored commit None) write.way refl (skips C a log write.key write.edit write.way commit after same) tt (tt, tt) (inr (refl, spent), refl) refl tt tt

  pub forgets_row : (commit : ℕ) → after ≡ with_border_changed a write.way.node.0 with_forgotten → KeepsTree a after → TreeStep a after write (Forgets commit) Moved (record write { stage = Stored commit None })
  forgets_row commit is keeps = λ C log.
      leads C a after log log write (Forgets commit) Moved (Stored commit None) write.way refl (forgets C a log write.key write.edit write.way commit after keeps is) tt (tt, tt) (refl, refl) refl tt is

  module _ (keeps : KeepsTree a after) where
    pub enters_layer : (head : NodeNo) → after ≡ with_border_changed a write.way.node.0 with_unlocked → TreeStep a after write (Layered head) Moved (record write { way = way_below write.way head; head = head; stage = Seeks })
    enters_layer head unlocked = λ C log. record {
      request = refl;
      law = goes_below C a log write.key write.edit write.way write.head head after unlocked keeps;
      waits = tt;
      fails = (tt, tt);
      follows = (refl, refl);
      head = refl;
      posts = tt;
      drops = tt;
    }

    -- ---- the end
    pub ends_stored : (commit : ℕ) (split : Option Halves) (answer : Answer) → split ≡ None → write.stage ≡ Seeks → answer ≡ written_answer write.edit commit → after ≡ with_border_changed a write.way.node.0 with_unlocked → TreeStep a after write (Stored commit split) (Answered answer) write
    ends_stored commit split answer none idle answer_is unlocked = λ C log. subst (λ (s : Option Halves). WriteStep C a after log log write (Stored commit s) (Answered answer) write) (sym none)
        (closes C a after log log write (Stored commit None) (Answered answer) (answers C a log write.key write.edit write.way commit answer answer_is (write_held write) (WriteIsTrue C write) after unlocked keeps) tt
        (tt, subst (λ (s : Stage). IsNotFailed s) (sym idle) tt) refl refl tt tt)

    pub ends_failed : (refusal : Refusal) (split : Option Halves) → split ≡ None → after ≡ with_border_changed a write.way.node.0 with_unlocked → TreeStep a after write (Failed refusal split) (Refused refusal) write
    ends_failed refusal split none unlocked = λ C log. subst (λ (s : Option Halves). WriteStep C a after log log write (Failed refusal s) (Refused refusal) write) (sym none)
        (closes C a after log log write (Failed refusal None) (Refused refusal) (refuses C a log write.key write.edit write.way refusal (write_held write) (WriteIsTrue C write) after unlocked keeps) tt (refl, refl) (refl, refl) refl tt tt)

    -- the left half is unlocked, and the posting of the other begins
    pub begins_posting : (split : Halves) (posting : Posting) → IsNewPosting write.head split.half posting → NewPostingIsTrue posting → (b : BorderView) → border_at a.nodes split.half.0 ≡ Some b → posting.low ≡ b.low → after ≡ with_border_changed a split.left.0 with_unlocked
        → (ending : Ending) → TreeStep a after write (ending_stage ending (Some split)) Moved (record write { way = record { node = split.half; layer = write.way.layer }; stage = Posts posting ending })
    begins_posting split posting new begins b named low unlocked (EndStored commit) = λ C log. record {
      request = refl;
      law = unlocks_left C a log write.key write.edit write.way split after unlocked keeps write.head posting new.same_head new.same_half b named low begins (EndStored commit);
      waits = tt;
      fails = (tt, tt);
      follows = (refl, λ e. one_or_none e);
      head = refl;
      posts = new;
      drops = tt;
    }
    begins_posting split posting new begins b named low unlocked (EndFailed refusal) = λ C log. record {
      request = refl;
      law = unlocks_left C a log write.key write.edit write.way split after unlocked keeps write.head posting new.same_head new.same_half b named low begins (EndFailed refusal);
      waits = tt;
      fails = (tt, refl);
      follows = (refl, λ e. one_or_none e);
      head = refl;
      posts = new;
      drops = tt;
    }

  -- the same stage, if the halves are known
  pub of_halves : (stage : Option Halves → Stage) (split : Option Halves) (halves : Halves) (p : Progress) (then : Write) → split ≡ Some halves → TreeStep a after write (stage (Some halves)) p then → TreeStep a after write (stage split) p then
  of_halves stage split halves p then is steps = subst (λ (s : Option Halves). TreeStep a after write (stage s) p then) (sym is) steps

  -- ---- a step of its posting
  module _ (posting then : Posting) (p : Progressed) (law : PostLaw a after posting p then) (steps : PostingSteps a after posting p then) where
    pub posting_moves : (ending : Ending) → p ≡ PostMoved → TreeStep a after write (Posts posting ending) Moved (record write { stage = Posts then ending })
    posting_moves ending is = λ C log. record {
      request = refl;
      law = posts_on C a after log write.key write.edit write.way write.head posting then ending steps.same (subst (λ (q : Progressed). PostLaw a after posting q then) is law);
      waits = tt;
      fails = (tt, ends_so then ending);
      follows = ((refl, (subst (λ (q : Progressed). PostingSteps a after posting q then) is steps).gets_on), refl);
      head = refl;
      posts = subst (λ (q : Progressed). PostingSteps a after posting q then) is steps;
      drops = tt;
    }

    pub posting_waits : (ending : Ending) → p ≡ PostAgain → PostWaits a posting p → TreeStep a after write (Posts posting ending) Waits (record write { stage = Posts then ending })
    posting_waits ending is waits = λ C log. record {
      request = refl;
      law = posts_again C a after log write.key write.edit write.way write.head posting then ending steps.same (subst (λ (q : Progressed). PostLaw a after posting q then) is law);
      waits = subst (λ (q : Progressed). PostWaits a posting q) is waits;
      fails = (tt, ends_so then ending);
      follows = (refl, refl);
      head = refl;
      posts = subst (λ (q : Progressed). PostingSteps a after posting q then) is steps;
      drops = tt;
    }

    posting_done : (end : PostEnd) → p ≡ Ended end → (ending : Ending) → TreeStep a after write (Posts posting ending) Moved (record write { stage = ending_stage ending None })
    posting_done end is (EndStored commit) = λ C log. record {
      request = refl;
      law = posts_end C a after log write.key write.edit write.way write.head posting then (EndStored commit) steps.same end (subst (λ (q : Progressed). PostLaw a after posting q then) is law);
      waits = tt;
      fails = (tt, tt);
      follows = (refl, refl);
      head = refl;
      posts = (then, end, subst (λ (q : Progressed). PostingSteps a after posting q then) is steps);
      drops = tt;
    }
    posting_done end is (EndFailed refusal) = λ C log. record {
      request = refl;
      law = posts_end C a after log write.key write.edit write.way write.head posting then (EndFailed refusal) steps.same end (subst (λ (q : Progressed). PostLaw a after posting q then) is law);
      waits = tt;
      fails = (tt, refl);
      follows = (refl, refl);
      head = refl;
      posts = (then, end, subst (λ (q : Progressed). PostingSteps a after posting q then) is steps);
      drops = tt;
    }

    pub posting_ends : (end : PostEnd) (ending : Ending) (stage : Stage) → p ≡ Ended end → stage ≡ ending_stage ending None → TreeStep a after write (Posts posting ending) Moved (record write { stage = stage })
    posting_ends end ending stage is stage_is = subst (λ (s : Stage). TreeStep a after write (Posts posting ending) Moved (record write { stage = s })) (sym stage_is) (posting_done end is ending)
