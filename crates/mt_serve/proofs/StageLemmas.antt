-- Why a put or remove fails, carried from stage to stage: what is said of its failure when it is made ready holds until
-- it ends.
use Rattle.std.proofs.Common.{ℕ, ◌≡◌, ◌+◌, ◌==◌, inl, inr, Bool, true, false, List, length, Option, Some, None, refl, sym, subst}
use Rattle.std.specs.Prelude.{◌⊎◌, IsSomeAnd, cond}
use Rattle.mt_types.specs.declared.refusal.Refusal.{Refusal}
use Rattle.mt_types.specs.declared.refusal.Refusal.TheVariants.{NoMemory}
use Rattle.mt_types.specs.declared.event.Request.{Request}
use Rattle.mt_types.specs.declared.event.Request.TheVariants.{Put as PutRequest, PutIf as PutIfRequest, Remove as RemoveRequest}
use Rattle.mt_types.specs.declared.numbers.NodeNo.{NodeNo}
use Rattle.mt_word.specs.declared.permutation_word.TheConstants.{SLOTS}
use Rattle.mt_border.specs.Border.{BorderView}
use Rattle.mt_border.specs.declared.entry.Entry.{Entry}
use Rattle.mt_arena.specs.Arena.{ArenaView}
use Rattle.mt_arena.specs.Node.{border_at}
use Rattle.mt_commit.specs.Log.{LogView}
use Rattle.mt_tree.specs.Descent.{found_for}
use Rattle.mt_steps.specs.declared.progress.Progress.TheVariants.{Moved, Waits, Committed}
use Rattle.mt_steps.specs.Entering.{entered}
use Rattle.mt_steps.specs.declared.entering.Entered.{Entered}
use Rattle.mt_steps.specs.declared.entering.Entered.TheVariants.{Enters as EntersNext, Right as EntersRight, Below as EntersBelow, Here as EntersHere}
use Rattle.mt_steps.specs.declared.entering.Outline.{Outline}
use Rattle.mt_steps.specs.declared.entering.There.{There}
use Rattle.mt_steps.specs.declared.way.Way.{Way}
use Rattle.mt_steps.specs.Way.{rest_of}
use Rattle.mt_write.specs.declared.writing.Write.{Write as WriteView}
use Rattle.mt_write.specs.declared.writing.Edit.{Edit}
use Rattle.mt_write.specs.declared.writing.Halves.{Halves}
use Rattle.mt_write.specs.declared.writing.Ending.{Ending}
use Rattle.mt_write.specs.declared.writing.Ending.TheVariants.{Stored as EndStored, Failed as EndFailed}
use Rattle.mt_write.specs.declared.writing.Stage.{Stage}
use Rattle.mt_write.specs.declared.writing.Stage.TheVariants.{Seeks, Enters, Rightward, Searched, Copies, GivesBack, Spared, HalfLinked, Halved, Posts, Layered, Filled, Made, Taken, Hidden, Stored, Failed}
use Rattle.mt_post.specs.declared.posting.Posting.{Posting}
use Rattle.mt_write.specs.Held.{ending_stage}
use Rattle.mt_write.specs.Writing.{entered_stage}
use Rattle.mt_write.specs.Causes.{edit_fault, fill_fault, FailsBy, StageFails}
use Rattle.mt_write.specs.Follows.{EndsRefused, StageFollows, StageRests, committed_stage}
use Rattle.mt_write.specs.Splitting.{copied_stage}
use Rattle.mt_works.specs.declared.work.Work.{Work}
use Rattle.mt_works.specs.declared.work.Work.TheVariants.{Get, Write}
use Rattle.mt_works.specs.Works.{request_of, IsAtStart, IsBuiltWork}
use Rattle.mt_works.specs.Follows.{WorkFollows}
use Rattle.mt_works.specs.Causes.{WorkFails, WorkRefuses}

some_and : {A : Type 0} (o : Option A) (Q : A → Type 0) → IsSomeAnd o Q → (x : A) × (o ≡ Some x) × Q x
some_and (Some x) Q q = (x, refl, q)
some_and None Q q = absurd q

-- a put or remove
abbrev pub IsWriting : Request → Type 0
IsWriting (PutRequest key sets) = Unit {0}
IsWriting (PutIfRequest key sets version) = Unit {0}
IsWriting (RemoveRequest key) = Unit {0}
IsWriting _ = ⊥

-- a field that is read begins no posting
posts_none : (posting : Posting) (ending : Ending) (e : Entered) → Posts posting ending ≡ entered_stage e → ⊥
posts_none posting ending (EntersNext next) is = cc
posts_none posting ending (EntersRight next) is = cc
posts_none posting ending (EntersBelow head) is = cc
posts_none posting ending (EntersHere there) is = cc

module _ (P : Refusal → Type 0) where
  -- what is said of a failure that a stage carries
  abbrev pub EndSays : Ending → Type 0
  EndSays (EndStored commit) = Unit {0}
  EndSays (EndFailed refusal) = P refusal

  abbrev pub StageSays : Stage → Type 0
  StageSays (Failed refusal split) = P refusal
  StageSays (GivesBack half) = P NoMemory
  StageSays (Posts posting ending) = EndSays ending
  StageSays _ = Unit {0}

  abbrev pub WorkSays : Work → Type 0
  WorkSays (Write write) = StageSays write.stage
  WorkSays _ = Unit {0}

  -- it is so of each fault for which a write may fail where it is
  pub record Explains (a : ArenaView) (log : LogView) (write : WriteView) : Type 0 where
    pub memory : P NoMemory
    pub searched : (there : There) → write.stage ≡ Searched there → (b : BorderView) → border_at a.nodes write.way.node.0 ≡ Some b → (refusal : Refusal)
        → edit_fault a log write.edit b (found_for (rest_of write.key write.way) b.live) ≡ Some refusal → P refusal
    pub halved : (split : Halves) (place : ℕ) → write.stage ≡ Halved split place → (b : BorderView) → (refusal : Refusal) → border_at a.nodes write.way.node.0 ≡ Some b
        → fill_fault log b ≡ Some refusal → P refusal

  failed_by : (fault : Option Refusal) (refusal : Refusal) (split halves : Option Halves) → FailsBy fault split (Failed refusal halves) → P NoMemory → ((x : Refusal) → fault ≡ Some x → P x) → P refusal
  failed_by None refusal split halves is memory given = subst P (sym is) memory
  failed_by (Some x) refusal split halves is memory given = let same : refusal ≡ x = cc is in subst P (sym same) (given x refl)

  end_is : (refusal : Refusal) (halves : Option Halves) (ending : Ending) → Failed refusal halves ≡ ending_stage ending None → EndSays ending → P refusal
  end_is refusal halves (EndStored commit) is says = let clash : Failed refusal halves ≡ Stored commit None = is in cc
  end_is refusal halves (EndFailed other) is says = let clash : Failed refusal halves ≡ Failed other None = is in let same : refusal ≡ other = cc clash in subst P (sym same) says

  -- nothing is said once an entry is copied
  copied_says : (half : NodeNo) (cut place : ℕ) (outline : Outline) (copies : List Entry) → StageSays (copied_stage half cut place outline copies)
  copied_says half cut place outline copies = go (cut + length copies == SLOTS)
    where
      go : (all : Bool) → StageSays (cond all (Spared half cut place outline.right copies) (Copies half cut place outline copies))
      go true = tt
      go false = tt

  -- why a stage ends refused
  refused_by : (stage : Stage) (refusal : Refusal) → EndsRefused stage refusal → StageSays stage → P refusal
  refused_by (Failed failed split) refusal (same, none) says = subst P same says
  refused_by (GivesBack half) refusal is says = subst P (sym is) says
  refused_by _ refusal never says = absurd never

  module _ (a : ArenaView) (log : LogView) (key : List ℕ) (edit : Edit) (way next : Way) where
    moved : (stage new : Stage) → Explains a log (record { key = key; edit = edit; way = way; head = way.node; stage = stage }) → StageFollows a key way stage next new
        → StageFails a log key edit way stage Moved new → StageSays stage → StageSays new
    moved Seeks new e (inl stays) fails says = subst StageSays (sym stays.0) tt
    moved Seeks new e (inr on) fails says = subst StageSays (sym on.0) tt
    moved (Enters entering) (Failed refusal halves) e on fails says = subst P (sym fails.1.0) e.memory
    moved (Enters entering) (Posts posting ending) e on fails says = elim on.0 [
      | inl (part, lent, is) ↦ absurd (posts_none posting ending (entered (rest_of key way) entering part) is)
      | inr is ↦ absurd (let clash : Posts posting ending ≡ Failed NoMemory None = is in cc)
    ]
    moved (Enters entering) (GivesBack half) e on fails says = e.memory
    moved (Enters entering) _ e on fails says = tt
    moved (Rightward right) new e on fails says = subst StageSays (sym on.0) tt
    moved (Searched there) (Failed refusal halves) e ready fails says =
        let (b, at, by) = some_and (border_at a.nodes way.node.0) (λ b. FailsBy (edit_fault a log edit b (found_for (rest_of key way) b.live)) None (Failed refusal halves)) fails.1 in
        failed_by (edit_fault a log edit b (found_for (rest_of key way) b.live)) refusal None halves by e.memory (λ x is. e.searched there refl b at x is)
    moved (Searched there) (Posts posting ending) e ready fails says = absurd ready.0
    moved (Searched there) (GivesBack half) e ready fails says = e.memory
    moved (Searched there) _ e ready fails says = tt
    moved (Copies half cut place outline entries) new e (inl (copies, c, is), to) fails says = subst StageSays (sym is) (copied_says half cut place outline copies)
    moved (Copies half cut place outline entries) new e (inr is, to) fails says = subst StageSays (sym is) e.memory
    moved (GivesBack half) new e never fails says = absurd never
    moved (HalfLinked half cut place) new e (there, is, layer) fails says = subst StageSays (sym is) tt
    moved (Halved split place) (Failed refusal halves) e ready fails says =
        let (b, at, by) = some_and (border_at a.nodes way.node.0) (λ b. FailsBy (fill_fault log b) (Some split) (Failed refusal halves)) fails.1 in
        failed_by (fill_fault log b) refusal (Some split) halves by e.memory (λ x is. e.halved split place refl b x at is)
    moved (Halved split place) (Posts posting ending) e ready fails says = absurd ready.0
    moved (Halved split place) (GivesBack half) e ready fails says = e.memory
    moved (Halved split place) _ e ready fails says = tt
    moved (Layered head) new e on fails says = subst StageSays (sym on.0) tt
    moved (Posts posting ending) (Posts then other) e on fails says = subst EndSays (sym on.0.0) says
    moved (Posts posting ending) (Failed refusal halves) e on fails says = end_is refusal halves ending on.0 says
    moved (Posts posting ending) (GivesBack half) e on fails says = e.memory
    moved (Posts posting ending) _ e on fails says = tt
    moved (Stored commit split) (Posts posting other) e on fails says = subst EndSays (sym on.0) tt
    moved (Stored commit split) _ e on fails says = absurd on.0
    moved (Failed refusal split) (Posts posting other) e on fails says = subst EndSays (sym on.0) says
    moved (Failed refusal split) _ e on fails says = absurd on.0
    moved (Filled place stored logged split) new e never fails says = absurd never
    moved (Made place stored columns logged) new e never fails says = absurd never
    moved (Taken place stored before) new e never fails says = absurd never
    moved (Hidden commit) new e (inl is, to) fails says = subst StageSays (sym is) tt
    moved (Hidden commit) new e (inr (is, spent), to) fails says = subst StageSays (sym is) tt
    moved _ new e stays fails says = subst StageSays (sym stays.0) tt

    rests : (stage new : Stage) → StageRests a way stage next new → StageSays stage → StageSays new
    rests Seeks new on says = subst StageSays (sym on.0) tt
    rests (Posts posting ending) (Posts then other) on says = subst EndSays (sym on.0) says
    rests (Posts posting ending) _ on says = absurd on.0
    rests _ new never says = absurd never

  -- ---- of a call's work
  pub work_moved : (a : ArenaView) (log : LogView) (work new : Work) → ((write : WriteView) → work ≡ Write write → Explains a log write)
      → WorkFollows a log work Moved new → WorkFails a log work Moved new → WorkSays work → WorkSays new
  work_moved a log (Write write) (Write new) e follows fails says =
      let x = e write refl in
      moved a log write.key write.edit write.way new.way write.stage new.stage (record { memory = x.memory; searched = x.searched; halved = x.halved }) follows fails says
  work_moved a log _ (Write new) e follows fails says = absurd follows
  work_moved a log work _ e follows fails says = tt

  pub work_rests : (a : ArenaView) (log : LogView) (work new : Work) → WorkFollows a log work Waits new → WorkSays work → WorkSays new
  work_rests a log (Write write) (Write new) follows says = rests a log write.key write.edit write.way new.way write.stage new.stage follows says
  work_rests a log _ (Write new) follows says = absurd follows
  work_rests a log work _ follows says = tt

  -- a commit is no failure
  committed_says : (number : ℕ) (stage : Stage) → StageSays (committed_stage number stage)
  committed_says number (Taken place stored before) = tt
  committed_says number _ = tt

  pub work_commits : (a : ArenaView) (log : LogView) (work new : Work) (number : ℕ) → WorkFollows a log work (Committed number) new → WorkSays new
  work_commits a log (Write write) (Write new) number follows = subst StageSays (sym follows.1.0) (committed_says number write.stage)
  work_commits a log _ (Write new) number follows = absurd follows
  work_commits a log work _ number follows = tt

  -- one that has just begun has not failed
  pub work_begins : (work : Work) → IsAtStart work → WorkSays work
  work_begins (Write write) start = subst StageSays (sym start.1) tt
  work_begins _ start = tt

  -- a put or remove is refused for what is said of its failure
  pub work_refused : (a : ArenaView) (work : Work) (refusal : Refusal) → IsWriting (request_of work) → (WorkRefuses a work refusal ⊎ IsBuiltWork work) → WorkSays work → P refusal
  work_refused a (Write write) refusal writing (inl ends) says = refused_by write.stage refusal ends says
  work_refused a (Write write) refusal writing (inr never) says = absurd never
  work_refused a (Get get) refusal writing refuses says = absurd writing
  work_refused a _ refusal writing refuses says = absurd writing
