-- Why what is to be made ready fails.
use Rattle.std.proofs.Common.{◌≡◌, ◌<◌, if◌then◌else◌, Bool, length, arith, Option, Some, None, Result, Ok, Err, MatchResult, sym, ap, subst, ◌∙◌}
use Rattle.mt_types.specs.declared.refusal.Refusal.{Refusal}
use Rattle.mt_types.specs.declared.refusal.Refusal.TheVariants.{NoMemory}
use Rattle.mt_write.specs.declared.writing.Halves.{Halves}
use Rattle.mt_write.specs.declared.writing.Edit.{Edit}
use Rattle.mt_steps.specs.declared.progress.Progress.TheVariants.{Refused}
use Rattle.mt_write.specs.declared.writing.Stage.{Stage}
use Rattle.mt_write.specs.declared.writing.Stage.TheVariants.{Failed, GivesBack}
use Rattle.std.specs.Prelude.{ℕ, List, IsSomeAnd}
use Rattle.mt_commit.specs.Log.{LogView}
use Rattle.mt_border.specs.Border.{BorderView}
use Rattle.mt_border.specs.declared.found.Found.{Found}
use Rattle.mt_arena.specs.Node.{border_at}
use Rattle.mt_arena.specs.Arena.{ArenaView}
use Rattle.mt_tree.specs.Descent.{found_for}
use Rattle.mt_steps.specs.declared.way.Way.{Way}
use Rattle.mt_steps.specs.Way.{rest_of}
use Rattle.mt_steps.proofs.FoundLemmas.{some_and}
use Rattle.mt_write.specs.Follows.{EndsRefused}
use Rattle.mt_write.specs.Causes.{ReadyFor, FailsBy, IsNotFailed, StageFails, put_fault, split_fault, fill_fault}
use Rattle.mt_word.specs.declared.permutation_word.TheConstants.{SLOTS}
use Rattle.mt_border.specs.declared.found.Found.TheVariants.{Absent}
use Rattle.mt_steps.proofs.SplitLemmas.{eqb-ne}

-- a stage that isn't failed fails for nothing
not_failed : (split : Option Halves) (stage : Stage) → IsNotFailed stage → FailsBy None split stage
not_failed split (Failed refusal halves) never = absurd never
not_failed split _ h = tt

pub ready_ok : (fault : Option Refusal) (made : Result Stage Refusal) (stage : Stage) (split : Option Halves) → ReadyFor fault made → made ≡ Ok stage → FailsBy fault split stage
ready_ok None made stage split ready is = not_failed split stage (subst (λ (r : Result Stage Refusal). MatchResult r IsNotFailed (λ refusal. refusal ≡ NoMemory)) is ready)
ready_ok (Some fault) made stage split ready is = absurd (never (sym ready ∙ is))
  where
    never : ◌≡◌ {A = Result Stage Refusal} (Err fault) (Ok stage) → ⊥
    never e = cc

pub ready_err : (fault : Option Refusal) (made : Result Stage Refusal) (refusal : Refusal) (split : Option Halves) → ReadyFor fault made → made ≡ Err refusal → FailsBy fault split (Failed refusal split)
ready_err None made refusal split ready is = subst (λ (r : Result Stage Refusal). MatchResult r IsNotFailed (λ refusal. refusal ≡ NoMemory)) is ready
ready_err (Some fault) made refusal split ready is = (let both : ◌≡◌ {A = Result Stage Refusal} (Err fault) (Err refusal) = sym ready ∙ is in let same : fault ≡ refusal = cc in ap (λ (r : Refusal). Failed r split) (sym same))

-- what is made ready for a put, by what was found
pub prepares_ok : (a : ArenaView) (log : LogView) (key : List ℕ) (way : Way) (found : Found) (made : Result Stage Refusal) (stage : Stage) → IsSomeAnd (border_at a.nodes way.node.0) (λ b. found ≡ found_for (rest_of key way) b.live) → made ≡ Ok stage
    → ((b : BorderView) → border_at a.nodes way.node.0 ≡ Some b → ReadyFor (put_fault a log b found) made) → IsSomeAnd (border_at a.nodes way.node.0) (λ b. FailsBy (put_fault a log b (found_for (rest_of key way) b.live)) None stage)
prepares_ok a log key way found made stage value is ready =
    let (b, named, found_is) = some_and _ (border_at a.nodes way.node.0) value in
    subst (λ (o : Option BorderView). IsSomeAnd o (λ x. FailsBy (put_fault a log x (found_for (rest_of key way) x.live)) None stage)) (sym named)
    (subst (λ (f : Found). FailsBy (put_fault a log b f) None stage) found_is (ready_ok (put_fault a log b found) made stage None (ready b named) is))

pub room_ready : (a : ArenaView) (log : LogView) (b : BorderView) (place : ℕ) (made : Result Stage Refusal) → length b.live < SLOTS → ReadyFor (fill_fault log b) made → ReadyFor (put_fault a log b (Absent place)) made
room_ready a log b place made room ready = subst (λ (t : Bool). ReadyFor (if t then split_fault a b else fill_fault log b) made) (sym (eqb-ne (length b.live) SLOTS (λ e. omega (arith, room, e)))) ready

-- ---- a call is refused for what it had failed for
pub stage_refused : (a : ArenaView) (log : LogView) (key : List ℕ) (edit : Edit) (way : Way) (stage : Stage) (refusal : Refusal) (new : Stage) → StageFails a log key edit way stage (Refused refusal) new → EndsRefused stage refusal
stage_refused a log key edit way (Failed refused split) refusal new (same, none) = (sym same, none)
stage_refused a log key edit way (GivesBack half) refusal new ends = ends
stage_refused a log key edit way _ refusal new (never, h) = absurd never
