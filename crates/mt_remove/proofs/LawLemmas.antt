-- The law of a step, as each kind of call has it, from what a step of a tidy leaves.
use Rattle.std.proofs.Common.{ℕ, ◌≡◌, inl, List, [], None, true, false, refl}
use Rattle.mt_types.specs.declared.event.Answer.TheVariants.{Tidied}
use Rattle.mt_commit.specs.Log.{LogView}
use Rattle.mt_arena.specs.Arena.{ArenaView}
use Rattle.mt_chart.specs.Steps.{SameContent}
use Rattle.mt_tree.specs.Seen.{arena_seen}
use Rattle.mt_steps.specs.declared.progress.Progress.{Progress}
use Rattle.mt_steps.specs.declared.progress.Progress.TheVariants.{Moved, Waits, Committed, Answered, Refused}
use Rattle.mt_steps.specs.Step.{StepLawIn, MayStepIn, IsQuiet}
use Rattle.mt_steps.specs.declared.reader.Reader.TheVariants.{Begins}
use Rattle.mt_steps.proofs.WayLemmas.{starts, starts_at_head}
use Rattle.mt_remove.specs.declared.noted.Came.TheVariants.{Head as FromHead}
use Rattle.mt_remove.specs.declared.stage.Stage.TheVariants.{Seeks}
use Rattle.mt_remove.specs.declared.tidy.Tidy.{Tidy}
use Rattle.mt_remove.specs.Tidy.{tidy_request, tidy_held, TidyTruth, NewTidyIsTrue, IsTidied, TidyLaw, MayTidy}

quiet : (a after : ArenaView) (log : LogView) → SameContent (arena_seen a) (arena_seen after) → IsQuiet a after log log
quiet a after log content = record { content = content; trimmed = refl; deltas = refl; rows = refl }

pub step_law : (C epoch : ℕ) (a after : ArenaView) (log : LogView) (tidy next : Tidy) (p : Progress) → IsTidied p → TidyLaw epoch a after tidy p next → StepLawIn epoch C a after log log (tidy_request tidy) (tidy_held tidy) p (tidy_held next) (TidyTruth tidy) (TidyTruth next)
step_law C epoch a after log tidy next Moved t law = record {
  steps = λ begun moves past w world before truth.
      let (goes, content) = law.steps begun w world before truth in
      record { goes = goes; does = (quiet a after log content, refl); reserved = refl; bounds = refl; blocked = inl refl; may = λ get. absurd (let clash : false ≡ true = get in cc) };
}
step_law C epoch a after log tidy next Waits t law = record {
  steps = λ begun moves past w world before truth.
      let (goes, content) = law.steps begun w world before truth in
      record { goes = goes; does = (quiet a after log content, refl); reserved = refl; bounds = refl; blocked = inl refl; may = tt };
}
step_law C epoch a after log tidy next (Answered (Tidied rule)) t law = record {
  steps = λ begun moves past w world before truth.
      let (goes, content) = law.steps begun w world before truth in
      record { goes = goes; does = (quiet a after log content, refl); reserved = refl; bounds = refl; blocked = tt; may = tt };
}
step_law C epoch a after log tidy next (Answered _) t law = absurd t
step_law C epoch a after log tidy next (Committed number) t law = absurd t
step_law C epoch a after log tidy next (Refused refusal) t law = absurd t

-- what a step asks
pub may_tidy : (epoch : ℕ) (a : ArenaView) (tidy : Tidy) → MayStepIn epoch a (TidyTruth tidy) → MayTidy epoch a tidy
may_tidy epoch a tidy may = record { begun = may.begun; w = may.w; world = may.world; true = may.true }

-- a tidy begins
pub begins : (key : List ℕ) → NewTidyIsTrue (record { key = key; way = record { node = record { 0 = 0 }; layer = 0 }; finding = Begins; stage = Seeks (record { head = record { 0 = 0 }; above = None; came = FromHead; lone = None; glance = None }) })
begins key a now begun w world = let there = starts a now w begun key world in (there, record { head = starts_at_head a now w begun world; above = tt; came = tt; lone = tt }, ([], there))
