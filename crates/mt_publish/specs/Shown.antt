-- What is shown: a state with the mark of the deltas that it took.
use Rattle.std.specs.Prelude.{List, [], ◌∷◌}
use Rattle.mt_types.specs.declared.row.Delta.{Delta}
use Rattle.mt_view.specs.State.{applied}
use Rattle.mt_publish.specs.declared.shown.Shown.{Shown}
use Rattle.mt_publish.specs.declared.shown.Step.{Step}
use Rattle.mt_publish.specs.declared.shown.Step.TheVariants.{Takes, Marks}
use Rattle.mt_publish.specs.Folds.{applied_all}

-- what is shown after a step
abbrev pub took : Shown → Step → Shown
took shown (Takes delta) = record { state = applied delta shown.state; mark = shown.mark }
took shown (Marks mark) = record { state = shown.state; mark = mark }

-- the deltas of the steps
abbrev pub deltas_in : List Step → List Delta
deltas_in [] = []
deltas_in (Takes delta ∷ steps) = delta ∷ deltas_in steps
deltas_in (Marks mark ∷ steps) = deltas_in steps

-- what is shown after a list of deltas, from what was shown first
abbrev pub shown_after : Shown → List Delta → Shown
shown_after opening list =
    record {
      state = applied_all opening.state list;
      mark = record { source = opening.mark.source; list = list };
    }
