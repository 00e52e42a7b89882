-- What is read of a shared index at one moment.
use Rattle.std.specs.Prelude.{◌≡◌, ◌+◌, ℕ, List, [], length, take, drop}
use Rattle.mt_types.specs.declared.limits.TheConstants.{MAX_RANGE}
use Rattle.mt_types.specs.declared.row.Delta.{Delta}
use Rattle.mt_frame.specs.declared.entry.Part.{Part}
use Rattle.mt_promise.specs.Alone.{IsRangeOfMap}
use Rattle.mt_promise.specs.History.{History, moment, rows}
use Rattle.mt_commit.specs.Log.{newest}
use Rattle.mt_commit.specs.Logged.{deltas_of}
use Rattle.mt_folder_log.specs.declared.checkpoint.TheConstants.{PART}
use Rattle.mt_index.specs.Stands.{MachineView, Stands}
use Rattle.mt_logger.specs.declared.reading.Lacking.{Lacking}

-- these are the commits of an index after the first `from`, all of them, as it has them at some moment; and the rows are the first
-- from a key on, at most PART, as it has them then
pub record AreOfMoment (from : ℕ) (start : List ℕ) (deltas : List Delta) (part : Part) : Type 0 where
  pub m : MachineView
  pub is : (h : History) × Stands m h
  pub deltas_are : (h : History) → Stands m h → deltas ≡ take MAX_RANGE (drop from (deltas_of m.columns (moment h).commits))
  pub all : newest m.log ≡ from + length deltas
  pub at : part.at ≡ newest m.log
  pub rows_are : (h : History) → Stands m h → IsRangeOfMap (rows m.columns (moment h)) [] start PART part.rows

abbrev pub IsOfMoment : ℕ → List ℕ → Lacking → Type 0
IsOfMoment from start read = AreOfMoment from start read.deltas.items read.part
