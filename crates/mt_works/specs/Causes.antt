-- Why a call waits, fails or is refused: what a history doesn't show, of each kind of call.
use Rattle.mt_types.specs.declared.refusal.Refusal.{Refusal}
use Rattle.mt_commit.specs.Log.{LogView}
use Rattle.mt_arena.specs.Arena.{ArenaView}
use Rattle.mt_steps.specs.declared.progress.Progress.{Progress}
use Rattle.mt_steps.specs.declared.progress.Progress.TheVariants.{Refused}
use Rattle.mt_steps.specs.Causes.{ReadFails}
use Rattle.mt_write.specs.Causes.{WriteWaits, WriteFails}
use Rattle.mt_write.specs.Follows.{EndsRefused}
use Rattle.mt_remove.specs.Tidy.{IsTidied}
use Rattle.mt_remove.specs.Follows.{TidyWaits}
use Rattle.mt_steps.specs.Getting.{GetWaits}
use Rattle.mt_steps.specs.Ranging.{RangeWaits}
use Rattle.mt_works.specs.declared.work.Work.{Work}
use Rattle.mt_works.specs.declared.work.Work.TheVariants.{Get, Write, Range, Tidy, Build}
use Rattle.mt_works.specs.Building.{BuildWaits, BuildFails}

-- a get, range or build waits for what it has read of a border
abbrev pub WorkWaits : ArenaView → Work → Progress → Type 0
WorkWaits a (Get get) p = GetWaits a get p
WorkWaits a (Write write) p = WriteWaits a write p
WorkWaits a (Range range) p = RangeWaits a range p
WorkWaits a (Tidy tidy) p = TidyWaits a tidy p
WorkWaits a (Build building) p = BuildWaits a building p

abbrev pub WorkFails : ArenaView → LogView → Work → Progress → Work → Type 0
WorkFails a log (Get get) p new = ReadFails a get.way.node.0 p
WorkFails a log (Write write) p (Write new) = WriteFails a log write p new
WorkFails a log (Write write) p _ = ⊥
WorkFails a log (Range range) p new = ReadFails a range.node.0 p
WorkFails a log (Tidy tidy) p new = IsTidied p
WorkFails a log (Build building) p new = BuildFails a building p

-- a call is refused for this: a put or remove for what it had failed for, or for lack of memory if it gives back the
-- half of a split; a tidy never is
abbrev pub WorkRefuses : ArenaView → Work → Refusal → Type 0
WorkRefuses a (Get get) refusal = ReadFails a get.way.node.0 (Refused refusal)
WorkRefuses a (Write write) refusal = EndsRefused write.stage refusal
WorkRefuses a (Range range) refusal = ReadFails a range.node.0 (Refused refusal)
WorkRefuses a (Tidy tidy) refusal = ⊥
WorkRefuses a (Build building) refusal = BuildFails a building (Refused refusal)
