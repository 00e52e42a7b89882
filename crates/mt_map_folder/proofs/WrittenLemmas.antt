-- The entries of a log with the commits that come next: a crash leaves each durable commit, whether they were written or not.
use Rattle.std.proofs.Common.{ℕ, ◌+◌, List, [], ◌∷◌}
use Rattle.mt_frame.specs.declared.entry.Entry.{Entry}
use Rattle.mt_frame.specs.declared.entry.Entry.TheVariants.{Commits as Group}
use Rattle.mt_frame.specs.declared.entry.LogHeader.{LogHeader}
use Rattle.mt_frame.specs.declared.entry.Record.{Record}
use Rattle.mt_journal.specs.declared.position.Position.{Position}
use Rattle.mt_journal.specs.Keeping.{AllSurvive}
use Rattle.mt_journal.proofs.Kept.{survive_more}
use Rattle.mt_map_folder.specs.Written.{entries_with}

pub survive_with : (at : Position) (header : LogHeader) (entries : List Entry) (records : List Record) (durable : ℕ) (may : List ℕ → Type 0)
    → AllSurvive header entries durable may → AllSurvive header (entries_with at records entries) durable may
survive_with at header entries [] durable may all = all
survive_with at header entries (first ∷ more) durable may all =
    survive_more header entries (Group (record { first = at.newest + 1; durable = at.durable; records = first ∷ more }) ∷ []) durable may all
