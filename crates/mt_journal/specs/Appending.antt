-- What is appended to a journal.
use Rattle.std.specs.Prelude.{ℕ, ◌+◌, List, [], ◌∷◌, ◌++◌}
use Rattle.mt_frame.specs.declared.entry.Entry.{Entry}
use Rattle.mt_frame.specs.declared.entry.Entry.TheVariants.{Commits as Group, Rows, Sealed, Closed}
use Rattle.mt_frame.specs.declared.entry.Part.{Part}
use Rattle.mt_frame.specs.declared.entry.Record.{Record}
use Rattle.mt_journal.specs.declared.position.Position.{Position}

-- the next commits
abbrev pub with_commits : Position → List Record → List Entry → List Entry
with_commits at records entries =
    entries ++ Group (record { first = at.newest + 1; durable = at.durable; records = records }) ∷ []

-- rows of a checkpoint
abbrev pub with_part : Part → List Entry → List Entry
with_part part entries = entries ++ Rows part ∷ []

-- the end of a checkpoint of this many rows
abbrev pub with_seal : ℕ → List Entry → List Entry
with_seal rows entries = entries ++ Sealed rows ∷ []

-- the end of a log that was closed
abbrev pub with_end : Position → List Entry → List Entry
with_end at entries = entries ++ Closed at.newest ∷ []
