-- Which entries have a frame.
use Rattle.std.specs.Prelude.{ℕ, ◌<◌, ◌≤◌, ◌^◌, List, length}
use Rattle.std.specs.List.{AllByRecursion}
use Rattle.mt_types.specs.Packed.{ArePackable}
use Rattle.mt_types.specs.declared.row.Row.{Row as RowOf}
use Rattle.mt_types.specs.declared.limits.TheConstants.{MAX_KEY_BYTES}
use Rattle.mt_frame.specs.declared.limits.TheConstants.{MAX_TEXT_BYTES, MAX_RECORDS}
use Rattle.mt_frame.specs.declared.entry.Entry.{Entry}
use Rattle.mt_frame.specs.declared.entry.Entry.TheVariants.{Header, Commits as Group, Rows, Sealed, Closed}
use Rattle.mt_frame.specs.declared.entry.LogHeader.{LogHeader}
use Rattle.mt_frame.specs.declared.entry.Commits.{Commits}
use Rattle.mt_frame.specs.declared.entry.Part.{Part}
use Rattle.mt_frame.specs.declared.entry.Record.{Record}
use Rattle.mt_frame.specs.declared.entry.Record.TheVariants.{Row, Removed}
use Rattle.mt_frame.specs.Spelling.{text_of}

-- the key and the columns are ones that a row may have: each record of the code is so
abbrev pub RecordFits : Record → Type 0
RecordFits (Row key columns) = (length key ≤ MAX_KEY_BYTES) × ArePackable columns
RecordFits (Removed key) = length key ≤ MAX_KEY_BYTES

abbrev pub HeaderFits : LogHeader → Type 0
HeaderFits header = (header.generation < 2 ^ 64) × (header.base < 2 ^ 64) × (header.run < 2 ^ 64)

abbrev pub CommitsFit : Commits → Type 0
CommitsFit commits =
    (commits.first < 2 ^ 64) × (commits.durable < 2 ^ 64)
    × ((length commits.records ≤ MAX_RECORDS) × AllByRecursion RecordFits commits.records)

abbrev pub RowFits : RowOf → Type 0
RowFits row = (row.version < 2 ^ 64) × ArePackable row.columns

abbrev pub PairFits : List ℕ × RowOf → Type 0
PairFits pair = (length pair.0 ≤ MAX_KEY_BYTES) × RowFits pair.1

abbrev pub PartFits : Part → Type 0
PartFits part =
    (part.at < 2 ^ 64) × ((length part.rows ≤ MAX_RECORDS) × AllByRecursion PairFits part.rows)

-- there are at most MAX_RECORDS records or rows: the types keep the rest of what EntryFits says
abbrev pub CountFits : Entry → Type 0
CountFits (Header header) = Unit {0}
CountFits (Group commits) = length commits.records ≤ MAX_RECORDS
CountFits (Rows part) = length part.rows ≤ MAX_RECORDS
CountFits (Sealed count) = Unit {0}
CountFits (Closed number) = Unit {0}

-- each number and each length fits its field
abbrev pub EntryFits : Entry → Type 0
EntryFits (Header header) = HeaderFits header
EntryFits (Group commits) = CommitsFit commits
EntryFits (Rows part) = PartFits part
EntryFits (Sealed count) = count < 2 ^ 64
EntryFits (Closed number) = number < 2 ^ 64

-- the entry has a frame at this place
abbrev pub HasFrame : ℕ → ℕ → Entry → Type 0
HasFrame generation place entry = EntryFits entry × (length (text_of generation place entry) ≤ MAX_TEXT_BYTES)
