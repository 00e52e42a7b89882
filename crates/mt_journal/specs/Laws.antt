-- Laws of logs, each of them proved as the contract of a function of src/laws.rt.
use Rattle.std.specs.Prelude.{◌≡◌, ◌<◌, ◌≤◌, ◌++◌, ℕ, List, length}
use Rattle.mt_frame.specs.declared.entry.Entry.{Entry}
use Rattle.mt_frame.specs.declared.entry.LogHeader.{LogHeader}
use Rattle.mt_journal.specs.Log.{header_frame, log_spelling, IsLog, MaySay}

-- no bytes are two logs
abbrev pub LogsReadOneWay : Type 0
LogsReadOneWay =
    (header other : LogHeader) (entries others : List Entry) (bytes : List ℕ) → IsLog header entries bytes
    → IsLog other others bytes → (header ≡ other) × (entries ≡ others)

-- a log that begins with the frames of these entries has them
abbrev pub LogsHaveTheirFronts : Type 0
LogsHaveTheirFronts =
    (header : LogHeader) (first entries : List Entry) (bytes rest : List ℕ) → MaySay header first → IsLog header entries bytes
    → bytes ≡ log_spelling header first ++ rest → (more : List Entry) × (entries ≡ first ++ more)

-- the first frame of a log has 1 to 128 bytes
abbrev pub HeadersAreShort : Type 0
HeadersAreShort = (header : LogHeader) → (0 < length (header_frame header)) × (length (header_frame header) ≤ 128)
