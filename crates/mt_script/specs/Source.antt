-- What a source of lines shows.
use Rattle.std.specs.Prelude.{ℕ, ◌+◌, ◌*◌, Bool, List, length, drop, Option}
use Rattle.std.specs.Io.KnownBytes.{prepend_known}
use Rattle.mt_streams.specs.Readers.{counted_reader, calls_left, has_failed}
use Rattle.mt_script.specs.declared.source.TheConstants.{PIECE}
use Rattle.mt_script.specs.declared.source.Source.{Source}

-- the bytes that were read and are not taken yet
abbrev pub source_kept : {R : Type 0} → Source R → List ℕ
source_kept s = drop s.taken s.piece.items

-- the bytes that its reader still has, if they are known
abbrev pub source_unread : {R : Type 0} → (R → Option (List ℕ)) → Source R → Option (List ℕ)
source_unread remaining s = remaining (counted_reader s.reader)

-- all bytes that were not returned in lines yet
abbrev pub source_rest : {R : Type 0} → (R → Option (List ℕ)) → Source R → Option (List ℕ)
source_rest remaining s = prepend_known (source_kept s) (source_unread remaining s)

-- how often its reader may still be called
abbrev pub reads_left : {R : Type 0} → Source R → ℕ
reads_left s = calls_left s.reader

-- how many lines it still returns at most: each takes at least one byte that is kept or may still be read
abbrev pub lines_left : {R : Type 0} → Source R → ℕ
lines_left s = length (source_kept s) + PIECE * calls_left s.reader

-- whether its last read failed: its reader's own call, or one past the most
abbrev pub read_failed : {R : Type 0} → Source R → Bool
read_failed s = has_failed s.reader
