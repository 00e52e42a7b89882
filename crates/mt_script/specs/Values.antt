-- What the words of rows with their keys say.
use Rattle.std.specs.Prelude.{ℕ, ◌-◌, ◌^◌, nat_le, ◌==◌, if◌then◌else◌, List, [], length, Option, Some, None}
use Rattle.mt_types.specs.declared.limits.TheConstants.{MAX_KEY_BYTES}
use Rattle.mt_types.specs.Packed.{are_packable}
use Rattle.mt_types.specs.declared.row.Row.{Row}
use Rattle.mt_script.specs.Words.{◌>>=◌, word_at, number_of, bytes_of, each, parts}

-- a key of an index
unfoldable pub key_of : List ℕ → Option (List ℕ)
key_of word = do
  bytes ← bytes_of word
  if nat_le (length bytes) MAX_KEY_BYTES then Some bytes else None

-- columns joined by commas: at most 255, of at most 255 bytes, as many as a row can have
unfoldable pub values_of : List ℕ → Option (List (List ℕ))
values_of text = do
  columns ← each bytes_of (parts 44 text)
  if are_packable columns then Some columns else None

-- VERSION, a stop and VALUES
unfoldable pub row_of : ℕ → List ℕ → Option Row
row_of stop text = do
  word ← word_at stop text
  version ← number_of (2 ^ 64 - 1) word.0
  columns ← values_of word.1
  Some (record { version = version; columns = columns })

-- KEY:VERSION:VALUES
unfoldable pub pair_of : List ℕ → Option (List ℕ × Row)
pair_of text = do
  word ← word_at 58 text
  key ← key_of word.0
  row ← row_of 58 word.1
  Some (key, row)

-- the number of pairs, which is 0
unfoldable pub no_rows_of : List ℕ → Option (List (List ℕ × Row))
no_rows_of text = do
  count ← number_of (2 ^ 64 - 1) text
  if count == 0 then Some [] else None

-- the number of pairs, and then this many pairs
unfoldable pub some_rows_of : List ℕ → List ℕ → Option (List (List ℕ × Row))
some_rows_of word text = do
  count ← number_of (2 ^ 64 - 1) word
  pairs ← each pair_of (parts 32 text)
  if length pairs == count then Some pairs else None

-- K and K pairs, each after a space
abbrev pub rows_in : List ℕ → Option (List ℕ × List ℕ) → Option (List (List ℕ × Row))
rows_in text None = no_rows_of text
rows_in text (Some word) = some_rows_of word.0 word.1

abbrev pub rows_of : List ℕ → Option (List (List ℕ × Row))
rows_of text = rows_in text (word_at 32 text)
