-- A line that reads of one moment: what its words say, its text, and what it is answered.
use Rattle.std.specs.Prelude.{ℕ, ◌≡◌, ◌⊎◌, ◌<◌, ◌-◌, ◌^◌, if◌then◌else◌, List, ◌++◌, length, codes, decimal, Option, Some, None}
use Rattle.std.specs.List.{flat_map}
use Rattle.std.specs.Str.{bytes_eq}
use Rattle.mt_types.specs.declared.refusal.Refusal.{Refusal}
use Rattle.mt_types.specs.declared.refusal.Refusal.TheVariants.{NoMemory}
use Rattle.mt_types.specs.declared.row.Row.{Row}
use Rattle.mt_promise.specs.History.{History, moment, rows}
use Rattle.mt_reads.specs.Quiet.{IsQuietAnswer, quiet_fault}
use Rattle.mt_reads.specs.declared.quiet.QuietRead.{QuietRead}
use Rattle.mt_reads.specs.declared.quiet.QuietRead.TheVariants.{Gets, RangeBack, Count}
use Rattle.mt_reads.specs.declared.quiet.QuietAnswer.{QuietAnswer}
use Rattle.mt_reads.specs.declared.quiet.QuietAnswer.TheVariants as answers
use Rattle.mt_script.specs.Reading.{columns_of, end_of}
use Rattle.mt_script.specs.Showing.{row_or_none, rows_text}
use Rattle.mt_script.specs.Words.{◌>>=◌, word_at, number_of, bytes_of, each, parts}

-- KEYS COLS, the keys joined by commas
unfoldable pub gets_of : List ℕ → Option QuietRead
gets_of text = do
  keys ← word_at 32 text
  bytes ← each bytes_of (parts 44 keys.0)
  columns ← columns_of keys.1
  Some (Gets bytes columns)

-- END LIMIT COLS
unfoldable pub back_of : List ℕ → Option QuietRead
back_of text = do
  end ← word_at 32 text
  before ← end_of end.0
  limit ← word_at 32 end.1
  most ← number_of 65535 limit.0
  columns ← columns_of limit.1
  Some (RangeBack before most columns)

-- START END MOST
unfoldable pub count_of : List ℕ → Option QuietRead
count_of text = do
  start ← word_at 32 text
  from ← bytes_of start.0
  end ← word_at 32 start.1
  to ← end_of end.0
  most ← number_of (2 ^ 32 - 1) end.1
  Some (Count from to most)

-- gets KEYS COLS, back END LIMIT COLS or count START END MOST
unfoldable pub read_of : List ℕ → List ℕ → Option QuietRead
read_of word text =
    if bytes_eq word (codes "gets") then gets_of text
    else if bytes_eq word (codes "back") then back_of text
    else if bytes_eq word (codes "count") then count_of text
    else None

-- a space and VERSION:VALUES, or none
abbrev pub found_text : Option Row → List ℕ
found_text row = codes " " ++ row_or_none row

abbrev pub quiet_text : QuietAnswer → List ℕ
quiet_text (answers.Rows found) = codes "found " ++ decimal (length found) ++ flat_map found_text found
quiet_text (answers.Pairs pairs) = codes "rows " ++ rows_text pairs
quiet_text (answers.Count count) = codes "count " ++ decimal count

-- what it is answered after this past: what a map of the rows answers; or why it is refused
abbrev pub IsReadSo : ℕ → QuietRead → History → QuietAnswer → Type 0
IsReadSo C read past answer = (quiet_fault C read ≡ None) × IsQuietAnswer (rows C (moment past)) read answer

abbrev pub IsNotRead : ℕ → QuietRead → Refusal → Type 0
IsNotRead C read refusal =
    (quiet_fault C read ≡ Some refusal) ⊎ ((quiet_fault C read ≡ None) × (refusal ≡ NoMemory))
