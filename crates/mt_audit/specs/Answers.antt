-- What the words of an answer say.
use Rattle.std.specs.Prelude.{ℕ, ◌-◌, ◌^◌, if◌then◌else◌, List, codes, Option, Some, None}
use Rattle.std.specs.Str.{bytes_eq}
use Rattle.mt_types.specs.declared.event.Answer.{Answer}
use Rattle.mt_types.specs.declared.event.Answer.TheVariants.{Absent, Found, Stored, Removed, Rows, Tidied, Built}
use Rattle.mt_types.specs.declared.event.TidyRule.{TidyRule}
use Rattle.mt_types.specs.declared.event.TidyRule.TheVariants.{Nothing, EmptyBorder, LoneChild, LoneRootChild, EmptyLayer}
use Rattle.mt_types.specs.declared.view.Page.{Page}
use Rattle.mt_script.specs.Words.{◌>>=◌, word_at, number_of, each, parts}
use Rattle.mt_script.specs.Values.{row_of, rows_of}

-- VERSION VALUES
unfoldable pub found_of : List ℕ → Option Answer
found_of text = do
  row ← row_of 32 text
  Some (Found row)

-- N
unfoldable pub stored_of : List ℕ → Option Answer
stored_of text = do
  number ← number_of (2 ^ 64 - 1) text
  Some (Stored number)

-- N
unfoldable pub removed_of : List ℕ → Option Answer
removed_of text = do
  number ← number_of (2 ^ 64 - 1) text
  Some (Removed number)

-- K and K pairs
unfoldable pub listed_of : List ℕ → Option Answer
listed_of text = do
  pairs ← rows_of text
  Some (Rows pairs)

-- a, b, c, d or none
unfoldable pub rule_of : List ℕ → Option TidyRule
rule_of word =
    if bytes_eq word (codes "none") then Some Nothing
    else if bytes_eq word (codes "a") then Some EmptyBorder
    else if bytes_eq word (codes "b") then Some LoneChild
    else if bytes_eq word (codes "c") then Some LoneRootChild
    else if bytes_eq word (codes "d") then Some EmptyLayer
    else None

unfoldable pub tidied_of : List ℕ → Option Answer
tidied_of text = do
  rule ← rule_of text
  Some (Tidied rule)

-- VIEW
unfoldable pub built_of : List ℕ → Option Answer
built_of text = do
  view ← number_of (2 ^ 64 - 1) text
  Some (Built (record { 0 = view }))

-- by the first word, of no get, put, remove or range: tidied RULE or built VIEW
unfoldable pub upkeep_answer_of : List ℕ → List ℕ → Option Answer
upkeep_answer_of word text =
    if bytes_eq word (codes "tidied") then tidied_of text
    else if bytes_eq word (codes "built") then built_of text
    else None

-- of more than one word
unfoldable pub long_answer_of : List ℕ → Option Answer
long_answer_of text = do
  word ← word_at 32 text
  if bytes_eq word.0 (codes "row") then found_of word.1
      else if bytes_eq word.0 (codes "put") then stored_of word.1
      else if bytes_eq word.0 (codes "removed") then removed_of word.1
      else if bytes_eq word.0 (codes "rows") then listed_of word.1
      else upkeep_answer_of word.0 word.1

-- absent, row VERSION VALUES, put N, removed N, rows K and K pairs, tidied RULE or built VIEW
unfoldable pub answer_of : List ℕ → Option Answer
answer_of text = if bytes_eq text (codes "absent") then Some Absent else long_answer_of text

-- AT COUNT SUMS K and K pairs
unfoldable pub page_of : List ℕ → Option Page
page_of text = do
  at ← word_at 32 text
  number ← number_of (2 ^ 64 - 1) at.0
  count ← word_at 32 at.1
  rows ← number_of (2 ^ 64 - 1) count.0
  sums ← word_at 32 count.1
  amounts ← each (number_of (2 ^ 128 - 1)) (parts 44 sums.0)
  pairs ← rows_of sums.1
  Some (record { at = number; count = rows; sums = amounts; rows = pairs })

-- view AT COUNT SUMS K and K pairs
unfoldable pub shown_of : List ℕ → Option Page
shown_of text = do
  word ← word_at 32 text
  if bytes_eq word.0 (codes "view") then page_of word.1 else None
