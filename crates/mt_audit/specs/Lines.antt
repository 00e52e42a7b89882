-- What a line of an audit says: a delta of the log, or a receipt.
use Rattle.std.specs.Prelude.{ℕ, ◌-◌, ◌^◌, nat_lt, Bool, false, not, ◌&&◌, ◌==◌, if◌then◌else◌, List, [], length, codes, Option, Some, None}
use Rattle.std.specs.List.{list_any}
use Rattle.std.specs.Option.{is_none}
use Rattle.std.specs.Str.{bytes_eq}
use Rattle.mt_types.specs.Limits.{request_fault, spec_fault, page_fault}
use Rattle.mt_types.specs.declared.limits.TheConstants.{MAX_COLUMN_BYTES}
use Rattle.mt_types.specs.declared.row.Row.{Row}
use Rattle.mt_types.specs.declared.row.Delta.{Delta}
use Rattle.mt_types.specs.declared.event.Request.{Request}
use Rattle.mt_types.specs.declared.event.Request.TheVariants.{Tidy, Build}
use Rattle.mt_check.specs.declared.receipt.Receipt.{Receipt}
use Rattle.mt_check.specs.declared.receipt.Receipt.TheVariants.{Call, Page}
use Rattle.mt_script.specs.Words.{◌>>=◌, word_at, last_word_at, number_of, bytes_of}
use Rattle.mt_script.specs.Values.{key_of, row_of}
use Rattle.mt_script.specs.Reading.{request_of, spec_of}
use Rattle.mt_audit.specs.Answers.{answer_of, shown_of}
use Rattle.mt_audit.specs.declared.line.Line.{Line}
use Rattle.mt_audit.specs.declared.line.Line.TheVariants.{Logged, Kept}

-- all C columns, none of them too long
abbrev pub is_whole : ℕ → Row → Bool
is_whole C row =
    length row.columns == C && not (list_any (λ bytes. nat_lt MAX_COLUMN_BYTES (length bytes)) row.columns)

-- VERSION:VALUES of all C columns
unfoldable pub whole_row_of : ℕ → List ℕ → Option Row
whole_row_of C word = do
  row ← row_of 58 word
  if is_whole C row then Some row else None

-- a row, or none
unfoldable pub state_of : ℕ → List ℕ → Option (Option Row)
state_of C word =
    if bytes_eq word (codes "none") then Some None else (whole_row_of C word >>= λ row. Some (Some row))

-- N KEY BEFORE AFTER
unfoldable pub delta_of : ℕ → List ℕ → Option Delta
delta_of C text = do
  word ← word_at 32 text
  number ← number_of (2 ^ 64 - 1) word.0
  name ← word_at 32 word.1
  key ← key_of name.0
  rows ← word_at 32 name.1
  before ← state_of C rows.0
  after ← state_of C rows.1
  Some (record { number = number; key = key; before = before; after = after })

-- what stands before and after the words' arrow, ` => `: nothing else in a receipt has a `>`
unfoldable pub around_arrow : List ℕ → Option (List ℕ × List ℕ)
around_arrow text = do
  tip ← word_at 62 text
  asked ← last_word_at 32 tip.0
  given ← word_at 32 tip.1
  if bytes_eq asked.1 (codes "=") && bytes_eq given.0 [] then Some (asked.0, given.1) else None

-- REQUEST, and then its answer
unfoldable pub call_of : ℕ → ℕ → List ℕ → List ℕ → Option Receipt
call_of from to asked given = do
  request ← request_of asked
  answer ← answer_of given
  Some (Call request answer from to)

-- SPEC FLOOR START LIMIT, and then what was shown
unfoldable pub page_receipt_of : ℕ → ℕ → List ℕ → List ℕ → Option Receipt
page_receipt_of from to asked given = do
  limit ← last_word_at 32 asked
  most ← number_of 65535 limit.1
  start ← last_word_at 32 limit.0
  bytes ← bytes_of start.1
  floor ← last_word_at 32 start.0
  least ← number_of (2 ^ 64 - 1) floor.1
  spec ← spec_of floor.0
  page ← shown_of given
  Some (Page spec least bytes most page from to)

-- a page is asked for by view SPEC FLOOR START LIMIT; anything else is a request
unfoldable pub asked_of : ℕ → ℕ → List ℕ → List ℕ → Option Receipt
asked_of from to asked given = do
  word ← word_at 32 asked
  if bytes_eq word.0 (codes "view") then page_receipt_of from to word.1 given else call_of from to asked given

-- FROM TO REQUEST => ANSWER
unfoldable pub said_of : List ℕ → Option Receipt
said_of text = do
  first ← word_at 32 text
  from ← number_of (2 ^ 64 - 1) first.0
  last ← word_at 32 first.1
  to ← number_of (2 ^ 64 - 1) last.0
  sides ← around_arrow last.1
  asked_of from to sides.0 sides.1

-- no tidy and no build
abbrev pub gives_receipt : Request → Bool
gives_receipt (Tidy key) = false
gives_receipt (Build spec) = false
gives_receipt _ = not false

-- what was asked for is of such a call, and breaks no limit
abbrev pub is_asked : ℕ → Receipt → Bool
is_asked C (Call request answer from to) = gives_receipt request && is_none (request_fault C request)
is_asked C (Page spec floor start limit page from to) = is_none (spec_fault C spec) && is_none (page_fault start limit)

unfoldable pub receipt_of : ℕ → List ℕ → Option Receipt
receipt_of C text = do
  receipt ← said_of text
  if is_asked C receipt then Some receipt else None

unfoldable pub logged_of : ℕ → List ℕ → Option Line
logged_of C text = do
  delta ← delta_of C text
  Some (Logged delta)

unfoldable pub kept_of : ℕ → List ℕ → Option Line
kept_of C text = do
  receipt ← receipt_of C text
  Some (Kept receipt)

-- delta N KEY BEFORE AFTER or receipt FROM TO REQUEST => ANSWER, of an index of C columns
unfoldable pub line_of : ℕ → List ℕ → Option Line
line_of C line = do
  word ← word_at 32 line
  if bytes_eq word.0 (codes "delta") then logged_of C word.1
      else if bytes_eq word.0 (codes "receipt") then kept_of C word.1
      else None
