-- What the words of a request and of a view's specification say.
use Rattle.std.specs.Prelude.{ℕ, ◌-◌, ◌^◌, if◌then◌else◌, List, [], codes, Option, Some, None}
use Rattle.std.specs.Str.{bytes_eq}
use Rattle.mt_types.specs.declared.event.Request.{Request}
use Rattle.mt_types.specs.declared.event.Request.TheVariants.{Get, Put, PutIf, Remove, Range, Tidy, Build}
use Rattle.mt_types.specs.declared.view.RowTest.{RowTest}
use Rattle.mt_types.specs.declared.view.RowTest.TheVariants.{Any, Equals, AtLeast}
use Rattle.mt_types.specs.declared.view.ViewSpec.{ViewSpec}
use Rattle.mt_types.specs.declared.view.ViewSpec.TheVariants.{Range as RangeOf, Prefix as PrefixOf}
use Rattle.mt_script.specs.Words.{◌>>=◌, word_at, number_of, bytes_of, each, parts}

-- `all`, which asks for none by name, or numbers joined by commas
unfoldable pub columns_of : List ℕ → Option (List ℕ)
columns_of text = if bytes_eq text (codes "all") then Some [] else each (number_of 255) (parts 44 text)

-- COL=BYTES
unfoldable pub set_of : List ℕ → Option (ℕ × List ℕ)
set_of text = do
  x ← word_at 61 text
  column ← number_of 255 x.0
  bytes ← bytes_of x.1
  Some (column, bytes)

-- `-` for none, or COL=BYTES joined by commas
unfoldable pub sets_of : List ℕ → Option (List (ℕ × List ℕ))
sets_of text = if bytes_eq text (codes "-") then Some [] else each set_of (parts 44 text)

-- KEY COLS
unfoldable pub get_of : List ℕ → Option Request
get_of text = do
  key ← word_at 32 text
  bytes ← bytes_of key.0
  columns ← columns_of key.1
  Some (Get bytes columns)

-- KEY SETS
unfoldable pub put_of : List ℕ → Option Request
put_of text = do
  key ← word_at 32 text
  bytes ← bytes_of key.0
  sets ← sets_of key.1
  Some (Put bytes sets)

-- KEY VERSION SETS
unfoldable pub put_if_of : List ℕ → Option Request
put_if_of text = do
  key ← word_at 32 text
  bytes ← bytes_of key.0
  version ← word_at 32 key.1
  number ← number_of (2 ^ 64 - 1) version.0
  sets ← sets_of version.1
  Some (PutIf bytes sets number)

-- KEY
unfoldable pub remove_of : List ℕ → Option Request
remove_of text = do
  bytes ← bytes_of text
  Some (Remove bytes)

-- START LIMIT COLS
unfoldable pub range_of : List ℕ → Option Request
range_of text = do
  start ← word_at 32 text
  bytes ← bytes_of start.0
  limit ← word_at 32 start.1
  most ← number_of 65535 limit.0
  columns ← columns_of limit.1
  Some (Range bytes most columns)

-- KEY
unfoldable pub tidy_of : List ℕ → Option Request
tidy_of text = do
  bytes ← bytes_of text
  Some (Tidy bytes)

-- COL BYTES
unfoldable pub equals_of : List ℕ → Option RowTest
equals_of text = do
  column ← word_at 32 text
  number ← number_of 255 column.0
  bytes ← bytes_of column.1
  Some (Equals number bytes)

-- COL NUMBER
unfoldable pub at_least_of : List ℕ → Option RowTest
at_least_of text = do
  column ← word_at 32 text
  number ← number_of 255 column.0
  least ← number_of (2 ^ 64 - 1) column.1
  Some (AtLeast number least)

-- equals COL BYTES or atleast COL NUMBER
unfoldable pub column_test_of : List ℕ → Option RowTest
column_test_of text = do
  word ← word_at 32 text
  if bytes_eq word.0 (codes "equals") then equals_of word.1
      else if bytes_eq word.0 (codes "atleast") then at_least_of word.1
      else None

-- any, equals COL BYTES or atleast COL NUMBER
unfoldable pub test_of : List ℕ → Option RowTest
test_of text = if bytes_eq text (codes "any") then Some Any else column_test_of text

-- none, or a key
unfoldable pub end_of : List ℕ → Option (Option (List ℕ))
end_of word = if bytes_eq word (codes "none") then Some None else (bytes_of word >>= λ bytes. Some (Some bytes))

-- LO HI TEST
unfoldable pub keys_of : List ℕ → Option ViewSpec
keys_of text = do
  lo ← word_at 32 text
  low ← bytes_of lo.0
  hi ← word_at 32 lo.1
  high ← end_of hi.0
  test ← test_of hi.1
  Some (RangeOf low high test)

-- KEY TEST
unfoldable pub prefix_of : List ℕ → Option ViewSpec
prefix_of text = do
  key ← word_at 32 text
  bytes ← bytes_of key.0
  test ← test_of key.1
  Some (PrefixOf bytes test)

-- range LO HI TEST or prefix KEY TEST
unfoldable pub spec_of : List ℕ → Option ViewSpec
spec_of text = do
  word ← word_at 32 text
  if bytes_eq word.0 (codes "range") then keys_of word.1
      else if bytes_eq word.0 (codes "prefix") then prefix_of word.1
      else None

-- SPEC
unfoldable pub build_of : List ℕ → Option Request
build_of text = do
  spec ← spec_of text
  Some (Build spec)

-- what no get, put, remove or range asks for: tidy KEY or build SPEC
unfoldable pub upkeep_of : List ℕ → List ℕ → Option Request
upkeep_of word text =
    if bytes_eq word (codes "tidy") then tidy_of text
    else if bytes_eq word (codes "build") then build_of text
    else None

-- get KEY COLS, put KEY SETS, putif KEY VERSION SETS, remove KEY, range START LIMIT COLS, tidy KEY or build SPEC
unfoldable pub request_of : List ℕ → Option Request
request_of text = do
  word ← word_at 32 text
  if bytes_eq word.0 (codes "get") then get_of word.1
      else if bytes_eq word.0 (codes "put") then put_of word.1
      else if bytes_eq word.0 (codes "putif") then put_if_of word.1
      else if bytes_eq word.0 (codes "remove") then remove_of word.1
      else if bytes_eq word.0 (codes "range") then range_of word.1
      else upkeep_of word.0 word.1
