-- The text of outcomes.
use Rattle.std.specs.Prelude.{ℕ, zero, suc, ◌==◌, if◌then◌else◌, List, [], ◌++◌, length, map, codes, decimal, Option, Some, None}
use Rattle.std.specs.List.{join_with_byte, flat_map}
use Rattle.hex.specs.Hex.{encode_lower}
use Rattle.mt_types.specs.declared.row.Row.{Row}
use Rattle.mt_types.specs.declared.row.Delta.{Delta}
use Rattle.mt_types.specs.declared.view.RowTest.{RowTest}
use Rattle.mt_types.specs.declared.view.RowTest.TheVariants as tests
use Rattle.mt_types.specs.declared.view.ViewSpec.{ViewSpec}
use Rattle.mt_types.specs.declared.view.ViewSpec.TheVariants as views
use Rattle.mt_types.specs.declared.event.Request.{Request}
use Rattle.mt_types.specs.declared.event.Request.TheVariants as requests
use Rattle.mt_types.specs.declared.event.Answer.{Answer}
use Rattle.mt_types.specs.declared.event.Answer.TheVariants.{Absent, Found, Stored, Removed, Rows, Tidied, Built}
use Rattle.mt_types.specs.declared.event.TidyRule.{TidyRule}
use Rattle.mt_types.specs.declared.event.TidyRule.TheVariants as rules
use Rattle.mt_types.specs.declared.refusal.Refusal.{Refusal}
use Rattle.mt_types.specs.RefusalNumbers.{refusal_number, refusal_detail}
use Rattle.mt_types.specs.declared.event.Outcome.{Outcome}
use Rattle.mt_types.specs.declared.event.Outcome.TheVariants.{Call, Moved, Again, Commit, Done, Applied, Current, View, Dropped, Epoch, Freed, Refused}

-- hex of lower case, or `-` for no bytes
abbrev pub bytes_text : List ℕ → List ℕ
bytes_text bytes = if length bytes == 0 then codes "-" else encode_lower bytes

abbrev pub comma_before : ℕ → List ℕ
comma_before zero = []
comma_before (suc place) = codes ","

-- columns joined by commas
abbrev pub values_text : List (List ℕ) → List ℕ
values_text columns = join_with_byte 44 (map bytes_text columns)

-- a space and KEY:VERSION:VALUES
unfoldable pub row_text : List ℕ × Row → List ℕ
row_text pair = codes " " ++ bytes_text pair.0 ++ (codes ":" ++ decimal pair.1.version ++ codes ":") ++ values_text pair.1.columns

-- how many, and then each
abbrev pub rows_text : List (List ℕ × Row) → List ℕ
rows_text pairs = decimal (length pairs) ++ flat_map row_text pairs

abbrev pub sums_text : List ℕ → List ℕ
sums_text sums = join_with_byte 44 (map decimal sums)

abbrev pub rule_text : TidyRule → List ℕ
rule_text rules.Nothing = codes "none"
rule_text rules.EmptyBorder = codes "a"
rule_text rules.LoneChild = codes "b"
rule_text rules.LoneRootChild = codes "c"
rule_text rules.EmptyLayer = codes "d"

abbrev pub answer_text : Answer → List ℕ
answer_text Absent = codes "absent"
answer_text (Found row) = codes "row " ++ decimal row.version ++ codes " " ++ values_text row.columns
answer_text (Stored number) = codes "put " ++ decimal number
answer_text (Removed number) = codes "removed " ++ decimal number
answer_text (Rows pairs) = codes "rows " ++ rows_text pairs
answer_text (Tidied rule) = codes "tidied " ++ rule_text rule
answer_text (Built view) = codes "built " ++ decimal view.0

-- the number of a commit that a refusal says after its own number
abbrev pub detail_text : Option ℕ → List ℕ
detail_text None = []
detail_text (Some at) = codes " " ++ decimal at

abbrev pub refusal_text : Refusal → List ℕ
refusal_text refusal = codes "refused " ++ decimal (refusal_number refusal) ++ detail_text (refusal_detail refusal)

-- without the line feed at its end
abbrev pub outcome_text : Outcome → List ℕ
outcome_text (Call call) = codes "call " ++ decimal call.0
outcome_text Moved = codes "moved"
outcome_text Again = codes "again"
outcome_text (Commit number) = codes "commit " ++ decimal number
outcome_text (Done reply) = codes "done " ++ decimal reply.from ++ codes " " ++ decimal reply.to ++ codes " " ++ answer_text reply.answer
outcome_text (Applied number) = codes "applied " ++ decimal number
outcome_text Current = codes "current"
outcome_text (View page) =
    codes "view " ++ decimal page.at ++ codes " " ++ decimal page.count ++ codes " " ++ sums_text page.sums ++ codes " " ++ rows_text page.rows
outcome_text Dropped = codes "dropped"
outcome_text (Epoch number) = codes "epoch " ++ decimal number
outcome_text (Freed count) = codes "freed " ++ decimal count
outcome_text (Refused refusal) = refusal_text refusal

-- VERSION:VALUES, or none
unfoldable pub row_or_none : Option Row → List ℕ
row_or_none None = codes "none"
row_or_none (Some row) = decimal row.version ++ codes ":" ++ values_text row.columns

-- delta N KEY BEFORE AFTER
abbrev pub delta_text : Delta → List ℕ
delta_text delta =
    codes "delta " ++ decimal delta.number ++ codes " " ++ bytes_text delta.key ++ codes " " ++ row_or_none delta.before ++ codes " " ++ row_or_none delta.after

-- numbers of columns joined by commas, or all for none
unfoldable pub columns_text : List ℕ → List ℕ
columns_text columns = if length columns == 0 then codes "all" else join_with_byte 44 (map decimal columns)

-- COL=BYTES
unfoldable pub set_text : ℕ × List ℕ → List ℕ
set_text set = decimal set.0 ++ codes "=" ++ bytes_text set.1

-- sets joined by commas, or `-` for none
unfoldable pub sets_text : List (ℕ × List ℕ) → List ℕ
sets_text sets = if length sets == 0 then codes "-" else join_with_byte 44 (map set_text sets)

abbrev pub test_text : RowTest → List ℕ
test_text tests.Any = codes "any"
test_text (tests.Equals column bytes) = codes "equals " ++ decimal column ++ codes " " ++ bytes_text bytes
test_text (tests.AtLeast column least) = codes "atleast " ++ decimal column ++ codes " " ++ decimal least

-- the key before which a range ends, or none
unfoldable pub end_text : Option (List ℕ) → List ℕ
end_text None = codes "none"
end_text (Some hi) = bytes_text hi

abbrev pub spec_text : ViewSpec → List ℕ
spec_text (views.Range lo hi test) = codes "range " ++ bytes_text lo ++ codes " " ++ end_text hi ++ codes " " ++ test_text test
spec_text (views.Prefix key test) = codes "prefix " ++ bytes_text key ++ codes " " ++ test_text test

abbrev pub request_text : Request → List ℕ
request_text (requests.Get key columns) = codes "get " ++ bytes_text key ++ codes " " ++ columns_text columns
request_text (requests.Put key sets) = codes "put " ++ bytes_text key ++ codes " " ++ sets_text sets
request_text (requests.PutIf key sets version) =
    codes "putif " ++ bytes_text key ++ (codes " " ++ decimal version ++ codes " ") ++ sets_text sets
request_text (requests.Remove key) = codes "remove " ++ bytes_text key
request_text (requests.Range start limit columns) =
    codes "range " ++ bytes_text start ++ (codes " " ++ decimal limit ++ codes " ") ++ columns_text columns
request_text (requests.Tidy key) = codes "tidy " ++ bytes_text key
request_text (requests.Build spec) = codes "build " ++ spec_text spec
