-- How long the spelling of an answer is at most, if the answer keeps the limits of an index.
use Rattle.std.proofs.Common.{ℕ, ◌*◌, ◌≤◌, ◌++◌, List, [], ◌∷◌, length, Option, Some, None, true, false, All, arith, length-append}
use Rattle.std.specs.Prelude.{IfSome}
use Rattle.std.specs.List.{AllByRecursion, flat_map}
use Rattle.std.specs.Int.{w64, to_be_bytes}
use Rattle.std.proofs.lemmas.List.Elements.{All-nil, All-cons}
use Rattle.std.proofs.lemmas.List.Concat.{length-flat_map}
use Rattle.std.proofs.lemmas.List.Sums.{sum_by-le}
use Rattle.mt_types.specs.declared.row.Row.{Row}
use Rattle.mt_types.specs.declared.limits.TheConstants.{MAX_COLUMN_BYTES}
use Rattle.mt_types.specs.declared.view.ViewSpec.{ViewSpec}
use Rattle.mt_types.specs.declared.view.ViewSpec.TheVariants.{Range as RangeOf, Prefix as PrefixOf}
use Rattle.mt_types.specs.declared.view.RowTest.{RowTest}
use Rattle.mt_types.specs.declared.view.RowTest.TheVariants.{Any, Equals, AtLeast}
use Rattle.mt_wire.specs.declared.response.Response.{Response}
use Rattle.mt_wire.specs.declared.response.Response.TheVariants.{Refused, Done, View, Dropped, FoundAll, Server}
use Rattle.mt_wire.specs.declared.server.Count.{Count}
use Rattle.mt_wire.specs.declared.server.ListedView.{ListedView}
use Rattle.mt_wire.specs.declared.server.ServerResponse.{ServerResponse}
use Rattle.mt_wire.specs.declared.server.ServerResponse.TheVariants.{Info, Views, Waited}
use Rattle.mt_wire.specs.declared.response.End.{End}
use Rattle.mt_wire.specs.declared.response.End.TheVariants.{Found, Rows}
use Rattle.mt_wire.specs.Spelling.{key_spelling, short_spelling, test_spelling, end_spelling, spec_spelling, sum_spelling, row_spelling, pair_spelling, pairs_spelling, found_spelling, count_spelling, listed_spelling, served_spelling, response_spelling}
use Rattle.mt_wire.specs.Fits.{KeyFits, ServedLengths, ShortFits, TestLengths, EndLengths, SpecLengths, RowLengths, EndLengthsOf, ResponseLengths}
use Rattle.mt_types.specs.Limited.{ColumnIsLimited, RowIsLimited, PairIsLimited, PairsAreLimited}
use Rattle.mt_wire.specs.Limited.{EndIsLimited, TestIsLimited, UpperIsLimited, SpecIsLimited, ServedIsLimited, ResponseIsLimited}
use Rattle.mt_wire.specs.Laws.{LimitedRepliesFit}

-- ---- lists

each_of : {A : Type 0} (P Q : A → Type 0) → ((x : A) → P x → Q x) → (xs : List A) → AllByRecursion P xs → AllByRecursion Q xs
each_of P Q then [] all = tt
each_of P Q then (x ∷ xs) all = (then x all.0, each_of P Q then xs all.1)

all_of : {A : Type 0} (P : A → Type 0) (xs : List A) → AllByRecursion P xs → All P xs
all_of P [] all = All-nil P
all_of P (x ∷ xs) all = All-cons P x xs all.0 (all_of P xs all.1)

-- what items are spelled by together
spelled_most : {A : Type 0} (P : A → Type 0) (spell : A → List ℕ) (most : ℕ) → ((x : A) → P x → length (spell x) ≤ most)
    → (xs : List A) → AllByRecursion P xs → length (flat_map spell xs) ≤ length xs * most
spelled_most P spell most each xs all =
    rw (length-flat_map spell xs) (sum_by-le (λ x. length (spell x)) most xs
    (all_of (λ x. length (spell x) ≤ most) xs (each_of P (λ x. length (spell x) ≤ most) each xs all)))

-- ---- rows: 65 bytes a column, and 1,049 a row

column_most : (column : List ℕ) → length column ≤ MAX_COLUMN_BYTES → length (short_spelling column) ≤ 65
column_most column h = omega (arith, h)

row_most : (row : Row) → RowIsLimited row → length (row_spelling row) ≤ 1049
row_most row h =
    let columns = spelled_most ColumnIsLimited short_spelling 65 column_most row.columns h.1 in
    omega (arith, h.0, columns)

pair_most : (pair : List ℕ × Row) → PairIsLimited pair → length (pair_spelling pair) ≤ 2075
pair_most pair h =
    let row = row_most pair.1 h.1 in
    let both = length-append (key_spelling pair.0) (row_spelling pair.1) in
    omega (arith, h.0, row, both)

pairs_most : (pairs : List (List ℕ × Row)) → PairsAreLimited pairs → length (pairs_spelling pairs) ≤ 2075002
pairs_most pairs h =
    let each = spelled_most PairIsLimited pair_spelling 2075 pair_most pairs h.1 in
    omega (arith, h.0, each)

found_most : (found : Option Row) → IfSome found RowIsLimited → length (found_spelling found) ≤ 1050
found_most None h = omega arith
found_most (Some row) h = let most = row_most row h in omega (arith, most)

-- ---- answers

sums_most : (sums : List ℕ) → length (flat_map sum_spelling sums) ≤ length sums * 16
sums_most sums = spelled_most (λ (sum : ℕ). Unit {0}) sum_spelling 16 (λ sum is. omega arith) sums (any sums)
  where
    any : (xs : List ℕ) → AllByRecursion (λ (sum : ℕ). Unit {0}) xs
    any [] = tt
    any (x ∷ xs) = (tt, any xs)

count_most : (count : Count) → length count.name ≤ 64 → length (count_spelling count) ≤ 74
count_most count h = omega (arith, h, length-append (key_spelling count.name) (to_be_bytes w64 count.number))

-- ---- views: 2,146 bytes each

test_most : (test : RowTest) → TestIsLimited test → length (test_spelling test) ≤ 67
test_most Any h = omega arith
test_most (Equals column bytes) h = omega (arith, h)
test_most (AtLeast column least) h = omega arith

upper_most : (upper : Option (List ℕ)) → UpperIsLimited upper → length (end_spelling upper) ≤ 1027
upper_most None h = omega arith
upper_most (Some key) h = omega (arith, h)

spec_most : (spec : ViewSpec) → SpecIsLimited spec → length (spec_spelling spec) ≤ 2121
spec_most (RangeOf lo hi test) h =
    let upper = upper_most hi h.1 in
    let tested = test_most test h.2 in
    let both = length-append (key_spelling lo ++ end_spelling hi) (test_spelling test) in
    let ends = length-append (key_spelling lo) (end_spelling hi) in
    omega (arith, h.0, upper, tested, both, ends)
spec_most (PrefixOf key test) h =
    let tested = test_most test h.1 in
    let both = length-append (key_spelling key) (test_spelling test) in
    omega (arith, h.0, tested, both)

listed_most : (view : ListedView) → SpecIsLimited view.spec → length (listed_spelling view) ≤ 2145
listed_most view h = let spec = spec_most view.spec h in omega (arith, spec)

served_most : (response : ServerResponse) → ServedIsLimited response → length (served_spelling response) ≤ 137290
served_most (Info counts) h =
    let each = spelled_most (λ (count : Count). length count.name ≤ 64) count_spelling 74 count_most counts h.1 in
    omega (arith, h.0, each)
served_most (Views commits views) h =
    let each = spelled_most (λ (view : ListedView). SpecIsLimited view.spec) listed_spelling 2145 listed_most views h.1 in
    omega (arith, h.0, each)
served_most (Waited false commits view) h = omega arith
served_most (Waited true commits view) h = omega arith
served_most _ h = omega arith

response_most : (response : Response) → ResponseIsLimited response → length (response_spelling response) ≤ 2075276
response_most (Done start stop (Found row)) h = let most = row_most row h in omega (arith, most)
response_most (Done start stop (Rows pairs)) h = let most = pairs_most pairs h in omega (arith, most)
response_most (View page) h =
    let rows = pairs_most page.rows h.1 in
    let sums = sums_most page.sums in
    let both = length-append (flat_map sum_spelling page.sums) (pairs_spelling page.rows) in
    omega (arith, h.0, rows, sums, both)
response_most (FoundAll at rows) h =
    let each = spelled_most (λ (found : Option Row). IfSome found RowIsLimited) found_spelling 1050 found_most rows h.1 in
    omega (arith, h.0, each)
response_most (Server response) h = let most = served_most response h in omega (arith, most)
response_most _ h = omega arith

-- ---- and their lengths fit their fields

row_lengths : (row : Row) → RowIsLimited row → RowLengths row
row_lengths row h = (omega (arith, h.0), each_of ColumnIsLimited ShortFits (λ column short. omega (arith, short)) row.columns h.1)

pairs_lengths : (pairs : List (List ℕ × Row)) → AllByRecursion PairIsLimited pairs → AllByRecursion (λ pair. RowLengths pair.1) pairs
pairs_lengths pairs = each_of PairIsLimited (λ pair. RowLengths pair.1) (λ pair limited. row_lengths pair.1 limited.1) pairs

found_lengths : (found : Option Row) → IfSome found RowIsLimited → IfSome found RowLengths
found_lengths None h = tt
found_lengths (Some row) h = row_lengths row h

end_lengths : (end : End) → EndIsLimited end → EndLengthsOf end
end_lengths (Found row) h = row_lengths row h
end_lengths (Rows pairs) h = (omega (arith, h.0), pairs_lengths pairs h.1)
end_lengths _ h = tt

test_lengths : (test : RowTest) → TestIsLimited test → TestLengths test
test_lengths Any h = tt
test_lengths (Equals column bytes) h = omega (arith, h)
test_lengths (AtLeast column least) h = tt

upper_lengths : (upper : Option (List ℕ)) → UpperIsLimited upper → EndLengths upper
upper_lengths None h = tt
upper_lengths (Some key) h = omega (arith, h)

spec_lengths : (spec : ViewSpec) → SpecIsLimited spec → SpecLengths spec
spec_lengths (RangeOf lo hi test) h = (omega (arith, h.0), upper_lengths hi h.1, test_lengths test h.2)
spec_lengths (PrefixOf key test) h = (omega (arith, h.0), test_lengths test h.1)

served_lengths : (response : ServerResponse) → ServedIsLimited response → ServedLengths response
served_lengths (Info counts) h = (omega (arith, h.0), each_of (λ (count : Count). length count.name ≤ 64) (λ count. KeyFits count.name) (λ count short. omega (arith, short)) counts h.1)
served_lengths (Views commits views) h = (omega (arith, h.0), each_of (λ (view : ListedView). SpecIsLimited view.spec) (λ view. SpecLengths view.spec) (λ view limited. spec_lengths view.spec limited) views h.1)
served_lengths _ h = tt

response_lengths : (response : Response) → ResponseIsLimited response → ResponseLengths response
response_lengths (Refused refusal) h = tt
response_lengths (Done start stop end) h = end_lengths end h
response_lengths (View page) h = (omega (arith, h.0), (omega (arith, h.1.0), pairs_lengths page.rows h.1.1))
response_lengths Dropped h = tt
response_lengths (FoundAll at rows) h =
    (omega (arith, h.0), each_of (λ (found : Option Row). IfSome found RowIsLimited) (λ found. IfSome found RowLengths) found_lengths rows h.1)
response_lengths (Server response) h = served_lengths response h

pub limited_replies_fit : LimitedRepliesFit
limited_replies_fit frame h =
    let most = spelled_most ResponseIsLimited response_spelling 2075276 response_most frame.messages h.2 in
    ((h.0, h.1, each_of ResponseIsLimited ResponseLengths response_lengths frame.messages h.2), omega (arith, h.1, most))
