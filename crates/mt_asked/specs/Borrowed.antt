-- What a caller passes in borrowed bytes, as an index has it.
use Rattle.std.specs.Prelude.{ℕ, List, map, Some, None}
use Rattle.mt_types.specs.declared.event.Request.{Request}
use Rattle.mt_types.specs.declared.event.Request.TheVariants.{Get, Range, Put, PutIf, Remove, Tidy, Build}
use Rattle.mt_types.specs.declared.view.RowTest.{RowTest}
use Rattle.mt_types.specs.declared.view.RowTest.TheVariants as owned
use Rattle.mt_types.specs.declared.view.ViewSpec.{ViewSpec}
use Rattle.mt_types.specs.declared.view.ViewSpec.TheVariants.{Range as RangeOf, Prefix as PrefixOf}
use Rattle.mt_asked.specs.declared.borrowed.Set.{Set}
use Rattle.mt_asked.specs.declared.borrowed.Test.{Test}
use Rattle.mt_asked.specs.declared.borrowed.Test.TheVariants.{Any, Equals, AtLeast}
use Rattle.mt_asked.specs.declared.borrowed.Spec.{Spec}
use Rattle.mt_asked.specs.declared.borrowed.Spec.TheVariants.{Prefix, From, Between}
use Rattle.mt_asked.specs.declared.asked.Asked.{Asked}
use Rattle.mt_asked.specs.declared.asked.Asked.TheVariants as asked

abbrev pub set_of : Set → ℕ × List ℕ
set_of set = (set.column, set.bytes.now)

abbrev pub sets_of : List Set → List (ℕ × List ℕ)
sets_of sets = map set_of sets

abbrev pub test_of : Test → RowTest
test_of Any = owned.Any
test_of (Equals column bytes) = owned.Equals column bytes.now
test_of (AtLeast column least) = owned.AtLeast column least

abbrev pub spec_of : Spec → ViewSpec
spec_of (Prefix key test) = PrefixOf key.now (test_of test)
spec_of (From lo test) = RangeOf lo.now None (test_of test)
spec_of (Between lo hi test) = RangeOf lo.now (Some hi.now) (test_of test)

abbrev pub request_of : Asked → Request
request_of (asked.Get key columns) = Get key.now columns.now
request_of (asked.Range start limit columns) = Range start.now limit columns.now
request_of (asked.Put key sets) = Put key.now (sets_of sets.now)
request_of (asked.PutIf key sets version) = PutIf key.now (sets_of sets.now) version
request_of (asked.Remove key) = Remove key.now
request_of (asked.Tidy key) = Tidy key.now
request_of (asked.Build spec) = Build (spec_of spec.now)
