-- Why a call is refused at its begin: never for the version of a row.
use Rattle.std.proofs.Common.{ℕ, ◌+◌, ◌≡◌, List, Bool, true, false, Option, Some, None, inl, inr, map, length, sym, subst}
use Rattle.std.specs.Prelude.{nat_lt, nat_le, not, if◌then◌else◌}
use Rattle.std.specs.Option.{option_or}
use Rattle.std.specs.List.{list_any}
use Rattle.std.specs.Ordering.{is_lt}
use Rattle.mt_types.specs.Keys.{key_cmp}
use Rattle.mt_types.specs.Limits.{refused_if, is_within, key_fault, misnames, columns_fault, sets_fault, test_fault, end_fault, end_key_fault, spec_fault, request_fault}
use Rattle.mt_types.specs.Numbers.{greatest_number}
use Rattle.mt_types.specs.Rows.{Rows}
use Rattle.mt_types.specs.declared.limits.TheConstants.{MAX_KEY_BYTES, MAX_COLUMN_BYTES, MAX_RANGE, MAX_OPEN_CALLS, MAX_VIEWS}
use Rattle.mt_types.specs.declared.numbers.PassNo.{PassNo}
use Rattle.mt_types.specs.declared.event.Event.TheVariants.{Begin}
use Rattle.mt_types.specs.declared.event.Outcome.TheVariants.{Call, Refused}
use Rattle.mt_types.specs.declared.event.Request.{Request}
use Rattle.mt_types.specs.declared.event.Request.TheVariants.{Get, Put, PutIf, Remove, Range, Tidy, Build}
use Rattle.mt_types.specs.declared.view.ViewSpec.{ViewSpec}
use Rattle.mt_types.specs.declared.view.ViewSpec.TheVariants.{Range as RangeOf, Prefix as PrefixOf}
use Rattle.mt_types.specs.declared.view.RowTest.{RowTest}
use Rattle.mt_types.specs.declared.view.RowTest.TheVariants.{Any, Equals, AtLeast}
use Rattle.mt_types.specs.declared.refusal.Refusal.{Refusal}
use Rattle.mt_types.specs.declared.refusal.Refusal.TheVariants.{NoMemory, KeyTooLong, BadColumn, ColumnTooLong, BadLimit, BadRange, TooManyCalls, TooManyViews, Spent, OtherVersion}
use Rattle.mt_promise.specs.History.{History, moment, rows}
use Rattle.mt_promise.specs.Legal.{MayHappen, MayBegin, begin_fault, view_places, is_build}
use Rattle.mt_promise.specs.Alone.{IsPlainRefusal}

-- it is none for the version of a row
abbrev IsCommon : Option Refusal → Type 0
IsCommon (Some (OtherVersion version)) = ⊥
IsCommon _ = Unit {0}

common_if : (broken : Bool) (refusal : Refusal) → IsCommon (Some refusal) → IsCommon (refused_if broken refusal)
common_if true refusal common = common
common_if false refusal common = tt

common_or : (one other : Option Refusal) → IsCommon one → IsCommon other → IsCommon (option_or one other)
common_or None other first second = second
common_or (Some refusal) other first second = first

key_common : (key : List ℕ) → IsCommon (key_fault key)
key_common key = common_if (nat_lt MAX_KEY_BYTES (length key)) KeyTooLong tt

columns_common : (C : ℕ) (columns : List ℕ) → IsCommon (columns_fault C columns)
columns_common C columns = common_if (misnames C columns) BadColumn tt

sets_common : (C : ℕ) (sets : List (ℕ × List ℕ)) → IsCommon (sets_fault C sets)
sets_common C sets = common_or _ _ (columns_common C (map (λ set. set.0) sets)) (common_if (list_any (λ set. nat_lt MAX_COLUMN_BYTES (length set.1)) sets) ColumnTooLong tt)

test_common : (C : ℕ) (test : RowTest) → IsCommon (test_fault C test)
test_common C Any = tt
test_common C (Equals column bytes) = common_or _ _ (common_if (nat_le C column) BadColumn tt) (common_if (nat_lt MAX_COLUMN_BYTES (length bytes)) ColumnTooLong tt)
test_common C (AtLeast column least) = common_if (nat_le C column) BadColumn tt

end_common : (lo : List ℕ) (hi : Option (List ℕ)) → IsCommon (end_fault lo hi)
end_common lo None = tt
end_common lo (Some hi) = common_if (not (is_lt (key_cmp lo hi))) BadRange tt

end_key_common : (hi : Option (List ℕ)) → IsCommon (end_key_fault hi)
end_key_common None = tt
end_key_common (Some hi) = key_common hi

spec_common : (C : ℕ) (spec : ViewSpec) → IsCommon (spec_fault C spec)
spec_common C (RangeOf lo hi test) = common_or _ _ (key_common lo) (common_or _ _ (end_key_common hi) (common_or _ _ (test_common C test) (end_common lo hi)))
spec_common C (PrefixOf key test) = common_or _ _ (key_common key) (test_common C test)

request_common : (C : ℕ) (request : Request) → IsCommon (request_fault C request)
request_common C (Get key columns) = common_or _ _ (key_common key) (columns_common C columns)
request_common C (Put key sets) = common_or _ _ (key_common key) (sets_common C sets)
request_common C (PutIf key sets version) = common_or _ _ (key_common key) (sets_common C sets)
request_common C (Remove key) = key_common key
request_common C (Range start limit columns) = common_or _ _ (key_common start) (common_or _ _ (columns_common C columns) (common_if (not (is_within 1 MAX_RANGE limit)) BadLimit tt))
request_common C (Tidy key) = key_common key
request_common C (Build spec) = spec_common C spec

places_common : (builds : Bool) (places : ℕ) → IsCommon (if builds then refused_if (nat_le MAX_VIEWS places) TooManyViews else None)
places_common true places = common_if (nat_le MAX_VIEWS places) TooManyViews tt
places_common false places = tt

begin_common : (C begun opened places : ℕ) (request : Request) → IsCommon (begin_fault C begun opened places request)
begin_common C begun opened places request =
    common_or _ _ (request_common C request)
    (common_or _ _ (common_if (nat_le greatest_number begun) Spent tt)
    (common_or _ _ (common_if (nat_le MAX_OPEN_CALLS opened) TooManyCalls tt) (places_common (is_build request) places)))

common_plain : (rs : Rows) (request : Request) (refusal : Refusal) → IsCommon (Some refusal) → IsPlainRefusal rs request refusal
common_plain rs request (OtherVersion version) common = absurd common
common_plain rs request _ common = tt

pub turned_away_plainly : (C : ℕ) (h : History) (pass : PassNo) (request : Request) (refusal : Refusal) (note : ℕ) → MayHappen C h (Begin pass request) (Refused refusal) note → IsPlainRefusal (rows C (moment h)) request refusal
turned_away_plainly C h pass request refusal note may =
    by_fault (begin_fault C (moment h).begun (length (moment h).calls) (view_places (moment h)) request) may (begin_common C (moment h).begun (length (moment h).calls) (view_places (moment h)) request)
  where
    by_fault : (fault : Option Refusal) → MayBegin (moment h) fault (Refused refusal) → IsCommon fault → IsPlainRefusal (rows C (moment h)) request refusal
    by_fault (Some other) happens common =
        let same : refusal ≡ other = (let both : Refused refusal ≡ Refused other = happens in cc) in
        common_plain (rows C (moment h)) request refusal (subst (λ (r : Refusal). IsCommon (Some r)) (sym same) common)
    by_fault None happens common = elim happens [
      | inl called ↦ absurd (let clash : Refused refusal ≡ Call (record { 0 = (moment h).begun + 1 }) = called in cc)
      | inr lacks ↦ (let same : refusal ≡ NoMemory = (let both : Refused refusal ≡ Refused NoMemory = lacks in cc) in
          common_plain (rows C (moment h)) request refusal (subst (λ (r : Refusal). IsCommon (Some r)) (sym same) tt))
    ]
