-- A begin is refused for no version of a row: so to a plain map its cause is any.
use Rattle.std.proofs.Common.{◌≡◌, ℕ, Bool, true, false, List, Option, Some, None, subst}
use Rattle.std.specs.Prelude.{nat_le, map, if◌then◌else◌}
use Rattle.std.specs.Option.{option_or}
use Rattle.mt_types.specs.Numbers.{greatest_number}
use Rattle.mt_types.specs.declared.limits.TheConstants.{MAX_OPEN_CALLS, MAX_VIEWS}
use Rattle.mt_types.specs.Rows.{Rows}
use Rattle.mt_types.specs.Limits.{refused_if, key_fault, columns_fault, bytes_fault, sets_fault, limit_fault, test_fault, end_fault, end_key_fault, spec_fault, request_fault}
use Rattle.mt_types.specs.declared.refusal.Refusal.{Refusal}
use Rattle.mt_types.specs.declared.refusal.Refusal.TheVariants.{KeyTooLong, BadColumn, ColumnTooLong, BadLimit, BadRange, Spent, TooManyCalls, TooManyViews, OtherVersion}
use Rattle.mt_types.specs.declared.event.Request.{Request}
use Rattle.mt_types.specs.declared.event.Request.TheVariants.{Get, Put, PutIf, Remove, Range, Tidy, Build}
use Rattle.mt_types.specs.declared.view.ViewSpec.{ViewSpec}
use Rattle.mt_types.specs.declared.view.ViewSpec.TheVariants.{Range as RangeOf, Prefix as PrefixOf}
use Rattle.mt_types.specs.declared.view.RowTest.{RowTest}
use Rattle.mt_types.specs.declared.view.RowTest.TheVariants.{Any, Equals, AtLeast}
use Rattle.mt_promise.specs.Legal.{begin_fault, is_build}
use Rattle.mt_promise.specs.Alone.{IsPlainRefusal}

-- it isn't that a row is of another version
abbrev pub IsNoVersion : Refusal → Type 0
IsNoVersion (OtherVersion found) = ⊥
IsNoVersion _ = Unit {0}

abbrev Keeps : Option Refusal → Type 0
Keeps None = Unit {0}
Keeps (Some refusal) = IsNoVersion refusal

or_keeps : (a b : Option Refusal) → Keeps a → Keeps b → Keeps (option_or a b)
or_keeps None b first second = second
or_keeps (Some refusal) b first second = first

if_keeps : (b : Bool) (refusal : Refusal) → IsNoVersion refusal → Keeps (refused_if b refusal)
if_keeps true refusal is = is
if_keeps false refusal is = tt

test_keeps : (C : ℕ) (test : RowTest) → Keeps (test_fault C test)
test_keeps C Any = tt
test_keeps C (Equals column bytes) = or_keeps _ (bytes_fault bytes) (if_keeps _ BadColumn tt) (if_keeps _ ColumnTooLong tt)
test_keeps C (AtLeast column least) = if_keeps _ BadColumn tt

end_keeps : (lo : List ℕ) (hi : Option (List ℕ)) → Keeps (end_fault lo hi)
end_keeps lo None = tt
end_keeps lo (Some hi) = if_keeps _ BadRange tt

end_key_keeps : (hi : Option (List ℕ)) → Keeps (end_key_fault hi)
end_key_keeps None = tt
end_key_keeps (Some hi) = if_keeps _ KeyTooLong tt

sets_keep : (C : ℕ) (sets : List (ℕ × List ℕ)) → Keeps (sets_fault C sets)
sets_keep C sets = or_keeps (columns_fault C (map (λ set. set.0) sets)) _ (if_keeps _ BadColumn tt) (if_keeps _ ColumnTooLong tt)

spec_keeps : (C : ℕ) (spec : ViewSpec) → Keeps (spec_fault C spec)
spec_keeps C (RangeOf lo hi test) =
    or_keeps (key_fault lo) _ (if_keeps _ KeyTooLong tt) (or_keeps (end_key_fault hi) _ (end_key_keeps hi) (or_keeps (test_fault C test) (end_fault lo hi) (test_keeps C test) (end_keeps lo hi)))
spec_keeps C (PrefixOf key test) = or_keeps (key_fault key) (test_fault C test) (if_keeps _ KeyTooLong tt) (test_keeps C test)

request_keeps : (C : ℕ) (request : Request) → Keeps (request_fault C request)
request_keeps C (Get key columns) = or_keeps (key_fault key) (columns_fault C columns) (if_keeps _ KeyTooLong tt) (if_keeps _ BadColumn tt)
request_keeps C (Put key sets) = or_keeps (key_fault key) (sets_fault C sets) (if_keeps _ KeyTooLong tt) (sets_keep C sets)
request_keeps C (PutIf key sets version) = or_keeps (key_fault key) (sets_fault C sets) (if_keeps _ KeyTooLong tt) (sets_keep C sets)
request_keeps C (Remove key) = if_keeps _ KeyTooLong tt
request_keeps C (Range start limit columns) =
    or_keeps (key_fault start) _ (if_keeps _ KeyTooLong tt) (or_keeps (columns_fault C columns) (limit_fault limit) (if_keeps _ BadColumn tt) (if_keeps _ BadLimit tt))
request_keeps C (Tidy key) = if_keeps _ KeyTooLong tt
request_keeps C (Build spec) = spec_keeps C spec

places_keep : (build full : Bool) → Keeps (if build then refused_if full TooManyViews else None)
places_keep true full = if_keeps full TooManyViews tt
places_keep false full = tt

begin_keeps : (C begun opened places : ℕ) (request : Request) → Keeps (begin_fault C begun opened places request)
begin_keeps C begun opened places request =
    let spent = refused_if (nat_le greatest_number begun) Spent in
    let many = refused_if (nat_le MAX_OPEN_CALLS opened) TooManyCalls in
    let full = if is_build request then refused_if (nat_le MAX_VIEWS places) TooManyViews else None in
    or_keeps (request_fault C request) (option_or spent (option_or many full)) (request_keeps C request)
    (or_keeps spent (option_or many full) (if_keeps (nat_le greatest_number begun) Spent tt)
    (or_keeps many full (if_keeps (nat_le MAX_OPEN_CALLS opened) TooManyCalls tt) (places_keep (is_build request) (nat_le MAX_VIEWS places))))

pub any_cause : (rows : Rows) (request : Request) (refusal : Refusal) → IsNoVersion refusal → IsPlainRefusal rows request refusal
any_cause rows request (OtherVersion found) is = absurd is
any_cause rows (Get key columns) _ is = tt
any_cause rows (Put key sets) _ is = tt
any_cause rows (PutIf key sets version) _ is = tt
any_cause rows (Remove key) _ is = tt
any_cause rows (Range start limit columns) _ is = tt
any_cause rows (Tidy key) _ is = tt
any_cause rows (Build spec) _ is = tt

-- what a begin is refused for
pub begin_plainly : (C begun opened places : ℕ) (request : Request) (rows : Rows) (refusal : Refusal) → begin_fault C begun opened places request ≡ Some refusal → IsPlainRefusal rows request refusal
begin_plainly C begun opened places request rows refusal e =
    any_cause rows request refusal (subst (λ (fault : Option Refusal). Keeps fault) e (begin_keeps C begun opened places request))
