-- The state of a view as plain data: by which a proof tells two of them apart.
use Rattle.std.specs.Prelude.{◌≡◌, ℕ, List, Option, Some, None, ◌⊎◌, refl}
use Rattle.std.proofs.Common.{inl, inr}
use Rattle.std.specs.FinMap.{code}
use Rattle.std.specs.Coded.{Coded, code_by, coded×, coded⊎, coded_list, coded_option, coded_ℕ}
use Rattle.mt_types.specs.Rows.{Rows}
use Rattle.mt_types.specs.declared.row.Row.{Row}
use Rattle.mt_types.specs.declared.view.RowTest.{RowTest}
use Rattle.mt_types.specs.declared.view.RowTest.TheVariants.{Any, Equals, AtLeast}
use Rattle.mt_types.specs.declared.view.ViewSpec.{ViewSpec}
use Rattle.mt_types.specs.declared.view.ViewSpec.TheVariants.{Range, Prefix}
use Rattle.mt_view.specs.State.{StateView}

abbrev Bytes : Type 0
Bytes = List ℕ

abbrev bytes_code : Coded Bytes
bytes_code = coded_list coded_ℕ

-- a test is stored as none, or as a column with its bytes or its least amount
abbrev TestParts : Type 0
TestParts = Option ((ℕ × Bytes) ⊎ (ℕ × ℕ))

abbrev test_parts : RowTest → TestParts
test_parts Any = None
test_parts (Equals column bytes) = Some (inl (column, bytes))
test_parts (AtLeast column least) = Some (inr (column, least))

abbrev test_of : TestParts → RowTest
test_of None = Any
test_of (Some (inl p)) = Equals p.0 p.1
test_of (Some (inr p)) = AtLeast p.0 p.1

pub test_back : (test : RowTest) → test_of (test_parts test) ≡ test
test_back Any = refl
test_back (Equals column bytes) = refl
test_back (AtLeast column least) = refl

abbrev test_code : Coded RowTest
test_code = code_by TestParts (coded_option (coded⊎ (coded× coded_ℕ bytes_code) (coded× coded_ℕ coded_ℕ))) test_parts
    test_of test_back

-- a specification is stored as the parts of its range or of its prefix
abbrev SpecParts : Type 0
SpecParts = (Bytes × (Option Bytes × RowTest)) ⊎ (Bytes × RowTest)

abbrev spec_parts : ViewSpec → SpecParts
spec_parts (Range lo hi test) = inl (lo, (hi, test))
spec_parts (Prefix key test) = inr (key, test)

abbrev spec_of : SpecParts → ViewSpec
spec_of (inl p) = Range p.0 p.1.0 p.1.1
spec_of (inr p) = Prefix p.0 p.1

pub spec_back : (spec : ViewSpec) → spec_of (spec_parts spec) ≡ spec
spec_back (Range lo hi test) = refl
spec_back (Prefix key test) = refl

abbrev spec_code : Coded ViewSpec
spec_code = code_by SpecParts
    (coded⊎ (coded× bytes_code (coded× (coded_option bytes_code) test_code)) (coded× bytes_code test_code)) spec_parts
    spec_of spec_back

-- a row is stored as the pair of its version and its columns
abbrev row_code : Coded Row
row_code =
    code_by (ℕ × List Bytes) (coded× coded_ℕ (coded_list bytes_code))
    (λ row. (row.version, row.columns)) (λ p. record { version = p.0; columns = p.1 }) (λ _. refl)

abbrev rows_code : Coded Rows
rows_code = code bytes_code row_code

-- a state is stored as its fields
abbrev pub state_code : Coded StateView
state_code =
    code_by (ViewSpec × (ℕ × (ℕ × Rows))) (coded× spec_code (coded× coded_ℕ (coded× coded_ℕ rows_code)))
    (λ state. (state.spec, (state.columns, (state.at, state.rows))))
    (λ p. record { spec = p.0; columns = p.1.0; at = p.1.1.0; rows = p.1.1.1 }) (λ _. refl)
