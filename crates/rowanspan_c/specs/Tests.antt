-- The test of rows that a caller in C asks for.
use Rattle.std.specs.Prelude.{ℕ, ◌==◌, if◌then◌else◌}
use Rattle.mt_types.specs.declared.view.RowTest.{RowTest}
use Rattle.mt_types.specs.declared.view.RowTest.TheVariants.{Any, Equals, AtLeast}
use Rattle.rowanspan_c.specs.declared.testing.ViewTest.{ViewTest}

-- the kinds of tests of rows are the numbers up to this one
abbrev pub greatest_kind : ℕ
greatest_kind = 2

abbrev pub row_test_of : ViewTest → RowTest
row_test_of test =
    if test.kind == 0 then Any
    else (if test.kind == 1 then Equals test.column test.bytes.now else AtLeast test.column test.least)
