-- Rows as plain data: by which a proof tells two of them apart.
use Rattle.std.specs.Prelude.{ℕ, List, refl}
use Rattle.std.specs.FinMap.{code}
use Rattle.std.specs.Coded.{Coded, code_by, coded×, coded_list, coded_ℕ}
use Rattle.mt_types.specs.Rows.{Rows}
use Rattle.mt_types.specs.declared.row.Row.{Row}

-- a row is stored as the pair of its version and its columns
abbrev pub row_code : Coded Row
row_code =
    code_by (ℕ × List (List ℕ)) (coded× coded_ℕ (coded_list (coded_list coded_ℕ)))
    (λ row. (row.version, row.columns)) (λ p. record { version = p.0; columns = p.1 }) (λ _. refl)

-- rows are stored as the list of their entries
abbrev pub rows_code : Coded Rows
rows_code = code (coded_list coded_ℕ) row_code
