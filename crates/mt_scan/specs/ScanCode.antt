-- A scan as plain data: by which a proof tells two of them apart.
use Rattle.std.specs.Prelude.{ℕ, List, refl}
use Rattle.std.specs.Coded.{Coded, code_by, coded×, coded_list, coded_ℕ}
use Rattle.mt_types.specs.declared.row.Row.{Row}
use Rattle.mt_slice.specs.Place.{Place}
use Rattle.mt_scan.specs.CursorCode.{place_code}
use Rattle.mt_scan.specs.Scan.{ScanView}

-- a row is stored as the pair of its version and its columns
abbrev row_code : Coded Row
row_code =
    code_by (ℕ × List (List ℕ)) (coded× coded_ℕ (coded_list (coded_list coded_ℕ)))
    (λ row. (row.version, row.columns)) (λ p. record { version = p.0; columns = p.1 }) (λ _. refl)

abbrev pairs_code : Coded (List (List ℕ × Row))
pairs_code = coded_list (coded× (coded_list coded_ℕ) row_code)

-- a scan is stored as its fields
abbrev pub scan_code : Coded ScanView
scan_code =
    code_by (List ℕ × (Place × (List (List ℕ × Row) × (ℕ × List ℕ))))
    (coded× (coded_list coded_ℕ) (coded× place_code (coded× pairs_code (coded× coded_ℕ (coded_list coded_ℕ)))))
    (λ s. (s.prefix, (s.at, (s.taken, (s.limit, s.asked)))))
    (λ p. record { prefix = p.0; at = p.1.0; taken = p.1.1.0; limit = p.1.1.1.0; asked = p.1.1.1.1 }) (λ _. refl)
