-- A build as plain data: by which a proof tells two of them apart.
use Rattle.std.specs.Prelude.{ℕ, List, refl}
use Rattle.std.specs.Coded.{Coded, code_by, coded×, coded_list, coded_ℕ}
use Rattle.mt_slice.specs.Place.{Place}
use Rattle.mt_scan.specs.CursorCode.{place_code}
use Rattle.mt_view.specs.State.{StateView}
use Rattle.mt_view.specs.StateCode.{state_code}
use Rattle.mt_works.specs.Build.{BuildView}

-- a build is stored as its fields
abbrev pub build_code : Coded BuildView
build_code = code_by (List ℕ × (Place × StateView)) (coded× (coded_list coded_ℕ) (coded× place_code state_code))
    (λ b. (b.prefix, (b.at, b.state))) (λ p. record { prefix = p.0; at = p.1.0; state = p.1.1 }) (λ _. refl)
