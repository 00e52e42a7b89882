-- A cursor as plain data: by which a proof tells two of them apart.
use Rattle.std.specs.Prelude.{ℕ, ◌≡◌, List, [], ◌∷◌, refl}
use Rattle.std.proofs.Common.{ap}
use Rattle.std.specs.Coded.{Coded, code_by, coded×, coded_list, coded_ℕ}
use Rattle.mt_slice.specs.Place.{Place, last, deeper}
use Rattle.mt_scan.specs.Cursor.{CursorView}

-- a place is stored as the slices that it goes past, and its last slice and class
abbrev parts : Place → List ℕ × (ℕ × ℕ)
parts (last slice class) = ([], (slice, class))
parts (deeper slice rest) = let p = parts rest in (slice ∷ p.0, p.1)

abbrev place : List ℕ → ℕ × ℕ → Place
place [] end = last end.0 end.1
place (slice ∷ slices) end = deeper slice (place slices end)

pub place_back : (p : Place) → place (parts p).0 (parts p).1 ≡ p
place_back (last slice class) = refl
place_back (deeper slice rest) = ap (deeper slice) (place_back rest)

abbrev pub place_code : Coded Place
place_code = code_by (List ℕ × (ℕ × ℕ)) (coded× (coded_list coded_ℕ) (coded× coded_ℕ coded_ℕ)) parts
    (λ p. place p.0 p.1) place_back

-- a cursor is stored as its fields
abbrev pub cursor_code : Coded CursorView
cursor_code = code_by (List ℕ × Place) (coded× (coded_list coded_ℕ) place_code) (λ c. (c.prefix, c.at))
    (λ p. record { prefix = p.0; at = p.1 }) (λ _. refl)
