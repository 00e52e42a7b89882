-- The columns of a row in one list of bytes, and back.
use Rattle.std.specs.Prelude.{ℕ, zero, suc, ◌<◌, ◌^◌, Bool, ◌&&◌, not, nat_le, nat_lt, List, [], ◌∷◌, ◌++◌, length, take, drop}
use Rattle.std.specs.List.{AllByRecursion, list_any}

-- columns one after the other: of each its length, and then its bytes
abbrev pub pieces : List (List ℕ) → List ℕ
pieces [] = []
pieces (column ∷ columns) = length column ∷ (column ++ pieces columns)

-- columns as bytes: how many, and then their pieces
abbrev pub packed : List (List ℕ) → List ℕ
packed columns = length columns ∷ pieces columns

-- as many columns as are given, from their pieces
unfoldable pub cut : ℕ → List ℕ → List (List ℕ)
cut zero bytes = []
cut (suc n) [] = []
cut (suc n) (len ∷ rest) = take len rest ∷ cut n (drop len rest)

-- the columns that bytes hold
unfoldable pub unpacked : List ℕ → List (List ℕ)
unpacked [] = []
unpacked (n ∷ rest) = cut n rest

-- whether how many columns there are, and how many bytes each has, is a byte
abbrev pub are_packable : List (List ℕ) → Bool
are_packable columns = nat_le (length columns) 255 && not (list_any (λ column. nat_lt 255 (length column)) columns)

abbrev pub ArePackable : List (List ℕ) → Type 0
ArePackable columns = (length columns < 2 ^ 8) × AllByRecursion (λ column. length column < 2 ^ 8) columns
