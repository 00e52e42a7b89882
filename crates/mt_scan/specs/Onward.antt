-- A scan that advances: the number of its cursor, and how that grows with the visit of a border.
use Rattle.std.specs.Prelude.{ℕ, ◌≡◌, ◌<◌, ◌≤◌, ◌+◌, ◌*◌, ◌==◌, ◌⊎◌, if◌then◌else◌, List, [], ◌∷◌, length, Some}
use Rattle.mt_slice.specs.Place.{Place, last, deeper, first_slice}
use Rattle.mt_chart.specs.Tree.{link, Right, Among, Below}
use Rattle.mt_chart.specs.CursorNumber.{AreDigits, digit_base, base_power, digits_number, digits_above}
use Rattle.mt_scan.specs.Listed.{ListView, list_entries, list_right}
use Rattle.mt_scan.specs.Cursor.{CursorView}
use Rattle.mt_scan.specs.Scan.{ScanView}
use Rattle.mt_scan.specs.declared.scan.ScanMove.{ScanMove}
use Rattle.mt_scan.specs.declared.scan.ScanMove.TheVariants.{Done, To, Top}

-- the last digit of a cursor: its last slice doubled, and one more if it is after all keys that begin so
abbrev pub last_digit : ℕ → ℕ → ℕ
last_digit slice class = if class == 10 then 2 * slice + 1 else 2 * slice

-- the digits of a cursor at a place, one for each of its slices
abbrev pub cursor_digits : Place → List ℕ
cursor_digits (last slice class) = last_digit slice class ∷ []
cursor_digits (deeper slice rest) = (2 * slice) ∷ cursor_digits rest

-- each of these digits is below the base, as it is if the slices are of 64 bits
abbrev pub HasDigits : Place → Type 0
HasDigits at = AreDigits digit_base (cursor_digits at)

-- the cursor of a scan
abbrev pub cursor_in : ScanView → CursorView
cursor_in s = record { prefix = s.prefix; at = s.at }

-- the number of a cursor, with its first n digits
abbrev pub cursor_of : ℕ → CursorView → ℕ
cursor_of places c = digits_number digit_base places (digits_above c.prefix (cursor_digits c.at))

-- more than the number of any cursor in n places
abbrev pub all_cursors : ℕ → ℕ
all_cursors places = base_power digit_base places

-- The scan has advanced: its cursor is further on; or it has gone into the layer below, and its cursor has not gone
-- back.
abbrev pub GetsOn : ℕ → CursorView → ScanMove → CursorView → Type 0
GetsOn places c Done d = Unit {0}
GetsOn places c (To node) d = (cursor_of places c < cursor_of places d)
    ⊎ ((cursor_of places c ≤ cursor_of places d) × (length d.prefix ≡ length c.prefix + 1))
GetsOn places c Top d = cursor_of places c < cursor_of places d

-- What a scan needs of the list that it visits, to advance: there are fewer layers above it than places, and the slice
-- that it seeks is before what is to the right.
pub record MayGetOn (places : ℕ) (c : CursorView) (list : ListView) : Type 0 where
  pub layer : length c.prefix < places
  pub to_right : Below (first_slice c.at) (list_right list)

-- a scan that visits the list advances, by the number of its cursor in any number of places
abbrev pub GoesOnward : CursorView → ListView → ScanMove → CursorView → Type 0
GoesOnward c list visited d = (places : ℕ) → MayGetOn places c list → GetsOn places c visited d

-- the list leads to the number: its right link names it, or a link among its entries does
abbrev pub LeadsOn : ListView → ℕ → Type 0
LeadsOn list number = ((right : Right) × (list_right list ≡ Some right) × (right.number ≡ number))
    ⊎ ((slice : ℕ) × Among (record { slice = slice; content = link number }) (list_entries list))

-- the node to which a scan goes from a list: one to which the list leads, or again the head of layer 0
abbrev pub GoesFrom : ListView → ScanMove → Type 0
GoesFrom list Done = Unit {0}
GoesFrom list (To node) = LeadsOn list node.0 ⊎ (node.0 ≡ 0)
GoesFrom list Top = Unit {0}
