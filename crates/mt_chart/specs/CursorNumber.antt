-- The number of a scan's cursor: its digits, one for each layer. By it a scan that runs alone ends.
use Rattle.std.specs.Prelude.{ℕ, zero, suc, ◌<◌, ◌+◌, ◌*◌, List, [], ◌∷◌}
use Rattle.mt_types.specs.declared.limits.TheConstants.{MAX_LAYER}

-- the base to the power
abbrev pub base_power : ℕ → ℕ → ℕ
base_power base zero = 1
base_power base (suc i) = base * base_power base i

-- the number with these digits, in the given number of places; digits that are lacking are 0
abbrev pub digits_number : ℕ → ℕ → List ℕ → ℕ
digits_number base zero digits = 0
digits_number base (suc places) [] = 0
digits_number base (suc places) (digit ∷ digits) = digit * base_power base places + digits_number base places digits

-- each is a digit of the base
abbrev pub AreDigits : ℕ → List ℕ → Type 0
AreDigits base [] = Unit {0}
AreDigits base (digit ∷ digits) = (digit < base) × AreDigits base digits

-- Slices are below 2 ^ 64. A digit is a slice doubled, or one more if the cursor is after all keys that begin with the
-- slices so far.
abbrev pub digit_base : ℕ
digit_base = 36893488147419103232

-- the digits of a cursor in the layer of a prefix, the nearest slice first
abbrev pub digits_above : List ℕ → List ℕ → List ℕ
digits_above [] digits = digits
digits_above (slice ∷ prefix) digits = digits_above prefix ((2 * slice) ∷ digits)

-- the number of a cursor with these digits, in a tree of `MAX_LAYER + 1` layers at most
abbrev pub cursor_number : List ℕ → ℕ
cursor_number digits = digits_number digit_base (MAX_LAYER + 1) digits
