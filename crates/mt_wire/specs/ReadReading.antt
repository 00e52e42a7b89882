-- Reading reads of one moment from left to right, as Reading does all.
use Rattle.std.specs.Prelude.{ℕ, ◌==◌, if◌then◌else◌, None}
use Rattle.std.specs.Int.{w16, w32}
use Rattle.mt_wire.specs.declared.read.ReadQuery.{ReadQuery}
use Rattle.mt_wire.specs.declared.read.ReadQuery.TheVariants.{Gets, RangeBack, Count}
use Rattle.mt_wire.specs.Reading.{Reader, both, made, number_at, key_at, short_at, counted16_at, kind_at, end_rest}

unfoldable pub gets_at : Reader ReadQuery
gets_at = made (λ x. Gets x.0 x.1) (both (counted16_at key_at) short_at)

unfoldable pub range_back_at : Reader ReadQuery
range_back_at = made (λ x. RangeBack x.0.0 x.0.1 x.1) (both (both (kind_at end_rest) (number_at w16)) short_at)

unfoldable pub count_at : Reader ReadQuery
count_at = made (λ x. Count x.0.0 x.0.1 x.1) (both (both key_at (kind_at end_rest)) (number_at w32))

unfoldable pub read_rest : ℕ → Reader ReadQuery
read_rest kind =
    if kind == 13 then gets_at
    else if kind == 14 then range_back_at
    else if kind == 15 then count_at
    else λ bytes. None
