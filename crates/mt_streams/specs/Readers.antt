-- What contracts see of readers that count their calls.
use Rattle.std.specs.Prelude.{ℕ, Bool}
use Rattle.mt_streams.specs.declared.counted.Counted.{Counted}

-- the reader in it
abbrev pub counted_reader : {R : Type 0} → Counted R → R
counted_reader c = c.reader

-- how often it may still be called
abbrev pub calls_left : {R : Type 0} → Counted R → ℕ
calls_left c = c.left

-- whether its last read failed: its reader's own call, or one past the most
abbrev pub has_failed : {R : Type 0} → Counted R → Bool
has_failed c = c.failed
