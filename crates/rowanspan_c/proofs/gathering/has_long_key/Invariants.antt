use Rattle.std.proofs.Common.{◌≡◌, drop, length}
use Rattle.std.specs.Prelude.{nat_lt}
use Rattle.std.specs.List.{list_any}
use Rattle.mt_types.specs.declared.limits.TheConstants.{MAX_KEY_BYTES}
use Rattle.rowanspan_c.specs.Keys.{keys_of}
use Rattle.rowanspan_c.proofs.gathering.has_long_key.Given as goal

abbrev pub invariant-loop-key : goal.invariant-loop-key
invariant-loop-key l =
    list_any (λ key. nat_lt MAX_KEY_BYTES (length key)) (keys_of (drop l.key-index l.keys))
    ≡ list_any (λ key. nat_lt MAX_KEY_BYTES (length key)) (keys_of l.keys)
