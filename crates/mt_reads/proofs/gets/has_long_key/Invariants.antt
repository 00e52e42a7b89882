use Rattle.std.proofs.Common.{◌≡◌, drop, length}
use Rattle.std.specs.Prelude.{nat_lt}
use Rattle.std.specs.List.{list_any}
use Rattle.mt_types.specs.declared.limits.TheConstants.{MAX_KEY_BYTES}
use Rattle.mt_reads.proofs.gets.has_long_key.Given as goal

abbrev pub invariant-loop-key : goal.invariant-loop-key
invariant-loop-key l =
    list_any (λ key. nat_lt MAX_KEY_BYTES (length key)) (drop l.key-index l.keys)
    ≡ list_any (λ key. nat_lt MAX_KEY_BYTES (length key)) l.keys
