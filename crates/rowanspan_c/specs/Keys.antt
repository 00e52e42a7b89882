-- The keys that a caller in C passes.
use Rattle.std.specs.Prelude.{ℕ, List, map}
use Rattle.rowanspan_c.specs.declared.gathering.BorrowedKey.{BorrowedKey}

abbrev pub keys_of : List BorrowedKey → List (List ℕ)
keys_of keys = map (λ key. key.bytes.now) keys
