-- Reading a body from left to right: a value and the bytes after it, or nothing if no value is spelled there. Contracts
-- of private calls speak of it; the laws say that it undoes spelling.
use Rattle.std.specs.Prelude.{◌≡◌, ◌==◌, ℕ, zero, suc, Bool, true, false, List, [], ◌∷◌, ◌++◌, length, Option, Some, None, Result, Ok, Err, nat_lt, bytes_eq, if◌then◌else◌}
use Rattle.std.specs.Int.{w16, w64}
use Rattle.mt_types.specs.Packed.{are_packable}
use Rattle.mt_types.specs.declared.row.Row.{Row as RowOf}
use Rattle.mt_types.specs.declared.limits.TheConstants.{MAX_KEY_BYTES}
use Rattle.mt_wire.specs.Reading.{Reader, ◌>>=◌, both, made, bytes_at, number_at, byte_at, key_at, short_at, times_at, counted_at, counted16_at, kind_at}
use Rattle.mt_frame.specs.declared.fault.ReadError.{ReadError}
use Rattle.mt_frame.specs.declared.fault.ReadError.TheVariants as errors
use Rattle.mt_frame.specs.declared.entry.Entry.{Entry}
use Rattle.mt_frame.specs.declared.entry.Entry.TheVariants.{Header, Commits as Group, Rows, Sealed, Closed}
use Rattle.mt_frame.specs.declared.entry.Record.{Record}
use Rattle.mt_frame.specs.declared.entry.Record.TheVariants.{Row, Removed}
use Rattle.mt_frame.specs.Spelling.{title}

-- What a call returned, seen by view, is what reading gives, unless memory ran out.
abbrev pub Fails : {Y : Type 0} → ReadError → Option Y → Type 0
Fails errors.NoMemory read = Unit {0}
Fails errors.Misspelled read = read ≡ None

abbrev pub Gives : {X Y : Type 0} → (X → Y) → Result X ReadError → Option Y → Type 0
Gives view (Ok x) read = read ≡ Some (view x)
Gives view (Err e) read = Fails e read

-- a byte, or bytes, before others that were read
abbrev pub with_byte : ℕ → Option (List ℕ) → Option (List ℕ)
with_byte byte None = None
with_byte byte (Some bytes) = Some (byte ∷ bytes)

abbrev pub before : List ℕ → Option (List ℕ) → Option (List ℕ)
before front None = None
before front (Some bytes) = Some (front ++ bytes)

-- the bytes of a text; the flag is that a 1 came just before
unfoldable pub unescaped : Bool → List ℕ → Option (List ℕ)
unescaped false [] = Some []
unescaped true [] = None
unescaped false (byte ∷ text) =
    if byte == 0 then None else if byte == 1 then unescaped true text else with_byte byte (unescaped false text)
unescaped true (byte ∷ text) =
    if byte == 1 then with_byte 0 (unescaped false text)
    else if byte == 2 then with_byte 1 (unescaped false text) else None

-- a key that is not too long
unfoldable pub limited_key_at : Reader (List ℕ)
limited_key_at bytes = do
  key ← key_at bytes
  if nat_lt MAX_KEY_BYTES (length key.0) then None else Some (key.0, key.1)

unfoldable pub columns_at : Reader (List (List ℕ))
columns_at bytes = do
  x ← counted_at short_at bytes
  if are_packable x.0 then Some (x.0, x.1) else None

unfoldable pub record_rest : ℕ → Reader Record
record_rest zero = λ bytes. None
record_rest (suc zero) = made (λ x. Row x.0 x.1) (both limited_key_at columns_at)
record_rest (suc (suc zero)) = made (λ x. Removed x) limited_key_at
record_rest (suc (suc (suc kind))) = λ bytes. None

-- two bytes that count them, and the records
unfoldable pub records_at : Reader (List Record)
records_at bytes = do
  n ← number_at w16 bytes
  times_at (kind_at record_rest) n.0 n.1

-- the title of a log
unfoldable pub title_at : Reader (Unit {0})
title_at bytes = do
  x ← bytes_at (length title) bytes
  if bytes_eq x.0 title then Some (tt, x.1) else None

unfoldable pub header_at : Reader Entry
header_at =
    made (λ x. Header (record { columns = x.0.0.0.1; generation = x.0.0.1; base = x.0.1; run = x.1 }))
    (both (both (both (both title_at byte_at) (number_at w64)) (number_at w64)) (number_at w64))

unfoldable pub commits_at : Reader Entry
commits_at =
    made (λ x. Group (record { first = x.0.0; durable = x.0.1; records = x.1 }))
    (both (both (number_at w64) (number_at w64)) records_at)

-- a row, and one with its key
unfoldable pub row_at : Reader RowOf
row_at = made (λ x. record { version = x.0; columns = x.1 }) (both (number_at w64) columns_at)

unfoldable pub pair_at : Reader (List ℕ × RowOf)
pair_at = both limited_key_at row_at

unfoldable pub pairs_at : Reader (List (List ℕ × RowOf))
pairs_at = counted16_at pair_at

unfoldable pub rows_at : Reader Entry
rows_at = made (λ x. Rows (record { at = x.0; rows = x.1 })) (both (number_at w64) pairs_at)

unfoldable pub sealed_at : Reader Entry
sealed_at = made (λ x. Sealed x) (number_at w64)

unfoldable pub closed_at : Reader Entry
closed_at = made (λ x. Closed x) (number_at w64)

unfoldable pub entry_rest : ℕ → Reader Entry
entry_rest zero = λ bytes. None
entry_rest (suc zero) = header_at
entry_rest (suc (suc zero)) = commits_at
entry_rest (suc (suc (suc zero))) = rows_at
entry_rest (suc (suc (suc (suc zero)))) = λ bytes. None
entry_rest (suc (suc (suc (suc (suc zero))))) = sealed_at
entry_rest (suc (suc (suc (suc (suc (suc zero)))))) = closed_at
entry_rest (suc (suc (suc (suc (suc (suc (suc kind))))))) = λ bytes. None

-- an entry, and nothing after it
unfoldable pub content_at : List ℕ → Option Entry
content_at bytes = do
  x ← kind_at entry_rest bytes
  if length x.1 == 0 then Some x.0 else None
