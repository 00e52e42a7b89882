-- Reading queries from left to right: a value and the bytes after it, or nothing if no value is spelled there. Contracts
-- of private calls speak of it; the laws say that it undoes spelling.
use Rattle.std.specs.Prelude.{◌≡◌, ℕ, zero, suc, List, [], ◌∷◌, length, take, drop, Option, Some, None, Result, Ok, Err, nat_lt, if◌then◌else◌}
use Rattle.std.specs.Int.{Width, w16, w64, byte_len, from_be_bytes}
use Rattle.mt_types.specs.declared.event.Request.TheVariants.{Get, Put, PutIf, Remove, Range, Tidy, Build}
use Rattle.mt_types.specs.declared.view.ViewSpec.{ViewSpec}
use Rattle.mt_types.specs.declared.view.ViewSpec.TheVariants.{Range as RangeOf, Prefix as PrefixOf}
use Rattle.mt_types.specs.declared.view.RowTest.{RowTest}
use Rattle.mt_types.specs.declared.view.RowTest.TheVariants.{Any, Equals, AtLeast}
use Rattle.mt_wire.specs.declared.query.Query.{Query}
use Rattle.mt_wire.specs.declared.query.Query.TheVariants.{Call, ViewRead, ViewDrop}
use Rattle.mt_wire.specs.declared.fault.ReadError.{ReadError}
use Rattle.mt_wire.specs.declared.fault.ReadError.TheVariants as errors

-- a way to read an A from the front
abbrev pub Reader : Type 0 → Type 0
Reader A = List ℕ → Option (A × List ℕ)

infixl 10 ◌>>=◌
abbrev pub ◌>>=◌ : {A B : Type 0} → Option A → (A → Option B) → Option B
(Some x) >>= f = f x
None >>= f = None

-- What a call returned, seen by view, is what was read, unless memory ran out.
abbrev pub Fails : {Y : Type 0} → ReadError → Option Y → Type 0
Fails errors.NoMemory read = Unit {0}
Fails errors.Misspelled read = read ≡ None

abbrev pub Gives : {X Y : Type 0} → (X → Y) → Result X ReadError → Option Y → Type 0
Gives view (Ok x) read = read ≡ Some (view x)
Gives view (Err e) read = Fails e read

-- one after the other
abbrev pub both : {A B : Type 0} → Reader A → Reader B → Reader (A × B)
both a b bytes = do
  x ← a bytes
  y ← b x.1
  Some ((x.0, y.0), y.1)

-- what is made of it
abbrev pub made : {A B : Type 0} → (A → B) → Reader A → Reader B
made f a bytes = do
  x ← a bytes
  Some (f x.0, x.1)

-- no bytes
abbrev pub nothing_at : Reader (Unit {0})
nothing_at bytes = Some (tt, bytes)

-- as many bytes
unfoldable pub bytes_at : ℕ → Reader (List ℕ)
bytes_at n bytes = if nat_lt (length bytes) n then None else Some (take n bytes, drop n bytes)

unfoldable pub number_at : Width → Reader ℕ
number_at w bytes =
    if nat_lt (length bytes) (byte_len w) then None
    else Some (from_be_bytes w (take (byte_len w) bytes), drop (byte_len w) bytes)

unfoldable pub byte_at : Reader ℕ
byte_at [] = None
byte_at (byte ∷ rest) = Some (byte, rest)

unfoldable pub key_at : Reader (List ℕ)
key_at bytes = do
  n ← number_at w16 bytes
  bytes_at n.0 n.1

unfoldable pub short_at : Reader (List ℕ)
short_at bytes = do
  n ← byte_at bytes
  bytes_at n.0 n.1

-- as many items
unfoldable pub times_at : {A : Type 0} → Reader A → ℕ → Reader (List A)
times_at item zero bytes = Some ([], bytes)
times_at item (suc n) bytes = do
  first ← item bytes
  others ← times_at item n first.1
  Some (first.0 ∷ others.0, others.1)

-- a byte that counts them, and the items
unfoldable pub counted_at : {A : Type 0} → Reader A → Reader (List A)
counted_at item bytes = do
  n ← byte_at bytes
  times_at item n.0 n.1

-- two bytes that count them, and the items
unfoldable pub counted16_at : {A : Type 0} → Reader A → Reader (List A)
counted16_at item bytes = do
  n ← number_at w16 bytes
  times_at item n.0 n.1

-- a byte that says the kind, and what comes after it
unfoldable pub kind_at : {A : Type 0} → (ℕ → Reader A) → Reader A
kind_at rest_at bytes = do
  kind ← byte_at bytes
  rest_at kind.0 kind.1

unfoldable pub set_at : Reader (ℕ × List ℕ)
set_at = both byte_at short_at

unfoldable pub test_rest : ℕ → Reader RowTest
test_rest zero = made (λ _. Any) nothing_at
test_rest (suc zero) = made (λ x. Equals x.0 x.1) (both byte_at short_at)
test_rest (suc (suc zero)) = made (λ x. AtLeast x.0 x.1) (both byte_at (number_at w64))
test_rest (suc (suc (suc kind))) = λ bytes. None

unfoldable pub end_rest : ℕ → Reader (Option (List ℕ))
end_rest zero = made (λ _. None) nothing_at
end_rest (suc zero) = made (λ x. Some x) key_at
end_rest (suc (suc kind)) = λ bytes. None

unfoldable pub spec_rest : ℕ → Reader ViewSpec
spec_rest zero = made (λ x. RangeOf x.0.0 x.0.1 x.1) (both (both key_at (kind_at end_rest)) (kind_at test_rest))
spec_rest (suc zero) = made (λ x. PrefixOf x.0 x.1) (both key_at (kind_at test_rest))
spec_rest (suc (suc kind)) = λ bytes. None

-- the fields of each kind of query
unfoldable pub get_at : Reader Query
get_at = made (λ x. Call (Get x.0 x.1)) (both key_at short_at)

unfoldable pub put_at : Reader Query
put_at = made (λ x. Call (Put x.0 x.1)) (both key_at (counted_at set_at))

unfoldable pub put_if_at : Reader Query
put_if_at = made (λ x. Call (PutIf x.0.0 x.1 x.0.1)) (both (both key_at (number_at w64)) (counted_at set_at))

unfoldable pub remove_at : Reader Query
remove_at = made (λ x. Call (Remove x)) key_at

unfoldable pub range_at : Reader Query
range_at = made (λ x. Call (Range x.0.0 x.0.1 x.1)) (both (both key_at (number_at w16)) short_at)

unfoldable pub tidy_at : Reader Query
tidy_at = made (λ x. Call (Tidy x)) key_at

unfoldable pub build_at : Reader Query
build_at = made (λ x. Call (Build x)) (kind_at spec_rest)

unfoldable pub view_read_at : Reader Query
view_read_at =
    made (λ x. ViewRead (record { 0 = x.0.0.0 }) x.0.0.1 x.0.1 x.1)
    (both (both (both (number_at w64) (number_at w64)) key_at) (number_at w16))

unfoldable pub view_drop_at : Reader Query
view_drop_at = made (λ x. ViewDrop (record { 0 = x })) (number_at w64)

unfoldable pub index_rest : ℕ → Reader Query
index_rest zero = λ bytes. None
index_rest (suc zero) = get_at
index_rest (suc (suc zero)) = put_at
index_rest (suc (suc (suc zero))) = remove_at
index_rest (suc (suc (suc (suc zero)))) = range_at
index_rest (suc (suc (suc (suc (suc zero))))) = tidy_at
index_rest (suc (suc (suc (suc (suc (suc zero)))))) = build_at
index_rest (suc (suc (suc (suc (suc (suc (suc zero))))))) = view_read_at
index_rest (suc (suc (suc (suc (suc (suc (suc (suc zero)))))))) = view_drop_at
index_rest (suc (suc (suc (suc (suc (suc (suc (suc (suc zero))))))))) = put_if_at
index_rest (suc (suc (suc (suc (suc (suc (suc (suc (suc (suc kind)))))))))) = λ bytes. None
