-- Reading undoes the spelling of rows: alone, under their keys, and of keys that may have none.
use Rattle.std.proofs.Common.{◌≡◌, ℕ, zero, suc, ◌^◌, ◌<◌, ◌≤◌, Bool, true, false, cond, ltb, List, [], ◌∷◌, ◌++◌, length, Option, Some, None, refl, subst, arith}
use Rattle.std.specs.Prelude.{IfSome}
use Rattle.std.specs.List.{AllByRecursion}
use Rattle.std.specs.Int.{w64, to_be_bytes}
use Rattle.std.proofs.lemmas.Bool.{ltb-false, le-ltb}
use Rattle.mt_types.specs.declared.row.Row.{Row}
use Rattle.mt_types.specs.declared.limits.TheConstants.{MAX_KEY_BYTES}
use Rattle.mt_wire.specs.Spelling.{key_spelling, row_spelling, pair_spelling, pairs_spelling, found_spelling}
use Rattle.mt_wire.specs.Fits.{Counted16Fits, RowLengths, PairNumbers}
use Rattle.mt_wire.specs.Reading.{byte_at, number_at, key_at, counted16_at, kind_at}
use Rattle.mt_wire.proofs.ResponseReading.{row_at, index_key_at, pair_at, found_rest}
use Rattle.mt_wire.proofs.Exact.{IsBytes, Takes, IsExact, bind_some, wide64, both_exact, made_takes, made_again, made_exact, kind_exact, nothing_exact, number_exact, key_exact, short_exact, counted_exact, counted16_exact}

n64 : IsExact ℕ (λ n. n < 2 ^ 64) (λ n. to_be_bytes w64 n) (number_at w64)
n64 = number_exact w64 (2 ^ 64) wide64

abbrev pub RowFits : Row → Type 0
RowFits row = (row.version < 2 ^ 64) × RowLengths row

pub row_exact : IsExact Row RowFits row_spelling row_at
unfolding row_at
row_exact = made_exact (λ x. record { version = x.0; columns = x.1 }) (λ row. (row.version, row.columns)) row_spelling RowFits (both_exact n64 (counted_exact short_exact))
    (λ x h. refl) (λ x h. h) (λ y h. h) (λ y. refl) (λ y. refl)

guard_short : {A : Type 0} (b : Bool) (x y : A) → cond b None (Some x) ≡ Some y → (b ≡ false) × (x ≡ y)
guard_short true x y e = absurd cc
guard_short false x y e = (refl, cc)

abbrev pub IndexKeyFits : List ℕ → Type 0
IndexKeyFits key = length key ≤ MAX_KEY_BYTES

index_key_takes : (bytes : List ℕ) (x : List ℕ × List ℕ) → IsBytes bytes → index_key_at bytes ≡ Some x → Takes bytes (key_spelling x.0) x.1 × IndexKeyFits x.0
unfolding index_key_at
index_key_takes bytes x fits e =
    let p = bind_some (key_at bytes) (λ key. cond (ltb MAX_KEY_BYTES (length key.0)) None (Some (key.0, key.1))) x e in
    let g = guard_short (ltb MAX_KEY_BYTES (length p.0.0)) (p.0.0, p.0.1) x p.2 in
    let t = key_exact.takes bytes p.0 fits p.1 in
    subst (λ (y : List ℕ × List ℕ). Takes bytes (key_spelling y.0) y.1 × IndexKeyFits y.0) g.1 (t.0, ltb-false _ _ g.0)

index_key_again : (key rest : List ℕ) → IndexKeyFits key → index_key_at (key_spelling key ++ rest) ≡ Some (key, rest)
unfolding index_key_at
index_key_again key rest h = rw (key_exact.again key rest (omega arith), le-ltb MAX_KEY_BYTES (length key) h) refl

index_key_exact : IsExact (List ℕ) IndexKeyFits key_spelling index_key_at
index_key_exact = record { takes = index_key_takes; again = index_key_again }

abbrev pub PairFits : List ℕ × Row → Type 0
PairFits pair = IndexKeyFits pair.0 × RowFits pair.1

pair_exact : IsExact (List ℕ × Row) PairFits pair_spelling pair_at
unfolding pair_at
pair_exact = both_exact index_key_exact row_exact

pub pairs_exact : IsExact (List (List ℕ × Row)) (Counted16Fits PairFits) pairs_spelling (counted16_at pair_at)
pairs_exact = counted16_exact pair_exact

pub pairs_parts : (pairs : List (List ℕ × Row)) → AllByRecursion PairFits pairs → AllByRecursion (λ pair. RowLengths pair.1) pairs × AllByRecursion PairNumbers pairs
pairs_parts [] h = (tt, tt)
pairs_parts (pair ∷ pairs) h = let others = pairs_parts pairs h.1 in ((h.0.1.1, others.0), ((h.0.0, h.0.1.0), others.1))

pub pairs_whole : (pairs : List (List ℕ × Row)) → AllByRecursion (λ pair. RowLengths pair.1) pairs → AllByRecursion PairNumbers pairs → AllByRecursion PairFits pairs
pairs_whole [] h k = tt
pairs_whole (pair ∷ pairs) h k = ((k.0.0, (k.0.1, h.0)), pairs_whole pairs h.1 k.1)

abbrev pub FoundFits : Option Row → Type 0
FoundFits found = IfSome found RowFits

key_found : (kind : ℕ) (bytes : List ℕ) (y : Option Row × List ℕ) → IsBytes bytes → found_rest kind bytes ≡ Some y → Takes (kind ∷ bytes) (found_spelling y.0) y.1 × FoundFits y.0
unfolding found_rest
key_found zero = made_takes (λ _. None) found_spelling FoundFits 0 nothing_exact (λ x. refl) (λ x h. tt)
key_found (suc zero) = made_takes (λ x. Some x) found_spelling FoundFits 1 row_exact (λ x. refl) (λ x h. h)
key_found (suc (suc kind)) = λ bytes y fits e. absurd cc

found_again : (x : Option Row) (rest : List ℕ) → FoundFits x → kind_at found_rest (found_spelling x ++ rest) ≡ Some (x, rest)
unfolding kind_at byte_at found_rest
found_again None rest h = refl
found_again (Some row) rest h = made_again (λ x. Some x) row_exact row rest h

pub found_exact : IsExact (Option Row) FoundFits found_spelling (kind_at found_rest)
found_exact = kind_exact key_found found_again

pub rows_parts : (rows : List (Option Row)) → AllByRecursion FoundFits rows → AllByRecursion (λ found. IfSome found RowLengths) rows × AllByRecursion (λ found. IfSome found (λ row. row.version < 2 ^ 64)) rows
rows_parts [] h = (tt, tt)
rows_parts (None ∷ rows) h = let others = rows_parts rows h.1 in ((tt, others.0), (tt, others.1))
rows_parts (Some row ∷ rows) h = let others = rows_parts rows h.1 in ((h.0.1, others.0), (h.0.0, others.1))

pub rows_whole : (rows : List (Option Row)) → AllByRecursion (λ found. IfSome found RowLengths) rows → AllByRecursion (λ found. IfSome found (λ row. row.version < 2 ^ 64)) rows → AllByRecursion FoundFits rows
rows_whole [] h k = tt
rows_whole (None ∷ rows) h k = (tt, rows_whole rows h.1 k.1)
rows_whole (Some row ∷ rows) h k = ((k.0, h.0), rows_whole rows h.1 k.1)
