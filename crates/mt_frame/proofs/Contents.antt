-- Reading a content undoes its spelling.
use Rattle.std.proofs.Common.{◌≡◌, ℕ, zero, suc, ◌^◌, ◌<◌, ◌≤◌, ◌==◌, Bool, true, false, cond, ltb, List, [], ◌∷◌, ◌++◌, length, Some, None, refl, sym, ap, subst, ◌∙◌, arith, inl, inr, length-append}
use Rattle.std.specs.Prelude.{bytes_eq}
use Rattle.std.specs.List.{AllByRecursion, list_any}
use Rattle.std.specs.Int.{w64, to_be_bytes}
use Rattle.std.proofs.lemmas.Bool.{ltb-false, le-ltb}
use Rattle.std.proofs.lemmas.Bool.Decides.{eqb_tells, leb_tells}
use Rattle.std.proofs.lemmas.List.{append-nil}
use Rattle.std.proofs.lemmas.Slice.Eq.{bytes_eq-Decides}
use Rattle.mt_types.specs.Packed.{are_packable, ArePackable}
use Rattle.mt_types.specs.declared.row.Row.{Row as RowOf}
use Rattle.mt_types.specs.declared.limits.TheConstants.{MAX_KEY_BYTES}
use Rattle.mt_wire.specs.Spelling.{key_spelling, columns_spelling, row_spelling, pair_spelling, pairs_spelling}
use Rattle.mt_wire.specs.Reading.{bytes_at, number_at, byte_at, key_at, short_at, counted_at, counted16_at, kind_at}
use Rattle.mt_wire.proofs.Exact.{IsBytes, Takes, IsExact, bind_some, wide64, both_exact, made_takes, made_again, made_exact, kind_exact, byte_exact, bytes_take, number_exact, key_exact, short_exact, counted_exact, counted16_exact}
use Rattle.mt_frame.specs.declared.entry.Entry.{Entry}
use Rattle.mt_frame.specs.declared.entry.Entry.TheVariants.{Header, Commits as Group, Rows, Sealed, Closed}
use Rattle.mt_frame.specs.declared.entry.Record.{Record}
use Rattle.mt_frame.specs.declared.entry.Record.TheVariants.{Row, Removed}
use Rattle.mt_frame.specs.Spelling.{record_spelling, records_spelling, title, entry_spelling}
use Rattle.mt_frame.specs.Fits.{RecordFits, RowFits, PairFits, EntryFits}
use Rattle.mt_frame.specs.Reading.{limited_key_at, columns_at, record_rest, records_at, title_at, header_at, commits_at, row_at, pair_at, pairs_at, rows_at, sealed_at, closed_at, entry_rest, content_at}

abbrev n64 : IsExact ℕ (λ n. n < 2 ^ 64) (λ n. to_be_bytes w64 n) (number_at w64)
n64 = number_exact w64 (2 ^ 64) wide64

-- ---- keys and columns

guard_key : (b : Bool) (x y : List ℕ × List ℕ) → cond b None (Some x) ≡ Some y → (b ≡ false) × (x ≡ y)
guard_key true x y e = absurd cc
guard_key false x y e = (refl, cc)

guard_columns : (b : Bool) (x y : List (List ℕ) × List ℕ) → cond b (Some x) None ≡ Some y → (b ≡ true) × (x ≡ y)
guard_columns true x y e = (refl, cc)
guard_columns false x y e = absurd cc

abbrev KeyIsLimited : List ℕ → Type 0
KeyIsLimited key = length key ≤ MAX_KEY_BYTES

key_takes : (bytes : List ℕ) (x : List ℕ × List ℕ) → IsBytes bytes → limited_key_at bytes ≡ Some x → Takes bytes (key_spelling x.0) x.1 × KeyIsLimited x.0
unfolding limited_key_at
key_takes bytes x fits e =
    let p = bind_some (key_at bytes) (λ key. cond (ltb MAX_KEY_BYTES (length key.0)) None (Some (key.0, key.1))) x e in
    let g = guard_key (ltb MAX_KEY_BYTES (length p.0.0)) (p.0.0, p.0.1) x p.2 in
    let t = key_exact.takes bytes p.0 fits p.1 in
    subst (λ (y : List ℕ × List ℕ). Takes bytes (key_spelling y.0) y.1 × KeyIsLimited y.0) g.1 (t.0, ltb-false _ _ g.0)

key_again : (key rest : List ℕ) → KeyIsLimited key → limited_key_at (key_spelling key ++ rest) ≡ Some (key, rest)
unfolding limited_key_at
key_again key rest h = rw (key_exact.again key rest (omega arith), le-ltb MAX_KEY_BYTES (length key) h) refl

limited_key_exact : IsExact (List ℕ) KeyIsLimited key_spelling limited_key_at
limited_key_exact = record { takes = key_takes; again = key_again }

none_long : (columns : List (List ℕ)) → AllByRecursion (λ (column : List ℕ). length column < 2 ^ 8) columns → list_any (λ (column : List ℕ). ltb 255 (length column)) columns ≡ false
none_long [] all = refl
none_long (column ∷ columns) all = rw (le-ltb 255 (length column) (omega (arith, all.0)), none_long columns all.1) refl

packable : (columns : List (List ℕ)) → ArePackable columns → are_packable columns ≡ true
packable columns are = elim (leb_tells (length columns) 255) [
  | inl few ↦ rw (few.0, none_long columns are.1) refl
  | inr many ↦ absurd (omega (arith, many.1, are.0))
]

columns_take : (bytes : List ℕ) (x : List (List ℕ) × List ℕ) → IsBytes bytes → columns_at bytes ≡ Some x → Takes bytes (columns_spelling x.0) x.1 × ArePackable x.0
unfolding columns_at
columns_take bytes x fits e =
    let p = bind_some (counted_at short_at bytes) (λ y. cond (are_packable y.0) (Some (y.0, y.1)) None) x e in
    let g = guard_columns (are_packable p.0.0) (p.0.0, p.0.1) x p.2 in
    let t = (counted_exact short_exact).takes bytes p.0 fits p.1 in
    subst (λ (y : List (List ℕ) × List ℕ). Takes bytes (columns_spelling y.0) y.1 × ArePackable y.0) g.1 t

columns_again : (columns : List (List ℕ)) (rest : List ℕ) → ArePackable columns → columns_at (columns_spelling columns ++ rest) ≡ Some (columns, rest)
unfolding columns_at
columns_again columns rest are = rw ((counted_exact short_exact).again columns rest are, packable columns are) refl

columns_exact : IsExact (List (List ℕ)) ArePackable columns_spelling columns_at
columns_exact = record { takes = columns_take; again = columns_again }

-- ---- records

record_takes : (kind : ℕ) (bytes : List ℕ) (y : Record × List ℕ) → IsBytes bytes → record_rest kind bytes ≡ Some y → Takes (kind ∷ bytes) (record_spelling y.0) y.1 × RecordFits y.0
unfolding record_rest
record_takes zero = λ bytes y fits e. absurd cc
record_takes (suc zero) = made_takes (λ x. Row x.0 x.1) record_spelling RecordFits 1 (both_exact limited_key_exact columns_exact) (λ x. refl) (λ x h. (h.0, h.1))
record_takes (suc (suc zero)) = made_takes (λ x. Removed x) record_spelling RecordFits 2 limited_key_exact (λ x. refl) (λ x h. h)
record_takes (suc (suc (suc kind))) = λ bytes y fits e. absurd cc

record_again : (x : Record) (rest : List ℕ) → RecordFits x → kind_at record_rest (record_spelling x ++ rest) ≡ Some (x, rest)
unfolding kind_at byte_at record_rest
record_again (Row key columns) rest h = made_again (λ x. Row x.0 x.1) (both_exact limited_key_exact columns_exact) (key, columns) rest (h.0, h.1)
record_again (Removed key) rest h = made_again (λ x. Removed x) limited_key_exact key rest h

record_exact : IsExact Record RecordFits record_spelling (kind_at record_rest)
record_exact = kind_exact record_takes record_again

abbrev RecordsFit : List Record → Type 0
RecordsFit records = (length records < 2 ^ 16) × AllByRecursion RecordFits records

records_exact : IsExact (List Record) RecordsFit records_spelling records_at
unfolding records_at counted16_at
records_exact = counted16_exact record_exact

-- ---- rows with their keys

row_exact : IsExact RowOf RowFits row_spelling row_at
unfolding row_at
row_exact = made_exact (λ x. record { version = x.0; columns = x.1 }) (λ row. (row.version, row.columns)) row_spelling RowFits (both_exact n64 columns_exact) (λ x h. refl) (λ x h. (h.0, h.1)) (λ row h. (h.0, h.1)) (λ row. refl) (λ row. refl)

pair_exact : IsExact (List ℕ × RowOf) PairFits pair_spelling pair_at
unfolding pair_at
pair_exact = both_exact limited_key_exact row_exact

abbrev PairsFit : List (List ℕ × RowOf) → Type 0
PairsFit pairs = (length pairs < 2 ^ 16) × AllByRecursion PairFits pairs

pairs_exact : IsExact (List (List ℕ × RowOf)) PairsFit pairs_spelling pairs_at
unfolding pairs_at
pairs_exact = counted16_exact pair_exact

-- ---- the title

guard_title : (b : Bool) (x y : Unit {0} × List ℕ) → cond b (Some x) None ≡ Some y → (b ≡ true) × (x ≡ y)
guard_title true x y e = (refl, cc)
guard_title false x y e = absurd cc

title_takes : (bytes : List ℕ) (x : Unit {0} × List ℕ) → IsBytes bytes → title_at bytes ≡ Some x → Takes bytes title x.1 × Unit {0}
unfolding title_at
title_takes bytes x fits e =
    let p = bind_some (bytes_at (length title) bytes) (λ y. cond (bytes_eq y.0 title) (Some (tt, y.1)) None) x e in
    let g = guard_title (bytes_eq p.0.0 title) (tt, p.0.1) x p.2 in
    let t = bytes_take (length title) bytes p.0 fits p.1 in
    let same : p.0.0 ≡ title = (bytes_eq-Decides p.0.0 title).0 g.0 in
    let rest : p.0.1 ≡ x.1 = ap (λ (y : Unit {0} × List ℕ). y.1) g.1 in
    (subst (λ (r : List ℕ). Takes bytes title r) rest (subst (λ (n : List ℕ). Takes bytes n p.0.1) same t.0), tt)

title_again : (x : Unit {0}) (rest : List ℕ) → Unit {0} → title_at (title ++ rest) ≡ Some (x, rest)
unfolding title_at bytes_at
title_again x rest h =
    let long : ltb (length (title ++ rest)) (length title) ≡ false = le-ltb _ _ (omega (arith, length-append title rest)) in
    rw long refl

title_exact : IsExact (Unit {0}) (λ _. Unit {0}) (λ _. title) title_at
title_exact = record { takes = title_takes; again = title_again }

-- ---- entries

entry_takes : (kind : ℕ) (bytes : List ℕ) (y : Entry × List ℕ) → IsBytes bytes → entry_rest kind bytes ≡ Some y → Takes (kind ∷ bytes) (entry_spelling y.0) y.1 × EntryFits y.0
unfolding entry_rest header_at commits_at rows_at sealed_at closed_at
entry_takes zero = λ bytes y fits e. absurd cc
entry_takes (suc zero) =
    made_takes (λ x. Header (record { columns = x.0.0.0.1; generation = x.0.0.1; base = x.0.1; run = x.1 })) entry_spelling EntryFits 1 (both_exact (both_exact (both_exact (both_exact title_exact byte_exact) n64) n64) n64) (λ x. refl) (λ x h. (h.0.0.1, h.0.1, h.1))
entry_takes (suc (suc zero)) =
    made_takes (λ x. Group (record { first = x.0.0; durable = x.0.1; records = x.1 })) entry_spelling EntryFits 2 (both_exact (both_exact n64 n64) records_exact) (λ x. refl) (λ x h. (h.0.0, h.0.1, (omega (arith, h.1.0), h.1.1)))
entry_takes (suc (suc (suc zero))) =
    made_takes (λ x. Rows (record { at = x.0; rows = x.1 })) entry_spelling EntryFits 3 (both_exact n64 pairs_exact) (λ x. refl) (λ x h. (h.0, (omega (arith, h.1.0), h.1.1)))
entry_takes (suc (suc (suc (suc zero)))) = λ bytes y fits e. absurd cc
entry_takes (suc (suc (suc (suc (suc zero))))) = made_takes (λ x. Sealed x) entry_spelling EntryFits 5 n64 (λ x. refl) (λ x h. h)
entry_takes (suc (suc (suc (suc (suc (suc zero)))))) = made_takes (λ x. Closed x) entry_spelling EntryFits 6 n64 (λ x. refl) (λ x h. h)
entry_takes (suc (suc (suc (suc (suc (suc (suc kind))))))) = λ bytes y fits e. absurd cc

entry_again : (x : Entry) (rest : List ℕ) → EntryFits x → kind_at entry_rest (entry_spelling x ++ rest) ≡ Some (x, rest)
unfolding kind_at byte_at entry_rest header_at commits_at rows_at sealed_at closed_at
entry_again (Header h) rest fits =
    made_again (λ x. Header (record { columns = x.0.0.0.1; generation = x.0.0.1; base = x.0.1; run = x.1 })) (both_exact (both_exact (both_exact (both_exact title_exact byte_exact) n64) n64) n64) ((((tt, h.columns), h.generation), h.base), h.run) rest ((((tt, tt), fits.0), fits.1), fits.2)
entry_again (Group g) rest fits =
    made_again (λ x. Group (record { first = x.0.0; durable = x.0.1; records = x.1 })) (both_exact (both_exact n64 n64) records_exact) ((g.first, g.durable), g.records) rest ((fits.0, fits.1), (omega (arith, fits.2.0), fits.2.1))
entry_again (Rows p) rest fits =
    made_again (λ x. Rows (record { at = x.0; rows = x.1 })) (both_exact n64 pairs_exact) (p.at, p.rows) rest (fits.0, (omega (arith, fits.1.0), fits.1.1))
entry_again (Sealed n) rest fits = made_again (λ x. Sealed x) n64 n rest fits
entry_again (Closed n) rest fits = made_again (λ x. Closed x) n64 n rest fits

entry_exact : IsExact Entry EntryFits entry_spelling (kind_at entry_rest)
entry_exact = kind_exact entry_takes entry_again

-- ---- a content is an entry alone

guard_entry : (b : Bool) (x y : Entry) → cond b (Some x) None ≡ Some y → (b ≡ true) × (x ≡ y)
guard_entry true x y e = (refl, cc)
guard_entry false x y e = absurd cc

empty : (bytes : List ℕ) → (length bytes == 0) ≡ true → bytes ≡ []
empty [] e = refl
empty (b ∷ bytes) e = elim (eqb_tells (length (b ∷ bytes)) 0) [
  | inl none ↦ absurd (omega (arith, none.1))
  | inr some ↦ let k : true ≡ false = sym e ∙ some.0 in absurd (cc)
]

pub content_takes : (content : List ℕ) (entry : Entry) → IsBytes content → content_at content ≡ Some entry → (content ≡ entry_spelling entry) × EntryFits entry
unfolding content_at
content_takes content entry fits e =
    let p = bind_some (kind_at entry_rest content) (λ x. cond (length x.1 == 0) (Some x.0) None) entry e in
    let g = guard_entry (length p.0.1 == 0) p.0.0 entry p.2 in
    let t = entry_exact.takes content p.0 fits p.1 in
    let none = empty p.0.1 g.0 in
    let whole : content ≡ entry_spelling p.0.0 = t.0.parts ∙ ap (λ (l : List ℕ). entry_spelling p.0.0 ++ l) none ∙ append-nil (entry_spelling p.0.0) in
    subst (λ (x : Entry). (content ≡ entry_spelling x) × EntryFits x) g.1 (whole, t.1)

pub content_again : (entry : Entry) → EntryFits entry → content_at (entry_spelling entry) ≡ Some entry
unfolding content_at
content_again entry fits =
    let e = ap (kind_at entry_rest) (sym (append-nil (entry_spelling entry))) ∙ entry_exact.again entry [] fits in
    rw e refl
