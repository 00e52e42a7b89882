-- The commits of records, made again, make the same rows.
use Rattle.std.proofs.Common.{◌≡◌, ℕ, zero, suc, ◌+◌, ◌<◌, ◌==◌, Bool, true, false, List, [], ◌∷◌, length, map, take, Option, Some, None, ap, sym, refl, ◌∙◌, arith}
use Rattle.std.specs.Prelude.{if◌then◌else◌}
use Rattle.std.specs.FinMap.{get, insert, empty}
use Rattle.std.specs.List.{take-map}
use Rattle.std.proofs.lemmas.Bool.{eqb-true, eq-eqb}
use Rattle.mt_types.specs.Rows.{Rows, after, after_change, after_from, new_bytes, new_columns, columns_before}
use Rattle.mt_types.specs.declared.row.Change.{Change}
use Rattle.mt_types.specs.declared.row.Change.TheVariants.{Put, Drop}
use Rattle.mt_types.specs.declared.row.Delta.{Delta}
use Rattle.mt_types.specs.declared.row.Row.{Row}
use Rattle.mt_commit.specs.Logged.{delta_made, deltas_from, deltas_of, key_of}
use Rattle.mt_commit.proofs.DeltaLemmas.{get-row_put}
use Rattle.mt_frame.specs.declared.entry.Record.{Record}
use Rattle.mt_replay.specs.Replay.{PrefixesMakeRecords, PrefixesMakeRows, change_again, left_of, numbered, record_of, records_of}

-- ---- all columns are replaced
-- a set of a column before the first is passed
unequal : (i j : ℕ) → i < j → (i == j) ≡ false
unequal i j less = elim (i == j) as (λ (b : Bool). (i == j) ≡ b → (i == j) ≡ false) [
  | true ↦ λ e. absurd (let same : i ≡ j = eqb-true i j e in omega (arith, same, less))
  | false ↦ λ e. e
] refl

passes : (i j : ℕ) (column : List ℕ) (sets : List (ℕ × List ℕ)) (olds : List (List ℕ)) → i < j → new_columns ((i, column) ∷ sets) j olds ≡ new_columns sets j olds
passes i j column sets [] less = refl
passes i j column sets (old ∷ olds) less =
    ap (λ (b : Bool). (if b then column else new_bytes sets j old) ∷ new_columns ((i, column) ∷ sets) (j + 1) olds) (unequal i j less)
    ∙ ap (λ (columns : List (List ℕ)). new_bytes sets j old ∷ columns) (passes i (j + 1) column sets olds (omega (arith, less)))

pub all_new : (i : ℕ) (columns olds : List (List ℕ)) → length columns ≡ length olds → new_columns (numbered i columns) i olds ≡ columns
all_new i [] [] same = refl
all_new i [] (old ∷ olds) same = absurd (omega (arith, same))
all_new i (column ∷ columns) [] same = absurd (omega (arith, same))
all_new i (column ∷ columns) (old ∷ olds) same =
    ap (λ (b : Bool). (if b then column else new_bytes (numbered (i + 1) columns) i old) ∷ new_columns ((i, column) ∷ numbered (i + 1) columns) (i + 1) olds) (eq-eqb i i refl)
    ∙ ap (λ (rest : List (List ℕ)). column ∷ rest) (passes i (i + 1) column (numbered (i + 1) columns) olds (omega arith) ∙ all_new (i + 1) columns olds (omega (arith, same)))

-- a put leaves as many columns as there were
as_many : (sets : List (ℕ × List ℕ)) (i : ℕ) (olds : List (List ℕ)) → length (new_columns sets i olds) ≡ length olds
as_many sets i [] = refl
as_many sets i (old ∷ olds) = ap (λ (n : ℕ). suc n) (as_many sets (i + 1) olds)

-- ---- one commit
one_again : (C number : ℕ) (rows : Rows) (change : Change) → after_change C number (change_again (record_of (delta_made C number change rows))) rows ≡ after_change C number change rows
one_again C number rows (Put key sets) =
    let olds : List (List ℕ) = columns_before C (get rows key) in
    let row : Row = record { version = number; columns = new_columns sets 0 olds } in
    ap (λ (found : Option Row). after_change C number (change_again (left_of key found)) rows) (get-row_put key (Some row) rows)
    ∙ ap (λ (columns : List (List ℕ)). insert rows key (record { version = number; columns = columns })) (all_new 0 (new_columns sets 0 olds) olds (as_many sets 0 olds))
one_again C number rows (Drop key) = ap (λ (found : Option Row). after_change C number (change_again (left_of key found)) rows) (get-row_put key None rows)

-- ---- all of them
pub all_again : (C n : ℕ) (rows : Rows) (changes : List Change) → after_from C n rows (map change_again (map record_of (deltas_from C n rows changes))) ≡ after_from C n rows changes
all_again C n rows [] = refl
all_again C n rows (change ∷ changes) =
    let made : Rows = after_change C (n + 1) change rows in
    ap (λ (rs : Rows). after_from C (n + 1) rs (map change_again (map record_of (deltas_from C (n + 1) made changes)))) (one_again C (n + 1) rows change)
    ∙ all_again C (n + 1) made changes

-- ---- and they leave the same records
key_again : (key : List ℕ) (row : Option Row) → key_of (change_again (left_of key row)) ≡ key
key_again key None = refl
key_again key (Some row) = refl

one_record : (C number : ℕ) (rows : Rows) (change : Change) → record_of (delta_made C number (change_again (record_of (delta_made C number change rows))) rows) ≡ record_of (delta_made C number change rows)
one_record C number rows change =
    let again : Change = change_again (record_of (delta_made C number change rows)) in
    let same : key_of again ≡ key_of change = key_again (key_of change) (get (after_change C number change rows) (key_of change)) in
    ap (λ (key : List ℕ). left_of key (get (after_change C number again rows) key)) same
    ∙ ap (λ (rs : Rows). left_of (key_of change) (get rs (key_of change))) (one_again C number rows change)

all_records : (C n : ℕ) (rows : Rows) (changes : List Change) → map record_of (deltas_from C n rows (map change_again (map record_of (deltas_from C n rows changes)))) ≡ map record_of (deltas_from C n rows changes)
all_records C n rows [] = refl
all_records C n rows (change ∷ changes) =
    let made : Rows = after_change C (n + 1) change rows in
    let again : List Change = map change_again (map record_of (deltas_from C (n + 1) made changes)) in
    let first : Record = record_of (delta_made C (n + 1) change rows) in
    ap (λ (r : Record). r ∷ map record_of (deltas_from C (n + 1) (after_change C (n + 1) (change_again first) rows) again)) (one_record C (n + 1) rows change)
    ∙ (ap (λ (rs : Rows). first ∷ map record_of (deltas_from C (n + 1) rs again)) (one_again C (n + 1) rows change)
    ∙ ap (λ (rs : List Record). first ∷ rs) (all_records C (n + 1) made changes))

-- the first deltas are those of the first changes
pub deltas_taken : (C n m : ℕ) (rows : Rows) (changes : List Change) → take m (deltas_from C n rows changes) ≡ deltas_from C n rows (take m changes)
deltas_taken C n zero rows changes = refl
deltas_taken C n (suc m) rows [] = refl
deltas_taken C n (suc m) rows (change ∷ changes) =
    ap (λ (deltas : List Delta). delta_made C (n + 1) change rows ∷ deltas) (deltas_taken C (n + 1) m (after_change C (n + 1) change rows) changes)

-- the first records are those of the first changes
pub records_taken : (C m : ℕ) (changes : List Change) → take m (records_of C changes) ≡ records_of C (take m changes)
records_taken C m changes = take-map record_of m (deltas_of C changes) ∙ ap (map record_of) (deltas_taken C 0 m empty changes)

pub prefixes_make_records : PrefixesMakeRecords
prefixes_make_records C m changes =
    ap (λ (records : List Record). records_of C (map change_again records)) (records_taken C m changes)
    ∙ (all_records C 0 empty (take m changes) ∙ sym (records_taken C m changes))

pub prefixes_make_rows : PrefixesMakeRows
prefixes_make_rows C m changes =
    ap (λ (records : List Record). after C (map change_again records)) (records_taken C m changes)
    ∙ all_again C 0 empty (take m changes)
