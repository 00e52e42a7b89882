-- A remove of a legal history found its row, and finds it again as the commits of the history's records are made again.
use Rattle.std.proofs.Common.{◌≡◌, ◌⊎◌, ℕ, zero, suc, ◌+◌, ◌∙◌, ◌++◌, ◌∷◌, List, [], map, take, Option, Some, None, inl, inr, ap, sym, refl, subst}
use Rattle.std.specs.Prelude.{IsSome}
use Rattle.std.specs.FinMap.{get, empty}
use Rattle.mt_types.specs.Rows.{Rows, after, after_change, after_from, columns_before, new_columns}
use Rattle.mt_types.specs.declared.row.Row.{Row}
use Rattle.mt_types.specs.declared.row.Change.{Change}
use Rattle.mt_types.specs.declared.row.Change.TheVariants.{Put, Drop}
use Rattle.mt_promise.specs.History.{History, moment}
use Rattle.mt_promise.specs.Legal.{Legal}
use Rattle.mt_commit.specs.Logged.{delta_made, deltas_from}
use Rattle.mt_commit.proofs.DeltaLemmas.{get-row_put}
use Rattle.mt_frame.specs.declared.entry.Record.{Record}
use Rattle.mt_frame.specs.declared.entry.Record.TheVariants.{Row as RowOf, Removed}
use Rattle.mt_replay.specs.Replay.{change_again, left_of, record_of, records_of}
use Rattle.mt_reach.proofs.Removed.{removed_row}
use Rattle.mt_replay.proofs.ReplayLemmas.{all_again}

-- ---- the commit of a record
-- the change of which a record is, and the changes before it, which have the records before it
record IsMadeBy (C n : ℕ) (rows : Rows) (changes : List Change) (made : List Record) (r : Record) : Type 0 where
  first : List Change
  change : Change
  last : List Change
  parts : changes ≡ first ++ change ∷ last
  before : made ≡ map record_of (deltas_from C n rows first)
  number : ℕ
  own : r ≡ record_of (delta_made C number change (after_from C n rows first))

-- the same with one change more before them
made_later : (C n : ℕ) (rows : Rows) (change : Change) (changes : List Change) (x : Record) (made : List Record) (r : Record) → record_of (delta_made C (n + 1) change rows) ≡ x
    → IsMadeBy C (n + 1) (after_change C (n + 1) change rows) changes made r → IsMadeBy C n rows (change ∷ changes) (x ∷ made) r
made_later C n rows change changes x made r head is = record {
  first = change ∷ is.first;
  change = is.change;
  last = is.last;
  parts = ap (λ (l : List Change). change ∷ l) is.parts;
  before = ap (λ (y : Record). y ∷ made) (sym head) ∙ ap (λ (l : List Record). record_of (delta_made C (n + 1) change rows) ∷ l) is.before;
  number = is.number;
  own = is.own;
}

made_by : (C n : ℕ) (rows : Rows) (changes : List Change) (count : ℕ) (made rest : List Record) (r : Record) → take count (map record_of (deltas_from C n rows changes)) ≡ made ++ r ∷ rest → IsMadeBy C n rows changes made r
made_by C n rows changes zero [] rest r e = absurd (cc)
made_by C n rows changes zero (x ∷ made) rest r e = absurd (cc)
made_by C n rows [] (suc count) [] rest r e = absurd (cc)
made_by C n rows [] (suc count) (x ∷ made) rest r e = absurd (cc)
made_by C n rows (change ∷ changes) (suc count) [] rest r e =
    let own : record_of (delta_made C (n + 1) change rows) ≡ r = cc in
    record { first = []; change = change; last = changes; parts = refl; before = refl; number = n + 1; own = sym own }
made_by C n rows (change ∷ changes) (suc count) (x ∷ made) rest r e =
    let head : record_of (delta_made C (n + 1) change rows) ≡ x = cc in
    let tails : take count (map record_of (deltas_from C (n + 1) (after_change C (n + 1) change rows) changes)) ≡ made ++ r ∷ rest = cc in
    made_later C n rows change changes x made r head (made_by C (n + 1) (after_change C (n + 1) change rows) changes count made rest r tails)

-- a record of no row is that of a remove
drops : (C number : ℕ) (change : Change) (rows : Rows) (key : List ℕ) → Removed key ≡ record_of (delta_made C number change rows) → change ≡ Drop key
drops C number (Put k sets) rows key e =
    let put : Row = record { version = number; columns = new_columns sets 0 (columns_before C (get rows k)) } in
    let clash : Removed key ≡ RowOf k put.columns = e ∙ ap (λ (found : Option Row). left_of k found) (get-row_put k (Some put) rows) in
    absurd (cc)
drops C number (Drop k) rows key e =
    let same : Removed key ≡ Removed k = e ∙ ap (λ (found : Option Row). left_of k found) (get-row_put k None rows) in
    let keys : key ≡ k = cc in
    ap Drop (sym keys)

some_clash : (o : Option Row) → IsSome o → o ≡ None → ⊥
some_clash None some none = absurd (cc)
some_clash (Some row) some none = cc

-- REMOVES ARE FOUND AGAIN: among the first records of a legal history's commits is no remove of a key that has no row once
-- the commits of the records before it were made again
pub never_lacks : (C : ℕ) (h : History) (changes : List Change) → Legal C h → (moment h).commits ≡ changes → (count : ℕ) (made rest : List Record) (key : List ℕ)
    → take count (records_of C changes) ≡ made ++ Removed key ∷ rest → get (after C (map change_again made)) key ≡ None → ⊥
never_lacks C h changes legal are count made rest key e none =
    let is = made_by C 0 empty changes count made rest (Removed key) e in
    let drop = drops C is.number is.change (after_from C 0 empty is.first) key is.own in
    let some = removed_row C h legal is.first is.last key (are ∙ is.parts ∙ ap (λ (c : Change). is.first ++ c ∷ is.last) drop) in
    let same : after C (map change_again made) ≡ after C is.first = ap (λ (rs : List Record). after C (map change_again rs)) is.before ∙ all_again C 0 empty is.first in
    some_clash (get (after C is.first) key) some (ap (λ (rs : Rows). get rs key) (sym same) ∙ none)
