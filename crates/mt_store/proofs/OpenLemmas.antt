-- What is found as a store is opened again, and as one is made.
use Rattle.std.proofs.Common.{◌≡◌, ℕ, ◌≤◌, ◌∙◌, List, [], length, map, take, ap, sym, arith}
use Rattle.std.proofs.lemmas.List.{length-map, length-take-le, take_all}
use Rattle.mt_types.specs.Rows.{after}
use Rattle.mt_types.specs.declared.row.Change.{Change}
use Rattle.mt_promise.specs.History.{History, moment}
use Rattle.mt_commit.proofs.DeltaLemmas.{deltas_of-length}
use Rattle.mt_commit.specs.Logged.{deltas_of}
use Rattle.mt_index.specs.Stands.{MachineView, Stands}
use Rattle.mt_frame.specs.declared.entry.Entry.{Entry}
use Rattle.mt_frame.specs.declared.entry.LogHeader.{LogHeader}
use Rattle.mt_frame.specs.declared.entry.Record.{Record}
use Rattle.mt_journal.specs.declared.position.Position.{Position}
use Rattle.mt_journal.specs.Keeping.{Keeps}
use Rattle.mt_journal.specs.Laws.{LogsReadOneWay}
use Rattle.mt_journal.specs.Log.{IsLog}
use Rattle.mt_replay.specs.Replay.{change_again, record_of, records_of, records_in}
use Rattle.mt_replay.proofs.ReplayLemmas.{prefixes_make_records, prefixes_make_rows}
use Rattle.mt_store.specs.Extending.{Adds}
use Rattle.mt_store.specs.Stored.{FindsAgain, IsStored, Recovers}
use Rattle.mt_store.proofs.RecordLemmas.{last_counts}

-- a map that was empty, and in which the commits of a log's entries were made again
module _ (C : ℕ) (first s : MachineView) (columns : first.columns ≡ C) (empty : Stands first []) (header : LogHeader) (entries : List Entry) (adds : Adds first (map change_again (records_in entries)) s) (at : Position) (seen : List ℕ) (may_leave : List ℕ → Type 0) (keeps : Keeps at seen may_leave header entries) where
  abbrev again : List Change
  again = map change_again (records_in entries)

  g : (h : History) × Stands s h × ((moment h).commits ≡ again)
  g = adds.1 [] empty

  -- if they are the first of some commits
  module _ (changes : List Change) (n : ℕ) (base : header.base ≡ 0) (own : header.columns ≡ C) (within : n ≤ length changes) (records : records_in entries ≡ take n (records_of C changes)) where
    many : length (records_in entries) ≡ n
    many =
        let all = length-map (deltas_of C changes) record_of ∙ deltas_of-length C changes in
        ap (λ (rs : List Record). length rs) records ∙ length-take-le n (records_of C changes) (omega (arith, all, within))

    same : records_of C again ≡ records_in entries
    same = ap (λ (rs : List Record). records_of C (map change_again rs)) records ∙ (prefixes_make_records C n changes ∙ sym records)

    counted : length again ≡ n
    counted = length-map (records_in entries) change_again ∙ many

    newest : at.newest ≡ n
    newest = let last = last_counts header.base entries in let is = keeps.newest in let count = many in omega (arith, last, is, count, base)

    is_stored : IsStored again s at seen may_leave
    is_stored =
        let same_columns : s.columns ≡ C = adds.0 ∙ columns in
        let whole : length (records_in entries) ≤ at.newest = let a = many in let b = newest in omega (arith, a, b) in
        let a = counted in
        let b = newest in
        record {
          made = record { h = g.0; stands = g.1; commits = g.2 };
          header = header;
          own = record { columns = own ∙ sym same_columns; base = base };
          entries = entries;
          keeps = keeps;
          within = omega (arith, a, b);
          written = sym (take_all at.newest (records_in entries) whole)
              ∙ (ap (take at.newest) (sym same) ∙ ap (λ (k : ℕ). take at.newest (records_of k again)) (sym same_columns));
        }

    pub finds_again : (durable : ℕ) → durable ≤ n → FindsAgain C changes durable s at seen may_leave
    finds_again durable kept = record {
      count = n;
      within = within;
      kept = kept;
      again = again;
      as_many = counted;
      same_records = same ∙ records;
      same_rows = ap (λ (rs : List Record). after C (map change_again rs)) records ∙ prefixes_make_rows C n changes;
      stored = is_stored;
    }

  -- over what is found after a crash
  pub opens_again : LogsReadOneWay → (changes : List Change) (durable : ℕ) (left : List ℕ) → IsLog header entries left → Recovers C changes durable left → FindsAgain C changes durable s at seen may_leave
  opens_again one_way changes durable left log r =
      let (headers, lists) = one_way r.header header r.entries entries left r.log log in
      finds_again changes r.count (ap (λ (h : LogHeader). h.base) (sym headers) ∙ r.own.base) (ap (λ (h : LogHeader). h.columns) (sym headers) ∙ r.own.columns) r.within (ap records_in (sym lists) ∙ r.records) durable r.kept
