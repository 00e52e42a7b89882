-- Where the commits of a log can't be made again, and why.
use Rattle.std.proofs.Common.{◌≡◌, ℕ, Bool, ◌<◌, ◌+◌, ◌^◌, ◌∙◌, ◌++◌, ◌∷◌, List, [], length, map, take, drop, get_or, Err, inl, inr, ap, sym, subst, arith}
use Rattle.std.specs.Prelude.{IsTrue}
use Rattle.std.proofs.lemmas.List.{append_assoc, drop_more, length-append, length-map, map-append, take-append-drop}
use Rattle.std.specs.FinMap.{get}
use Rattle.mt_types.specs.Rows.{after}
use Rattle.mt_types.specs.declared.row.Change.{Change}
use Rattle.mt_promise.specs.History.{moment}
use Rattle.mt_promise.specs.Legal.{Legal}
use Rattle.mt_index.specs.Stands.{MachineView, Stands}
use Rattle.mt_frame.specs.declared.entry.Commits.{Commits}
use Rattle.mt_frame.specs.declared.entry.Entry.{Entry}
use Rattle.mt_frame.specs.declared.entry.Entry.TheVariants.{Commits as Group}
use Rattle.mt_frame.specs.declared.entry.LogHeader.{LogHeader}
use Rattle.mt_frame.specs.declared.entry.Record.{Record}
use Rattle.mt_journal.specs.declared.error.JournalError.{JournalError}
use Rattle.mt_journal.specs.Laws.{LogsReadOneWay}
use Rattle.mt_journal.specs.Log.{IsLog, last_number}
use Rattle.mt_replay.specs.Replay.{change_again, records_in, records_of}
use Rattle.mt_replay.proofs.EntryLemmas.{records-append}
use Rattle.mt_store.specs.Again.{CannotRemake, EndsAt, NextFails}
use Rattle.mt_store.specs.Causes.{IsNoDamage, StartHasCause}
use Rattle.mt_store.specs.Extending.{Adds}
use Rattle.mt_store.specs.Stored.{HasMade, Recovers}
use Rattle.mt_store.specs.declared.error.StoreError.{StoreError}
use Rattle.mt_store.specs.declared.error.StoreError.TheVariants.{Refused, Behind, NotWritten, Journal, Damaged}
use Rattle.mt_store.proofs.ExtendLemmas.{adds_both}
use Rattle.mt_store.proofs.RecordLemmas.{few_taken, last_counts, records_of-length}
use Rattle.mt_store.proofs.RemoveLemmas.{never_lacks}

-- ---- records around others
pub ends_within : (first mid : MachineView) (before records more : List Record) (error : StoreError) → Adds first (map change_again before) mid → EndsAt mid records error → EndsAt first (before ++ (records ++ more)) error
ends_within first mid before records more error so_far e = record {
  made = before ++ e.made;
  next = e.next;
  rest = e.rest ++ more;
  parts = ap (λ (rs : List Record). before ++ (rs ++ more)) e.parts
      ∙ (ap (λ (rs : List Record). before ++ rs) (append_assoc e.made (e.next ∷ e.rest) more)
      ∙ sym (append_assoc before e.made (e.next ∷ e.rest ++ more)));
  at = e.at;
  adds = subst (λ (cs : List Change). Adds first cs e.at) (sym (map-append change_again before e.made))
      (adds_both first mid e.at (map change_again before) (map change_again e.made) so_far e.adds);
  fails = e.fails;
}

split_at : {A : Type 0} (n : ℕ) (xs : List A) (x : A) → n < length xs → x ≡ get_or xs n x → xs ≡ take n xs ++ x ∷ drop (n + 1) xs
split_at n xs x less is = sym (take-append-drop n xs) ∙ ap (λ ys. take n xs ++ ys) (drop_more xs n x less ∙ ap (λ y. y ∷ drop (n + 1) xs) (sym is))

pub ends_there : (first mid : MachineView) (records : List Record) (n : ℕ) (r : Record) (error : StoreError) → n < length records → r ≡ get_or records n r → Adds first (map change_again (take n records)) mid → NextFails error mid r → EndsAt first records error
ends_there first mid records n r error less is so_far fails = record {
  made = take n records;
  next = r;
  rest = drop (n + 1) records;
  parts = split_at n records r less is;
  at = mid;
  adds = so_far;
  fails = fails;
}

pub ends_in_entry : (first mid : MachineView) (entries : List Entry) (n : ℕ) (entry : Entry) (commits : Commits) (error : StoreError) → n < length entries → entry ≡ get_or entries n entry → entry ≡ Group commits
    → Adds first (map change_again (records_in (take n entries))) mid → EndsAt mid commits.records error → EndsAt first (records_in entries) error
ends_in_entry first mid entries n entry commits error less is group so_far ends =
    let parts : records_in entries ≡ records_in (take n entries) ++ (commits.records ++ records_in (drop (n + 1) entries))
    = ap records_in (split_at n entries entry less is)
    ∙ (ap (λ (e : Entry). records_in (take n entries ++ e ∷ drop (n + 1) entries)) group
    ∙ records-append (take n entries) (Group commits ∷ drop (n + 1) entries)) in
    subst (λ (rs : List Record). EndsAt first rs error) (sym parts) (ends_within first mid (records_in (take n entries)) commits.records (records_in (drop (n + 1) entries)) error so_far ends)

-- ---- a log that is opened
module _ (C : ℕ) (bytes : List ℕ) (first : MachineView) (columns : first.columns ≡ C) (empty : Stands first []) (header : LogHeader) (entries : List Entry) (own : header.columns ≡ C) (log : IsLog header entries bytes) (small : last_number header.base entries < 2 ^ 64) where
  pub cannot : (error : StoreError) → EndsAt first (records_in entries) error → CannotRemake C bytes error
  cannot (Refused refusal) e =
      let (g, there, is) = e.adds.1 [] empty in
      elim e.fails [
        | inl none ↦ inl none
        | inr came ↦ inr (record {
          header = header;
          columns = own;
          entries = entries;
          log = log;
          so = record {
            made = e.made;
            next = e.next;
            rest = e.rest;
            parts = e.parts;
            s = e.at;
            columns = e.adds.0 ∙ columns;
            has_made = record { h = g; stands = there; commits = is };
            then = came.0;
            refuses = came.1;
          };
        })
      ]
  cannot (Damaged commit) e =
      let (g, there, is) = e.adds.1 [] empty in
      let many = ap (λ (cs : List Change). length cs) is ∙ length-map e.made change_again in
      let last = last_counts header.base entries in
      let all = ap (λ (rs : List Record). length rs) e.parts ∙ length-append e.made (e.next ∷ e.rest) in
      record {
        header = header;
        columns = own;
        entries = entries;
        log = log;
        so = record {
          made = e.made;
          key = e.fails.key;
          rest = e.rest;
          parts = e.parts ∙ ap (λ (r : Record). e.made ++ r ∷ e.rest) e.fails.removes;
          number = e.fails.number g there (omega (arith, many, last, all, small)) ∙ ap (λ (n : ℕ). n + 1) many;
          none = ap (λ (cs : List Change). get (after C cs) e.fails.key) (sym is)
              ∙ (ap (λ (k : ℕ). get (after k (moment g).commits) e.fails.key) (sym (e.adds.0 ∙ columns)) ∙ e.fails.none g there);
        };
      }
  cannot Behind e = e.fails
  cannot (NotWritten commit error) e = e.fails
  cannot (Journal error) e = e.fails

-- which error that is
pub start_fails : (T : Type 0) (C : ℕ) (bytes : List ℕ) (usable : Bool) (wrong : JournalError → Type 0) (P : Type 0) (first : MachineView) (records : List Record) (old new : ℕ) → IsTrue usable
    → (error : StoreError) → EndsAt first records error → (P → CannotRemake C bytes error) → StartHasCause {T = T} (Err error) usable wrong (λ e. P → CannotRemake C bytes e) old new
start_fails T C bytes usable wrong P first records old new is (Refused refusal) ends cannot = cannot
start_fails T C bytes usable wrong P first records old new is (Damaged commit) ends cannot = (is, cannot)
start_fails T C bytes usable wrong P first records old new is Behind ends cannot = absurd ends.fails
start_fails T C bytes usable wrong P first records old new is (NotWritten commit error) ends cannot = absurd ends.fails
start_fails T C bytes usable wrong P first records old new is (Journal error) ends cannot = absurd ends.fails

-- over what a crash has left of a store no commit is damaged
pub no_damage : LogsReadOneWay → (C : ℕ) (bytes : List ℕ) (s : MachineView) (changes : List Change) (durable : ℕ) → HasMade changes s → s.columns ≡ C → Recovers C changes durable bytes → (error : StoreError) → CannotRemake C bytes error → IsNoDamage error
no_damage one_way C bytes s changes durable made columns r (Refused refusal) fails = tt
no_damage one_way C bytes s changes durable made columns r (Damaged commit) fails =
    let (headers, lists) = one_way r.header fails.header r.entries fails.entries bytes r.log fails.log in
    let legal = made.stands.legal in
    absurd (never_lacks C made.h changes (subst (λ (k : ℕ). Legal k made.h) columns legal) made.commits r.count fails.so.made fails.so.rest fails.so.key (sym r.records ∙ (ap records_in lists ∙ fails.so.parts)) fails.so.none)
no_damage one_way C bytes s changes durable made columns r Behind fails = absurd fails
no_damage one_way C bytes s changes durable made columns r (NotWritten commit error) fails = absurd fails
no_damage one_way C bytes s changes durable made columns r (Journal error) fails = absurd fails

-- and the numbers of its log fit
pub numbers_fit : (C : ℕ) (changes : List Change) (durable : ℕ) (bytes : List ℕ) (r : Recovers C changes durable bytes) → length changes < 2 ^ 64 → last_number r.header.base r.entries < 2 ^ 64
numbers_fit C changes durable bytes r small =
    let last = last_counts r.header.base r.entries in
    let base = r.own.base in
    let few = few_taken r.count (records_of C changes) in
    let many = ap (λ (rs : List Record). length rs) r.records in
    let all = records_of-length C changes in
    omega (arith, last, base, few, many, all, small)
