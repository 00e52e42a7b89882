-- Records that follow the rows of an index: each, done again, leads from the rows before its commit to those after it.
use Rattle.std.proofs.Common.{◌≡◌, ℕ, zero, suc, ◌+◌, ◌-◌, ◌∙◌, ◌++◌, ◌∷◌, List, [], false, length, map, take, drop, Option, Some, None, ap, sym, subst, arith, length-append}
use Rattle.std.specs.FinMap.{get, empty}
use Rattle.std.proofs.lemmas.List.{append-nil}
use Rattle.mt_types.specs.Rows.{Rows, after, after_change, after_from, new_columns, columns_before}
use Rattle.mt_types.specs.declared.row.Change.{Change}
use Rattle.mt_types.specs.declared.row.Change.TheVariants.{Put, Drop}
use Rattle.mt_types.specs.declared.row.Row.{Row}
use Rattle.mt_commit.specs.Logged.{delta_made, deltas_from}
use Rattle.mt_commit.proofs.DeltaLemmas.{get-row_put}
use Rattle.mt_frame.specs.declared.entry.Entry.{Entry}
use Rattle.mt_frame.specs.declared.entry.Entry.TheVariants.{Header, Commits as Group, Rows as Listed, Sealed, Closed}
use Rattle.mt_frame.specs.declared.entry.Record.{Record}
use Rattle.mt_replay.specs.Replay.{left_of, record_of, records_in, records_of}
use Rattle.mt_replay.specs.Redo.{record_redone, records_redone, entry_redone, entries_redone, number_after}
use Rattle.mt_replay.specs.RedoLaws.{HaveCommits, CommitsAreRedone}
use Rattle.mt_replay.proofs.EntryLemmas.{records-append}

-- the records are those of the commits after n, by the rows after each number of commits
abbrev pub Follow : (ℕ → Rows) → ℕ → List Record → Type 0
Follow S n [] = Unit {0}
Follow S n (r ∷ rs) = (record_redone (n + 1) r (S n) ≡ S (n + 1)) × Follow S (n + 1) rs

-- ---- what commits leave follows them
made_redone : (C n : ℕ) (change : Change) (rows : Rows) → record_redone n (record_of (delta_made C n change rows)) rows ≡ after_change C n change rows
made_redone C n (Put key sets) rows =
    let row : Row = record { version = n; columns = new_columns sets 0 (columns_before C (get rows key)) } in
    ap (λ (found : Option Row). record_redone n (left_of key found) rows) (get-row_put key (Some row) rows)
made_redone C n (Drop key) rows = ap (λ (found : Option Row). record_redone n (left_of key found) rows) (get-row_put key None rows)

made_follow : (S : ℕ → Rows) (C n : ℕ) (rows : Rows) (cs : List Change) → ((i : ℕ) → S (n + i) ≡ after_from C n rows (take i cs)) → Follow S n (map record_of (deltas_from C n rows cs))
made_follow S C n rows [] is = tt
made_follow S C n rows (c ∷ cs) is =
    let none : n ≡ n + 0 = omega arith in
    let before : S n ≡ rows = ap S none ∙ is 0 in
    let made : Rows = after_change C (n + 1) c rows in (
      ap (record_redone (n + 1) (record_of (delta_made C (n + 1) c rows))) before ∙ made_redone C (n + 1) c rows ∙ sym (is 1),
      made_follow S C (n + 1) made cs (λ i. let e : n + 1 + i ≡ n + suc i = omega arith in ap S e ∙ is (suc i)),
    )

-- ---- some of them
follow_drop : (S : ℕ → Rows) (n b : ℕ) (rs : List Record) → Follow S n rs → Follow S (n + b) (drop b rs)
follow_drop S n zero rs f = let e : n ≡ n + 0 = omega arith in subst (λ (k : ℕ). Follow S k rs) e f
follow_drop S n (suc b) [] f = tt
follow_drop S n (suc b) (r ∷ rs) f =
    let e : n + 1 + b ≡ n + suc b = omega arith in
    subst (λ (k : ℕ). Follow S k (drop b rs)) e (follow_drop S (n + 1) b rs f.1)

follow_take : (S : ℕ → Rows) (n i : ℕ) (rs : List Record) → Follow S n rs → Follow S n (take i rs)
follow_take S n zero rs f = tt
follow_take S n (suc i) [] f = tt
follow_take S n (suc i) (r ∷ rs) f = (f.0, follow_take S (n + 1) i rs f.1)

pub follow_parts : (S : ℕ → Rows) (n : ℕ) (rs more : List Record) → Follow S n (rs ++ more) → Follow S n rs × Follow S (n + length rs) more
follow_parts S n [] more f = let e : n ≡ n + 0 = omega arith in (tt, subst (λ (k : ℕ). Follow S k more) e f)
follow_parts S n (r ∷ rs) more f =
    let e : n + 1 + length rs ≡ n + suc (length rs) = omega arith in
    let rest : Follow S (n + 1) rs × Follow S (n + 1 + length rs) more = follow_parts S (n + 1) rs more f.1 in
    ((f.0, rest.0), subst (λ (k : ℕ). Follow S k more) e rest.1)

-- the records of a log's entries follow the changes
pub entries_follow : (C : ℕ) (changes : List Change) (b : ℕ) (entries : List Entry) → HaveCommits C changes b entries → Follow (λ (j : ℕ). after C (take j changes)) b (records_in entries)
entries_follow C changes b entries have =
    let S : ℕ → Rows = λ (j : ℕ). after C (take j changes) in
    let own : (i : ℕ) → 0 + i ≡ i = λ (i : ℕ). omega arith in
    let all : Follow S 0 (records_of C changes) = made_follow S C 0 empty changes (λ i. ap S (own i)) in
    let later : Follow S b (drop b (records_of C changes)) = subst (λ (k : ℕ). Follow S k (drop b (records_of C changes))) (own b) (follow_drop S 0 b (records_of C changes) all) in
    subst (Follow S b) (sym have) (follow_take S b (number_after b entries - b) (drop b (records_of C changes)) later)

-- ---- one entry, and those after it
pub number-cons : (n : ℕ) (entry : Entry) (entries : List Entry) → number_after (number_after n (entry ∷ [])) entries ≡ number_after n (entry ∷ entries)
number-cons n entry entries =
    let parts : length (records_in (entry ∷ entries)) ≡ length (records_in (entry ∷ []) ++ records_in entries) = ap length (records-append (entry ∷ []) entries) in
    let sum : length (records_in (entry ∷ []) ++ records_in entries) ≡ length (records_in (entry ∷ [])) + length (records_in entries) = length-append (records_in (entry ∷ [])) (records_in entries) in
    omega (arith, parts, sum)

pub follow_cons : (S : ℕ → Rows) (n : ℕ) (entry : Entry) (entries : List Entry) → Follow S n (records_in (entry ∷ entries)) → Follow S n (records_in (entry ∷ [])) × Follow S (number_after n (entry ∷ [])) (records_in entries)
follow_cons S n entry entries f = follow_parts S n (records_in (entry ∷ [])) (records_in entries) (subst (Follow S n) (records-append (entry ∷ []) entries) f)

-- ---- done again on the rows before them, they make the rows after them
follow_redone : (S : ℕ → Rows) (n : ℕ) (rs : List Record) → Follow S n rs → records_redone n rs (S n) ≡ S (n + length rs)
follow_redone S n [] f = let e : n ≡ n + 0 = omega arith in ap S e
follow_redone S n (r ∷ rs) f =
    let e : n + 1 + length rs ≡ n + suc (length rs) = omega arith in
    ap (records_redone (n + 1) rs) f.0 ∙ follow_redone S (n + 1) rs f.1 ∙ ap S e

entry_follows : (S : ℕ → Rows) (n : ℕ) (entry : Entry) → Follow S n (records_in (entry ∷ [])) → entry_redone false n entry (S n) ≡ S (number_after n (entry ∷ []))
entry_follows S n (Header header) f = let e : n ≡ n + 0 = omega arith in ap S e
entry_follows S n (Group commits) f =
    follow_redone S n commits.records (subst (Follow S n) (append-nil commits.records) f)
    ∙ ap (λ (rs : List Record). S (n + length rs)) (sym (append-nil commits.records))
entry_follows S n (Listed part) f = let e : n ≡ n + 0 = omega arith in ap S e
entry_follows S n (Sealed count) f = let e : n ≡ n + 0 = omega arith in ap S e
entry_follows S n (Closed number) f = let e : n ≡ n + 0 = omega arith in ap S e

commits_redone : (S : ℕ → Rows) (n : ℕ) (entries : List Entry) → Follow S n (records_in entries) → entries_redone false n entries (S n) ≡ S (number_after n entries)
commits_redone S n [] f = let e : n ≡ n + 0 = omega arith in ap S e
commits_redone S n (entry ∷ entries) f =
    let parts = follow_cons S n entry entries f in
    let k : ℕ = number_after n (entry ∷ []) in
    ap (entries_redone false k entries) (entry_follows S n entry parts.0)
    ∙ commits_redone S k entries parts.1
    ∙ ap S (number-cons n entry entries)

pub commits_are_redone : CommitsAreRedone
commits_are_redone C changes b entries have = commits_redone (λ (j : ℕ). after C (take j changes)) b entries (entries_follow C changes b entries have)
