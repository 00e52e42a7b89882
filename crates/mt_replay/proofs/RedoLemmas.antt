-- A log with parts of all keys, done again, makes the rows after its last commit: each key is settled, and stays so.
use Rattle.std.proofs.Common.{◌≡◌, ◌≤◌, inl, inr, ℕ, ◌+◌, ◌∙◌, ◌∷◌, List, [], true, length, take, ap, sym, subst, refl, arith}
use Rattle.std.specs.FinMap.{get, empty, get-empty, same_map}
use Rattle.std.proofs.lemmas.List.{append-nil}
use Rattle.mt_types.specs.Keys.{key_cmp}
use Rattle.mt_types.specs.Rows.{Rows, after}
use Rattle.mt_types.specs.declared.row.Change.{Change}
use Rattle.mt_types.proofs.MapLemmas.{key_order, key_apart}
use Rattle.mt_frame.specs.declared.entry.Entry.{Entry}
use Rattle.mt_frame.specs.declared.entry.Entry.TheVariants.{Header, Commits as Group, Rows as Listed, Sealed, Closed}
use Rattle.mt_frame.specs.declared.entry.Record.{Record}
use Rattle.mt_replay.specs.Replay.{records_in}
use Rattle.mt_replay.specs.Redo.{records_redone, pairs_redone, entry_redone, entries_redone, number_after}
use Rattle.mt_replay.specs.RedoLaws.{ListsRows, AllListRows, Names, SomeNames, RowsAreRedone}
use Rattle.mt_replay.proofs.FollowLemmas.{Follow, entries_follow, follow_cons, number-cons}
use Rattle.mt_replay.proofs.SettledLemmas.{Settled, settled_records, named_records, settled_pairs, named_pairs}

-- the rows after each number of commits
abbrev rows_at : ℕ → List Change → ℕ → Rows
rows_at C changes j = after C (take j changes)

-- an entry without commits leaves the number as it is
still : (S : ℕ → Rows) (n m : ℕ) (x : List ℕ) (rows : Rows) → Settled S n m x rows → Settled S (n + 0) m x rows
still S n m x rows settled = let e : n ≡ n + 0 = omega arith in subst (λ (k : ℕ). Settled S k m x rows) e settled

-- ---- one entry
settled_entry : (C : ℕ) (changes : List Change) (n m : ℕ) (entry : Entry) (rows : Rows) (x : List ℕ) → Follow (rows_at C changes) n (records_in (entry ∷ [])) → number_after n (entry ∷ []) ≤ m → ListsRows C changes n m entry → Settled (rows_at C changes) n m x rows → Settled (rows_at C changes) (number_after n (entry ∷ [])) m x (entry_redone true n entry rows)
settled_entry C changes n m (Header header) rows x f fits lists settled = still (rows_at C changes) n m x rows settled
settled_entry C changes n m (Group commits) rows x f fits lists settled =
    let same = append-nil commits.records in
    subst (λ (rs : List Record). Settled (rows_at C changes) (n + length rs) m x (records_redone n commits.records rows)) (sym same)
    (settled_records (rows_at C changes) n m commits.records rows x (subst (Follow (rows_at C changes) n) same f) (subst (λ (rs : List Record). n + length rs ≤ m) same fits) settled)
settled_entry C changes n m (Listed part) rows x f fits lists settled =
    still (rows_at C changes) n m x (pairs_redone part.rows rows) (settled_pairs (rows_at C changes) n m part.rows rows x lists settled)
settled_entry C changes n m (Sealed count) rows x f fits lists settled = still (rows_at C changes) n m x rows settled
settled_entry C changes n m (Closed number) rows x f fits lists settled = still (rows_at C changes) n m x rows settled

named_entry : (C : ℕ) (changes : List Change) (n m : ℕ) (entry : Entry) (rows : Rows) (x : List ℕ) → Follow (rows_at C changes) n (records_in (entry ∷ [])) → number_after n (entry ∷ []) ≤ m → ListsRows C changes n m entry → Names entry x → Settled (rows_at C changes) (number_after n (entry ∷ [])) m x (entry_redone true n entry rows)
named_entry C changes n m (Header header) rows x f fits lists names = absurd names
named_entry C changes n m (Group commits) rows x f fits lists names =
    let same = append-nil commits.records in
    subst (λ (rs : List Record). Settled (rows_at C changes) (n + length rs) m x (records_redone n commits.records rows)) (sym same)
    (named_records (rows_at C changes) n m commits.records rows x names.0 names.1 names.2 (subst (Follow (rows_at C changes) n) same f) (subst (λ (rs : List Record). n + length rs ≤ m) same fits))
named_entry C changes n m (Listed part) rows x f fits lists names =
    still (rows_at C changes) n m x (pairs_redone part.rows rows) (named_pairs (rows_at C changes) n m part.rows rows x names.0 names.1 names.2 lists)
named_entry C changes n m (Sealed count) rows x f fits lists names = absurd names
named_entry C changes n m (Closed number) rows x f fits lists names = absurd names

-- ---- all of them
within : (n m : ℕ) (entry : Entry) (entries : List Entry) → number_after n (entry ∷ entries) ≡ m → (number_after n (entry ∷ []) ≤ m) × (number_after (number_after n (entry ∷ [])) entries ≡ m)
within n m entry entries ends =
    let more : number_after (number_after n (entry ∷ [])) entries ≡ m = number-cons n entry entries ∙ ends in
    (omega (arith, more), more)

-- at the log's end a settled key has what it has after the last commit
settled_entries : (C : ℕ) (changes : List Change) (n m : ℕ) (entries : List Entry) (rows : Rows) (x : List ℕ) → Follow (rows_at C changes) n (records_in entries) → number_after n entries ≡ m → AllListRows C changes n m entries → Settled (rows_at C changes) n m x rows → get (entries_redone true n entries rows) x ≡ get (rows_at C changes m) x
settled_entries C changes n m [] rows x f ends lists (j, least, most, is) =
    let last_one : j ≡ m = omega arith in
    sym is ∙ ap (λ (k : ℕ). get (rows_at C changes k) x) last_one
settled_entries C changes n m (entry ∷ entries) rows x f ends lists settled =
    let parts = follow_cons (rows_at C changes) n entry entries f in
    let ends_at = within n m entry entries ends in
    settled_entries C changes (number_after n (entry ∷ [])) m entries (entry_redone true n entry rows) x parts.1 ends_at.1 lists.1
    (settled_entry C changes n m entry rows x parts.0 ends_at.0 lists.0 settled)

-- and so has a key that the log names
named_entries : (C : ℕ) (changes : List Change) (n m : ℕ) (entries : List Entry) (rows : Rows) (x : List ℕ) → Follow (rows_at C changes) n (records_in entries) → number_after n entries ≡ m → AllListRows C changes n m entries → SomeNames entries x → get (entries_redone true n entries rows) x ≡ get (rows_at C changes m) x
named_entries C changes n m [] rows x f ends lists names = absurd names
named_entries C changes n m (entry ∷ entries) rows x f ends lists names =
    let parts = follow_cons (rows_at C changes) n entry entries f in
    let ends_at = within n m entry entries ends in
    let k : ℕ = number_after n (entry ∷ []) in
    let made : Rows = entry_redone true n entry rows in
    elim names [
      | inl own ↦ settled_entries C changes k m entries made x parts.1 ends_at.1 lists.1 (named_entry C changes n m entry rows x parts.0 ends_at.0 lists.0 own)
      | inr later ↦ named_entries C changes k m entries made x parts.1 ends_at.1 lists.1 later
    ]

pub rows_are_redone : RowsAreRedone
rows_are_redone C changes b entries have lists covered =
    let m : ℕ = number_after b entries in
    let f = entries_follow C changes b entries have in
    same_map key_order key_apart _ _ (λ x.
    elim (covered x) [
      | inl names ↦ named_entries C changes b m entries empty x f refl lists names
      | inr had ↦ settled_entries C changes b m entries empty x f refl lists (had.0, had.1, had.2, had.3 ∙ sym (get-empty key_cmp x))
    ])
