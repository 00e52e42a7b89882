-- A key is settled once a log that is done again has given it a row, or none, that it had at some time from then on to
-- the log's end. It stays settled, and at the log's end it has what it has after the last commit.
use Rattle.std.proofs.Common.{◌≡◌, ◌≤◌, ◌<◌, ◌≢◌, inl, inr, ℕ, zero, suc, ◌+◌, ◌∙◌, ◌∷◌, List, [], Bool, true, false, cond, length, map, slice_index_or, Option, Some, None, ap, sym, subst, refl, arith}
use Rattle.std.specs.List.{AllByRecursion}
use Rattle.std.specs.FinMap.{get, insert, get-insert, get-remove}
use Rattle.std.specs.declared.cmp.Ordering.{Ordering}
use Rattle.std.specs.declared.cmp.Ordering.TheVariants.{Less, Equal, Greater}
use Rattle.std.specs.Ordering.{eq_by_cmp, is_eq}
use Rattle.std.specs.Cmp.{eq_by_cmp_equiv}
use Rattle.std.proofs.lemmas.Bool.Decides.{eqb_tells}
use Rattle.mt_types.specs.Keys.{key_cmp}
use Rattle.mt_types.specs.Rows.{Rows}
use Rattle.mt_types.specs.declared.row.Row.{Row}
use Rattle.mt_types.proofs.MapLemmas.{key_order, key_apart}
use Rattle.mt_frame.specs.declared.entry.Record.{Record}
use Rattle.mt_frame.specs.declared.entry.Record.TheVariants.{Row as RowOf, Removed}
use Rattle.mt_replay.specs.Redo.{record_redone, records_redone, pairs_redone}
use Rattle.mt_replay.specs.RedoLaws.{key_left}
use Rattle.mt_replay.proofs.FollowLemmas.{Follow}

-- by the rows after each number of commits
abbrev pub Had : (ℕ → Rows) → ℕ → ℕ → List ℕ → Option Row → Type 0
Had S n m key row = (j : ℕ) × (n ≤ j) × (j ≤ m) × (get (S j) key ≡ row)

abbrev pub Settled : (ℕ → Rows) → ℕ → ℕ → List ℕ → Rows → Type 0
Settled S n m key rows = Had S n m key (get rows key)

is_tied : (r : Ordering) → is_eq r ≡ true → r ≡ Equal
is_tied Less e = cc
is_tied Equal e = refl
is_tied Greater e = cc

one_key : (x y : List ℕ) → eq_by_cmp key_cmp x y ≡ true → x ≡ y
one_key x y e = key_apart x y (is_tied (key_cmp x y) e)

tied : (x y : List ℕ) → x ≡ y → eq_by_cmp key_cmp x y ≡ true
tied x y e = ap (eq_by_cmp key_cmp x) (sym e) ∙ (eq_by_cmp_equiv key_order).refl x

-- ---- one commit
row_left : ℕ → Record → Option Row
row_left n (RowOf key columns) = Some (record { version = n; columns = columns })
row_left n (Removed key) = None

get-redone : (n : ℕ) (r : Record) (rows : Rows) (x : List ℕ) → get (record_redone n r rows) x ≡ cond (eq_by_cmp key_cmp x (key_left r)) (row_left n r) (get rows x)
unfolding row_left
get-redone n (RowOf key columns) rows x = get-insert key_order rows key (record { version = n; columns = columns }) x
get-redone n (Removed key) rows x = get-remove key_order rows key x

-- the key of a commit has what the commit leaves
own_key : (n : ℕ) (r : Record) (rows others : Rows) (x : List ℕ) → eq_by_cmp key_cmp x (key_left r) ≡ true → get (record_redone n r rows) x ≡ get (record_redone n r others) x
own_key n r rows others x e =
    get-redone n r rows x
    ∙ ap (λ (b : Bool). cond b (row_left n r) (get rows x)) e
    ∙ sym (get-redone n r others x ∙ ap (λ (b : Bool). cond b (row_left n r) (get others x)) e)

settled_own : (S : ℕ → Rows) (n m : ℕ) (r : Record) (rows : Rows) (x : List ℕ) → record_redone (n + 1) r (S n) ≡ S (n + 1) → n + 1 ≤ m → eq_by_cmp key_cmp x (key_left r) ≡ true → Settled S (n + 1) m x (record_redone (n + 1) r rows)
settled_own S n m r rows x follows fits e =
    let least : n + 1 ≤ n + 1 = omega arith in
    (n + 1, least, fits, ap (λ (rs : Rows). get rs x) (sym follows) ∙ own_key (n + 1) r (S n) rows x e)

-- each other key keeps what it has
other_key : (n : ℕ) (r : Record) (rows : Rows) (x : List ℕ) → eq_by_cmp key_cmp x (key_left r) ≡ false → get (record_redone n r rows) x ≡ get rows x
other_key n r rows x e = get-redone n r rows x ∙ ap (λ (b : Bool). cond b (row_left n r) (get rows x)) e

settled_other : (S : ℕ → Rows) (n m : ℕ) (r : Record) (rows : Rows) (x : List ℕ) → record_redone (n + 1) r (S n) ≡ S (n + 1) → n + 1 ≤ m → eq_by_cmp key_cmp x (key_left r) ≡ false → Settled S n m x rows → Settled S (n + 1) m x (record_redone (n + 1) r rows)
settled_other S n m r rows x follows fits e (j, least, most, is) =
    let kept : get rows x ≡ get (record_redone (n + 1) r rows) x = sym (other_key (n + 1) r rows x e) in
    elim (eqb_tells n j) [
      | inl same ↦
          let own : n + 1 ≤ n + 1 = omega arith in
          (n + 1, own, fits, ap (λ (rs : Rows). get rs x) (sym follows) ∙ other_key (n + 1) r (S n) x e ∙ ap (λ (k : ℕ). get (S k) x) same.1 ∙ is ∙ kept)
      | inr apart ↦
          let differ : n ≢ j = apart.1 in
          let later : n + 1 ≤ j = omega arith in
          (j, later, most, is ∙ kept)
    ]

settled_record : (S : ℕ → Rows) (n m : ℕ) (r : Record) (rows : Rows) (x : List ℕ) → record_redone (n + 1) r (S n) ≡ S (n + 1) → n + 1 ≤ m → Settled S n m x rows → Settled S (n + 1) m x (record_redone (n + 1) r rows)
settled_record S n m r rows x follows fits settled =
    elim (eq_by_cmp key_cmp x (key_left r)) as (λ (b : Bool). eq_by_cmp key_cmp x (key_left r) ≡ b → Settled S (n + 1) m x (record_redone (n + 1) r rows)) [
      | true ↦ λ e. settled_own S n m r rows x follows fits e
      | false ↦ λ e. settled_other S n m r rows x follows fits e settled
    ] refl

-- ---- commits
pub settled_records : (S : ℕ → Rows) (n m : ℕ) (rs : List Record) (rows : Rows) (x : List ℕ) → Follow S n rs → n + length rs ≤ m → Settled S n m x rows → Settled S (n + length rs) m x (records_redone n rs rows)
settled_records S n m [] rows x f fits settled =
    let e : n ≡ n + 0 = omega arith in
    subst (λ (k : ℕ). Settled S k m x rows) e settled
settled_records S n m (r ∷ rs) rows x f fits settled =
    let e : n + 1 + length rs ≡ n + suc (length rs) = omega arith in
    let more : n + 1 + length rs ≤ m = omega arith in
    let one : n + 1 ≤ m = omega arith in
    let redone : Rows = record_redone (n + 1) r rows in
    subst (λ (k : ℕ). Settled S k m x (records_redone (n + 1) rs redone)) e
    (settled_records S (n + 1) m rs redone x f.1 more (settled_record S n m r rows x f.0 one settled))

-- a key is settled by its commit, whatever it had
pub named_records : (S : ℕ → Rows) (n m : ℕ) (rs : List Record) (rows : Rows) (x : List ℕ) (i : ℕ) → i < length (map key_left rs) → slice_index_or (map key_left rs) i x ≡ x → Follow S n rs → n + length rs ≤ m → Settled S (n + length rs) m x (records_redone n rs rows)
named_records S n m [] rows x i less is f fits = absurd (omega arith)
named_records S n m (r ∷ rs) rows x zero less is f fits =
    let e : n + 1 + length rs ≡ n + suc (length rs) = omega arith in
    let more : n + 1 + length rs ≤ m = omega arith in
    let one : n + 1 ≤ m = omega arith in
    let redone : Rows = record_redone (n + 1) r rows in
    subst (λ (k : ℕ). Settled S k m x (records_redone (n + 1) rs redone)) e
    (settled_records S (n + 1) m rs redone x f.1 more (settled_own S n m r rows x f.0 one (tied x (key_left r) (sym is))))
named_records S n m (r ∷ rs) rows x (suc i) less is f fits =
    let e : n + 1 + length rs ≡ n + suc (length rs) = omega arith in
    let more : n + 1 + length rs ≤ m = omega arith in
    let within : i < length (map key_left rs) = omega arith in
    let redone : Rows = record_redone (n + 1) r rows in
    subst (λ (k : ℕ). Settled S k m x (records_redone (n + 1) rs redone)) e
    (named_records S (n + 1) m rs redone x i within is f.1 more)

-- ---- a part's rows
abbrev pub AllHad : (ℕ → Rows) → ℕ → ℕ → List (List ℕ × Row) → Type 0
AllHad S n m pairs = AllByRecursion (λ pair. Had S n m pair.0 (Some pair.1)) pairs

settled_own_pair : (S : ℕ → Rows) (n m : ℕ) (pair : List ℕ × Row) (rows : Rows) (x : List ℕ) → Had S n m pair.0 (Some pair.1) → eq_by_cmp key_cmp x pair.0 ≡ true → Settled S n m x (insert rows pair.0 pair.1)
settled_own_pair S n m pair rows x (j, least, most, is) e =
    (j, least, most, ap (get (S j)) (one_key x pair.0 e) ∙ is ∙ sym (get-insert key_order rows pair.0 pair.1 x ∙ ap (λ (b : Bool). cond b (Some pair.1) (get rows x)) e))

settled_other_pair : (S : ℕ → Rows) (n m : ℕ) (pair : List ℕ × Row) (rows : Rows) (x : List ℕ) → eq_by_cmp key_cmp x pair.0 ≡ false → Settled S n m x rows → Settled S n m x (insert rows pair.0 pair.1)
settled_other_pair S n m pair rows x e (j, least, most, is) =
    (j, least, most, is ∙ sym (get-insert key_order rows pair.0 pair.1 x ∙ ap (λ (b : Bool). cond b (Some pair.1) (get rows x)) e))

settled_pair : (S : ℕ → Rows) (n m : ℕ) (pair : List ℕ × Row) (rows : Rows) (x : List ℕ) → Had S n m pair.0 (Some pair.1) → Settled S n m x rows → Settled S n m x (insert rows pair.0 pair.1)
settled_pair S n m pair rows x had settled =
    elim (eq_by_cmp key_cmp x pair.0) as (λ (b : Bool). eq_by_cmp key_cmp x pair.0 ≡ b → Settled S n m x (insert rows pair.0 pair.1)) [
      | true ↦ λ e. settled_own_pair S n m pair rows x had e
      | false ↦ λ e. settled_other_pair S n m pair rows x e settled
    ] refl

pub settled_pairs : (S : ℕ → Rows) (n m : ℕ) (pairs : List (List ℕ × Row)) (rows : Rows) (x : List ℕ) → AllHad S n m pairs → Settled S n m x rows → Settled S n m x (pairs_redone pairs rows)
settled_pairs S n m [] rows x had settled = settled
settled_pairs S n m (pair ∷ pairs) rows x had settled =
    settled_pairs S n m pairs (insert rows pair.0 pair.1) x had.1 (settled_pair S n m pair rows x had.0 settled)

-- a key that is listed is settled, whatever it had
pub named_pairs : (S : ℕ → Rows) (n m : ℕ) (pairs : List (List ℕ × Row)) (rows : Rows) (x : List ℕ) (i : ℕ) → i < length (map (λ pair. pair.0) pairs) → slice_index_or (map (λ pair. pair.0) pairs) i x ≡ x → AllHad S n m pairs → Settled S n m x (pairs_redone pairs rows)
named_pairs S n m [] rows x i less is had = absurd (omega arith)
named_pairs S n m (pair ∷ pairs) rows x zero less is had =
    settled_pairs S n m pairs (insert rows pair.0 pair.1) x had.1 (settled_own_pair S n m pair rows x had.0 (tied x pair.0 (sym is)))
named_pairs S n m (pair ∷ pairs) rows x (suc i) less is had =
    let within : i < length (map (λ (p : List ℕ × Row). p.0) pairs) = omega arith in
    named_pairs S n m pairs (insert rows pair.0 pair.1) x i within is had.1
