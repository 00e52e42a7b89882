-- Each of these rows and numbers of commits is reached, by a put or a remove for each number.
use Rattle.std.proofs.Common.{◌≡◌, ◌<◌, ◌≤◌, ◌==◌, ◌+◌, ◌*◌, ◌-◌, ℕ, zero, suc, Bool, true, false, cond, List, [], ◌∷◌, length, map, Option, Some, None, IsSome, ◌∙◌, ap, sym, subst, refl, inl, inr, arith}
use Rattle.std.specs.Prelude.{nat_lt}
use Rattle.std.specs.List.{AllByRecursion, list_any}
use Rattle.std.specs.Ordering.{eq_by_cmp}
use Rattle.std.specs.Cmp.{IsTotalOrder}
use Rattle.std.specs.Cmp.Lexicographic.{nat_list_cmp_total}
use Rattle.std.specs.FinMap as fin
use Rattle.std.specs.FinMap.{get}
use Rattle.std.proofs.lemmas.Bool.{lt-leb, eq-eqb}
use Rattle.std.proofs.lemmas.Bool.Decides.{eqb_tells}
use Rattle.std.proofs.lemmas.List.{length-replicate}
use Rattle.std.specs.declared.cmp.Ordering.{Ordering}
use Rattle.std.specs.declared.cmp.Ordering.TheVariants.{Less, Equal, Greater}
use Rattle.std.specs.Ordering.{is_eq}
use Rattle.std.proofs.lemmas.Cmp.{tied_itself}
use Rattle.mt_types.specs.Keys.{key_cmp}
use Rattle.mt_types.specs.Numbers.{greatest_number}
use Rattle.mt_types.specs.Limits.{request_fault, key_fault, misnames}
use Rattle.mt_types.specs.Rows.{Rows, after, new_columns, columns_before}
use Rattle.mt_types.specs.declared.limits.TheConstants.{MAX_KEY_BYTES, MAX_COLUMN_BYTES}
use Rattle.mt_types.specs.declared.row.Row.{Row}
use Rattle.mt_types.specs.declared.row.Change.{Change}
use Rattle.mt_types.specs.declared.row.Change.TheVariants.{Put as PutChange, Drop}
use Rattle.mt_types.specs.declared.event.Request.TheVariants.{Put, Remove}
use Rattle.mt_types.specs.declared.event.Answer.TheVariants.{Stored, Removed}
use Rattle.mt_promise.specs.History.{History, moment, rows}
use Rattle.mt_promise.specs.Legal.{Legal}
use Rattle.mt_promise.proofs.HistoryLemmas.{after-append}
use Rattle.mt_reach.specs.Reach.{Entry, row_in, Falls, Fits, EndsAt, IsClosedAt, IsReached, RowsAreReached}
use Rattle.mt_reach.proofs.Steps.{done, legal_done, commits_done, closed_on, one_call_done}

key_order : IsTotalOrder key_cmp
key_order = nat_list_cmp_total

-- ---- a put of all columns
numbered : ℕ → List (List ℕ) → List (ℕ × List ℕ)
numbered i [] = []
numbered i (c ∷ cs) = (i, c) ∷ numbered (i + 1) cs

-- a set of an earlier column changes none of these
passed_over : (k i : ℕ) (bytes : List ℕ) (sets : List (ℕ × List ℕ)) (olds : List (List ℕ)) → k < i → new_columns ((k, bytes) ∷ sets) i olds ≡ new_columns sets i olds
passed_over k i bytes sets [] before = refl
passed_over k i bytes sets (old ∷ olds) before = elim (eqb_tells k i) [
  | inl same ↦ absurd (omega (arith, before, same.1))
  | inr apart ↦ rw (apart.0, passed_over k (i + 1) bytes sets olds (omega (arith, before))) refl
]

all_set : (cs olds : List (List ℕ)) (i : ℕ) → length olds ≡ length cs → new_columns (numbered i cs) i olds ≡ cs
unfolding numbered
all_set [] [] i same = refl
all_set [] (old ∷ olds) i same = absurd (omega (arith, same))
all_set (c ∷ cs) [] i same = absurd (omega (arith, same))
all_set (c ∷ cs) (old ∷ olds) i same =
    rw (eq-eqb i i refl, passed_over i (i + 1) c (numbered (i + 1) cs) olds (omega arith), all_set cs olds (i + 1) (omega (arith, same))) refl

unnamed : (k i : ℕ) (cs : List (List ℕ)) → k < i → list_any (λ other. other == k) (map (λ (set : ℕ × List ℕ). set.0) (numbered i cs)) ≡ false
unfolding numbered
unnamed k i [] before = refl
unnamed k i (c ∷ cs) before = elim (eqb_tells i k) [
  | inl same ↦ absurd (omega (arith, before, same.1))
  | inr apart ↦ rw (apart.0, unnamed k (i + 1) cs (omega (arith, before))) refl
]

well_named : (C i : ℕ) (cs : List (List ℕ)) → i + length cs ≤ C → misnames C (map (λ (set : ℕ × List ℕ). set.0) (numbered i cs)) ≡ false
unfolding numbered
well_named C i [] room = refl
well_named C i (c ∷ cs) room =
    rw (lt-leb C i (omega (arith, room)), unnamed i (i + 1) cs (omega arith), well_named C (i + 1) cs (omega (arith, room))) refl

short : (i : ℕ) (cs : List (List ℕ)) → AllByRecursion (λ (bytes : List ℕ). length bytes ≤ MAX_COLUMN_BYTES) cs → list_any (λ (set : ℕ × List ℕ). nat_lt MAX_COLUMN_BYTES (length set.1)) (numbered i cs) ≡ false
unfolding numbered
short i [] all = refl
short i (c ∷ cs) all = rw (lt-leb (MAX_COLUMN_BYTES + 1) (length c) (omega (arith, all.0)), short (i + 1) cs all.1) refl

pub key_fits : (key : List ℕ) → length key ≤ MAX_KEY_BYTES → key_fault key ≡ None
key_fits key fits = rw (lt-leb (MAX_KEY_BYTES + 1) (length key) (omega (arith, fits))) refl

put_fits : (C : ℕ) (e : Entry) → Fits C e → request_fault C (Put e.0 (numbered 0 e.1.columns)) ≡ None
put_fits C e fits =
    rw (key_fits e.0 fits.0, well_named C 0 e.1.columns (omega (arith, fits.1)), short 0 e.1.columns fits.2) refl

touch_fits : (C : ℕ) (key : List ℕ) → length key ≤ MAX_KEY_BYTES → request_fault C (Put key []) ≡ None
touch_fits C key fits = rw (key_fits key fits) refl

-- ---- one more commit
pub record IsOneMore (C n : ℕ) (h : History) (key : List ℕ) (row : Option Row) : Type 0 where
  pub next : History
  pub legal : Legal C next
  pub closed : IsClosedAt (n + 1) next
  pub long : length next ≡ length h + 3
  pub shows : (q : List ℕ) → get (rows C (moment next)) q ≡ cond (eq_by_cmp key_cmp q key) row (get (rows C (moment h)) q)

-- the row that a put makes as the commit after n
row_put : ℕ → ℕ → History → List ℕ → List (ℕ × List ℕ) → Row
row_put C n h key sets = record { version = n + 1; columns = new_columns sets 0 (columns_before C (get (rows C (moment h)) key)) }

put_on : (C n : ℕ) (h : History) → Legal C h → IsClosedAt n h → n < greatest_number → (key : List ℕ) (sets : List (ℕ × List ℕ)) → request_fault C (Put key sets) ≡ None
    → IsOneMore C n h key (Some (row_put C n h key sets))
unfolding row_put
put_on C n h legal closed unspent key sets fits =
    let answer = Stored (length (moment h).commits + 1) in
    let left : (moment h).begun < greatest_number = subst (λ (k : ℕ). k < greatest_number) (sym closed.begun) unspent in
    record {
      next = done C h legal closed.calls left (Put key sets) fits refl answer;
      legal = legal_done C h legal closed.calls left (Put key sets) fits refl answer (refl, refl) refl;
      closed = closed_on h _ n (Put key sets) closed refl (one_call_done C h legal closed.calls left (Put key sets) fits refl answer refl);
      long = omega arith;
      shows = λ q.
          ap (λ (cs : List Change). get (after C cs) q) (commits_done C h legal closed.calls left (Put key sets) fits refl answer)
          ∙ ap (λ (m : Rows). get m q) (after-append C (moment h).commits (PutChange key sets))
          ∙ fin.get-insert key_order (rows C (moment h)) key (record { version = length (moment h).commits + 1; columns = new_columns sets 0 (columns_before C (get (rows C (moment h)) key)) }) q
          ∙ ap (λ (k : ℕ). cond (eq_by_cmp key_cmp q key) (Some (record { version = k + 1; columns = new_columns sets 0 (columns_before C (get (rows C (moment h)) key)) })) (get (rows C (moment h)) q)) closed.commits;
    }

drop_on : (C n : ℕ) (h : History) → Legal C h → IsClosedAt n h → n < greatest_number → (key : List ℕ) → length key ≤ MAX_KEY_BYTES → IsSome (get (rows C (moment h)) key)
    → IsOneMore C n h key None
drop_on C n h legal closed unspent key short_key stands =
    let answer = Removed (length (moment h).commits + 1) in
    let fits = key_fits key short_key in
    let left : (moment h).begun < greatest_number = subst (λ (k : ℕ). k < greatest_number) (sym closed.begun) unspent in
    record {
      next = done C h legal closed.calls left (Remove key) fits refl answer;
      legal = legal_done C h legal closed.calls left (Remove key) fits refl answer (refl, refl, stands) refl;
      closed = closed_on h _ n (Remove key) closed refl (one_call_done C h legal closed.calls left (Remove key) fits refl answer refl);
      long = omega arith;
      shows = λ q.
          ap (λ (cs : List Change). get (after C cs) q) (commits_done C h legal closed.calls left (Remove key) fits refl answer)
          ∙ ap (λ (m : Rows). get m q) (after-append C (moment h).commits (Drop key))
          ∙ fin.get-remove key_order (rows C (moment h)) key q;
    }

-- ---- up to one key
abbrev pub HasWidth : ℕ → Option Row → Type 0
HasWidth C None = Unit {0}
HasWidth C (Some row) = length row.columns ≡ C

-- a legal history of n commits has these rows, but for the key y, which has a row if some number is of none of them
pub record IsAlmost (C n : ℕ) (y : List ℕ) (es : List Entry) : Type 0 where
  pub h : History
  pub legal : Legal C h
  pub closed : IsClosedAt n h
  pub long : length h ≡ 3 * n
  pub others : (q : List ℕ) → eq_by_cmp key_cmp q y ≡ false → get (rows C (moment h)) q ≡ row_in es q
  pub widths : (q : List ℕ) → HasWidth C (get (rows C (moment h)) q)
  pub stands : length es < n → IsSome (get (rows C (moment h)) y)

width_before : (C : ℕ) (o : Option Row) → HasWidth C o → length (columns_before C o) ≡ C
width_before C None w = length-replicate C []
width_before C (Some row) w = w

width_kept : (sets : List (ℕ × List ℕ)) (i : ℕ) (olds : List (List ℕ)) → length (new_columns sets i olds) ≡ length olds
width_kept sets i [] = refl
width_kept sets i (old ∷ olds) = ap suc (width_kept sets (i + 1) olds)

width_either : (C : ℕ) (b : Bool) (row : Row) (o : Option Row) → length row.columns ≡ C → HasWidth C o → HasWidth C (cond b (Some row) o)
width_either C true row o w v = w
width_either C false row o w v = v

key_apart : fin.IsAntisymmetric key_cmp
key_apart = fin.slice_cmp-IsAntisymmetric fin.nat_cmp-IsAntisymmetric

itself : (key : List ℕ) → eq_by_cmp key_cmp key key ≡ true
itself key = ap is_eq (tied_itself key_order key)

equal_then : (o : Ordering) → is_eq o ≡ true → o ≡ Equal
equal_then Less e = absurd (cc)
equal_then Equal e = refl
equal_then Greater e = absurd (cc)

pub same_key : (q key : List ℕ) → eq_by_cmp key_cmp q key ≡ true → q ≡ key
same_key q key e = key_apart q key (equal_then (key_cmp q key) e)

some_either : (b : Bool) (row : Row) (o : Option Row) → IsSome o → IsSome (cond b (Some row) o)
some_either true row o is = refl
some_either false row o is = is

-- after a put
module _ (C n : ℕ) (y : List ℕ) (es : List Entry) (is : IsAlmost C n y es) (unspent : n < greatest_number) where
  put_width : (key : List ℕ) (sets : List (ℕ × List ℕ)) → length (row_put C n is.h key sets).columns ≡ C
  unfolding row_put
  put_width key sets = width_kept sets 0 (columns_before C (get (rows C (moment is.h)) key)) ∙ width_before C (get (rows C (moment is.h)) key) (is.widths key)

  -- of the key y, with no column
  touched : length y ≤ MAX_KEY_BYTES → IsAlmost C (n + 1) y es
  touched fits =
      let one = put_on C n is.h is.legal is.closed unspent y [] (touch_fits C y fits) in
      record {
        h = one.next;
        legal = one.legal;
        closed = one.closed;
        long = let was = is.long in let more = one.long in omega (arith, was, more);
        others = λ q apart. one.shows q ∙ ap (λ (b : Bool). cond b (Some (row_put C n is.h y [])) (get (rows C (moment is.h)) q)) apart ∙ is.others q apart;
        widths = λ q. subst (HasWidth C) (sym (one.shows q)) (width_either C (eq_by_cmp key_cmp q y) (row_put C n is.h y []) (get (rows C (moment is.h)) q) (put_width y []) (is.widths q));
        stands = λ _. subst (λ (o : Option Row). IsSome o) (sym (one.shows y ∙ ap (λ (b : Bool). cond b (Some (row_put C n is.h y [])) (get (rows C (moment is.h)) y)) (itself y))) refl;
      }

  -- the row that a put of all columns makes
  entry_made : (e : Entry) → Fits C e → e.1.version ≡ n + 1 → row_put C n is.h e.0 (numbered 0 e.1.columns) ≡ e.1
  unfolding row_put
  entry_made e fits next =
      let olds = columns_before C (get (rows C (moment is.h)) e.0) in
      let set = all_set e.1.columns olds 0 (width_before C (get (rows C (moment is.h)) e.0) (is.widths e.0) ∙ sym fits.1) in
      ap (λ (k : ℕ). record { version = k; columns = new_columns (numbered 0 e.1.columns) 0 olds }) (sym next)
      ∙ ap (λ (cs : List (List ℕ)). record { version = e.1.version; columns = cs }) set

  entry_shows : (e : Entry) → Fits C e → e.1.version ≡ n + 1 → (one : IsOneMore C n is.h e.0 (Some (row_put C n is.h e.0 (numbered 0 e.1.columns)))) → (q : List ℕ)
      → get (rows C (moment one.next)) q ≡ cond (eq_by_cmp key_cmp q e.0) (Some e.1) (get (rows C (moment is.h)) q)
  entry_shows e fits next one q = one.shows q ∙ ap (λ (r : Row). cond (eq_by_cmp key_cmp q e.0) (Some r) (get (rows C (moment is.h)) q)) (entry_made e fits next)

  entry_put : (e : Entry) → Fits C e → IsOneMore C n is.h e.0 (Some (row_put C n is.h e.0 (numbered 0 e.1.columns)))
  entry_put e fits = put_on C n is.h is.legal is.closed unspent e.0 (numbered 0 e.1.columns) (put_fits C e fits)

  -- of an entry whose version is the next number
  entered : (e : Entry) → Fits C e → e.1.version ≡ n + 1 → IsAlmost C (n + 1) y (e ∷ es)
  entered e fits next =
      let one = entry_put e fits in
      record {
        h = one.next;
        legal = one.legal;
        closed = one.closed;
        long = let was = is.long in let more = one.long in omega (arith, was, more);
        others = λ q apart. entry_shows e fits next one q ∙ ap (λ (o : Option Row). cond (eq_by_cmp key_cmp q e.0) (Some e.1) o) (is.others q apart);
        widths = λ q. subst (HasWidth C) (sym (entry_shows e fits next one q)) (width_either C (eq_by_cmp key_cmp q e.0) e.1 (get (rows C (moment is.h)) q) fits.1 (is.widths q));
        stands = λ few. subst (λ (o : Option Row). IsSome o) (sym (entry_shows e fits next one y)) (some_either (eq_by_cmp key_cmp y e.0) e.1 (get (rows C (moment is.h)) y) (is.stands (omega (arith, few))));
      }

-- the entry of the key y is the last to be put
ended : (C n : ℕ) (e : Entry) (es : List Entry) → IsAlmost C n e.0 es → n < greatest_number → Fits C e → e.1.version ≡ n + 1 → IsReached C (n + 1) (e ∷ es)
ended C n e es is unspent fits next =
    let one = entry_put C n e.0 es is unspent e fits in
    record {
      h = one.next;
      legal = one.legal;
      closed = one.closed;
      long = let was = is.long in let more = one.long in omega (arith, was, more);
      rows = λ q. entry_shows C n e.0 es is unspent e fits next one q ∙ by_key q (eq_by_cmp key_cmp q e.0) refl;
    }
  where
    by_key : (q : List ℕ) (b : Bool) → eq_by_cmp key_cmp q e.0 ≡ b → cond b (Some e.1) (get (rows C (moment is.h)) q) ≡ cond b (Some e.1) (row_in es q)
    by_key q true at = refl
    by_key q false at = is.others q at

-- or y is a key of no entry, and its row is taken away at last
taken_away : (C n : ℕ) (y : List ℕ) (es : List Entry) → IsAlmost C n y es → n < greatest_number → length y ≤ MAX_KEY_BYTES → row_in es y ≡ None → length es < n → IsReached C (n + 1) es
taken_away C n y es is unspent fits none few =
    let one = drop_on C n is.h is.legal is.closed unspent y fits (is.stands few) in
    record {
      h = one.next;
      legal = one.legal;
      closed = one.closed;
      long = let was = is.long in let more = one.long in omega (arith, was, more);
      rows = λ q. one.shows q ∙ by_key q (eq_by_cmp key_cmp q y) refl;
    }
  where
    by_key : (q : List ℕ) (b : Bool) → eq_by_cmp key_cmp q y ≡ b → cond b None (get (rows C (moment is.h)) q) ≡ row_in es q
    by_key q true at = sym (ap (row_in es) (same_key q y at) ∙ none)
    by_key q false at = is.others q at

-- ---- all numbers up to n
none_yet : (C : ℕ) (y : List ℕ) → IsAlmost C 0 y []
none_yet C y = record {
  h = [];
  legal = tt;
  closed = record { commits = refl; begun = refl; calls = refl; built = refl; views = refl; epoch = refl };
  long = refl;
  others = λ q apart. fin.get-empty key_cmp q;
  widths = λ q. subst (HasWidth C) (sym (fin.get-empty key_cmp q)) tt;
  stands = λ few. absurd (omega (arith, few));
}

one_more : (m : ℕ) → m + 1 ≡ suc m
one_more m = omega arith

almost : (C : ℕ) (y : List ℕ) → length y ≤ MAX_KEY_BYTES → (n : ℕ) (es : List Entry) → n ≤ greatest_number → Falls n es → AllByRecursion (Fits C) es → IsAlmost C n y es
almost C y short_y zero [] few falls fits = none_yet C y
almost C y short_y zero (e ∷ es) few falls fits = absurd (omega (arith, falls.0, falls.1))
almost C y short_y (suc m) [] few falls fits =
    subst (λ (k : ℕ). IsAlmost C k y []) (one_more m) (touched C m y [] (almost C y short_y m [] (omega (arith, few)) tt tt) (omega (arith, few)) short_y)
almost C y short_y (suc m) (e ∷ es) few falls fits = elim (eqb_tells e.1.version (suc m)) [
  | inl last ↦
      let before : e.1.version - 1 ≡ m = omega (arith, last.1) in
      subst (λ (k : ℕ). IsAlmost C k y (e ∷ es)) (one_more m) (entered C m y es (almost C y short_y m es (omega (arith, few)) (subst (λ (k : ℕ). Falls k es) before falls.2) fits.1) (omega (arith, few)) e fits.0 (omega (arith, last.1)))
  | inr other ↦
      subst (λ (k : ℕ). IsAlmost C k y (e ∷ es)) (one_more m) (touched C m y (e ∷ es) (almost C y short_y m (e ∷ es) (omega (arith, few)) (falls.0, omega (arith, falls.1, other.1), falls.2) fits) (omega (arith, few)) short_y)
]

-- the newest row is of the last commit
reached_by_last : (C n : ℕ) (es : List Entry) → n ≤ greatest_number → Falls n es → AllByRecursion (Fits C) es → EndsAt n es → IsReached C n es
unfolding none_yet
reached_by_last C n [] few falls fits ends =
    let none = none_yet C [] in
    subst (λ (k : ℕ). IsReached C k []) (sym ends) (record { h = none.h; legal = none.legal; closed = none.closed; long = none.long; rows = λ q. fin.get-empty key_cmp q })
reached_by_last C n (e ∷ es) few falls fits ends =
    let m = e.1.version - 1 in
    let some = falls.0 in
    let all : m + 1 ≡ n = omega (arith, some, ends) in
    subst (λ (k : ℕ). IsReached C k (e ∷ es)) all
    (ended C m e es (almost C e.0 fits.0.0 m es (omega (arith, few, ends)) falls.2 fits.1) (omega (arith, few, all)) fits.0 (omega (arith, some)))

-- two numbers at least are of no row, and the last is one of them
reached_by_gap : (C n : ℕ) (y : List ℕ) (es : List Entry) → n ≤ greatest_number → Falls (n - 1) es → AllByRecursion (Fits C) es → length y ≤ MAX_KEY_BYTES → row_in es y ≡ None → length es + 2 ≤ n → IsReached C n es
reached_by_gap C n y es few falls fits short_y none gap =
    let all : n - 1 + 1 ≡ n = omega (arith, gap) in
    subst (λ (k : ℕ). IsReached C k es) all
    (taken_away C (n - 1) y es (almost C y short_y (n - 1) es (omega (arith, few)) falls fits) (omega (arith, few, gap)) short_y none (omega (arith, gap)))

reached : (C n : ℕ) (es : List Entry) (y : List ℕ) → n ≤ greatest_number → Falls n es → AllByRecursion (Fits C) es → length y ≤ MAX_KEY_BYTES → row_in es y ≡ None → length es + 2 ≤ n → IsReached C n es
reached C n [] y few falls fits short_y none gap = reached_by_gap C n y [] few tt fits short_y none gap
reached C n (e ∷ es) y few falls fits short_y none gap = elim (eqb_tells e.1.version n) [
  | inl last ↦ reached_by_last C n (e ∷ es) few falls fits last.1
  | inr other ↦ reached_by_gap C n y (e ∷ es) few (falls.0, omega (arith, falls.1, other.1), falls.2) fits short_y none gap
]

pub rows_are_reached : RowsAreReached
rows_are_reached C n es unused few falls fits short_unused none how = elim how [
  | inl last ↦ reached_by_last C n es few falls fits last
  | inr gap ↦ reached C n es unused few falls fits short_unused none gap
]
