-- A range's answer is right exactly where it walks well over the versions of the log.
use Rattle.std.proofs.Common.{◌≡◌, ◌≤◌, ◌<◌, ℕ, zero, suc, Bool, true, false, cond, List, [], ◌∷◌, length, get_or, Option, Some, None, refl, ap, sym, ◌∙◌, subst, arith, inl, inr, ◌⊎◌}
use Rattle.std.specs.Prelude.{nat_le, nat_eq, count_by, Any, IsTrue, IsSome}
use Rattle.std.specs.Global.{Vec}
use Rattle.std.specs.BTreeMap as tree
use Rattle.std.specs.Map.{lookup}
use Rattle.std.specs.FinMap as map
use Rattle.std.specs.FinMap.Entries.{below_all}
use Rattle.std.specs.Option.{is_none, option_map_or}
use Rattle.std.specs.Ordering.{is_eq, is_ge, is_le, is_lt}
use Rattle.std.specs.Cmp.{first_so, second_so}
use Rattle.std.specs.Cmp.Lexicographic.{pointwise, lists_equiv, nat_list_eq_equiv}
use Rattle.std.specs.declared.cmp.Ordering.{Ordering}
use Rattle.std.specs.declared.cmp.Ordering.TheVariants.{Less, Equal, Greater}
use Rattle.std.proofs.lemmas.Bool.{false≢true, cases_Bool}
use Rattle.std.proofs.lemmas.List.Sums.{sum_by-cons}
use borrow.Author.Tests.{leb-false}
use Rattle.mt_types.specs.Keys.{key_cmp}
use Rattle.mt_types.specs.Ranges.{IsRangeAnswer}
use Rattle.mt_types.specs.Rows.{shown}
use Rattle.mt_types.specs.declared.row.Row.{Row}
use Rattle.mt_types.specs.declared.row.Delta.{Delta}
use Rattle.mt_types.proofs.RangeLemmas.{given_once}
use Rattle.mt_promise.specs.ExactValues.{same_rows}
use Rattle.mt_commit.specs.Log.{Numbered}
use Rattle.mt_types.proofs.MapLemmas.{key_apart}
use Rattle.mt_check.specs.declared.versions.Version.{Version}
use Rattle.mt_check.specs.declared.versions.Versions.{Versions}
use Rattle.mt_check.specs.Receipts.{rows_at, Sometime, Throughout, Shows, Lacks, Stands}
use Rattle.mt_check.specs.Versions.{versions_of, versions_in, AreVersions, same_row, shows_as, some_between}
use Rattle.mt_check.specs.Ranges.{lacks_in, shows_in, entries_from, walks_in}
use Rattle.mt_check.proofs.VersionLemmas.{some_between_tells, told_by_some_between}
use Rattle.mt_check.proofs.WalkLemmas.{In, Below, Sorted, Good, walked_well, good_walks}
use Rattle.mt_check.proofs.EntryLemmas.{sorted_keys, in_lookup, in_filter, filter_in, sorted_filter, versions_of_entry, equal_of}

-- a row that passes is the one that is shown so
pub showing : (asked : List ℕ) (answer : Row) (o : Option Row) → shows_as asked answer o ≡ true → (row : Row) × (o ≡ Some row) × (answer ≡ shown asked row)
showing asked answer None e = absurd (false≢true e)
showing asked answer (Some row) e = (row, refl, sym (same_rows (shown asked row) answer e))

itself : (row : Row) → same_row row row ≡ true
itself row =
    let number : nat_eq row.version row.version ≡ true = search arith in
    let columns : pointwise (pointwise nat_eq) row.columns row.columns ≡ true = (lists_equiv nat_list_eq_equiv).refl row.columns in
    rw number columns

pub shown_passes : (asked : List ℕ) (answer row : Row) (o : Option Row) → o ≡ Some row → answer ≡ shown asked row → shows_as asked answer o ≡ true
shown_passes asked answer row o e f =
    ap (shows_as asked answer) e ∙ ap (λ (a : Row). same_row (shown asked row) a) f ∙ itself (shown asked row)

pub none_passes : (o : Option Row) → is_none o ≡ true → o ≡ None
none_passes None e = refl
none_passes (Some row) e = absurd (false≢true e)

pub some_stands : (o : Option Row) → is_none o ≡ false → IsSome o
some_stands None e = absurd (false≢true (sym e))
some_stands (Some row) e = refl

pub stands_some : (o : Option Row) → IsSome o → is_none o ≡ false
stands_some None e = absurd (false≢true e)
stands_some (Some row) e = refl

-- what is shown by the versions stood at some number
pub shown_sometime : (deltas : List Delta) (from to : ℕ) (key asked : List ℕ) (answer : Row) → from ≤ to → Numbered 0 deltas
    → some_between (shows_as asked answer) from to (versions_of key deltas) ≡ true → Sometime from to (Shows deltas key asked answer)
shown_sometime deltas from to key asked answer h numbered e =
    let s = some_between_tells (shows_as asked answer) from to key deltas h numbered e in
    (s.0, s.1, s.2, showing asked answer (map.get (rows_at deltas s.0) key) s.3)

pub sometime_shown : (deltas : List Delta) (from to : ℕ) (key asked : List ℕ) (answer : Row) → Numbered 0 deltas
    → Sometime from to (Shows deltas key asked answer) → some_between (shows_as asked answer) from to (versions_of key deltas) ≡ true
sometime_shown deltas from to key asked answer numbered s =
    told_by_some_between (shows_as asked answer) from to key deltas numbered
    (s.0, s.1, s.2, shown_passes asked answer s.3.0 (map.get (rows_at deltas s.0) key) s.3.1 s.3.2)

-- and so what is lacking
pub lacks_sometime : (deltas : List Delta) (from to : ℕ) (key : List ℕ) → from ≤ to → Numbered 0 deltas
    → some_between is_none from to (versions_of key deltas) ≡ true → Sometime from to (Lacks deltas key)
lacks_sometime deltas from to key h numbered e =
    let s = some_between_tells is_none from to key deltas h numbered e in
    (s.0, s.1, s.2, none_passes (map.get (rows_at deltas s.0) key) s.3)

pub sometime_lacks : (deltas : List Delta) (from to : ℕ) (key : List ℕ) → Numbered 0 deltas
    → Sometime from to (Lacks deltas key) → some_between is_none from to (versions_of key deltas) ≡ true
sometime_lacks deltas from to key numbered s =
    told_by_some_between is_none from to key deltas numbered (s.0, s.1, s.2, ap is_none s.3)

-- a key that lacks no row stands throughout, and the other way round
stands_throughout : (deltas : List Delta) (from to : ℕ) (key : List ℕ) → Numbered 0 deltas
    → some_between is_none from to (versions_of key deltas) ≡ false → Throughout from to (Stands deltas key)
stands_throughout deltas from to key numbered e number f t =
    elim (cases_Bool (is_none (map.get (rows_at deltas number) key))) [
      | inl b ↦ absurd (false≢true (sym e ∙ told_by_some_between is_none from to key deltas numbered (number, f, t, b)))
      | inr b ↦ some_stands (map.get (rows_at deltas number) key) b
    ]

throughout_stands : (deltas : List Delta) (from to : ℕ) (key : List ℕ) → from ≤ to → Numbered 0 deltas
    → Throughout from to (Stands deltas key) → some_between is_none from to (versions_of key deltas) ≡ false
throughout_stands deltas from to key h numbered each =
    elim (cases_Bool (some_between is_none from to (versions_of key deltas))) [
      | inl b ↦
          let s = some_between_tells is_none from to key deltas h numbered b in
          absurd (false≢true (sym (stands_some (map.get (rows_at deltas s.0) key) (each s.0 s.1 s.2)) ∙ s.3))
      | inr b ↦ b
    ]

-- pairs by their places
in_at : {X : Type 0} (es : List (List ℕ × X)) (i : ℕ) (d : List ℕ × X) → i < length es → In (get_or es i d).0 (get_or es i d).1 es
in_at [] i d h = absurd (omega arith)
in_at (e ∷ es) zero d h = inl (refl, refl)
in_at (e ∷ es) (suc i) d h = inr (in_at es i d (omega arith))

place_of : {X : Type 0} (es : List (List ℕ × X)) (k : List ℕ) (x : X) → In k x es → (i : ℕ) × (i < length es) × ((d : List ℕ × X) → get_or es i d ≡ (k, x))
place_of [] k x i = absurd i
place_of {X} (e ∷ es) k x i =
    elim i [
      | inl here ↦ (0, omega arith, λ d t. (here.0 t, here.1 t))
      | inr there ↦ let r = place_of es k x there in (suc r.0, (let h = r.1 in omega (arith, h)), r.2)
    ]

below_sorted : {X : Type 0} (k : List ℕ) (es : List (List ℕ × X)) → Below k es → below_all key_cmp k es ≡ true
below_sorted k [] b = refl
below_sorted {X} k (e ∷ es) b =
    let first : key_cmp k e.0 ≡ Less = b e.0 e.1 (inl (refl, refl)) in
    let here : is_lt (key_cmp k e.0) ≡ true = ap is_lt first in
    rw here (below_sorted k es (λ q x i. b q x (inr i)))

sorted_rises : {X : Type 0} (es : List (List ℕ × X)) → Sorted es → map.is_sorted key_cmp es ≡ true
sorted_rises [] s = refl
sorted_rises (e ∷ es) s = let first = below_sorted e.0 es s.0 in rw first (sorted_rises es s.1)

less_of : (o : Ordering) → is_lt o ≡ true → o ≡ Less
less_of Less e = refl
less_of Equal e = absurd (false≢true e)
less_of Greater e = absurd (false≢true e)

sorted_below : {X : Type 0} (k : List ℕ) (es : List (List ℕ × X)) → below_all key_cmp k es ≡ true → Below k es
sorted_below k [] b q x i = absurd i
sorted_below {X} k (e ∷ es) b q x i =
    elim i [
      | inl here ↦ subst (λ (y : List ℕ). key_cmp k y ≡ Less) here.0 (less_of (key_cmp k e.0) (first_so (is_lt (key_cmp k e.0)) (below_all key_cmp k es) b))
      | inr there ↦ sorted_below k es (second_so (is_lt (key_cmp k e.0)) (below_all key_cmp k es) b) q x there
    ]

rises_sorted : {X : Type 0} (es : List (List ℕ × X)) → map.is_sorted key_cmp es ≡ true → Sorted es
rises_sorted [] s = tt
rises_sorted (e ∷ es) s =
    (sorted_below e.0 es (first_so (below_all key_cmp e.0 es) (map.is_sorted key_cmp es) s), rises_sorted es (second_so (below_all key_cmp e.0 es) (map.is_sorted key_cmp es) s))

abbrev one_if : Bool → ℕ
one_if b = cond b 1 0

-- a pair of a key that is counted once stands among them
counted : {X : Type 0} (key : List ℕ) (es : List (List ℕ × X)) → count_by (λ pair. is_eq (key_cmp key pair.0)) es ≡ 1 → (x : X) × In key x es
counted key [] e = absurd (omega (arith, e))
counted {X} key (p ∷ es) e =
    elim (cases_Bool (is_eq (key_cmp key p.0))) [
      | inl b ↦ (p.1, inl (sym (key_apart key p.0 (equal_of (key_cmp key p.0) b)), refl))
      | inr b ↦
          let split = sum_by-cons (λ (q : List ℕ × X). one_if (is_eq (key_cmp key q.0))) p es in
          let zero_here : one_if (is_eq (key_cmp key p.0)) ≡ 0 = ap one_if b in
          let rest = counted key es (omega (arith, split, zero_here, e)) in
          (rest.0, inr rest.1)
    ]

-- what a range is held against: the versions of the log's deltas in a sorted map
pub record Told (deltas : List Delta) (versions : Versions) : Type 0 where
  pub numbered : Numbered 0 deltas
  pub are : AreVersions deltas versions
  pub ordered : tree.IsOrdered key_cmp versions.of

-- the entry of a key that has a version
has_entry : (versions : Versions) (key : List ℕ) (test : List Version → Bool) → test [] ≡ false → test (versions_in versions key) ≡ true
    → (o : Option (Vec Version)) → lookup (tree.is_at (key_cmp key)) versions.of.entries ≡ o → (v : Vec Version) × In key v versions.of.entries
has_entry versions key test none e None f =
    absurd (false≢true (sym none ∙ sym (ap (λ (o : Option (Vec Version)). test (option_map_or (λ (w : Vec Version). w.items) o [])) f) ∙ e))
has_entry versions key test none e (Some v) f = (v, in_lookup key v versions.of.entries f)

abbrev from_here : List ℕ → List ℕ × Vec Version → Bool
from_here start entry = is_ge (key_cmp entry.0 start)

-- the versions of an entry from a start on
entry_versions : (deltas : List Delta) (versions : Versions) (start k : List ℕ) (v : Vec Version) → Told deltas versions → In k v (entries_from start versions) → v.items ≡ versions_of k deltas
entry_versions deltas versions start k v told i =
    sym (versions_of_entry versions k v told.ordered (in_filter (from_here start) k v versions.of.entries i).0) ∙ told.are k

abbrev GoodRange : Versions → List ℕ → ℕ → List ℕ → ℕ → ℕ → List (List ℕ × Row) → Type 0
GoodRange versions start limit asked from to pairs =
    Good (lacks_in from to) (shows_in asked from to) (nat_le limit (length pairs)) (entries_from start versions) pairs

sorted_from : (deltas : List Delta) (versions : Versions) (start : List ℕ) → Told deltas versions → Sorted (entries_from start versions)
sorted_from deltas versions start told = sorted_filter (from_here start) versions.of.entries (sorted_keys versions.of.entries told.ordered)

-- a good walk is a right answer
good_is_right : (deltas : List Delta) (versions : Versions) (start : List ℕ) (limit : ℕ) (asked : List ℕ) (from to : ℕ) (pairs : List (List ℕ × Row)) → Told deltas versions → from ≤ to
    → length pairs ≤ limit → GoodRange versions start limit asked from to pairs
    → IsRangeAnswer (λ key answer. Sometime from to (Shows deltas key asked answer)) (λ key. Throughout from to (Stands deltas key)) start limit pairs
good_is_right deltas versions start limit asked from to pairs told span few good = record {
  rises = sorted_rises pairs good.sorted;
  from_start = λ i d h.
      let f = good.shown (get_or pairs i d).0 (get_or pairs i d).1 (in_at pairs i d h) in
      (in_filter (from_here start) (get_or pairs i d).0 f.0 versions.of.entries f.1).1;
  few = few;
  stood = λ i d h.
      let f = good.shown (get_or pairs i d).0 (get_or pairs i d).1 (in_at pairs i d h) in
      let are = entry_versions deltas versions start (get_or pairs i d).0 f.0 told f.1 in
      shown_sometime deltas from to (get_or pairs i d).0 asked (get_or pairs i d).1 span told.numbered
      (subst (λ (vs : List Version). some_between (shows_as asked (get_or pairs i d).1) from to vs ≡ true) are f.2);
  once = λ key ge each bound.
      let stands = throughout_stands deltas from to key span told.numbered each in
      let lacking : some_between is_none from to (versions_in versions key) ≡ false = subst (λ (vs : List Version). some_between is_none from to vs ≡ false) (sym (told.are key)) stands in
      let entry = has_entry versions key (λ (vs : List Version). cond (some_between is_none from to vs) false true) refl (ap (λ (b : Bool). cond b false true) lacking) (lookup (tree.is_at (key_cmp key)) versions.of.entries) refl in
      let here = filter_in (from_here start) key entry.0 versions.of.entries entry.1 ge in
      let still : lacks_in from to entry.0 ≡ false =
      subst (λ (vs : List Version). some_between is_none from to vs ≡ false) (versions_of_entry versions key entry.0 told.ordered entry.1) lacking in
      let why : (nat_le limit (length pairs) ≡ false) ⊎ ((q : List ℕ) × (r : Row) × In q r pairs × (is_le (key_cmp key q) ≡ true)) =
      (elim bound [
        | inl below ↦ inl (search (arith, below))
        | inr any ↦
            let among = subst (λ (p : List ℕ × Row). In p.0 p.1 pairs) any.3 (in_at pairs any.0 any.1 any.2) in
            inr (any.1.0, any.1.1, among, any.4)
      ]) in
      let found = good.all key entry.0 here still why in
      let place = place_of pairs key found.0 found.1 in
      given_once key pairs (sorted_rises pairs good.sorted) (place.0, (key, found.0), place.1, place.2 (key, found.0), refl);
}

-- a right answer is a good walk
right_is_good : (deltas : List Delta) (versions : Versions) (start : List ℕ) (limit : ℕ) (asked : List ℕ) (from to : ℕ) (pairs : List (List ℕ × Row)) → Told deltas versions → from ≤ to
    → IsRangeAnswer (λ key answer. Sometime from to (Shows deltas key asked answer)) (λ key. Throughout from to (Stands deltas key)) start limit pairs
    → GoodRange versions start limit asked from to pairs
right_is_good deltas versions start limit asked from to pairs told span right = record {
  sorted = rises_sorted pairs right.rises;
  shown = λ k r i.
      let place = place_of pairs k r i in
      let is = place.2 (k, r) in
      let stood : Sometime from to (Shows deltas k asked r) = subst (λ (p : List ℕ × Row). Sometime from to (Shows deltas p.0 asked p.1)) is (right.stood place.0 (k, r) place.1) in
      let from_it : is_ge (key_cmp k start) ≡ true = subst (λ (p : List ℕ × Row). is_ge (key_cmp p.0 start) ≡ true) is (right.from_start place.0 (k, r) place.1) in
      let passes = subst (λ (vs : List Version). some_between (shows_as asked r) from to vs ≡ true) (sym (told.are k)) (sometime_shown deltas from to k asked r told.numbered stood) in
      let entry = has_entry versions k (some_between (shows_as asked r) from to) refl passes (lookup (tree.is_at (key_cmp k)) versions.of.entries) refl in (
        entry.0,
        filter_in (from_here start) k entry.0 versions.of.entries entry.1 from_it,
        subst (λ (vs : List Version). some_between (shows_as asked r) from to vs ≡ true) (versions_of_entry versions k entry.0 told.ordered entry.1) passes,
      );
  all = λ k v i lacking why.
      let are = entry_versions deltas versions start k v told i in
      let each = stands_throughout deltas from to k told.numbered (subst (λ (vs : List Version). some_between is_none from to vs ≡ false) are lacking) in
      let bound : (length pairs < limit) ⊎ Any (λ pair. IsTrue (is_le (key_cmp k pair.0))) pairs =
      (elim why [
        | inl below ↦ inl (leb-false limit (length pairs) below)
        | inr among ↦
            let place = place_of pairs among.0 among.1 among.2 in
            inr (place.0, (among.0, among.1), place.1, place.2 (among.0, among.1), among.3)
      ]) in
      counted k pairs (right.once k (in_filter (from_here start) k v versions.of.entries i).1 each bound);
}

-- the walk tells whether the answer is right
pub walks_right : (deltas : List Delta) (versions : Versions) (start : List ℕ) (limit : ℕ) (asked : List ℕ) (from to : ℕ) (pairs : List (List ℕ × Row)) → Told deltas versions → from ≤ to
    → length pairs ≤ limit → walks_in versions start limit asked from to pairs ≡ true
    → IsRangeAnswer (λ key answer. Sometime from to (Shows deltas key asked answer)) (λ key. Throughout from to (Stands deltas key)) start limit pairs
walks_right deltas versions start limit asked from to pairs told span few e =
    good_is_right deltas versions start limit asked from to pairs told span few
    (walked_well (lacks_in from to) (shows_in asked from to) (nat_le limit (length pairs)) (entries_from start versions) pairs (sorted_from deltas versions start told) e)

pub right_walks : (deltas : List Delta) (versions : Versions) (start : List ℕ) (limit : ℕ) (asked : List ℕ) (from to : ℕ) (pairs : List (List ℕ × Row)) → Told deltas versions → from ≤ to
    → IsRangeAnswer (λ key answer. Sometime from to (Shows deltas key asked answer)) (λ key. Throughout from to (Stands deltas key)) start limit pairs
    → walks_in versions start limit asked from to pairs ≡ true
right_walks deltas versions start limit asked from to pairs told span right =
    good_walks (lacks_in from to) (shows_in asked from to) (nat_le limit (length pairs)) (entries_from start versions) pairs (sorted_from deltas versions start told)
    (right_is_good deltas versions start limit asked from to pairs told span right)
