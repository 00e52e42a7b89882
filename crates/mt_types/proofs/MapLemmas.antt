-- The entries of a sorted map, as the finite map that they make.
use Rattle.std.proofs.Common.{◌≡◌, ℕ, Bool, true, false, cond, ◌&&◌, List, [], ◌∷◌, filter, length, Some, None, refl, ap, sym, ◌∙◌, subst}
use Rattle.std.specs.Prelude.{T}
use Rattle.std.specs.declared.cmp.Ordering.{Ordering}
use Rattle.std.specs.declared.cmp.Ordering.TheVariants.{Less}
use Rattle.std.specs.declared.ops.Bound.TheVariants.{Included, Unbounded}
use Rattle.std.specs.Ordering.{is_le, is_ge, is_lt, eq_by_cmp, ordering_reverse}
use Rattle.std.specs.Cmp.{IsTotalOrder, eq_by_cmp_equiv}
use Rattle.std.specs.Cmp.Lexicographic.{nat_list_cmp_total}
use Rattle.std.specs.List.{AllByRecursion}
use Rattle.std.specs.List.Sorted.{IsStrictlySortedBy}
use Rattle.std.specs.Map.{keys_of, lookup}
use Rattle.std.specs.BTreeMap as tree
use Rattle.std.specs.BTreeMap.Range.{entries_between}
use Rattle.std.specs.FinMap as map
use Rattle.std.specs.FinMap.Entries.{below_all}
use Rattle.mt_types.specs.Keys.{key_cmp}
use Rattle.mt_types.specs.Rows.{Rows}
use Rattle.mt_types.specs.declared.row.Row.{Row}

pub key_order : IsTotalOrder key_cmp
key_order = nat_list_cmp_total

pub key_apart : map.IsAntisymmetric key_cmp
key_apart = map.slice_cmp-IsAntisymmetric map.nat_cmp-IsAntisymmetric

abbrev pub Entries : Type 0
Entries = List (List ℕ × Row)

abbrev pub Tree : Type 0
Tree = tree.BTreeMap (List ℕ) Row

-- the finite map of a sorted map
abbrev pub seen : Tree → Rows
seen m = map.from_sorted m.entries

both : (a b : Bool) → T a → T b → T (a && b)
both true b p q = q
both false b p q = p

below_from_all : {X : Type 0} (k : List ℕ) (es : List (List ℕ × X)) → AllByRecursion (λ y. key_cmp k y ≡ Less) (keys_of es) → T (below_all key_cmp k es)
below_from_all k [] h = tt
below_from_all k (e ∷ es) h = both _ _ (subst (λ r. T (is_lt r)) (sym h.0) tt) (below_from_all k es h.1)

pub sorted_entries : {X : Type 0} (es : List (List ℕ × X)) → IsStrictlySortedBy key_cmp (keys_of es) → T (map.is_sorted key_cmp es)
unfolding IsStrictlySortedBy
sorted_entries [] h = tt
sorted_entries (e ∷ es) h = both _ _ (below_from_all e.0 es h.0) (sorted_entries es h.1)

pub find_lookup : {X : Type 0} (q : List ℕ) (es : List (List ℕ × X)) → map.find key_cmp q es ≡ lookup (tree.is_at (key_cmp q)) es
find_lookup q [] = refl
find_lookup q (e ∷ es) = ap (cond (eq_by_cmp key_cmp q e.0) (Some e.1)) (find_lookup q es)

pub entries-seen : (m : Tree) → tree.IsOrdered key_cmp m → map.entries (seen m) ≡ m.entries
entries-seen m h = map.entries-from_sorted key_cmp m.entries (sorted_entries m.entries h)

pub get-seen : (m : Tree) (q : List ℕ) → tree.IsOrdered key_cmp m → map.get (seen m) q ≡ tree.get key_cmp m q
get-seen m q h = map.get-from_sorted key_cmp m.entries q (sorted_entries m.entries h) ∙ find_lookup q m.entries

pub len-seen : (m : Tree) → tree.IsOrdered key_cmp m → map.len (seen m) ≡ length m.entries
len-seen m h = map.len-entries (seen m) ∙ ap length (entries-seen m h)

pub seen-empty : (m : Tree) → tree.IsOrdered key_cmp m → length m.entries ≡ 0 → seen m ≡ map.empty
seen-empty m h e = map.empty_of_len (seen m) (len-seen m h ∙ e)

pub length_of_empty : (m : Tree) → tree.IsOrdered key_cmp m → seen m ≡ map.empty → length m.entries ≡ 0
length_of_empty m h e = sym (len-seen m h) ∙ ap map.len e ∙ map.len-empty key_cmp Row

at_other : (k q : List ℕ) → tree.is_at (key_cmp k) q ≡ eq_by_cmp key_cmp q k
at_other k q = (eq_by_cmp_equiv key_order).symm k q

pub seen-insert : (m n : Tree) (k : List ℕ) (row : Row) → tree.IsOrdered key_cmp m → tree.IsOrdered key_cmp n → tree.Updates key_cmp m n k (Some row) → seen n ≡ map.insert (seen m) k row
seen-insert m n k row om on u =
    map.same_map key_order key_apart _ _ (λ q.
    get-seen n q on ∙ u.0 q
    ∙ ap (λ b. cond b (Some row) (tree.get key_cmp m q)) (at_other k q)
    ∙ ap (cond (eq_by_cmp key_cmp q k) (Some row)) (sym (get-seen m q om))
    ∙ sym (map.get-insert key_order (seen m) k row q))

pub seen-remove : (m n : Tree) (k : List ℕ) → tree.IsOrdered key_cmp m → tree.IsOrdered key_cmp n → tree.Updates key_cmp m n k None → seen n ≡ map.remove (seen m) k
seen-remove m n k om on u =
    map.same_map key_order key_apart _ _ (λ q.
    get-seen n q on ∙ u.0 q
    ∙ ap (λ b. cond b None (tree.get key_cmp m q)) (at_other k q)
    ∙ ap (cond (eq_by_cmp key_cmp q k) None) (sym (get-seen m q om))
    ∙ sym (map.get-remove key_order (seen m) k q))

turned : (r : Ordering) → (is_le r && true) ≡ is_ge (ordering_reverse r)
turned Less = refl
turned _ = refl

from_start : (start k : List ℕ) → (is_le (key_cmp start k) && true) ≡ is_ge (key_cmp k start)
from_start start k = turned (key_cmp start k) ∙ ap is_ge (sym (key_order.antisymm k start))

-- the range of a sorted map from a key on
pub between-from : {X : Type 0} (start : List ℕ) (es : List (List ℕ × X)) → entries_between key_cmp (Included start) Unbounded es ≡ filter (λ pair. is_ge (key_cmp pair.0 start)) es
between-from start [] = refl
between-from start (e ∷ es) = λ t. cond (from_start start e.0 t) (e ∷ between-from start es t) (between-from start es t)
