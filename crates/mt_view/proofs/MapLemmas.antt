-- Puts and copies of sorted maps.
use Rattle.std.proofs.Common.{◌≡◌, ℕ, List, [], ◌∷◌, ◌++◌, Some, refl, ap, sym, ◌∙◌, subst, append_assoc}
use Rattle.std.proofs.lemmas.List.{nil_from_length}
use Rattle.std.specs.declared.cmp.Ordering.{Ordering}
use Rattle.std.specs.declared.cmp.Ordering.TheVariants.{Less, Greater}
use Rattle.std.specs.Ordering.{ordering_reverse, match_ordering}
use Rattle.std.specs.List.{AllByRecursion}
use Rattle.std.specs.List.Sorted.{IsStrictlySortedBy}
use Rattle.std.specs.Map.{keys_of}
use Rattle.std.specs.BTreeMap as tree
use Rattle.std.specs.FinMap as map
use Rattle.mt_types.specs.Keys.{key_cmp}
use Rattle.mt_types.specs.declared.row.Row.{Row}
use Rattle.mt_types.proofs.MapLemmas.{Entries, Tree, key_order, seen, seen-insert}

-- a row that is put under a key, if the map takes copies of both
pub seen-put : (m n : Tree) (k key : List ℕ) (v row : Row) → tree.IsOrdered key_cmp m → tree.IsOrdered key_cmp n → tree.Updates key_cmp m n k (Some v)
    → k ≡ key → v ≡ row → seen n ≡ map.insert (seen m) key row
seen-put m n k key v row om on u same alike =
    seen-insert m n k v om on u ∙ ap (λ (q : List ℕ). map.insert (seen m) q v) same ∙ ap (map.insert (seen m) key) alike

abbrev IsBelow : List ℕ → List (List ℕ) → Type 0
IsBelow k ks = AllByRecursion (λ y. key_cmp k y ≡ Less) ks

below_later : (k : List ℕ) (es : Entries) (e : List ℕ × Row) (rest : Entries) → IsBelow k (keys_of (es ++ e ∷ rest)) → key_cmp k e.0 ≡ Less
below_later k [] e rest h = h.0
below_later k (f ∷ es) e rest h = below_later k es e rest h.1

-- an entry that comes after all others is inserted at the end
pub insert-last : (es : Entries) (k : List ℕ) (v : Row) (rest : Entries) → IsStrictlySortedBy key_cmp (keys_of (es ++ (k, v) ∷ rest)) → tree.insert_entry key_cmp es k v ≡ es ++ (k, v) ∷ []
unfolding IsStrictlySortedBy
insert-last [] k v rest h = refl
insert-last (e ∷ es) k v rest h =
    let greater : key_cmp k e.0 ≡ Greater = key_order.antisymm k e.0 ∙ ap ordering_reverse (below_later e.0 es (k, v) rest h.0) in
    ap (λ (o : Ordering). match_ordering o ((k, v) ∷ e ∷ es) ((e.0, v) ∷ es) (e ∷ tree.insert_entry key_cmp es k v)) greater
    ∙ ap (λ (z : Entries). e ∷ z) (insert-last es k v rest h.1)

-- one more entry is copied
pub copied-more : (all es fs rest left : Entries) (key k : List ℕ) (row v : Row) → IsStrictlySortedBy key_cmp (keys_of all) → es ++ left ≡ all
    → left ≡ (key, row) ∷ rest → k ≡ key → v ≡ row → fs ≡ tree.insert_entry key_cmp es k v → fs ++ rest ≡ all
copied-more all es fs rest left key k row v sorted so_far next same alike e =
    let entry : ◌≡◌ {A = List ℕ × Row} (k, v) (key, row) = λ t. (same t, alike t) in
    let whole : es ++ (k, v) ∷ rest ≡ all = ap (λ (p : List ℕ × Row). es ++ p ∷ rest) entry ∙ ap (λ (z : Entries). es ++ z) (sym next) ∙ so_far in
    let last = insert-last es k v rest (subst (λ (z : Entries). IsStrictlySortedBy key_cmp (keys_of z)) (sym whole) sorted) in
    ap (λ (z : Entries). z ++ rest) (e ∙ last) ∙ append_assoc es ((k, v) ∷ []) rest ∙ whole

pub entries-empty : map.entries (map.empty {K = List ℕ} {X = Row} {R = key_cmp}) ≡ []
entries-empty = nil_from_length _ (sym (map.len-entries map.empty) ∙ map.len-empty key_cmp Row)
