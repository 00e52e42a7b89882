-- What the fields of a state keep as a row comes and goes, and what they are then seen as.
use Rattle.std.proofs.Common.{◌≡◌, ℕ, ◌+◌, ◌^◌, ◌<◌, ◌≤◌, List, length, Option, Some, None, ap, sym, ◌∙◌, subst, arith}
use Rattle.std.specs.Prelude.{slice_index}
use Rattle.std.specs.Vec.{with_items}
use Rattle.std.specs.Map.{lookup, remove_entry}
use Rattle.std.specs.BTreeMap as tree
use Rattle.std.specs.FinMap as map
use Rattle.std.proofs.lemmas.List.{with_items_is}
use Rattle.mt_types.specs.Keys.{key_cmp}
use Rattle.mt_types.specs.Views.{amount, column_of}
use Rattle.mt_types.specs.declared.row.Row.{Row}
use Rattle.mt_view.specs.State.{StateView}
use Rattle.mt_view.specs.StateFields.{state_of, IsKept}
use Rattle.mt_view.specs.declared.state.ViewState.TheInside.{Inside}
use Rattle.mt_types.proofs.MapLemmas.{Tree, seen-remove}
use Rattle.mt_view.proofs.MapLemmas.{seen-put}
use Rattle.mt_view.proofs.SumLemmas.{IsSummed, covered, room, summed_new, summed_replaced, summed_removed, small_inserted, small_removed}

-- what a map has under a key
abbrev pub at_key : Tree → List ℕ → Option Row
at_key m k = lookup (tree.is_at (key_cmp k)) m.entries

lent_length : (s : Inside) (lent : List ℕ) → lent ≡ s.sums.items → s.sums.len ≡ length lent
lent_length s lent is = s.sums.ok.0 ∙ ap length (sym is)

lent_sums : (s : Inside) (lent : List ℕ) → IsKept s → lent ≡ s.sums.items → IsSummed s.sums.len lent s.rows.entries
lent_sums s lent kept is = subst (λ (z : List ℕ). IsSummed s.sums.len z s.rows.entries) (sym is) kept.summed

stored_sums : (s : Inside) (n : Tree) (lent ws : List ℕ) → lent ≡ s.sums.items → length ws ≡ length lent → IsSummed s.sums.len ws n.entries
    → IsSummed s.sums.len (with_items s.sums ws).items n.entries
stored_sums s n lent ws is len summed =
    subst (λ (z : List ℕ). IsSummed s.sums.len z n.entries) (sym (with_items_is s.sums ws (len ∙ sym (lent_length s lent is)))) summed

pub covered_lent : (s : Inside) (lent : List ℕ) (k : List ℕ) (old : Row) → IsKept s → lent ≡ s.sums.items → Some old ≡ at_key s.rows k
    → (column : ℕ) → column < length lent → amount (column_of column old) ≤ slice_index lent column
covered_lent s lent k old kept is there column h =
    let size = lent_length s lent is in covered s.sums.len lent s.rows.entries k old (lent_sums s lent kept is) there column (omega arith)

pub room_lent : (s : Inside) (lent : List ℕ) → IsKept s → lent ≡ s.sums.items → length s.rows.entries < 2 ^ 63
    → (column : ℕ) → column < length lent → slice_index lent column + 2 ^ 64 ≤ 2 ^ 128
room_lent s lent kept is few column h =
    let size = lent_length s lent is in room s.sums.len lent s.rows.entries (lent_sums s lent kept is) kept.small few column (omega arith)

pub kept_new : (s : Inside) (n : Tree) (lent ws : List ℕ) (k : List ℕ) (v row : Row) → IsKept s → lent ≡ s.sums.items → length ws ≡ length lent
    → None ≡ at_key s.rows k → v ≡ row → n.entries ≡ tree.insert_entry key_cmp s.rows.entries k v → tree.IsOrdered key_cmp n
    → ((column : ℕ) → column < length lent → slice_index ws column ≡ slice_index lent column + amount (column_of column row))
    → ((column : ℕ) → column < length lent → amount (column_of column row) < 2 ^ 64)
    → IsKept (record s { rows = n; sums = with_items s.sums ws })
kept_new s n lent ws k v row kept is len none same e ordered added small =
    let size = lent_length s lent is in
    record {
      ordered = ordered;
      summed = stored_sums s n lent ws is len
          (summed_new s.sums.len lent ws s.rows.entries n.entries k v row (lent_sums s lent kept is) kept.ordered none same e (λ column h. added column (omega arith)));
      small = small_inserted s.sums.len s.rows.entries n.entries k v row kept.small same e (λ column h. small column (omega arith));
    }

pub kept_replaced : (s : Inside) (n : Tree) (lent ws : List ℕ) (k : List ℕ) (v row old : Row) → IsKept s → lent ≡ s.sums.items → length ws ≡ length lent
    → Some old ≡ at_key s.rows k → v ≡ row → n.entries ≡ tree.insert_entry key_cmp s.rows.entries k v → tree.IsOrdered key_cmp n
    → ((column : ℕ) → column < length lent → slice_index ws column + amount (column_of column old) ≡ slice_index lent column + amount (column_of column row))
    → ((column : ℕ) → column < length lent → amount (column_of column row) < 2 ^ 64)
    → IsKept (record s { rows = n; sums = with_items s.sums ws })
kept_replaced s n lent ws k v row old kept is len there same e ordered replaced small =
    let size = lent_length s lent is in
    record {
      ordered = ordered;
      summed = stored_sums s n lent ws is len
          (summed_replaced s.sums.len lent ws s.rows.entries n.entries k v row old (lent_sums s lent kept is) kept.ordered there same e (λ column h. replaced column (omega arith)));
      small = small_inserted s.sums.len s.rows.entries n.entries k v row kept.small same e (λ column h. small column (omega arith));
    }

pub kept_removed : (s : Inside) (n : Tree) (lent ws : List ℕ) (k : List ℕ) (old : Row) → IsKept s → lent ≡ s.sums.items → length ws ≡ length lent
    → Some old ≡ at_key s.rows k → n.entries ≡ remove_entry (tree.is_at (key_cmp k)) s.rows.entries → tree.IsOrdered key_cmp n
    → ((column : ℕ) → column < length lent → slice_index ws column + amount (column_of column old) ≡ slice_index lent column)
    → IsKept (record s { rows = n; sums = with_items s.sums ws })
kept_removed s n lent ws k old kept is len there e ordered subtracted =
    let size = lent_length s lent is in
    record {
      ordered = ordered;
      summed = stored_sums s n lent ws is len
          (summed_removed s.sums.len lent ws s.rows.entries n.entries k old (lent_sums s lent kept is) there e (λ column h. subtracted column (omega arith)));
      small = small_removed s.sums.len s.rows.entries n.entries k kept.small e;
    }

-- the state with other rows
abbrev with_rows : StateView → map.FinMap key_cmp Row → StateView
with_rows state rows = record state { rows = rows }

pub seen_put : (s : Inside) (n : Tree) (ws : List ℕ) (state : StateView) (k key : List ℕ) (v row : Row) → IsKept s → state_of s ≡ state → tree.IsOrdered key_cmp n
    → tree.Updates key_cmp s.rows n k (Some v) → k ≡ key → v ≡ row
    → state_of (record s { rows = n; sums = with_items s.sums ws }) ≡ record state { rows = map.insert state.rows key row }
seen_put s n ws state k key v row kept is ordered updates same alike =
    ap (with_rows (state_of s)) (seen-put s.rows n k key v row kept.ordered ordered updates same alike)
    ∙ ap (λ (z : StateView). with_rows z (map.insert z.rows key row)) is

pub seen_removed : (s : Inside) (n : Tree) (state : StateView) (key : List ℕ) → IsKept s → state_of s ≡ state → tree.IsOrdered key_cmp n
    → tree.Updates key_cmp s.rows n key None → state_of (record s { rows = n }) ≡ record state { rows = map.remove state.rows key }
seen_removed s n state key kept is ordered updates =
    ap (with_rows (state_of s)) (seen-remove s.rows n key kept.ordered ordered updates)
    ∙ ap (λ (z : StateView). with_rows z (map.remove z.rows key)) is
