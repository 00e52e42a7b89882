-- What the log holds: the deltas of changes, one for each, in their order.
use Rattle.std.specs.Prelude.{ℕ, ◌+◌, List, [], ◌∷◌}
use Rattle.std.specs.FinMap.{get, empty}
use Rattle.mt_types.specs.Rows.{Rows, after_change}
use Rattle.mt_types.specs.declared.row.Change.{Change}
use Rattle.mt_types.specs.declared.row.Change.TheVariants.{Put, Drop}
use Rattle.mt_types.specs.declared.row.Delta.{Delta}

-- the key whose row a change makes or takes away
abbrev pub key_of : Change → List ℕ
key_of (Put key sets) = key
key_of (Drop key) = key

-- the delta of a change that the commit of this number makes of these rows: what its key had, and what it then has
abbrev pub delta_made : ℕ → ℕ → Change → Rows → Delta
delta_made C number change rows = record {
  number = number;
  key = key_of change;
  before = get rows (key_of change);
  after = get (after_change C number change rows) (key_of change);
}

-- the deltas of changes of these rows, of which the first is made by the commit after this number
abbrev pub deltas_from : ℕ → ℕ → Rows → List Change → List Delta
deltas_from C number rows [] = []
deltas_from C number rows (change ∷ changes) =
    delta_made C (number + 1) change rows
    ∷ deltas_from C (number + 1) (after_change C (number + 1) change rows) changes

-- the deltas of these changes of an index of C columns, from none on: the i-th is that of the commit of number i
abbrev pub deltas_of : ℕ → List Change → List Delta
deltas_of C changes = deltas_from C 0 empty changes
