-- Scans among other calls: the moments of a call as a list of arenas, newest first, and what steps a scan is made of.
use Rattle.std.specs.Prelude.{ℕ, ◌≡◌, ◌<◌, ◌≤◌, ◌⊎◌, List, [], ◌∷◌, Some, false}
use Rattle.mt_slice.specs.Place.{Place, deeper, under, first_slice}
use Rattle.mt_types.specs.declared.row.Row.{Row}
use Rattle.mt_chart.specs.Tree.{link, PlainEntry, Right, HeadNode, BorderNode, PlainChild, InteriorNode, head, border, interior, Arena, Among, Below, Has}
use Rattle.mt_chart.specs.Chart.{Chart, class, IsTree, Evolves}
use Rattle.mt_chart.specs.Scan.{AtMost, Pair, goes, BorderVisit}

-- at some moment the key had a row that shows so
abbrev pub Stood : {V : Type 0} → (Row → V) → List Arena → Place → V → Type 0
Stood show [] key value = ⊥
Stood show (arena ∷ past) key value = ((row : Row) × Has arena key row × (show row ≡ value)) ⊎ Stood show past key value

-- at some moment the key had no row
abbrev pub Lacked : List Arena → Place → Type 0
Lacked [] key = ⊥
Lacked (arena ∷ past) key = ((row : Row) → Has arena key row → ⊥) ⊎ Lacked past key

-- at each moment the key had a row
abbrev pub AllHave : List Arena → Place → Type 0
AllHave [] key = Unit {0}
AllHave (arena ∷ past) key = ((row : Row) × Has arena key row) × AllHave past key

-- the entries are in order, by slice and then by class
abbrev pub EntriesInOrder : List PlainEntry → Type 0
EntriesInOrder [] = Unit {0}
EntriesInOrder (entry ∷ entries) = ((other : PlainEntry) → Among other entries → (entry.slice < other.slice)
    ⊎ ((entry.slice ≡ other.slice) × (class entry.content < class other.content))) × EntriesInOrder entries

-- A scan that has come, since its begin, to a layer, a node, a cursor and a list of pairs: what others do and its own
-- moves, in any order. A node that is marked deleted leads back to layer 0's head, and so may any other.
pub data Scans {V : Type 0} (show : Row → V) (begun : ℕ) (start : Place) (limit : ℕ) : Chart → Arena → List Arena →
    List ℕ → ℕ → Place → List (Pair V) → Type 0 where
  begins : {chart : Chart} {arena : Arena} → IsTree arena chart →
      Scans show begun start limit chart arena [] [] 0 start []
  others : {chart new : Chart} {arena after : Arena} {past : List Arena} {prefix : List ℕ} {number : ℕ} {at : Place}
      {taken : List (Pair V)} →
      Scans show begun start limit chart arena past prefix number at taken → IsTree after new →
      Evolves begun chart new → Scans show begun start limit new after (arena ∷ past) prefix number at taken
  again : {chart : Chart} {arena : Arena} {past : List Arena} {prefix : List ℕ} {number : ℕ} {at : Place} {taken : List
      (Pair V)} (back : Place) →
      Scans show begun start limit chart arena past prefix number at taken → AtMost start back →
      AtMost back (under prefix at) → Scans show begun start limit chart arena past [] 0 back taken
  at_head : {chart : Chart} {arena : Arena} {past : List Arena} {prefix : List ℕ} {number : ℕ} {at : Place}
      {taken : List (Pair V)} (node : HeadNode) →
      Scans show begun start limit chart arena past prefix number at taken → arena number ≡ Some (head node) →
      node.deleted ≡ false → Scans show begun start limit chart arena past prefix node.root at taken
  at_interior : {chart : Chart} {arena : Arena} {past : List Arena} {prefix : List ℕ} {number : ℕ} {at : Place}
      {taken : List (Pair V)} (node : InteriorNode) (child : PlainChild) →
      Scans show begun start limit chart arena past prefix number at taken → arena number ≡ Some (interior node) →
      node.deleted ≡ false → Among child node.children → child.low ≤ first_slice at →
      Scans show begun start limit chart arena past prefix child.number at taken
  to_right : {chart : Chart} {arena : Arena} {past : List Arena} {prefix : List ℕ} {number : ℕ} {at : Place}
      {taken : List (Pair V)} (node : BorderNode) (link : Right) →
      Scans show begun start limit chart arena past prefix number at taken → arena number ≡ Some (border node) →
      node.deleted ≡ false → node.right ≡ Some link → link.low ≤ first_slice at →
      Scans show begun start limit chart arena past prefix link.number at taken
  into_layer : {chart : Chart} {arena : Arena} {past : List Arena} {prefix : List ℕ} {number : ℕ} {taken : List
      (Pair V)} (node : BorderNode) (slice next : ℕ) (rest : Place) →
      Scans show begun start limit chart arena past prefix number (deeper slice rest) taken →
      arena number ≡ Some (border node) → node.deleted ≡ false →
      Among (record { slice = slice; content = link next }) node.entries →
      Scans show begun start limit chart arena past (slice ∷ prefix) next rest taken
  visits : {chart : Chart} {arena : Arena} {past : List Arena} {prefix : List ℕ} {number : ℕ} {at : Place} {taken : List
      (Pair V)} (node : BorderNode) (to_prefix : List ℕ) (to_number : ℕ) (to : Place) (more : List (Pair V)) →
      Scans show begun start limit chart arena past prefix number at taken → arena number ≡ Some (border node) →
      node.deleted ≡ false → EntriesInOrder node.entries → Below (first_slice at) node.right →
      BorderVisit show limit prefix at node.right node.entries taken (goes to_prefix to_number to more) →
      Scans show begun start limit chart arena past to_prefix to_number to more

-- at no moment did the key have another row than this
abbrev pub Steady : List Arena → Place → Row → Type 0
Steady [] key row = Unit {0}
Steady (arena ∷ past) key row = ((other : Row) → Has arena key other → other ≡ row) × Steady past key row

-- at no moment did the key have a row
abbrev pub Never : List Arena → Place → Type 0
Never [] key = Unit {0}
Never (arena ∷ past) key = ((row : Row) → Has arena key row → ⊥) × Never past key
