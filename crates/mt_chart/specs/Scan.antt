-- The scan of a range: what an open range keeps, what a visit of a border does, and what the answer is to be.
use Rattle.std.specs.Prelude.{ℕ, ◌≡◌, ◌<◌, ◌≤◌, ◌⊎◌, List, [], ◌∷◌, ◌++◌, length, Option, Some, None}
use Rattle.mt_slice.specs.Place.{Place, last, deeper, under, Precedes, first_slice}
use Rattle.mt_types.specs.declared.row.Row.{Row}
use Rattle.mt_chart.specs.Tree.{link, PlainEntry, Right, BorderNode, Among, HoldsRow}
use Rattle.mt_chart.specs.Chart.{Chart, Holds}

-- the one place is at or before the other
abbrev pub AtMost : Place → Place → Type 0
AtMost place other = (place ≡ other) ⊎ Precedes place other

-- a key, as its place, with a value
pub record Pair (V : Type 0) : Type 0 where
  pub key : Place
  pub value : V

-- each key is before all that follow it
abbrev pub Rising : {V : Type 0} → List (Pair V) → Type 0
Rising [] = Unit {0}
Rising (pair ∷ pairs) = ((other : Pair _) → Among other pairs → Precedes pair.key other.key) × Rising pairs

-- not after the last key taken
abbrev pub UpTo : {V : Type 0} → Place → List (Pair V) → Type 0
UpTo {V} key taken = (pair : Pair V) × Among pair taken × AtMost key pair.key

-- the key was taken
abbrev pub Listed : {V : Type 0} → Place → List (Pair V) → Type 0
Listed {V} key taken = (pair : Pair V) × Among pair taken × (pair.key ≡ key)

-- What a range's answer is to be. `stood`: at some moment of the call the key had this row; `throughout`: at each
-- moment of the call the key had a row.
pub record AnswersRange {V : Type 0} (stood : Place → V → Type 0) (throughout : Place → Type 0) (start : Place)
    (limit : ℕ) (taken : List (Pair V)) : Type 0 where
  pub rises : Rising taken
  pub from_start : (pair : Pair V) → Among pair taken → AtMost start pair.key
  pub few : length taken ≤ limit
  pub shown : (pair : Pair V) → Among pair taken → stood pair.key pair.value
  pub complete : (key : Place) → AtMost start key → throughout key → (length taken < limit) ⊎ UpTo key taken →
      Listed key taken

-- what a scan has done so far: each key before the cursor, or up to the last key taken, that was there throughout is
-- taken
pub record Scanned {V : Type 0} (stood : Place → V → Type 0) (throughout : Place → Type 0) (start : Place) (limit : ℕ)
    (cursor : Place) (taken : List (Pair V)) : Type 0 where
  pub onward : AtMost start cursor
  pub rises : Rising taken
  pub from_start : (pair : Pair V) → Among pair taken → AtMost start pair.key
  pub few : length taken ≤ limit
  pub shown : (pair : Pair V) → Among pair taken → stood pair.key pair.value
  pub covered : (key : Place) → AtMost start key → Precedes key cursor ⊎ UpTo key taken → throughout key →
      Listed key taken

-- an open range: in the layer of a prefix, at a node that it holds, its cursor at a place of that layer
pub record OpenRange {V : Type 0} (chart : Chart) (begun : ℕ) (stood : Place → V → Type 0) (throughout : Place → Type 0)
    (start : Place) (limit : ℕ)
    (prefix : List ℕ) (number : ℕ) (at : Place) (taken : List (Pair V)) : Type 0 where
  pub held : Holds chart begun number prefix (first_slice at)
  pub scanned : Scanned stood throughout start limit (under prefix at) taken

-- The visit of a border has passed the entry: a row's key is before the cursor or not after the last key taken, a link
-- is not to be entered, since all of its layer is before the cursor.
abbrev pub Passed : {V : Type 0} → List ℕ → Place → List (Pair V) → PlainEntry → Type 0
Passed prefix at taken entry = ((place : Place) (row : Row) → HoldsRow entry.slice entry.content place row →
    Precedes place at ⊎ UpTo (under prefix place) taken)
    × ((next : ℕ) → entry.content ≡ link next → AtMost (last entry.slice 10) at)

-- a visit of a border that has passed some entries and has the others before it
pub record Visiting {V : Type 0} (stood : Place → V → Type 0) (throughout : Place → Type 0) (start : Place) (limit : ℕ)
    (prefix : List ℕ) (node : BorderNode) (at : Place) (done todo : List PlainEntry)
    (taken : List (Pair V)) : Type 0 where
  pub split : node.entries ≡ done ++ todo
  pub scanned : Scanned stood throughout start limit (under prefix at) taken
  pub passed : (entry : PlainEntry) → Among entry done → Passed prefix at taken entry

-- what a visit of a border comes to: the answer, or where the scan goes: layer, node, cursor, with the pairs taken
pub data VisitOutcome (V : Type 0) : Type 0 where
  answers : List (Pair V) → VisitOutcome V
  goes : List ℕ → ℕ → Place → List (Pair V) → VisitOutcome V

-- At the end of a border, the scan goes to the right neighbour, from its low on. If there is none, it goes back to the
-- first layer, after all keys of this one; and in the first layer it answers.
abbrev pub AtEnd : {V : Type 0} → List ℕ → Option Right → List (Pair V) → VisitOutcome V → Type 0
AtEnd prefix (Some neighbour) taken outcome = outcome ≡ goes prefix neighbour.number (last neighbour.low 0) taken
AtEnd [] None taken outcome = outcome ≡ answers taken
AtEnd (slice ∷ above) None taken outcome = outcome ≡ goes [] 0 (under above (last slice 10)) taken

-- A link is passed if all of its layer is before the cursor; else it is entered: at the layer's first place, or at the
-- cursor if that is in the layer.
abbrev pub AtLink : {V : Type 0} → List ℕ → Place → ℕ → ℕ → List (Pair V) → VisitOutcome V → Type 0 → Type 0
AtLink prefix at slice next taken outcome Rest =
    (AtMost (last slice 10) at × Rest)
    ⊎ ((Precedes at (deeper slice (last 0 0)) × (outcome ≡ goes (slice ∷ prefix) next (last 0 0) taken))
    ⊎ ((rest : Place) × (at ≡ deeper slice rest) × (outcome ≡ goes (slice ∷ prefix) next rest taken)))

-- The visit of a border, entry by entry: at the limit the answer; a row is passed that is before the cursor or not
-- after the last key taken, else it is taken; a link is passed or entered.
abbrev pub BorderVisit : {V : Type 0} → (Row → V) → ℕ → List ℕ → Place → Option Right → List PlainEntry
    → List (Pair V) →
    VisitOutcome V → Type 0
BorderVisit show limit prefix at right [] taken outcome = ((length taken ≡ limit) × (outcome ≡ answers taken))
    ⊎ AtEnd prefix right taken outcome
BorderVisit show limit prefix at right (entry ∷ entries) taken outcome =
    ((length taken ≡ limit) × (outcome ≡ answers taken))
    ⊎ (((place : Place) × (row : Row) × HoldsRow entry.slice entry.content place row
    × (Precedes place at ⊎ UpTo (under prefix place) taken)
    × BorderVisit show limit prefix at right entries taken outcome)
    ⊎ (((place : Place) × (row : Row) × HoldsRow entry.slice entry.content place row × AtMost at place
    × ((pair : Pair _) → Among pair taken → Precedes pair.key (under prefix place)) × (length taken < limit)
    × BorderVisit show limit prefix at right entries
    (taken ++ (record { key = under prefix place; value = show row } ∷ [])) outcome)
    ⊎ ((next : ℕ) × (entry.content ≡ link next) × AtLink prefix at entry.slice next taken outcome
    (BorderVisit show limit prefix at right entries taken outcome))))

-- what an outcome is to keep
abbrev pub Comes : {V : Type 0} → Chart → ℕ → (Place → V → Type 0) → (Place → Type 0) → Place → ℕ → VisitOutcome V →
    Type 0
Comes chart begun stood throughout start limit (answers taken) = AnswersRange stood throughout start limit taken
Comes chart begun stood throughout start limit (goes prefix number at taken) =
    OpenRange chart begun stood throughout start limit prefix number at taken
