-- What a range or build has read of a border, if the border is still quiet, is all that a scan needs of it.
use Rattle.std.specs.Prelude.{ℕ, ◌≡◌, ◌≤◌, ◌⊎◌, ◌↔◌, List, Option, Some}
use Rattle.mt_slice.specs.Place.{Place, deeper, under, first_slice}
use Rattle.mt_types.specs.declared.row.Row.{Row}
use Rattle.mt_chart.specs.Tree.{link, PlainEntry, Right, BorderNode, Arena, Among, Below, HoldsRow, Has}
use Rattle.mt_chart.specs.Chart.{Chart, Holds}
use Rattle.mt_chart.specs.ScanRun.{Stood, AllHave}
use Rattle.mt_chart.specs.Noted.{SlotSeen, AreRead, entries_in, IsTrueEntry}
use Rattle.mt_chart.specs.NotedList.{IsNotedList}

-- the tree has no other row in the border's interval than those of its entries and of the layers under its links
abbrev pub HasAllIn : Arena → List ℕ → BorderNode → Type 0
HasAllIn arena prefix node = (place : Place) (row : Row) → node.low ≤ first_slice place → Below (first_slice place) node.right → Has arena (under prefix place) row →
    ((entry : PlainEntry) × Among entry node.entries × HoldsRow entry.slice entry.content place row)
    ⊎ ((rest : Place) × (number : ℕ) × (place ≡ deeper (first_slice place) rest) × Among (record { slice = first_slice place; content = link number }) node.entries)

-- the entries that were read, but for those at or after the noted right link's low
abbrev pub AreKept : List SlotSeen → Option Right → List PlainEntry → Type 0
AreKept now right kept = (entry : PlainEntry) → Among entry kept ↔ (Among entry (entries_in now) × Below entry.slice right)

abbrev pub ListsAreNoted : Type 0
ListsAreNoted = (show : Row → Row) (chart : Chart) (begun : ℕ) (past : List Arena) (prefix : List ℕ) (moment : Arena) (then : BorderNode) (right : Option Right)
    (was now : List SlotSeen) (kept : List PlainEntry) → Among moment past → HasAllIn moment prefix then → then.entries ≡ entries_in was → AreRead was now →
    ((slice : ℕ) → Below slice right → Below slice then.right) →
    ((entry : PlainEntry) → Among entry (entries_in now) → IsTrueEntry show chart begun past prefix entry) →
    ((next : Right) → right ≡ Some next → (slice : ℕ) → next.low ≤ slice → Holds chart begun next.number prefix slice) → AreKept now right kept →
    IsNotedList show chart begun (Stood show past) (AllHave past) prefix then.low right kept
