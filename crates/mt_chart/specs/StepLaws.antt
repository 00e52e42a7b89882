-- The laws of the steps on nodes: each leads from an index to an index, and this is what it does to the content.
use Rattle.std.specs.Prelude.{ℕ, ◌≡◌, ◌≢◌, ◌≤◌, ◌<◌, ◌⊎◌, ◌↔◌, List}
use Rattle.mt_slice.specs.Place.{Place}
use Rattle.mt_types.specs.declared.row.Row.{Row}
use Rattle.mt_chart.specs.Tree.{Arena, Has}
use Rattle.mt_chart.specs.Chart.{Chart, Evolves, Owns}
use Rattle.mt_chart.specs.Steps.{Twin, AreTwins, IsIndex, Keeps, MarksBorder, ShowsRow, HidesRow, SetsRow, LinksHalf, MakesLayer, Unlinks, DropsLayer, DropsChild, PostsBorder, Bypasses, MarksHead, BypassesRoot, MakesRoot, PostsHalf, MakesRootOverHalf, KeepsChildren, MarksGone, MarksGoneBorder, MarksGoneHead, ChangesSpares, Frees}

-- once a row is shown at a key, the index has that row there, and all rows that it had
abbrev pub ShowingAddsTheRow : Type 0
ShowingAddsTheRow = (now : ℕ) (twins : List Twin) (arena after : Arena) (chart : Chart) (key : Place) (row : Row) →
    IsIndex now twins arena chart → ShowsRow arena after chart key row →
    IsIndex now twins after chart × ((other : Place) (shown : Row) →
    Has after other shown ↔ (((other ≡ key) × (shown ≡ row)) ⊎ Has arena other shown))

-- once a row is hidden, the index has no row at its key, and all rows that it had at other keys
abbrev pub HidingRemovesTheRow : Type 0
HidingRemovesTheRow = (now : ℕ) (twins : List Twin) (arena after : Arena) (chart : Chart) (key : Place) (row : Row) →
    IsIndex now twins arena chart → HidesRow arena after chart key row →
    IsIndex now twins after chart × ((other : Place) (shown : Row) →
    Has after other shown ↔ (Has arena other shown × (other ≢ key)))

-- once a row replaces another, the index has the new row at the key, and all rows that it had at other keys
abbrev pub SettingReplacesTheRow : Type 0
SettingReplacesTheRow = (now : ℕ) (twins : List Twin) (arena after : Arena) (chart : Chart) (key : Place)
    (before row : Row) → IsIndex now twins arena chart → SetsRow arena after chart key before row →
    IsIndex now twins after chart × ((other : Place) (shown : Row) →
    Has after other shown ↔ (((other ≡ key) × (shown ≡ row)) ⊎ (Has arena other shown × (other ≢ key))))

-- to lock, unlock or mark a border keeps the index
abbrev pub MarkingABorderKeeps : Type 0
MarkingABorderKeeps = (now : ℕ) (twins : List Twin) (arena after : Arena) (chart : Chart) →
    IsIndex now twins arena chart → MarksBorder arena after chart → Keeps now twins arena after chart chart

-- the link step of a border's split keeps the index
abbrev pub LinkingAHalfKeeps : Type 0
LinkingAHalfKeeps = (now : ℕ) (twins : List Twin) (arena after : Arena) (chart next : Chart) →
    IsIndex now twins arena chart → LinksHalf arena after chart next → Keeps now twins arena after chart next

-- a new layer keeps the index: the row's key is the same key, one layer deeper
abbrev pub MakingALayerKeeps : Type 0
MakingALayerKeeps = (now : ℕ) (twins : List Twin) (arena after : Arena) (chart next : Chart) →
    IsIndex now twins arena chart → MakesLayer arena after chart next → Keeps now twins arena after chart next

-- to take an empty border out of its chain keeps the index
abbrev pub UnlinkingKeeps : Type 0
UnlinkingKeeps = (now : ℕ) (twins : List Twin) (arena after : Arena) (chart next : Chart) →
    IsIndex now twins arena chart → Unlinks now arena after chart next → Keeps now twins arena after chart next

-- to take an empty layer out keeps the index
abbrev pub DroppingALayerKeeps : Type 0
DroppingALayerKeeps = (now : ℕ) (twins : List Twin) (arena after : Arena) (chart next : Chart) →
    IsIndex now twins arena chart → DropsLayer now twins arena after chart next → Keeps now twins arena after chart next

-- to drop a child from an interior keeps the index
abbrev pub DroppingAChildKeeps : Type 0
DroppingAChildKeeps = (now : ℕ) (twins : List Twin) (arena after : Arena) (chart next : Chart) →
    IsIndex now twins arena chart → DropsChild twins arena after chart next → Keeps now twins arena after chart next

-- to post a border in an interior keeps the index
abbrev pub PostingABorderKeeps : Type 0
PostingABorderKeeps = (now : ℕ) (twins : List Twin) (arena after : Arena) (chart next : Chart) →
    IsIndex now twins arena chart → PostsBorder arena after chart next → Keeps now twins arena after chart next

-- to bypass an interior with one child keeps the index
abbrev pub BypassingKeeps : Type 0
BypassingKeeps = (now : ℕ) (twins : List Twin) (arena after : Arena) (chart next : Chart) →
    IsIndex now twins arena chart → Bypasses now twins arena after chart next → Keeps now twins arena after chart next

-- to bypass a root with one child keeps the index
abbrev pub BypassingARootKeeps : Type 0
BypassingARootKeeps = (now : ℕ) (twins : List Twin) (arena after : Arena) (chart next : Chart) →
    IsIndex now twins arena chart → BypassesRoot now twins arena after chart next →
    Keeps now twins arena after chart next

-- a new root keeps the index
abbrev pub MakingARootKeeps : Type 0
MakingARootKeeps = (now : ℕ) (twins : List Twin) (arena after : Arena) (chart between next : Chart) →
    IsIndex now twins arena chart → MakesRoot twins arena after chart between next →
    Keeps now twins arena after chart next

-- to lock, unlock or mark a head keeps the index
abbrev pub MarkingAHeadKeeps : Type 0
MarkingAHeadKeeps = (now : ℕ) (twins : List Twin) (arena after : Arena) (chart : Chart) →
    IsIndex now twins arena chart → MarksHead arena after chart → Keeps now twins arena after chart chart

-- to post the new half of an interior that is split keeps the index, with more twins
abbrev pub PostingAHalfKeeps : Type 0
PostingAHalfKeeps = (now : ℕ) (twins more_twins : List Twin) (arena after : Arena) (chart next : Chart) →
    IsIndex now twins arena chart → PostsHalf twins more_twins arena after chart next →
    Keeps now more_twins arena after chart next

-- a new root over the old one and its new half keeps the index, with more twins
abbrev pub MakingARootOverAHalfKeeps : Type 0
MakingARootOverAHalfKeeps = (now : ℕ) (twins more_twins : List Twin) (arena after : Arena)
    (chart between next : Chart) → IsIndex now twins arena chart →
    MakesRootOverHalf twins more_twins arena after chart between next → Keeps now more_twins arena after chart next

-- to leave some of an interior's children out keeps the index
abbrev pub KeepingChildrenKeeps : Type 0
KeepingChildrenKeeps = (now : ℕ) (twins : List Twin) (arena after : Arena) (chart : Chart) →
    IsIndex now twins arena chart → KeepsChildren arena after chart → Keeps now twins arena after chart chart

-- two interiors that have no child in common need be no twins
abbrev pub PartsNeedBeNoTwins : Type 0
PartsNeedBeNoTwins = (now : ℕ) (twins fewer : List Twin) (arena : Arena) (chart : Chart) →
    IsIndex now twins arena chart →
    ((one other child : ℕ) → Owns arena chart one child → Owns arena chart other child → AreTwins twins one other →
    (one ≡ other) ⊎ AreTwins fewer one other) → IsIndex now fewer arena chart

-- to mark an interior that is gone keeps the index
abbrev pub MarkingWhatIsGoneKeeps : Type 0
MarkingWhatIsGoneKeeps = (now : ℕ) (twins : List Twin) (arena after : Arena) (chart : Chart) →
    IsIndex now twins arena chart → MarksGone arena after chart → Keeps now twins arena after chart chart

-- to lock or unlock a border that is gone keeps the index
abbrev pub MarkingAGoneBorderKeeps : Type 0
MarkingAGoneBorderKeeps = (now : ℕ) (twins : List Twin) (arena after : Arena) (chart : Chart) →
    IsIndex now twins arena chart → MarksGoneBorder arena after chart → Keeps now twins arena after chart chart

-- to lock or unlock a head that is gone keeps the index
abbrev pub MarkingAGoneHeadKeeps : Type 0
MarkingAGoneHeadKeeps = (now : ℕ) (twins : List Twin) (arena after : Arena) (chart : Chart) →
    IsIndex now twins arena chart → MarksGoneHead arena after chart → Keeps now twins arena after chart chart

-- to occupy, fill and give back numbers that the chart doesn't know keeps the index
abbrev pub ChangingSparesKeeps : Type 0
ChangingSparesKeeps = (now : ℕ) (twins : List Twin) (arena after : Arena) (chart : Chart) →
    IsIndex now twins arena chart → ChangesSpares arena after chart → Keeps now twins arena after chart chart

-- to forget the number of a node that is gone keeps the index, and every call that began after the node went may rely
-- on the chart
abbrev pub FreeingKeeps : Type 0
FreeingKeeps = (now : ℕ) (twins : List Twin) (arena : Arena) (chart next : Chart) (went : ℕ) →
    IsIndex now twins arena chart → Frees arena chart next went →
    IsIndex now twins arena next × ((begun : ℕ) → went < begun → Evolves begun chart next)

-- an index stays one in later epochs
abbrev pub LaterEpochsKeep : Type 0
LaterEpochsKeep = (now later : ℕ) (twins : List Twin) (arena : Arena) (chart : Chart) → now ≤ later →
    IsIndex now twins arena chart → IsIndex later twins arena chart
