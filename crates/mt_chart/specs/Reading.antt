-- What a call knows of a border that it reads field by field, while others change it.
use Rattle.std.specs.Prelude.{ℕ, nat_lt, Bool, true, if◌then◌else◌, ◌≡◌, ◌≢◌, ◌<◌, ◌≤◌, ◌⊎◌, List, [], ◌∷◌, length, take, slice_get, Option, Some, None}
use Rattle.mt_slice.specs.Place.{Place, first_slice, first_class}
use Rattle.mt_types.specs.declared.row.Row.{Row}
use Rattle.mt_chart.specs.Tree.{PlainContent, short, long, link, PlainEntry, Right, BorderNode, Arena, Among, Below, HoldsRow}
use Rattle.mt_chart.specs.Chart.{at_level, Chart, class}
use Rattle.mt_chart.specs.Walk.{Known}
use Rattle.mt_chart.specs.ScanRun.{EntriesInOrder}
use Rattle.mt_chart.specs.Noted.{SlotSeen, FieldsSeen, Counters, IsQuiet, HasComeTo, IsTrueEntry, IsNoted, AreRead, entries_in}
use Rattle.mt_chart.specs.ListNoted.{HasAllIn}

-- AFTER THE VERSION, which showed no mark and no flag, and these counters: the call knows the border's place, and
-- what its right link names, whatever becomes of the border
pub record HasLooked (v : Counters) (chart : Chart) (begun number : ℕ) (prefix : List ℕ) (slice : ℕ) (f : FieldsSeen) : Type 0 where
  pub known : Known chart begun number (at_level 0) prefix f.node.low
  pub from_low : f.node.low ≤ slice
  pub come : HasComeTo v f
  pub right : (link : Right) → f.node.right ≡ Some link → (f.node.low < link.low)
      × Known chart begun link.number (at_level 0) prefix link.low

-- AFTER THE RIGHT LINK: the slice is before it; and while the border is quiet, what is before it is before the border's
pub record HasRight (v : Counters) (chart : Chart) (begun : ℕ) (prefix : List ℕ) (slice : ℕ) (f : FieldsSeen)
    (noted : Option Right) : Type 0 where
  pub passes : Below slice noted
  pub known : (link : Right) → noted ≡ Some link → Known chart begun link.number (at_level 0) prefix link.low
  pub lasts : IsQuiet v f → (other : ℕ) → Below other noted → Below other f.node.right

-- each slot of these numbers was live, and was so
abbrev pub AreNoted : {V : Type 0} → (Row → V) → Chart → ℕ → List Arena → List ℕ → FieldsSeen → List SlotSeen → List ℕ → Type 0
AreNoted show chart begun past prefix f [] [] = Unit {0}
AreNoted show chart begun past prefix f (was ∷ others) (number ∷ numbers) =
    IsNoted show chart begun past prefix f was number × AreNoted show chart begun past prefix f others numbers
AreNoted show chart begun past prefix f [] (number ∷ numbers) = ⊥
AreNoted show chart begun past prefix f (was ∷ others) [] = ⊥

-- AFTER THE ORDER, of a border that is still quiet: at some moment the slots of these numbers were the border's live
-- ones, in order, and held all that there was in its interval; and each is what it was, or was made a layer since
pub record HasOrder {V : Type 0} (show : Row → V) (chart : Chart) (begun : ℕ) (past : List Arena) (prefix : List ℕ)
    (f : FieldsSeen) (noted : Option Right) (numbers : List ℕ) (was : List SlotSeen) : Type 0 where
  pub moment : Arena
  pub passed : Among moment past
  pub node : BorderNode
  pub low : node.low ≡ f.node.low
  pub entries : node.entries ≡ entries_in was
  pub in_order : EntriesInOrder node.entries
  pub right : (other : ℕ) → Below other noted → Below other node.right
  pub interval : HasAllIn moment prefix node
  pub slots : AreNoted show chart begun past prefix f was numbers

-- an entry stands before a slice and a class
abbrev pub StandsBefore : ℕ → ℕ → PlainEntry → Type 0
StandsBefore slice bytes entry = (entry.slice < slice) ⊎ ((entry.slice ≡ slice) × (class entry.content < bytes))

-- and after them
abbrev pub StandsAfter : ℕ → ℕ → PlainEntry → Type 0
StandsAfter slice bytes entry = (slice < entry.slice) ⊎ ((entry.slice ≡ slice) × (bytes < class entry.content))

-- A GET, KEY BY KEY: the slots of the places before this one were before the slice and class that it seeks
abbrev pub AreBefore : ℕ → ℕ → List SlotSeen → ℕ → Type 0
AreBefore slice bytes was place = (i : ℕ) (slot : SlotSeen) → i < place → slice_get was i ≡ Some slot → StandsBefore slice bytes slot.entry

-- why it needs no further: there is no slot at this place; or what was there was after the slice and class, or at them
-- the row of another key
pub data Stops (key : Place) (was : List SlotSeen) (place : ℕ) : Type 0 where
  at_end : length was ≤ place → Stops key was place
  is_after : (slot : SlotSeen) → slice_get was place ≡ Some slot → StandsAfter (first_slice key) (first_class key) slot.entry → Stops key was place
  is_other : (slot : SlotSeen) (other : Place) (row : Row) → slice_get was place ≡ Some slot →
      slot.entry.slice ≡ first_slice key → class slot.entry.content ≡ first_class key →
      HoldsRow slot.entry.slice slot.entry.content other row → other ≢ key → Stops key was place

-- what a get knows while it reads keys, if the border is still quiet: the slots as they were at the order, and that
-- those before a place were before its key
pub record Searches {V : Type 0} (show : Row → V) (chart : Chart) (begun : ℕ) (past : List Arena) (prefix : List ℕ)
    (f : FieldsSeen) (noted : Option Right) (numbers : List ℕ) (key : Place) (place : ℕ) : Type 0 where
  pub was : List SlotSeen
  pub order : HasOrder show chart begun past prefix f noted numbers was
  pub before : AreBefore (first_slice key) (first_class key) was place

-- the row that the content of a slice holds, if there is one
abbrev pub row_in : PlainContent → Option Row
row_in (short bytes row) = Some row
row_in (long rest row) = Some row
row_in (link number) = None

-- AFTER A SLOT'S KEY, of a border that is still quiet: the slot is what it was then, or was made a layer since; and it
-- was then a row of the key sought ..
pub record HasRowKey {V : Type 0} (show : Row → V) (chart : Chart) (begun : ℕ) (past : List Arena) (prefix : List ℕ)
    (f : FieldsSeen) (number : ℕ) (key : Place) : Type 0 where
  pub read : SlotSeen
  pub noted : IsNoted show chart begun past prefix f read number
  pub row : Row
  pub holds : HoldsRow read.entry.slice read.entry.content key row

-- .. or a link at its slice
pub record HasLinkKey {V : Type 0} (show : Row → V) (chart : Chart) (begun : ℕ) (past : List Arena) (prefix : List ℕ)
    (f : FieldsSeen) (number slice : ℕ) : Type 0 where
  pub read : SlotSeen
  pub noted : IsNoted show chart begun past prefix f read number
  pub at_slice : read.entry.slice ≡ slice
  pub head : ℕ
  pub is_link : read.entry.content ≡ link head

-- each entry shows what was there
abbrev pub AllTrue : {V : Type 0} → (Row → V) → Chart → ℕ → List Arena → List ℕ → List PlainEntry → Type 0
AllTrue show chart begun past prefix entries = (entry : PlainEntry) → Among entry entries
    → IsTrueEntry show chart begun past prefix entry

-- whether the slice is before the right link's low, if there is a right link
abbrev pub is_below : ℕ → Option Right → Bool
is_below slice None = true
is_below slice (Some right) = nat_lt slice right.low

-- the entries that were read of these slots, but for those at or after the noted right link's low
abbrev pub kept_of : Option Right → List SlotSeen → List PlainEntry
kept_of noted [] = []
kept_of noted (slot ∷ slots) = if is_below slot.entry.slice noted then slot.entry ∷ kept_of noted slots else kept_of noted slots

-- A RANGE, SLOT BY SLOT: what a range or build knows, if the border is still quiet: the slots as they were at the
-- order, and what was read of the first `place` of them, key and value, of which it keeps these entries
pub record Lists {V : Type 0} (show : Row → V) (chart : Chart) (begun : ℕ) (past : List Arena) (prefix : List ℕ)
    (f : FieldsSeen) (noted : Option Right) (numbers : List ℕ) (place : ℕ) (kept : List PlainEntry) : Type 0 where
  pub was : List SlotSeen
  pub order : HasOrder show chart begun past prefix f noted numbers was
  pub read : List SlotSeen
  pub many : length read ≡ place
  pub same : AreRead (take place was) read
  pub kept_are : kept ≡ kept_of noted read
  pub true : AllTrue show chart begun past prefix (entries_in read)
