-- The begin of a walk in a border: past the entries that are before a place of its layer.
use Rattle.std.specs.Prelude.{ℕ, ◌≡◌, ◌≢◌, ◌<◌, ◌≤◌, ◌⊎◌, List, length, take, slice_get, Some}
use Rattle.mt_types.specs.declared.row.Row.{Row}
use Rattle.mt_types.specs.declared.numbers.NodeNo.{NodeNo}
use Rattle.mt_slice.specs.Place.{Place, last, Precedes, first_slice, slice_number}
use Rattle.mt_border.specs.declared.entry.Entry.{Entry}
use Rattle.mt_border.specs.declared.entry.Content.TheVariants.{Link}
use Rattle.mt_chart.specs.Tree.{PlainEntry, link, Among, HoldsRow}
use Rattle.mt_chart.specs.Scan.{AtMost}
use Rattle.mt_tree.specs.Seen.{entry_seen, entries_seen}

-- all that the entry has is before the place
abbrev pub IsPassed : Place → PlainEntry → Type 0
IsPassed at entry = ((place : Place) (row : Row) → HoldsRow entry.slice entry.content place row → Precedes place at)
    × ((head : ℕ) → entry.content ≡ link head → AtMost (last entry.slice 10) at)

-- a row of the entry is not before the place, nor is a link at an earlier slice
abbrev pub IsLeft : Place → PlainEntry → Type 0
IsLeft at entry = ((place : Place) (row : Row) → HoldsRow entry.slice entry.content place row → AtMost at place)
    × ((head : ℕ) → entry.content ≡ link head → first_slice at ≤ entry.slice)

-- the entries before this one are passed, and it is not
pub record BeginsAt (live : List Entry) (at : Place) (place : ℕ) : Type 0 where
  pub within : place ≤ length live
  pub passed : (entry : PlainEntry) → Among entry (entries_seen (take place live)) → IsPassed at entry
  pub left : (entry : Entry) → slice_get live place ≡ Some entry → IsLeft at (entry_seen entry)

-- the entry there is a link, at the slice of the rest of a key, which continues past it
pub record LinksAt (live : List Entry) (place : ℕ) (rest : List ℕ) (head : NodeNo) : Type 0 where
  pub entry : Entry
  pub there : slice_get live place ≡ Some entry
  pub at_slice : entry.slice ≡ slice_number rest
  pub is_link : entry.content ≡ Link head
  pub longer : 8 < length rest

-- a link there is at another slice, or the rest ends in its slice
abbrev pub LinksNot : List Entry → ℕ → List ℕ → Type 0
LinksNot live place rest = (entry : Entry) (head : NodeNo) → slice_get live place ≡ Some entry →
    entry.content ≡ Link head → (entry.slice ≢ slice_number rest) ⊎ (length rest ≤ 8)
