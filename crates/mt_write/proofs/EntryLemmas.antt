-- The entry of a key, and the slot that is filled with it.
use Rattle.std.proofs.Common.{ℕ, ◌≡◌, ◌<◌, List, [], ◌∷◌, length, drop, slice_get, Option, Some, None, Bool, true, false, refl, sym, ap, ◌∙◌, arith}
use Rattle.mt_border.specs.declared.entry.Content.TheVariants.{Long}
use Rattle.std.specs.Option.{option_map}
use Rattle.mt_types.specs.declared.row.Row.{Row}
use Rattle.mt_slice.specs.Place.{place_of, slice_number}
use Rattle.mt_slice.specs.Classes.{class_of, place_at}
use Rattle.mt_slice.specs.declared.slice_class.Class.{Class}
use Rattle.mt_slice.specs.declared.slice_class.Class.TheVariants.{Len, Long as LongClass}
use Rattle.mt_slice.proofs.PlaceOn.{place_of-place_at}
use Rattle.mt_word.specs.Version.{VersionView}
use Rattle.mt_border.specs.Border.{inserting_version}
use Rattle.mt_border.specs.Entry.{entry_of_row, content_class, content_of, content_row}
use Rattle.mt_border.specs.Table.{first_changed, filled}
use Rattle.mt_border.specs.declared.entry.Entry.{Entry}
use Rattle.mt_border.specs.declared.entry.RightLink.{RightLink}
use Rattle.mt_border.specs.declared.slot_table.Slot.{Slot}
use Rattle.mt_border.proofs.ShowLemmas.{IsBeforeRight}
use Rattle.mt_chart.specs.Tree.{Below, before_right}
use Rattle.mt_tree.specs.Seen.{right_seen, content_place, entry_place}

-- ---- its class, place and row
pub class_of_content : (class : Class) (suffix : List ℕ) (row : Row) → content_class (content_of class suffix row) ≡ class
class_of_content (Len n) suffix row = refl
class_of_content LongClass suffix row = refl

place_of_content : (slice : ℕ) (class : Class) (suffix : List ℕ) (row : Row) → content_place slice (content_of class suffix row) ≡ place_at slice class (place_of suffix)
place_of_content slice (Len n) suffix row = refl
place_of_content slice LongClass suffix row = refl

pub row_of_content : (class : Class) (suffix : List ℕ) (row : Row) → content_row (content_of class suffix row) ≡ Some row
row_of_content (Len n) suffix row = refl
row_of_content LongClass suffix row = refl

pub entry_place_is : (rest : List ℕ) (row : Row) → entry_place (entry_of_row rest row) ≡ place_of rest
entry_place_is rest row = place_of_content (slice_number rest) (class_of (length rest)) (drop 8 rest) row ∙ sym (place_of-place_at rest)

pub left_of_right : (slice : ℕ) (right : Option RightLink) → Below slice (option_map right_seen right) → IsBeforeRight slice right
left_of_right slice None h = tt
left_of_right slice (Some link) h = elim h [ before_right less ↦ less ]

-- the first unused slot, once it is filled
pub record NextSlot (slots : List Slot) (entry : Entry) : Type 0 where
  pub slot : Slot
  pub more : List Slot
  pub is : first_changed (filled entry) slots ≡ slot ∷ more
  pub holds : slot.entry ≡ entry
  pub fresh : slot.held_key ≡ false

pub next_slot : (slots : List Slot) (entry : Entry) → 0 < length slots → NextSlot slots entry
next_slot [] entry some = absurd (omega arith)
next_slot (s ∷ slots) entry some = record { slot = filled entry s; more = slots; is = refl; holds = refl; fresh = refl }

-- a border that is marked for a new key is locked as it was, and is marked if the slot held a key
pub marked_locked : (held : Bool) (v : VersionView) → (inserting_version held v).locked ≡ v.locked
marked_locked true v = refl
marked_locked false v = refl

pub is_marked : (held : Bool) (v : VersionView) → held ≡ true → (inserting_version held v).inserting ≡ true
is_marked true v held = refl
is_marked false v held = cc

-- an entry of a longer key has one suffix and one row
pub same_long : (live : List Entry) (place slice least : ℕ) (suffix other : List ℕ) (row old : Row) → slice_get live place ≡ Some (record { slice = slice; content = Long suffix row }) → slice_get live place ≡ Some (record { slice = least; content = Long other old }) → (other ≡ suffix) × (old ≡ row)
same_long live place slice least suffix other row old one two =
    let both : ◌≡◌ {A = Option Entry} (Some (record { slice = slice; content = Long suffix row })) (Some (record { slice = least; content = Long other old })) = sym one ∙ two in
    let entry : ◌≡◌ {A = Entry} (record { slice = slice; content = Long suffix row }) (record { slice = least; content = Long other old }) = cc in
    let content : Long suffix row ≡ Long other old = ap (λ (e : Entry). e.content) entry in
    (cc, cc)
