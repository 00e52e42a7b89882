-- What a get finds among the keys of a border, and what the value of a slot leads to.
use Rattle.std.specs.Prelude.{ℕ, ◌≡◌, ◌+◌, ◌==◌, nat_lt, Bool, ◌||◌, ◌&&◌, if◌then◌else◌, List, length, drop, slice_index, Option, None, Result, IsSomeAnd}
use Rattle.mt_types.specs.declared.refusal.NoMemory.{NoMemory}
use Rattle.std.specs.Str.{bytes_eq}
use Rattle.mt_types.specs.Rows.{shown}
use Rattle.mt_slice.specs.Place.{slice_number}
use Rattle.mt_slice.specs.Classes.{class_number, class_of}
use Rattle.mt_word.specs.Slots.{Slots}
use Rattle.mt_border.specs.declared.entry.RightLink.{RightLink}
use Rattle.mt_border.specs.declared.field.Mark.{Mark}
use Rattle.mt_border.specs.declared.field.Mark.TheVariants.{Plain, Unstable, Layer}
use Rattle.mt_border.specs.declared.field.KeyPart.{KeyPart}
use Rattle.mt_border.specs.declared.field.ValuePart.{ValuePart}
use Rattle.mt_border.specs.declared.field.ValuePart.TheVariants.{Row as RowPart, Link as LinkPart}
use Rattle.mt_border.specs.Entry.{entry_row}
use Rattle.mt_border.specs.Keys.{part_bytes}
use Rattle.mt_border.specs.Slots.{slot_at}
use Rattle.mt_arena.specs.Arena.{ArenaView}
use Rattle.mt_arena.specs.Node.{border_of}
use Rattle.mt_arena.specs.declared.node.Node.{Node}
use Rattle.mt_arena.specs.declared.part.Part.{Part}
use Rattle.mt_arena.specs.declared.part.Part.TheVariants.{Head as HeadPart, Interior as InteriorPart, Version as VersionPart, Right as RightPart, Order as OrderPart, Key as KeyPartOf, Value as ValuePartOf}
use Rattle.mt_tree.specs.Descent.{visit_head, visit_interior}
use Rattle.mt_steps.specs.declared.finding.Kind.{Kind}
use Rattle.mt_steps.specs.declared.finding.Kind.TheVariants.{Row as RowKind, Link as LinkKind}
use Rattle.mt_steps.specs.declared.finding.Sight.{Sight}
use Rattle.mt_steps.specs.declared.finding.Sight.TheVariants.{Absent, Row as RowSight, Link as LinkSight}
use Rattle.mt_steps.specs.declared.reader.Counters.{Counters}
use Rattle.mt_steps.specs.declared.reader.Notes.{Notes}
use Rattle.mt_steps.specs.declared.reader.Reader.{Reader}
use Rattle.mt_steps.specs.declared.reader.Reader.TheVariants.{Bounded, Reads, AtValue, Settles}
use Rattle.mt_steps.specs.declared.reader.Reading.{Reading}
use Rattle.mt_steps.specs.declared.reader.Reading.TheVariants.{Repeats, GoesOn}
use Rattle.mt_steps.specs.Reader.{by_mark, by_visit, at_version, at_right, VersionWaits, KeyWaits, ReadsField}
use Rattle.mt_steps.specs.Causes.{TakesMemory}

-- it keeps nothing of the slots before its key's
abbrev pub FindNotes : Type 0
FindNotes = Notes (Unit {0})

abbrev pub Finding : Type 0
Finding = Reader (Unit {0}) Kind Sight

abbrev pub FindReading : Type 0
FindReading = Reading (Unit {0}) Kind Sight

-- the place of an order, once these were read before it
abbrev pub notes_at : Counters → Option RightLink → Slots → ℕ → FindNotes
notes_at counters right order place = record {
  glance = record { counters = counters; right = right; order = order };
  kept = tt;
  place = place;
}

abbrev pub settles : Counters → Sight → FindReading
settles counters sight = GoesOn (Settles counters sight)

-- the key at a place is next, if there is one
abbrev pub next_key : FindNotes → FindReading
next_key notes = if nat_lt notes.place (length notes.glance.order.live) then GoesOn (Reads notes) else settles
    notes.glance.counters Absent

-- a key at the slice and class that are sought, and whether the same follows its slice
abbrev pub key_found : FindNotes → Mark → Bool → FindReading
key_found notes Layer same = GoesOn (AtValue notes LinkKind)
key_found notes Plain same = if same then GoesOn (AtValue notes RowKind) else settles notes.glance.counters Absent
key_found notes Unstable same = Repeats

-- whether a slice and the number of a class are before others
abbrev pub is_before : ℕ → ℕ → ℕ → ℕ → Bool
is_before slice number other_slice other = nat_lt slice other_slice || ((slice == other_slice) && nat_lt number other)

-- the key at a place, by its slice and class
abbrev pub key_compared : List ℕ → FindNotes → KeyPart → FindReading
key_compared rest notes part = if is_before part.slice (class_number part.class) (slice_number rest) (class_number
    (class_of (length rest))) then next_key (record notes { place = notes.place + 1 })
    else if is_before (slice_number rest) (class_number (class_of (length rest))) part.slice (class_number part.class) then
    settles notes.glance.counters Absent
    else key_found notes part.mark (bytes_eq (part_bytes part) (drop 8 rest))

-- the key at a place
abbrev pub key_read : List ℕ → FindNotes → KeyPart → FindReading
key_read rest notes part = by_mark part.mark (key_compared rest notes part)

-- the value
abbrev pub value_read : List ℕ → Counters → Kind → ValuePart → FindReading
value_read asked counters RowKind (RowPart row) = settles counters (RowSight (shown asked row.now))
value_read asked counters LinkKind (RowPart row) = settles counters Absent
value_read asked counters RowKind (LinkPart head) = Repeats
value_read asked counters LinkKind (LinkPart head) = settles counters (LinkSight head)

-- what it does after the order, a key and a value
abbrev pub at_order : Finding → Slots → FindReading
at_order (Bounded counters right) order = next_key (notes_at counters right order 0)
at_order _ order = Repeats

abbrev pub at_key : Finding → KeyPart → List ℕ → FindReading
at_key (Reads notes) part rest = key_read rest notes part
at_key _ part rest = Repeats

abbrev pub at_value : Finding → ValuePart → List ℕ → FindReading
at_value (AtValue notes kind) part asked = value_read asked notes.glance.counters kind part
at_value _ part asked = Repeats

-- WHAT IT DOES, by what it is lent of the node at which it is, and by nothing else
abbrev pub find_reading : Finding → List ℕ → List ℕ → Part → FindReading
find_reading finding rest asked (HeadPart part) = by_visit (visit_head part.now)
find_reading finding rest asked (InteriorPart part) = by_visit (visit_interior (slice_number rest) part.now)
find_reading finding rest asked (VersionPart version) = at_version finding version
find_reading finding rest asked (RightPart right) = at_right finding right (slice_number rest)
find_reading finding rest asked (OrderPart order) = at_order finding order
find_reading finding rest asked (KeyPartOf part) = at_key finding part rest
find_reading finding rest asked (ValuePartOf part) = at_value finding part asked

abbrev pub FindReads : ArenaView → ℕ → List ℕ → List ℕ → Finding → Result FindReading NoMemory → Type 0
FindReads a number rest asked finding result = ReadsField a number finding (find_reading finding rest asked) (TakesMemory
    finding) result

-- why it waits: for the version or the key that it has read; or the slot of a key that was a row's holds a link
abbrev pub FindingWaits : Finding → Node → Type 0
FindingWaits (Reads notes) node = KeyWaits notes node
FindingWaits (AtValue notes RowKind) node = IsSomeAnd (border_of node)
    (λ b. entry_row (slot_at b (slice_index notes.glance.order.live notes.place)).entry ≡ None)
FindingWaits finding node = VersionWaits finding node
