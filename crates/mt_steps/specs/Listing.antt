-- What a range or build keeps of the slots of a border, and what is true of it meanwhile.
use Rattle.std.specs.Prelude.{ℕ, ◌≡◌, ◌≤◌, ◌+◌, nat_lt, Bool, if◌then◌else◌, List, [], ◌∷◌, ◌++◌, length, slice_index, Option, Some, None, Result, IsSomeAnd, true}
use Rattle.std.specs.Option.{option_copied, option_map}
use Rattle.mt_types.specs.declared.row.Row.{Row}
use Rattle.mt_types.specs.declared.refusal.NoMemory.{NoMemory}
use Rattle.mt_slice.specs.Place.{place_of}
use Rattle.mt_slice.specs.declared.slice_class.Class.{Class}
use Rattle.mt_slice.specs.declared.slice_class.Class.TheVariants.{Len, Long as LongClass}
use Rattle.mt_word.specs.Slots.{Slots}
use Rattle.mt_word.specs.declared.permutation_word.TheConstants.{SLOTS}
use Rattle.mt_border.specs.Border.{BorderView}
use Rattle.mt_border.specs.Entry.{entry_row}
use Rattle.mt_border.specs.Slots.{slot_at}
use Rattle.mt_border.specs.declared.entry.Content.TheVariants.{Short, Long, Link}
use Rattle.mt_border.specs.declared.entry.Entry.{Entry}
use Rattle.mt_border.specs.declared.entry.RightLink.{RightLink}
use Rattle.mt_border.specs.declared.field.KeyPart.{KeyPart}
use Rattle.mt_border.specs.declared.field.ValuePart.{ValuePart}
use Rattle.mt_border.specs.declared.field.ValuePart.TheVariants.{Row as RowPart, Link as LinkPart}
use Rattle.mt_arena.specs.Arena.{ArenaView}
use Rattle.mt_arena.specs.Node.{node_at, border_of}
use Rattle.mt_arena.specs.declared.node.Node.{Node}
use Rattle.mt_arena.specs.declared.part.Part.{Part}
use Rattle.mt_arena.specs.declared.part.Part.TheVariants.{Head as HeadPart, Interior as InteriorPart, Version as VersionPart, Right as RightPart, Order as OrderPart, Key as KeyPartOf, Value as ValuePartOf}
use Rattle.mt_chart.specs.Tree.{PlainContent, short, long, link, Arena, Below}
use Rattle.mt_chart.specs.Chart.{Chart, Holds}
use Rattle.mt_chart.specs.NotedList.{IsNotedList}
use Rattle.mt_chart.specs.ScanRun.{Stood, AllHave, EntriesInOrder}
use Rattle.mt_chart.specs.Noted.{SlotSeen, FieldsSeen, IsNoted}
use Rattle.mt_chart.specs.Reading.{Lists}
use Rattle.mt_tree.specs.Seen.{arena_seen, right_seen, entries_seen}
use Rattle.mt_tree.specs.Fields.{fields_seen}
use Rattle.mt_tree.specs.Descent.{visit_head, visit_interior}
use Rattle.mt_steps.specs.declared.reader.Notes.{Notes}
use Rattle.mt_steps.specs.declared.reader.Reader.{Reader}
use Rattle.mt_steps.specs.declared.reader.Reader.TheVariants.{Begins, Looked, Bounded, Reads, AtValue, Settles}
use Rattle.mt_steps.specs.declared.reader.Reading.{Reading}
use Rattle.mt_steps.specs.declared.reader.Reading.TheVariants.{Restarts, Repeats, GoesOn, To, Finds}
use Rattle.mt_steps.specs.declared.listing.KeyRead.{KeyRead}
use Rattle.mt_steps.specs.declared.listing.KeyRead.TheVariants.{Short as ShortKey, Long as LongKey, Layer as LayerKey}
use Rattle.mt_steps.specs.declared.listing.SlotKey.{SlotKey}
use Rattle.mt_steps.specs.declared.listing.Listed.{Listed}
use Rattle.mt_steps.specs.declared.progress.Progress.{Progress}
use Rattle.mt_steps.specs.declared.progress.Progress.TheVariants.{Waits}
use Rattle.mt_steps.specs.Reader.{by_mark, by_visit, at_version, at_right, HasNext, VersionWaits, KeyWaits, ReadsField}
use Rattle.mt_steps.specs.Standing.{StandsAt, Still, IsBounded}
use Rattle.mt_steps.specs.Causes.{KeepsSlot}
use Rattle.mt_steps.specs.World.{World}

-- it keeps what the slots held, except what is not before the right link
abbrev pub ListNotes : Type 0
ListNotes = Notes (List Entry)

abbrev pub Listing : Type 0
Listing = Reader (List Entry) SlotKey Listed

abbrev pub ListReading : Type 0
ListReading = Reading (List Entry) SlotKey Listed

-- ---- what it does
-- the key of the next place is read, if there is one; else the border is read
abbrev pub list_next : ListNotes → ListReading
list_next notes = if nat_lt notes.place (length notes.glance.order.live) then GoesOn (Reads notes) else GoesOn
    (Settles notes.glance.counters (record { entries = notes.kept; right = notes.glance.right }))

-- a key of this class, with these bytes after its slice, or none: without its slice
abbrev pub key_read_of : Class → Option (List ℕ) → KeyRead
key_read_of (Len bytes) suffix = ShortKey bytes
key_read_of LongClass (Some suffix) = LongKey suffix
key_read_of LongClass None = LayerKey

abbrev pub list_key : ListNotes → KeyPart → ListReading
list_key notes part = by_mark part.mark (GoesOn (AtValue notes (record {
  slice = part.slice;
  rest = key_read_of part.class (option_copied part.suffix);
})))

-- the entry of a row, whose key was not that of a layer
abbrev pub entry_for : ℕ → KeyRead → Row → Option Entry
entry_for slice (ShortKey bytes) row = Some (record { slice = slice; content = Short bytes row })
entry_for slice (LongKey suffix) row = Some (record { slice = slice; content = Long suffix row })
entry_for slice LayerKey row = None

-- whether a slice is before what is to the right
abbrev pub is_before_link : Option RightLink → ℕ → Bool
is_before_link None slice = true
is_before_link (Some next) slice = nat_lt slice next.low

-- an entry is kept if it is before what is to the right
abbrev pub kept_with : Option RightLink → List Entry → Option Entry → List Entry
kept_with right entries None = entries
kept_with right entries (Some entry) = if is_before_link right entry.slice then entries ++ entry ∷ [] else entries

-- one more slot was read, which holds this entry, or none that can be right
abbrev pub one_more : ListNotes → Option Entry → ListReading
one_more notes entry = list_next (record {
  glance = notes.glance;
  kept = kept_with notes.glance.right notes.kept entry;
  place = notes.place + 1;
})

-- the value
abbrev pub value_kept : ListNotes → ℕ → KeyRead → ValuePart → ListReading
value_kept notes slice key (RowPart row) = one_more notes (entry_for slice key row.now)
value_kept notes slice LayerKey (LinkPart head) = one_more notes
    (Some (record { slice = slice; content = Link head }))
value_kept notes slice (ShortKey bytes) (LinkPart head) = Repeats
value_kept notes slice (LongKey suffix) (LinkPart head) = Repeats

abbrev pub list_value : ListNotes → SlotKey → ValuePart → ListReading
list_value notes key part = value_kept notes key.slice key.rest part

-- it has no more entries than slots that it has read, of fifteen at most
abbrev pub AreFew : ListNotes → Type 0
AreFew notes = (length notes.kept ≤ notes.place) × (length notes.glance.order.live ≤ SLOTS)

-- what it does after the order, a key and a value
abbrev pub list_at_order : Listing → Slots → ListReading
list_at_order (Bounded counters right) order = list_next (record {
  glance = record { counters = counters; right = right; order = order };
  kept = [];
  place = 0;
})
list_at_order _ order = Repeats

abbrev pub list_at_key : Listing → KeyPart → ListReading
list_at_key (Reads notes) part = list_key notes part
list_at_key _ part = Repeats

abbrev pub list_at_value : Listing → ValuePart → ListReading
list_at_value (AtValue notes key) part = list_value notes key part
list_at_value _ part = Repeats

-- WHAT IT DOES, by what it is lent of the node at which it is, and by nothing else
abbrev pub list_reading : Listing → ℕ → Part → ListReading
list_reading listing slice (HeadPart part) = by_visit (visit_head part.now)
list_reading listing slice (InteriorPart part) = by_visit (visit_interior slice part.now)
list_reading listing slice (VersionPart version) = at_version listing version
list_reading listing slice (RightPart right) = at_right listing right slice
list_reading listing slice (OrderPart order) = list_at_order listing order
list_reading listing slice (KeyPartOf part) = list_at_key listing part
list_reading listing slice (ValuePartOf part) = list_at_value listing part

abbrev pub ListReads : ArenaView → ℕ → ℕ → Listing → Result ListReading NoMemory → Type 0
ListReads a number slice listing result = ReadsField a number listing (list_reading listing slice) (KeepsSlot listing) result

-- ---- why it waits
-- for the version or the key that it has read; or the slot of a key that was a row's holds a link
abbrev pub ListingWaits : Listing → Node → Type 0
ListingWaits (Reads notes) node = KeyWaits notes node
ListingWaits (AtValue notes key) node = IsSomeAnd (border_of node)
    (λ b. entry_row (slot_at b (slice_index notes.glance.order.live notes.place)).entry ≡ None)
ListingWaits listing node = VersionWaits listing node

-- a call that reads one field a step waits for what it has read
abbrev pub WaitsForField : ArenaView → ℕ → Listing → Progress → Type 0
WaitsForField a number listing Waits = IsSomeAnd (node_at a.nodes number) (ListingWaits listing)
WaitsForField a number listing _ = Unit {0}

-- ---- what is true of it
-- the content of a slice shows this key, whatever its value
abbrev pub ShowsKey : KeyRead → PlainContent → Type 0
ShowsKey (ShortKey bytes) content = (row : Row) × (content ≡ short bytes row)
ShowsKey (LongKey suffix) content = (row : Row) × (content ≡ long (place_of suffix) row)
ShowsKey LayerKey content = (head : ℕ) × (content ≡ link head)

-- the slot showed this key; and it is what it was then, or was made a layer since
pub record HasKey (show : Row → Row) (chart : Chart) (begun : ℕ) (past : List Arena) (prefix : List ℕ) (f : FieldsSeen)
    (number : ℕ) (key : SlotKey) : Type 0 where
  pub read : SlotSeen
  pub noted : IsNoted show chart begun past prefix f read number
  pub at_slice : read.entry.slice ≡ key.slice
  pub is : ShowsKey key.rest read.entry.content

-- what was read of the first `place` slots of these numbers, which were the border's live ones
abbrev pub ListsSlots : (Row → Row) → List ℕ → Option RightLink → List ℕ → ℕ → List Entry → BorderView → ℕ
    → List Arena → World → Type 0
ListsSlots show prefix right numbers place entries b begun arenas w =
    Lists show w.chart begun arenas prefix (fields_seen b) (option_map right_seen right) numbers place
    (entries_seen entries)

-- what is said of slots is said of a border that is still quiet
abbrev pub NotesAreTrue : (Row → Row) → List ℕ → ListNotes → BorderView → ℕ → List Arena → World → Type 0
NotesAreTrue show prefix notes b begun arenas w = Still notes.glance.counters b
    → ListsSlots show prefix notes.glance.right notes.glance.order.live notes.place notes.kept b begun arenas w

-- HOW FAR IT HAS READ is true, by the arenas of its moments, the present one among them, of a call that seeks a slice
-- in the layer below a prefix, and shows rows in this way
abbrev pub ListingIsTrue : (Row → Row) → List ℕ → ℕ → ℕ → Listing → ℕ → List Arena → ArenaView → World → Type 0
ListingIsTrue show prefix slice number Begins begun arenas a w = Unit {0}
ListingIsTrue show prefix slice number (Looked counters) begun arenas a w =
    StandsAt begun prefix slice number counters a w
ListingIsTrue show prefix slice number (Bounded counters right) begun arenas a w =
    (at : StandsAt begun prefix slice number counters a w) × IsBounded prefix slice counters at.b right begun w
ListingIsTrue show prefix slice number (Reads notes) begun arenas a w =
    (at : StandsAt begun prefix slice number notes.glance.counters a w)
    × IsBounded prefix slice notes.glance.counters at.b notes.glance.right begun w × HasNext notes × AreFew notes
    × NotesAreTrue show prefix notes at.b begun arenas w
ListingIsTrue show prefix slice number (AtValue notes key) begun arenas a w =
    (at : StandsAt begun prefix slice number notes.glance.counters a w)
    × IsBounded prefix slice notes.glance.counters at.b notes.glance.right begun w × HasNext notes × AreFew notes
    × NotesAreTrue show prefix notes at.b begun arenas w
    × (Still notes.glance.counters at.b → HasKey show w.chart begun arenas prefix (fields_seen at.b)
    (slice_index notes.glance.order.live notes.place) key)
ListingIsTrue show prefix slice number (Settles counters listed) begun arenas a w =
    (at : StandsAt begun prefix slice number counters a w) × IsBounded prefix slice counters at.b listed.right begun w
    × (length listed.entries ≤ SLOTS) × (Still counters at.b → (numbers : List ℕ)
    × ListsSlots show prefix listed.right numbers (length numbers) listed.entries at.b begun arenas w)

-- what was read of a border is enough for a scan that seeks a slice in its interval
pub record IsReadList (show : Row → Row) (prefix : List ℕ) (slice begun : ℕ) (arenas : List Arena) (w : World)
    (listed : Listed) : Type 0 where
  pub low : ℕ
  pub from_low : low ≤ slice
  pub passes : Below slice (option_map right_seen listed.right)
  pub list : IsNotedList show w.chart begun (Stood show arenas) (AllHave arenas) prefix low
      (option_map right_seen listed.right) (entries_seen listed.entries)
  pub in_order : EntriesInOrder (entries_seen listed.entries)
  pub few : length listed.entries ≤ SLOTS

-- what is true after a reading
abbrev pub ListLeads : (Row → Row) → List ℕ → ℕ → ℕ → ℕ → List Arena → ArenaView → World → ListReading → Type 0
ListLeads show prefix slice number begun past a w Restarts = Unit {0}
ListLeads show prefix slice number begun past a w Repeats = Unit {0}
ListLeads show prefix slice number begun past a w (GoesOn next) =
    ListingIsTrue show prefix slice number next begun (arena_seen a ∷ (arena_seen a ∷ past)) a w
ListLeads show prefix slice number begun past a w (To node) = Holds w.chart begun node.0 prefix slice
ListLeads show prefix slice number begun past a w (Finds listed) =
    IsReadList show prefix slice begun (arena_seen a ∷ past) w listed
