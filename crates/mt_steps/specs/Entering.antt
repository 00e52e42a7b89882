-- A border that a call has locked, read one field a step: what each field leads to, and what is true of it meanwhile.
use Rattle.std.specs.Prelude.{ℕ, ◌≡◌, ◌<◌, ◌+◌, ◌-◌, nat_lt, ◌==◌, Bool, true, false, if◌then◌else◌, List, [], ◌∷◌, ◌++◌, length, map, take, drop, slice_get, slice_index, Option, Some, None, Result, IfOk, IsErr}
use Rattle.std.specs.Str.{bytes_eq}
use Rattle.std.specs.Option.{option_copied}
use Rattle.mt_types.specs.declared.numbers.NodeNo.{NodeNo}
use Rattle.mt_types.specs.declared.refusal.NoMemory.{NoMemory}
use Rattle.mt_slice.specs.Place.{slice_number}
use Rattle.mt_slice.specs.Classes.{class_of}
use Rattle.mt_word.specs.Slots.{Slots}
use Rattle.mt_word.specs.declared.permutation_word.TheConstants.{SLOTS}
use Rattle.mt_border.specs.Border.{BorderView, right_for, row_at}
use Rattle.mt_border.specs.Entry.{entry_class, entry_suffix, rank_at}
use Rattle.mt_border.specs.Find.{entries_before}
use Rattle.mt_border.specs.Keys.{KeyView, entry_key}
use Rattle.mt_border.specs.declared.entry.Content.TheVariants.{Long}
use Rattle.mt_border.specs.declared.entry.Entry.{Entry}
use Rattle.mt_border.specs.declared.entry.RightLink.{RightLink}
use Rattle.mt_border.specs.declared.field.Mark.{Mark}
use Rattle.mt_border.specs.declared.field.Mark.TheVariants.{Layer}
use Rattle.mt_border.specs.declared.field.KeyPart.{KeyPart}
use Rattle.mt_border.specs.declared.field.ValuePart.{ValuePart}
use Rattle.mt_border.specs.declared.field.ValuePart.TheVariants.{Row as RowPart, Link as LinkPart}
use Rattle.mt_border.specs.declared.found.Found.TheVariants.{Absent as AbsentFound, Row as RowFound, OtherSuffix, Link as LinkFound}
use Rattle.mt_border.specs.declared.unwritten.Unwritten.TheVariants.{Nothing}
use Rattle.mt_arena.specs.Arena.{ArenaView}
use Rattle.mt_arena.specs.Node.{border_at}
use Rattle.mt_arena.specs.declared.part.Field.{Field}
use Rattle.mt_arena.specs.declared.part.Field.TheVariants.{Right as RightField, Order as OrderField, Key as KeyField, Value as ValueField}
use Rattle.mt_arena.specs.declared.part.Part.{Part}
use Rattle.mt_arena.specs.declared.part.Part.TheVariants.{Right as RightPart, Order as OrderPart, Key as KeyPartOf, Value as ValuePartOf}
use Rattle.mt_tree.specs.Descent.{found_for}
use Rattle.mt_steps.specs.Standing.{Lends}
use Rattle.mt_steps.specs.Listing.{key_read_of}
use Rattle.mt_steps.specs.declared.listing.SlotKey.{SlotKey}
use Rattle.mt_steps.specs.declared.entering.Outline.{Outline}
use Rattle.mt_steps.specs.declared.entering.Match.{Match}
use Rattle.mt_steps.specs.declared.entering.Match.TheVariants.{Same, Other as OtherMatch, Layer as LayerMatch}
use Rattle.mt_steps.specs.declared.entering.Sought.{Sought}
use Rattle.mt_steps.specs.declared.entering.Sought.TheVariants.{Before, At, After}
use Rattle.mt_steps.specs.declared.entering.Entering.{Entering}
use Rattle.mt_steps.specs.declared.entering.Entering.TheVariants.{Locked, Bounded, Reads, AtValue}
use Rattle.mt_steps.specs.declared.entering.There.{There}
use Rattle.mt_steps.specs.declared.entering.There.TheVariants.{Absent, Full, Row, Other}
use Rattle.mt_steps.specs.declared.entering.Entered.{Entered}
use Rattle.mt_steps.specs.declared.entering.Entered.TheVariants.{Enters, Right, Below, Here}

-- ---- what a key is to the key sought, whose rest in the layer is given
-- a slot's key, as it is lent
abbrev pub part_key : KeyPart → KeyView
part_key part = record {
  slice = part.slice;
  class = part.class;
  suffix = option_copied part.suffix;
  mark = part.mark;
}

-- a key that has the slice and class sought, by its mark and what follows its slice
abbrev pub match_by : List ℕ → Mark → Option (List ℕ) → Match
match_by suffix Layer own = LayerMatch
match_by suffix _ None = Same
match_by suffix _ (Some own) = if bytes_eq own suffix then Same else OtherMatch own

abbrev pub match_of : List ℕ → KeyView → Match
match_of suffix key = match_by suffix key.mark key.suffix

-- the rank of the key sought
abbrev pub rank_of : List ℕ → ℕ
rank_of rest = rank_at (slice_number rest) (class_of (length rest))

-- the key at a place, if those before the place are before the key sought
abbrev pub sought_at : List ℕ → ℕ → KeyView → Sought
sought_at rest place key = if nat_lt (rank_at key.slice key.class) (rank_of rest) then Before
    else if nat_lt (rank_of rest) (rank_at key.slice key.class) then After place
    else At place (match_of (drop 8 rest) key)

-- the keys up to a place, by what those before the place are
abbrev pub sought_then : List ℕ → Sought → ℕ → KeyView → Sought
sought_then rest Before place key = sought_at rest place key
sought_then rest (At at matched) place key = At at matched
sought_then rest (After at) place key = After at

-- the first of these entries, which is at a place
abbrev pub sought_first : List ℕ → ℕ → List Entry → Sought
sought_first rest place [] = Before
sought_first rest place (entry ∷ entries) = sought_at rest place (entry_key entry)

-- WHAT ENTRIES IN ORDER ARE to the key sought: the first that is not before it tells
abbrev pub sought_for : List ℕ → List Entry → Sought
sought_for rest entries = let place = entries_before (slice_number rest) (class_of (length rest)) entries in
    sought_first rest place (drop place entries)

-- ---- what a call does
-- the right link
abbrev pub bounded_by : Option RightLink → Option NodeNo → Entered
bounded_by right None = Enters (Bounded right)
bounded_by right (Some next) = Right next

abbrev pub bounded : ℕ → Option RightLink → Entered
bounded slice right = bounded_by right (right_for right slice)

-- the key of a slot, as it is noted
abbrev pub key_noted : KeyPart → SlotKey
key_noted part = record { slice = part.slice; rest = key_read_of part.class (option_copied part.suffix) }

-- the keys of a full border are noted, and no others
abbrev pub keys_with : Bool → List SlotKey → KeyPart → List SlotKey
keys_with true keys part = keys ++ (key_noted part ∷ [])
keys_with false keys part = keys

abbrev pub noted : Outline → KeyPart → Outline
noted outline part = record outline { keys = keys_with (length outline.order.live == SLOTS) outline.keys part }

-- no key has the slice and class sought
abbrev pub absent_there : Outline → ℕ → There
absent_there outline place = if length outline.order.live == SLOTS then Full place outline else Absent place

-- all keys are read, as many as are counted
abbrev pub keys_read : Outline → ℕ → Sought → Entered
keys_read outline count Before = Here (absent_there outline count)
keys_read outline count (At place matched) = Enters (AtValue outline place matched)
keys_read outline count (After place) = Here (absent_there outline place)

-- the key at a place is next, if there is one
abbrev pub next_key : Outline → ℕ → Sought → Entered
next_key outline place sought = if nat_lt place (length outline.order.live) then Enters (Reads outline place sought)
    else keys_read outline place sought

-- the value
abbrev pub value_there : ℕ → Match → ValuePart → Entered
value_there place matched (LinkPart head) = Below head
value_there place (OtherMatch suffix) (RowPart row) = Here (Other place suffix row.now)
value_there place _ (RowPart row) = Here (Row place row.now)

-- the field that it reads next
abbrev pub wants : Entering → Field
wants Locked = RightField
wants (Bounded right) = OrderField
wants (Reads outline place sought) = KeyField (slice_index outline.order.live place)
wants (AtValue outline place matched) = ValueField (slice_index outline.order.live place)

-- a key or a value that it reads is that of one of the live slots
abbrev pub HasPlace : Outline → ℕ → Type 0
HasPlace outline place = place < length outline.order.live

abbrev pub IsEntering : Entering → Type 0
IsEntering Locked = Unit {0}
IsEntering (Bounded right) = Unit {0}
IsEntering (Reads outline place sought) = HasPlace outline place
IsEntering (AtValue outline place matched) = HasPlace outline place

abbrev pub WantsRight : Entering → Type 0
WantsRight Locked = Unit {0}
WantsRight _ = ⊥

abbrev pub WantsOrder : Entering → Type 0
WantsOrder (Bounded right) = Unit {0}
WantsOrder _ = ⊥

abbrev pub WantsKey : Entering → Type 0
WantsKey (Reads outline place sought) = HasPlace outline place
WantsKey _ = ⊥

abbrev pub WantsValue : Entering → Type 0
WantsValue (AtValue outline place matched) = HasPlace outline place
WantsValue _ = ⊥

-- what it does after the order, a key and a value, if it wants that
abbrev pub at_order : Entering → Slots → Entered
at_order (Bounded right) order = next_key (record { right = right; order = order; keys = [] }) 0 Before
at_order entering order = Enters entering

abbrev pub at_key : List ℕ → Entering → KeyPart → Entered
at_key rest (Reads outline place sought) part =
    next_key (noted outline part) (place + 1) (sought_then rest sought place (part_key part))
at_key rest entering part = Enters entering

abbrev pub at_value : Entering → ValuePart → Entered
at_value (AtValue outline place matched) part = value_there place matched part
at_value entering part = Enters entering

-- WHAT IT DOES, by the field that it is lent of the border, and by nothing else
abbrev pub entered : List ℕ → Entering → Part → Entered
entered rest entering (RightPart right) = bounded (slice_number rest) right
entered rest entering (OrderPart order) = at_order entering order
entered rest entering (KeyPartOf part) = at_key rest entering part
entered rest entering (ValuePartOf part) = at_value entering part
entered rest entering _ = Enters entering

-- it takes memory for a key and for a value alone: the right link and the order take none
abbrev pub TakesMemory : Entering → Type 0
TakesMemory (Reads outline place sought) = Unit {0}
TakesMemory (AtValue outline place matched) = Unit {0}
TakesMemory _ = ⊥

-- it is lent the field that it wants, and does what follows from it; or it is out of memory, at a field that takes some
pub record EnterReads (a : ArenaView) (number : ℕ) (rest : List ℕ) (entering : Entering)
    (result : Result Entered NoMemory) : Type 0 where
  pub part : Part
  pub lent : Lends a number (wants entering) part
  pub does : IfOk result (λ next. next ≡ entered rest entering part)
  pub takes : IsErr result → TakesMemory entering

-- ---- what is true of it, at a border that does not change meanwhile
-- the right link is the border's, and the slice is before it
pub record IsBounded (rest : List ℕ) (b : BorderView) (right : Option RightLink) : Type 0 where
  pub same : right ≡ b.right
  pub within : right_for b.right (slice_number rest) ≡ None

-- and the order is
pub record IsOutlined (rest : List ℕ) (b : BorderView) (outline : Outline) : Type 0 where
  pub bounded : IsBounded rest b outline.right
  pub order : outline.order ≡ b.order

-- the key of an entry, as it is noted
abbrev pub entry_noted : Entry → SlotKey
entry_noted entry = record { slice = entry.slice; rest = key_read_of (entry_class entry) (entry_suffix entry) }

-- the keys of these entries are noted, if the border is full
abbrev pub keys_of : Bool → List Entry → List SlotKey
keys_of true entries = map entry_noted entries
keys_of false entries = []

-- HOW FAR IT HAS READ is true of the border
abbrev pub EnteringIsTrue : List ℕ → Entering → BorderView → Type 0
EnteringIsTrue rest Locked b = Unit {0}
EnteringIsTrue rest (Bounded right) b = IsBounded rest b right
EnteringIsTrue rest (Reads outline place sought) b =
    IsOutlined rest b outline × (place < length b.live) × (sought ≡ sought_for rest (take place b.live))
    × (outline.keys ≡ keys_of (length b.live == SLOTS) (take place b.live))
EnteringIsTrue rest (AtValue outline place matched) b =
    IsOutlined rest b outline × (At place matched ≡ sought_for rest b.live)

-- what it finds is what a search finds
abbrev pub ThereIsTrue : List ℕ → There → BorderView → Type 0
ThereIsTrue rest (Absent place) b = (found_for rest b.live ≡ AbsentFound place) × (length b.live < SLOTS)
ThereIsTrue rest (Full place outline) b = (found_for rest b.live ≡ AbsentFound place) × IsOutlined rest b outline
    × (length b.live ≡ SLOTS) × (outline.keys ≡ map entry_noted b.live)
ThereIsTrue rest (Row place row) b = (found_for rest b.live ≡ RowFound place) × (row_at place b.live ≡ Some row)
ThereIsTrue rest (Other place suffix row) b = (found_for rest b.live ≡ OtherSuffix place)
    × (slice_get b.live place ≡ Some (record { slice = slice_number rest; content = Long suffix row }))

-- WHAT IT DOES NEXT is right at the border
abbrev pub EnteredIsTrue : List ℕ → Entered → BorderView → Type 0
EnteredIsTrue rest (Enters next) b = EnteringIsTrue rest next b
EnteredIsTrue rest (Right next) b = right_for b.right (slice_number rest) ≡ Some next
EnteredIsTrue rest (Below head) b = (right_for b.right (slice_number rest) ≡ None)
    × (place : ℕ) × (found_for rest b.live ≡ LinkFound place head)
EnteredIsTrue rest (Here there) b = (right_for b.right (slice_number rest) ≡ None) × ThereIsTrue rest there b

-- ---- how many fields it has still to read, at most: the right link, the order, the keys and a value
abbrev pub entering_left : Entering → ℕ
entering_left Locked = SLOTS + 3
entering_left (Bounded right) = SLOTS + 2
entering_left (Reads outline place sought) = (length outline.order.live - place) + 1
entering_left (AtValue outline place matched) = 1

-- it has fewer left than before
abbrev pub HasFewerLeft : Entering → Entered → Type 0
HasFewerLeft entering (Enters next) = entering_left next < entering_left entering
HasFewerLeft entering _ = Unit {0}

-- WHERE IT LEADS: if what it has read is true of the border, all of which is written, what it does next is right, and it
-- has fewer fields left
abbrev pub EnterLeads : ArenaView → ℕ → List ℕ → Entering → Result Entered NoMemory → Type 0
EnterLeads a number rest entering result = (b : BorderView) → border_at a.nodes number ≡ Some b → b.unwritten ≡ Nothing →
    EnteringIsTrue rest entering b → IfOk result (λ next. EnteredIsTrue rest next b × HasFewerLeft entering next)
