-- What a call does after each field of a border that it reads: for a get as for a range or build. What it keeps of slots
-- and of keys, and what it finds, is its own.
use Rattle.std.specs.Prelude.{ℕ, ◌≡◌, ◌≢◌, ◌<◌, ◌≤◌, ◌⊎◌, nat_le, ◌==◌, Bool, ◌&&◌, if◌then◌else◌, length, slice_index, Option, Some, None, Result, IsSome, IsSomeAnd, IfOk, IsErr, true, false}
use Rattle.mt_types.specs.declared.refusal.NoMemory.{NoMemory}
use Rattle.mt_word.specs.Version.{VersionView, is_flagged}
use Rattle.mt_border.specs.Slots.{key_at}
use Rattle.mt_border.specs.declared.entry.RightLink.{RightLink}
use Rattle.mt_border.specs.declared.field.Mark.{Mark}
use Rattle.mt_border.specs.declared.field.Mark.TheVariants.{Unstable}
use Rattle.mt_interior.specs.Interior.{InteriorView}
use Rattle.mt_arena.specs.Arena.{ArenaView}
use Rattle.mt_arena.specs.Node.{node_at, interior_at, border_at, border_of}
use Rattle.mt_arena.specs.declared.part.Part.{Part}
use Rattle.mt_arena.specs.declared.node.Node.{Node}
use Rattle.mt_arena.specs.declared.part.Field.{Field}
use Rattle.mt_arena.specs.declared.part.Field.TheVariants.{Version as VersionField, Right as RightField, Order as OrderField, Key as KeyField, Value as ValueField}
use Rattle.mt_tree.specs.Descent.{is_marked}
use Rattle.mt_tree.specs.declared.visit.Visit.{Visit}
use Rattle.mt_tree.specs.declared.visit.Visit.TheVariants.{Again as VisitAgain, To as VisitTo, Below as VisitBelow, Here as VisitHere}
use Rattle.mt_steps.specs.Standing.{Lends}
use Rattle.mt_steps.specs.declared.reader.Counters.{Counters}
use Rattle.mt_steps.specs.declared.reader.Notes.{Notes}
use Rattle.mt_steps.specs.declared.reader.Reader.{Reader}
use Rattle.mt_steps.specs.declared.reader.Reader.TheVariants.{Begins, Looked, Bounded, Reads, AtValue, Settles}
use Rattle.mt_steps.specs.declared.reader.Reading.{Reading}
use Rattle.mt_steps.specs.declared.reader.Reading.TheVariants.{Restarts, Repeats, GoesOn, To, Finds}

abbrev pub counters_of : VersionView → Counters
counters_of version = record { inserts = version.vinsert; splits = version.vsplit }

abbrev pub same_counters : Counters → Counters → Bool
same_counters one other = (one.inserts == other.inserts) && (one.splits == other.splits)

-- ---- what it does
-- the version, first
abbrev pub looked : {N K F : Type 0} → VersionView → Reading N K F
looked version = if version.deleted then Restarts else if is_flagged version then Repeats else GoesOn
    (Looked (counters_of version))

-- the right link
abbrev pub bounded : {N K F : Type 0} → ℕ → Counters → Option RightLink → Reading N K F
bounded slice counters None = GoesOn (Bounded counters None)
bounded slice counters (Some link) = if nat_le link.low slice then To link.node else GoesOn
    (Bounded counters (Some link))

-- a slot's key: while a layer is being made of it, the border is read again
abbrev pub by_mark : {N K F : Type 0} → Mark → Reading N K F → Reading N K F
by_mark Unstable reading = Repeats
by_mark _ reading = reading

-- the version, again: what was found, if the border is as it was
abbrev pub settled : {N K F : Type 0} → Counters → F → VersionView → Reading N K F
settled counters found version = if version.deleted then Restarts
    else if is_flagged version then Repeats
    else if same_counters (counters_of version) counters then Finds found else Repeats

-- what a visit of a head or an interior node leads to
abbrev pub by_visit : {N K F : Type 0} → Visit → Reading N K F
by_visit VisitAgain = Restarts
by_visit (VisitTo next) = To next
by_visit (VisitBelow head) = Repeats
by_visit VisitHere = Repeats

-- the field of a border that it reads next
abbrev pub wants : {N K F : Type 0} → Reader N K F → Field
wants Begins = VersionField
wants (Looked counters) = RightField
wants (Bounded counters right) = OrderField
wants (Reads notes) = KeyField (slice_index notes.glance.order.live notes.place)
wants (AtValue notes key) = ValueField (slice_index notes.glance.order.live notes.place)
wants (Settles counters found) = VersionField

-- a key or a value that it reads is that of one of the live slots
abbrev pub HasNext : {N : Type 0} → Notes N → Type 0
HasNext notes = notes.place < length notes.glance.order.live

abbrev pub IsReader : {N K F : Type 0} → Reader N K F → Type 0
IsReader (Reads notes) = HasNext notes
IsReader (AtValue notes key) = HasNext notes
IsReader _ = Unit {0}

abbrev pub WantsVersion : {N K F : Type 0} → Reader N K F → Type 0
WantsVersion Begins = Unit {0}
WantsVersion (Settles counters found) = Unit {0}
WantsVersion _ = ⊥

abbrev pub WantsRight : {N K F : Type 0} → Reader N K F → Type 0
WantsRight (Looked counters) = Unit {0}
WantsRight _ = ⊥

abbrev pub WantsOrder : {N K F : Type 0} → Reader N K F → Type 0
WantsOrder (Bounded counters right) = Unit {0}
WantsOrder _ = ⊥

abbrev pub WantsKey : {N K F : Type 0} → Reader N K F → Type 0
WantsKey (Reads notes) = HasNext notes
WantsKey _ = ⊥

abbrev pub WantsValue : {N K F : Type 0} → Reader N K F → Type 0
WantsValue (AtValue notes key) = HasNext notes
WantsValue _ = ⊥

-- what it does after that field
abbrev pub at_version : {N K F : Type 0} → Reader N K F → VersionView → Reading N K F
at_version (Settles counters found) version = settled counters found version
at_version _ version = looked version

abbrev pub at_right : {N K F : Type 0} → Reader N K F → Option RightLink → ℕ → Reading N K F
at_right (Looked counters) right slice = bounded slice counters right
at_right _ right slice = Repeats

-- it reads the next field
abbrev pub IsOn : {N K F : Type 0} → Reading N K F → Type 0
IsOn (GoesOn reader) = Unit {0}
IsOn _ = ⊥

-- ---- why it waits
-- the node is marked deleted; or the border has a flag set, or has other counters than were noted
abbrev pub VersionWaits : {N K F : Type 0} → Reader N K F → Node → Type 0
VersionWaits Begins node = (is_marked node ≡ true) ⊎ IsSomeAnd (border_of node) (λ b. is_flagged b.version ≡ true)
VersionWaits (Settles counters found) node = (is_marked node ≡ true)
    ⊎ IsSomeAnd (border_of node) (λ b. (is_flagged b.version ≡ true) ⊎ (counters_of b.version ≢ counters))
VersionWaits _ node = ⊥

-- a layer is being made of the key that it reads
abbrev pub KeyWaits : {N : Type 0} → Notes N → Node → Type 0
KeyWaits notes node = IsSomeAnd (border_of node)
    (λ b. (key_at b (slice_index notes.glance.order.live notes.place)).mark ≡ Unstable)

-- it waits so for what it has read
abbrev pub ReadWaits : {N K F : Type 0} → (Node → Type 0) → ArenaView → ℕ → Reading N K F → Type 0
ReadWaits Waits a number Restarts = IsSomeAnd (node_at a.nodes number) Waits
ReadWaits Waits a number Repeats = IsSomeAnd (node_at a.nodes number) Waits
ReadWaits Waits a number _ = Unit {0}

-- ---- what it is lent
-- at a head or an interior node it has read nothing yet; and an interior has a child for the slice, unless it is marked
-- deleted
pub record MayRead {N K F : Type 0} (a : ArenaView) (number slice : ℕ) (reader : Reader N K F) : Type 0 where
  pub begins : border_at a.nodes number ≡ None → reader ≡ Begins
  pub child : (i : InteriorView) → interior_at a.nodes number ≡ Some i → i.version.deleted ≡ false
      → (0 < length i.children) × (i.low ≤ slice)

-- it is lent one field of a border, or a head or interior, and does what follows from it; or it is out of memory, at a
-- field that takes some
pub record ReadsField {N K F : Type 0} (a : ArenaView) (number : ℕ) (reader : Reader N K F) (reads : Part → Reading N K F)
    (Takes : Type 0) (result : Result (Reading N K F) NoMemory) : Type 0 where
  pub part : Part
  pub lent : Lends a number (wants reader) part
  pub does : IfOk result (λ reading. reading ≡ reads part)
  pub takes : IsErr result → Takes

-- it is out of memory only at a border
abbrev pub FailsAt : ArenaView → ℕ → Type 0
FailsAt a number = IsSome (border_at a.nodes number)

-- what it finds, it finds at a border
abbrev pub FindsAt : {N K F : Type 0} → ArenaView → ℕ → Reading N K F → Type 0
FindsAt a number (Finds found) = IsSome (border_at a.nodes number)
FindsAt a number _ = Unit {0}
