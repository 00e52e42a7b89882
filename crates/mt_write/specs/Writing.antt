-- What is true of a put or remove, at each of its stages.
use Rattle.std.specs.Prelude.{ℕ, ◌≡◌, ◌≢◌, ◌<◌, ◌≤◌, ◌+◌, List, [], ◌∷◌, length, drop, slice_get, Option, Some, None, IsSome, Bool, true, false}
use Rattle.mt_types.specs.declared.limits.TheConstants.{MAX_KEY_BYTES}
use Rattle.mt_types.specs.declared.row.Row.{Row}
use Rattle.mt_types.specs.Rows.{version_of}
use Rattle.mt_types.specs.declared.refusal.Refusal.{Refusal}
use Rattle.mt_types.specs.declared.refusal.Refusal.TheVariants.{OtherVersion}
use Rattle.mt_slice.specs.Place.{AreBytes, place_of}
use Rattle.mt_types.specs.declared.numbers.NodeNo.{NodeNo}
use Rattle.mt_word.specs.declared.permutation_word.TheConstants.{SLOTS}
use Rattle.mt_commit.specs.Log.{LogView}
use Rattle.mt_border.specs.Border.{BorderView, first_held, row_at, with_entries, new_border}
use Rattle.mt_border.specs.Table.{number_at}
use Rattle.mt_border.specs.declared.found.Found.{Found}
use Rattle.mt_chart.specs.Tree.{Among}
use Rattle.mt_border.specs.Entry.{IsEntry, entry_of_row, key_of_rest}
use Rattle.mt_border.specs.Keys.{key_seen, IsKey}
use Rattle.mt_border.specs.Order.{IsBorder}
use Rattle.mt_border.specs.declared.entry.Entry.{Entry}
use Rattle.mt_border.specs.declared.entry.Content.TheVariants.{Long, Link}
use Rattle.mt_border.specs.declared.slot_table.Slot.{Slot}
use Rattle.mt_border.specs.declared.unwritten.SlotKey.{SlotKey}
use Rattle.mt_border.specs.declared.unwritten.Unwritten.TheVariants.{Nothing, Value, LinkAt}
use Rattle.mt_border.specs.declared.found.Found.TheVariants.{Absent, Row as RowFound}
use Rattle.mt_arena.specs.Node.{head_at, border_at}
use Rattle.mt_interior.specs.Head.{new_head}
use Rattle.mt_arena.specs.Arena.{ArenaView}
use Rattle.mt_chart.specs.Tree.{Arena}
use Rattle.mt_chart.specs.TreeLaws.{IsWhere}
use Rattle.mt_tree.specs.Seen.{arena_seen, border_seen}
use Rattle.mt_tree.specs.Keeping.{IsOnIn}
use Rattle.mt_tree.specs.Descent.{IsLast, HasOtherSuffix, found_for, row_found}
use Rattle.mt_tree.specs.BorderSteps.{MayShowAt, AwaitsSomeMark}
use Rattle.mt_steps.specs.Entering.{EnteringIsTrue, ThereIsTrue}
use Rattle.mt_steps.specs.declared.entering.Entered.{Entered}
use Rattle.mt_steps.specs.declared.entering.Entered.TheVariants.{Enters as EntersNext, Right as EntersRight, Below as EntersBelow, Here as EntersHere}
use Rattle.mt_steps.specs.declared.entering.There.{There}
use Rattle.mt_steps.specs.declared.entering.There.TheVariants.{Absent as AbsentThere, Full as FullThere, Row as RowThere, Other as OtherThere}
use Rattle.mt_steps.specs.declared.way.Way.{Way}
use Rattle.mt_write.specs.declared.writing.Write.{Write}
use Rattle.mt_write.specs.Causes.{version_fault}
use Rattle.mt_write.specs.declared.writing.Edit.{Edit}
use Rattle.mt_write.specs.declared.writing.Edit.TheVariants.{Put as PutEdit, Remove as RemoveEdit}
use Rattle.mt_write.specs.declared.writing.Stage.{Stage}
use Rattle.mt_write.specs.declared.writing.Stage.TheVariants.{Seeks, Enters, Rightward, Searched, Copies, GivesBack, Spared, HalfFilled, HalfLinked, Halved, Posts, LayerSpared, LayerFilled, LayerReady, LayerMarked, LayerLinked, Layered, Reserved, KeyWritten, Filled, Made, Taken, Stored, Hidden, Forgets, Failed}
use Rattle.mt_write.specs.Splitting.{AreCopied, IsCutAt, IsHalf, IsHalfLinked, IsRead, IsSplit, empty_half, upper_half}
use Rattle.mt_write.specs.declared.writing.Halves.{Halves}
use Rattle.mt_write.specs.declared.writing.Ending.{Ending}
use Rattle.mt_write.specs.declared.writing.Ending.TheVariants.{Stored as EndStored, Failed as EndFailed}
use Rattle.mt_post.specs.Posting.{PostingIsTrue}
use Rattle.mt_write.specs.declared.writing.Insertion.{Insertion}
use Rattle.mt_write.specs.declared.writing.Layer.{Layer}
use Rattle.mt_steps.specs.World.{World, IsLockedBorder, NotAmong}
use Rattle.mt_steps.specs.Way.{prefix_of, rest_of, IsLayerOf, IsOnWay, IsHeadOf}
use Rattle.mt_steps.specs.declared.progress.Progress.{Progress}
use Rattle.mt_steps.specs.Step.{MayRefuse, StepLaw, MayStep, columns_after}
use Rattle.mt_write.specs.Held.{edit_request, owned, stage_held, write_held, write_request}

-- the call has locked the border of its key, and this is what is there; something of it may be unwritten
pub record IsOwnedAt (a : ArenaView) (key : List ℕ) (way : Way) (b : BorderView) (w : World) : Type 0 where
  pub layer : IsLayerOf key way
  pub named : border_at a.nodes way.node.0 ≡ Some b
  pub stands : IsWhere (arena_seen a) w.chart way.node.0 (prefix_of key way) (border_seen b)
      (place_of (rest_of key way))
  pub alive : b.version.deleted ≡ false
  pub last : IsLast (found_for (rest_of key way) b.live)
  pub locked : b.version.locked ≡ true
  pub free : NotAmong way.node.0 w.closing

-- the same, and all of it is written
pub record IsLockedAt (a : ArenaView) (key : List ℕ) (way : Way) (b : BorderView) (w : World) : Type 0 where
  pub layer : IsLayerOf key way
  pub named : border_at a.nodes way.node.0 ≡ Some b
  pub stands : IsWhere (arena_seen a) w.chart way.node.0 (prefix_of key way) (border_seen b)
      (place_of (rest_of key way))
  pub alive : b.version.deleted ≡ false
  pub last : IsLast (found_for (rest_of key way) b.live)
  pub locked : b.version.locked ≡ true
  pub written : b.unwritten ≡ Nothing
  pub free : NotAmong way.node.0 w.closing

abbrev pub AreHalves : List ℕ → ArenaView → World → Option Halves → Type 0
AreHalves prefix a w None = Unit {0}
AreHalves prefix a w (Some split) = IsSplit prefix a w split

-- it has locked its border, or both halves of the border that it has split, in the layer of a prefix
pub record HasLocked (prefix : List ℕ) (a : ArenaView) (w : World) (number : ℕ) (split : Option Halves) : Type 0 where
  pub locked : (other : ℕ) → Among other (owned number split) → IsLockedBorder a w other
  pub own : Among number (owned number split)
  pub halves : AreHalves prefix a w split

-- the same of what it has locked besides its border
pub record HasOthers (prefix : List ℕ) (a : ArenaView) (w : World) (number : ℕ) (split : Option Halves) : Type 0 where
  pub locked : (other : ℕ) → Among other (owned number split) → other ≢ number → IsLockedBorder a w other
  pub own : Among number (owned number split)
  pub halves : AreHalves prefix a w split

-- the number names this border, which is locked, and which the chart doesn't know
pub record IsSpare (a : ArenaView) (w : World) (number : ℕ) (b : BorderView) : Type 0 where
  pub named : border_at a.nodes number ≡ Some b
  pub unknown : w.chart number ≡ None
  pub locked : b.version.locked ≡ true
  pub free : NotAmong number w.closing

-- no entry is found
abbrev pub IsAbsent : Found → Type 0
IsAbsent (Absent place) = Unit {0}
IsAbsent _ = ⊥

-- it is a put, and if it asks for a version, this row is of that one
pub record PutsOver (edit : Edit) (row : Option Row) : Type 0 where
  pub sets : List (ℕ × List ℕ)
  pub only : Option ℕ
  pub is_put : edit ≡ PutEdit sets only
  pub agrees : version_fault only row ≡ None

-- it is a put of a key that has no row
abbrev pub PutsNew : Edit → Type 0
PutsNew edit = PutsOver edit None

-- the entry at a place of the border is of another key that continues after the same slice
pub record IsLayerAt (key : List ℕ) (way : Way) (b : BorderView) (place : ℕ) : Type 0 where
  pub sound : IsBorder b
  pub other : HasOtherSuffix (rest_of key way) b.live place

-- that key's entry, one layer deeper
abbrev pub moved_entry : (key : List ℕ) (way : Way) (b : BorderView) (place : ℕ) → IsLayerAt key way b place → Entry
moved_entry key way b place at = entry_of_row at.other.suffix at.other.row

-- the root of a layer that has this entry alone
abbrev pub lone_root : ℕ → Entry → BorderView
lone_root number entry = with_entries (new_border number 0 false) (entry ∷ []) None

-- the entry at a place is of a key that continues after its slice
abbrev pub HoldsLong : BorderView → ℕ → Type 0
HoldsLong b place = (slice : ℕ) × (suffix : List ℕ) × (row : Row)
    × (slice_get b.live place ≡ Some (record { slice = slice; content = Long suffix row }))

-- and has this after its slice, and this row
abbrev pub HoldsSuffixRow : BorderView → ℕ → List ℕ → Row → Type 0
HoldsSuffixRow b place suffix row = (slice : ℕ)
    × (slice_get b.live place ≡ Some (record { slice = slice; content = Long suffix row }))

-- the head and the root of a layer, which the chart doesn't know
pub record HasLayer (a : ArenaView) (w : World) (layer : Layer) (locked : Bool) (root : BorderView) : Type 0 where
  pub head : head_at a.nodes layer.head.0 ≡ Some (new_head layer.root 0 locked)
  pub is_root : border_at a.nodes layer.root.0 ≡ Some root
  pub head_unknown : w.chart layer.head.0 ≡ None
  pub root_unknown : w.chart layer.root.0 ≡ None

-- the layer's root is to be filled, or is filled with the entry of the other key
pub record IsToFill (a : ArenaView) (w : World) (key : List ℕ) (way : Way) (b : BorderView) (layer : Layer)
    (entries : List Entry) : Type 0 where
  pub number : ℕ
  pub at : IsLayerAt key way b layer.place
  pub has : HasLayer a w layer true (new_border number 0 false)
  pub moved : entries ≡ moved_entry key way b layer.place at ∷ []
  pub whole : IsEntry (moved_entry key way b layer.place at)

pub record IsToLink (a : ArenaView) (w : World) (key : List ℕ) (way : Way) (b : BorderView) (layer : Layer)
    (locked : Bool) : Type 0 where
  pub number : ℕ
  pub at : IsLayerAt key way b layer.place
  pub has : HasLayer a w layer locked (lone_root number (moved_entry key way b layer.place at))

-- the call has locked a border that is on in the layer of a prefix, and that has the link to the head of a layer below
pub record HasLink (prefix : List ℕ) (a : ArenaView) (w : World) (number : ℕ) (head : NodeNo) : Type 0 where
  pub border : IsLockedBorder a w number
  pub stands : IsOnIn w.chart number prefix
  pub slice : ℕ
  pub linked : Among (record { slice = slice; content = Link head }) border.b.live

-- the same, while that key's mark is still to be written
pub record HasMarkedLink (prefix : List ℕ) (a : ArenaView) (w : World) (number : ℕ) (head : NodeNo) : Type 0 where
  pub b : BorderView
  pub named : border_at a.nodes number ≡ Some b
  pub stands : IsOnIn w.chart number prefix
  pub locked : b.version.locked ≡ true
  pub alive : b.version.deleted ≡ false
  pub free : NotAmong number w.closing
  pub unmarked : AwaitsSomeMark b
  pub slice : ℕ
  pub linked : Among (record { slice = slice; content = Link head }) b.live

-- the way of the key into the layer of a head
abbrev pub way_below : Way → NodeNo → Way
way_below way head = record { node = head; layer = way.layer + 1 }

-- and to the right
abbrev pub way_right : Way → NodeNo → Way
way_right way next = record { node = next; layer = way.layer }

-- what a write does after it has read a field of the border that it has locked
abbrev pub entered_stage : Entered → Stage
entered_stage (EntersNext entering) = Enters entering
entered_stage (EntersRight next) = Rightward next
entered_stage (EntersBelow head) = Layered head
entered_stage (EntersHere there) = Searched there

-- the row that it has found
abbrev pub there_row : There → Option Row
there_row (AbsentThere place) = None
there_row (FullThere place outline) = None
there_row (RowThere place row) = Some row
there_row (OtherThere place suffix row) = None

-- the entry of a key with these columns, before its commit
abbrev pub new_entry : List ℕ → Way → List (List ℕ) → Entry
new_entry key way columns = entry_of_row (rest_of key way) (record { version = 0; columns = columns })

-- the key has no row, and the one that it is to have is made
pub record IsNewRow (C : ℕ) (key : List ℕ) (sets : List (ℕ × List ℕ)) (way : Way) (b : BorderView) (new : Insertion)
    (row : Row) : Type 0 where
  pub bytes : AreBytes key
  pub fits : length key ≤ MAX_KEY_BYTES
  pub sound : IsBorder b
  pub stored_is : new.key ≡ key
  pub absent : found_for (rest_of key way) b.live ≡ Absent new.place
  pub columns : new.logged ≡ columns_after C sets None
  pub row_is : row ≡ record { version = 0; columns = new.logged }

-- a slot is unused, for which the key is made, and the border is marked if that slot held a key
pub record AwaitsKey (key : List ℕ) (way : Way) (b : BorderView) (slot_key : SlotKey) : Type 0 where
  pub room : length b.live < SLOTS
  pub marked : first_held b.unused ≡ true → b.version.inserting ≡ true
  pub key_is : slot_key ≡ key_of_rest (rest_of key way)
  pub whole : IsKey (key_seen slot_key)

-- the key has no row, and the first unused slot, which was filled since it was live, holds the new one
pub record IsFilled (C : ℕ) (key : List ℕ) (sets : List (ℕ × List ℕ)) (way : Way) (b : BorderView) (place : ℕ) (stored : List ℕ)
    (logged : List (List ℕ)) : Type 0 where
  pub bytes : AreBytes key
  pub fits : length key ≤ MAX_KEY_BYTES
  pub sound : IsBorder b
  pub stored_is : stored ≡ key
  pub absent : found_for (rest_of key way) b.live ≡ Absent place
  pub columns : logged ≡ columns_after C sets None
  pub shows : (version : ℕ) → MayShowAt b place version
  pub slot : Slot
  pub slots : List Slot
  pub unused : b.unused ≡ slot ∷ slots
  pub entry : slot.entry ≡ new_entry key way logged
  pub fresh : slot.held_key ≡ false

-- the key has a row, and the columns are made that it is to have
pub record IsMade (C : ℕ) (key : List ℕ) (sets : List (ℕ × List ℕ)) (way : Way) (b : BorderView) (place : ℕ) (stored : List ℕ)
    (columns logged : List (List ℕ)) : Type 0 where
  pub bytes : AreBytes key
  pub fits : length key ≤ MAX_KEY_BYTES
  pub sound : IsBorder b
  pub stored_is : stored ≡ key
  pub there : found_for (rest_of key way) b.live ≡ RowFound place
  pub made : columns ≡ columns_after C sets (row_at place b.live)
  pub copied : logged ≡ columns

-- the key has a row, which is copied for the log, and is to be removed
pub record IsFound (key : List ℕ) (edit : Edit) (way : Way) (b : BorderView) (place : ℕ) (stored : List ℕ)
    (before : Row) : Type 0 where
  pub bytes : AreBytes key
  pub fits : length key ≤ MAX_KEY_BYTES
  pub sound : IsBorder b
  pub stored_is : stored ≡ key
  pub there : found_for (rest_of key way) b.live ≡ RowFound place
  pub is_remove : edit ≡ RemoveEdit
  pub copied : row_at place b.live ≡ Some before

-- the call has hidden a row of the border that it has locked, of which all is written: the border has an unused slot,
-- and this is true of it
pub record HasHidden (Still : BorderView → Type 0) (a : ArenaView) (w : World) (number : ℕ) : Type 0 where
  pub b : BorderView
  pub named : border_at a.nodes number ≡ Some b
  pub known : IsSome (w.chart number)
  pub locked : b.version.locked ≡ true
  pub alive : b.version.deleted ≡ false
  pub written : b.unwritten ≡ Nothing
  pub free : NotAmong number w.closing
  pub sound : IsBorder b
  pub room : length b.live < SLOTS
  pub still : Still b

-- the first unused slot held a key
abbrev pub FirstHeld : BorderView → Type 0
FirstHeld b = first_held b.unused ≡ true

-- the border is marked as one into which keys are being inserted
abbrev pub IsInserting : BorderView → Type 0
IsInserting b = b.version.inserting ≡ true

-- it isn't refused for another version
abbrev pub IsOtherwise : Refusal → Type 0
IsOtherwise (OtherVersion found) = ⊥
IsOtherwise _ = Unit {0}

-- at the border that it has locked its key's row is of this version
pub record FindsVersion (a : ArenaView) (w : World) (key : List ℕ) (way : Way) (found : ℕ) : Type 0 where
  pub b : BorderView
  pub at : IsLockedAt a key way b w
  pub bytes : AreBytes key
  pub sound : IsBorder b
  pub is : version_of (row_found b.live (found_for (rest_of key way) b.live)) ≡ found

-- if it is refused for another version, its key's row is of that one; it isn't refused so once its border is split
abbrev pub Tells : ArenaView → World → List ℕ → Way → Refusal → Option Halves → Type 0
Tells a w key way (OtherVersion found) None = FindsVersion a w key way found
Tells a w key way refusal split = IsOtherwise refusal

pub record FailsOtherwise (key : List ℕ) (edit : Edit) (refusal : Refusal) : Type 0 where
  pub may : MayRefuse (edit_request key edit) refusal
  pub otherwise : IsOtherwise refusal

-- it may end so
abbrev pub MayEnd : List ℕ → Edit → Ending → Type 0
MayEnd key edit (EndStored commit) = Unit {0}
MayEnd key edit (EndFailed refusal) = FailsOtherwise key edit refusal

abbrev pub StageIsTrue : ℕ → List ℕ → Edit → Way → Stage → ℕ → ArenaView → World → Type 0
StageIsTrue C key edit way Seeks begun a w = IsOnWay begun key way w
StageIsTrue C key edit way (Enters entering) begun a w = (k : IsLockedBorder a w way.node.0) × IsOnWay begun key way w
    × EnteringIsTrue (rest_of key way) entering k.b
StageIsTrue C key edit way (Rightward next) begun a w = IsLockedBorder a w way.node.0
    × IsOnWay begun key (way_right way next) w
StageIsTrue C key edit way (Searched there) begun a w = (b : BorderView) × IsLockedAt a key way b w
    × ThereIsTrue (rest_of key way) there b
StageIsTrue C key edit way (Copies half cut place outline entries) begun a w = (b : BorderView)
    × IsLockedAt a key way b w × (b.version.splitting ≡ true) × (c : IsCutAt key way b cut place)
    × IsSpare a w half.0 (empty_half b c.middle) × IsRead b outline × AreCopied b cut entries × PutsNew edit
StageIsTrue C key edit way (GivesBack half) begun a w = IsLockedBorder a w way.node.0
    × (spare : BorderView) × IsSpare a w half.0 spare
StageIsTrue C key edit way (Spared half cut place right entries) begun a w = (b : BorderView) × IsLockedAt a key way b w
    × (b.version.splitting ≡ true) × (c : IsCutAt key way b cut place) × IsSpare a w half.0 (empty_half b c.middle)
    × (entries ≡ drop cut b.live) × PutsNew edit × (b.right ≡ right)
StageIsTrue C key edit way (HalfFilled half cut place) begun a w = (b : BorderView) × IsLockedAt a key way b w
    × (b.version.splitting ≡ true) × (c : IsCutAt key way b cut place) × IsSpare a w half.0 (upper_half b cut c.middle)
    × PutsNew edit
StageIsTrue C key edit way (HalfLinked half cut place) begun a w = IsHalfLinked a w key way half cut place × PutsNew edit
StageIsTrue C key edit way (Halved split place) begun a w = (b : BorderView) × IsLockedAt a key way b w
    × IsHalf key way place b × HasLocked (prefix_of key way) a w way.node.0 (Some split) × PutsNew edit
StageIsTrue C key edit way (LayerSpared layer entries) begun a w = (b : BorderView) × IsLockedAt a key way b w
    × IsToFill a w key way b layer entries
StageIsTrue C key edit way (LayerFilled layer) begun a w = (b : BorderView) × IsLockedAt a key way b w
    × IsToLink a w key way b layer true
StageIsTrue C key edit way (LayerReady layer) begun a w = (b : BorderView) × IsLockedAt a key way b w
    × IsToLink a w key way b layer false
StageIsTrue C key edit way (LayerMarked layer) begun a w = (b : BorderView) × IsOwnedAt a key way b w
    × IsToLink a w key way b layer false × (b.unwritten ≡ LinkAt (number_at layer.place b.order))
StageIsTrue C key edit way (LayerLinked head) begun a w = HasMarkedLink (prefix_of key way) a w way.node.0 head
    × IsOnWay begun key (way_below way head) w × IsHeadOf w begun head.0 (prefix_of key (way_below way head))
StageIsTrue C key edit way (Layered head) begun a w = HasLink (prefix_of key way) a w way.node.0 head
    × IsOnWay begun key (way_below way head) w × IsHeadOf w begun head.0 (prefix_of key (way_below way head))
StageIsTrue C key edit way (Reserved new slot_key row) begun a w = (b : BorderView) × IsLockedAt a key way b w
    × (p : PutsNew edit) × IsNewRow C key p.sets way b new row × AwaitsKey key way b slot_key
    × HasLocked (prefix_of key way) a w way.node.0 new.split
StageIsTrue C key edit way (KeyWritten new row) begun a w = (b : BorderView) × IsOwnedAt a key way b w
    × (p : PutsNew edit) × IsNewRow C key p.sets way b new row × (b.unwritten ≡ Value (key_of_rest (rest_of key way)))
    × HasOthers (prefix_of key way) a w way.node.0 new.split
StageIsTrue C key edit way (Filled place stored logged split) begun a w = (b : BorderView) × IsLockedAt a key way b w
    × (p : PutsNew edit) × IsFilled C key p.sets way b place stored logged
    × HasLocked (prefix_of key way) a w way.node.0 split
StageIsTrue C key edit way (Made place stored columns logged) begun a w = (b : BorderView) × IsLockedAt a key way b w
    × (p : PutsOver edit (row_at place b.live)) × IsMade C key p.sets way b place stored columns logged
StageIsTrue C key edit way (Taken place stored before) begun a w = (b : BorderView) × IsLockedAt a key way b w
    × IsFound key edit way b place stored before
StageIsTrue C key edit way (Posts posting ending) begun a w = PostingIsTrue begun posting a w
    × (posting.half ≡ way.node) × MayEnd key edit ending
StageIsTrue C key edit way (Stored number split) begun a w = HasLocked (prefix_of key way) a w way.node.0 split
StageIsTrue C key edit way (Hidden number) begun a w = HasHidden FirstHeld a w way.node.0
StageIsTrue C key edit way (Forgets number) begun a w = HasHidden IsInserting a w way.node.0
StageIsTrue C key edit way (Failed refusal split) begun a w = HasLocked (prefix_of key way) a w way.node.0 split
    × MayRefuse (edit_request key edit) refusal × Tells a w key way refusal split

-- and it knows the head of the layer where it is
abbrev pub HeadedStage : ℕ → List ℕ → Edit → Way → NodeNo → Stage → ℕ → ArenaView → World → Type 0
HeadedStage C key edit way head stage begun a w = StageIsTrue C key edit way stage begun a w
    × IsHeadOf w begun head.0 (prefix_of key way)

abbrev pub WriteIsTrue : ℕ → Write → ℕ → ℕ → List Arena → ArenaView → World → Type 0
WriteIsTrue C write begun moves past a w = HeadedStage C write.key write.edit write.way write.head write.stage begun a w

-- what a step asks, and its law, of a write that is at a stage
abbrev pub MayStage : ℕ → ArenaView → LogView → Write → Stage → Type 0
MayStage C a log write stage =
    MayStep a log (stage_held write.way.node.0 stage)
    (λ begun moves past x w. HeadedStage C write.key write.edit write.way write.head stage begun x w)

abbrev pub StageLaw : ℕ → ArenaView → ArenaView → LogView → LogView → Write → Stage → Progress → Write → Type 0
StageLaw C a after log left write stage p then =
    StepLaw C a after log left (write_request write) (stage_held write.way.node.0 stage) p (write_held then)
    (λ begun moves past x w. HeadedStage C write.key write.edit write.way write.head stage begun x w)
    (WriteIsTrue C then)
