-- What a put or remove makes ready at the border that it has locked, and the deltas of their commits.
use Rattle.std.specs.Prelude.{ℕ, ◌≡◌, ◌<◌, ◌≤◌, ◌+◌, ◌⊎◌, List, [], ◌∷◌, length, Option, Some, None, IsSomeAnd, true, false}
use Rattle.mt_types.specs.declared.limits.TheConstants.{MAX_KEY_BYTES}
use Rattle.mt_types.specs.declared.row.Row.{Row}
use Rattle.mt_types.specs.declared.row.Delta.{Delta}
use Rattle.mt_types.specs.declared.event.Request.TheVariants.{Put as PutRequest, Remove as RemoveRequest}
use Rattle.mt_slice.specs.Place.{AreBytes}
use Rattle.mt_word.specs.declared.permutation_word.TheConstants.{SLOTS}
use Rattle.mt_commit.specs.Log.{LogView}
use Rattle.mt_border.specs.Border.{BorderView, with_filled, with_inserting, with_key, with_splitting, new_border}
use Rattle.mt_arena.specs.declared.node.Node.TheVariants.{Border, Head}
use Rattle.mt_border.specs.Entry.{IsEntry}
use Rattle.mt_border.specs.Order.{IsBorder}
use Rattle.mt_border.specs.declared.found.Found.{Found}
use Rattle.mt_border.specs.declared.found.Found.TheVariants.{Absent as AbsentFound}
use Rattle.mt_border.specs.declared.entry.Entry.{Entry}
use Rattle.mt_border.specs.declared.unwritten.SlotKey.{SlotKey}
use Rattle.mt_border.specs.Entry.{entry_with, key_of_rest}
use Rattle.mt_border.specs.Keys.{key_seen, IsKey}
use Rattle.mt_arena.specs.Node.{node_at, border_at, Updates}
use Rattle.mt_arena.specs.declared.node.Node.{Node}
use Rattle.mt_interior.specs.Head.{new_head}
use Rattle.mt_arena.specs.Arena.{ArenaView, IsArena, with_border_changed}
use Rattle.mt_tree.specs.Keeping.{KeepsTree, KeepsUnknown, IsUnknown}
use Rattle.mt_tree.specs.Descent.{found_for, row_found}
use Rattle.mt_steps.specs.declared.way.Way.{Way}
use Rattle.mt_write.specs.declared.writing.Edit.{Edit}
use Rattle.mt_write.specs.declared.writing.Edit.TheVariants.{Put as PutEdit, Remove as RemoveEdit}
use Rattle.mt_write.specs.declared.writing.Stage.{Stage}
use Rattle.mt_write.specs.declared.writing.Stage.TheVariants.{Copies, LayerSpared, Reserved, Made, Taken, Failed}
use Rattle.mt_write.specs.declared.writing.Halves.{Halves}
use Rattle.mt_write.specs.declared.writing.Insertion.{Insertion}
use Rattle.mt_write.specs.declared.writing.Layer.{Layer}
use Rattle.mt_steps.specs.Way.{rest_of}
use Rattle.mt_steps.specs.Step.{MayFail, columns_after}
use Rattle.mt_steps.specs.declared.entering.Outline.{Outline}
use Rattle.mt_steps.specs.declared.entering.There.{There}
use Rattle.mt_steps.specs.declared.entering.There.TheVariants.{Full}
use Rattle.mt_write.specs.Writing.{IsLayerAt, moved_entry, IsNewRow, IsMade, IsFound}
use Rattle.mt_write.specs.Splitting.{IsRead, IsCutAt, empty_half}

-- what was found needs no split of the border
abbrev pub NeedsNoSplit : BorderView → Found → Type 0
NeedsNoSplit b (AbsentFound place) = length b.live < SLOTS
NeedsNoSplit b _ = Unit {0}

-- what was read needs none
abbrev pub IsNotFull : There → Type 0
IsNotFull (Full place outline) = ⊥
IsNotFull _ = Unit {0}

-- the room for one delta more
abbrev pub with_room : LogView → LogView
with_room log = record log { reserved = log.reserved + 1 }

-- the key of a put in its slot, and its row, are made, and its border is marked if the first unused slot held a key
pub record Reserves (C : ℕ) (key : List ℕ) (sets : List (ℕ × List ℕ)) (way : Way) (a : ArenaView) (log : LogView)
    (new : Insertion) (slot_key : SlotKey) (row : Row) (after : ArenaView) (left : LogView) : Type 0 where
  pub b : BorderView
  pub named : border_at a.nodes way.node.0 ≡ Some b
  pub made : IsNewRow C key sets way b new row
  pub room : length b.live < SLOTS
  pub key_is : slot_key ≡ key_of_rest (rest_of key way)
  pub whole : IsKey (key_seen slot_key)
  pub marked : after ≡ with_border_changed a way.node.0 with_inserting
  pub sound : IsSomeAnd (border_at after.nodes way.node.0) IsBorder
  pub keeps : KeepsTree a after
  pub reserved : left ≡ with_room log

-- a key and its row are written into the first unused slot of the border under a number: the key, and then the value
pub record WritesSlot (a after : ArenaView) (number : ℕ) (slot_key : SlotKey) (row : Row) : Type 0 where
  pub keyed : ArenaView
  pub key : keyed ≡ with_border_changed a number (λ b. with_key b slot_key)
  pub key_sound : IsSomeAnd (border_at keyed.nodes number) IsBorder
  pub key_keeps : KeepsTree a keyed
  pub arena : IsArena keyed
  pub value : after ≡ with_border_changed keyed number (λ b. with_filled b (entry_with slot_key row))
  pub value_sound : IsSomeAnd (border_at after.nodes number) IsBorder
  pub value_keeps : KeepsTree keyed after

-- a new row of a key is written there, for which the border was marked if the slot held a key
pub record Inserts (C : ℕ) (key : List ℕ) (sets : List (ℕ × List ℕ)) (way : Way) (a after : ArenaView) : Type 0 where
  pub b : BorderView
  pub named : border_at a.nodes way.node.0 ≡ Some b
  pub bytes : AreBytes key
  pub fits : length key ≤ MAX_KEY_BYTES
  pub sound : IsBorder b
  pub whole : IsKey (key_seen (key_of_rest (rest_of key way)))
  pub marked : ArenaView
  pub marks : marked ≡ with_border_changed a way.node.0 with_inserting
  pub marked_sound : IsSomeAnd (border_at marked.nodes way.node.0) IsBorder
  pub marked_keeps : KeepsTree a marked
  pub arena : IsArena marked
  pub writes : WritesSlot marked after way.node.0 (key_of_rest (rest_of key way))
      (record { version = 0; columns = columns_after C sets None })

-- a number that named nothing names this node, a spare
pub record Occupies (a after : ArenaView) (number : ℕ) (node : Node) : Type 0 where
  pub vacant : node_at a.nodes number ≡ None
  pub updates : Updates a.nodes after.nodes number (Some node)
  pub retired : after.retired ≡ a.retired
  pub unknown : IsUnknown a number
  pub keeps : KeepsTree a after

-- the tree is what it was, or a number was occupied and given back
pub record GaveBack (a after : ArenaView) : Type 0 where
  pub number : ℕ
  pub node : Node
  pub between : ArenaView
  pub occupied : Occupies a between number node
  pub back : Updates between.nodes after.nodes number None
  pub retired : after.retired ≡ between.retired
  pub keeps : KeepsUnknown between after number

abbrev pub IsBack : ArenaView → ArenaView → Type 0
IsBack a after = (after ≡ a) ⊎ GaveBack a after

-- or a half for the border, which is full, and is marked as one that is being split
pub record Spares (key : List ℕ) (way : Way) (a : ArenaView) (half cut place : ℕ) (outline : Outline)
    (after : ArenaView) : Type 0 where
  pub b : BorderView
  pub named : border_at a.nodes way.node.0 ≡ Some b
  pub cut_at : IsCutAt key way b cut place
  pub read : IsRead b outline
  pub between : ArenaView
  pub occupied : Occupies a between half (Border (empty_half b cut_at.middle))
  pub marked : after ≡ with_border_changed between way.node.0 with_splitting
  pub sound : IsSomeAnd (border_at after.nodes way.node.0) IsBorder
  pub keeps : KeepsTree between after

-- or the head and the root of a layer, for a key that has another's slice
pub record LayerSpares (key : List ℕ) (way : Way) (a : ArenaView) (layer : Layer) (entries : List Entry)
    (after : ArenaView) : Type 0 where
  pub b : BorderView
  pub named : border_at a.nodes way.node.0 ≡ Some b
  pub at : IsLayerAt key way b layer.place
  pub number : ℕ
  pub between : ArenaView
  pub root : Occupies a between layer.root.0 (Border (new_border number 0 false))
  pub head : Occupies between after layer.head.0 (Head (new_head layer.root 0 true))
  pub moved : entries ≡ moved_entry key way b layer.place at ∷ []
  pub whole : IsEntry (moved_entry key way b layer.place at)

-- or the columns that the row is to have
pub record Makes (C : ℕ) (key : List ℕ) (sets : List (ℕ × List ℕ)) (way : Way) (a : ArenaView) (log : LogView)
    (place : ℕ) (stored : List ℕ) (columns logged : List (List ℕ)) (after : ArenaView) (left : LogView) : Type 0 where
  pub b : BorderView
  pub named : border_at a.nodes way.node.0 ≡ Some b
  pub made : IsMade C key sets way b place stored columns logged
  pub same : after ≡ a
  pub reserved : left ≡ with_room log

-- a put of these sets
abbrev pub SomeSets : Edit → (List (ℕ × List ℕ) → Type 0) → Type 0
SomeSets (PutEdit sets only) P = P sets
SomeSets RemoveEdit P = ⊥

-- A put is ready, or it fails. It has split its border already, into these halves, or not.
abbrev pub Prepares : ℕ → List ℕ → List (ℕ × List ℕ) → Way → ArenaView → LogView → Option Halves → Stage → ArenaView
    → LogView → Type 0
Prepares C key sets way a log split (Copies half cut place outline entries) after left = (split ≡ None)
    × Spares key way a half.0 cut place outline after × (entries ≡ []) × (left ≡ log)
Prepares C key sets way a log split (LayerSpared layer entries) after left = (split ≡ None)
    × LayerSpares key way a layer entries after × (left ≡ log)
Prepares C key sets way a log split (Reserved new slot_key row) after left = (new.split ≡ split)
    × Reserves C key sets way a log new slot_key row after left
Prepares C key sets way a log split (Made place stored columns logged) after left = (split ≡ None)
    × Makes C key sets way a log place stored columns logged after left
Prepares C key sets way a log split (Failed refusal halves) after left = (halves ≡ split)
    × MayFail log (PutRequest key sets) refusal × IsBack a after × (left ≡ log)
Prepares C key sets way a log split _ after left = ⊥

-- the delta of a put's commit
abbrev pub put_delta : ℕ → List ℕ → Option Row → List (List ℕ) → Delta
put_delta number key before columns =
    record {
      number = number;
      key = key;
      before = before;
      after = Some (record { version = number; columns = columns });
    }

-- what a remove makes ready: the row that is to be removed is copied
pub record Takes (key : List ℕ) (way : Way) (a : ArenaView) (log : LogView) (place : ℕ) (stored : List ℕ) (before : Row)
    (left : LogView) : Type 0 where
  pub b : BorderView
  pub named : border_at a.nodes way.node.0 ≡ Some b
  pub found : IsFound key RemoveEdit way b place stored before
  pub reserved : left ≡ with_room log

-- or the key has no row
pub record LacksRow (key : List ℕ) (way : Way) (a : ArenaView) : Type 0 where
  pub b : BorderView
  pub named : border_at a.nodes way.node.0 ≡ Some b
  pub bytes : AreBytes key
  pub sound : IsBorder b
  pub none : row_found b.live (found_for (rest_of key way) b.live) ≡ None

abbrev pub PreparesRemove : List ℕ → Way → ArenaView → LogView → Option Stage → LogView → Type 0
PreparesRemove key way a log None left = LacksRow key way a × (left ≡ log)
PreparesRemove key way a log (Some (Taken place stored before)) left = Takes key way a log place stored before left
PreparesRemove key way a log (Some (Failed refusal split)) left = (split ≡ None)
    × MayFail log (RemoveRequest key) refusal × (left ≡ log)
PreparesRemove key way a log _ left = ⊥

-- the delta of a remove's commit
abbrev pub remove_delta : ℕ → List ℕ → Row → Delta
remove_delta number key before = record { number = number; key = key; before = Some before; after = None }
