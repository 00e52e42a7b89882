-- What a call is lent of a node: a head or an interior node whole, of a border one field.
use Rattle.std.specs.Prelude.{◌≡◌, ◌<◌}
use Rattle.mt_word.specs.declared.permutation_word.TheConstants.{SLOTS}
use Rattle.mt_border.specs.Border.{BorderView}
use Rattle.mt_border.specs.Keys.{IsKeyPart}
use Rattle.mt_border.specs.Parts.{IsValueOf}
use Rattle.mt_border.specs.Slots.{slot_at, key_at, order_shown}
use Rattle.mt_arena.specs.declared.node.Node.{Node}
use Rattle.mt_arena.specs.declared.node.Node.TheVariants.{Head, Interior, Border}
use Rattle.mt_arena.specs.declared.part.Field.{Field}
use Rattle.mt_arena.specs.declared.part.Field.TheVariants.{Version, Right, Order, Key, Value}
use Rattle.mt_arena.specs.declared.part.Part.{Part}
use Rattle.mt_arena.specs.declared.part.Part.TheVariants.{Head as HeadPart, Interior as InteriorPart, Version as VersionPart, Right as RightPart, Order as OrderPart, Key as KeyPart, Value as ValuePart}

-- a field of a slot is that of one of the fifteen
abbrev pub IsField : Field → Type 0
IsField (Key number) = number < SLOTS
IsField (Value number) = number < SLOTS
IsField _ = Unit {0}

-- this is what the field of the border holds
abbrev pub IsFieldOf : BorderView → Field → Part → Type 0
IsFieldOf b Version (VersionPart version) = version ≡ b.version
IsFieldOf b Right (RightPart right) = right ≡ b.right
IsFieldOf b Order (OrderPart order) = order ≡ order_shown b
IsFieldOf b (Key number) (KeyPart part) = IsKeyPart (key_at b number) part
IsFieldOf b (Value number) (ValuePart part) = IsValueOf (slot_at b number).entry.content part
IsFieldOf b _ _ = ⊥

-- THIS IS WHAT IS LENT of the node, where this field is asked for
abbrev pub IsPart : Node → Field → Part → Type 0
IsPart (Head head) field (HeadPart part) = part.now ≡ head
IsPart (Head head) field _ = ⊥
IsPart (Interior interior) field (InteriorPart part) = part.now ≡ interior
IsPart (Interior interior) field _ = ⊥
IsPart (Border border) field part = IsFieldOf border field part
