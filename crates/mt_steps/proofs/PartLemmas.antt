-- What a call is lent of a node, by the field that it asks for.
use Rattle.std.proofs.Common.{ℕ, ◌≡◌, Option, Some, None, refl, sym, ap, subst, ◌∙◌}
use Rattle.std.specs.Option.{option_and_then}
use Rattle.std.specs.Borrow.{Bor}
use Rattle.mt_border.specs.Border.{BorderView}
use Rattle.mt_border.specs.Order.{IsBorder}
use Rattle.mt_border.specs.Keys.{IsKeyPart}
use Rattle.mt_border.specs.Parts.{IsValueOf}
use Rattle.mt_border.specs.Slots.{slot_at, key_at, order_shown}
use Rattle.mt_border.specs.declared.field.KeyPart.{KeyPart as KeyOf}
use Rattle.mt_border.specs.declared.field.ValuePart.{ValuePart as ValueOf}
use Rattle.mt_interior.specs.Head.{HeadView}
use Rattle.mt_interior.specs.Interior.{InteriorView}
use Rattle.mt_arena.specs.Arena.{ArenaView}
use Rattle.mt_arena.specs.Node.{border_at, border_of, IsNode}
use Rattle.mt_arena.specs.Parts.{IsPart, IsFieldOf}
use Rattle.mt_arena.specs.declared.node.Node.{Node}
use Rattle.mt_arena.specs.declared.node.Node.TheVariants.{Head as HeadNode, Interior as InteriorNode, Border as BorderNode}
use Rattle.mt_arena.specs.declared.part.Field.{Field}
use Rattle.mt_arena.specs.declared.part.Field.TheVariants.{Version, Right, Order, Key, Value}
use Rattle.mt_arena.specs.declared.part.Part.{Part}
use Rattle.mt_arena.specs.declared.part.Part.TheVariants.{Head as HeadPart, Interior as InteriorPart, Version as VersionPart, Right as RightPart, Order as OrderPart, Key as KeyPart, Value as ValuePart}
use Rattle.mt_steps.specs.Standing.{Lends}

-- if the number names a border, a field of that border is lent
pub record LendsField (b : BorderView) (field : Field) (part : Part) : Type 0 where
  pub sound : IsBorder b
  pub is : IsFieldOf b field part

pub lends_field : (a : ArenaView) (number : ℕ) (field : Field) (part : Part) → Lends a number field part → (b : BorderView) → border_at a.nodes number ≡ Some b → LendsField b field part
lends_field a number field part lent b named = go lent.node (sym (ap (option_and_then border_of) lent.named) ∙ named) lent.sound lent.is
  where
    go : (node : Node) → border_of node ≡ Some b → IsNode node → IsPart node field part → LendsField b field part
    go (HeadNode h) is sound part = absurd (let clash : ◌≡◌ {A = Option BorderView} None (Some b) = is in cc)
    go (InteriorNode i) is sound part = absurd (let clash : ◌≡◌ {A = Option BorderView} None (Some b) = is in cc)
    go (BorderNode own) is sound part_is = let same : own ≡ b = cc in record { sound = subst IsBorder same sound; is = subst (λ (x : BorderView). IsFieldOf x field part) same part_is }

-- ---- a border lends no head and no interior
pub no_head : (b : BorderView) (field : Field) (head : Bor HeadView) → IsFieldOf b field (HeadPart head) → ⊥
no_head b Version head is = is
no_head b Right head is = is
no_head b Order head is = is
no_head b (Key number) head is = is
no_head b (Value number) head is = is

pub no_interior : (b : BorderView) (field : Field) (interior : Bor InteriorView) → IsFieldOf b field (InteriorPart interior) → ⊥
no_interior b Version interior is = is
no_interior b Right interior is = is
no_interior b Order interior is = is
no_interior b (Key number) interior is = is
no_interior b (Value number) interior is = is

-- ---- what each field of a border is lent as
pub version_part : (b : BorderView) (part : Part) → IsFieldOf b Version part → part ≡ VersionPart b.version
version_part b (HeadPart part) is = absurd is
version_part b (InteriorPart part) is = absurd is
version_part b (VersionPart version) is = ap VersionPart is
version_part b (RightPart part) is = absurd is
version_part b (OrderPart part) is = absurd is
version_part b (KeyPart part) is = absurd is
version_part b (ValuePart part) is = absurd is

pub right_part : (b : BorderView) (part : Part) → IsFieldOf b Right part → part ≡ RightPart b.right
right_part b (HeadPart part) is = absurd is
right_part b (InteriorPart part) is = absurd is
right_part b (VersionPart part) is = absurd is
right_part b (RightPart right) is = ap RightPart is
right_part b (OrderPart part) is = absurd is
right_part b (KeyPart part) is = absurd is
right_part b (ValuePart part) is = absurd is

pub order_part : (b : BorderView) (part : Part) → IsFieldOf b Order part → part ≡ OrderPart (order_shown b)
order_part b (HeadPart part) is = absurd is
order_part b (InteriorPart part) is = absurd is
order_part b (VersionPart part) is = absurd is
order_part b (RightPart part) is = absurd is
order_part b (OrderPart order) is = ap OrderPart is
order_part b (KeyPart part) is = absurd is
order_part b (ValuePart part) is = absurd is

pub key_part : (b : BorderView) (number : ℕ) (part : Part) → IsFieldOf b (Key number) part → (key : KeyOf) × (part ≡ KeyPart key) × IsKeyPart (key_at b number) key
key_part b number (HeadPart part) is = absurd is
key_part b number (InteriorPart part) is = absurd is
key_part b number (VersionPart part) is = absurd is
key_part b number (RightPart part) is = absurd is
key_part b number (OrderPart part) is = absurd is
key_part b number (KeyPart key) is = (key, refl, is)
key_part b number (ValuePart part) is = absurd is

pub value_part : (b : BorderView) (number : ℕ) (part : Part) → IsFieldOf b (Value number) part → (value : ValueOf) × (part ≡ ValuePart value) × IsValueOf (slot_at b number).entry.content value
value_part b number (HeadPart part) is = absurd is
value_part b number (InteriorPart part) is = absurd is
value_part b number (VersionPart part) is = absurd is
value_part b number (RightPart part) is = absurd is
value_part b number (OrderPart part) is = absurd is
value_part b number (KeyPart part) is = absurd is
value_part b number (ValuePart value) is = (value, refl, is)

-- ---- what a head and an interior node are lent as
pub head_part : (head : HeadView) (field : Field) (part : Part) → IsPart (HeadNode head) field part → (h : Bor HeadView) × (part ≡ HeadPart h) × (h.now ≡ head)
head_part head field (HeadPart part) is = (part, refl, is)
head_part head field (InteriorPart part) is = absurd is
head_part head field (VersionPart part) is = absurd is
head_part head field (RightPart part) is = absurd is
head_part head field (OrderPart part) is = absurd is
head_part head field (KeyPart part) is = absurd is
head_part head field (ValuePart part) is = absurd is

pub interior_part : (interior : InteriorView) (field : Field) (part : Part) → IsPart (InteriorNode interior) field part → (i : Bor InteriorView) × (part ≡ InteriorPart i) × (i.now ≡ interior)
interior_part interior field (HeadPart part) is = absurd is
interior_part interior field (InteriorPart part) is = (part, refl, is)
interior_part interior field (VersionPart part) is = absurd is
interior_part interior field (RightPart part) is = absurd is
interior_part interior field (OrderPart part) is = absurd is
interior_part interior field (KeyPart part) is = absurd is
interior_part interior field (ValuePart part) is = absurd is
