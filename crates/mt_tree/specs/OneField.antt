-- That a step changes at most one field of a border.
use Rattle.std.specs.Prelude.{ℕ, nat_eq, ◌≡◌, ◌≢◌, ◌⊎◌, Bool, true, false, Option, Some}
use Rattle.std.specs.List.{list_any}
use Rattle.mt_border.specs.Border.{BorderView}
use Rattle.mt_border.specs.Entry.{content_at_version}
use Rattle.mt_border.specs.Slots.{slot_at, key_at, order_shown}
use Rattle.mt_arena.specs.declared.part.Field.{Field}
use Rattle.mt_arena.specs.declared.part.Field.TheVariants.{Version, Right, Order, Key, Value}

-- EVERY FIELD BUT THIS ONE is read as before; and the border is in its layer
pub record SameBut (field : Field) (b then : BorderView) : Type 0 where
  pub layer : then.layer ≡ b.layer
  pub version : field ≢ Version → then.version ≡ b.version
  pub right : field ≢ Right → then.right ≡ b.right
  pub order : field ≢ Order → order_shown then ≡ order_shown b
  pub keys : (number : ℕ) → field ≢ Key number → key_at then number ≡ key_at b number
  pub values : (number : ℕ) → field ≢ Value number → (slot_at then number).entry.content ≡ (slot_at b number).entry.content

-- whether the slot of this number is in the order that is read
abbrev pub is_shown : BorderView → ℕ → Bool
is_shown b number = list_any (nat_eq number) (order_shown b).live

-- THE COMMIT OF THIS NUMBER SHOWS A ROW: a slot that was not in the order is in it, and its row has the number
pub record SameButShown (commit : ℕ) (b then : BorderView) : Type 0 where
  pub slot : ℕ
  pub hidden : is_shown b slot ≡ false
  pub shows : is_shown then slot ≡ true
  pub layer : then.layer ≡ b.layer
  pub version : then.version ≡ b.version
  pub right : then.right ≡ b.right
  pub keys : (number : ℕ) → key_at then number ≡ key_at b number
  pub values : (number : ℕ) → number ≢ slot → (slot_at then number).entry.content ≡ (slot_at b number).entry.content
  pub stamped : (slot_at then slot).entry.content ≡ content_at_version commit (slot_at b slot).entry.content

-- AT MOST ONE FIELD CHANGES; a step that is a commit may show a row, with the number of the commit
abbrev pub ChangesOneField : Option ℕ → BorderView → BorderView → Type 0
ChangesOneField commit b then = ((field : Field) × SameBut field b then)
    ⊎ ((number : ℕ) × (commit ≡ Some number) × SameButShown number b then)
