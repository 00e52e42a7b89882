-- The fields of a border as the theory of one field at a time sees them.
use Rattle.std.specs.Prelude.{ℕ, ◌≡◌, Option}
use Rattle.mt_border.specs.Border.{BorderView}
use Rattle.mt_border.specs.Order.{AreInSlots}
use Rattle.mt_border.specs.Slots.{slot_at, is_live, held_at}
use Rattle.mt_border.specs.declared.entry.Content.{Content}
use Rattle.mt_border.specs.declared.entry.Content.TheVariants.{Short, Long, Link}
use Rattle.mt_border.specs.declared.entry.Entry.{Entry}
use Rattle.mt_chart.specs.Noted.{Mark, plain, layer, SlotSeen, FieldsSeen, Ages}
use Rattle.mt_tree.specs.Seen.{entry_seen, border_seen}
use Rattle.mt_tree.specs.OneField.{ChangesOneField}

-- the mark of the key of what a slot holds: a link's is that of a layer
abbrev pub content_mark : Content → Mark
content_mark (Short bytes row) = plain
content_mark (Long suffix row) = plain
content_mark (Link head) = layer

-- what a slot with this entry holds
abbrev pub slot_seen : Entry → SlotSeen
slot_seen entry = record { entry = entry_seen entry; mark = content_mark entry.content }

-- a border with its flags, its counters and its slots by number
abbrev pub fields_seen : BorderView → FieldsSeen
fields_seen b =
    record {
      node = border_seen b;
      inserting = b.version.inserting;
      splitting = b.version.splitting;
      vinsert = b.version.vinsert;
      vsplit = b.version.vsplit;
      slot = λ number. slot_seen (slot_at b number).entry;
      lives = λ number. is_live b number;
      held = λ number. held_at b number;
    }

-- what is live and unused is what its slots hold, in its order
abbrev pub HasSlots : BorderView → Type 0
HasSlots b = AreInSlots b.live b.unused b.slots b.order

-- a border ages in a step: its low stays, its fields age, and its slots still hold what is live and unused
pub record BorderAges (b then : BorderView) : Type 0 where
  pub low : then.low ≡ b.low
  pub fields : Ages (fields_seen b) (fields_seen then)
  pub slots : HasSlots b → HasSlots then

-- a border changes in a step, which may be the commit of this number: it ages, and one field changes at most
pub record BorderChanges (commit : Option ℕ) (b then : BorderView) : Type 0 where
  pub ages : BorderAges b then
  pub one : ChangesOneField commit b then
