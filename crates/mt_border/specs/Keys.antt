-- The keys of slots, as calls read them.
use Rattle.std.specs.Prelude.{ℕ, ◌≡◌, ◌≤◌, ◌<◌, ◌^◌, List, [], length, Option, Some, None, unwrap_or}
use Rattle.std.specs.Option.{option_copied}
use Rattle.mt_slice.specs.Place.{AreBytes}
use Rattle.mt_slice.specs.declared.slice_class.Class.{Class}
use Rattle.mt_slice.specs.declared.slice_class.Class.TheVariants.{Len, Long as LongClass}
use Rattle.mt_border.specs.Entry.{entry_class, entry_suffix}
use Rattle.mt_border.specs.declared.entry.Content.{Content}
use Rattle.mt_border.specs.declared.entry.Content.TheVariants.{Short, Long, Link}
use Rattle.mt_border.specs.declared.entry.Entry.{Entry}
use Rattle.mt_border.specs.declared.field.Mark.{Mark}
use Rattle.mt_border.specs.declared.field.Mark.TheVariants.{Plain, Unstable, Layer}
use Rattle.mt_border.specs.declared.field.KeyPart.{KeyPart}
use Rattle.mt_border.specs.declared.unwritten.KeyRest.{KeyRest}
use Rattle.mt_border.specs.declared.unwritten.KeyRest.TheVariants.{Ends, Continues}
use Rattle.mt_border.specs.declared.unwritten.SlotKey.{SlotKey}

-- a slot's key: its slice and class, the bytes after the slice if it is a longer row's, and whether it is a row's or
-- leads to the layer below
pub record KeyView : Type 0 where
  pub slice : ℕ
  pub class : Class
  pub suffix : Option (List ℕ)
  pub mark : Mark

-- a link's key is marked as a layer's, and a row's is plain
abbrev pub content_mark : Content → Mark
content_mark (Short bytes row) = Plain
content_mark (Long suffix row) = Plain
content_mark (Link head) = Layer

-- the key of an entry
abbrev pub entry_key : Entry → KeyView
entry_key entry = record {
  slice = entry.slice;
  class = entry_class entry;
  suffix = entry_suffix entry;
  mark = content_mark entry.content;
}

-- the class of a row's key, and the bytes after its slice
abbrev pub key_class : KeyRest → Class
key_class (Ends bytes) = Len bytes
key_class (Continues suffix) = LongClass

abbrev pub key_suffix : KeyRest → Option (List ℕ)
key_suffix (Ends bytes) = None
key_suffix (Continues suffix) = Some suffix

abbrev pub key_seen : SlotKey → KeyView
key_seen key = record { slice = key.slice; class = key_class key.rest; suffix = key_suffix key.rest; mark = Plain }

-- the key, marked as one of which a layer is being made
abbrev pub unstable : KeyView → KeyView
unstable key = record key { mark = Unstable }

-- the same of a longer key, by its slice and what follows that
abbrev pub unstable_with : ℕ → List ℕ → KeyView
unstable_with slice suffix = record { slice = slice; class = LongClass; suffix = Some suffix; mark = Unstable }

-- a length is at most 8; the bytes after a slice are some, and bytes; a layer's key has none of its own
abbrev pub IsRest : Class → Option (List ℕ) → Mark → Type 0
IsRest (Len bytes) None Plain = bytes ≤ 8
IsRest LongClass (Some suffix) Plain = (0 < length suffix) × AreBytes suffix
IsRest LongClass (Some suffix) Unstable = (0 < length suffix) × AreBytes suffix
IsRest LongClass None Layer = Unit {0}
IsRest _ _ _ = ⊥

pub record IsKey (key : KeyView) : Type 0 where
  pub slice_fits : key.slice < 2 ^ 64
  pub rest : IsRest key.class key.suffix key.mark

-- this is the key, as it is lent
pub record IsKeyPart (key : KeyView) (part : KeyPart) : Type 0 where
  pub slice : part.slice ≡ key.slice
  pub class : part.class ≡ key.class
  pub suffix : option_copied part.suffix ≡ key.suffix
  pub mark : part.mark ≡ key.mark
  pub whole : IsKey key

-- the bytes after the slice of a key that is lent
abbrev pub part_bytes : KeyPart → List ℕ
part_bytes part = unwrap_or (option_copied part.suffix) []
