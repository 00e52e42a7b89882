-- Entries: their places in their layer, and what they hold.
use Rattle.std.specs.Prelude.{ℕ, ◌≤◌, ◌<◌, ◌+◌, ◌*◌, ◌^◌, List, length, drop, [], Option, Some, None}
use Rattle.mt_types.specs.declared.row.Row.{Row}
use Rattle.mt_types.specs.declared.numbers.NodeNo.{NodeNo}
use Rattle.mt_slice.specs.Place.{AreBytes, slice_number}
use Rattle.mt_slice.specs.Classes.{class_number, class_of}
use Rattle.mt_slice.specs.declared.slice_class.Class.{Class}
use Rattle.mt_slice.specs.declared.slice_class.Class.TheVariants.{Len, Long as LongClass}
use Rattle.mt_border.specs.declared.entry.Content.{Content}
use Rattle.mt_border.specs.declared.entry.Content.TheVariants.{Short, Long, Link}
use Rattle.mt_border.specs.declared.entry.Entry.{Entry}
use Rattle.mt_border.specs.declared.unwritten.KeyRest.{KeyRest}
use Rattle.mt_border.specs.declared.unwritten.KeyRest.TheVariants.{Ends, Continues}
use Rattle.mt_border.specs.declared.unwritten.SlotKey.{SlotKey}

-- the class of what is at a slice
abbrev pub content_class : Content → Class
content_class (Short bytes row) = Len bytes
content_class (Long suffix row) = LongClass
content_class (Link head) = LongClass

abbrev pub entry_class : Entry → Class
entry_class entry = content_class entry.content

-- the number by which the entries of a layer are ordered: slices come first, then the ten classes of a slice
abbrev pub rank_at : ℕ → Class → ℕ
rank_at slice class = slice * 10 + class_number class

abbrev pub entry_rank : Entry → ℕ
entry_rank entry = rank_at entry.slice (entry_class entry)

-- a length is at most 8, and a suffix is of bytes and not empty
abbrev pub IsContent : Content → Type 0
IsContent (Short bytes row) = bytes ≤ 8
IsContent (Long suffix row) = (0 < length suffix) × AreBytes suffix
IsContent (Link head) = Unit {0}

-- a slice is of 64 bits
pub record IsEntry (entry : Entry) : Type 0 where
  pub slice_fits : entry.slice < 2 ^ 64
  pub content : IsContent entry.content

-- what a row's key and its row are together
abbrev pub content_with : KeyRest → Row → Content
content_with (Ends bytes) row = Short bytes row
content_with (Continues suffix) row = Long suffix row

abbrev pub entry_with : SlotKey → Row → Entry
entry_with key row = record { slice = key.slice; content = content_with key.rest row }

-- the key with this rest in the layer
abbrev pub rest_after : Class → List ℕ → KeyRest
rest_after (Len bytes) suffix = Ends bytes
rest_after LongClass suffix = Continues suffix

abbrev pub key_of_rest : List ℕ → SlotKey
key_of_rest rest = record { slice = slice_number rest; rest = rest_after (class_of (length rest)) (drop 8 rest) }

-- the row of a key whose rest in the layer has this class, and this after its slice
abbrev pub content_of : Class → List ℕ → Row → Content
content_of class suffix row = content_with (rest_after class suffix) row

-- the entry of a key with this rest in the layer
abbrev pub entry_of_row : List ℕ → Row → Entry
entry_of_row rest row = entry_with (key_of_rest rest) row

-- the row, if there is one
abbrev pub content_row : Content → Option Row
content_row (Short bytes row) = Some row
content_row (Long suffix row) = Some row
content_row (Link head) = None

-- the suffix, if there is one
abbrev pub content_suffix : Content → Option (List ℕ)
content_suffix (Short bytes row) = None
content_suffix (Long suffix row) = Some suffix
content_suffix (Link head) = None

abbrev pub entry_row : Entry → Option Row
entry_row entry = content_row entry.content

abbrev pub entry_suffix : Entry → Option (List ℕ)
entry_suffix entry = content_suffix entry.content

-- the content with another row instead of its own
abbrev pub content_with_row : Row → Content → Content
content_with_row row (Short bytes old) = Short bytes row
content_with_row row (Long suffix old) = Long suffix row
content_with_row row (Link head) = Link head

-- the content, whose row was made by the commit of this number
abbrev pub content_at_version : ℕ → Content → Content
content_at_version version (Short bytes row) = Short bytes (record row { version = version })
content_at_version version (Long suffix row) = Long suffix (record row { version = version })
content_at_version version (Link head) = Link head

-- the row of no commit, without columns
abbrev pub no_row : Row
no_row = record { version = 0; columns = [] }

abbrev pub with_row : Row → Entry → Entry
with_row row entry = record entry { content = content_with_row row entry.content }

abbrev pub at_version : ℕ → Entry → Entry
at_version version entry = record entry { content = content_at_version version entry.content }

abbrev pub with_link : NodeNo → Entry → Entry
with_link head entry = record entry { content = Link head }
