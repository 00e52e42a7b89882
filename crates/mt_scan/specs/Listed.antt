-- What a scan visits, as contracts see it.
use Rattle.std.specs.Prelude.{List, Option}
use Rattle.std.specs.Option.{option_map}
use Rattle.mt_border.specs.declared.entry.Entry.{Entry}
use Rattle.mt_border.specs.declared.entry.RightLink.{RightLink}
use Rattle.mt_chart.specs.Tree.{PlainEntry, Right}
use Rattle.mt_tree.specs.Seen.{entries_seen, right_seen}

-- entries of one layer, in their order, and what is to the right of them
pub record ListView : Type 0 where
  pub entries : List Entry
  pub right : Option RightLink

abbrev pub list_of : List Entry → Option RightLink → ListView
list_of entries right = record { entries = entries; right = right }

-- the entries and the right link, as the theory of the tree sees them
abbrev pub list_entries : ListView → List PlainEntry
list_entries list = entries_seen list.entries

abbrev pub list_right : ListView → Option Right
list_right list = option_map right_seen list.right
