-- What a mark says: of which chain it is, and the deltas with which the chain begins.
use Rattle.std.specs.Prelude.{◌≡◌, List, ◌++◌}
use Rattle.logbook.specs.Pages.{Book}
use Rattle.mt_types.specs.declared.row.Delta.{Delta}

-- the book of a chain: no other chain has it
abbrev pub Source : Type 0
Source = Book

pub record MarkView : Type 0 where
  pub source : Source
  pub list : List Delta  -- the deltas, the first first

-- the list begins with this one
abbrev pub StartsWith : List Delta → List Delta → Type 0
StartsWith list start = (rest : List Delta) × (list ≡ start ++ rest)
