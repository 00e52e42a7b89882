-- What a search finds among the live entries.
use Rattle.std.specs.Prelude.{ℕ, ◌==◌, nat_lt, nat_eq, if◌then◌else◌, List, [], ◌∷◌, drop}
use Rattle.std.specs.List.{prefix_len}
use Rattle.std.specs.Cmp.Lexicographic.{pointwise}
use Rattle.mt_slice.specs.declared.slice_class.Class.{Class}
use Rattle.mt_border.specs.Entry.{entry_rank, rank_at}
use Rattle.mt_border.specs.declared.entry.Content.{Content}
use Rattle.mt_border.specs.declared.entry.Content.TheVariants.{Short, Long, Link}
use Rattle.mt_border.specs.declared.entry.Entry.{Entry}
use Rattle.mt_border.specs.declared.found.Found.{Found}
use Rattle.mt_border.specs.declared.found.Found.TheVariants.{Absent, Row as RowFound, OtherSuffix, Link as LinkFound}

-- how many entries come before this slice and class
abbrev pub entries_before : ℕ → Class → List Entry → ℕ
entries_before slice class live = prefix_len (λ entry. nat_lt (entry_rank entry) (rank_at slice class)) live

-- what this content, at a place, is to a key with this suffix
abbrev pub found_content : List ℕ → ℕ → Content → Found
found_content suffix place (Short bytes row) = RowFound place
found_content suffix place (Long held row) = if pointwise nat_eq held suffix then RowFound place else OtherSuffix place
found_content suffix place (Link head) = LinkFound place head

-- what the first of these entries, which is at a place, is to a key of this slice, class and suffix
abbrev pub found_first : ℕ → Class → List ℕ → ℕ → List Entry → Found
found_first slice class suffix place [] = Absent place
found_first slice class suffix place (entry ∷ entries) =
    if entry_rank entry == rank_at slice class then found_content suffix place entry.content else Absent place

-- what a search finds: it looks at the first entry that does not come before
abbrev pub found_in : ℕ → Class → List ℕ → List Entry → Found
found_in slice class suffix live =
    let place = entries_before slice class live in found_first slice class suffix place (drop place live)
