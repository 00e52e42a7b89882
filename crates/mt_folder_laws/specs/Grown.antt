-- A sealed log to which commits were appended.
use Rattle.std.specs.Prelude.{◌≡◌, ℕ, true, List, [], ◌∷◌, take}
use Rattle.std.specs.List.{list_any}
use Rattle.std.specs.FinMap.{empty}
use Rattle.mt_types.specs.Rows.{after}
use Rattle.mt_types.specs.declared.row.Change.{Change}
use Rattle.mt_frame.specs.declared.entry.Entry.{Entry}
use Rattle.mt_frame.specs.declared.entry.Entry.TheVariants.{Header, Commits as Group, Rows as Listed, Sealed, Closed}
use Rattle.mt_frame.specs.declared.entry.LogHeader.{LogHeader}
use Rattle.mt_replay.specs.Redo.{is_seal, number_after}
use Rattle.mt_replay.specs.RedoLaws.{HaveCommits}
use Rattle.mt_folder.specs.Kept.{rows_after}

-- the entries have commits and nothing else
abbrev pub AreCommits : List Entry → Type 0
AreCommits [] = Unit {0}
AreCommits (Header header ∷ entries) = ⊥
AreCommits (Group commits ∷ entries) = AreCommits entries
AreCommits (Listed part ∷ entries) = ⊥
AreCommits (Sealed count ∷ entries) = ⊥
AreCommits (Closed number ∷ entries) = ⊥

-- THE FIRST ENTRIES HAVE ALL ROWS, and a seal; later ones have the commits that follow
pub record IsSealed (C : ℕ) (changes : List Change) (header : LogHeader) (first later : List Entry) : Type 0 where
  pub columns : header.columns ≡ C
  pub sealed : list_any is_seal first ≡ true
  pub rows : rows_after header first empty ≡ after C (take (number_after header.base first) changes)
  pub more : AreCommits later
  pub commits : HaveCommits C changes (number_after header.base first) later
