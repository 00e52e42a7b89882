-- The parts of a checkpoint that is in progress: what they list, as it counts when the checkpoint is sealed.
use Rattle.std.specs.Prelude.{◌⊎◌, ℕ, Bool, true, false, if◌then◌else◌, List, [], ◌∷◌, Option, Some, None, IsTrue}
use Rattle.std.specs.Ordering.{is_le}
use Rattle.mt_types.specs.Keys.{key_cmp}
use Rattle.mt_types.specs.declared.row.Change.{Change}
use Rattle.mt_frame.specs.declared.entry.Entry.{Entry}
use Rattle.mt_frame.specs.declared.entry.Entry.TheVariants.{Header, Commits as Group, Rows as Listed, Sealed, Closed}
use Rattle.mt_replay.specs.Redo.{number_after}
use Rattle.mt_replay.specs.RedoLaws.{HadBetween, AllListRows, SomeNames}

-- a seal that follows these entries comes before the log was closed
abbrev pub seals_later : List Entry → Bool
seals_later [] = true
seals_later (Header header ∷ entries) = seals_later entries
seals_later (Group commits ∷ entries) = seals_later entries
seals_later (Listed part ∷ entries) = seals_later entries
seals_later (Sealed count ∷ entries) = true
seals_later (Closed number ∷ entries) = false

-- the entries that count if a seal follows them: all but the parts after which the log was closed
abbrev pub counted_later : List Entry → List Entry
counted_later [] = []
counted_later (Header header ∷ entries) = Header header ∷ counted_later entries
counted_later (Group commits ∷ entries) = Group commits ∷ counted_later entries
counted_later (Listed part ∷ entries) = if seals_later entries then Listed part ∷ counted_later entries else counted_later entries
counted_later (Sealed count ∷ entries) = Sealed count ∷ counted_later entries
counted_later (Closed number ∷ entries) = Closed number ∷ counted_later entries

-- THE ROWS OF THESE KEYS WERE COPIED: each row that a part lists was its key's since, and a key that no part or commit names
-- had none at some time since the log's begin
pub record AreCopied (C : ℕ) (changes : List Change) (base : ℕ) (entries : List Entry) (Covers : List ℕ → Type 0) : Type 0 where
  pub listed : AllListRows C changes base (number_after base entries) (counted_later entries)
  pub others : (key : List ℕ) → Covers key → SomeNames (counted_later entries) key
      ⊎ HadBetween C changes base (number_after base entries) key None

-- the keys whose rows were copied: those up to the last one, or all
abbrev pub Covers : Option (List ℕ) → Bool → List ℕ → Type 0
Covers last true key = Unit {0}
Covers None false key = ⊥
Covers (Some last) false key = IsTrue (is_le (key_cmp key last))
