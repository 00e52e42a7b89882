-- What a change of a store came to.
use Rattle.std.specs.Prelude.{ℕ, ◌≡◌, List, [], Option, Some, None, Result, Ok, Err}
use Rattle.mt_types.specs.declared.row.Change.{Change}
use Rattle.mt_types.specs.declared.refusal.Refusal.{Refusal}
use Rattle.mt_map.specs.Tidies.{MapView}
use Rattle.mt_store.specs.declared.error.StoreError.{StoreError}
use Rattle.mt_store.specs.declared.error.StoreError.TheVariants.{Refused, Behind, NotWritten}

-- IN MEMORY it was made, or refused, as the map's own method says; or nothing happened, since the log lacks a commit.
-- `made` is what the method answers for a commit.
abbrev pub Changes : {A : Type 0} → (Result A Refusal → MapView → Type 0) → (ℕ → A) → MapView → Result A StoreError → MapView → Type 0
Changes came made s (Ok found) t = came (Ok found) t
Changes came made s (Err (Refused refusal)) t = came (Err refusal) t
Changes came made s (Err (NotWritten commit error)) t = came (Ok (made commit)) t
Changes came made s (Err Behind) t = t ≡ s
Changes came made s (Err _) t = ⊥

-- the commits that a call has made, of which this is the change: none if it was refused
abbrev pub made_of : {A : Type 0} → List Change → Result A StoreError → List Change
made_of change (Ok found) = change
made_of change (Err (NotWritten commit error)) = change
made_of change (Err _) = []

-- the same of a remove, which makes none if there is no row
abbrev pub removed_of : List Change → Result (Option ℕ) StoreError → List Change
removed_of change (Ok None) = []
removed_of change (Ok (Some commit)) = change
removed_of change (Err (NotWritten commit error)) = change
removed_of change (Err _) = []

-- nothing is left to be written
abbrev pub IsWritten : {A : Type 0} → Result A StoreError → Type 0 → Type 0
IsWritten (Ok found) P = P
IsWritten (Err (Refused refusal)) P = P
IsWritten (Err _) P = Unit {0}

-- the commit is returned, or it is not in the log
abbrev pub IsLogged : ℕ → Result ℕ StoreError → Type 0
IsLogged commit (Ok number) = number ≡ commit
IsLogged commit (Err (NotWritten number error)) = number ≡ commit
IsLogged commit (Err _) = ⊥
