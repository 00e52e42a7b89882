-- Why the commits of a log can't be made again.
use Rattle.std.specs.Prelude.{◌≡◌, ◌⊎◌, ◌+◌, ◌^◌, ◌<◌, ℕ, List, ◌∷◌, ◌++◌, length, map, None, Err}
use Rattle.std.specs.FinMap.{get}
use Rattle.mt_types.specs.Rows.{after}
use Rattle.mt_types.specs.declared.event.Request.{Request}
use Rattle.mt_types.specs.declared.event.Request.TheVariants.{Put, Remove}
use Rattle.mt_types.specs.declared.refusal.Refusal.{Refusal}
use Rattle.mt_types.specs.declared.refusal.Refusal.TheVariants.{NoMemory}
use Rattle.mt_promise.specs.History.{History, moment, rows}
use Rattle.mt_index.specs.Stands.{MachineView, Stands}
use Rattle.mt_map.specs.Calls.{CameTo}
use Rattle.mt_frame.specs.declared.entry.Entry.{Entry}
use Rattle.mt_frame.specs.declared.entry.LogHeader.{LogHeader}
use Rattle.mt_frame.specs.declared.entry.Record.{Record}
use Rattle.mt_frame.specs.declared.entry.Record.TheVariants.{Row as RowOf, Removed}
use Rattle.mt_journal.specs.Log.{IsLog}
use Rattle.mt_replay.specs.Replay.{change_again, numbered, records_in}
use Rattle.mt_store.specs.Extending.{Adds}
use Rattle.mt_store.specs.Stored.{HasMade}
use Rattle.mt_store.specs.declared.error.StoreError.{StoreError}
use Rattle.mt_store.specs.declared.error.StoreError.TheVariants.{Refused, Damaged}

-- the request by which a record's commit is made again
abbrev pub request_again : Record → Request
request_again (RowOf key columns) = Put key (numbered 0 columns)
request_again (Removed key) = Remove key

-- ---- as the calls do it
-- the record is a remove of a key that has no row, and this would be the number of its commit
pub record IsNoRemove (s : MachineView) (next : Record) (commit : ℕ) : Type 0 where
  pub key : List ℕ
  pub removes : next ≡ Removed key
  pub none : (h : History) → Stands s h → get (rows s.columns (moment h)) key ≡ None
  pub number : (h : History) → Stands s h
      → length (moment h).commits + 1 < 2 ^ 64 → commit ≡ length (moment h).commits + 1

-- the record's commit can't be made again, for this error
abbrev pub NextFails : StoreError → MachineView → Record → Type 0
NextFails (Refused refusal) s next =
    (refusal ≡ NoMemory) ⊎ ((t : MachineView) × CameTo s (request_again next) (Err refusal) t)
NextFails (Damaged commit) s next = IsNoRemove s next commit
NextFails _ s next = ⊥

-- THE COMMITS OF RECORDS are made again from this machine on, up to one that can't be, for this error
pub record EndsAt (s : MachineView) (records : List Record) (error : StoreError) : Type 0 where
  pub made : List Record
  pub next : Record
  pub rest : List Record
  pub parts : records ≡ made ++ next ∷ rest
  pub at : MachineView
  pub adds : Adds s (map change_again made) at
  pub fails : NextFails error at next

-- ---- as a store is opened
-- the records have, at the commit of this number, a remove of a key that has no row then
pub record LacksRow (C : ℕ) (records : List Record) (commit : ℕ) : Type 0 where
  pub made : List Record
  pub key : List ℕ
  pub rest : List Record
  pub parts : records ≡ made ++ Removed key ∷ rest
  pub number : commit ≡ length made + 1
  pub none : get (after C (map change_again made)) key ≡ None

-- an index that has made the commits of the first of the records again refuses the next
pub record RefusesNext (C : ℕ) (records : List Record) (refusal : Refusal) : Type 0 where
  pub made : List Record
  pub next : Record
  pub rest : List Record
  pub parts : records ≡ made ++ next ∷ rest
  pub s : MachineView
  pub columns : s.columns ≡ C
  pub has_made : HasMade (map change_again made) s
  pub then : MachineView
  pub refuses : CameTo s (request_again next) (Err refusal) then

-- the bytes are a log of an index of C columns whose records are so
pub record IsLogSo (C : ℕ) (bytes : List ℕ) (are : List Record → Type 0) : Type 0 where
  pub header : LogHeader
  pub columns : header.columns ≡ C
  pub entries : List Entry
  pub log : IsLog header entries bytes
  pub so : are (records_in entries)

-- THE COMMITS OF A LOG CAN'T BE MADE AGAIN, for this error: there is no memory, or the map refuses one, or one is a remove
-- of a key that has no row then
abbrev pub CannotRemake : ℕ → List ℕ → StoreError → Type 0
CannotRemake C bytes (Refused refusal) =
    (refusal ≡ NoMemory) ⊎ IsLogSo C bytes (λ records. RefusesNext C records refusal)
CannotRemake C bytes (Damaged commit) = IsLogSo C bytes (λ records. LacksRow C records commit)
CannotRemake C bytes _ = ⊥
