-- What the changes of a batch, made one after the other, come to.
use Rattle.std.specs.Prelude.{ℕ, ◌≡◌, List, ◌++◌, length, Result, Ok, Err, OnOk}
use Rattle.std.specs.List.{AllByRecursion}
use Rattle.mt_types.specs.Rows.{after}
use Rattle.mt_types.specs.declared.row.Change.{Change as RowChange}
use Rattle.mt_types.specs.declared.event.Reply.{Reply}
use Rattle.mt_types.specs.declared.refusal.Refusal.{Refusal}
use Rattle.mt_promise.specs.History.{History, moment}
use Rattle.mt_undo.specs.Removing.{Taken, drops}
use Rattle.mt_undo.specs.Undoing.{IsPut}
use Rattle.mt_index.specs.Marks.{IsAhead}
use Rattle.mt_index.specs.Stands.{MachineView, Stands}
use Rattle.mt_index.specs.declared.marks.Mark.{Mark}
use Rattle.mt_batch.specs.declared.batch.Change.{Change}
use Rattle.mt_batch.specs.Changes.{numbers_from, puts_of, taken_of}

-- whether a call was refused, and for what
abbrev pub without_reply : Result Reply Refusal → Result (Unit {0}) Refusal
without_reply (Ok reply) = Ok tt
without_reply (Err refusal) = Err refusal

-- some puts are made since a mark
pub record HasGone (s : MachineView) (mark : Mark) (t : MachineView) : Type 0 where
  pub made : List RowChange
  pub puts : AllByRecursion IsPut made
  pub ahead : IsAhead s mark made t

-- and all, unless one is refused
pub record PutsAll (s : MachineView) (mark : Mark) (changes : List Change) (result : Result (Unit {0}) Refusal)
    (t : MachineView) : Type 0 where
  pub gone : HasGone s mark t
  pub all : OnOk result (gone.made ≡ puts_of changes)

-- all changes are made since a mark, of which the first put made the commit after `from`
pub record MakesAll (s : MachineView) (mark : Mark) (changes : List Change) (from : ℕ) (numbers : List ℕ)
    (t : MachineView) : Type 0 where
  pub taken : List Taken
  pub ahead : IsAhead s mark (puts_of changes ++ drops taken) t
  pub are : (h : History) → Stands s h
      → taken ≡ taken_of (after s.columns ((moment h).commits ++ puts_of changes)) changes
  pub numbered : (h : History) → Stands s h
      → numbers ≡ numbers_from (after s.columns ((moment h).commits ++ puts_of changes)) from
      (length ((moment h).commits ++ puts_of changes)) changes
