-- Calls that only add commits.
use Rattle.std.specs.Prelude.{◌≡◌, List, ◌++◌}
use Rattle.mt_types.specs.declared.row.Change.{Change}
use Rattle.mt_promise.specs.History.{History, moment}
use Rattle.mt_index.specs.Stands.{MachineView, Stands}

-- WHATEVER HISTORY THE MACHINE WAS AT, it is then at one with these commits more
abbrev pub Adds : MachineView → List Change → MachineView → Type 0
Adds s made t =
    (t.columns ≡ s.columns)
    × ((h : History) → Stands s h → (g : History) × Stands t g × ((moment g).commits ≡ (moment h).commits ++ made))
