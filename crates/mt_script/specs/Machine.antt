-- How the machine keeps the history of a script.
use Rattle.std.specs.Prelude.{◌≡◌}
use Rattle.mt_promise.specs.History.{History}
use Rattle.mt_index.specs.Stands.{MachineView, Stands}

-- the machine is at this history, with which its log began
abbrev pub IsAt : MachineView → History → Type 0
IsAt s h = Stands s h × (s.log.base ≡ 0)

-- at whatever history the machine was, it is now at one that continues that history in this way
abbrev pub Leads : MachineView → (History → History → Type 0) → MachineView → Type 0
Leads s On t = (past : History) → IsAt s past → (h : History) × On past h × IsAt t h

-- the machine still has the same number of columns, and keeps the same number of commits for no reader
abbrev pub IsAsBefore : MachineView → MachineView → Type 0
IsAsBefore s t = (t.columns ≡ s.columns) × (t.log.retention ≡ s.log.retention)
