use Rattle.std.proofs.Common.{◌≡◌, [], take}
use Rattle.mt_index.specs.Alone.{IsIdle}
use Rattle.mt_index.specs.Marks.{IsAhead}
use Rattle.mt_index.specs.Stands.{MachineView}
use Rattle.mt_index.specs.declared.marks.Mark.{Mark}
use Rattle.mt_batch.specs.Changes.{puts_of}
use Rattle.mt_batch.proofs.making.put_all.Given as goal

-- the puts so far are made
abbrev pub invariant-loop-change : goal.invariant-loop-change
invariant-loop-change l = record {
  idle : IsIdle l.machine;
  columns : l.machine.columns ≡ l.fn.machine.columns;
  ahead : (s : MachineView) (mark : Mark) → IsAhead s mark [] l.fn.machine → IsAhead s mark (puts_of (take l.change-index l.changes)) l.machine;
}
