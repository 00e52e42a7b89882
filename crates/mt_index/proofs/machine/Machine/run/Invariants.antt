use Rattle.std.proofs.Common.{◌≡◌, [], take}
use Rattle.mt_promise.specs.History.{History, GoesOn}
use Rattle.mt_types.specs.Limits.{open_fault}
use Rattle.mt_index.specs.Stands.{MachineView, Stands, HasBounds}
use Rattle.mt_index.specs.Events.{IsOpened, AllHappen}
use Rattle.std.proofs.Common.{None}
use Rattle.mt_index.proofs.machine.Machine.run.Given as goal

-- the events so far led from nothing to where the machine stands
abbrev pub invariant-loop-event : goal.invariant-loop-event
invariant-loop-event l = record {
  told : (h : History) × GoesOn [] (take l.event-index l.events) l.outcomes.items h × Stands l.machine h;
  happen : (opened : MachineView) × IsOpened l.fn.options opened × AllHappen opened (take l.event-index l.events) l.outcomes.items l.machine;
  columns : l.machine.columns ≡ l.fn.options.columns;
  bounds : HasBounds l.fn.options.log_capacity l.fn.options.log_retention l.machine.log;
  opened : open_fault l.fn.options.columns l.fn.options.log_capacity l.fn.options.log_retention ≡ None;
}
