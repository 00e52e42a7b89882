use Rattle.std.proofs.Common.{◌≡◌, ◌++◌, drop}
use Rattle.mt_commit.specs.Log.{newest}
use Rattle.mt_promise.specs.History.{History, moment, rows}
use Rattle.mt_index.specs.Stands.{Stands}
use Rattle.mt_batch.specs.Changes.{numbers_from, taken_of}
use Rattle.mt_batch.proofs.planning.prepare.Given as goal

-- what is prepared, and what is left to prepare, is all
abbrev pub invariant-loop-change : goal.invariant-loop-change
invariant-loop-change l = record {
  taken : (h : History) → Stands l.machine h
      → l.plan.taken.items ++ taken_of (rows l.machine.columns (moment h)) (drop l.change-index l.changes) ≡ taken_of (rows l.machine.columns (moment h)) l.changes;
  numbers : (h : History) → Stands l.machine h
      → l.plan.numbers.items ++ numbers_from (rows l.machine.columns (moment h)) l.plan.put l.plan.last (drop l.change-index l.changes)
      ≡ numbers_from (rows l.machine.columns (moment h)) l.from (newest l.machine.log) l.changes;
}
