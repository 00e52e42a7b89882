use Rattle.std.proofs.Common.{List, ℕ, subst}
use Rattle.std.specs.Prelude.{IfOk, Option}
use Rattle.std.specs.Borrow.{Bor}
use Rattle.std.specs.Option.{option_copied}
use Rattle.mt_promise.specs.History.{History, moment, rows}
use Rattle.mt_index.specs.Stands.{MachineView, Stands}
use Rattle.mt_reads.specs.Back.{GivesPrevious, bound_of}
use Rattle.mt_reads.proofs.reading.Reading.next.Goals as goal

pub returns-clause-row : goal.returns-clause-row
returns-clause-row c =
    let old = c.args.self.now in
    let new = bound_of c.pop.new.self.is_bounded c.pop.new.self.key.items in
    subst (λ (m : Bor MachineView). IfOk c.pop.result (λ row. (h : History) → Stands m.now h → GivesPrevious (rows m.now.columns (moment h)) (bound_of old.is_bounded old.key.items) (option_copied row) new)) c.loop-self.invariant.machine
    (subst (λ (b : Option (List ℕ)). IfOk c.pop.result (λ row. (h : History) → Stands c.loop-self.self.machine.now h → GivesPrevious (rows c.loop-self.self.machine.now.columns (moment h)) b (option_copied row) new)) c.loop-self.invariant.bound c.pop.ensures.row)
