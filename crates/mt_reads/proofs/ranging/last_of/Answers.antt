use Rattle.std.proofs.Common.{subst}
use Rattle.std.specs.Option.{option_copied}
use Rattle.mt_promise.specs.History.{History, moment, rows}
use Rattle.mt_index.specs.Stands.{Stands}
use Rattle.mt_reads.specs.Back.{GivesPrevious}
use Rattle.mt_reads.proofs.RangeBackLemmas.{last_lacks, last_found}
use Rattle.mt_reads.proofs.ranging.last_of.Goals as goal

pub returns-in_default : goal.returns-in_default
returns-in_default c =
    let walk = c.in_ok-walk.walk in
    last_lacks c.args.machine.now walk c.next.new.self c.in_ok-walk.ensures.machine c.in_ok-walk.ensures.before
    (subst (λ row. (h : History) → Stands walk.machine h → GivesPrevious (rows walk.machine.columns (moment h)) walk.before (option_copied row) c.next.new.self.before) c.in_default.is c.in_ok-_row.ensures.row)

pub returns-in-Ok : goal.returns-in-Ok
returns-in-Ok c =
    let walk = c.in_ok-walk.walk in
    last_found c.args.machine.now walk c.next.new.self c.in_ok-walk.ensures.machine c.in_ok-walk.ensures.before c.in-Some._row.now c.key.result.now c.in-Ok.key
    (subst (λ row. (h : History) → Stands walk.machine h → GivesPrevious (rows walk.machine.columns (moment h)) walk.before (option_copied row) c.next.new.self.before) c.in-Some.is c.in_ok-_row.ensures.row)
    c.key.ensures.key c.in-Ok.ensures.key
