use Rattle.std.specs.Option.{option_copied}
use Rattle.std.proofs.Common.{subst}
use Rattle.mt_promise.specs.History.{History, moment, rows}
use Rattle.mt_index.specs.Stands.{Stands}
use Rattle.mt_reads.specs.Walks.{GivesNext}
use Rattle.mt_reads.proofs.WalkLemmas.{first_lacks, first_found}
use Rattle.mt_reads.proofs.rows.first_of.Goals as goal

pub returns-in_default : goal.returns-in_default
returns-in_default c =
    let walk = c.in_ok-walk.walk in
    first_lacks c.args.machine.now walk.machine walk.at c.next.new.self.at c.least_key.result c.in_ok-walk.ensures.machine c.in_ok-walk.ensures.start c.least_key.ensures
    (subst (λ row. (h : History) → Stands walk.machine h → GivesNext (rows walk.machine.columns (moment h)) walk.at (option_copied row) c.next.new.self.at) c.in_default.is c.in_ok-_row.ensures.row)

pub returns : goal.returns
returns c =
    let walk = c.in_ok-walk.walk in
    first_found c.args.machine.now walk.machine walk.at c.next.new.self.at c.least_key.result c.in-Some._row.now c.in_ok-key.key c.in_ok-walk.ensures.machine c.in_ok-walk.ensures.start c.least_key.ensures
    (subst (λ row. (h : History) → Stands walk.machine h → GivesNext (rows walk.machine.columns (moment h)) walk.at (option_copied row) c.next.new.self.at) c.in-Some.is c.in_ok-_row.ensures.row) c.in_ok-key.ensures
