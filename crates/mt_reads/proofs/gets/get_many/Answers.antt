use Rattle.std.proofs.Common.{ℕ, ◌≡◌, ◌∙◌, List, ap, rules}
use Rattle.std.specs.Prelude.{None}
use Rattle.mt_promise.specs.History.{moment, rows}
use Rattle.mt_reads.specs.Counts.{gets_fault, rows_of}
use Rattle.mt_reads.proofs.LimitedReads.{found_limited}
use Rattle.mt_reads.proofs.gets.get_many.Goals as goal

pub returns-clause-limited : goal.returns-clause-limited
returns-clause-limited c =
    let within : gets_fault c.args.machine.now.columns c.args.keys.now c.args.columns.now ≡ None = search rules in
    found_limited c.args.machine.now c.is_idle-stands.ensures.stands c.args.columns.now c.args.keys.now c.from_vec.result within
    (λ h stands. c.from_vec.ensures ∙ c.in_ok-read_each.ensures h stands ∙ ap (λ (asked : List ℕ). rows_of (rows c.args.machine.now.columns (moment h)) asked c.args.keys.now) c.in_ok-columns.ensures)
