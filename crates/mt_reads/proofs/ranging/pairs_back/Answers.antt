use Rattle.std.proofs.Common.{ℕ, ◌≡◌, List, rules, subst}
use Rattle.std.specs.Prelude.{None}
use Rattle.std.specs.Option.{option_copied}
use Rattle.mt_promise.specs.History.{History, moment, rows}
use Rattle.mt_index.specs.Stands.{Stands}
use Rattle.mt_reads.specs.Ranges.{IsRangeBack, back_fault}
use Rattle.mt_reads.proofs.LimitedReads.{back_limited}
use Rattle.mt_reads.proofs.ranging.pairs_back.Goals as goal

pub returns-in-Ok-clause-limited : goal.returns-in-Ok-clause-limited
returns-in-Ok-clause-limited c =
    let within : back_fault c.args.machine.now.columns (option_copied c.args.before) c.args.limit c.args.columns.now ≡ None = search rules in
    back_limited c.args.machine.now c.is_idle-stands.ensures.stands c.args.columns.now (option_copied c.args.before) c.args.limit c.in-Ok.pairs within
    (subst (λ (asked : List ℕ). (h : History) → Stands c.args.machine.now h → IsRangeBack (rows c.args.machine.now.columns (moment h)) asked (option_copied c.args.before) c.args.limit c.in-Ok.pairs) c.in_ok-columns.ensures c.in-Ok.ensures.pairs)
    c.in-Ok.ensures.short
