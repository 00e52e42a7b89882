use Rattle.std.proofs.Common.{List, ℕ, subst}
use Rattle.std.specs.Prelude.{IfOk}
use Rattle.mt_promise.specs.Alone.{IsRangeOfMap}
use Rattle.mt_promise.specs.History.{History, moment, rows}
use Rattle.mt_index.specs.Stands.{Stands}
use Rattle.mt_map.proofs.map.pairs_of.Goals as goal

pub returns-clause-pairs : goal.returns-clause-pairs
returns-clause-pairs c =
    let s = c.args.machine.now in
    subst (λ (start : List ℕ). IfOk c.range.result (λ pairs. (h : History) → Stands s h → IsRangeOfMap (rows s.columns (moment h)) c.args.columns.now start c.args.limit pairs)) c.in_ok-start.ensures.key
    (subst (λ (columns : List ℕ). IfOk c.range.result (λ pairs. (h : History) → Stands s h → IsRangeOfMap (rows s.columns (moment h)) columns c.in_ok-start.start c.args.limit pairs)) c.in_ok-columns.ensures c.range.ensures.pairs)
