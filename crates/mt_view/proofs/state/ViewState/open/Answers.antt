use Rattle.std.proofs.Common.{ap, ◌∙◌}
use Rattle.std.specs.FinMap as map
use Rattle.mt_types.proofs.MapLemmas.{seen-empty}
use Rattle.mt_view.proofs.MapLemmas.{entries-empty}
use Rattle.mt_view.proofs.state.ViewState.open.Goals as goal

pub returns-clause-ok : goal.returns-clause-ok
returns-clause-ok c =
    let rows = seen-empty c.new.result c.new.ensures.ordered c.new.ensures.len in
    let columns = c.in_ok-vec.ensures.len in
    let spec = c.in_ok-detached.ensures in
    λ t. record { spec = spec t; columns = columns t; at = 0; rows = rows t }

pub returns-clause-afresh : goal.returns-clause-afresh
returns-clause-afresh c =
    let rows = seen-empty c.new.result c.new.ensures.ordered c.new.ensures.len in
    ap map.entries rows ∙ rw entries-empty
