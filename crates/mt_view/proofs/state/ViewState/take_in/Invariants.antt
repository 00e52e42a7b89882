use Rattle.std.proofs.Common.{◌≡◌, take}
use Rattle.mt_types.specs.Rows.{Rows}
use Rattle.mt_view.specs.State.{IsAfresh, with_pairs}
use Rattle.mt_view.proofs.state.ViewState.take_in.Given as goal

abbrev pub invariant-loop-key : goal.invariant-loop-key
invariant-loop-key l = record {
  kept : l.self ≡ record l.initial.self { rows = l.self.rows };
  afresh : (rows : Rows) → IsAfresh l.initial.self rows → IsAfresh l.self (with_pairs (take l.key-index l.pairs) rows);
}
