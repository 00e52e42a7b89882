use Rattle.mt_view.proofs.PairLemmas.{sorted_pairs_are_rows}
use Rattle.mt_view.proofs.laws.sorted_pairs_are_rows.Goals as goal

pub returns : goal.returns
returns c = sorted_pairs_are_rows
