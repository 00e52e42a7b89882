use Rattle.std.proofs.Common.{◌≡◌, ◌∙◌, ap, arith, length, get_or}
use Rattle.mt_types.proofs.PackedLemmas.{next_piece}
use Rattle.mt_types.proofs.columns.Columns.room_with.Goals as goal

pub split_first-requires-clause-some : goal.split_first-requires-clause-some
split_first-requires-clause-some c =
    let n : get_or c.as_packed-block.result.now 0 0 ≡ length c.args.self.now = ap (λ b. get_or b 0 0) c.as_packed-block.ensures in
    (next_piece c.args.self.now c.loop-number.number _ (omega arith) c.loop-number.invariant).0

pub split_first-requires-clause-fits : goal.split_first-requires-clause-fits
split_first-requires-clause-fits c =
    let n : get_or c.as_packed-block.result.now 0 0 ≡ length c.args.self.now = ap (λ b. get_or b 0 0) c.as_packed-block.ensures in
    (next_piece c.args.self.now c.loop-number.number _ (omega arith) c.loop-number.invariant).1

pub loop-number-preserved : goal.loop-number-preserved
loop-number-preserved c =
    let n : get_or c.as_packed-block.result.now 0 0 ≡ length c.args.self.now = ap (λ b. get_or b 0 0) c.as_packed-block.ensures in
    c.split_first.ensures.back ∙ (next_piece c.args.self.now c.loop-number.number _ (omega arith) c.loop-number.invariant).3
