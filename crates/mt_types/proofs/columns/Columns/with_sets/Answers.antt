use Rattle.std.proofs.Common.{◌≡◌, ◌∙◌, ap, arith, length, get_or, drop}
use Rattle.mt_types.specs.Rows.{new_columns}
use Rattle.mt_types.proofs.PackedLemmas.{next_piece, packed_holds, unpacked_of, put_start, put_step, put_end}
use Rattle.mt_types.proofs.columns.Columns.with_sets.Goals as goal

pub loop-number-init : goal.loop-number-init
loop-number-init c = (
  c.split_at.ensures.back ∙ ap (drop 1) c.as_packed-block.ensures,
  put_start c.args.sets.now c.args.self.now _ _ _ c.in_ok-made.ensures c.in_ok-push.ensures (ap (λ b. get_or b 0 0) c.as_packed-block.ensures),
)

pub split_first-requires-clause-some : goal.split_first-requires-clause-some
split_first-requires-clause-some c =
    let n : get_or c.as_packed-block.result.now 0 0 ≡ length c.args.self.now = ap (λ b. get_or b 0 0) c.as_packed-block.ensures in
    (next_piece c.args.self.now c.loop-number.number _ (omega arith) c.loop-number.invariant.0).0

pub split_first-requires-clause-fits : goal.split_first-requires-clause-fits
split_first-requires-clause-fits c =
    let n : get_or c.as_packed-block.result.now 0 0 ≡ length c.args.self.now = ap (λ b. get_or b 0 0) c.as_packed-block.ensures in
    (next_piece c.args.self.now c.loop-number.number _ (omega arith) c.loop-number.invariant.0).1

pub loop-number-preserved : goal.loop-number-preserved
loop-number-preserved c =
    let n : get_or c.as_packed-block.result.now 0 0 ≡ length c.args.self.now = ap (λ b. get_or b 0 0) c.as_packed-block.ensures in
    let next = next_piece c.args.self.now c.loop-number.number _ (omega arith) c.loop-number.invariant.0 in (
      c.split_first.ensures.back ∙ next.3,
      put_step c.args.sets.now c.args.self.now c.loop-number.number _ _ _ _ _ (omega arith) (c.split_first.ensures.front ∙ next.2) c.new_bytes.ensures c.in_ok-push_piece.ensures c.loop-number.invariant.1,
    )

pub invariant_of-result : goal.invariant_of-result
invariant_of-result c =
    let n : get_or c.as_packed-block.result.now 0 0 ≡ length c.args.self.now = ap (λ b. get_or b 0 0) c.as_packed-block.ensures in
    packed_holds (new_columns c.args.sets.now 0 c.args.self.now) _ (c.in_ok-done.ensures ∙ put_end c.args.sets.now c.args.self.now c.loop-number.number _ _ (omega arith) c.loop-number.invariant.1)

pub returns : goal.returns
returns c =
    let n : get_or c.as_packed-block.result.now 0 0 ≡ length c.args.self.now = ap (λ b. get_or b 0 0) c.as_packed-block.ensures in
    unpacked_of (new_columns c.args.sets.now 0 c.args.self.now) _ (c.in_ok-done.ensures ∙ put_end c.args.sets.now c.args.self.now c.loop-number.number _ _ (omega arith) c.loop-number.invariant.1)
