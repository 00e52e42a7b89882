use Rattle.std.proofs.Common.{◌∙◌, arith}
use Rattle.mt_types.proofs.PackedLemmas.{packed_holds, unpacked_of, parts_end}
use Rattle.mt_types.proofs.columns.Columns.of_parts.Goals as goal

pub invariant_of-result : goal.invariant_of-result
invariant_of-result c =
    packed_holds c.args.parts.now _ (c.in_ok-done.ensures ∙ parts_end c.args.parts.now c.loop-part-2.part-index _ _ (omega arith) c.loop-part-2.invariant)

pub returns : goal.returns
returns c =
    unpacked_of c.args.parts.now _ (c.in_ok-done.ensures ∙ parts_end c.args.parts.now c.loop-part-2.part-index _ _ (omega arith) c.loop-part-2.invariant)
