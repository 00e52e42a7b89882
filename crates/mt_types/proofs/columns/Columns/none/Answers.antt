use Rattle.std.proofs.Common.{[]}
use Rattle.mt_types.proofs.PackedLemmas.{packed_holds, unpacked_of}
use Rattle.mt_types.proofs.columns.Columns.none.Goals as goal

pub invariant_of-result : goal.invariant_of-result
invariant_of-result c = packed_holds [] _ c.few.ensures

pub returns : goal.returns
returns c = unpacked_of [] _ c.few.ensures
