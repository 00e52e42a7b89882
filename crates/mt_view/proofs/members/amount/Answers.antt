use Rattle.std.proofs.Common.{◌+◌, arith}
use Rattle.mt_view.proofs.MemberLemmas.{next_small, few_bytes}
use Rattle.mt_view.proofs.members.amount.Goals as goal

pub overflow_mul-number : goal.overflow_mul-number
overflow_mul-number c =
    let next = next_small c.loop-byte.number c.loop-byte.byte-index 0 c.loop-byte.invariant.small (omega arith) in
    let few = few_bytes (c.loop-byte.byte-index + 1) (omega arith) in omega arith
