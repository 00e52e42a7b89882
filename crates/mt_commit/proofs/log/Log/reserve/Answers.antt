use Rattle.std.proofs.Common.{arith}
use Rattle.mt_commit.proofs.LogLemmas.{slowest_within}
use Rattle.mt_commit.proofs.log.Log.reserve.Goals as goal

pub overflow_sub-number-2 : goal.overflow_sub-number-2
overflow_sub-number-2 c = omega (arith, slowest_within c.args.self.now, c.slowest-slowest.ensures.value, c.number-number.ensures.value)
