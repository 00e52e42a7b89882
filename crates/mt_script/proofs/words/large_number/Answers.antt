use Rattle.std.proofs.Common.{arith}
use Rattle.mt_script.proofs.WordLemmas.{over_at}
use Rattle.mt_script.proofs.words.large_number.Goals as goal

pub returns-in-None-checked_add-clause-value : goal.returns-in-None-checked_add-clause-value
returns-in-None-checked_add-clause-value c = over_at c.args.most c.loop-c.n c.loop-c.c-index c.args.word.now c.loop-c.invariant.0 (omega arith) (omega arith)

pub returns-in-None-clause-value : goal.returns-in-None-clause-value
returns-in-None-clause-value c = over_at c.args.most c.loop-c.n c.loop-c.c-index c.args.word.now c.loop-c.invariant.0 (omega arith) (omega arith)

pub returns-then-n-most-clause-value : goal.returns-then-n-most-clause-value
returns-then-n-most-clause-value c = over_at c.args.most c.loop-c.n c.loop-c.c-index c.args.word.now c.loop-c.invariant.0 (omega arith) (omega arith)
