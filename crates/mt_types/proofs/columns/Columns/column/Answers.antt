use Rattle.std.proofs.Common.{◌≡◌, ◌∙◌, [], ap, get_or, arith}
use Rattle.mt_types.proofs.PackedLemmas.{next_piece}
use Rattle.mt_types.proofs.columns.Columns.column.Goals as goal

pub split_first-requires-clause-some : goal.split_first-requires-clause-some
split_first-requires-clause-some c = (next_piece c.args.self.now c.loop.counter _ (omega arith) c.loop.invariant).0

pub split_first-requires-clause-fits : goal.split_first-requires-clause-fits
split_first-requires-clause-fits c = (next_piece c.args.self.now c.loop.counter _ (omega arith) c.loop.invariant).1

pub loop-preserved : goal.loop-preserved
loop-preserved c = c.split_first.ensures.back ∙ (next_piece c.args.self.now c.loop.counter _ (omega arith) c.loop.invariant).3

pub split_first-requires-2-clause-some : goal.split_first-requires-2-clause-some
split_first-requires-2-clause-some c = (next_piece c.args.self.now c.loop.counter _ (omega arith) c.loop.invariant).0

pub split_first-requires-2-clause-fits : goal.split_first-requires-2-clause-fits
split_first-requires-2-clause-fits c = (next_piece c.args.self.now c.loop.counter _ (omega arith) c.loop.invariant).1

pub returns : goal.returns
returns c =
    let at : c.loop.counter ≡ c.args.number = omega arith in
    c.split_first-2.ensures.front ∙ (next_piece c.args.self.now c.loop.counter _ (omega arith) c.loop.invariant).2 ∙ ap (λ n. get_or c.args.self.now n []) at
