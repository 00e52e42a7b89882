use Rattle.std.proofs.lemmas.Result.{err_from_is_err_and}
use Rattle.mt_store.proofs.AgainLemmas.{ends_there}
use Rattle.mt_store.proofs.MakingLemmas.{all_made, one_more}
use Rattle.mt_store.proofs.replaying.make_all.Goals as goal

pub loop-kept-preserved : goal.loop-kept-preserved
loop-kept-preserved c = one_more c.args.index.now.machine c.loop-kept.index.machine c.make_again.new.index.machine c.args.records.now c.loop-kept.kept-index c.kept-item.result c.loop-kept-test.true c.kept-item.is c.loop-kept.invariant c.in_ok-make_again.ensures.adds

pub returns-clause-adds : goal.returns-clause-adds
returns-clause-adds c = all_made c.args.index.now.machine c.loop-kept.index.machine c.loop-kept.index.machine c.args.records.now c.loop-kept.kept-index c.loop-kept-test.false c.loop-kept.invariant

pub returns-in_err-make_again-clause-fails : goal.returns-in_err-make_again-clause-fails
returns-in_err-make_again-clause-fails c =
    let p = err_from_is_err_and c.from_residual.result c.from_residual.ensures.1 in
    rw (p.1, p.2) (ends_there c.args.index.now.machine c.loop-kept.index.machine c.args.records.now c.loop-kept.kept-index c.kept-item.result c.in_err-make_again.field-0.0
    c.loop-kept-test.true c.kept-item.is c.loop-kept.invariant c.in_err-make_again.ensures.fails)
