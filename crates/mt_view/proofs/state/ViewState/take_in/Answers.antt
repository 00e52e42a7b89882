use Rattle.std.proofs.Common.{rules}
use Rattle.mt_view.proofs.PairLemmas.{taken_in_more}
use Rattle.mt_view.proofs.state.ViewState.take_in.Goals as goal

pub loop-key-preserved : goal.loop-key-preserved
loop-key-preserved c = record {
  kept = search rules;
  afresh = taken_in_more c.args.self.now c.loop-key.self c.hold.new.self c.args.pairs.now c.loop-key.key-index c.loop-key-item.result
      c.loop-key-test.true c.loop-key-item.is c.in_ok-hold.ensures.ok c.loop-key.invariant.afresh;
}
