use Rattle.std.proofs.Common.{◌∙◌, arith, ap}
use Rattle.mt_asked.specs.Borrowed.{sets_of}
use Rattle.mt_replay.proofs.NumberedLemmas.{set_more}
use Rattle.mt_replay.proofs.records.sets_of.Goals as goal

pub loop-number-preserved : goal.loop-number-preserved
loop-number-preserved c =
    ap sets_of c.in_ok-push.ensures.items
    ∙ set_more c.loop-number.sets.items c.new.result c.loop-number.number c.args.columns.now c.loop-number.invariant (omega arith) c.new.ensures.0 (c.new.ensures.1 ∙ c.get_or_empty.ensures)
