use Rattle.std.proofs.Common.{◌<◌, ◌+◌, ◌*◌, length, sym, ◌∙◌, arith}
use Rattle.mt_border.proofs.FindLemmas.{found_here, found_later, is_before_rank}
use Rattle.mt_border.proofs.border.Border.place_of.Goals as goal

pub returns-then-not-is_before-clause-value : goal.returns-then-not-is_before-clause-value
returns-then-not-is_before-clause-value c =
    let within : c.loop-place.place < length c.args.self.now.live = omega arith in
    found_here (is_before_rank (c.args.slice * 10 + c.args.class)) c.args.self.now.live c.loop-place.place c.entry.result.now within c.entry.ensures.value (sym c.is_before.ensures ∙ c.if-not-is_before.true) c.loop-place.invariant

pub loop-place-preserved : goal.loop-place-preserved
loop-place-preserved c =
    let within : c.loop-place.place < length c.args.self.now.live = omega arith in
    found_later (is_before_rank (c.args.slice * 10 + c.args.class)) c.args.self.now.live c.loop-place.place c.entry.result.now within c.entry.ensures.value (sym c.is_before.ensures ∙ c.if-not-is_before.false) c.loop-place.invariant
