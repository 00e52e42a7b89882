use Rattle.std.proofs.Common.{arith}
use Rattle.mt_wire.proofs.FrameLaws.{cut_is_frame}
use Rattle.mt_wire.proofs.decoder.cut.Goals as goal

pub returns-clause-whole : goal.returns-clause-whole
returns-clause-whole c =
    cut_is_frame c.args.rest.now.items c.in_ok-freeze_to.field-0 c.freeze_to.new.self.items c.announced_in-len.result (omega (arith, c.len.ensures.value)) (rw (← c.as_slice.ensures) c.announced_in-len.ensures) c.if-len-lt2.false c.if-len.false (omega (arith, c.len-2.ensures.value)) c.in_ok-freeze_to.ensures.front c.in_ok-freeze_to.ensures.rest.0
