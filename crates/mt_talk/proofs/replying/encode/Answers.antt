use Rattle.std.proofs.Common.{Err, ap, arith}
use Rattle.mt_wire.specs.Spelling.{framed}
use Rattle.mt_talk.proofs.replying.encode.Goals as goal

pub encode_replies_into-requires : goal.encode_replies_into-requires
encode_replies_into-requires c = (c.limited_replies_fit.ensures (framed c.args.version c.args.responses.now) c.requires).0

pub unreachable-requires : goal.unreachable-requires
unreachable-requires c =
    let most = (c.limited_replies_fit.ensures (framed c.args.version c.args.responses.now) c.requires).1 in
    let long = c.in-Err-TooLong.ensures.long (ap Err c.in-Err-TooLong.field-0-is) in
    omega (arith, most, long)
