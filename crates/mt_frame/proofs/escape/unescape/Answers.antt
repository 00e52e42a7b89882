use Rattle.std.proofs.Common.{◌∷◌, suc, drop, drop-cons}
use Rattle.std.specs.Prelude.{false, slice_index}
use Rattle.std.proofs.lemmas.Result.{err_from_is_err_and}
use Rattle.mt_frame.specs.Reading.{unescaped}
use Rattle.mt_frame.proofs.Unescaping.{ends}
use Rattle.mt_frame.proofs.escape.unescape.Goals as goal

pub returns-in_err-is_escape : goal.returns-in_err-is_escape
returns-in_err-is_escape c =
    let p = err_from_is_err_and c.from_residual-in_err-is_escape.result c.from_residual-in_err-is_escape.ensures.1 in
    let i = c.loop-byte.byte-index in
    let rest = drop (suc i) c.args.text.now in
    let so_far = rw (drop-cons c.args.text.now i 0 c.loop-byte-test.true) at c.loop-byte.invariant in
    rw (p.1, p.2) (ends c.in_err-is_escape.field-0.0 c.loop-byte.bytes.items (slice_index c.args.text.now i ∷ rest) c.loop-byte.is_escape (unescaped false c.args.text.now) (c.in_err-is_escape.ensures rest) so_far)
