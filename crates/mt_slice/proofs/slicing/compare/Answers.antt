-- The order of the places.
use Rattle.std.proofs.Common.{sym}
use Rattle.mt_slice.proofs.KeyOrder.{place_cmp-place_of}
use Rattle.mt_slice.proofs.slicing.compare.Goals as goal

pub returns-clause-places : goal.returns-clause-places
returns-clause-places c =
    rw (c.cmp.ensures, c.key_bytes.ensures.value, c.key_bytes-2.ensures.value)
    (sym (place_cmp-place_of c.args.a.now c.args.b.now c.key_bytes.ensures.bytes c.key_bytes-2.ensures.bytes))
