-- The eight bytes as the word that they are read to.
use Rattle.std.proofs.Common.{◌∙◌, ap}
use Rattle.std.specs.Int.{w64, from_be_bytes}
use Rattle.mt_slice.specs.Place.{slice_number}
use Rattle.mt_slice.proofs.Slices.{from_be_bytes-first_eight, from_first_eight}
use Rattle.mt_slice.proofs.slicing.slice_number.Goals as goal

pub returns-then-bytes-lt-SLICE_BYTES : goal.returns-then-bytes-lt-SLICE_BYTES
unfolding slice_number
returns-then-bytes-lt-SLICE_BYTES c =
    c.from_be_bytes.ensures ∙ ap (from_be_bytes w64) c.padded.ensures ∙ from_be_bytes-first_eight c.args.bytes.now

pub returns-else-bytes-lt-SLICE_BYTES : goal.returns-else-bytes-lt-SLICE_BYTES
unfolding slice_number
returns-else-bytes-lt-SLICE_BYTES c =
    c.from_be_bytes-else-bytes-lt-SLICE_BYTES.ensures ∙ from_first_eight c.args.bytes.now c.if-bytes-lt-SLICE_BYTES.false
