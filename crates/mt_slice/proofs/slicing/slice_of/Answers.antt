-- The place by its first slice.
use Rattle.mt_slice.proofs.PlaceOn.{place_of-place_at}
use Rattle.mt_slice.proofs.slicing.slice_of.Goals as goal

pub returns-clause-place : goal.returns-clause-place
returns-clause-place c = rw (c.slice_number.ensures, c.of_length.ensures) (place_of-place_at c.args.bytes.now)
