-- The place of the rest by its first slice.
use Rattle.mt_slice.proofs.PlaceOn.{place_of-rest_at}
use Rattle.mt_slice.proofs.slicing.slice_at.Goals as goal

pub returns-clause-place : goal.returns-clause-place
returns-clause-place c =
    rw (c.slice_of.ensures.slice, c.slice_of.ensures.class, c.rest_at.ensures.value) (place_of-rest_at c.args.layer c.args.key.now)
