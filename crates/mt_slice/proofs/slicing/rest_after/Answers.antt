-- The rest after the rest.
use Rattle.mt_slice.proofs.PlaceOn.{rest_at-next}
use Rattle.mt_slice.proofs.slicing.rest_after.Goals as goal

pub returns : goal.returns
returns c = rw (c.rest_of.ensures, c.rest_at.ensures.value) (rest_at-next c.args.layer c.args.key.now)
