use Rattle.mt_tree.proofs.RowLemmas.{found_stands}
use Rattle.mt_tree.proofs.descent.find.Goals as goal

pub returns-clause-stands : goal.returns-clause-stands
returns-clause-stands c =
    rw (c.find.ensures.value, c.slice_of-slice.ensures.slice, c.slice_of-slice.ensures.class, c.rest_of.ensures) (found_stands c.args.border.now c.find.ensures.sound c.args.rest.now)
