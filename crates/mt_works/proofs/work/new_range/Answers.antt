use Rattle.std.proofs.Common.{List, ℕ, [], ap, ◌∙◌}
use Rattle.mt_slice.specs.Place.{place_of}
use Rattle.mt_works.proofs.NewWorks.{new_range}
use Rattle.mt_works.proofs.work.new_range.Goals as goal

pub returns-clause-new : goal.returns-clause-new
returns-clause-new c = λ C number.
    new_range C number c.args.start c.args.columns c.args.limit c.in_ok-scan.scan (c.rest_of-key.ensures.bytes, c.rest_of-key.ensures.fits)
    (c.in_ok-scan.ensures ∙ ap (λ (asked : List ℕ). record { prefix = []; at = place_of c.args.start; taken = []; limit = c.args.limit; asked = asked }) c.in_ok-copy.ensures)
