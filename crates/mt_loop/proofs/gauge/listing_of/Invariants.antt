use Rattle.std.proofs.Common.{◌≡◌, ◌++◌}
use Rattle.std.specs.Prelude.{map}
use Rattle.mt_shared.specs.Moments.{machine_of}
use Rattle.mt_loop.specs.Listing.{listed}
use Rattle.mt_loop.proofs.gauge.listing_of.Given as goal

abbrev pub invariant-loop-number : goal.invariant-loop-number
invariant-loop-number l = l.listing ++ map listed l.number-iterator ≡ map listed (machine_of l.moment).views.views
