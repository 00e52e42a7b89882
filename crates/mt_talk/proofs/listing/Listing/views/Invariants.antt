use Rattle.std.proofs.Common.{◌≡◌, take}
use Rattle.mt_talk.proofs.listing.Listing.views.Given as goal

abbrev pub invariant-loop-view : goal.invariant-loop-view
invariant-loop-view l = l.views.items ≡ take l.view-index l.view-items
