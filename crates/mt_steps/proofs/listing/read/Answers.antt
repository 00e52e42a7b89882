use Rattle.std.proofs.Common.{inl}
use Rattle.mt_steps.specs.Listing.{ListingWaits}
use Rattle.mt_steps.proofs.ReaderLemmas.{waits_head, waits_interior, may_child}
use Rattle.mt_steps.proofs.listing.read.Goals as goal

pub at_interior-requires : goal.at_interior-requires
at_interior-requires c = may_child c.args.tree.now c.args.number.0 c.args.slice c.args.listing c.requires.may c.wants.result c.in-Interior.interior c.in-Interior.ensures.value

pub returns-in-Head-clause-waits : goal.returns-in-Head-clause-waits
returns-in-Head-clause-waits c = waits_head c.args.tree.now c.args.number.0 c.args.slice c.args.listing c.requires.may c.wants.result ListingWaits (λ node marked. inl marked) c.in-Head.head c.at_head.result c.at_head.ensures c.in-Head.ensures.value

pub returns-in-Interior-clause-waits : goal.returns-in-Interior-clause-waits
returns-in-Interior-clause-waits c = waits_interior c.args.tree.now c.args.number.0 c.args.slice c.args.listing c.requires.may c.wants.result ListingWaits (λ node marked. inl marked) c.in-Interior.interior c.at_interior.result c.at_interior.ensures.value c.at_interior.ensures.marked c.in-Interior.ensures.value
