use Rattle.std.proofs.Common.{subst}
use Rattle.mt_steps.specs.declared.way.Went.{Went}
use Rattle.mt_steps.specs.Way.{Visits}
use Rattle.mt_steps.proofs.LoneRow.{sought_begins, sought_may_go, sought_goes, sought_unmarked}
use Rattle.mt_reads.proofs.nearby.step.Goals as goal

pub loop-next-init : goal.loop-next-init
loop-next-init c = sought_begins c.args.tree.now c.args.key.now c.requires c.rest_of-bytes.ensures.bytes c.rest_of-bytes.ensures.fits

pub visit-requires : goal.visit-requires
visit-requires c = sought_may_go c.args.tree.now c.args.key.now c.loop-next.way c.loop-next.invariant

pub loop-next-smaller : goal.loop-next-smaller
loop-next-smaller c =
    (sought_goes c.args.tree.now c.args.key.now c.loop-next.way c.in-To.next c.loop-next.invariant
    (subst (λ (w : Went). Visits c.args.tree.now c.args.key.now c.loop-next.way w) c.in-To.is c.visit.ensures.visits)).1

pub loop-next-preserved : goal.loop-next-preserved
loop-next-preserved c =
    (sought_goes c.args.tree.now c.args.key.now c.loop-next.way c.in-To.next c.loop-next.invariant
    (subst (λ (w : Went). Visits c.args.tree.now c.args.key.now c.loop-next.way w) c.in-To.is c.visit.ensures.visits)).0

pub unreachable-requires : goal.unreachable-requires
unreachable-requires c =
    sought_unmarked c.args.tree.now c.args.key.now c.loop-next.way c.loop-next.invariant (c.visit.ensures.again c.in-Again.is)
