use Rattle.std.proofs.Common.{◌<◌, refl, arith}
use Rattle.mt_steps.proofs.LoneWay.{way_left}
use Rattle.mt_walk.proofs.DescentLemmas.{IsSeeking, seeking_begins, seeking_goes, seeking_ends, held_for, unmarked, never_below}
use Rattle.mt_walk.proofs.descent.border_for.Goals as goal
use Rattle.mt_walk.proofs.descent.border_for.Goals.{In-To}

pub loop-next-init : goal.loop-next-init
loop-next-init c = seeking_begins c.args.tree.now c.args.from.0 c.args.slice c.requires

pub seek-requires : goal.seek-requires
seek-requires c =
    let may = c.loop-next.invariant.may in
    held_for c.args.tree.now may.lone c.loop-next.node.0 c.args.slice may.prefix may.held

goes : (c : In-To) → IsSeeking c.args.tree.now c.args.from.0 c.args.slice c.in-To.next.0 × (way_left c.args.tree.now 0 c.in-To.next.0 < way_left c.args.tree.now 0 c.loop-next.node.0)
goes c =
    seeking_goes c.args.tree.now c.args.from.0 c.args.slice c.loop-next.node.0 c.in-To.next.0 (omega (arith, c.ranges.slice.fits)) c.loop-next.invariant
    c.in-To.ensures.seeks (c.in-To.ensures.moves c.in-To.next refl)

pub loop-next-smaller : goal.loop-next-smaller
loop-next-smaller c = (goes c).1

pub loop-next-preserved : goal.loop-next-preserved
loop-next-preserved c = (goes c).0

pub returns-in-Here : goal.returns-in-Here
returns-in-Here c =
    seeking_ends c.args.tree.now c.args.from.0 c.args.slice c.loop-next.node.0 c.loop-next.invariant
    c.in-Here.ensures.seeks

pub unreachable-requires : goal.unreachable-requires
unreachable-requires c =
    let may = c.loop-next.invariant.may in
    unmarked c.args.tree.now may.lone c.loop-next.node.0 c.args.slice may.prefix may.held (c.in-Again.ensures.again refl)

pub unreachable-requires-in-Below : goal.unreachable-requires-in-Below
unreachable-requires-in-Below c = never_below c.args.tree.now c.args.slice c.loop-next.node.0 _ c.loop-next.invariant.may c.in-Below.ensures.seeks
