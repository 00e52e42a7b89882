use Rattle.std.proofs.Common.{subst}
use Rattle.mt_steps.specs.declared.way.Went.{Went}
use Rattle.mt_steps.specs.Way.{Visits}
use Rattle.mt_steps.proofs.WayLemmas.{names_marked}
use Rattle.mt_steps.proofs.LoneRow.{sought_begins, sought_may_go, sought_may_go_at, sought_goes, sought_unmarked}
use Rattle.mt_steps.proofs.alone.row_of.Goals as goal

pub loop-row-init : goal.loop-row-init
loop-row-init c = sought_begins c.args.tree.now c.args.key.now c.requires.lone c.rest_in-bytes.ensures.bytes c.requires.fits

pub node-requires : goal.node-requires
node-requires c = (sought_may_go c.args.tree.now c.args.key.now c.loop-row.way c.loop-row.invariant).may.named

pub look-requires-clause-may : goal.look-requires-clause-may
look-requires-clause-may c = sought_may_go_at c.args.tree.now c.args.key.now c.loop-row.way c.node.result.now c.loop-row.invariant (record { named = c.node.ensures.value; sound = c.node.ensures.arena })

pub returns-in-Ok-clause-row : goal.returns-in-Ok-clause-row
returns-in-Ok-clause-row c =
    let s = c.loop-row.invariant in
    (c.in-Ok.ensures.ends c.args.tree.now (record { named = c.node.ensures.value; sound = c.node.ensures.arena })).ends s.lone.now s.lone.w 0 s.lone.world s.on

pub loop-row-smaller : goal.loop-row-smaller
loop-row-smaller c =
    (sought_goes c.args.tree.now c.args.key.now c.loop-row.way c.in-Err-To.next c.loop-row.invariant
    (subst (λ (w : Went). Visits c.args.tree.now c.args.key.now c.loop-row.way w) c.in-Err-To.field-0-is
    (c.in-Err-To.ensures.leads c.args.tree.now (record { named = c.node.ensures.value; sound = c.node.ensures.arena })))).1

pub loop-row-preserved : goal.loop-row-preserved
loop-row-preserved c =
    (sought_goes c.args.tree.now c.args.key.now c.loop-row.way c.in-Err-To.next c.loop-row.invariant
    (subst (λ (w : Went). Visits c.args.tree.now c.args.key.now c.loop-row.way w) c.in-Err-To.field-0-is
    (c.in-Err-To.ensures.leads c.args.tree.now (record { named = c.node.ensures.value; sound = c.node.ensures.arena })))).0

pub unreachable-requires : goal.unreachable-requires
unreachable-requires c =
    sought_unmarked c.args.tree.now c.args.key.now c.loop-row.way c.loop-row.invariant
    (names_marked c.args.tree.now c.loop-row.way.node.0 c.node.result.now (record { named = c.node.ensures.value; sound = c.node.ensures.arena }) (c.in-Err-Again.ensures.again (cc)))
