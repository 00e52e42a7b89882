use Rattle.std.proofs.Common.{ℕ, List, [], refl, subst, sym}
use Rattle.mt_walk.specs.declared.course.Stop.{Stop}
use Rattle.mt_walk.proofs.Starts.{IsStarting, starting_begins, starting_may_seek, starting_goes, starting_stands}
use Rattle.mt_walk.proofs.course.Course.begin.Goals as goal

pub loop-below-init : goal.loop-below-init
loop-below-init c =
    subst (λ (path : List Stop). IsStarting c.args.tree.now c.args.start.now path 0 c.key_bytes-rest.result.now) (sym c.new-path.ensures.items)
    (subst (λ (rest : List ℕ). IsStarting c.args.tree.now c.args.start.now [] 0 rest) (sym c.key_bytes-rest.ensures.value) (starting_begins c.args.tree.now c.args.start.now c.requires c.key_bytes-rest.ensures.bytes))

pub border_for-node-requires : goal.border_for-node-requires
border_for-node-requires c = starting_may_seek c.args.tree.now c.args.start.now c.loop-below.path.items c.loop-below.head.0 c.loop-below.rest.now c.loop-below.invariant c.slice_of-slice.result.0 c.slice_of-slice.ensures.slice

pub loop-below-preserved : goal.loop-below-preserved
loop-below-preserved c =
    starting_goes c.args.tree.now c.args.start.now c.loop-below.path.items c.loop-below.head.0 c.loop-below.rest.now c.loop-below.invariant c.slice_of-slice.result.0 c.slice_of-slice.ensures.slice
    c.border_for-node.result c.border_for-node.ensures c.border-border.result.now c.border-border.ensures.value c.border-border.ensures.sound c.entries_before-place.result
    c.in-Some.below c.in-Some.ensures.some c.rest_of-rest.result.now c.rest_of-rest.ensures c.push.new.self.items c.in_ok-push-in-Some.ensures.items

pub returns-in-None : goal.returns-in-None
returns-in-None c =
    starting_stands c.args.tree.now c.args.start.now c.loop-below.path.items c.loop-below.head.0 c.loop-below.rest.now c.loop-below.invariant c.slice_of-slice.result.0 c.slice_of-slice.ensures.slice
    c.border_for-node.result c.border_for-node.ensures c.border-border.result.now c.border-border.ensures.value c.border-border.ensures.sound c.entries_before-place.result
    c.entries_before-place.ensures.begins (c.in-None.ensures.none refl) c.border-border.ensures.arena c.key_bytes-rest.ensures.bytes c.key_bytes-rest.ensures.fits
