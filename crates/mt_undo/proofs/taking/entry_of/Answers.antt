use Rattle.std.proofs.Common.{sym, subst, ◌∙◌, ◌<◌, refl}
use Rattle.mt_steps.specs.declared.way.Went.{Went}
use Rattle.mt_steps.specs.declared.way.Way.{Way}
use Rattle.mt_steps.proofs.LoneWay.{way_left}
use Rattle.mt_steps.specs.Way.{Visits}
use Rattle.mt_steps.proofs.LoneRow.{sought_may_go, sought_goes, sought_unmarked}
use Rattle.mt_undo.proofs.TakingLemmas.{IsSoughtIn, sought_begins_in, sought_goes_in, found_at, found_row, searched_at}
use Rattle.mt_undo.proofs.taking.entry_of.Goals as goal

pub loop-found-init : goal.loop-found-init
loop-found-init c = (
  c.requires.lone,
  (λ lone. sought_begins_in c.args.tree.now c.args.key.now lone c.key_bytes-bytes.ensures.bytes c.key_bytes-bytes.ensures.fits),
)

pub arrive-requires : goal.arrive-requires
arrive-requires c = sought_may_go c.args.tree.now c.args.key.now c.loop-found.way (c.loop-found.invariant.1 c.loop-found.invariant.0).0

pub unreachable-requires : goal.unreachable-requires
unreachable-requires c =
    let s = (c.loop-found.invariant.1 c.loop-found.invariant.0).0 in
    let a = c.args.tree.now in
    let key = c.args.key.now in
    let way = c.loop-found.way in
    let b = c.border.result.now in
    found_row a key b.live c.in-Ok.found c.requires.there
    (found_at a key way s.lone.now s.lone.w b c.in-Ok.found s.lone.world (c.in-Ok.ensures.ends.goes s.lone.now s.lone.w 0 s.lone.world s.on) s.bytes c.border.ensures.value c.len-sound.ensures.sound
    (searched_at a key way b c.in-Ok.found c.in-Ok.ensures.finds c.border.ensures.value))
    c.in_default.not-Row

pub returns-in-Ok : goal.returns-in-Ok
returns-in-Ok c lone =
    let (s, same) = c.loop-found.invariant.1 lone in
    let b = c.border.result.now in (
      record {
        bytes = s.bytes;
        fits = s.fits;
        lone = s.lone;
        way = c.loop-found.way;
        number_is = refl;
        at = c.in-Ok.ensures.ends.goes s.lone.now s.lone.w 0 s.lone.world s.on;
        border = b;
        named = c.border.ensures.value;
        sound = c.len-sound.ensures.sound;
        found = sym c.in-Row.is ∙ searched_at c.args.tree.now c.args.key.now c.loop-found.way b c.in-Ok.found c.in-Ok.ensures.finds c.border.ensures.value;
      },
      same,
    )

pub loop-found-smaller : goal.loop-found-smaller
loop-found-smaller c =
    let further = sought_goes c.args.tree.now c.args.key.now c.loop-found.way c.in-Err-To.next (c.loop-found.invariant.1 c.loop-found.invariant.0).0
    (subst (λ (w : Went). Visits c.args.tree.now c.args.key.now c.loop-found.way w) c.in-Err-To.field-0-is c.in-Err-To.ensures.leads) in
    subst (λ (w : Way). way_left c.args.tree.now w.layer w.node.0 < way_left c.args.tree.now c.loop-found.way.layer c.loop-found.way.node.0) (sym c.in-Err-To.next-is) further.1

pub loop-found-preserved : goal.loop-found-preserved
loop-found-preserved c = (
  c.loop-found.invariant.0,
  (λ lone.
      let further = sought_goes_in c.args.tree.now c.args.key.now lone c.loop-found.way c.in-Err-To.next (c.loop-found.invariant.1 lone)
      (subst (λ (w : Went). Visits c.args.tree.now c.args.key.now c.loop-found.way w) c.in-Err-To.field-0-is c.in-Err-To.ensures.leads) in
      subst (λ (w : Way). IsSoughtIn c.args.tree.now lone c.args.key.now w) (sym c.in-Err-To.next-is) further),
)

pub unreachable-requires-in-Err-Again : goal.unreachable-requires-in-Err-Again
unreachable-requires-in-Err-Again c =
    sought_unmarked c.args.tree.now c.args.key.now c.loop-found.way (c.loop-found.invariant.1 c.loop-found.invariant.0).0 (c.arrive.ensures.again (cc))
