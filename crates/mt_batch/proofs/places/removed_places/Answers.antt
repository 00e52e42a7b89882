use Rattle.std.proofs.Common.{rules}
use Rattle.std.proofs.lemmas.List.{take_all}
use Rattle.std.proofs.lemmas.Option.{slice_get-get_or}
use Rattle.std.proofs.lemmas.Result.{err_from_is_err_and}
use Rattle.mt_batch.proofs.ChangeLemmas.{change_fits, one_place_more}
use Rattle.mt_batch.proofs.places.removed_places.Goals as goal

pub loop-change-preserved : goal.loop-change-preserved
loop-change-preserved c =
    one_place_more c.args.changes.now c.loop-change.change-index _ c.loop-change.places.items c.add_place.new.places.items c.loop-change-test.true c.loop-change.invariant c.in_ok-add_place.ensures.added

pub returns-in_err-add_place-clause-lacks : goal.returns-in_err-add_place-clause-lacks
returns-in_err-add_place-clause-lacks c =
    let (C, none) = c.requires.fit in
    let p = err_from_is_err_and c.from_residual.result c.from_residual.ensures.1 in
    rw (p.1, p.2) (c.in_err-add_place.ensures.lacks
    (change_fits C c.args.changes.now c.loop-change.change-index _ none (slice_get-get_or c.args.changes.now c.loop-change.change-index _ c.loop-change-test.true)))

pub returns-clause-places : goal.returns-clause-places
returns-clause-places c = search (rules, take_all)
