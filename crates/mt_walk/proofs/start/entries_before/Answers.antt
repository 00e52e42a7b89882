use Rattle.std.proofs.Common.{◌≡◌, refl, subst, arith}
use Rattle.mt_slice.specs.Place.{place_of}
use Rattle.mt_walk.proofs.StartLemmas.{ArePassed, one_more_passed, begins_behind}
use Rattle.mt_walk.proofs.start.entries_before.Goals as goal

pub loop-place-preserved : goal.loop-place-preserved
loop-place-preserved c =
    one_more_passed c.args.border.now.live (place_of c.args.rest.now) c.loop-place.place c.entry.result.now c.entry.ensures.value (c.if-not-is_before.ensures.passed refl) c.loop-place.invariant

pub returns-clause-begins : goal.returns-clause-begins
returns-clause-begins c =
    begins_behind c.args.border.now.live (place_of c.args.rest.now) c.len.result c.len.ensures.value
    (subst (ArePassed c.args.border.now.live (place_of c.args.rest.now)) same c.loop-place.invariant)
  where
    same : c.loop-place.place ≡ c.len.result
    same =
        let most = c.loop-place.auto.place-end in
        let least = c.loop-place-test.false in
        omega (arith, most, least, c.len.ensures.value, c.len-place-end.ensures.value)
