use Rattle.std.proofs.Common.{refl, arith}
use Rattle.mt_word.specs.Fields.{fields}
use Rattle.mt_word.specs.Round.{length-fields, word_of_slots-slots_of_word}
use Rattle.mt_word.proofs.PlacesLemmas.{arranged_from_places}
use Rattle.mt_word.proofs.SeenLemmas.{seen_more, word_read}
use Rattle.mt_word.proofs.permutation_word.Permutation.from_u64.Goals as goal

pub loop-place-preserved : goal.loop-place-preserved
loop-place-preserved c =
    seen_more c.loop-place.seen (fields 15 c.above-places.result) c.loop-place.place c.field_at.result (omega (arith, length-fields 15 c.above-places.result)) c.field_at.ensures.value c.field_at.ensures.fits c.loop-place.invariant

pub invariant_of-result : goal.invariant_of-result
invariant_of-result c =
    (word_read c.args.word c.above-places.result c.loop-place.seen c.loop-place.place (omega arith) c.above-places.ensures (omega arith) (omega arith) c.loop-place.invariant).0 c.if-seen-eq-EVERY_SLOT.true

pub returns-then-seen-eq-EVERY_SLOT-clause-variant : goal.returns-then-seen-eq-EVERY_SLOT-clause-variant
returns-then-seen-eq-EVERY_SLOT-clause-variant c =
    let read = word_read c.args.word c.above-places.result c.loop-place.seen c.loop-place.place (omega arith) c.above-places.ensures (omega arith) (omega arith) c.loop-place.invariant in
    (λ _. read.0 c.if-seen-eq-EVERY_SLOT.true, λ _. refl)

pub returns-then-seen-eq-EVERY_SLOT-clause-arranged : goal.returns-then-seen-eq-EVERY_SLOT-clause-arranged
returns-then-seen-eq-EVERY_SLOT-clause-arranged c =
    let read = word_read c.args.word c.above-places.result c.loop-place.seen c.loop-place.place (omega arith) c.above-places.ensures (omega arith) (omega arith) c.loop-place.invariant in
    arranged_from_places _ _ (read.0 c.if-seen-eq-EVERY_SLOT.true).each_once

pub returns-else-seen-eq-EVERY_SLOT-clause-variant : goal.returns-else-seen-eq-EVERY_SLOT-clause-variant
returns-else-seen-eq-EVERY_SLOT-clause-variant c =
    let read = word_read c.args.word c.above-places.result c.loop-place.seen c.loop-place.place (omega arith) c.above-places.ensures (omega arith) (omega arith) c.loop-place.invariant in
    (λ e. cc, λ h. absurd (c.if-seen-eq-EVERY_SLOT.false (read.1 h)))

pub returns-then-seen-eq-EVERY_SLOT-clause-word_back : goal.returns-then-seen-eq-EVERY_SLOT-clause-word_back
returns-then-seen-eq-EVERY_SLOT-clause-word_back c =
    let read = word_read c.args.word c.above-places.result c.loop-place.seen c.loop-place.place (omega arith) c.above-places.ensures (omega arith) (omega arith) c.loop-place.invariant in
    word_of_slots-slots_of_word c.args.word (read.0 c.if-seen-eq-EVERY_SLOT.true)
