-- The keys that are noted, one after another.
use Rattle.std.proofs.Common.{◌∙◌, ◌++◌, ◌∷◌, [], arith, List, ap}
use Rattle.mt_steps.specs.Entering.{entry_noted}
use Rattle.mt_steps.specs.declared.listing.SlotKey.{SlotKey}
use Rattle.mt_write.proofs.HalvingLemmas.{noted_more}
use Rattle.mt_write.proofs.halving.outline_of.Goals as goal

pub loop-place-preserved : goal.loop-place-preserved
loop-place-preserved c =
    c.in_ok-push.ensures.items ∙ (ap (λ (key : SlotKey). c.loop-place.keys.items ++ (key ∷ [])) c.in_ok-key_of.ensures
    ∙ (ap (λ (keys : List SlotKey). keys ++ (entry_noted c.entry.result.now ∷ [])) c.loop-place.invariant
    ∙ noted_more c.args.border.now.live c.loop-place.place c.entry.result.now (omega arith) c.entry.ensures.value))
