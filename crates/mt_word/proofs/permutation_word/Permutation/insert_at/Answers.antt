use Rattle.std.proofs.Common.{arith, ◌∙◌}
use Rattle.mt_word.proofs.PlacesLemmas.{moved_places, shown_slots}
use Rattle.mt_word.proofs.permutation_word.Permutation.insert_at.Goals as goal

pub arranged-requires-clause-each_once : goal.arranged-requires-clause-each_once
arranged-requires-clause-each_once c =
    moved_places c.args.self.now _ _ _ c.len-count.result c.args.place c.field_at-slot.result c.len-count.ensures.arranged c.places-places.ensures.value (omega arith) c.field_at-slot.ensures.value c.without_field-others.ensures.value c.with_field.ensures.value

pub returns-clause-value : goal.returns-clause-value
returns-clause-value c =
    c.arranged.ensures.value ∙ shown_slots c.args.self.now _ _ _ c.len-count.result c.args.place c.field_at-slot.result c.len-count.ensures.value c.requires.within c.requires.room c.places-places.ensures.value c.field_at-slot.ensures.value c.without_field-others.ensures.value c.with_field.ensures.value
