use Rattle.std.proofs.Common.{arith, ◌∙◌}
use Rattle.mt_word.proofs.PlacesLemmas.{moved_places, hidden_slots}
use Rattle.mt_word.proofs.permutation_word.Permutation.remove_at.Goals as goal

pub arranged-requires-clause-each_once : goal.arranged-requires-clause-each_once
arranged-requires-clause-each_once c =
    moved_places c.args.self.now _ _ _ c.args.place _ c.field_at-slot.result c.len-last.ensures.arranged c.places-places.ensures.value (omega arith) c.field_at-slot.ensures.value c.without_field-others.ensures.value c.with_field.ensures.value

pub returns-clause-value : goal.returns-clause-value
returns-clause-value c =
    c.arranged.ensures.value ∙ hidden_slots c.args.self.now _ _ _ c.len-last.result c.args.place c.field_at-slot.result c.len-last.ensures.value c.requires c.places-places.ensures.value c.field_at-slot.ensures.value c.without_field-others.ensures.value c.with_field.ensures.value
