use Rattle.std.proofs.Common.{◌%◌, sym, ◌∙◌, ap}
use Rattle.std.proofs.lemmas.Nat.{and_mask}
use Rattle.mt_word.proofs.FieldsLemmas.{field_at}
use Rattle.mt_word.proofs.permutation_word.field_at.Goals as goal

pub returns-clause-value : goal.returns-clause-value
returns-clause-value c =
    and_mask c.above.result 4 ∙ ap (λ n. n % 16) c.above.ensures ∙ sym (field_at 15 c.args.places c.args.place 0 c.requires)
