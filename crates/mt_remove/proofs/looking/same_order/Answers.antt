use Rattle.std.proofs.Common.{sym, ◌∙◌}
use Rattle.std.proofs.lemmas.Bool.{eqb-true}
use Rattle.mt_word.specs.Slots.{word_of_slots}
use Rattle.mt_word.proofs.ArrangedLemmas.{same_slots}
use Rattle.mt_remove.proofs.looking.same_order.Goals as goal

pub returns-clause-same : goal.returns-clause-same
returns-clause-same c = λ is. same_slots c.args.one c.args.other c.len.ensures.arranged c.len-2.ensures.arranged (eqb-true (word_of_slots c.args.one) (word_of_slots c.args.other) (sym c.eq.ensures ∙ is))
