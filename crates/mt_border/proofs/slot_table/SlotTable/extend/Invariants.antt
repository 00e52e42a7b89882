use Rattle.mt_border.proofs.SeenLemmas.{IsExtended}
use Rattle.mt_border.proofs.slot_table.SlotTable.extend.Given as goal

abbrev pub invariant-loop-entry : goal.invariant-loop-entry
invariant-loop-entry l = IsExtended l.fn.entries.items l.yielded l.entry-iterator.rest.items l.initial.self l.self
