use Rattle.std.proofs.Common.{rules}
use Rattle.std.proofs.lemmas.List.{length-map}
use Rattle.rowanspan_c.proofs.gathering.number_fault.Goals as goal

pub returns : goal.returns
returns c = search (rules, length-map)
