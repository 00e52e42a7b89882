use Rattle.std.proofs.Common.{◌≡◌, take}
use Rattle.std.specs.List.{AllByRecursion}
use Rattle.mt_wire.specs.Limited.{ResponseIsLimited}
use Rattle.mt_talk.specs.Growing.{memory_refusals}
use Rattle.mt_talk.proofs.growing.refuse_for_memory.Given as goal

abbrev pub invariant-loop-query : goal.invariant-loop-query
invariant-loop-query l = (l.responses.items ≡ memory_refusals (take l._query-index l.queries)) × AllByRecursion ResponseIsLimited l.responses.items
