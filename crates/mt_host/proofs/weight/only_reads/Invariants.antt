use Rattle.std.proofs.Common.{◌≡◌, drop}
use Rattle.std.specs.List.{list_any}
use Rattle.mt_host.specs.Weights.{is_other}
use Rattle.mt_host.proofs.weight.only_reads.Given as goal

-- none of the queries so far is another
abbrev pub invariant-loop-query : goal.invariant-loop-query
invariant-loop-query l = list_any is_other l.frame.messages ≡ list_any is_other (drop l.query-index l.frame.messages)
