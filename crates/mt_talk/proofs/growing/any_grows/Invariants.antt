use Rattle.std.proofs.Common.{◌≡◌, drop}
use Rattle.mt_talk.specs.Growing.{any_grows}
use Rattle.mt_talk.proofs.growing.any_grows.Given as goal

-- none of the queries so far grows
abbrev pub invariant-loop-query : goal.invariant-loop-query
invariant-loop-query l = any_grows (drop l.query-index l.queries) ≡ any_grows l.queries
