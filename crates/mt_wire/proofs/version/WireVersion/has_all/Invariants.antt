use Rattle.std.proofs.Common.{drop}
use Rattle.std.specs.List.{AllByRecursion}
use Rattle.mt_wire.specs.Versions.{HasQuery}
use Rattle.mt_wire.proofs.version.WireVersion.has_all.Given as goal

-- the version has the queries so far
abbrev pub invariant-loop-query : goal.invariant-loop-query
invariant-loop-query l = AllByRecursion (HasQuery l.self) (drop l.query-index l.queries) → AllByRecursion (HasQuery l.self) l.queries
