use Rattle.std.proofs.Common.{◌≡◌, drop}
use Rattle.std.specs.Prelude.{not}
use Rattle.std.specs.List.{list_any}
use Rattle.mt_talk.specs.Serving.{may}
use Rattle.mt_talk.proofs.server.may_all.Given as goal

-- each of the queries so far may be asked
abbrev pub invariant-loop-query : goal.invariant-loop-query
invariant-loop-query l = list_any (λ query. not (may l.role query)) (drop l.query-index l.queries) ≡ list_any (λ query. not (may l.role query)) l.queries
