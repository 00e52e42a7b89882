use Rattle.std.proofs.Common.{◌≡◌, drop}
use Rattle.mt_talk.specs.Serving.{changes_rows}
use Rattle.mt_talk.proofs.server.changes_rows.Given as goal

-- none of the queries so far changes a row
abbrev pub invariant-loop-query : goal.invariant-loop-query
invariant-loop-query l = changes_rows (drop l.query-index l.queries) ≡ changes_rows l.queries
