use Rattle.std.proofs.Common.{◌≡◌, ◌++◌, List}
use Rattle.std.specs.List.{AllByRecursion}
use Rattle.mt_wire.specs.declared.query.Query.{Query}
use Rattle.mt_wire.specs.Limited.{ResponseIsLimited}
use Rattle.mt_serve.specs.Asking.{AnswersAll}
use Rattle.mt_serve.proofs.answerer.answer_each.Given as goal

-- the queries that were taken so far are answered
abbrev pub invariant-loop-query : goal.invariant-loop-query
invariant-loop-query g l = record {
  answered : (done : List Query) × (l.fn.queries.items ≡ done ++ l.query-iterator.rest.items) × AnswersAll g.S.Shared.does g.S.Shared.shows g.S.Shared.pages g.S.Shared.glances g.S.Shared.looks l.fn.shared l.fn.pass done l.responses.items l.shared l.pass;
  limited : AllByRecursion ResponseIsLimited l.responses.items;
}
