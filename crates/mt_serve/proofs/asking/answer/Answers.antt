use Rattle.std.proofs.Common.{sym, subst}
use Rattle.mt_wire.specs.declared.query.Query.{Query}
use Rattle.mt_wire.specs.declared.query.Query.TheVariants.{ViewDrop, ViewRead, Server}
use Rattle.mt_wire.specs.declared.response.Response.{Response}
use Rattle.mt_wire.specs.Limited.{ResponseIsLimited}
use Rattle.mt_serve.specs.Asking.{Answers}
use Rattle.mt_serve.proofs.ServingLemmas.{drop_answers, drop_limited, page_answers, page_limited, server_answers}
use Rattle.mt_serve.proofs.asking.answer.Goals as goal

pub returns-in-ViewRead-clause-answers : goal.returns-in-ViewRead-clause-answers
returns-in-ViewRead-clause-answers g c =
    subst (λ (query : Query). Answers g.S.Shared.does g.S.Shared.shows g.S.Shared.pages g.S.Shared.glances g.S.Shared.looks c.args.shared.now c.args.pass.now query c.page_response.result c.view_read.new.shared c.view_read.new.pass) (sym c.in-ViewRead.is)
    (subst (λ (response : Response). Answers g.S.Shared.does g.S.Shared.shows g.S.Shared.pages g.S.Shared.glances g.S.Shared.looks c.args.shared.now c.args.pass.now (ViewRead c.in-ViewRead.view c.in-ViewRead.floor c.in-ViewRead.start c.in-ViewRead.limit) response c.view_read.new.shared c.view_read.new.pass) (sym c.page_response.ensures)
    (page_answers g.S.Shared.does g.S.Shared.shows g.S.Shared.pages g.S.Shared.glances g.S.Shared.looks c.args.shared.now c.view_read.new.shared c.args.pass.now c.view_read.new.pass c.in-ViewRead.view c.in-ViewRead.floor c.in-ViewRead.start c.in-ViewRead.limit c.view_read.result c.view_read.ensures.read))

pub returns-in-ViewDrop-clause-answers : goal.returns-in-ViewDrop-clause-answers
returns-in-ViewDrop-clause-answers g c =
    subst (λ (query : Query). Answers g.S.Shared.does g.S.Shared.shows g.S.Shared.pages g.S.Shared.glances g.S.Shared.looks c.args.shared.now c.args.pass.now query c.drop_response.result c.view_drop.new.shared c.view_drop.new.pass) (sym c.in-ViewDrop.is)
    (subst (λ (response : Response). Answers g.S.Shared.does g.S.Shared.shows g.S.Shared.pages g.S.Shared.glances g.S.Shared.looks c.args.shared.now c.args.pass.now (ViewDrop c.in-ViewDrop.view) response c.view_drop.new.shared c.view_drop.new.pass) (sym c.drop_response.ensures)
    (drop_answers g.S.Shared.does g.S.Shared.shows g.S.Shared.pages g.S.Shared.glances g.S.Shared.looks c.args.shared.now c.view_drop.new.shared c.args.pass.now c.view_drop.new.pass c.in-ViewDrop.view c.view_drop.result c.view_drop.ensures.event))

pub returns-in-ViewRead-clause-limited : goal.returns-in-ViewRead-clause-limited
returns-in-ViewRead-clause-limited g c = subst (λ (r : Response). ResponseIsLimited r) (sym c.page_response.ensures) (page_limited c.view_read.result c.view_read.ensures.limited)

pub returns-in-ViewDrop-clause-limited : goal.returns-in-ViewDrop-clause-limited
returns-in-ViewDrop-clause-limited g c = subst (λ (r : Response). ResponseIsLimited r) (sym c.drop_response.ensures) (drop_limited c.view_drop.result)

pub returns-in-Read-clause-answers : goal.returns-in-Read-clause-answers
returns-in-Read-clause-answers g c =
    subst (λ (query : Query). Answers g.S.Shared.does g.S.Shared.shows g.S.Shared.pages g.S.Shared.glances g.S.Shared.looks c.args.shared.now c.args.pass.now query c.answer_read.result c.args.shared.now c.answer_read.new.pass) (sym c.in-Read.is)
    c.answer_read.ensures.answers

pub returns-clause-answers : goal.returns-clause-answers
returns-clause-answers g c =
    subst (λ (query : Query). Answers g.S.Shared.does g.S.Shared.shows g.S.Shared.pages g.S.Shared.glances g.S.Shared.looks c.args.shared.now c.args.pass.now query c.not_alone.result c.args.shared.now c.args.pass.now) (sym c.in-Server.is)
    (subst (λ (response : Response). Answers g.S.Shared.does g.S.Shared.shows g.S.Shared.pages g.S.Shared.glances g.S.Shared.looks c.args.shared.now c.args.pass.now (Server c.in-Server.field-0) response c.args.shared.now c.args.pass.now) (sym c.not_alone.ensures)
    (server_answers g.S.Shared.does g.S.Shared.shows g.S.Shared.pages g.S.Shared.glances g.S.Shared.looks c.args.shared.now c.args.pass.now c.in-Server.field-0))
