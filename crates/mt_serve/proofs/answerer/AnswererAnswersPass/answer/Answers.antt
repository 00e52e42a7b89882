use Rattle.std.proofs.Common.{List, [], ◌++◌, length, refl, sym, ap, subst, ◌∙◌, append-nil}
use Rattle.mt_wire.specs.declared.query.Query.{Query}
use Rattle.mt_wire.specs.declared.response.Response.{Response}
use Rattle.mt_wire.specs.Spelling.{framed}
use Rattle.mt_wire.specs.Frames.{Holds, reply_frame}
use Rattle.mt_wire.specs.Limited.{ResponseIsLimited}
use Rattle.mt_serve.specs.Asking.{AnswersAll}
use Rattle.mt_serve.proofs.ServingLemmas.{answers_hold}
use Rattle.mt_serve.proofs.answerer.AnswererAnswersPass.answer.Goals as goal

pub append-requires : goal.append-requires
append-requires g c =
    let all = subst (λ (l : List Query). AnswersAll g.S.Shared.does g.S.Shared.shows g.S.Shared.pages g.S.Shared.glances g.S.Shared.looks c.args.shared.now c.args.pass.now l c.in-Ok.responses.items c.answer_each-answered.new.shared c.answer_each-answered.new.pass) c.into_vec.ensures c.in-Ok.ensures.all in
    subst (λ (l : List Response). Holds ResponseIsLimited l) (sym c.deref.ensures.value) (answers_hold g.S.Shared.does g.S.Shared.shows g.S.Shared.pages g.S.Shared.glances g.S.Shared.looks _ _ _ _ c.args.frame c.in-Ok.responses.items c.requires all c.in-Ok.ensures.limited)

pub returns-clause-reply : goal.returns-clause-reply
returns-clause-reply g c =
    let all = subst (λ (l : List Query). AnswersAll g.S.Shared.does g.S.Shared.shows g.S.Shared.pages g.S.Shared.glances g.S.Shared.looks c.args.shared.now c.args.pass.now l c.in-Ok.responses.items c.release.new.shared c.answer_each-answered.new.pass) c.into_vec.ensures (rw c.release.ensures c.in-Ok.ensures.all) in
    (framed c.args.frame.version c.in-Ok.responses.items, ((refl, all), ap length c.as_slice.ensures), c.in-Ok-append.ensures.frame ∙ ap (λ (l : List Response). c.args.out.now.items ++ reply_frame (framed c.args.frame.version l)) c.deref.ensures.value)

pub returns-in_default-append-clause-err : goal.returns-in_default-append-clause-err
returns-in_default-append-clause-err g c =
    let all = subst (λ (l : List Query). AnswersAll g.S.Shared.does g.S.Shared.shows g.S.Shared.pages g.S.Shared.glances g.S.Shared.looks c.args.shared.now c.args.pass.now l c.in-Ok.responses.items c.release.new.shared c.answer_each-answered.new.pass) c.into_vec.ensures (rw c.release.ensures c.in-Ok.ensures.all) in
    ((c.args.frame.messages, [], c.in-Ok.responses.items, sym (append-nil c.args.frame.messages), all), c.in_default-append.ensures.err)
