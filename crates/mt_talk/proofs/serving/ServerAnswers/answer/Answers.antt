use Rattle.std.proofs.Common.{◌++◌, List, Some, refl, ap, ◌∙◌, inr}
use Rattle.std.proofs.lemmas.Result.{on_ok_weaker, on_err_weaker}
use Rattle.mt_wire.specs.declared.response.Response.{Response}
use Rattle.mt_wire.specs.Spelling.{framed}
use Rattle.mt_wire.specs.Frames.{reply_frame}
use Rattle.mt_talk.proofs.serving.ServerAnswers.answer.Goals as goal

pub returns-in-None-clause-err : goal.returns-in-None-clause-err
returns-in-None-clause-err g c =
    let left = rw (c.as_slice.ensures, c.in-None.is) at c.in_ok-keep.ensures.value in
    on_err_weaker c.answer.result (λ h. (inr (c.keep.new.self, left, h.0), h.1)) c.answer.ensures.err

pub returns-in-Some-clause-reply : goal.returns-in-Some-clause-reply
returns-in-Some-clause-reply g c =
    let kept = rw (c.as_slice.ensures, c.in-Some.is) at c.in_ok-keep.ensures.value in
    on_ok_weaker c.append.result
    (λ written. (
      framed c.args.frame.version c.in-Some.responses.items,
      (Some c.in-Some.responses.items, kept, (refl, refl, refl, refl)),
      written ∙ ap (λ (l : List Response). c.args.out.now.items ++ reply_frame (framed c.args.frame.version l)) c.deref.ensures.value,
    ))
    c.append.ensures.frame
