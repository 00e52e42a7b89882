use Rattle.std.proofs.Common.{◌∙◌, ap, sym}
use Rattle.mt_index.specs.Calls.{is_of, CallsView, call_at}
use Rattle.mt_index.proofs.NumberLemmas.{lookup-call_at}
use Rattle.mt_index.proofs.FirstLemmas.{call_other}
use Rattle.mt_index.proofs.calls.Calls.call.Goals as goal

pub returns : goal.returns
returns c =
    c.get.ensures.value ∙ lookup-call_at c.args.number c.self.inside.others.entries
    ∙ sym (call_other c.args.number c.self.inside.first.value c.self.inside.others.entries (sym (c.is_of.ensures ∙ ap (is_of c.args.number) c.deref.ensures) ∙ c.if-is_of.false))
    ∙ ap (λ (s : CallsView). call_at c.args.number s.calls) c.self.view_is
