use Rattle.std.proofs.Common.{◌≡◌, subst, sym, rules}
use Rattle.mt_commit.specs.Deltas.{redo}
use Rattle.mt_view.specs.State.{StateView, IsAfresh, applied}
use Rattle.mt_view.specs.StateFields.{state_of}
use Rattle.mt_view.proofs.AfreshLemmas.{applied_is_afresh}
use Rattle.mt_view.proofs.state.ViewState.apply.Goals as goal

pub returns-clause-afresh : goal.returns-clause-afresh
returns-clause-afresh c = λ rows h.
    let made : state_of (record c.self-2.inside { at = c.args.delta.now.number }) ≡ applied c.args.delta.now c.args.self.now = search rules in
    subst (λ (s : StateView). IsAfresh s (redo c.args.delta.now rows)) (sym made) (applied_is_afresh c.args.self.now c.args.delta.now rows h)
