use Rattle.std.proofs.Common.{◌∙◌, ◌≡◌, ◌≤◌, ◌-◌, ap, sym, subst, length, arith}
use Rattle.mt_types.specs.declared.limits.TheConstants.{MAX_OPEN_CALLS}
use Rattle.mt_index.specs.Calls.{is_of, CallsView, AreBegun, call_at, changing, without, with_first}
use Rattle.mt_index.proofs.NumberLemmas.{Entries, lookup-call_at, begun-without}
use Rattle.mt_index.proofs.CountLemmas.{changing_left}
use Rattle.mt_index.proofs.FirstLemmas.{call_other, removed_other, many_without}
use Rattle.mt_index.proofs.calls.Calls.remove.Goals as goal

pub overflow_sub-self-2 : goal.overflow_sub-self-2
overflow_sub-self-2 c =
    let all = with_first c.self.inside.first.value c.self.inside.others.entries in
    let at = sym (c.in_ok-call-2.ensures.value ∙ lookup-call_at c.args.number c.self.inside.others.entries
    ∙ sym (call_other c.args.number c.self.inside.first.value c.self.inside.others.entries (sym (c.is_of.ensures ∙ ap (is_of c.args.number) c.deref.ensures) ∙ c.if-is_of.false))) in
    let both = changing_left c.args.number c.in_ok-call-2.call all at in
    let old = c.self.invariant.2 in
    let one = c.changes-2.ensures in
    omega (arith, both, old, one)

pub invariant_of-self-2 : goal.invariant_of-self-2
invariant_of-self-2 c =
    let all = with_first c.self.inside.first.value c.self.inside.others.entries in
    let left = removed_other c.args.number c.self.inside.first.value c.self.inside.others.entries c.remove.new.self.entries (sym (c.is_of.ensures ∙ ap (is_of c.args.number) c.deref.ensures) ∙ c.if-is_of.false) c.remove.ensures.entries in
    let at = sym (c.in_ok-call-2.ensures.value ∙ lookup-call_at c.args.number c.self.inside.others.entries
    ∙ sym (call_other c.args.number c.self.inside.first.value c.self.inside.others.entries (sym (c.is_of.ensures ∙ ap (is_of c.args.number) c.deref.ensures) ∙ c.if-is_of.false))) in (
      subst (λ (entries : Entries). AreBegun c.self.inside.begun entries) (sym left) (begun-without c.args.number c.self.inside.begun all c.self.invariant.0),
      subst (λ (entries : Entries). length entries ≤ MAX_OPEN_CALLS) (sym left) (let fewer = many_without c.args.number all in let few = c.self.invariant.1 in omega (arith, fewer, few)),
      subst (λ (entries : Entries). c.self.inside.writers - c.changes-2.result ≡ changing entries) (sym left)
          (let both = changing_left c.args.number c.in_ok-call-2.call all at in let old = c.self.invariant.2 in let one = c.changes-2.ensures in omega (arith, both, old, one)),
    )

pub returns-clause-value : goal.returns-clause-value
returns-clause-value c =
    c.in_ok-call-2.ensures.value ∙ lookup-call_at c.args.number c.self.inside.others.entries
    ∙ sym (call_other c.args.number c.self.inside.first.value c.self.inside.others.entries (sym (c.is_of.ensures ∙ ap (is_of c.args.number) c.deref.ensures) ∙ c.if-is_of.false))
    ∙ ap (λ (s : CallsView). call_at c.args.number s.calls) c.self.view_is

pub returns-in_err-call-2-clause-value : goal.returns-in_err-call-2-clause-value
returns-in_err-call-2-clause-value c =
    c.from_residual-in_err-call-2.ensures ∙ c.in_err-call-2.ensures.value ∙ lookup-call_at c.args.number c.self.inside.others.entries
    ∙ sym (call_other c.args.number c.self.inside.first.value c.self.inside.others.entries (sym (c.is_of.ensures ∙ ap (is_of c.args.number) c.deref.ensures) ∙ c.if-is_of.false))
    ∙ ap (λ (s : CallsView). call_at c.args.number s.calls) c.self.view_is

pub returns-clause-left : goal.returns-clause-left
returns-clause-left c =
    ap (λ (entries : Entries). record { begun = c.self.inside.begun; calls = entries })
    (removed_other c.args.number c.self.inside.first.value c.self.inside.others.entries c.remove.new.self.entries (sym (c.is_of.ensures ∙ ap (is_of c.args.number) c.deref.ensures) ∙ c.if-is_of.false) c.remove.ensures.entries)
    ∙ ap (λ (s : CallsView). record { begun = s.begun; calls = without c.args.number s.calls }) c.self.view_is

pub returns-in_err-call-2-clause-left : goal.returns-in_err-call-2-clause-left
returns-in_err-call-2-clause-left c =
    ap (λ (entries : Entries). record { begun = c.self.inside.begun; calls = entries })
    (removed_other c.args.number c.self.inside.first.value c.self.inside.others.entries c.remove.new.self.entries (sym (c.is_of.ensures ∙ ap (is_of c.args.number) c.deref.ensures) ∙ c.if-is_of.false) c.remove.ensures.entries)
    ∙ ap (λ (s : CallsView). record { begun = s.begun; calls = without c.args.number s.calls }) c.self.view_is
