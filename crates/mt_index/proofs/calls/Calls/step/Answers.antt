use Rattle.std.proofs.Common.{◌∙◌, ◌≡◌, ◌≤◌, ap, sym, subst, refl, length, Option, arith}
use Rattle.std.specs.BTreeMap as tree
use Rattle.mt_types.specs.declared.limits.TheConstants.{MAX_OPEN_CALLS}
use Rattle.mt_index.specs.Calls.{is_of, CallsView, AreBegun, call_at, changing, with_changed, with_work, with_first, MayStepOf, IsBuiltCall}
use Rattle.mt_index.specs.declared.calls.Call.{Call}
use Rattle.mt_index.proofs.NumberLemmas.{Entries, lookup-call_at, begun-changed}
use Rattle.mt_index.proofs.CountLemmas.{same_changes, changing_kept}
use Rattle.mt_index.proofs.FirstLemmas.{call_other, stepped_other, many_changed, kept_call, finds_so}
use Rattle.mt_index.proofs.calls.Calls.step.Goals as goal

pub returns-in_default-get_mut : goal.returns-in_default-get_mut
returns-in_default-get_mut c = (
  sym (c.in_default-get_mut.ensures.value ∙ lookup-call_at c.args.number c.self.inside.others.entries
      ∙ sym (call_other c.args.number c.self.inside.first.value c.self.inside.others.entries (sym (c.is_of.ensures ∙ ap (is_of c.args.number) c.deref.ensures) ∙ c.if-is_of.false))
      ∙ ap (λ (s : CallsView). call_at c.args.number s.calls) c.self.view_is),
  ap (λ (m : tree.BTreeMap _ _). record { begun = c.self.inside.begun; calls = with_first c.self.inside.first.value m.entries }) c.get_mut.follows.holds-at-none ∙ c.self.view_is,
  refl,
  refl,
)

pub step-requires-2 : goal.step-requires-2
step-requires-2 c =
    let found = sym (c.in-Some-get_mut.ensures.value ∙ lookup-call_at c.args.number c.self.inside.others.entries
    ∙ sym (call_other c.args.number c.self.inside.first.value c.self.inside.others.entries (sym (c.is_of.ensures ∙ ap (is_of c.args.number) c.deref.ensures) ∙ c.if-is_of.false))
    ∙ ap (λ (s : CallsView). call_at c.args.number s.calls) c.self.view_is) in
    λ unbuilt. subst (λ (r : Option Call). MayStepOf c.args.epoch c.args.columns c.args.tree.now c.args.log.now r) found (c.requires (λ built. unbuilt (subst IsBuiltCall found built)))

pub invariant_of-self-2 : goal.invariant_of-self-2
invariant_of-self-2 c =
    let all = with_first c.self.inside.first.value c.self.inside.others.entries in
    let other = sym (c.is_of.ensures ∙ ap (is_of c.args.number) c.deref.ensures) ∙ c.if-is_of.false in
    let found = sym (lookup-call_at c.args.number c.self.inside.others.entries) ∙ sym c.in-Some-get_mut.ensures.value in
    let written = (c.get_mut.follows.holds c.step-2.new.self).0 in
    let same = kept_call c.args.epoch c.args.columns c.in-Some-get_mut.call.now c.step-2.new.self c.args.tree.now c.step-2.new.tree c.args.log.now c.step-2.new.log c.step-2.result c.step-2.ensures in
    let changed = stepped_other c.args.number c.self.inside.first.value c.self.inside.others.entries (c.get_mut.follows.lender c.step-2.new.self).entries c.in-Some-get_mut.call.now c.step-2.new.self other found written same in (
      subst (λ (entries : Entries). AreBegun c.self.inside.begun entries) (sym changed) (begun-changed (with_work c.step-2.new.self.work) c.args.number c.self.inside.begun all c.self.invariant.0),
      subst (λ (entries : Entries). length entries ≤ MAX_OPEN_CALLS) (sym changed) (let many = many_changed (with_work c.step-2.new.self.work) c.args.number all in let few = c.self.invariant.1 in omega (arith, many, few)),
      subst (λ (entries : Entries). c.self.inside.writers ≡ changing entries) (sym changed)
          (c.self.invariant.2 ∙ sym (changing_kept c.args.number c.in-Some-get_mut.call.now c.step-2.new.self all (call_other c.args.number c.self.inside.first.value c.self.inside.others.entries other ∙ found)
          (same_changes c.args.epoch c.args.columns c.in-Some-get_mut.call.now c.step-2.new.self c.args.tree.now c.step-2.new.tree c.args.log.now c.step-2.new.log c.step-2.result c.step-2.ensures))),
    )

pub returns : goal.returns
returns c =
    let other = sym (c.is_of.ensures ∙ ap (is_of c.args.number) c.deref.ensures) ∙ c.if-is_of.false in
    let found = sym (lookup-call_at c.args.number c.self.inside.others.entries) ∙ sym c.in-Some-get_mut.ensures.value in
    let written = (c.get_mut.follows.holds c.step-2.new.self).0 in
    let same = kept_call c.args.epoch c.args.columns c.in-Some-get_mut.call.now c.step-2.new.self c.args.tree.now c.step-2.new.tree c.args.log.now c.step-2.new.log c.step-2.result c.step-2.ensures in
    finds_so c.args.epoch c.args.columns c.args.number c.args.self.now _ c.in-Some-get_mut.call.now c.step-2.new.self c.args.tree.now c.step-2.new.tree c.args.log.now c.step-2.new.log c.step-2.result c.step-2.ensures
    (sym (ap (λ (s : CallsView). call_at c.args.number s.calls) c.self.view_is) ∙ call_other c.args.number c.self.inside.first.value c.self.inside.others.entries other ∙ found)
    (ap (λ (entries : Entries). record { begun = c.self.inside.begun; calls = entries })
    (stepped_other c.args.number c.self.inside.first.value c.self.inside.others.entries (c.get_mut.follows.lender c.step-2.new.self).entries c.in-Some-get_mut.call.now c.step-2.new.self other found written same)
    ∙ ap (λ (s : CallsView). record { begun = s.begun; calls = with_changed (with_work c.step-2.new.self.work) c.args.number s.calls }) c.self.view_is)
