use Rattle.std.proofs.Common.{◌≡◌, ℕ, false, true, length, Some, OnOk, OnErr, arith, refl, ◌∙◌, ap, sym, subst}
use Rattle.std.specs.declared.result.Result.{Result}
use Rattle.std.specs.declared.result.Result.TheVariants.{Ok, Err}
use Rattle.std.specs.BTreeMap.{BTreeMap, is_at}
use Rattle.std.specs.Map.{lookup, set_value}
use Rattle.std.specs.Ordering.{nat_cmp}
use Rattle.std.proofs.lemmas.Bool.{ne_eqb}
use Rattle.std.proofs.lemmas.Result.{on_ok_weaker, on_err_weaker}
use Rattle.mt_types.specs.declared.row.Delta.{Delta}
use Rattle.mt_view.specs.State.{StateView, applied}
use Rattle.mt_view.specs.Views.{ViewsView, Rises, state_at, with_state}
use Rattle.mt_view.specs.ViewsFields.{AreViews, IsQueueOf, stands_at, views_of}
use Rattle.mt_view.specs.declared.views.Views.TheInside.{Inside}
use Rattle.mt_view.proofs.ViewLemmas.{Entries, lookup-state, never_none, same_state, set-state, rises-state, as-many-with-state, state-itself}
use Rattle.mt_view.proofs.QueueLemmas.{Queue, queue-moved, queue-stays, queue-unchanged, queue-undone, turn-is}
use Rattle.mt_view.proofs.views.Views.apply.Goals as goal

-- the views with another state of the one that was lent, and their queue
module _ (i : Inside) (number : ℕ) (state new_state : StateView) (views : BTreeMap ℕ StateView) (queue : Queue) (are : AreViews i)
    (found : Some state ≡ lookup (is_at (nat_cmp number)) i.views.entries) (written : views.entries ≡ set_value (is_at (nat_cmp number)) i.views.entries new_state) where
  there : state_at number i.views.entries ≡ Some state
  there = sym (found ∙ lookup-state number i.views.entries)

  entries-are : views.entries ≡ with_state number new_state i.views.entries
  entries-are = written ∙ set-state number 0 i.built new_state i.views.entries are.rises

  are-views : IsQueueOf (with_state number new_state i.views.entries) queue → AreViews (record { built = i.built; building = i.building; views = views; queue = queue })
  are-views queued =
      let as_many = ap (λ (l : Entries). length l) entries-are ∙ as-many-with-state number new_state i.views.entries in
      let few = are.few in
      record {
        rises = subst (λ (l : Entries). Rises 0 i.built l) (sym entries-are) (rises-state number 0 i.built new_state i.views.entries are.rises);
        few = omega (arith, as_many, few);
        queued = subst (λ (l : Entries). IsQueueOf l queue) (sym entries-are) queued;
      }

  -- if the state is the old one, nothing has changed
  nothing-changed : new_state ≡ state → views_of (record { built = i.built; building = i.building; views = views; queue = queue }) ≡ views_of i
  nothing-changed same =
      ap (λ (l : Entries). record { built = i.built; building = i.building; views = l })
      (entries-are ∙ ap (λ (s : StateView). with_state number s i.views.entries) same ∙ state-itself number 0 i.built state i.views.entries are.rises there)

  -- if it has taken the delta
  has-taken : (delta : Delta) (old : ViewsView) → views_of i ≡ old → new_state ≡ applied delta state → (other : StateView) → state_at number old.views ≡ Some other
      → views_of (record { built = i.built; building = i.building; views = views; queue = queue }) ≡ record old { views = with_state number (applied delta other) old.views }
  has-taken delta old seen is other at =
      let same = same_state state other (sym there ∙ ap (λ (s : ViewsView). state_at number s.views) seen) at in
      ap (λ (l : Entries). record { built = i.built; building = i.building; views = l }) (entries-are ∙ ap (λ (s : StateView). with_state number s i.views.entries) (is ∙ ap (applied delta) same))
      ∙ ap (λ (v : ViewsView). record v { views = with_state number (applied delta other) v.views }) seen

-- if both outcomes say one thing
either_way : {T E P Q G : Type 0} (r : Result T E) → OnOk r P → OnErr r Q → (P → G) → (Q → G) → G
either_way (Ok x) ok err if_ok if_err = if_ok ok
either_way (Err x) ok err if_ok if_err = if_err err

-- what holds anyway holds on an error
on_err_always : {T E P : Type 0} (r : Result T E) → P → OnErr r P
on_err_always (Ok x) holds = tt
on_err_always (Err x) holds = holds

pub unreachable-requires : goal.unreachable-requires
unreachable-requires c = never_none (state_at c.args.number c.args.self.now.views) c.requires
    (sym (c.in_default.ensures.value ∙ lookup-state c.args.number c.self.inside.views.entries ∙ ap (λ (s : ViewsView). state_at c.args.number s.views) c.self.view_is))

-- ---- it stands there already
pub invariant_of-self : goal.invariant_of-self
invariant_of-self c =
    let state = c.in-Some.state.now in
    let new_state = c.apply.new.self in
    let here : state.at ≡ c.args.delta.now.number = sym c.at-at.ensures ∙ c.if-at-delta.true in
    let stays : state.at ≡ new_state.at = either_way c.apply.result c.apply.ensures.ok c.apply.ensures.err (λ is. here ∙ sym (ap (λ (s : StateView). s.at) is)) (λ is. sym (ap (λ (s : StateView). s.at) is)) in
    let found = c.in-Some.ensures.value in
    are-views c.self.inside c.args.number state new_state (c.get_mut.follows.lender new_state) c.self.inside.queue c.self.invariant found (c.get_mut.follows.holds new_state).0
    (queue-stays c.args.number state new_state c.self.inside.views.entries c.self.inside.queue stays (sym (found ∙ lookup-state c.args.number c.self.inside.views.entries)) c.self.invariant.queued)

pub returns-then-at-delta-clause-ok : goal.returns-then-at-delta-clause-ok
returns-then-at-delta-clause-ok c =
    let state = c.in-Some.state.now in
    on_ok_weaker c.apply.result
    (has-taken c.self.inside c.args.number state c.apply.new.self (c.get_mut.follows.lender c.apply.new.self) c.self.inside.queue c.self.invariant c.in-Some.ensures.value (c.get_mut.follows.holds c.apply.new.self).0 c.args.delta.now c.args.self.now c.self.view_is)
    c.apply.ensures.ok

pub returns-then-at-delta-clause-err : goal.returns-then-at-delta-clause-err
returns-then-at-delta-clause-err c =
    let state = c.in-Some.state.now in
    on_err_weaker c.apply.result
    (λ is. nothing-changed c.self.inside c.args.number state c.apply.new.self (c.get_mut.follows.lender c.apply.new.self) c.self.inside.queue c.self.invariant c.in-Some.ensures.value (c.get_mut.follows.holds c.apply.new.self).0 is ∙ c.self.view_is)
    c.apply.ensures.err

-- ---- its new turn finds no memory
pub invariant_of-self-in_err-insert : goal.invariant_of-self-in_err-insert
invariant_of-self-in_err-insert c =
    let state = c.in-Some.state.now in
    let vs = c.self.inside.views.entries in
    let found = c.in-Some.ensures.value in
    are-views c.self.inside c.args.number state state (c.get_mut.follows.lender state) c.insert.new.self c.self.invariant found (c.get_mut.follows.holds state).0
    (queue-stays c.args.number state state vs c.insert.new.self refl (sym (found ∙ lookup-state c.args.number vs))
    (queue-unchanged vs c.self.inside.queue c.insert.new.self c.in_err-insert.ensures.err c.self.invariant.queued))

pub returns-in_err-insert-clause-err : goal.returns-in_err-insert-clause-err
returns-in_err-insert-clause-err c =
    let state = c.in-Some.state.now in
    on_err_always c.from_residual.result
    (nothing-changed c.self.inside c.args.number state state (c.get_mut.follows.lender state) c.insert.new.self c.self.invariant c.in-Some.ensures.value (c.get_mut.follows.holds state).0 refl ∙ c.self.view_is)

-- ---- its state finds no memory
pub invariant_of-self-in-Err : goal.invariant_of-self-in-Err
invariant_of-self-in-Err c =
    let state = c.in-Some.state.now in
    let new_state = c.apply-2.new.self in
    let vs = c.self.inside.views.entries in
    let found = c.in-Some.ensures.value in
    let there = sym (found ∙ lookup-state c.args.number vs) in
    let number = c.args.delta.now.number in
    let free = ap (stands_at number) there ∙ ne_eqb state.at number (λ e. c.if-at-delta.false (c.at-at.ensures ∙ e)) in
    are-views c.self.inside c.args.number state new_state (c.get_mut.follows.lender new_state) c.remove.new.self c.self.invariant found (c.get_mut.follows.holds new_state).0
    (queue-stays c.args.number state new_state vs c.remove.new.self (sym (ap (λ (s : StateView). s.at) c.in-Err.ensures.err)) there
    (queue-undone number c.args.number vs c.self.inside.queue c.insert.new.self c.remove.new.self free c.self.invariant.queued c.in_ok-insert.ensures.updates c.remove.ensures.updates))

pub returns-in-Err-clause-err : goal.returns-in-Err-clause-err
returns-in-Err-clause-err c =
    let state = c.in-Some.state.now in
    let new_state = c.apply-2.new.self in
    nothing-changed c.self.inside c.args.number state new_state (c.get_mut.follows.lender new_state) c.remove.new.self c.self.invariant c.in-Some.ensures.value (c.get_mut.follows.holds new_state).0 c.in-Err.ensures.err
    ∙ c.self.view_is

-- ---- it advances
pub invariant_of-self-2 : goal.invariant_of-self-2
invariant_of-self-2 c =
    let state = c.in-Some.state.now in
    let new_state = c.apply-2.new.self in
    let vs = c.self.inside.views.entries in
    let found = c.in-Some.ensures.value in
    let now_at : new_state.at ≡ c.args.delta.now.number = ap (λ (s : StateView). s.at) c.in_default-apply.ensures.ok in
    let put = turn-is c.args.delta.now.number new_state.at c.args.number true c.self.inside.queue c.insert.new.self (sym now_at) c.in_ok-insert.ensures.updates in
    let out = turn-is c.at-at.result state.at c.args.number false c.insert.new.self c.remove-2.new.self c.at-at.ensures c.remove-2.ensures.updates in
    are-views c.self.inside c.args.number state new_state (c.get_mut.follows.lender new_state) c.remove-2.new.self c.self.invariant found (c.get_mut.follows.holds new_state).0
    (queue-moved c.args.number state new_state vs c.self.inside.queue c.insert.new.self c.remove-2.new.self (λ e. c.if-at-delta.false (c.at-at.ensures ∙ e ∙ now_at))
    (sym (found ∙ lookup-state c.args.number vs)) c.self.invariant.queued put out)

pub returns-clause-ok : goal.returns-clause-ok
returns-clause-ok c =
    let state = c.in-Some.state.now in
    let new_state = c.apply-2.new.self in
    has-taken c.self.inside c.args.number state new_state (c.get_mut.follows.lender new_state) c.remove-2.new.self c.self.invariant c.in-Some.ensures.value (c.get_mut.follows.holds new_state).0 c.args.delta.now c.args.self.now c.self.view_is
    c.in_default-apply.ensures.ok
