use Rattle.std.proofs.Common.{◌≤◌, ◌<◌, ◌+◌, ◌∙◌, arith, ap, sym, subst}
use Rattle.mt_types.specs.declared.event.Outcome.TheVariants.{Applied, Current, Refused}
use Rattle.mt_types.specs.declared.refusal.Refusal.TheVariants.{NoMemory}
use Rattle.mt_view.specs.Views.{state_at}
use Rattle.mt_commit.specs.Laws.{times_held}
use Rattle.mt_commit.specs.Log.{LogView}
use Rattle.mt_index.specs.Stands.{MachineView, Applies}
use Rattle.mt_index.proofs.LaterStands.{seen}
use Rattle.mt_index.proofs.ApplyStands.{view_reaches, applies-stand}
use Rattle.mt_index.proofs.MachineLemmas.{state_there, no_state, meant_found, room_to_pin, takes_on, is_current, lacks_memory}
use Rattle.mt_index.proofs.machine.Machine.apply.Goals as goal

pub unreachable-requires : goal.unreachable-requires
unreachable-requires c =
    let (h, st) = c.self.invariant in
    meant_found (seen c.self.inside.columns c.self.inside.epoch c.self.inside.tree c.self.inside.log c.self.inside.calls c.self.inside.views) h st c.args.view c.in-Some.number (sym c.meant.ensures ∙ c.in-Some.is) (no_state (state_at c.in-Some.number c.self.inside.views.views) (sym c.at.ensures ∙ c.in_default-at.is))

pub returns-then-number-at-clause-applies : goal.returns-then-number-at-clause-applies
returns-then-number-at-clause-applies c = subst (λ (s : MachineView). Applies s c.args.view Current s) c.self.view_is
    (is_current (seen c.self.inside.columns c.self.inside.epoch c.self.inside.tree c.self.inside.log c.self.inside.calls c.self.inside.views) c.args.view c.in-Some.number c.in-Some-at.at (sym c.meant.ensures ∙ c.in-Some.is) (sym c.at.ensures ∙ c.in-Some-at.is) (subst (λ n. n ≤ c.in-Some-at.at) c.number.ensures.value c.if-number-at.true))

pub apply_next-requires-clause-here : goal.apply_next-requires-clause-here
apply_next-requires-clause-here c =
    let (h, st) = c.self.invariant in
    let (state, there, at_is) = state_there (state_at c.in-Some.number c.self.inside.views.views) c.in-Some-at.at (sym c.at.ensures ∙ c.in-Some-at.is) in
    let low = (view_reaches (seen c.self.inside.columns c.self.inside.epoch c.self.inside.tree c.self.inside.log c.self.inside.calls c.self.inside.views) h st c.in-Some.number state there).0 in
    omega (arith, low, at_is)

pub apply_next-requires-clause-few : goal.apply_next-requires-clause-few
apply_next-requires-clause-few c = let (h, st) = c.self.invariant in room_to_pin (seen c.self.inside.columns c.self.inside.epoch c.self.inside.tree c.self.inside.log c.self.inside.calls c.self.inside.views) h st

pub apply_next-requires-clause-held : goal.apply_next-requires-clause-held
apply_next-requires-clause-held c =
    let (h, st) = c.self.invariant in
    let (state, there, at_is) = state_there (state_at c.in-Some.number c.self.inside.views.views) c.in-Some-at.at (sym c.at.ensures ∙ c.in-Some-at.is) in
    subst (λ n. 0 < times_held n c.self.inside.log.holders) at_is (view_reaches (seen c.self.inside.columns c.self.inside.epoch c.self.inside.tree c.self.inside.log c.self.inside.calls c.self.inside.views) h st c.in-Some.number state there).1

pub returns-in_default-apply_next-clause-applies : goal.returns-in_default-apply_next-clause-applies
returns-in_default-apply_next-clause-applies c =
    subst (λ (s : MachineView). Applies s c.args.view (Refused NoMemory) (seen c.self.inside.columns c.self.inside.epoch c.self.inside.tree c.apply_next.new.log c.self.inside.calls c.apply_next.new.views)) c.self.view_is
    (lacks_memory (seen c.self.inside.columns c.self.inside.epoch c.self.inside.tree c.self.inside.log c.self.inside.calls c.self.inside.views) _ c.args.view c.in-Some.number c.in-Some-at.at (sym c.meant.ensures ∙ c.in-Some.is) (sym c.at.ensures ∙ c.in-Some-at.is) (subst (λ n. c.in-Some-at.at < n) c.number.ensures.value c.if-number-at.false)
    (ap (λ (l : LogView). seen c.self.inside.columns c.self.inside.epoch c.self.inside.tree l c.self.inside.calls c.apply_next.new.views) c.in_default-apply_next.ensures.err.0 ∙ ap (seen c.self.inside.columns c.self.inside.epoch c.self.inside.tree c.self.inside.log c.self.inside.calls) c.in_default-apply_next.ensures.err.1))

pub invariant_of-self-2 : goal.invariant_of-self-2
invariant_of-self-2 c =
    let (h, st) = c.self.invariant in (
      _,
      applies-stand (seen c.self.inside.columns c.self.inside.epoch c.self.inside.tree c.self.inside.log c.self.inside.calls c.self.inside.views) h st _ (record { 0 = c.args.view }) (Applied (c.in-Some-at.at + 1))
          (takes_on (seen c.self.inside.columns c.self.inside.epoch c.self.inside.tree c.self.inside.log c.self.inside.calls c.self.inside.views) c.args.view c.in-Some.number c.in-Some-at.at c.apply_next.new.log c.trim.new.self c.apply_next.new.views (sym c.meant.ensures ∙ c.in-Some.is) (sym c.at.ensures ∙ c.in-Some-at.is) (subst (λ n. c.in-Some-at.at < n) c.number.ensures.value c.if-number-at.false)
          c.in-Ok.ensures.log c.in-Ok.ensures.sound c.trim.ensures.after c.in-Ok.ensures.views),
    )

pub returns-clause-applies : goal.returns-clause-applies
returns-clause-applies c =
    subst (λ (s : MachineView). Applies s c.args.view (Applied (c.in-Some-at.at + 1)) (seen c.self.inside.columns c.self.inside.epoch c.self.inside.tree c.trim.new.self c.self.inside.calls c.apply_next.new.views)) c.self.view_is
    (takes_on (seen c.self.inside.columns c.self.inside.epoch c.self.inside.tree c.self.inside.log c.self.inside.calls c.self.inside.views) c.args.view c.in-Some.number c.in-Some-at.at c.apply_next.new.log c.trim.new.self c.apply_next.new.views (sym c.meant.ensures ∙ c.in-Some.is) (sym c.at.ensures ∙ c.in-Some-at.is) (subst (λ n. c.in-Some-at.at < n) c.number.ensures.value c.if-number-at.false)
    c.in-Ok.ensures.log c.in-Ok.ensures.sound c.trim.ensures.after c.in-Ok.ensures.views)
