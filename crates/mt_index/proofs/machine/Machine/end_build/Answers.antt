use Rattle.std.proofs.Common.{◌≤◌, ◌∙◌, refl, ap, sym, subst}
use Rattle.mt_view.specs.State.{StateView}
use Rattle.mt_commit.specs.Log.{newest}
use Rattle.mt_types.specs.declared.event.Outcome.{Outcome}
use Rattle.mt_index.specs.Calls.{call_at, IsBuiltCall}
use Rattle.mt_index.specs.Stands.{MachineView, EndsBuild, HasBounds, built_outcome}
use Rattle.mt_index.proofs.LaterStands.{seen}
use Rattle.mt_index.proofs.ViewEvents.{ends-stand}
use Rattle.mt_index.proofs.MachineLemmas.{build_place, build_held, build_within, is_built_of, room_to_pin, ends_build, bounds_kept}
use Rattle.mt_index.proofs.machine.Machine.end_build.Goals as goal

pub close_build-opened-requires-clause-place : goal.close_build-opened-requires-clause-place
close_build-opened-requires-clause-place c = let (h, st) = c.self.invariant in build_place (seen c.self.inside.columns c.self.inside.epoch c.self.inside.tree c.self.inside.log c.self.inside.calls c.self.inside.views) h st c.args.number c.in-Some.call c.in-Build.building (sym c.remove.ensures.value ∙ c.in-Some.is) c.in-Build.is (is_built_of (call_at c.args.number c.self.inside.calls.calls) c.in-Some.call c.in-Build.building (sym c.remove.ensures.value ∙ c.in-Some.is) c.in-Build.is (subst (λ (s : MachineView). IsBuiltCall (call_at c.args.number s.calls.calls)) (sym c.self.view_is) c.requires))

pub close_build-opened-requires-clause-here : goal.close_build-opened-requires-clause-here
close_build-opened-requires-clause-here c = let (h, st) = c.self.invariant in subst (λ (s : StateView). c.self.inside.log.held_after ≤ s.at) (sym c.finish.ensures.state) (build_within (seen c.self.inside.columns c.self.inside.epoch c.self.inside.tree c.self.inside.log c.self.inside.calls c.self.inside.views) h st c.args.number c.in-Some.call c.in-Build.building (sym c.remove.ensures.value ∙ c.in-Some.is) c.in-Build.is (is_built_of (call_at c.args.number c.self.inside.calls.calls) c.in-Some.call c.in-Build.building (sym c.remove.ensures.value ∙ c.in-Some.is) c.in-Build.is (subst (λ (s : MachineView). IsBuiltCall (call_at c.args.number s.calls.calls)) (sym c.self.view_is) c.requires))).0

pub close_build-opened-requires-clause-done : goal.close_build-opened-requires-clause-done
close_build-opened-requires-clause-done c = let (h, st) = c.self.invariant in subst (λ (s : StateView). s.at ≤ newest c.self.inside.log) (sym c.finish.ensures.state) (build_within (seen c.self.inside.columns c.self.inside.epoch c.self.inside.tree c.self.inside.log c.self.inside.calls c.self.inside.views) h st c.args.number c.in-Some.call c.in-Build.building (sym c.remove.ensures.value ∙ c.in-Some.is) c.in-Build.is (is_built_of (call_at c.args.number c.self.inside.calls.calls) c.in-Some.call c.in-Build.building (sym c.remove.ensures.value ∙ c.in-Some.is) c.in-Build.is (subst (λ (s : MachineView). IsBuiltCall (call_at c.args.number s.calls.calls)) (sym c.self.view_is) c.requires))).1

pub close_build-opened-requires-clause-few : goal.close_build-opened-requires-clause-few
close_build-opened-requires-clause-few c = let (h, st) = c.self.invariant in room_to_pin (seen c.self.inside.columns c.self.inside.epoch c.self.inside.tree c.self.inside.log c.self.inside.calls c.self.inside.views) h st

pub close_build-opened-requires-clause-held : goal.close_build-opened-requires-clause-held
close_build-opened-requires-clause-held c = let (h, st) = c.self.invariant in build_held (seen c.self.inside.columns c.self.inside.epoch c.self.inside.tree c.self.inside.log c.self.inside.calls c.self.inside.views) h st c.args.number c.in-Some.call c.in-Build.building (sym c.remove.ensures.value ∙ c.in-Some.is) c.in-Build.is (is_built_of (call_at c.args.number c.self.inside.calls.calls) c.in-Some.call c.in-Build.building (sym c.remove.ensures.value ∙ c.in-Some.is) c.in-Build.is (subst (λ (s : MachineView). IsBuiltCall (call_at c.args.number s.calls.calls)) (sym c.self.view_is) c.requires))

pub invariant_of-self : goal.invariant_of-self
invariant_of-self c =
    let (h, st) = c.self.invariant in
    let (opens, then) = ends-stand (seen c.self.inside.columns c.self.inside.epoch c.self.inside.tree c.self.inside.log c.self.inside.calls c.self.inside.views) _ c.args.number _ h (ends_build (seen c.self.inside.columns c.self.inside.epoch c.self.inside.tree c.self.inside.log c.self.inside.calls c.self.inside.views) c.args.number c.in-Some.call.from c.in-Some.call c.in-Build.building c.finish.result c.close_build-opened.result c.close_build-opened.new.log c.trim.new.self c.remove.new.self c.close_build-opened.new.views (sym c.remove.ensures.value ∙ c.in-Some.is) c.in-Build.is (is_built_of (call_at c.args.number c.self.inside.calls.calls) c.in-Some.call c.in-Build.building (sym c.remove.ensures.value ∙ c.in-Some.is) c.in-Build.is (subst (λ (s : MachineView). IsBuiltCall (call_at c.args.number s.calls.calls)) (sym c.self.view_is) c.requires)) c.finish.ensures.state refl
    c.close_build-opened.ensures.number c.close_build-opened.ensures.unspent c.close_build-opened.ensures.log c.close_build-opened.ensures.views c.close_build-opened.ensures.err_log c.close_build-opened.ensures.err_views c.close_build-opened.ensures.why c.close_build-opened.ensures.sound c.trim.ensures.after c.remove.ensures.left) st in
    (_, then)

pub returns-clause-ends : goal.returns-clause-ends
returns-clause-ends c =
    subst (λ (o : Outcome). EndsBuild c.args.self.now c.args.number o (seen c.self.inside.columns c.self.inside.epoch c.self.inside.tree c.trim.new.self c.remove.new.self c.close_build-opened.new.views)) (sym (c.built_outcome.ensures ∙ ap (λ n. built_outcome c.in-Some.call.pass c.args.number c.in-Some.call.from n c.close_build-opened.result) c.number-to.ensures.value))
    (subst (λ (s : MachineView). EndsBuild s c.args.number (built_outcome c.in-Some.call.pass c.args.number c.in-Some.call.from (newest c.self.inside.log) c.close_build-opened.result) (seen c.self.inside.columns c.self.inside.epoch c.self.inside.tree c.trim.new.self c.remove.new.self c.close_build-opened.new.views)) c.self.view_is
    (ends_build (seen c.self.inside.columns c.self.inside.epoch c.self.inside.tree c.self.inside.log c.self.inside.calls c.self.inside.views) c.args.number c.in-Some.call.from c.in-Some.call c.in-Build.building c.finish.result c.close_build-opened.result c.close_build-opened.new.log c.trim.new.self c.remove.new.self c.close_build-opened.new.views (sym c.remove.ensures.value ∙ c.in-Some.is) c.in-Build.is (is_built_of (call_at c.args.number c.self.inside.calls.calls) c.in-Some.call c.in-Build.building (sym c.remove.ensures.value ∙ c.in-Some.is) c.in-Build.is (subst (λ (s : MachineView). IsBuiltCall (call_at c.args.number s.calls.calls)) (sym c.self.view_is) c.requires)) c.finish.ensures.state refl
    c.close_build-opened.ensures.number c.close_build-opened.ensures.unspent c.close_build-opened.ensures.log c.close_build-opened.ensures.views c.close_build-opened.ensures.err_log c.close_build-opened.ensures.err_views c.close_build-opened.ensures.why c.close_build-opened.ensures.sound c.trim.ensures.after c.remove.ensures.left))

pub returns-clause-bounds : goal.returns-clause-bounds
returns-clause-bounds c =
    subst (λ (s : MachineView). HasBounds s.log.capacity s.log.retention c.trim.new.self) c.self.view_is
    (bounds_kept (seen c.self.inside.columns c.self.inside.epoch c.self.inside.tree c.self.inside.log c.self.inside.calls c.self.inside.views) (seen c.self.inside.columns c.self.inside.epoch c.self.inside.tree c.trim.new.self c.remove.new.self c.close_build-opened.new.views) c.args.number _ (ends_build (seen c.self.inside.columns c.self.inside.epoch c.self.inside.tree c.self.inside.log c.self.inside.calls c.self.inside.views) c.args.number c.in-Some.call.from c.in-Some.call c.in-Build.building c.finish.result c.close_build-opened.result c.close_build-opened.new.log c.trim.new.self c.remove.new.self c.close_build-opened.new.views (sym c.remove.ensures.value ∙ c.in-Some.is) c.in-Build.is (is_built_of (call_at c.args.number c.self.inside.calls.calls) c.in-Some.call c.in-Build.building (sym c.remove.ensures.value ∙ c.in-Some.is) c.in-Build.is (subst (λ (s : MachineView). IsBuiltCall (call_at c.args.number s.calls.calls)) (sym c.self.view_is) c.requires)) c.finish.ensures.state refl
    c.close_build-opened.ensures.number c.close_build-opened.ensures.unspent c.close_build-opened.ensures.log c.close_build-opened.ensures.views c.close_build-opened.ensures.err_log c.close_build-opened.ensures.err_views c.close_build-opened.ensures.why c.close_build-opened.ensures.sound c.trim.ensures.after c.remove.ensures.left))
