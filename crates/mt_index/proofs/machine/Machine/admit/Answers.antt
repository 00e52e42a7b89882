use Rattle.std.proofs.Common.{◌∙◌, ◌≡◌, ◌+◌, ◌∷◌, None, ap, sym, subst}
use Rattle.std.specs.Prelude.{Contains}
use Rattle.mt_types.specs.declared.event.Outcome.TheVariants.{Call as Called}
use Rattle.mt_types.specs.declared.event.Event.TheVariants.{Begin}
use Rattle.mt_types.specs.Limits.{request_fault}
use Rattle.mt_promise.specs.History.{happening}
use Rattle.mt_promise.proofs.RowLimits.{neither_of}
use Rattle.mt_commit.specs.Log.{LogView, newest}
use Rattle.mt_works.specs.Works.{IsNew}
use Rattle.mt_index.specs.Calls.{CallsView}
use Rattle.mt_index.specs.Stands.{MachineView, Stands, fault_of, pinned, placed, released}
use Rattle.mt_index.proofs.LogStands.{pinned_holds, pinned_back}
use Rattle.mt_index.proofs.BeginStands.{begun-stands, called}
use Rattle.mt_index.proofs.LaterStands.{seen}
use Rattle.mt_index.proofs.MachineLemmas.{room_to_pin, key_fits_in}
use Rattle.mt_index.proofs.machine.Machine.admit.Goals as goal

pub work_of-requires : goal.work_of-requires
work_of-requires c = key_fits_in c.args.self.now.columns c.args.request (neither_of (request_fault c.args.self.now.columns c.args.request) _ c.requires).0

pub hold-requires : goal.hold-requires
hold-requires c = let (h, st) = c.self.invariant in record { few = room_to_pin (seen c.self.inside.columns c.self.inside.epoch c.self.inside.tree c.self.inside.log c.self.inside.calls c.self.inside.views) h st }

pub release-requires : goal.release-requires
release-requires c = λ is.
    subst (λ (l : LogView). Contains l.holders c.number-from.result) (sym c.in_ok-hold.ensures.ok)
    (subst (λ n. Contains (pinned c.reads_log-reads.result c.self.inside.log).holders n) (sym c.number-from.ensures.value) (pinned_holds c.reads_log-reads.result c.self.inside.log is))

pub invariant_of-self-in_default : goal.invariant_of-self-in_default
invariant_of-self-in_default c =
    let (h, st) = c.self.invariant in (
      h,
      subst (λ (l : LogView). Stands (seen c.self.inside.columns c.self.inside.epoch c.self.inside.tree l c.begin.new.self c.self.inside.views) h)
          (sym (c.release.ensures ∙ ap (λ n. released c.reads_log-reads.result n c.hold.new.log) c.number-from.ensures.value ∙ ap (released c.reads_log-reads.result (newest c.self.inside.log)) c.in_ok-hold.ensures.ok ∙ pinned_back c.reads_log-reads.result c.self.inside.log))
          (subst (λ (k : CallsView). Stands (seen c.self.inside.columns c.self.inside.epoch c.self.inside.tree c.self.inside.log k c.self.inside.views) h) (sym c.in_default.ensures.err) st),
    )

pub returns-in_default-clause-err : goal.returns-in_default-clause-err
returns-in_default-clause-err c =
    ap (λ (l : LogView). seen c.self.inside.columns c.self.inside.epoch c.self.inside.tree l c.begin.new.self c.self.inside.views)
    (c.release.ensures ∙ ap (λ n. released c.reads_log-reads.result n c.hold.new.log) c.number-from.ensures.value ∙ ap (released c.reads_log-reads.result (newest c.self.inside.log)) c.in_ok-hold.ensures.ok ∙ pinned_back c.reads_log-reads.result c.self.inside.log)
    ∙ ap (λ (k : CallsView). seen c.self.inside.columns c.self.inside.epoch c.self.inside.tree c.self.inside.log k c.self.inside.views) c.in_default.ensures.err ∙ c.self.view_is

pub invariant_of-self-2 : goal.invariant_of-self-2
invariant_of-self-2 c =
    let (h, st) = c.self.invariant in
    let s : MachineView = seen c.self.inside.columns c.self.inside.epoch c.self.inside.tree c.self.inside.log c.self.inside.calls c.self.inside.views in
    let none = subst (λ (s : MachineView). fault_of s c.args.request ≡ None) (sym c.self.view_is) c.requires in (
      happening (Begin c.args.pass c.args.request) (Called (record { 0 = c.self.inside.calls.begun + 1 })) 0 ∷ h,
      subst (λ (u : MachineView). Stands u (happening (Begin c.args.pass c.args.request) (Called (record { 0 = c.self.inside.calls.begun + 1 })) 0 ∷ h))
          (sym (begun-stands s c.hold.new.log c.begin.new.self c.occupy.new.views c.args.pass c.number-from.result c.args.request c.in_ok-work.work none c.in_ok-work.ensures.request (subst (λ n. IsNew c.self.inside.columns n c.in_ok-work.work) c.number-from.ensures.value c.in_ok-work.ensures.new) c.number-from.ensures.value
          c.in-Ok.ensures.ok (c.in_ok-hold.ensures.ok ∙ ap (λ reads. pinned reads c.self.inside.log) c.reads_log-reads.ensures) (c.occupy.ensures ∙ ap (λ builds. placed builds c.self.inside.views) c.is_build-builds.ensures)))
          (called s c.args.pass c.args.request c.in_ok-work.work h st none c.in_ok-work.ensures.request (subst (λ n. IsNew c.self.inside.columns n c.in_ok-work.work) c.number-from.ensures.value c.in_ok-work.ensures.new)),
    )
