use Rattle.std.proofs.Common.{subst, sym}
use Rattle.mt_types.specs.declared.numbers.CallNo.{CallNo}
use Rattle.mt_shared.specs.declared.driving.Started.{Started}
use Rattle.mt_shared.specs.Drives.{IsStarted}
use Rattle.mt_shared.proofs.DriveLemmas.{IsUnderWay, begun_goes, run_finishes, run_goes, start_refused}
use Rattle.mt_shared.proofs.driving.finish.Goals as goal
use Rattle.mt_shared.proofs.driving.finish.Goals.{in-Begun, in-Ran+in_default}

pub returns-in-Refused-clause-drive : goal.returns-in-Refused-clause-drive
returns-in-Refused-clause-drive g c = λ s p request same is.
    start_refused g.S.Shared.does s p request c.in-Refused.refusal _ c.args.pass.now
    (subst (λ (w : Started). IsStarted g.S.Shared.does s p request w c.args.shared.now c.args.pass.now) c.in-Refused.is is)

-- ---- the run with which the call was started ends it
pub returns-in-Some-clause-drive : goal.returns-in-Some-clause-drive
returns-in-Some-clause-drive g c = λ s p request same is.
    let ran = subst (λ (w : Started). IsStarted g.S.Shared.does s p request w c.args.shared.now c.args.pass.now) c.in-Ran.is is in
    let (m, r, begun, gone) = ran in
    run_finishes g.S.Shared.does s p request c.in-Ran.call m r c.in-Ran.last _ c.args.pass.now c.args.seen c.in-Some.end (begun_goes g.S.Shared.does s p request c.in-Ran.call m r begun) gone same c.in-Some.ensures

pub loop-end-init : goal.loop-end-init
loop-end-init g c = λ s p request same is. elim c.match-started.branch [
  | in-Begun w ↦
      subst (λ (n : CallNo). IsUnderWay g.S.Shared.does s p request n c.args.shared.now c.args.pass.now) (sym w.call-is)
      (begun_goes g.S.Shared.does s p request w.in-Begun.call _ c.args.pass.now
      (subst (λ (x : Started). IsStarted g.S.Shared.does s p request x c.args.shared.now c.args.pass.now) w.in-Begun.is is))
  | in-Ran+in_default w ↦ (
      let ran = subst (λ (x : Started). IsStarted g.S.Shared.does s p request x c.args.shared.now c.args.pass.now) w.in-Ran.is is in
      let (m, r, begun, gone) = ran in
      subst (λ (n : CallNo). IsUnderWay g.S.Shared.does s p request n c.args.shared.now c.args.pass.now) (sym w.call-is)
      (run_goes g.S.Shared.does s p request w.in-Ran.call m r w.in-Ran.last _ c.args.pass.now (begun_goes g.S.Shared.does s p request w.in-Ran.call m r begun) gone w.in_default.ensures))
]

-- ---- a further run
pub returns-in-Some-after_run-clause-drive : goal.returns-in-Some-after_run-clause-drive
returns-in-Some-after_run-clause-drive g c = λ s p request same is.
    run_finishes g.S.Shared.does s p request c.match-started.call _ c.loop-end.pass c.go-last.result _ c.go-last.new.pass c.args.seen c.in-Some-after_run.end (c.loop-end.invariant s p request same is) c.go-last.ensures.goes same c.in-Some-after_run.ensures

pub loop-end-preserved : goal.loop-end-preserved
loop-end-preserved g c = λ s p request same is.
    run_goes g.S.Shared.does s p request c.match-started.call _ c.loop-end.pass c.go-last.result _ c.go-last.new.pass (c.loop-end.invariant s p request same is) c.go-last.ensures.goes c.in_default-after_run.ensures
