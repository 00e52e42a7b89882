use Rattle.std.proofs.Common.{arith}
use Rattle.mt_write.specs.Runs.{state}
use Rattle.mt_write.proofs.RunLemmas.{ends_run, few_commits, run_commits, runs_further, runs_none}
use Rattle.mt_write.proofs.writing.Write.run.Goals as goal

pub loop-steps-init : goal.loop-steps-init
loop-steps-init c = record {
  running = runs_none c.args.columns (state c.args.tree.now c.args.log.now c.args.self.now);
  may = c.requires.may;
  trimmed = c.requires.trimmed;
  few = omega arith;
}

pub overflow_add-steps : goal.overflow_add-steps
overflow_add-steps c = let few = c.loop-steps.invariant.few in let fits = c.ranges.most.fits in let most = c.advance-part.ensures.most in omega (arith, few, fits, most)

pub overflow_add-commits : goal.overflow_add-commits
overflow_add-commits c =
    let few = c.loop-steps.invariant.few in
    let made = few_commits c.loop-steps.invariant.running in
    let more = run_commits c.advance-part.ensures.runs in
    let fits = c.ranges.most.fits in
    let most = c.advance-part.ensures.most in
    omega (arith, few, made, more, fits, most)

pub returns-then-steps-most-clause-runs : goal.returns-then-steps-most-clause-runs
returns-then-steps-most-clause-runs c = ends_run c.args.columns (state c.args.tree.now c.args.log.now c.args.self.now) (state c.loop-steps.tree c.loop-steps.log c.loop-steps.self) (state c.advance-part.new.tree c.advance-part.new.log c.advance-part.new.self) c.loop-steps.steps c.loop-steps.commits c.advance-part.result c.loop-steps.invariant.running c.advance-part.ensures.runs

pub returns-then-steps-most-clause-most : goal.returns-then-steps-most-clause-most
returns-then-steps-most-clause-most c = let few = c.loop-steps.invariant.few in let most = c.advance-part.ensures.most in omega (arith, few, most)

pub loop-steps-smaller : goal.loop-steps-smaller
loop-steps-smaller c = let more = c.if-steps-most.false in let some = c.advance-part.ensures.some in omega (arith, more, some)

pub loop-steps-preserved : goal.loop-steps-preserved
loop-steps-preserved c =
    let on = c.advances.ensures.0 c.if-not-advances.false in
    let more = c.if-steps-most.false in
    record {
      running = runs_further c.args.columns (state c.args.tree.now c.args.log.now c.args.self.now) (state c.loop-steps.tree c.loop-steps.log c.loop-steps.self) (state c.advance-part.new.tree c.advance-part.new.log c.advance-part.new.self) c.loop-steps.steps c.loop-steps.commits c.advance-part.result c.loop-steps.invariant.running c.advance-part.ensures.runs on;
      may = c.advance-part.ensures.next on;
      trimmed = c.advance-part.ensures.trimmed;
      few = omega (arith, more);
    }
