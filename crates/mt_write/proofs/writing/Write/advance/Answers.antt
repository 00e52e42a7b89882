-- A part of a run: one step, or all at a border.
use Rattle.std.proofs.Common.{◌∙◌, ◌*◌, ◌≤◌, ◌-◌, arith, length, IsSome, sym, ap, subst}
use Rattle.mt_arena.specs.Node.{border_at}
use Rattle.mt_write.specs.declared.running.WriteRun.{WriteRun}
use Rattle.mt_write.specs.declared.writing.Write.{Write}
use Rattle.mt_write.specs.declared.writing.Stage.TheVariants.{Seeks}
use Rattle.mt_write.specs.Follows.{MayLock}
use Rattle.mt_write.specs.Runs.{Advances, HasRun, MayRun, state}
use Rattle.mt_write.proofs.FinishLemmas.{may_seek_on, sought}
use Rattle.mt_write.proofs.PassLemmas.{finds_by, here_by, leads_by, lock_some, way_within}
use Rattle.mt_write.proofs.RunLemmas.{may_step}
use Rattle.mt_write.proofs.StageSteps.{may_be}
use Rattle.mt_write.proofs.writing.Write.advance.Goals as goal

-- ---- a visit
pub visit-requires-clause-may : goal.visit-requires-clause-may
visit-requires-clause-may c = (c.args.columns, c.args.log.now, may_be c.args.columns c.args.tree.now c.args.log.now c.args.self.now c.args.self.now.stage Seeks (c.is_seeking.ensures.0 c.if-not-is_seeking.false) (may_step c.args.columns (state c.args.tree.now c.args.log.now c.args.self.now) c.requires.may))

pub returns-in-Some-clause-runs : goal.returns-in-Some-clause-runs
returns-in-Some-clause-runs c = subst (λ (run : WriteRun). HasRun c.args.columns (state c.args.tree.now c.args.log.now c.args.self.now) run (state c.args.tree.now c.args.log.now c.visit.new.self)) (sym c.one_step.ensures)
    (sought c.args.columns c.args.tree.now c.args.log.now c.args.self.now c.requires.may c.requires.trimmed (c.is_seeking.ensures.0 c.if-not-is_seeking.false) c.free_numbers-before.ensures.arena c.number-trimmed.ensures.sound c.in-Some.last c.visit.new.self c.in-Some.ensures.visits c.in-Some.ensures.quiet)

pub returns-in-Some-clause-next : goal.returns-in-Some-clause-next
returns-in-Some-clause-next c = λ on. may_seek_on c.args.columns c.args.tree.now c.args.log.now c.args.self.now c.requires.may c.requires.trimmed (c.is_seeking.ensures.0 c.if-not-is_seeking.false) c.free_numbers-before.ensures.arena c.number-trimmed.ensures.sound c.in-Some.last c.visit.new.self c.in-Some.ensures.visits c.in-Some.ensures.quiet (subst Advances (ap (λ (run : WriteRun). run.last) c.one_step.ensures) on)

-- ---- a border that it may lock
pub border-border-requires : goal.border-border-requires
border-border-requires c = subst (λ (w : Write). IsSome (border_at c.args.tree.now.nodes w.way.node.0)) (sym (c.visit.ensures.at c.in_default.is).1) (lock_some c.args.tree.now c.args.self.now.way.node.0 (c.visit.ensures.at c.in_default.is).0)

pub rest_of-requires : goal.rest_of-requires
rest_of-requires c = let within = subst (λ (w : Write). 8 * w.way.layer ≤ length w.key - 1) (sym (c.visit.ensures.at c.in_default.is).1) (way_within c.args.tree.now c.args.self.now (c.is_seeking.ensures.0 c.if-not-is_seeking.false) (c.args.columns, c.args.log.now, c.requires.may)) in omega (arith, within)

pub finish-requires-clause-may : goal.finish-requires-clause-may
finish-requires-clause-may c = subst (λ (w : Write). MayRun c.args.columns (state c.args.tree.now c.args.log.now w)) (sym (c.visit.ensures.at c.in_default.is).1) c.requires.may

pub finish-requires-clause-idle : goal.finish-requires-clause-idle
finish-requires-clause-idle c = ap (λ (w : Write). w.stage) (c.visit.ensures.at c.in_default.is).1 ∙ (c.is_seeking.ensures.0 c.if-not-is_seeking.false)

pub finish-requires-clause-lock : goal.finish-requires-clause-lock
finish-requires-clause-lock c = subst (λ (w : Write). MayLock c.args.tree.now w.way.node.0) (sym (c.visit.ensures.at c.in_default.is).1) (c.visit.ensures.at c.in_default.is).0

pub pass-requires-clause-may : goal.pass-requires-clause-may
pass-requires-clause-may c = (c.args.columns, c.args.log.now, subst (λ (w : Write). MayRun c.args.columns (state c.args.tree.now c.args.log.now w)) (sym (c.visit.ensures.at c.in_default.is).1) c.requires.may)

pub pass-requires-clause-idle : goal.pass-requires-clause-idle
pass-requires-clause-idle c = ap (λ (w : Write). w.stage) (c.visit.ensures.at c.in_default.is).1 ∙ (c.is_seeking.ensures.0 c.if-not-is_seeking.false)

pub pass-requires-clause-lock : goal.pass-requires-clause-lock
pass-requires-clause-lock c = subst (λ (w : Write). MayLock c.args.tree.now w.way.node.0) (sym (c.visit.ensures.at c.in_default.is).1) (c.visit.ensures.at c.in_default.is).0

pub finish-requires-clause-here : goal.finish-requires-clause-here
finish-requires-clause-here c = here_by c.args.tree.now c.visit.new.self.key c.visit.new.self.way c.border-border.result.now c.border-border.ensures.value c.rest_of.result.now c.rest_of.ensures.value c.in-Ok.ensures.ends.0

pub finish-requires-clause-finds : goal.finish-requires-clause-finds
finish-requires-clause-finds c = finds_by c.args.tree.now c.visit.new.self.key c.visit.new.self.way c.border-border.result.now c.border-border.ensures.value c.rest_of.result.now c.rest_of.ensures.value c.in-Ok.found c.in-Ok.ensures.ends.1 c.in-Ok.ensures.stands

pub pass-requires-clause-leads : goal.pass-requires-clause-leads
pass-requires-clause-leads c = leads_by c.args.tree.now c.visit.new.self.key c.visit.new.self.way c.border-border.result.now c.border-border.ensures.value c.rest_of.result.now c.rest_of.ensures.value c.in-Err.visit c.in-Err.ensures.leads

pub returns-in-Err-clause-runs : goal.returns-in-Err-clause-runs
returns-in-Err-clause-runs c = subst (λ (w : Write). HasRun c.args.columns (state c.args.tree.now c.args.log.now w) c.pass.result (state c.pass.new.tree c.args.log.now c.pass.new.self)) (c.visit.ensures.at c.in_default.is).1 (c.pass.ensures.runs c.args.columns c.args.log.now (subst (λ (w : Write). MayRun c.args.columns (state c.args.tree.now c.args.log.now w)) (sym (c.visit.ensures.at c.in_default.is).1) c.requires.may) c.requires.trimmed c.number-trimmed.ensures.sound).runs

pub returns-in-Err-clause-next : goal.returns-in-Err-clause-next
returns-in-Err-clause-next c = λ on. (c.pass.ensures.runs c.args.columns c.args.log.now (subst (λ (w : Write). MayRun c.args.columns (state c.args.tree.now c.args.log.now w)) (sym (c.visit.ensures.at c.in_default.is).1) c.requires.may) c.requires.trimmed c.number-trimmed.ensures.sound).may
