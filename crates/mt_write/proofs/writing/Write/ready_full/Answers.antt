-- What is made ready at a full border, by what was read of it.
use Rattle.std.proofs.Common.{Option, None, refl, subst}
use Rattle.mt_types.specs.declared.refusal.Refusal.{Refusal}
use Rattle.mt_arena.specs.Node.{border_at}
use Rattle.mt_steps.specs.declared.entering.There.TheVariants.{Full}
use Rattle.mt_write.proofs.StageSteps.{Faults, readies_put, removes_none, turns_away}
use Rattle.mt_write.proofs.ThereLemmas.{at_log, border_there, faultless_there, faults_there, full_is_there, lacks_there}
use Rattle.mt_write.proofs.writing.Write.ready_full.Goals as goal

pub border-border-requires : goal.border-border-requires
border-border-requires c = let (log, may) = c.requires in border_there c.args.columns c.args.tree.now log c.args.self.now (Full c.args.place c.args.outline) may

pub returns-in_default-clause-none : goal.returns-in_default-clause-none
returns-in_default-clause-none c = λ log may none.
    removes_none c.args.columns c.args.tree.now log log c.args.self.now (Full c.args.place c.args.outline) c.in_default.is None
    (lacks_there c.args.columns c.args.tree.now log c.args.self.now (Full c.args.place c.args.outline) may c.border-border.result.now c.border-border.ensures.value c.border-border.ensures.sound refl c.rest_of-bytes.ensures.bytes, refl)
    (faultless_there c.args.columns c.args.tree.now log c.args.self.now (Full c.args.place c.args.outline) may c.border-border.result.now c.border-border.ensures.value c.border-border.ensures.sound refl) none

pub returns-in-Some-clause-some : goal.returns-in-Some-clause-some
returns-in-Some-clause-some c = λ log may.
    turns_away c.args.columns c.args.tree.now log c.args.self.now (Full c.args.place c.args.outline) c.in-Put.sets c.in-Put.only c.in-Some.refusal c.in-Put.is c.rest_of-bytes.ensures.bytes
    (subst (λ (o : Option Refusal). Faults c.args.columns c.args.tree.now c.args.tree.now log log c.args.self.now c.in-Put.only o) c.in-Some.is
    (faults_there c.args.columns c.args.tree.now log c.args.self.now (Full c.args.place c.args.outline) may c.border-border.result.now c.border-border.ensures.value c.border-border.ensures.sound c.in-Put.only 0 c.refused_version.result refl c.refused_version.ensures))

pub prepare_split-requires-clause-full : goal.prepare_split-requires-clause-full
prepare_split-requires-clause-full c = let (log, may) = c.requires in (full_is_there c.args.columns c.args.tree.now log c.args.self.now (Full c.args.place c.args.outline) may c.border-border.result.now c.border-border.ensures.value c.border-border.ensures.sound c.args.place c.args.outline refl).0

pub prepare_split-requires-clause-absent : goal.prepare_split-requires-clause-absent
prepare_split-requires-clause-absent c = let (log, may) = c.requires in (full_is_there c.args.columns c.args.tree.now log c.args.self.now (Full c.args.place c.args.outline) may c.border-border.result.now c.border-border.ensures.value c.border-border.ensures.sound c.args.place c.args.outline refl).1

pub prepare_split-requires-clause-read : goal.prepare_split-requires-clause-read
prepare_split-requires-clause-read c = let (log, may) = c.requires in (full_is_there c.args.columns c.args.tree.now log c.args.self.now (Full c.args.place c.args.outline) may c.border-border.result.now c.border-border.ensures.value c.border-border.ensures.sound c.args.place c.args.outline refl).2

pub returns-clause-some : goal.returns-clause-some
returns-clause-some c = λ log may.
    let agrees = subst (λ (o : Option Refusal). Faults c.args.columns c.args.tree.now c.args.tree.now log log c.args.self.now c.in-Put.only o) c.in_default-refused_version.is
    (faults_there c.args.columns c.args.tree.now log c.args.self.now (Full c.args.place c.args.outline) may c.border-border.result.now c.border-border.ensures.value c.border-border.ensures.sound c.in-Put.only 0 c.refused_version.result refl c.refused_version.ensures) in
    readies_put c.args.columns c.args.tree.now c.prepare_split.new.tree log log c.args.self.now (Full c.args.place c.args.outline) c.in-Put.sets c.in-Put.only c.prepare_split.result c.in-Put.is agrees (c.prepare_split.ensures.ready c.args.columns log)
    (at_log (border_at c.args.tree.now.nodes c.args.self.now.way.node.0) _ c.prepare_split.ensures.fault log)
