-- What is made ready at the border of a key, by what was found there.
use Rattle.std.proofs.Common.{Option, subst}
use Rattle.mt_types.specs.declared.refusal.Refusal.{Refusal}
use Rattle.mt_steps.specs.Way.{rest_of}
use Rattle.mt_write.proofs.FindLemmas.{faults_told, found_at, found_last, found_stands, stands_there}
use Rattle.mt_write.proofs.StageSteps.{Faults, readies_put, removes_none, removes_some, turns_away}
use Rattle.mt_write.proofs.writing.Write.ready_found.Goals as goal

pub other_version-requires : goal.other_version-requires
other_version-requires c = (rest_of c.args.self.now.key c.args.self.now.way, found_stands c.args.tree.now c.args.self.now.key c.args.self.now.way c.args.found c.requires.finds c.border-border.result.now c.border-border.ensures.value)

pub prepare-requires-clause-last : goal.prepare-requires-clause-last
prepare-requires-clause-last c = let (b, at, told) = c.requires.may.1.true.0 in found_last c.args.tree.now c.args.self.now.key c.args.self.now.way c.args.found c.requires.finds b at.named at.last

pub prepare-requires-clause-value : goal.prepare-requires-clause-value
prepare-requires-clause-value c = found_at c.args.tree.now c.args.self.now.key c.args.self.now.way c.args.found c.requires.finds

pub prepare-requires-clause-stands : goal.prepare-requires-clause-stands
prepare-requires-clause-stands c = stands_there c.args.tree.now c.args.self.now.key c.args.self.now.way c.args.found c.requires.finds

pub returns-in-Some-clause-some : goal.returns-in-Some-clause-some
returns-in-Some-clause-some c = λ there. turns_away c.args.columns c.args.tree.now c.args.log.now c.args.self.now there c.in-Put.sets c.in-Put.only c.in-Some.refusal c.in-Put.is c.rest_of-bytes.ensures.bytes
    (subst (λ (o : Option Refusal). Faults c.args.columns c.args.tree.now c.args.tree.now c.args.log.now c.args.log.now c.args.self.now c.in-Put.only o) c.in-Some.is
    (faults_told c.args.tree.now c.args.self.now.key c.args.self.now.way c.args.found c.requires.finds c.border-border.result.now c.border-border.ensures.value c.in-Put.only c.other_version.result c.other_version.ensures.sound c.other_version.ensures.fault))

pub returns-in_default-clause-some : goal.returns-in_default-clause-some
returns-in_default-clause-some c = λ there. readies_put c.args.columns c.args.tree.now c.prepare.new.tree c.args.log.now c.prepare.new.log c.args.self.now there c.in-Put.sets c.in-Put.only c.prepare.result c.in-Put.is
    (subst (λ (o : Option Refusal). Faults c.args.columns c.args.tree.now c.prepare.new.tree c.args.log.now c.prepare.new.log c.args.self.now c.in-Put.only o) c.in_default.is
    (faults_told c.args.tree.now c.args.self.now.key c.args.self.now.way c.args.found c.requires.finds c.border-border.result.now c.border-border.ensures.value c.in-Put.only c.other_version.result c.other_version.ensures.sound c.other_version.ensures.fault))
    c.prepare.ensures.ready c.prepare.ensures.fault

pub returns-in-Remove-clause-some : goal.returns-in-Remove-clause-some
returns-in-Remove-clause-some c = λ there. removes_some c.args.columns c.args.tree.now c.args.log.now c.prepare_remove.new.log c.args.self.now there c.in-Remove.is c.prepare_remove.result c.prepare_remove.ensures.ready c.prepare_remove.ensures.fault

pub returns-in-Remove-clause-none : goal.returns-in-Remove-clause-none
returns-in-Remove-clause-none c = λ there. removes_none c.args.columns c.args.tree.now c.args.log.now c.prepare_remove.new.log c.args.self.now there c.in-Remove.is c.prepare_remove.result c.prepare_remove.ensures.ready c.prepare_remove.ensures.fault
