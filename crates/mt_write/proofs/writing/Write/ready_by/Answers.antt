-- What is made ready at the border of a key, by what was read of it.
use Rattle.std.proofs.Common.{◌≡◌, inl, inr, Option, Some, None, refl, subst, ap}
use Rattle.mt_types.specs.declared.refusal.Refusal.{Refusal}
use Rattle.mt_border.specs.declared.found.Found.TheVariants.{Absent as AbsentFound, OtherSuffix}
use Rattle.mt_arena.specs.Node.{border_at}
use Rattle.mt_write.specs.Writing.{there_row}
use Rattle.mt_write.proofs.StageSteps.{Faults, readies_put, readies_remove, removes_none, turns_away}
use Rattle.mt_write.proofs.ThereLemmas.{at_log, border_there, faultless_there, faults_there, found_is_there, found_of, lacks_there, long_is_there, readied_so, room_is_there, stands_there}
use Rattle.mt_write.proofs.writing.Write.ready_by.Goals.{in-Row-there, in-Absent-there, in-Other}
use Rattle.mt_write.proofs.writing.Write.ready_by.Goals as goal

pub border-border-requires : goal.border-border-requires
border-border-requires c = border_there c.args.columns c.args.tree.now c.args.log.now c.args.self.now c.args.there.now c.requires.may

pub returns-in-Row-clause-some : goal.returns-in-Row-clause-some
returns-in-Row-clause-some c = readies_remove c.args.columns c.args.tree.now c.args.log.now c.take_row.new.log c.args.self.now c.args.there.now c.in_default.is (Some c.take_row.result) c.take_row.ensures.ready c.take_row.ensures.fault c.take_row.result refl

pub returns-in-Absent-clause-none : goal.returns-in-Absent-clause-none
returns-in-Absent-clause-none c =
    let none : there_row c.args.there.now ≡ None = elim c.in-Absent.is [ inl (place, is) ↦ ap there_row is | inr other ↦ elim other [ inl (place, outline, is) ↦ ap there_row is | inr (place, suffix, row, is) ↦ ap there_row is ] ] in
    removes_none c.args.columns c.args.tree.now c.args.log.now c.args.log.now c.args.self.now c.args.there.now c.in_default.is None
    (lacks_there c.args.columns c.args.tree.now c.args.log.now c.args.self.now c.args.there.now c.requires.may c.border-border.result.now c.border-border.ensures.value c.border-border.ensures.sound none c.rest_of-bytes.ensures.bytes, refl)
    (faultless_there c.args.columns c.args.tree.now c.args.log.now c.args.self.now c.args.there.now c.requires.may c.border-border.result.now c.border-border.ensures.value c.border-border.ensures.sound none)

pub returns-in-Some-clause-some : goal.returns-in-Some-clause-some
returns-in-Some-clause-some c = turns_away c.args.columns c.args.tree.now c.args.log.now c.args.self.now c.args.there.now c.in-Put.sets c.in-Put.only c.in-Some.refusal c.in-Put.is c.rest_of-bytes.ensures.bytes
    (subst (λ (o : Option Refusal). Faults c.args.columns c.args.tree.now c.args.tree.now c.args.log.now c.args.log.now c.args.self.now c.in-Put.only o) c.in-Some.is
    (faults_there c.args.columns c.args.tree.now c.args.log.now c.args.self.now c.args.there.now c.requires.may c.border-border.result.now c.border-border.ensures.value c.border-border.ensures.sound c.in-Put.only c.version_there.result c.refused_version.result c.version_there.ensures c.refused_version.ensures))

pub prepare-requires-clause-stands : goal.prepare-requires-clause-stands
prepare-requires-clause-stands c = stands_there c.args.columns c.args.tree.now c.args.log.now c.args.self.now c.args.there.now c.requires.may c.border-border.result.now c.border-border.ensures.value c.border-border.ensures.sound (AbsentFound c.in-Absent-there.place) (ap found_of c.in-Absent-there.is)

pub prepare-requires-clause-room : goal.prepare-requires-clause-room
prepare-requires-clause-room c = room_is_there c.args.columns c.args.tree.now c.args.log.now c.args.self.now c.args.there.now c.requires.may c.border-border.result.now c.border-border.ensures.value c.border-border.ensures.sound c.in-Absent-there.place c.in-Absent-there.is

pub prepare_layer-requires-clause-value : goal.prepare_layer-requires-clause-value
prepare_layer-requires-clause-value c = found_is_there c.args.columns c.args.tree.now c.args.log.now c.args.self.now c.args.there.now c.requires.may c.border-border.result.now c.border-border.ensures.value c.border-border.ensures.sound (OtherSuffix c.in-Other.place) (ap found_of c.in-Other.is)

pub prepare_layer-requires-clause-other : goal.prepare_layer-requires-clause-other
prepare_layer-requires-clause-other c = stands_there c.args.columns c.args.tree.now c.args.log.now c.args.self.now c.args.there.now c.requires.may c.border-border.result.now c.border-border.ensures.value c.border-border.ensures.sound (OtherSuffix c.in-Other.place) (ap found_of c.in-Other.is)

pub prepare_layer-requires-clause-there : goal.prepare_layer-requires-clause-there
prepare_layer-requires-clause-there c = long_is_there c.args.columns c.args.tree.now c.args.log.now c.args.self.now c.args.there.now c.requires.may c.border-border.result.now c.border-border.ensures.value c.border-border.ensures.sound c.in-Other.place c.in-Other.suffix c.in-Other.old c.in-Other.is

pub returns-clause-some : goal.returns-clause-some
returns-clause-some c =
    let agrees = subst (λ (o : Option Refusal). Faults c.args.columns c.args.tree.now c.args.tree.now c.args.log.now c.args.log.now c.args.self.now c.in-Put.only o) c.in_default-refused_version.is
    (faults_there c.args.columns c.args.tree.now c.args.log.now c.args.self.now c.args.there.now c.requires.may c.border-border.result.now c.border-border.ensures.value c.border-border.ensures.sound c.in-Put.only c.version_there.result c.refused_version.result c.version_there.ensures c.refused_version.ensures) in
    elim c.match-there-2.branch [
      | in-Row-there w ↦ readied_so c.args.columns c.args.tree.now c.match-there-2.tree _ c.args.log.now c.match-there-2.log _ c.args.self.now c.args.there.now c.match-there-2.result _ w.tree-is w.log-is w.result-is
          (readies_put c.args.columns c.args.tree.now c.args.tree.now c.args.log.now w.prepare_over.new.log c.args.self.now c.args.there.now c.in-Put.sets c.in-Put.only w.prepare_over.result c.in-Put.is agrees w.prepare_over.ensures.ready w.prepare_over.ensures.fault)
      | in-Absent-there w ↦ readied_so c.args.columns c.args.tree.now c.match-there-2.tree _ c.args.log.now c.match-there-2.log _ c.args.self.now c.args.there.now c.match-there-2.result _ w.tree-is w.log-is w.result-is
          (readies_put c.args.columns c.args.tree.now w.prepare.new.tree c.args.log.now w.prepare.new.log c.args.self.now c.args.there.now c.in-Put.sets c.in-Put.only w.prepare.result c.in-Put.is agrees w.prepare.ensures.ready w.prepare.ensures.fault)
      | in-Other w ↦ readied_so c.args.columns c.args.tree.now c.match-there-2.tree _ c.args.log.now c.match-there-2.log _ c.args.self.now c.args.there.now c.match-there-2.result _ w.tree-is w.log-is w.result-is
          (readies_put c.args.columns c.args.tree.now w.prepare_layer.new.tree c.args.log.now c.args.log.now c.args.self.now c.args.there.now c.in-Put.sets c.in-Put.only w.prepare_layer.result c.in-Put.is agrees (w.prepare_layer.ensures.ready c.args.columns c.args.log.now) (at_log (border_at c.args.tree.now.nodes c.args.self.now.way.node.0) _ w.prepare_layer.ensures.fault c.args.log.now))
    ]
