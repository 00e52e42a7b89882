use Rattle.std.proofs.Common.{◌≡◌, ◌∙◌, ◌==◌, ◌+◌, ℕ, List, length, ap, sym, subst, arith}
use Rattle.mt_frame.specs.declared.entry.Record.{Record}
use Rattle.std.specs.Vec.{vec_len}
use Rattle.mt_journal.specs.declared.position.Position.{Position}
use Rattle.mt_journal.specs.Keeping.{AllSurvive}
use Rattle.mt_map_folder.proofs.WrittenLemmas.{survive_with}
use Rattle.std.proofs.lemmas.Bool.{eqb-true}
use Rattle.std.proofs.lemmas.List.{length-map}
use Rattle.mt_frame.specs.declared.entry.Entry.{Entry}
use Rattle.mt_replay.specs.Replay.{record_of}
use Rattle.mt_journal.proofs.Kept.{unless_err}
use Rattle.mt_map_folder.specs.Written.{left_after}
use Rattle.mt_map_folder.proofs.ChangeLemmas.{after_call, few_records, next_left, none_left, records_left, unwritten, written}
use Rattle.mt_map_folder.proofs.log.MapLog.write.Goals as goal

-- nothing was written
pub returns-in-Err-clause-crash : goal.returns-in-Err-clause-crash
returns-in-Err-clause-crash g c = λ h header entries stands keeps mixing.
    let disk = c.args.self.now.log.journal.disk in
    survive_with c.args.self.now.log.journal.at header entries _ _ _
    (subst (λ (at : Position). AllSurvive header entries at.durable (g.D.Disk.may_leave disk)) c.position.ensures.value (c.position.ensures.survive header entries keeps))

pub returns-in_default-clause-crash : goal.returns-in_default-clause-crash
returns-in_default-clause-crash g c = λ h header entries stands keeps mixing.
    let disk = c.args.self.now.log.journal.disk in
    survive_with c.args.self.now.log.journal.at header entries _ _ _
    (subst (λ (at : Position). AllSurvive header entries at.durable (g.D.Disk.may_leave disk)) c.position.ensures.value (c.position.ensures.survive header entries keeps))

pub returns-in-Err-clause-recover : goal.returns-in-Err-clause-recover
returns-in-Err-clause-recover g c = λ changes kept mixing. unwritten g.D.Disk.seen g.D.Disk.may_leave changes c.args.map.now.machine c.args.self.now kept

pub returns-then-is_empty-clause-recover : goal.returns-then-is_empty-clause-recover
returns-then-is_empty-clause-recover g c = λ changes kept mixing. unwritten g.D.Disk.seen g.D.Disk.may_leave changes c.args.map.now.machine c.args.self.now kept

pub returns-in_default-clause-recover : goal.returns-in_default-clause-recover
returns-in_default-clause-recover g c = λ changes kept mixing. unwritten g.D.Disk.seen g.D.Disk.may_leave changes c.args.map.now.machine c.args.self.now kept

-- the records that were written are those of the next commits

pub returns-in-Err-append-clause-crash : goal.returns-in-Err-append-clause-crash
returns-in-Err-append-clause-crash g c = λ h header entries stands keeps mixing.
    let log = c.args.self.now.log in
    let C = c.args.map.now.machine.columns in
    let is = records_left C h c.in-Ok-records_of.records c.deref.result.now c.in-Ok.deltas.items c.position.result log.journal.at c.in-Ok-records_of.ensures c.deref.ensures.value (c.in-Ok.ensures.tells h stands) c.position.ensures.value in
    let some = ap (λ (n : ℕ). n == 0) (ap length c.in-Ok-records_of.ensures ∙ length-map c.deref.result.now record_of ∙ c.deref.ensures.len) ∙ sym c.is_empty.ensures ∙ c.if-is_empty.false in
    subst (λ (l : List Entry). AllSurvive header l log.journal.at.durable (g.D.Disk.may_leave c.append.new.self.journal.disk))
    (written log.journal.at c.in-Ok-records_of.records (left_after C log.journal.at.newest h) entries is some)
    (c.append.ensures.crash header entries keeps mixing)

pub returns-in-Err-append-clause-recover : goal.returns-in-Err-append-clause-recover
returns-in-Err-append-clause-recover g c = λ changes kept mixing.
    let log = c.args.self.now.log in
    let s = c.args.map.now.machine in
    let is = records_left s.columns kept.h c.in-Ok-records_of.records c.deref.result.now c.in-Ok.deltas.items c.position.result log.journal.at c.in-Ok-records_of.ensures c.deref.ensures.value (c.in-Ok.ensures.tells kept.h kept.stands) c.position.ensures.value in
    let next = next_left s.columns log.columns changes kept.h log.journal.at.newest c.in-Ok-records_of.records is kept.columns kept.made kept.opened in
    c.append.ensures.recover changes kept.kept next mixing

pub returns-clause-recover : goal.returns-clause-recover
returns-clause-recover g c = λ changes kept mixing.
    let log = c.args.self.now.log in
    let s = c.args.map.now.machine in
    let is = records_left s.columns kept.h c.in-Ok-records_of.records c.deref.result.now c.in-Ok.deltas.items c.position.result log.journal.at c.in-Ok-records_of.ensures c.deref.ensures.value (c.in-Ok.ensures.tells kept.h kept.stands) c.position.ensures.value in
    let next = next_left s.columns log.columns changes kept.h log.journal.at.newest c.in-Ok-records_of.records is kept.columns kept.made kept.opened in
    c.append.ensures.recover changes kept.kept next mixing

pub returns-clause-changes : goal.returns-clause-changes
returns-clause-changes g c = λ changes kept mixing.
    let log = c.args.self.now.log in
    let s = c.args.map.now.machine in
    let is = records_left s.columns kept.h c.in-Ok-records_of.records c.deref.result.now c.in-Ok.deltas.items c.position.result log.journal.at c.in-Ok-records_of.ensures c.deref.ensures.value (c.in-Ok.ensures.tells kept.h kept.stands) c.position.ensures.value in
    let next = next_left s.columns log.columns changes kept.h log.journal.at.newest c.in-Ok-records_of.records is kept.columns kept.made kept.opened in
    let has = unless_err c.append.result (c.append.ensures.changes changes kept.kept next mixing) c.in_default-append.not-Err in
    let newest = unless_err c.append.result c.append.ensures.newest c.in_default-append.not-Err in
    let few = few_records s.columns changes kept.h log.journal.at.newest kept.made kept.within in
    after_call g.D.Disk.seen g.D.Disk.may_leave changes s c.args.self.now _ kept c.append.ensures.columns (omega (arith, newest)) (omega (arith, newest, few, ap length is)) has

-- how many commits were written
pub returns-then-is_empty-clause-newest : goal.returns-then-is_empty-clause-newest
returns-then-is_empty-clause-newest g c = λ h stands.
    let at = c.args.self.now.log.journal.at in
    let C = c.args.map.now.machine.columns in
    let long : length c.in-Ok.deltas.items ≡ vec_len c.in-Ok.deltas = sym c.in-Ok.deltas.ok.0 in
    let none = none_left C h c.in-Ok.deltas.items c.position.result at (c.in-Ok.ensures.tells h stands) c.position.ensures.value (long ∙ eqb-true (vec_len c.in-Ok.deltas) 0 (sym c.is_empty.ensures ∙ c.if-is_empty.true)) in
    omega (arith, none)

pub returns-clause-newest : goal.returns-clause-newest
returns-clause-newest g c = λ h stands.
    let log = c.args.self.now.log in
    let C = c.args.map.now.machine.columns in
    let is = records_left C h c.in-Ok-records_of.records c.deref.result.now c.in-Ok.deltas.items c.position.result log.journal.at c.in-Ok-records_of.ensures c.deref.ensures.value (c.in-Ok.ensures.tells h stands) c.position.ensures.value in
    let newest = unless_err c.append.result c.append.ensures.newest c.in_default-append.not-Err in
    newest ∙ ap (λ (l : List Record). log.journal.at.newest + length l) is
