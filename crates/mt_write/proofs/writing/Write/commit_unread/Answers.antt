-- Of which no delta stays in the log: a put over a row, or of a new key, or a remove.
use Rattle.std.proofs.Common.{◌∙◌, sym}
use Rattle.mt_arena.specs.Node.{border_at}
use Rattle.mt_steps.specs.Way.{rest_of}
use Rattle.mt_steps.proofs.FoundLemmas.{some_at}
use Rattle.std.proofs.lemmas.Result.{err_from_is_err_and}
use Rattle.mt_write.proofs.FindLemmas.{found_stands}
use Rattle.mt_write.proofs.UnreadLemmas.{may_show_new, new_fails, over_fails, passes_new, passes_over}
use Rattle.mt_write.proofs.writing.Write.commit_unread.Goals as goal

pub returns-in_default : goal.returns-in_default
returns-in_default c = c.remove_unread.ensures c.args.columns

pub other_version-requires : goal.other_version-requires
other_version-requires c = let (there, act) = c.requires in (rest_of c.args.self.now.key c.args.self.now.way, found_stands c.args.tree.now c.args.self.now.key c.args.self.now.way c.args.found act.finds c.border-border.result.now c.border-border.ensures.value)

pub returns-in_err-columns-in-Row : goal.returns-in_err-columns-in-Row
returns-in_err-columns-in-Row c = λ there act. let p = err_from_is_err_and c.from_residual.result c.from_residual.ensures.1 in rw (p.1, p.2)
    (over_fails c.args.columns c.args.tree.now c.args.log.now c.make_columns.new.log c.args.self.now there c.in-Put.sets c.in-Put.only c.in-Put.is c.args.found act.finds c.border-border.result.now c.border-border.ensures.value c.border-border.ensures.sound (sym c.in-None.is ∙ c.other_version.ensures.fault)
    c.in-Row.place c.in-Row.is c.in_err-columns-in-Row.field-0.0 c.in_err-columns-in-Row.ensures.ready c.in_err-columns-in-Row.ensures.fault)

pub returns-in_ok-columns-in-Row : goal.returns-in_ok-columns-in-Row
returns-in_ok-columns-in-Row c = λ there act. passes_over c.args.columns c.args.tree.now c.args.log.now c.make_columns.new.log c.args.self.now there c.in-Put.sets c.in-Put.only c.in-Put.is c.args.found act.finds c.border-border.result.now c.border-border.ensures.value c.border-border.ensures.sound (sym c.in-None.is ∙ c.other_version.ensures.fault)
    c.in-Row.place c.in-Row.is c.rest_of-bytes.ensures.bytes c.rest_of-bytes.ensures.fits c.in_ok-columns-in-Row.columns c.in_ok-columns-in-Row.ensures.ready c.in_ok-columns-in-Row.ensures.fault
    act c.set_value.new.self c.pass.new.self c.number-version.result c.number-version.ensures.value c.set_value.ensures.value c.set_value.ensures.sets c.pass.ensures.after c.pass.ensures.next c.make_columns.ensures.sound c.free_numbers-written.ensures.arena

pub returns-in_err-insert_unread-in-Absent : goal.returns-in_err-insert_unread-in-Absent
returns-in_err-insert_unread-in-Absent c = λ there act. let p = err_from_is_err_and c.from_residual-in_err-insert_unread-in-Absent.result c.from_residual-in_err-insert_unread-in-Absent.ensures.1 in rw (p.1, p.2)
    (new_fails c.args.columns c.args.tree.now c.args.log.now c.insert_unread.new.log c.args.self.now there c.in-Put.sets c.in-Put.only c.in-Put.is c.args.found act.finds c.border-border.result.now c.border-border.ensures.value c.border-border.ensures.sound (sym c.in-None.is ∙ c.other_version.ensures.fault)
    _ c.in-Absent.place c.in-Absent.is (c.is_full.ensures.room.0 c.if-not-is_full.true) c.insert_unread.new.tree c.in_err-insert_unread-in-Absent.field-0.0 c.in_err-insert_unread-in-Absent.ensures.err
    (some_at _ (border_at c.args.tree.now.nodes c.args.self.now.way.node.0) c.border-border.result.now c.in_err-insert_unread-in-Absent.ensures.fault c.border-border.ensures.value))

pub show-requires : goal.show-requires
show-requires c = let (there, act) = c.requires in may_show_new c.args.columns c.args.tree.now c.args.log.now c.insert_unread.new.log c.args.self.now there c.in-Put.sets c.in-Put.only c.in-Put.is c.args.found act.finds c.border-border.result.now c.border-border.ensures.value c.border-border.ensures.sound (sym c.in-None.is ∙ c.other_version.ensures.fault)
    _ c.in_ok-insert_unread-in-Absent.field-0 c.in-Absent.place c.in-Absent.is (c.is_full.ensures.room.0 c.if-not-is_full.true) c.insert_unread.new.tree c.in_ok-insert_unread-in-Absent.ensures.ok.0 c.in_ok-insert_unread-in-Absent.ensures.ok.1
    (some_at _ (border_at c.args.tree.now.nodes c.args.self.now.way.node.0) c.border-border.result.now c.in_ok-insert_unread-in-Absent.ensures.fault c.border-border.ensures.value) act c.insert_unread.ensures.sound c.free_numbers-filled.ensures.arena _

pub returns-in_ok-insert_unread-in-Absent : goal.returns-in_ok-insert_unread-in-Absent
returns-in_ok-insert_unread-in-Absent c = λ there act. passes_new c.args.columns c.args.tree.now c.args.log.now c.insert_unread.new.log c.args.self.now there c.in-Put.sets c.in-Put.only c.in-Put.is c.args.found act.finds c.border-border.result.now c.border-border.ensures.value c.border-border.ensures.sound (sym c.in-None.is ∙ c.other_version.ensures.fault)
    _ c.in_ok-insert_unread-in-Absent.field-0 c.in-Absent.place c.in-Absent.is (c.is_full.ensures.room.0 c.if-not-is_full.true) c.insert_unread.new.tree c.in_ok-insert_unread-in-Absent.ensures.ok.0 c.in_ok-insert_unread-in-Absent.ensures.ok.1
    (some_at _ (border_at c.args.tree.now.nodes c.args.self.now.way.node.0) c.border-border.result.now c.in_ok-insert_unread-in-Absent.ensures.fault c.border-border.ensures.value) act c.insert_unread.ensures.sound c.free_numbers-filled.ensures.arena
    c.show.new.self c.pass-in-Absent.new.self c.number-version-in-Absent.result c.number-version-in-Absent.ensures.value c.show.ensures.value c.show.ensures.shows c.pass-in-Absent.ensures.after c.pass-in-Absent.ensures.next c.free_numbers-shown.ensures.arena
