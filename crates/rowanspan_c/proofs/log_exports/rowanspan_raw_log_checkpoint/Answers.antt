use Rattle.std.proofs.Common.{◌∙◌, ap, sym, Some}
use Rattle.rowanspan_c.proofs.LogCalls.{advances_done}
use Rattle.rowanspan_c.proofs.log_exports.rowanspan_raw_log_checkpoint.Goals as goal

pub returns-clause-advances : goal.returns-clause-advances
returns-clause-advances c =
    advances_done c.args.handle.now.held c.args.begins c.args.log.now.held c.fill-3.new.self.held c.deref.result.now c.deref_mut.result.now c.advance_file-status.new.log c.advance_file-status.result c.advance_file-status.new.told
    (c.in-Some.ensures.had ∙ ap Some (sym c.deref.ensures)) (c.in-Some-take.ensures.had ∙ ap Some (sym c.deref_mut.ensures.value)) c.fill-3.ensures c.advance_file-status.ensures
