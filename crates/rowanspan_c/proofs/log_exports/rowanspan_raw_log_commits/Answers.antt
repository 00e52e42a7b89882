use Rattle.std.proofs.Common.{◌∙◌, ap, sym, Some}
use Rattle.rowanspan_c.proofs.LogCalls.{writes_done}
use Rattle.rowanspan_c.proofs.log_exports.rowanspan_raw_log_commits.Goals as goal

pub returns-clause-writes : goal.returns-clause-writes
returns-clause-writes c =
    writes_done c.args.handle.now.held c.args.log.now.held c.fill-3.new.self.held c.deref.result.now c.deref_mut.result.now c.write_file-status.new.log c.write_file-status.result c.write_file-status.new.told
    (c.in-Some.ensures.had ∙ ap Some (sym c.deref.ensures)) (c.in-Some-take.ensures.had ∙ ap Some (sym c.deref_mut.ensures.value)) c.fill-3.ensures c.write_file-status.ensures
