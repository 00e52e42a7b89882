use Rattle.std.proofs.Common.{◌∙◌, ap, sym, Some}
use Rattle.rowanspan_c.proofs.LogCalls.{syncs_done}
use Rattle.rowanspan_c.proofs.log_exports.rowanspan_raw_log_sync.Goals as goal

pub returns : goal.returns
returns c =
    syncs_done c.args.log.now.held c.fill.new.self.held c.deref_mut.result.now c.sync_file-status.new.log c.sync_file-status.result c.sync_file-status.new.told
    (c.in-Some.ensures.had ∙ ap Some (sym c.deref_mut.ensures.value)) c.fill.ensures c.sync_file-status.ensures
