use Rattle.rowanspan_c.proofs.LogCalls.{opens_done}
use Rattle.rowanspan_c.proofs.log_exports.rowanspan_raw_open_folder.Goals as goal

pub returns-in-Ok : goal.returns-in-Ok
returns-in-Ok c =
    opens_done c.args.handle.now.held c.fill.new.self.held c.args.log.now.held c.fill-in-Ok.new.self.held _
    (c.is_index_free.ensures.free c.if-not-is_index_free.false) (c.is_log_free.ensures.free c.if-not-is_log_free.false)
    c.in-Ok.boxed.index.value c.in-Ok.boxed.log.value c.fill.ensures c.fill-in-Ok.ensures c.in-Ok.ensures
