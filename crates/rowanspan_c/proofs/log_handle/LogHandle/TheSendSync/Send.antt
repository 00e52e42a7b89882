use denote.Param.Send.{IsSend}
use Rattle.rowanspan_c.proofs.LogCrosses.{handle_send}
use Rattle.rowanspan_c.specs.contracts.log_handle.LogHandle.{the_row}

pub send : IsSend the_row
send = handle_send
