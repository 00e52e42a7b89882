use denote.Param.Send.{IsSend}
use Rattle.rowanspan_c.proofs.Crosses.{handle_send}
use Rattle.rowanspan_c.specs.contracts.handle.Handle.{the_row}

pub send : IsSend the_row
send = handle_send
