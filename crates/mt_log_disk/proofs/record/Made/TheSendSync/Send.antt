-- A record owns nothing, so another thread may have it.
use denote.Param.Send.{IsSend, owning_send}
use Rattle.mt_log_disk.specs.contracts.record.Made.{the_row, the_type}

pub send : IsSend the_row
send = owning_send the_type tt (λ d. tt) (λ k x w. tt)
