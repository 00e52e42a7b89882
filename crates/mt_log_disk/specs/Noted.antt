-- The event that a record has of a call.
use Rattle.std.specs.Prelude.{ℕ, List}
use Rattle.sqlite_disk.specs.Events.{Event, settled, measured, read, read_under, written, cut, flushed}
use Rattle.sqlite_disk.specs.Refusal.{as_number}
use Rattle.mt_log_disk.specs.declared.record.Call.{Call}
use Rattle.mt_log_disk.specs.declared.record.Call.TheVariants.{Settled, Measured, Read, Tested, Written, Cut, Flushed}

abbrev pub event_of : Call → List ℕ → Event
event_of Settled bytes = settled 0
event_of (Measured is_ok len) bytes = measured is_ok len
event_of (Read at wanted is_ok) bytes = read at wanted is_ok bytes
event_of (Tested key digest at wanted is_ok) bytes = read_under key digest at wanted is_ok bytes
event_of (Written at is_ok taken) bytes = written at bytes is_ok taken
event_of (Cut len is_ok no_room) bytes = cut len is_ok (as_number no_room)
event_of (Flushed is_ok no_room) bytes = flushed is_ok (as_number no_room)
