-- How zeros were added.
use Rattle.std.specs.Prelude.{ℕ, ◌≡◌, MatchBool, Result, Ok, Err}
use Rattle.sqlite_disk.specs.Disk.{MoreFaults}
use Rattle.sqlite_disk.specs.Refusal.{is_no_room}
use Rattle.mt_journal.specs.declared.growing.GrowError.{GrowError}
use Rattle.mt_journal.specs.declared.growing.GrowError.TheVariants.{Write, Sync}

-- the fact holds unless a sync failed
abbrev pub IsGrown : Result (Unit {0}) GrowError → Type 0 → Type 0
IsGrown (Ok u) P = P
IsGrown (Err (Write e)) P = P
IsGrown (Err (Sync e)) P = Unit {0}

-- the disk counts a refused call exactly if the error says that it had no room
abbrev pub CountsFull : Result (Unit {0}) GrowError → ℕ → ℕ → Type 0
CountsFull (Ok u) old new = new ≡ old
CountsFull (Err (Write e)) old new = MatchBool (is_no_room e) (MoreFaults old new) (new ≡ old)
CountsFull (Err (Sync e)) old new = MatchBool (is_no_room e) (MoreFaults old new) (new ≡ old)

-- the fact holds if a sync failed
abbrev pub IfUnsynced : Result (Unit {0}) GrowError → Type 0 → Type 0
IfUnsynced (Ok u) P = Unit {0}
IfUnsynced (Err (Write e)) P = Unit {0}
IfUnsynced (Err (Sync e)) P = P
