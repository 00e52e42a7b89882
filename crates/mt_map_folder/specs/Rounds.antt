-- Which round of a checkpoint a map's log makes next.
use Rattle.std.specs.Prelude.{nat_le, Bool, true, false, ◌&&◌}
use Rattle.mt_commit.specs.Log.{newest}
use Rattle.mt_folder_log.specs.declared.checkpoint.Round.{Round}
use Rattle.mt_folder_log.specs.declared.checkpoint.Round.TheVariants.{Rests, Moves, Copies, Seals}
use Rattle.mt_folder_log.specs.declared.log.FolderLog.{FolderLog}
use Rattle.mt_folder_log.specs.Moving.{round_of}
use Rattle.mt_index.specs.Stands.{MachineView}

-- by the kind of the round
abbrev pub IfMoves : Round → Type 0 → Type 0
IfMoves Rests P = P
IfMoves Moves P = P
IfMoves Copies P = Unit {0}
IfMoves Seals P = Unit {0}

abbrev pub IfCopies : Round → Type 0 → Type 0
IfCopies Rests P = Unit {0}
IfCopies Moves P = Unit {0}
IfCopies Copies P = P
IfCopies Seals P = Unit {0}

abbrev pub IfSeals : Round → Type 0 → Type 0
IfSeals Rests P = Unit {0}
IfSeals Moves P = Unit {0}
IfSeals Copies P = Unit {0}
IfSeals Seals P = P

-- a checkpoint has to be continued
abbrev pub is_going : Round → Bool
is_going Rests = false
is_going Moves = true
is_going Copies = true
is_going Seals = true

-- a round that is made: any but rest, and rest too if the log is to move
abbrev pub is_made : Bool → Round → Bool
is_made begins Rests = begins
is_made begins Moves = true
is_made begins Copies = true
is_made begins Seals = true

-- what the log needs next
abbrev pub next_of : {D : Type 0} → FolderLog D → Round
next_of log = round_of log.least log.journal.at log.other

-- A ROUND IS MADE: the log lacks no commit of the map, and the round is due or asked for
abbrev pub acts : {D : Type 0} → FolderLog D → MachineView → Bool → Bool
acts log s begins = nat_le (newest s.log) log.journal.at.newest && is_made begins (next_of log)
