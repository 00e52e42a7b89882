use Rattle.std.proofs.Common.{drop, None}
use Rattle.mt_folder.specs.Looking.{says_more, IsFirst}
use Rattle.mt_folder.proofs.looking.lost_frame.Given as goal

-- no place before this one is so
abbrev pub invariant-loop-place : goal.invariant-loop-place
invariant-loop-place l = IsFirst (λ place. says_more l.at.generation l.at.newest place (drop place l.bytes)) l.at.end l.place None
