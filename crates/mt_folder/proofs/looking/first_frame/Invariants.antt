use Rattle.std.proofs.Common.{drop, None}
use Rattle.mt_folder.specs.Looking.{is_frame, IsFirst}
use Rattle.mt_folder.proofs.looking.first_frame.Given as goal

-- no place before this one is so
abbrev pub invariant-loop-place : goal.invariant-loop-place
invariant-loop-place l = IsFirst (λ place. is_frame l.generation place (drop place l.bytes)) 0 l.place None
