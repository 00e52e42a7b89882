use Rattle.mt_slice.specs.Place.{place_of}
use Rattle.mt_walk.proofs.StartLemmas.{ArePassed}
use Rattle.mt_walk.proofs.start.entries_before.Given as goal

-- all so far are passed
abbrev pub invariant-loop-place : goal.invariant-loop-place
invariant-loop-place l = ArePassed l.border.live (place_of l.rest) l.place
