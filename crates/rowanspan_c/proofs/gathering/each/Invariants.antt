use Rattle.std.proofs.Common.{◌≡◌, ◌++◌, take}
use Rattle.std.specs.List.{flat_map}
use Rattle.mt_promise.specs.History.{History, moment, rows}
use Rattle.mt_index.specs.Stands.{Stands}
use Rattle.mt_reads.specs.Counts.{rows_of}
use Rattle.rowanspan_c.specs.Keys.{keys_of}
use Rattle.rowanspan_c.specs.Spelling.{maybe_spelling}
use Rattle.rowanspan_c.proofs.gathering.each.Given as goal

-- the rows of the keys so far are written
abbrev pub invariant-loop-key : goal.invariant-loop-key
invariant-loop-key l = (h : History) → Stands l.index.machine h
    → l.out.items ≡ l.fn.out.items ++ flat_map maybe_spelling (rows_of (rows l.index.machine.columns (moment h)) l.asked (keys_of (take l.key-index l.keys)))
