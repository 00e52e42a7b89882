use Rattle.std.proofs.Common.{◌≢◌, ℕ, ◌<◌, ◌≤◌, length, get_or}
use Rattle.mt_script.proofs.words.last_halves.Given as goal

abbrev pub invariant-loop-end : goal.invariant-loop-end
invariant-loop-end l = (l.end ≤ length l.text) × ((k : ℕ) → l.end ≤ k → k < length l.text → get_or l.text k 0 ≢ l.stop)

abbrev pub decreases-loop-end : goal.decreases-loop-end
decreases-loop-end l = l.end
