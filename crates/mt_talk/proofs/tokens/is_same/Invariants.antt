use Rattle.std.proofs.Common.{◌≡◌, ◌<◌, ◌≤◌, ℕ, get_or}
use Rattle.mt_talk.proofs.tokens.is_same.Given as goal

-- none of the bytes so far differ exactly if none were counted
abbrev pub invariant-loop-i : goal.invariant-loop-i
invariant-loop-i l = (l.differ ≤ l.i) × (l.differ ≡ 0 → (k : ℕ) → k < l.i → get_or l.a k 0 ≡ get_or l.b k 0) × (((k : ℕ) → k < l.i → get_or l.a k 0 ≡ get_or l.b k 0) → l.differ ≡ 0)
