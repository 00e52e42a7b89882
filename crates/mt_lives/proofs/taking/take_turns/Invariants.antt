use Rattle.std.proofs.Common.{◌≡◌, ◌≤◌, ℕ, length, take}
use Rattle.std.specs.Vec.{vec_capacity, vec_len}
use Rattle.mt_journal.specs.Recovery.{Mixes}
use Rattle.mt_lives.specs.Lives.{HasLived}
use Rattle.mt_lives.specs.Turns.{LeadsAll, Reached}
use Rattle.mt_lives.proofs.taking.take_turns.Given as goal

-- the turns so far led somewhere, and there is room for each answer
abbrev pub invariant-loop-turn : goal.invariant-loop-turn
invariant-loop-turn g l = record {
  leads : (C : ℕ) (a : Reached) → HasLived g.D.Disk.seen g.D.Disk.may_leave C a l.fn.opened.map.machine l.fn.opened.log → Mixes g.D.Disk.is_mixing
      → (b : Reached) × LeadsAll C (take l.turn-index l.turns) l.told.items a b × HasLived g.D.Disk.seen g.D.Disk.may_leave C b l.opened.map.machine l.opened.log;
  many : length l.told.items ≡ l.turn-index;
  len : vec_len l.told ≡ l.turn-index;
  room : length l.turns ≤ vec_capacity l.told;
}
