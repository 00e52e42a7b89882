use Rattle.std.proofs.Common.{◌≡◌, take}
use Rattle.mt_shared.proofs.client_reads.keys_of.Given as goal

-- the keys so far are copied
abbrev pub invariant-loop-key : goal.invariant-loop-key
invariant-loop-key l = l.copies.items ≡ take l.key-index l.keys
