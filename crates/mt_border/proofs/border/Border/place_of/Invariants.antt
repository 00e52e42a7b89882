use Rattle.std.proofs.Common.{◌≡◌, ◌+◌, ◌*◌, drop, nat_lt}
use Rattle.std.specs.List.{prefix_len}
use Rattle.mt_border.specs.Entry.{entry_rank}
use Rattle.mt_border.proofs.border.Border.place_of.Given as goal

abbrev pub invariant-loop-place : goal.invariant-loop-place
invariant-loop-place l =
    l.place + prefix_len (λ entry. nat_lt (entry_rank entry) (l.slice * 10 + l.class)) (drop l.place l.self.live)
    ≡ prefix_len (λ entry. nat_lt (entry_rank entry) (l.slice * 10 + l.class)) l.self.live
