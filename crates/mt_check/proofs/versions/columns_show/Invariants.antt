use Rattle.std.proofs.Common.{◌≡◌, ℕ, [], drop, map, get_or}
use Rattle.std.specs.Prelude.{nat_eq}
use Rattle.std.specs.Cmp.Lexicographic.{pointwise}
use Rattle.mt_types.specs.Rows.{chosen}
use Rattle.mt_check.proofs.versions.columns_show.Given as goal

abbrev pub invariant-loop-i : goal.invariant-loop-i
invariant-loop-i l = pointwise (pointwise nat_eq) (map (λ (k : ℕ). get_or l.columns k []) (drop l.i l.asked)) (drop l.i l.answer) ≡ pointwise (pointwise nat_eq) (chosen l.asked l.columns) l.answer
