use Rattle.mt_map.proofs.MapLemmas.{collect_frees}
use Rattle.mt_map.proofs.viewing.free.Goals as goal

pub unreachable-requires : goal.unreachable-requires
unreachable-requires c = collect_frees _ _ c.meet.result c.meet.ensures.makes.happens.does c.in_default.not-Freed
