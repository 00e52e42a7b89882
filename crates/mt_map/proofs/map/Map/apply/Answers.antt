use Rattle.mt_map.proofs.MapLemmas.{apply_comes}
use Rattle.mt_map.proofs.map.Map.apply.Goals as goal

pub unreachable-requires : goal.unreachable-requires
unreachable-requires c = apply_comes _ _ c.args.view c.meet.result c.meet.ensures.makes.happens.does c.in_default.not-Applied c.in_default.not-Current c.in_default.not-Refused
