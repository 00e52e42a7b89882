use Rattle.mt_map.proofs.MapLemmas.{drop_or_refusal}
use Rattle.mt_map.proofs.map.Map.drop_view.Goals as goal

pub unreachable-requires : goal.unreachable-requires
unreachable-requires c = drop_or_refusal _ _ c.args.view c.meet.result c.meet.ensures.makes.happens.does c.in_default.not-Dropped c.in_default.not-Refused
