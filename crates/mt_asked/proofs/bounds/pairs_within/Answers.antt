use Rattle.std.proofs.Common.{rules, filter, ap, ◌∙◌}
use Rattle.std.proofs.lemmas.Fn.{filter_same}
use Rattle.std.specs.Range.Bound.{bound_map}
use Rattle.mt_asked.specs.Bounds.{is_within}
use Rattle.mt_asked.proofs.bounds.pairs_within.Goals as goal

pub returns : goal.returns
returns c =
    c.from_vec.ensures ∙ filter_same _ (λ pair. is_within (bound_map (λ key. key.now) c.args.bounds.0) (bound_map (λ key. key.now) c.args.bounds.1) pair.0) _ (λ x b f' k. search rules) _ _ c.retain.ensures.filtered
    ∙ ap (filter (λ pair. is_within (bound_map (λ key. key.now) c.args.bounds.0) (bound_map (λ key. key.now) c.args.bounds.1) pair.0)) c.into_vec-kept.ensures
