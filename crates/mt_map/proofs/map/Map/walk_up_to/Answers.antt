use Rattle.std.proofs.Common.{◌≡◌, List, ℕ, [], ◌∷◌, ◌++◌, ap, subst, sym, ◌∙◌}
use Rattle.std.proofs.lemmas.Result.{IfOk-weaker}
use Rattle.std.specs.Option.{option_copied}
use Rattle.std.specs.Prelude.{Some}
use Rattle.std.specs.Range.Bound.{bound_map}
use Rattle.mt_map.specs.Bounded.{BeginsUpTo}
use Rattle.mt_map.proofs.BoundLemmas.{included_end}
use Rattle.mt_map.proofs.map.Map.walk_up_to.Goals as goal

pub returns-in_ok-push-in-Included-clause-end : goal.returns-in_ok-push-in-Included-clause-end
returns-in_ok-push-in-Included-clause-end c =
    let is : c.as_slice.result.now ≡ c.in-Included.key.now ++ 0 ∷ [] =
    c.as_slice.ensures.value ∙ c.in_ok-push-in-Included.ensures.items
    ∙ ap (λ (k : List ℕ). k ++ 0 ∷ []) (c.in_ok-extend_from_slice-in-Included.ensures.items ∙ ap (λ (k : List ℕ). k ++ c.in-Included.key.now) c.in_ok-next-in-Included.ensures.items) in
    IfOk-weaker c.of.result (λ walk. walk.before ≡ option_copied (Some c.as_slice.result)) (λ walk. BeginsUpTo (bound_map (λ key. key.now) c.args.end) walk.before)
    (λ walk at. subst (λ end. BeginsUpTo (bound_map (λ key. key.now) end) walk.before) (sym c.in-Included.is) (included_end c.in-Included.key.now c.as_slice.result.now walk.before is at))
    c.of.ensures.before
