use Rattle.std.proofs.Common.{rules, ◌≡◌, List, [], ◌++◌, MatchResult, subst}
use Rattle.mt_types.specs.declared.row.Delta.{Delta}
use Rattle.mt_types.specs.declared.refusal.Refusal.TheVariants.{NoMemory}
use Rattle.mt_publish.specs.Carried.{list_of, pending_of}
use Rattle.mt_publish.proofs.carriers.Publisher.publish.Goals as goal

pub returns-clause-list : goal.returns-clause-list
returns-clause-list g c =
    let new = c.replace_with.new.dest in let kept = c.in_ok-mark.ensures.kept in
    subst (λ (t : List Delta × List Delta). MatchResult c.replace_with.result (λ _. (list_of new ≡ t.0 ++ t.1) × (pending_of new ≡ []))
    (λ e. (e ≡ NoMemory) × (list_of new ≡ t.0) × (pending_of new ≡ t.1))) (λ i. (kept.0.1 i, kept.1 i)) (search rules)
