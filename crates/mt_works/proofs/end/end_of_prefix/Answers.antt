use Rattle.std.proofs.Common.{ℕ, List, ◌≡◌, true, nat_eq, subst, sym, ◌∙◌, Some}
use Rattle.std.specs.List.{starts_with}
use Rattle.mt_types.specs.Views.{is_before}
use Rattle.mt_works.proofs.PrefixLemmas.{starts_shorter, end_found}
use Rattle.mt_works.proofs.end.end_of_prefix.Goals as goal

pub returns-then-last-lt255 : goal.returns-then-last-lt255
returns-then-last-lt255 c = λ key h.
    subst (λ (end : List ℕ). is_before key (Some end) ≡ true) (sym (c.in_ok-from_vec.ensures.ok ∙ c.in_ok-push.ensures.items))
    (end_found c.pop.new.self.items c.in-Some.last key (subst (λ (bytes : List ℕ). starts_with nat_eq key bytes ≡ true) c.in-Some.ensures.items (c.loop-last.invariant key h)))

pub loop-last-preserved : goal.loop-last-preserved
loop-last-preserved c = λ key h.
    starts_shorter c.pop.new.self.items c.in-Some.last key (subst (λ (bytes : List ℕ). starts_with nat_eq key bytes ≡ true) c.in-Some.ensures.items (c.loop-last.invariant key h))
