use Rattle.std.proofs.Common.{◌≡◌, ◌∙◌, ◌+◌, List, ℕ, Some, ap, sym, subst}
use Rattle.std.specs.Prelude.{Contains}
use Rattle.mt_commit.specs.Log.{LogView, delta_of}
use Rattle.mt_commit.specs.Holders.{without_holder}
use Rattle.mt_index.proofs.LogStands.{with_holds, still_holds, without_with}
use Rattle.mt_index.proofs.viewing.apply_next.Goals as goal

pub unpin-requires : goal.unpin-requires
unpin-requires c = subst (λ (l : LogView). Contains l.holders c.args.at) (sym c.in_ok-pin.ensures.ok) (still_holds (c.args.at + 1) c.args.at c.args.log.now.holders c.requires.held)

pub unpin-requires-in-Err : goal.unpin-requires-in-Err
unpin-requires-in-Err c = subst (λ (l : LogView). Contains l.holders (c.args.at + 1)) (sym c.in_ok-pin.ensures.ok) (with_holds (c.args.at + 1) c.args.log.now.holders)

pub returns-in-Ok-clause-views : goal.returns-in-Ok-clause-views
returns-in-Ok-clause-views c = λ state there. record {
  delta = c.delta.result.now;
  is_delta = subst (λ (l : LogView). delta_of l (c.args.at + 1) ≡ Some c.delta.result.now) c.in_ok-pin.ensures.ok c.delta.ensures.value;
  taken = c.in-Ok.ensures.ok state there;
}

pub returns-in-Err-clause-err : goal.returns-in-Err-clause-err
returns-in-Err-clause-err c = (
  c.unpin-in-Err.ensures.after ∙ ap (λ (l : LogView). record l { holders = without_holder (c.args.at + 1) l.holders }) c.in_ok-pin.ensures.ok ∙ ap (λ (hs : List ℕ). record c.args.log.now { holders = hs }) (without_with (c.args.at + 1) c.args.log.now.holders),
  c.in-Err.ensures.err,
)
