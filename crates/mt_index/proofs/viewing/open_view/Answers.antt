use Rattle.std.proofs.Common.{◌∙◌, List, ℕ, ap, sym, subst}
use Rattle.std.specs.Prelude.{Contains}
use Rattle.mt_commit.specs.Log.{LogView}
use Rattle.mt_commit.specs.Holders.{without_holder}
use Rattle.mt_index.proofs.LogStands.{with_holds, without_with}
use Rattle.mt_index.proofs.viewing.open_view.Goals as goal

pub unpin-requires : goal.unpin-requires
unpin-requires c = subst (λ (l : LogView). Contains l.holders c.at-at.result) (sym c.in_ok-pin.ensures.ok) (with_holds c.at-at.result c.args.log.now.holders)

pub returns-in-Err-clause-err : goal.returns-in-Err-clause-err
returns-in-Err-clause-err c = (
  c.unpin.ensures.after ∙ ap (λ (l : LogView). record l { holders = without_holder c.at-at.result l.holders }) c.in_ok-pin.ensures.ok ∙ ap (λ (hs : List ℕ). record c.args.log.now { holders = hs }) (without_with c.at-at.result c.args.log.now.holders),
  c.in-Err.ensures.err,
)
