use Rattle.std.proofs.Common.{◌∙◌, ◌<◌, true, ap, sym, subst}
use Rattle.std.specs.Prelude.{Contains}
use Rattle.mt_commit.specs.Log.{LogView}
use Rattle.mt_commit.specs.Holders.{without_holder}
use Rattle.mt_commit.proofs.CountLemmas.{counted_is_held}
use Rattle.mt_view.specs.Views.{ViewsView}
use Rattle.mt_index.specs.Stands.{vacated}
use Rattle.mt_index.proofs.LogStands.{still_holds}
use Rattle.mt_index.proofs.viewing.close_build.Goals as goal

pub unpin-requires : goal.unpin-requires
unpin-requires c = subst (λ (l : LogView). Contains l.holders c.args.from) (sym c.in-Ok.ensures.log) (still_holds c.args.state.at c.args.from c.args.log.now.holders c.requires.held)

pub unpin-requires-in-Err : goal.unpin-requires-in-Err
unpin-requires-in-Err c = subst (λ (l : LogView). Contains l.holders c.args.from) (sym c.in-Err.ensures.err.0) (counted_is_held c.args.from c.args.log.now.holders c.requires.held)

pub release-requires : goal.release-requires
release-requires c = subst (λ (v : ViewsView). 0 < v.building) (sym c.in-Err.ensures.err.1) c.requires.place

pub returns-in-Ok-clause-log : goal.returns-in-Ok-clause-log
returns-in-Ok-clause-log c = c.unpin.ensures.after ∙ ap (λ (l : LogView). record l { holders = without_holder c.args.from l.holders }) c.in-Ok.ensures.log

pub returns-in-Err-clause-err_log : goal.returns-in-Err-clause-err_log
returns-in-Err-clause-err_log c = c.unpin-in-Err.ensures.after ∙ ap (λ (l : LogView). record l { holders = without_holder c.args.from l.holders }) c.in-Err.ensures.err.0

pub returns-in-Err-clause-err_views : goal.returns-in-Err-clause-err_views
returns-in-Err-clause-err_views c = c.release.ensures ∙ ap (vacated true) c.in-Err.ensures.err.1
