use Rattle.std.proofs.Common.{◌≡◌, sym, ap, ◌∙◌, subst}
use Rattle.std.proofs.lemmas.Result.{on_ok_weaker}
use Rattle.mt_view.specs.State.{applied}
use Rattle.mt_works.specs.Build.{BuildView}
use Rattle.mt_works.specs.History.{LeadsTo}
use Rattle.mt_works.proofs.HistoryLemmas.{deltas_lead}
use Rattle.mt_works.proofs.build.Build.take.Goals as goal

pub returns-clause-leads : goal.returns-clause-leads
returns-clause-leads c =
    let same : c.self.inside.state ≡ c.args.self.now.state = ap (λ (b : BuildView). b.state) c.self.view_is in
    on_ok_weaker c.apply.result (λ is deltas rows leads. subst (LeadsTo deltas rows) (sym (is ∙ ap (applied c.args.delta.now) same)) (deltas_lead c.args.delta.now deltas rows c.args.self.now.state leads)) c.apply.ensures.ok
