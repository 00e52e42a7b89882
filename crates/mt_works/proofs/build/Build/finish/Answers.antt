use Rattle.mt_works.specs.Build.{BuildView}
use Rattle.mt_works.specs.History.{LeadsTo}
use Rattle.mt_works.proofs.HistoryLemmas.{led_is_afresh}
use Rattle.std.proofs.Common.{subst, sym, []}
use Rattle.mt_works.proofs.build.Build.finish.Goals as goal

pub returns-clause-afresh : goal.returns-clause-afresh
returns-clause-afresh c = λ rows leads. led_is_afresh rows c.self.inside.state (subst (λ (b : BuildView). LeadsTo [] rows b.state) (sym c.self.view_is) leads)
