use Rattle.std.proofs.Common.{ap}
use Rattle.mt_store.specs.declared.error.StoreError.TheVariants.{Refused}
use Rattle.mt_store.proofs.CauseLemmas.{refused_for}
use Rattle.mt_store.proofs.store.Store.make.Goals as goal

pub returns-in-Err-clause-cause : goal.returns-in-Err-clause-cause
returns-in-Err-clause-cause g c = refused_for _ _ _ _ c.in-Err.refusal _ c.with_retention.ensures.fault c.in-Err.ensures.fault (λ none. (c.args.disk, ap Refused none))
