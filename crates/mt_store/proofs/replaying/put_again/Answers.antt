use Rattle.std.proofs.Common.{◌∙◌, List, ℕ, ◌∷◌, [], Ok, ap, subst}
use Rattle.mt_types.specs.declared.event.Answer.TheVariants.{Stored}
use Rattle.mt_types.specs.declared.event.Request.TheVariants.{Put as PutRequest}
use Rattle.mt_types.specs.declared.row.Change.TheVariants.{Put}
use Rattle.mt_asked.specs.Borrowed.{sets_of}
use Rattle.mt_replay.specs.Replay.{numbered}
use Rattle.mt_store.specs.Extending.{Adds}
use Rattle.mt_store.proofs.ExtendLemmas.{comes}
use Rattle.mt_store.proofs.replaying.put_again.Goals as goal

pub returns-in-Ok-put-clause-adds : goal.returns-in-Ok-put-clause-adds
returns-in-Ok-put-clause-adds c =
    let made = comes c.args.index.now c.put.new.self (PutRequest c.as_slice.result.now (sets_of c.deref.result.now)) (Ok (Stored c.in-Ok-put.field-0)) c.in-Ok-put.ensures in
    subst (λ (key : List ℕ). Adds c.args.index.now.machine (Put key (numbered 0 c.args.columns.now) ∷ []) c.put.new.self.machine) c.as_slice.ensures.value
    (subst (λ (sets : List (ℕ × List ℕ)). Adds c.args.index.now.machine (Put c.as_slice.result.now sets ∷ []) c.put.new.self.machine) (ap sets_of c.deref.ensures.value ∙ c.in-Ok.ensures) made)
