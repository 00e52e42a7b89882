use Rattle.std.proofs.Common.{List, ℕ, ◌∷◌, [], Ok, Option, Some, subst}
use Rattle.mt_types.specs.declared.row.Change.TheVariants.{Drop}
use Rattle.mt_map.specs.Tidies.{RemovesAndTidies}
use Rattle.mt_store.specs.Extending.{Adds}
use Rattle.mt_store.proofs.ExtendLemmas.{removes}
use Rattle.mt_store.proofs.replaying.remove_again.Goals as goal

pub returns-in-Ok-Some-clause-adds : goal.returns-in-Ok-Some-clause-adds
returns-in-Ok-Some-clause-adds c =
    subst (λ (key : List ℕ). Adds c.args.index.now.machine (Drop key ∷ []) c.remove.new.self.machine) c.as_slice.ensures.value
    (removes c.args.index.now c.remove.new.self c.as_slice.result.now (Ok (Some c.in-Ok-Some.field-0-0))
    (subst (λ (found : Option ℕ). RemovesAndTidies c.args.index.now c.as_slice.result.now found c.remove.new.self) c.in-Ok-Some.field-0-is c.in-Ok-Some.ensures))
