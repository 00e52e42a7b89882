use Rattle.std.proofs.Common.{Option, ap, ◌∙◌, ◌++◌, ◌∷◌, []}
use Rattle.mt_types.specs.declared.row.Row.{Row}
use Rattle.mt_check.proofs.MapLemmas.{pushed, first_added}
use Rattle.mt_check.proofs.versions.Versions.add.Goals as goal

pub returns-in_ok-push-in-Some : goal.returns-in_ok-push-in-Some
returns-in_ok-push-in-Some c =
    pushed c.args.self.now.of (c.get_mut.follows.lender c.push.new.self) c.args.delta.now.key _ c.in-Some.versions.now c.push.new.self
    (c.get_mut.follows.holds c.push.new.self) c.in-Some.ensures.value
    (c.in_ok-push-in-Some.ensures.items ∙ ap (λ (row : Option Row). c.in-Some.versions.now.items ++ record { number = c.args.delta.now.number; row = row } ∷ []) c.in_ok-copy.ensures.value)

pub returns-in_ok-insert-in-None : goal.returns-in_ok-insert-in-None
returns-in_ok-insert-in-None c =
    first_added c.args.self.now.of c.get_mut.follows.lender-at-none c.insert.new.self c.args.delta.now.key c.in_ok-copy-in-None.field-0 _ c.in_ok-first-in-None.first
    c.get_mut.follows.holds-at-none c.in-None.ensures.value c.in_ok-insert-in-None.ensures.updates c.in_ok-copy-in-None.ensures
    (c.in_ok-first-in-None.ensures.items ∙ ap (λ (row : Option Row). record { number = c.args.delta.now.number; row = row } ∷ []) c.in_ok-copy.ensures.value)
