use Rattle.std.proofs.Common.{List, [], ◌∷◌, ◌≡◌, refl, subst, arith}
use Rattle.std.proofs.lemmas.List.{nil_from_length}
use Rattle.mt_undo.specs.Removing.{CanRemove, Taken}
use Rattle.mt_undo.proofs.RemoveLemmas.{AllRemoving, Removing, all_removed, can_first, removing_on}
use Rattle.mt_undo.proofs.removing.remove_all.Goals as goal

pub loop-key-init : goal.loop-key-init
loop-key-init c =
    let e : c.args.taken.items ≡ c.into_iter-key-iterator.result.rest.items = search in
    subst (λ (ts : List Taken). AllRemoving c.args.taken.items c.args.tree.now c.args.log.now ts c.args.tree.now c.args.log.now) e
    (λ lone C changes can. record { done = changes; lone = lone; same_now = refl; can = can; finish = λ b last removed. removed })

pub remove_one-requires-clause-lone : goal.remove_one-requires-clause-lone
remove_one-requires-clause-lone c =
    let (C, changes, can) = c.requires.can in
    (c.loop-key.invariant c.requires.lone C changes can).lone

pub remove_one-requires-clause-can : goal.remove_one-requires-clause-can
remove_one-requires-clause-can c =
    let (C, changes, can) = c.requires.can in
    let r = c.loop-key.invariant c.requires.lone C changes can in (
      C,
      r.done,
      can_first C r.done (c.in-Some.key, c.in-Some.before) c.next.new.self.rest.items c.loop-key.tree c.loop-key.log
          (subst (λ (ts : List Taken). CanRemove C r.done ts c.loop-key.tree c.loop-key.log) c.in-Some.ensures.steps.0 r.can),
    )

pub loop-key-preserved : goal.loop-key-preserved
loop-key-preserved c lone C changes can =
    let r : Removing C changes c.args.taken.items lone.now c.args.log.now ((c.in-Some.key, c.in-Some.before) ∷ c.next.new.self.rest.items) c.loop-key.tree c.loop-key.log =
    subst (λ (ts : List Taken). Removing C changes c.args.taken.items lone.now c.args.log.now ts c.loop-key.tree c.loop-key.log) c.in-Some.ensures.steps.0 (c.loop-key.invariant lone C changes can) in
    removing_on C changes c.args.taken.items lone.now c.args.log.now (c.in-Some.key, c.in-Some.before) c.next.new.self.rest.items c.loop-key.tree c.remove_one.new.tree c.loop-key.log c.remove_one.new.log r
    (c.remove_one.ensures.removed r.lone C r.done (can_first C r.done (c.in-Some.key, c.in-Some.before) c.next.new.self.rest.items c.loop-key.tree c.loop-key.log r.can))

pub returns : goal.returns
returns c = record {
  removed = λ lone C changes can.
      let e : c.loop-key.key-iterator.rest.items ≡ [] = nil_from_length c.loop-key.key-iterator.rest.items (let none = c.in-None.ensures.steps.0 in let many = c.loop-key.key-iterator.rest.ok.0 in omega (arith, none, many)) in
      all_removed C changes c.args.taken.items lone.now c.args.log.now c.loop-key.tree c.loop-key.log
      (subst (λ (ts : List Taken). Removing C changes c.args.taken.items lone.now c.args.log.now ts c.loop-key.tree c.loop-key.log) e (c.loop-key.invariant lone C changes can));
}
