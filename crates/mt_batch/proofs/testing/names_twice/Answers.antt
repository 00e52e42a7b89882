use Rattle.std.proofs.Common.{◌≡◌, ◌∙◌, List, ℕ, true, false, sym, ap, refl, arith}
use Rattle.std.proofs.lemmas.Bool.{false≢true}
use Rattle.std.specs.Borrow.{Bor}
use Rattle.std.specs.BTreeSet.{contains}
use Rattle.std.specs.BTreeMap.{is_at}
use Rattle.std.specs.List.{list_any}
use Rattle.mt_types.specs.Keys.{key_cmp}
use Rattle.mt_batch.proofs.ChangeLemmas.{by_bytes, found_twice, not_false, not_true, once_none, once_whole, one_key_more, still_once}
use Rattle.mt_batch.proofs.testing.names_twice.Goals as goal

pub loop-change-init : goal.loop-change-init
loop-change-init c = record {
  once = once_none;
  has = λ q. ((λ there. absurd (false≢true (sym (ap (λ (ks : List (Bor (List ℕ))). list_any (is_at (λ (y : Bor (List ℕ)). key_cmp q.now y.now)) ks) c.new-seen.ensures.empty) ∙ there))), (λ there. absurd (let few = there.1 in omega (arith, few))));
}

pub returns-in-Ok-false-clause-twice : goal.returns-in-Ok-false-clause-twice
returns-in-Ok-false-clause-twice c = (
  (λ is. found_twice c.args.changes.now c.loop-change.change-index _ c.loop-change-test.true c.key.result c.key.ensures c.loop-change.seen c.loop-change.invariant.has
      (not_false (contains by_bytes c.loop-change.seen c.key.result) (sym c.in-Ok-false.ensures.added ∙ c.in-Ok-false.field-0-test))),
  (λ twice. refl),
)

pub loop-change-preserved : goal.loop-change-preserved
loop-change-preserved c = record {
  once = still_once c.args.changes.now c.loop-change.change-index _ c.loop-change-test.true c.key.result c.key.ensures c.loop-change.seen c.loop-change.invariant.has
      (not_true (contains by_bytes c.loop-change.seen c.key.result) (sym c.in-Ok-true.ensures.added ∙ c.in-Ok-true.field-0-test)) c.loop-change.invariant.once;
  has = one_key_more c.args.changes.now c.loop-change.change-index _ c.loop-change-test.true c.key.result c.key.ensures c.loop-change.seen c.loop-change.invariant.has
      c.insert.new.self c.in-Ok-true.ensures.updates.1 c.in-Ok-true.ensures.updates.2;
}

pub returns-clause-twice : goal.returns-clause-twice
returns-clause-twice c = (
  (λ is. let clash : false ≡ true = is in cc),
  (λ twice. absurd (once_whole c.args.changes.now c.loop-change.change-index (let past = c.loop-change-test.false in omega (arith, past)) c.loop-change.invariant.once twice)),
)
