use Rattle.std.proofs.Common.{◌∙◌, ◌≡◌, ◌-◌, ◌++◌, ◌∷◌, [], ℕ, take, drop, sym, ap, arith}
use Rattle.std.specs.Prelude.{min}
use Rattle.mt_types.specs.declared.row.Delta.{Delta}
use Rattle.mt_index.proofs.FeedLemmas.{read_from, read_next, read_all}
use Rattle.mt_index.proofs.feed.deltas_after.Goals as goal

pub loop-done-init : goal.loop-done-init
loop-done-init c =
    let count = c.min-count.ensures in
    let rest = c.saturating_sub.ensures in
    let number = c.number.ensures.value in
    record {
      read = c.new-deltas.ensures.items;
      here = read_from c.args.log.now c.args.from c.args.limit (sym c.in_default.ensures);
      there = omega (arith, count, rest, number);
    }

pub loop-done-preserved : goal.loop-done-preserved
loop-done-preserved c =
    let old = c.loop-done.invariant in
    record {
      read = c.in_ok-push.ensures.items ∙ ap (λ (d : Delta). c.loop-done.deltas.items ++ d ∷ []) c.in_ok-copy.ensures ∙ read_next c.args.log.now c.args.from c.loop-done.done c.delta.result.now c.loop-done.deltas.items old.here c.delta.ensures.value old.read;
      here = old.here;
      there = old.there;
    }

pub returns-clause-deltas : goal.returns-clause-deltas
returns-clause-deltas c =
    let old = c.loop-done.invariant in
    let past = c.loop-done-test.false in
    let end = c.loop-done.auto.done-end in
    let done : c.loop-done.done ≡ c.min-count.result = omega (arith, past, end) in
    let count = c.min-count.ensures ∙ ap (λ (n : ℕ). min n c.args.limit) (c.saturating_sub.ensures ∙ ap (λ (n : ℕ). n - c.args.from) c.number.ensures.value) in
    old.read ∙ ap (λ (n : ℕ). take n (drop (c.args.from - c.args.log.now.held_after) c.args.log.now.deltas)) done ∙ read_all c.args.log.now c.args.from c.args.limit c.min-count.result old.here count
