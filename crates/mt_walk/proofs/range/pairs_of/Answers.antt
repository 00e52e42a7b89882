use Rattle.std.proofs.Common.{ℕ, ◌≤◌, ◌++◌, ◌∷◌, [], List, length, sym, ap, subst, ◌∙◌}
use Rattle.std.proofs.lemmas.List.{append-nil, drop_all}
use Rattle.std.specs.Borrow.{Bor}
use Rattle.std.specs.List.{slice_range}
use Rattle.mt_types.specs.declared.row.Row.{Row}
use Rattle.mt_walk.specs.Gathered.{pairs_of}
use Rattle.mt_walk.proofs.Gathering.{next_key, next_pair}
use Rattle.mt_walk.proofs.range.pairs_of.Goals as goal

pub loop-end-init : goal.loop-end-init
loop-end-init c = record {
  left = c.requires;
  same = ap (λ (ps : List (List ℕ × Row)). ps ++ pairs_of c.args.columns.now c.args.bytes.items 0 c.args.rows.now) c.in_ok-pairs.ensures.items;
}

pub key_at-requires-clause-begins : goal.key_at-requires-clause-begins
key_at-requires-clause-begins c =
    (next_key c.args.rows.now c.loop-end.end-index c.loop-end-item.result c.loop-end-test.true c.loop-end-item.is c.args.bytes.items c.loop-end.begin c.loop-end.invariant.left).0

pub key_at-requires-clause-ends : goal.key_at-requires-clause-ends
key_at-requires-clause-ends c =
    subst (λ (bytes : List ℕ). c.loop-end-item.result.0 ≤ length bytes) (sym c.in_ok-block.ensures.ok)
    (next_key c.args.rows.now c.loop-end.end-index c.loop-end-item.result c.loop-end-test.true c.loop-end-item.is c.args.bytes.items c.loop-end.begin c.loop-end.invariant.left).1

pub key_at-requires-clause-fits : goal.key_at-requires-clause-fits
key_at-requires-clause-fits c =
    (next_key c.args.rows.now c.loop-end.end-index c.loop-end-item.result c.loop-end-test.true c.loop-end-item.is c.args.bytes.items c.loop-end.begin c.loop-end.invariant.left).2

pub loop-end-preserved : goal.loop-end-preserved
loop-end-preserved c = record {
  left = (next_key c.args.rows.now c.loop-end.end-index c.loop-end-item.result c.loop-end-test.true c.loop-end-item.is c.args.bytes.items c.loop-end.begin c.loop-end.invariant.left).3;
  same =
      next_pair c.args.rows.now c.loop-end.end-index c.loop-end-item.result c.loop-end-test.true c.loop-end-item.is c.args.columns.now c.args.bytes.items c.loop-end.begin
      c.loop-end.pairs.items c.push-in-loop-end.new.self.items (pairs_of c.args.columns.now c.args.bytes.items 0 c.args.rows.now) c.loop-end.invariant.same
      (c.in_ok-push.ensures.items
      ∙ ap (λ (key : List ℕ). c.loop-end.pairs.items ++ (key, c.in_ok-shown.field-0) ∷ []) (c.in_ok-key.ensures ∙ ap (λ (bytes : List ℕ). slice_range bytes c.loop-end.begin c.loop-end-item.result.0) c.in_ok-block.ensures.ok)
      ∙ ap (λ (row : Row). c.loop-end.pairs.items ++ (slice_range c.args.bytes.items c.loop-end.begin c.loop-end-item.result.0, row) ∷ []) c.in_ok-shown.ensures);
}

pub returns : goal.returns
returns c =
    c.from_vec-2.ensures
    ∙ sym (append-nil c.loop-end.pairs.items)
    ∙ ap (λ (rows : List (ℕ × Bor Row)). c.loop-end.pairs.items ++ pairs_of c.args.columns.now c.args.bytes.items c.loop-end.begin rows) (sym (drop_all c.loop-end.end-index c.args.rows.now c.loop-end-test.false))
    ∙ c.loop-end.invariant.same
