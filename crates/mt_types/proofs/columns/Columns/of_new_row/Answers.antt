use Rattle.std.proofs.Common.{◌≡◌, ◌∙◌, sym, arith, length, get_or, replicate, [], ℕ, List}
use Rattle.std.proofs.lemmas.List.{length-replicate, get_or-replicate}
use Rattle.mt_types.specs.Rows.{new_columns}
use Rattle.mt_types.proofs.PackedLemmas.{packed_holds, unpacked_of, put_start, put_step, put_end}
use Rattle.mt_types.proofs.columns.Columns.of_new_row.Goals as goal

pub loop-number-2-init : goal.loop-number-2-init
loop-number-2-init c =
    put_start c.args.sets.now (replicate c.args.count []) _ _ _ c.in_ok-made.ensures c.in_ok-push.ensures (sym (length-replicate c.args.count []))

pub loop-number-2-preserved : goal.loop-number-2-preserved
loop-number-2-preserved c =
    let none : List (List ℕ) = replicate c.args.count [] in
    let n : length none ≡ c.args.count = length-replicate c.args.count [] in
    put_step c.args.sets.now none c.loop-number-2.number _ _ _ _ _ (omega arith) (let e : get_or none c.loop-number-2.number [] ≡ [] = get_or-replicate c.args.count c.loop-number-2.number [] [] c.loop-number-2-test.true in sym e) c.new_bytes-in-loop-number-2.ensures c.in_ok-push_piece.ensures c.loop-number-2.invariant

pub invariant_of-result : goal.invariant_of-result
invariant_of-result c =
    let none : List (List ℕ) = replicate c.args.count [] in
    let n : length none ≡ c.args.count = length-replicate c.args.count [] in
    packed_holds (new_columns c.args.sets.now 0 none) _ (c.in_ok-done.ensures ∙ put_end c.args.sets.now none c.loop-number-2.number _ _ (omega arith) c.loop-number-2.invariant)

pub returns : goal.returns
returns c =
    let none : List (List ℕ) = replicate c.args.count [] in
    let n : length none ≡ c.args.count = length-replicate c.args.count [] in
    unpacked_of (new_columns c.args.sets.now 0 none) _ (c.in_ok-done.ensures ∙ put_end c.args.sets.now none c.loop-number-2.number _ _ (omega arith) c.loop-number-2.invariant)
