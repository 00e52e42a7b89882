use Rattle.std.proofs.Common.{◌-◌, ◌+◌, length, drop, arith, take_all, length-drop, add-one}
use Rattle.mt_script.proofs.WordLemmas.{last_word_at_stop, last_word_at_none}
use Rattle.mt_script.proofs.words.last_halves.Goals as goal

pub returns-then-text-end : goal.returns-then-text-end
returns-then-text-end c =
    let xs = c.args.text.now in
    let i = c.loop-end.end - 1 in
    rw (take_all (length xs - (i + 1)) (drop (i + 1) xs) (omega (arith, length-drop (i + 1) xs))) (rw add-one (last_word_at_stop c.args.stop xs i (omega arith) (λ k h w. c.loop-end.invariant.1 k (omega arith) w) c.if-text-end.true))

pub returns : goal.returns
returns c = last_word_at_none c.args.stop c.args.text.now (λ k h. c.loop-end.invariant.1 k (omega arith) h)
