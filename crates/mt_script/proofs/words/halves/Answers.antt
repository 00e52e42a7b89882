use Rattle.std.proofs.Common.{◌-◌, ◌+◌, length, drop, arith, take_all, length-drop, add-one}
use Rattle.mt_script.proofs.WordLemmas.{word_at_stop, word_at_none}
use Rattle.mt_script.proofs.words.halves.Goals as goal

pub returns-then-b-stop-clause-found : goal.returns-then-b-stop-clause-found
returns-then-b-stop-clause-found c =
    let xs = c.args.text.now in
    let i = c.loop-i.i in
    rw (take_all (length xs - (i + 1)) (drop (i + 1) xs) (omega (arith, length-drop (i + 1) xs))) (rw add-one (word_at_stop c.args.stop xs i (omega arith) c.loop-i.invariant (omega arith)))

pub returns-clause-found : goal.returns-clause-found
returns-clause-found c = word_at_none c.args.stop c.args.text.now (λ k h. c.loop-i.invariant k (omega arith))
