use Rattle.std.proofs.Common.{◌≡◌, ◌≤◌, drop}
use Rattle.mt_script.specs.Words.{number_of, digits_from, at_most}
use Rattle.mt_script.proofs.words.large_number.Given as goal

abbrev pub invariant-loop-c : goal.invariant-loop-c
invariant-loop-c l = (number_of l.most l.word ≡ at_most l.most (digits_from l.n (drop l.c-index l.word))) × (l.n ≤ l.most)
