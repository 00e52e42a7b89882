use Rattle.std.proofs.Common.{◌≡◌, length}
use Rattle.mt_script.specs.Words.{each, parts}
use Rattle.mt_script.proofs.WordLemmas.{with_front}
use Rattle.mt_script.proofs.words.read_parts.Given as goal

abbrev pub invariant-loop-word : goal.invariant-loop-word
invariant-loop-word g l = each g.T.Part.part_of (parts l.stop l.text) ≡ with_front l.read.items (each g.T.Part.part_of (parts l.stop l.rest))

abbrev pub decreases-loop-word : goal.decreases-loop-word
decreases-loop-word g l = length l.rest
