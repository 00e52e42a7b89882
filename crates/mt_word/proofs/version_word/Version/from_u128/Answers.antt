use Rattle.std.proofs.Common.{refl, arith}
use Rattle.std.proofs.lemmas.Nat.Bits.{and_high}
use Rattle.mt_word.specs.VersionRound.{word_of_version-version_of_word}
use Rattle.mt_word.specs.Version.{IsVersionWord}
use Rattle.mt_word.proofs.version_word.Version.from_u128.Goals as goal

spare_zero : (c : goal.Then-word-eq0) → IsVersionWord c.args.word
spare_zero c = record { fits = c.ranges.word.fits; spare = omega (arith, and_high c.args.word 3 5, c.if-word-eq0.true) }

pub invariant_of-result : goal.invariant_of-result
invariant_of-result c = spare_zero c

pub returns-then-word-eq0-clause-variant : goal.returns-then-word-eq0-clause-variant
returns-then-word-eq0-clause-variant c = (λ _. spare_zero c, λ _. refl)

pub returns-then-word-eq0-clause-word_back : goal.returns-then-word-eq0-clause-word_back
returns-then-word-eq0-clause-word_back c = word_of_version-version_of_word c.args.word (spare_zero c)

pub returns-else-word-eq0-clause-variant : goal.returns-else-word-eq0-clause-variant
returns-else-word-eq0-clause-variant c =
    (λ e. cc, λ h. absurd (c.if-word-eq0.false (omega (arith, and_high c.args.word 3 5, h.spare))))
