-- A text is framed by its length over the first five bytes.
use Rattle.std.proofs.Common.{◌≡◌, ℕ, ◌-◌, List, [], ◌∷◌, ◌++◌, length, drop, ap, ◌∙◌, arith, length-append}
use Rattle.mt_frame.specs.declared.limits.TheConstants.{LENGTH_BYTES}
use Rattle.mt_frame.specs.Spelling.{length_spelling, framed}

abbrev pub blank : List ℕ
blank = 0 ∷ 0 ∷ 0 ∷ 0 ∷ 0 ∷ []

pub framed_by : (text out : List ℕ) (count : ℕ) → out ≡ blank ++ text → count ≡ length out - LENGTH_BYTES → length_spelling count ++ drop LENGTH_BYTES out ≡ framed text
unfolding framed
framed_by text out count e n =
    let size : count ≡ length text = omega (arith, n, ap length e, length-append blank text) in
    ap (λ (k : ℕ). length_spelling k ++ drop LENGTH_BYTES out) size ∙ ap (λ (l : List ℕ). length_spelling (length text) ++ drop LENGTH_BYTES l) e
