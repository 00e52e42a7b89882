-- Bytes that go out in several writes.
use Rattle.std.proofs.Common.{◌≡◌, ℕ, ◌-◌, List, ◌++◌, length, take, drop, take_all, length-drop, take-append-drop, ap, sym, ◌∙◌, arith, append_assoc, Option}
use Rattle.std.specs.Io.KnownBytes.{Appends}
use Rattle.std.proofs.KnownBytes.{Appends-trans}

-- one write of a front of the rest
pub sent_more : (bytes rest sent : List ℕ) (n : ℕ) (a b c : Option (List ℕ)) → bytes ≡ sent ++ rest → Appends a b sent → Appends b c (take n rest)
    → (x : List ℕ) × (bytes ≡ x ++ take (length rest - n) (drop n rest)) × Appends a c x
sent_more bytes rest sent n a b c split sent_so went = (
  sent ++ take n rest,
  split ∙ ap (λ l. sent ++ l) (sym (take-append-drop n rest)) ∙ sym (append_assoc sent (take n rest) (drop n rest))
      ∙ ap (λ l. (sent ++ take n rest) ++ l) (sym (take_all (length rest - n) (drop n rest) (omega (arith, length-drop n rest)))),
  Appends-trans a b c sent (take n rest) sent_so went,
)
