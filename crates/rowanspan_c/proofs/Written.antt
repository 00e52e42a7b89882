-- One write at the end after another.
use Rattle.std.proofs.Common.{◌≡◌, ℕ, List, ◌++◌, Result, ap, ◌∙◌, append_assoc}
use Rattle.std.specs.Prelude.{OnOk}
use Rattle.std.proofs.lemmas.Result.{on_ok_weaker}

pub then_written : (old mid new a b : List ℕ) → mid ≡ old ++ a → new ≡ mid ++ b → new ≡ old ++ (a ++ b)
then_written old mid new a b first second = second ∙ ap (λ (front : List ℕ). front ++ b) first ∙ append_assoc old a b

pub last_written : {T E : Type 0} (result : Result T E) (old mid new a b : List ℕ)
    → mid ≡ old ++ a → OnOk result (new ≡ mid ++ b) → OnOk result (new ≡ old ++ (a ++ b))
last_written result old mid new a b first = on_ok_weaker result (then_written old mid new a b first)
