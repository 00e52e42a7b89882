-- One write at the end after another.
use Rattle.std.proofs.Common.{◌≡◌, ℕ, List, ◌++◌, Result, ap, ◌∙◌, append_assoc}
use Rattle.std.specs.Prelude.{OnOk}
use Rattle.std.proofs.lemmas.Result.{on_ok_weaker}

pub then_written : {T E : Type 0} (r : Result T E) (old mid new a b : List ℕ) → mid ≡ old ++ a → OnOk r (new ≡ mid ++ b) → OnOk r (new ≡ old ++ (a ++ b))
then_written r old mid new a b e h = on_ok_weaker r (λ (k : new ≡ mid ++ b). k ∙ ap (λ (w : List ℕ). w ++ b) e ∙ append_assoc old a b) h

pub written : (old mid new a b : List ℕ) → mid ≡ old ++ a → new ≡ mid ++ b → new ≡ old ++ (a ++ b)
written old mid new a b e k = k ∙ ap (λ (w : List ℕ). w ++ b) e ∙ append_assoc old a b
