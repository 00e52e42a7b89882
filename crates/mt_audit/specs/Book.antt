-- What was read so far.
use Rattle.std.specs.Prelude.{◌≡◌, ℕ, Bool, true, false, List, [], ◌∷◌, ◌++◌, All, Option, IfSome}
use Rattle.mt_check.specs.Receipts.{IsAsked}
use Rattle.mt_script.specs.Lines.{lines_of}
use Rattle.mt_audit.specs.Audit.{Reads, CanRead}
use Rattle.mt_audit.specs.declared.book.Book.{Book}
use Rattle.mt_audit.specs.declared.line.Line.{Line}
use Rattle.mt_audit.specs.declared.line.Line.TheVariants.{Logged, Kept}

-- these lines were read into it
pub record IsBookOf (C : ℕ) (lines : List (List ℕ)) (book : Book) : Type 0 where
  pub reads : Reads C lines book.deltas.items book.receipts.items
  pub asked : All (IsAsked C) book.receipts.items

-- what is asked of a line
abbrev pub IsTaken : ℕ → Line → Type 0
IsTaken C (Logged delta) = Unit {0}
IsTaken C (Kept receipt) = IsAsked C receipt

-- the line is added to the end of its list, and no delta comes after a receipt; or it is a delta that would do so
abbrev pub Places : Line → Book → Book → Bool → Type 0
Places (Logged delta) old new true =
    (old.receipts.items ≡ []) × (new.receipts.items ≡ []) × (new.deltas.items ≡ old.deltas.items ++ delta ∷ [])
Places (Kept receipt) old new true =
    (new.deltas.items ≡ old.deltas.items) × (new.receipts.items ≡ old.receipts.items ++ receipt ∷ [])
Places (Logged delta) old new false = ¬ (old.receipts.items ≡ [])
Places (Kept receipt) old new false = ⊥

-- one more line was read into it, or the lines with this one don't read
abbrev pub Adds : ℕ → List ℕ → Book → Book → Bool → Type 0
Adds C line old new true = (lines : List (List ℕ)) → IsBookOf C lines old → IsBookOf C (lines ++ line ∷ []) new
Adds C line old new false = (lines : List (List ℕ)) → IsBookOf C lines old → ¬ CanRead C (lines ++ line ∷ [])

-- if the input is known, all of its lines were read into it
abbrev pub IsWholeBook : ℕ → Option (List ℕ) → Book → Type 0
IsWholeBook C input book =
    (lines : List (List ℕ)) × IfSome input (λ bytes. lines_of bytes ≡ lines) × IsBookOf C lines book
