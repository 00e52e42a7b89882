-- Lines that read, deltas in front and receipts behind.
use Rattle.std.proofs.Common.{◌≡◌, ℕ, List, [], ◌∷◌, ◌++◌, map, Bool, true, false, Option, None, Some, refl, ap, sym, subst, ◌∙◌, append_assoc}
use Rattle.std.proofs.lemmas.List.{map-append}
use Rattle.std.specs.Prelude.{All}
use Rattle.std.proofs.lemmas.List.Elements.{All-nil, All-push}
use Rattle.mt_types.specs.declared.row.Delta.{Delta}
use Rattle.mt_check.specs.declared.receipt.Receipt.{Receipt}
use Rattle.mt_check.specs.Receipts.{IsAsked}
use Rattle.mt_script.proofs.PlayLemmas.{append_none}
use Rattle.mt_audit.specs.Lines.{line_of}
use Rattle.mt_audit.specs.Audit.{Reads, CanRead}
use Rattle.mt_audit.specs.Book.{IsTaken, Places, Adds}
use Rattle.mt_audit.specs.declared.book.Book.{Book}
use Rattle.mt_audit.specs.declared.line.Line.{Line}
use Rattle.mt_audit.specs.declared.line.Line.TheVariants.{Logged, Kept}

abbrev log_lines : List Delta → List (Option Line)
log_lines deltas = map (λ (delta : Delta). Some (Logged delta)) deltas

abbrev kept_lines : List Receipt → List (Option Line)
kept_lines receipts = map (λ (receipt : Receipt). Some (Kept receipt)) receipts

-- each is a receipt
abbrev AreKept : List (Option Line) → Type 0
AreKept [] = Unit {0}
AreKept (None ∷ xs) = ⊥
AreKept (Some (Logged d) ∷ xs) = ⊥
AreKept (Some (Kept r) ∷ xs) = AreKept xs

-- each says something, deltas in front of receipts
abbrev InOrder : List (Option Line) → Type 0
InOrder [] = Unit {0}
InOrder (None ∷ xs) = ⊥
InOrder (Some (Logged d) ∷ xs) = InOrder xs
InOrder (Some (Kept r) ∷ xs) = AreKept xs

receipts_kept : (rs : List Receipt) → AreKept (kept_lines rs)
receipts_kept [] = tt
receipts_kept (r ∷ rs) = receipts_kept rs

in_order : (ds : List Delta) (rs : List Receipt) → InOrder (log_lines ds ++ kept_lines rs)
in_order [] [] = tt
in_order [] (r ∷ rs) = receipts_kept rs
in_order (d ∷ ds) rs = in_order ds rs

none_kept : (xs : List (Option Line)) → AreKept (xs ++ None ∷ []) → ⊥
none_kept (Some (Kept r) ∷ xs) p = none_kept xs p
none_kept _ p = p

none_in_order : (xs : List (Option Line)) → InOrder (xs ++ None ∷ []) → ⊥
none_in_order [] p = p
none_in_order (None ∷ xs) p = p
none_in_order (Some (Logged d) ∷ xs) p = none_in_order xs p
none_in_order (Some (Kept r) ∷ xs) p = none_kept xs p

late_kept : (rs : List Receipt) (d : Delta) → AreKept (kept_lines rs ++ Some (Logged d) ∷ []) → ⊥
late_kept [] d p = p
late_kept (r ∷ rs) d p = late_kept rs d p

late_in_order : (ds : List Delta) (r : Receipt) (rs : List Receipt) (d : Delta) → InOrder ((log_lines ds ++ kept_lines (r ∷ rs)) ++ Some (Logged d) ∷ []) → ⊥
late_in_order [] r rs d p = late_kept rs d p
late_in_order (e ∷ ds) r rs d p = late_in_order ds r rs d p

-- a line that says nothing
pub cannot_read : (C : ℕ) (lines : List (List ℕ)) (line : List ℕ) → line_of C line ≡ None → CanRead C (lines ++ line ∷ []) → ⊥
cannot_read C lines line none can =
    none_in_order (map (line_of C) lines)
    (subst InOrder (sym can.2 ∙ map-append (line_of C) lines (line ∷ []) ∙ ap (λ (o : Option Line). map (line_of C) lines ++ o ∷ []) none) (in_order can.0 can.1))

-- a delta after a receipt
cannot_place : (C : ℕ) (lines : List (List ℕ)) (line : List ℕ) (ds : List Delta) (rs : List Receipt) (d : Delta) → Reads C lines ds rs → ¬ (rs ≡ []) → line_of C line ≡ Some (Logged d)
    → CanRead C (lines ++ line ∷ []) → ⊥
cannot_place C lines line ds [] d reads some said can = absurd (some refl)
cannot_place C lines line ds (r ∷ rs) d reads some said can =
    late_in_order ds r rs d
    (subst InOrder
    (sym can.2 ∙ map-append (line_of C) lines (line ∷ []) ∙ ap (λ (o : Option Line). map (line_of C) lines ++ o ∷ []) said ∙ ap (λ (l : List (Option Line)). l ++ Some (Logged d) ∷ []) reads)
    (in_order can.0 can.1))

read_delta : (C : ℕ) (lines : List (List ℕ)) (line : List ℕ) (ds ds' : List Delta) (rs rs' : List Receipt) (d : Delta) → Reads C lines ds rs → line_of C line ≡ Some (Logged d)
    → rs ≡ [] → rs' ≡ [] → ds' ≡ ds ++ d ∷ [] → Reads C (lines ++ line ∷ []) ds' rs'
read_delta C lines line ds ds' rs rs' d reads said none none' new =
    map-append (line_of C) lines (line ∷ [])
    ∙ ap (λ (o : Option Line). map (line_of C) lines ++ o ∷ []) said
    ∙ ap (λ (l : List (Option Line)). l ++ Some (Logged d) ∷ []) (reads ∙ ap (λ l. log_lines ds ++ kept_lines l) none ∙ append_none (log_lines ds))
    ∙ sym (map-append (λ (delta : Delta). Some (Logged delta)) ds (d ∷ []))
    ∙ ap log_lines (sym new)
    ∙ sym (append_none (log_lines ds'))
    ∙ ap (λ l. log_lines ds' ++ kept_lines l) (sym none')

read_receipt : (C : ℕ) (lines : List (List ℕ)) (line : List ℕ) (ds ds' : List Delta) (rs rs' : List Receipt) (r : Receipt) → Reads C lines ds rs → line_of C line ≡ Some (Kept r)
    → ds' ≡ ds → rs' ≡ rs ++ r ∷ [] → Reads C (lines ++ line ∷ []) ds' rs'
read_receipt C lines line ds ds' rs rs' r reads said same new =
    map-append (line_of C) lines (line ∷ [])
    ∙ ap (λ (o : Option Line). map (line_of C) lines ++ o ∷ []) said
    ∙ ap (λ (l : List (Option Line)). l ++ Some (Kept r) ∷ []) reads
    ∙ append_assoc (log_lines ds) (kept_lines rs) (Some (Kept r) ∷ [])
    ∙ ap (λ (l : List (Option Line)). log_lines ds ++ l) (sym (map-append (λ (receipt : Receipt). Some (Kept receipt)) rs (r ∷ [])))
    ∙ ap (λ l. log_lines ds ++ kept_lines l) (sym new)
    ∙ ap (λ l. log_lines l ++ kept_lines rs') (sym same)

pub placed : (C : ℕ) (line : List ℕ) (said : Line) (old new : Book) (fits : Bool) → line_of C line ≡ Some said → IsTaken C said → Places said old new fits → Adds C line old new fits
placed C line (Logged d) old new true says taken at = λ lines book. record {
  reads = read_delta C lines line old.deltas.items new.deltas.items old.receipts.items new.receipts.items d book.reads says at.0 at.1 at.2;
  asked = subst (All (IsAsked C)) (sym at.1) (All-nil (IsAsked C));
}
placed C line (Kept r) old new true says taken at = λ lines book. record {
  reads = read_receipt C lines line old.deltas.items new.deltas.items old.receipts.items new.receipts.items r book.reads says at.0 at.1;
  asked = subst (All (IsAsked C)) (sym at.1) (All-push (IsAsked C) old.receipts.items r book.asked taken);
}
placed C line (Logged d) old new false says taken at = λ lines book. cannot_place C lines line old.deltas.items old.receipts.items d book.reads at says
placed C line (Kept r) old new false says taken at = absurd at
