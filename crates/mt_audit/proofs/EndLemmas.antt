-- A book that is being read.
use Rattle.std.proofs.Common.{◌≡◌, ℕ, ◌+◌, ◌-◌, List, [], ◌∷◌, ◌++◌, length, take, refl, ap, sym, subst, ◌∙◌, arith, length-append, append_assoc, Option, Some, None, IfSome}
use Rattle.std.proofs.Math.Seq.{take-append_seam}
use Rattle.mt_script.specs.Lines.{lines_of, LosesLine, LosesNoLine}
use Rattle.mt_script.proofs.PlayLemmas.{Goes, Goes-start, Goes-more, Goes-end, Goes-front, Goes-cut}
use Rattle.mt_audit.specs.Audit.{CanRead, IsVerdictOn, ReadsSoFar}
use Rattle.mt_audit.specs.Book.{IsBookOf, IsWholeBook}
use Rattle.mt_audit.specs.declared.book.Book.{Book}
use Rattle.mt_audit.specs.declared.verdict.Verdict.TheVariants.{Bad}

-- this number of lines were read into it, and the first lines of the input are these
pub record IsReading (C : ℕ) (input now : Option (List ℕ)) (number : ℕ) (book : Book) : Type 0 where
  pub lines : List (List ℕ)
  pub goes : Goes input now lines
  pub count : number ≡ length lines
  pub holds : IsBookOf C lines book

pub reading_none : (C : ℕ) (input : Option (List ℕ)) (book : Book) → IsBookOf C [] book → IsReading C input input 0 book
reading_none C input book none = record { lines = []; goes = Goes-start input; count = refl; holds = none }

length-push : (lines : List (List ℕ)) (line : List ℕ) → length (lines ++ line ∷ []) ≡ length lines + 1
length-push lines line = length-append lines (line ∷ [])

pub reading_more : (C : ℕ) (input now next : Option (List ℕ)) (number : ℕ) (book more : Book) (line : List ℕ) → IsReading C input now number book → IfSome now (λ xs. LosesLine xs next (Some line))
    → ((lines : List (List ℕ)) → IsBookOf C lines book → IsBookOf C (lines ++ line ∷ []) more) → IsReading C input next (number + 1) more
reading_more C input now next number book more line reading lost adds = record {
  lines = reading.lines ++ line ∷ [];
  goes = Goes-more input now next reading.lines line reading.goes lost;
  count = ap (λ n. n + 1) reading.count ∙ sym (length-push reading.lines line);
  holds = adds reading.lines reading.holds;
}

pub reading_end : (C : ℕ) (input now next : Option (List ℕ)) (number : ℕ) (book : Book) → IsReading C input now number book → IfSome now (λ xs. LosesLine xs next None) → IsWholeBook C input book
reading_end C input now next number book reading lost = (reading.lines, Goes-end input now next reading.lines reading.goes lost, reading.holds)

book_can : (C : ℕ) (lines : List (List ℕ)) (book : Book) → IsBookOf C lines book → CanRead C lines
book_can C lines book is = (book.deltas.items, book.receipts.items, is.reads)

-- a read failed after these lines
pub reading_cut : (C : ℕ) (input now unread : Option (List ℕ)) (number : ℕ) (book : Book) → IsReading C input now number book → IfSome now (LosesNoLine unread) → ReadsSoFar C input unread
reading_cut C input now unread number book reading cut = (reading.lines, book_can C reading.lines book reading.holds, Goes-cut input now unread reading.lines reading.goes cut)

pub reading_bad : (C : ℕ) (input now next : Option (List ℕ)) (number : ℕ) (book : Book) (line : List ℕ) → IsReading C input now number book → IfSome now (λ xs. LosesLine xs next (Some line))
    → ((lines : List (List ℕ)) → IsBookOf C lines book → ¬ CanRead C (lines ++ line ∷ [])) → IsVerdictOn C input (Bad (number + 1))
reading_bad C input now next number book line reading lost cannot =
    let some : List (List ℕ) = reading.lines ++ line ∷ [] in
    let front : (more : List (List ℕ)) × IfSome input (λ xs. lines_of xs ≡ some ++ more) = Goes-front input next some (Goes-more input now next reading.lines line reading.goes lost) in
    let before : take (number + 1 - 1) (some ++ front.0) ≡ reading.lines =
    ap (λ (xs : List (List ℕ)). take (number + 1 - 1) xs) (append_assoc reading.lines (line ∷ []) front.0)
    ∙ ap (λ n. take n (reading.lines ++ (line ∷ [] ++ front.0))) (let e : number + 1 - 1 ≡ length reading.lines = omega (arith, reading.count) in e)
    ∙ take-append_seam reading.lines (line ∷ [] ++ front.0) in
    let with_it : take (number + 1) (some ++ front.0) ≡ some =
    ap (λ n. take n (some ++ front.0)) (let e : number + 1 ≡ length some = omega (arith, reading.count, length-push reading.lines line) in e) ∙ take-append_seam some front.0 in (
      some ++ front.0,
      front.1,
      (subst (CanRead C) (sym before) (book_can C reading.lines book reading.holds), λ can. cannot reading.lines reading.holds (subst (CanRead C) with_it can)),
    )
