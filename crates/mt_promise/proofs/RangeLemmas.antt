-- The law of ranges.
use Rattle.std.proofs.Common.{◌≡◌, ℕ, List, length, refl}
use Rattle.std.specs.Prelude.{slice_index_or}
use Rattle.mt_promise.proofs.FinishedLemmas.{finished, at_some_moment, at_each_moment}
use Rattle.mt_promise.specs.Headline.{LegalRangesAreRight, WasShown, WasThereThroughout}
use Rattle.mt_promise.specs.History.{History, OpenCall}
use Rattle.mt_promise.specs.RightAnswers.{RightAnswer, RightRange, Shows, Stands}
use Rattle.mt_types.specs.Ranges.{IsRangeAnswer}
use Rattle.mt_types.specs.declared.row.Row.{Row}
use Rattle.mt_types.specs.declared.event.Request.TheVariants.{Range}
use Rattle.mt_types.specs.declared.event.Answer.{Answer}
use Rattle.mt_types.specs.declared.event.Answer.TheVariants.{Rows as RowsAnswer}

-- what a range may answer by the moments of the history, it may by those of the call
gives_range : (C : ℕ) (before past : History) (began : ℕ) → began ≡ length before → (start asked : List ℕ) (limit : ℕ) (pairs : List (List ℕ × Row))
    → RightRange C began past start asked limit pairs
    → IsRangeAnswer (WasShown C before past asked) (WasThereThroughout C before past) start limit pairs
gives_range C before past began e start asked limit pairs right = record {
  rises = right.rises;
  from_start = right.from_start;
  few = right.few;
  stood = λ k d below.
      let pair = slice_index_or pairs k d in
      let at = at_some_moment before past began (Shows C pair.0 asked pair.1) e (right.stood k d below) in
      (at.holds.0, at.holds.2, record { newer = at.newer; then = at.then; before_end = at.before_end; since_begin = at.since_begin; holds = at.holds.1 });
  once = λ key from each up_to. right.once key from (at_each_moment before past began (Stands C key) e each) up_to;
}

range_replies : (C : ℕ) (start asked : List ℕ) (limit : ℕ) (before past : History) (call : OpenCall) (note : ℕ) → call.began ≡ length before
    → (answer : Answer) → RightAnswer C past call (Range start limit asked) answer note
    → (pairs : List (List ℕ × Row)) × (answer ≡ RowsAnswer pairs)
    × IsRangeAnswer (WasShown C before past asked) (WasThereThroughout C before past) start limit pairs
range_replies C start asked limit before past call note began (RowsAnswer pairs) right =
    (pairs, refl, gives_range C before past call.began began start asked limit pairs right)
range_replies C start asked limit before past call note began _ right = absurd right

pub legal_ranges : LegalRangesAreRight
legal_ranges C h legal start asked limit reply before past f =
    let done = finished C h legal (Range start limit asked) reply before past f in
    range_replies C start asked limit before past done.call f.end_note done.so.1.began_is reply.answer done.answer
