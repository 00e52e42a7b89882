-- The law of gets.
use Rattle.std.proofs.Common.{◌≡◌, ℕ, List, length, Some, None, ap, refl, inl, inr, ◌⊎◌}
use Rattle.std.specs.FinMap.{get}
use Rattle.mt_promise.proofs.FinishedLemmas.{finished, at_some_moment}
use Rattle.mt_promise.specs.Headline.{LegalGetsAreRight, AtSomeMoment}
use Rattle.mt_promise.specs.History.{History, OpenCall, rows}
use Rattle.mt_promise.specs.RightAnswers.{RightAnswer, Shows, Lacks}
use Rattle.mt_types.specs.Rows.{shown}
use Rattle.mt_types.specs.declared.row.Row.{Row}
use Rattle.mt_types.specs.declared.event.Request.TheVariants.{Get}
use Rattle.mt_types.specs.declared.event.Answer.{Answer}
use Rattle.mt_types.specs.declared.event.Answer.TheVariants.{Absent, Found}

-- what a get may reply
abbrev GetReplies : ℕ → List ℕ → List ℕ → History → History → Answer → Type 0
GetReplies C key asked before past answer =
    ((answer ≡ Absent) × AtSomeMoment before past (λ m. get (rows C m) key ≡ None))
    ⊎ ((row : Row) × (answer ≡ Found (shown asked row)) × AtSomeMoment before past (λ m. get (rows C m) key ≡ Some row))

-- the moment at which an answer was the row
some_row : (C : ℕ) (key asked : List ℕ) (before past : History) (answer : Row) → AtSomeMoment before past (Shows C key asked answer)
    → (row : Row) × (Found answer ≡ Found (shown asked row)) × AtSomeMoment before past (λ m. get (rows C m) key ≡ Some row)
some_row C key asked before past answer at = (
  at.holds.0,
  ap Found at.holds.2,
  record { newer = at.newer; then = at.then; before_end = at.before_end; since_begin = at.since_begin; holds = at.holds.1 },
)

get_replies : (C : ℕ) (key asked : List ℕ) (before past : History) (call : OpenCall) (note : ℕ) → call.began ≡ length before
    → (answer : Answer) → RightAnswer C past call (Get key asked) answer note → GetReplies C key asked before past answer
get_replies C key asked before past call note began Absent right = inl (refl, at_some_moment before past call.began (Lacks C key) began right)
get_replies C key asked before past call note began (Found row) right =
    inr (some_row C key asked before past row (at_some_moment before past call.began (Shows C key asked row) began right))
get_replies C key asked before past call note began _ right = absurd right

pub legal_gets : LegalGetsAreRight
legal_gets C h legal key asked reply before past f =
    let done = finished C h legal (Get key asked) reply before past f in
    get_replies C key asked before past done.call f.end_note done.so.1.began_is reply.answer done.answer
