-- What a client's method returns of the reply to its call, and what a call by borrowed bytes came to.
use Rattle.std.specs.Prelude.{ℕ, ◌≡◌, ◌⊎◌, Bool, true, false, List, [], ◌∷◌, filter, Option, Some, None, Result, Ok, Err, MatchOption}
use Rattle.std.specs.Option.{option_map}
use Rattle.std.specs.declared.ops.Bound.{Bound}
use Rattle.mt_asked.specs.Bounds.{is_within}
use Rattle.mt_reads.specs.declared.quiet.QuietAnswer.{QuietAnswer}
use Rattle.mt_types.specs.Limits.{page_fault, request_fault}
use Rattle.mt_types.specs.declared.numbers.ViewNo.{ViewNo}
use Rattle.mt_types.specs.declared.refusal.Refusal.{Refusal}
use Rattle.mt_types.specs.declared.refusal.Refusal.TheVariants.{NoMemory, WrongPass}
use Rattle.mt_types.specs.declared.row.Row.{Row}
use Rattle.mt_types.specs.declared.view.Page.{Page}
use Rattle.mt_types.specs.declared.event.Answer.{Answer}
use Rattle.mt_types.specs.declared.event.Answer.TheVariants.{Absent, Built, Found, Removed, Rows, Stored, Tidied}
use Rattle.mt_types.specs.declared.event.Reply.{Reply}
use Rattle.mt_types.specs.declared.event.Request.{Request}
use Rattle.mt_types.specs.declared.event.TidyRule.{TidyRule}
use Rattle.mt_shared.specs.declared.answers.At.{At}
use Rattle.mt_shared.specs.Passes.{PassView}
use Rattle.mt_shared.specs.Drives.{EventLaw, IsDrive}
use Rattle.mt_shared.specs.Pages.{PageIsRead, PageLaw}
use Rattle.mt_shared.specs.Reads.{IsCall, ReadLaw}
use Rattle.mt_shared.specs.Quiet.{pairs_of}
use Rattle.mt_shared.specs.Tidies.{IsDriveTidied, LookLaw}

-- the row of a get, or none
abbrev pub row_of : Answer → Option (Option Row)
row_of Absent = Some None
row_of (Found row) = Some (Some row)
row_of _ = None

-- whether a get has found a row
abbrev pub there_of : Answer → Option Bool
there_of Absent = Some false
there_of (Found row) = Some true
there_of _ = None

-- the commit of a put
abbrev pub stored_of : Answer → Option ℕ
stored_of (Stored commit) = Some commit
stored_of _ = None

-- the commit of a remove, or none
abbrev pub removed_of : Answer → Option (Option ℕ)
removed_of Absent = Some None
removed_of (Removed commit) = Some (Some commit)
removed_of _ = None

-- the pairs of a range
abbrev pub rows_of : Answer → Option (List (List ℕ × Row))
rows_of (Rows pairs) = Some pairs
rows_of _ = None

-- the key of the first pair, if there is one
abbrev pub first_key : List (List ℕ × Row) → Option (List ℕ)
first_key [] = None
first_key (pair ∷ pairs) = Some pair.0

-- the key of the first pair of a range, and of a range against the order of the keys
abbrev pub first_of : Answer → Option (Option (List ℕ))
first_of answer = option_map first_key (rows_of answer)

abbrev pub last_of : QuietAnswer → Option (Option (List ℕ))
last_of answer = option_map first_key (pairs_of answer)

-- those whose keys are within bounds
abbrev pub rows_within : Bound (List ℕ) → Bound (List ℕ) → Answer → Option (List (List ℕ × Row))
rows_within start end answer = option_map (filter (λ pair. is_within start end pair.0)) (rows_of answer)

abbrev pub tidied_of : Answer → Option TidyRule
tidied_of (Tidied rule) = Some rule
tidied_of _ = None

abbrev pub built_of : Answer → Option ViewNo
built_of (Built view) = Some view
built_of _ = None

-- THE ANSWER OF A REPLY, with the commits between which it was true. A reply with an answer of another kind is of another
-- index.
abbrev pub valued : {T : Type 0} → Option T → ℕ → ℕ → Result (At T) Refusal
valued (Some value) from to = Ok (record { value = value; from = from; to = to })
valued None from to = Err WrongPass

abbrev pub answer_at : {T : Type 0} → (Answer → Option T) → Result Reply Refusal → Result (At T) Refusal
answer_at of (Ok reply) = valued (of reply.answer) reply.from reply.to
answer_at of (Err refusal) = Err refusal

-- ---- calls by borrowed bytes

-- a call wasn't made: it was refused for this, and nothing has happened
abbrev pub IsUnmade : {T S : Type 0} → Refusal → Result T Refusal → S → PassView → S → PassView → Type 0
IsUnmade refusal result s p t q = (result ≡ Err refusal) × (t ≡ s) × (q ≡ p)

-- WHAT A CALL BY BORROWED BYTES CAME TO. If it breaks a limit, it is refused for the first one, whatever memory there is,
-- and nothing has happened. Otherwise it was made; or memory for a copy of the bytes was refused, and nothing has happened.
abbrev pub CameTo : {T S : Type 0} → Option Refusal → Type 0 → Result T Refusal → S → PassView → S → PassView → Type 0
CameTo fault made result s p t q =
    MatchOption fault (made ⊎ IsUnmade NoMemory result s p t q) (λ refusal. IsUnmade refusal result s p t q)

-- a get or a range of an index of C columns
abbrev pub Reads : {S : Type 0} → EventLaw S → ReadLaw S → ℕ → S → PassView → Request → Result Reply Refusal → S → PassView
    → Type 0
Reads does shows C s p request ended t q =
    CameTo (request_fault C request) (IsCall does shows s p request ended t q) ended s p t q

-- a change, after which views are kept up, in at most `turns` turns, and tidies follow
abbrev pub Changes : {S : Type 0} → EventLaw S → LookLaw S → ℕ → S → PassView → Request → ℕ → Result Reply Refusal → S
    → PassView → Type 0
Changes does looks C s p request turns ended t q =
    CameTo (request_fault C request) (IsDriveTidied does looks s p request turns ended t q) ended s p t q

-- a tidy
abbrev pub Drives : {S : Type 0} → EventLaw S → ℕ → S → PassView → Request → Result Reply Refusal → S → PassView → Type 0
Drives does C s p request ended t q =
    CameTo (request_fault C request) (IsDrive does s p request ended t q) ended s p t q

-- a page
abbrev pub ReadsPage : {S : Type 0} → EventLaw S → PageLaw S → S → PassView → ViewNo → ℕ → List ℕ → ℕ → Result Page Refusal
    → S → PassView → Type 0
ReadsPage does pages s p view floor start limit result t q =
    CameTo (page_fault start limit) (PageIsRead does pages s p view floor start limit result t q) result s p t q
