-- Legal histories give sound receipts.
use Rattle.std.proofs.Common.{◌≡◌, ◌≤◌, ℕ, zero, suc, ◌+◌, ◌-◌, List, [], ◌∷◌, ◌++◌, take, length, Some, None, refl, ap, sym, ◌∙◌, subst, arith, append_assoc, length-append}
use Rattle.std.specs.Prelude.{slice_index_or, IsSome}
use Rattle.std.specs.FinMap.{get, empty}
use Rattle.mt_types.specs.Rows.{Rows, after, after_from, after_change, shown, version_of}
use Rattle.mt_types.specs.declared.row.Row.{Row}
use Rattle.mt_types.specs.declared.row.Change.{Change}
use Rattle.mt_types.specs.declared.row.Change.TheVariants.{Put as PutChange, Drop as DropChange}
use Rattle.mt_types.specs.declared.event.Event.TheVariants.{Begin, Step, ViewRead}
use Rattle.mt_types.specs.declared.event.Outcome.TheVariants.{Call, Done, View}
use Rattle.mt_types.specs.declared.event.Request.{Request}
use Rattle.mt_types.specs.declared.event.Request.TheVariants.{Get, Put, PutIf, Remove, Range, Tidy, Build}
use Rattle.mt_types.specs.declared.event.Answer.{Answer}
use Rattle.mt_types.specs.declared.event.Answer.TheVariants.{Absent, Found, Stored, Removed, Rows as RowsAnswer}
use Rattle.mt_promise.specs.History.{History, Happening, OpenCall, happening, moment, rows, call_of, change_of, Sometime as SometimeIn}
use Rattle.mt_promise.specs.RightAnswers.{Shows as ShowsIn, Lacks as LacksIn, Stands as StandsIn, RightAnswer}
use Rattle.mt_promise.specs.Legal.{Legal}
use Rattle.mt_promise.specs.Headline.{AtSomeMoment, AtEachMoment}
use Rattle.mt_promise.proofs.CallLemmas.{began_so}
use Rattle.mt_promise.proofs.FinishedLemmas.{legal_before, done_call, at_some_moment, at_each_moment}
use Rattle.mt_promise.proofs.PageLemmas.{legal_views}
use Rattle.mt_commit.specs.Logged.{delta_made, deltas_from}
use Rattle.mt_commit.proofs.DeltaLemmas.{redone, delta_at}
use Rattle.mt_check.specs.Receipts.{rows_after, rows_at, Sometime, Throughout, Shows, Lacks, IsOfVersion, IsCommit, IsRightAnswer, page_of_rows, GivesReceipt}
use Rattle.mt_check.specs.Worth.{deltas_after, RepliesAreSound, PagesAreSound}
use Rattle.mt_check.proofs.CommitLemmas.{GoesOnFrom, commits_since, first_commits, fewer_commits, change_stays, take_within, Made, made_stays, calls_kept}

-- the rows after the first deltas of changes are those after the first changes
pub rows_taken : (C number : ℕ) (old : Rows) (cs : List Change) (n : ℕ) → rows_after (take n (deltas_from C number old cs)) old ≡ after_from C number old (take n cs)
rows_taken C number old cs zero = refl
rows_taken C number old [] (suc n) = refl
rows_taken C number old (c ∷ cs) (suc n) =
    let made = after_change C (number + 1) c old in
    ap (λ (r : Rows). rows_after (take n (deltas_from C (number + 1) made cs)) r) (sym (redone C (number + 1) c old))
    ∙ rows_taken C (number + 1) made cs n

deltas_length : (C number : ℕ) (old : Rows) (cs : List Change) → length (deltas_from C number old cs) ≡ length cs
deltas_length C number old [] = refl
deltas_length C number old (c ∷ cs) = ap (λ (n : ℕ). suc n) (deltas_length C (number + 1) (after_change C (number + 1) c old) cs)

goes_trans : (a b c : List Change) → GoesOnFrom a b → GoesOnFrom b c → GoesOnFrom a c
goes_trans a b c g k = (k.0 ++ g.0, g.1 ∙ ap (λ (cs : List Change). cs ++ g.0) k.1 ∙ append_assoc c k.0 g.0)

-- the commits of a history continue those of a past of it
commits_after : (h later past : History) (x : Happening) → h ≡ later ++ x ∷ past → GoesOnFrom (moment h).commits (moment past).commits
commits_after h later past x e =
    goes_trans (moment h).commits (moment (x ∷ past)).commits (moment past).commits
    (subst (λ (z : History). GoesOnFrom (moment z).commits (moment (x ∷ past)).commits) (sym e) (commits_since later (x ∷ past)))
    (commits_since (x ∷ []) past)

-- two ends of one history: the longer continues the shorter
ends : (a b x y : History) → a ++ x ≡ b ++ y → length y ≤ length x → (between : History) × (x ≡ between ++ y)
ends [] b x y e h = (b, e)
ends (p ∷ a) [] x y e h =
    let size = ap (λ (z : History). length z) (sym e) in
    let more = length-append a x in
    absurd (omega (arith, size, more, h))
ends (p ∷ a) (q ∷ b) x y e h = let rest : a ++ x ≡ b ++ y = cc in ends a b x y rest h

-- what a call of a legal history is held against: the deltas of the history's commits
record Spans (C : ℕ) (h before past : History) : Type 0 where
  since : GoesOnFrom (moment h).commits (moment past).commits
  between : History
  began : past ≡ between ++ before

-- the rows at a moment of the call are those at its number of commits
rows_then : (C : ℕ) (h before past newer then : History) → Spans C h before past → past ≡ newer ++ then → rows_at (deltas_after C h) (length (moment then).commits) ≡ rows C (moment then)
rows_then C h before past newer then s e =
    let cs = (moment h).commits in
    let to_past = subst (λ (z : History). GoesOnFrom (moment z).commits (moment then).commits) (sym e) (commits_since newer then) in
    let g = goes_trans cs (moment past).commits (moment then).commits s.since to_past in
    rows_taken C 0 empty cs (length (moment then).commits) ∙ ap (after_from C 0 empty) (first_commits cs (moment then).commits g)

number_then : (C : ℕ) (h before past newer then : History) → Spans C h before past → past ≡ newer ++ then → length before ≤ length then
    → (length (moment before).commits ≤ length (moment then).commits) × (length (moment then).commits ≤ length (moment past).commits)
number_then C h before past newer then s e since =
    let mid = ends newer s.between then before (sym e ∙ s.began) since in
    let from_before = subst (λ (z : History). GoesOnFrom (moment z).commits (moment before).commits) (sym mid.1) (commits_since mid.0 before) in
    let to_past = subst (λ (z : History). GoesOnFrom (moment z).commits (moment then).commits) (sym e) (commits_since newer then) in
    (fewer_commits (moment then).commits (moment before).commits from_before, fewer_commits (moment past).commits (moment then).commits to_past)

-- what was so of the rows at some moment was so at some number
at_some_number : (C : ℕ) (h before past : History) → Spans C h before past → (Q : Rows → Type 0) (from to : ℕ) → from ≡ length (moment before).commits → to ≡ length (moment past).commits
    → AtSomeMoment before past (λ m. Q (rows C m)) → Sometime from to (λ number. Q (rows_at (deltas_after C h) number))
at_some_number C h before past s Q from to f t a =
    let n = number_then C h before past a.newer a.then s a.before_end a.since_begin in
    let low = n.0 in
    let high = n.1 in (
      length (moment a.then).commits,
      omega (arith, f, low),
      omega (arith, t, high),
      subst (λ (r : Rows). Q r) (sym (rows_then C h before past a.newer a.then s a.before_end)) a.holds,
    )

-- what was so at each number was so at each moment
at_each_number : (C : ℕ) (h before past : History) → Spans C h before past → (Q : Rows → Type 0) (from to : ℕ) → from ≡ length (moment before).commits → to ≡ length (moment past).commits
    → Throughout from to (λ number. Q (rows_at (deltas_after C h) number)) → AtEachMoment before past (λ m. Q (rows C m))
at_each_number C h before past s Q from to f t each newer then e since =
    let n = number_then C h before past newer then s e since in
    let low = n.0 in
    let high = n.1 in
    subst (λ (r : Rows). Q r) (rows_then C h before past newer then s e) (each (length (moment then).commits) (omega (arith, f, low)) (omega (arith, t, high)))

-- the delta of a commit
commit_delta : (C : ℕ) (h before past : History) → Spans C h before past → (from to number : ℕ) (request : Request) (change : Change) → to ≡ length (moment past).commits
    → change_of request ≡ change ∷ [] → Made C (moment past).commits from request number → IsCommit C (deltas_after C h) from to number change
commit_delta C h before past s from to number request change t is made =
    let cs = (moment h).commits in
    let above = made.above in
    let within = made.within in
    let both : made.change ∷ [] ≡ change ∷ [] = sym made.asked ∙ is in
    let same : made.change ≡ change = cc in
    let at = change_stays cs (moment past).commits (number - 1) made.change s.since made.at in
    let place : 0 + (number - 1) + 1 ≡ number = omega (arith, above) in (
      above,
      omega (arith, t, within),
      delta_at C 0 empty cs (number - 1) made.change at
          ∙ ap (λ (n : ℕ). Some (delta_made C n made.change (after_from C 0 empty (take (number - 1) cs)))) place
          ∙ ap (λ (c : Change). Some (delta_made C number c (after_from C 0 empty (take (number - 1) cs)))) same
          ∙ ap (λ (r : Rows). Some (delta_made C number change r)) (sym (rows_taken C 0 empty cs (number - 1))),
    )

-- and the row over which a conditional put made its own
commit_over : (C : ℕ) (h before past : History) → Spans C h before past → (from number : ℕ) (key : List ℕ) (sets : List (ℕ × List ℕ)) (version : ℕ) → Made C (moment past).commits from (PutIf key sets version) number
    → IsOfVersion (deltas_after C h) key version (number - 1)
commit_over C h before past s from number key sets version made =
    let cs = (moment h).commits in
    ap (λ (r : Rows). version_of (get r key)) (rows_taken C 0 empty cs (number - 1)) ∙ (made_stays C cs (moment past).commits from (PutIf key sets version) number s.since made).over

-- what is known of the call when it is done
record DoneCall (C : ℕ) (before past : History) (call : OpenCall) (request : Request) (from to : ℕ) : Type 0 where
  request_is : call.request ≡ request
  began : call.began ≡ length before
  from_is : from ≡ length (moment before).commits
  from_call : from ≡ call.from
  to_is : to ≡ length (moment past).commits
  made : (number : ℕ) → call.committed ≡ Some number → Made C (moment past).commits call.from call.request number

made_for : (C : ℕ) (before past : History) (call : OpenCall) (request : Request) (from to number : ℕ) → DoneCall C before past call request from to → call.committed ≡ Some number
    → Made C (moment past).commits from request number
made_for C before past call request from to number d e =
    subst (λ (q : Request). Made C (moment past).commits from q number) d.request_is
    (subst (λ (f : ℕ). Made C (moment past).commits f call.request number) (sym d.from_call) (d.made number e))

some_lacks : (C : ℕ) (h before past : History) (call : OpenCall) (request : Request) (from to : ℕ) (key : List ℕ) → Spans C h before past → DoneCall C before past call request from to
    → SometimeIn call.began (LacksIn C key) past → Sometime from to (Lacks (deltas_after C h) key)
some_lacks C h before past call request from to key s d right =
    at_some_number C h before past s (λ (r : Rows). get r key ≡ None) from to d.from_is d.to_is (at_some_moment before past call.began (LacksIn C key) d.began right)

some_shows : (C : ℕ) (h before past : History) (call : OpenCall) (request : Request) (from to : ℕ) (key asked : List ℕ) (answer : Row) → Spans C h before past → DoneCall C before past call request from to
    → SometimeIn call.began (ShowsIn C key asked answer) past → Sometime from to (Shows (deltas_after C h) key asked answer)
some_shows C h before past call request from to key asked answer s d right =
    at_some_number C h before past s (λ (r : Rows). (row : Row) × (get r key ≡ Some row) × (answer ≡ shown asked row)) from to d.from_is d.to_is
    (at_some_moment before past call.began (ShowsIn C key asked answer) d.began right)

sound_answer : (C : ℕ) (h before past : History) (call : OpenCall) (from to note : ℕ) → Spans C h before past → (request : Request) (answer : Answer) → GivesReceipt request
    → DoneCall C before past call request from to → RightAnswer C past call request answer note → IsRightAnswer C (deltas_after C h) from to request answer
sound_answer C h before past call from to note s (Get key asked) Absent gives d right = some_lacks C h before past call (Get key asked) from to key s d right
sound_answer C h before past call from to note s (Get key asked) (Found row) gives d right = some_shows C h before past call (Get key asked) from to key asked row s d right
sound_answer C h before past call from to note s (Put key sets) (Stored number) gives d right =
    commit_delta C h before past s from to number (Put key sets) (PutChange key sets) d.to_is refl (made_for C before past call (Put key sets) from to number d right)
sound_answer C h before past call from to note s (PutIf key sets version) (Stored number) gives d right =
    let made = made_for C before past call (PutIf key sets version) from to number d right in (
      commit_delta C h before past s from to number (PutIf key sets version) (PutChange key sets) d.to_is refl made,
      commit_over C h before past s from number key sets version made,
    )
sound_answer C h before past call from to note s (Remove key) (Removed number) gives d right =
    commit_delta C h before past s from to number (Remove key) (DropChange key) d.to_is refl (made_for C before past call (Remove key) from to number d right)
sound_answer C h before past call from to note s (Remove key) Absent gives d right = some_lacks C h before past call (Remove key) from to key s d right.1
sound_answer C h before past call from to note s (Range start limit asked) (RowsAnswer pairs) gives d right = record {
  rises = right.rises;
  from_start = right.from_start;
  few = right.few;
  stood = λ k x below.
      some_shows C h before past call (Range start limit asked) from to (slice_index_or pairs k x).0 asked (slice_index_or pairs k x).1 s d (right.stood k x below);
  once = λ key ge each bound.
      right.once key ge
      (at_each_moment before past call.began (StandsIn C key) d.began (at_each_number C h before past s (λ (r : Rows). IsSome (get r key)) from to d.from_is d.to_is each))
      bound;
}
sound_answer C h before past call from to note s (Tidy key) answer gives d right = absurd gives
sound_answer C h before past call from to note s (Build spec) answer gives d right = absurd gives
sound_answer C h before past call from to note s _ _ gives d right = absurd right

pub replies_are_sound : RepliesAreSound
replies_are_sound C h legal request reply before past f gives =
    let x = happening (Step f.number) (Done reply) f.end_note in
    let whole = subst (λ (z : History). Legal C z) f.ended legal in
    let end = legal_before C f.later x past whole in
    let done = done_call C past f.number.0 (call_of f.number.0 (moment past).calls) refl reply f.end_note end.1 in
    let begin = happening (Begin f.pass request) (Call f.number) f.begin_note in
    let legal_start = subst (λ (z : History). Legal C z) f.begun end.0 in
    let open_start = subst (λ (z : History). call_of f.number.0 (moment z).calls ≡ Some done.0) f.begun done.1 in
    let so = began_so C f.between before f.pass request f.number f.begin_note legal_start done.0 open_start in
    let right = done.2 in
    let kept = calls_kept C past end.0 f.number.0 done.0 done.1 in
    let s : Spans C h before past = record {
      since = commits_after h f.later past x f.ended;
      between = f.between ++ begin ∷ [];
      began = f.begun ∙ sym (append_assoc f.between (begin ∷ []) before);
    } in
    let d : DoneCall C before past done.0 request reply.from reply.to = record {
      request_is = so.request_is;
      began = so.began_is;
      from_is = right.from ∙ so.from_is;
      from_call = right.from;
      to_is = right.to;
      made = kept.made;
    } in
    let size : length (deltas_after C h) ≡ length (moment h).commits = deltas_length C 0 empty (moment h).commits in
    let more = fewer_commits (moment h).commits (moment past).commits s.since in
    let began = kept.began in
    let from = right.from in
    let to = right.to in (
      (omega (arith, from, to, began), omega (arith, size, more, to)),
      sound_answer C h before past done.0 reply.from reply.to f.end_note s request reply.answer gives d
          (subst (λ (q : Request). RightAnswer C past done.0 q reply.answer f.end_note) so.request_is right.answer),
    )

pub pages_are_sound : PagesAreSound
pages_are_sound C h legal view floor start limit page note later past e =
    let right = legal_views C h legal view floor start limit page note later past e in
    let spec = right.1.0 in
    let shows = right.1.2 in
    let g = commits_after h later past (happening (ViewRead view floor start limit) (View page) note) e in
    let reached = shows.reached in
    let size : length (deltas_after C h) ≡ length (moment h).commits = deltas_length C 0 empty (moment h).commits in
    let more = fewer_commits (moment h).commits (moment past).commits g in
    let first : take page.at (moment h).commits ≡ take page.at (moment past).commits =
    ap (λ (cs : List Change). take page.at cs) g.1 ∙ take_within (moment past).commits g.0 page.at reached in
    let same : rows_at (deltas_after C h) page.at ≡ after C (take page.at (moment past).commits) = rows_taken C 0 empty (moment h).commits page.at ∙ ap (after_from C 0 empty) first in
    let shown_page : page ≡ page_of_rows C (after C (take page.at (moment past).commits)) page.at spec start limit =
    λ i. record { at = page.at; count = shows.count i; sums = shows.sums i; rows = shows.rows i } in (
      spec,
      right.1.1,
      (
        (omega arith, omega (arith, size, more, reached)),
        (right.0, omega arith, shown_page ∙ ap (λ (r : Rows). page_of_rows C r page.at spec start limit) (sym same)),
      ),
    )
