-- The deltas of a legal history and the receipts that it gives have no fault.
use Rattle.std.proofs.Common.{◌≡◌, ◌<◌, ℕ, zero, suc, ◌+◌, ◌-◌, List, [], ◌∷◌, ◌++◌, take, length, Option, Some, None, refl, ap, sym, ◌∙◌, subst, arith, inl, inr, ◌⊎◌}
use Rattle.std.specs.Prelude.{slice_get, IsSome}
use Rattle.std.specs.FinMap.{get, empty}
use Rattle.std.proofs.lemmas.Option.{slice_get_within}
use Rattle.mt_types.specs.Rows.{Rows, after, after_from}
use Rattle.mt_types.specs.declared.row.Change.{Change}
use Rattle.mt_types.specs.declared.row.Change.TheVariants.{Put as PutChange, Drop as DropChange}
use Rattle.mt_types.specs.declared.row.Row.{Row}
use Rattle.mt_types.specs.declared.row.Delta.{Delta}
use Rattle.mt_types.specs.declared.event.Event.{Event}
use Rattle.mt_types.specs.declared.event.Event.TheVariants.{Begin, Step, Apply, ViewRead, ViewDrop, Advance, Collect}
use Rattle.mt_types.specs.declared.event.Outcome.{Outcome}
use Rattle.mt_types.specs.declared.event.Outcome.TheVariants.{Call as Called, Moved, Again, Commit, Done, Applied, View, Dropped, Epoch, Refused}
use Rattle.mt_types.specs.declared.event.Request.{Request}
use Rattle.mt_types.specs.declared.event.Request.TheVariants.{Put, PutIf, Remove, Build}
use Rattle.mt_types.specs.declared.event.Answer.{Answer}
use Rattle.mt_types.specs.declared.event.Answer.TheVariants.{Stored, Removed}
use Rattle.mt_types.specs.declared.numbers.ViewNo.{ViewNo}
use Rattle.mt_types.specs.declared.view.ViewSpec.{ViewSpec}
use Rattle.mt_promise.specs.History.{History, happening, moment, call_of, OpenCall, after_event, after_call_step, change_of}
use Rattle.mt_promise.specs.Legal.{Legal, MayHappen, MayStep, MayStepAt}
use Rattle.mt_promise.specs.Headline.{StandsAt}
use Rattle.mt_promise.specs.Finished.{commit_named}
use Rattle.mt_promise.proofs.FinishedLemmas.{legal_before}
use Rattle.mt_promise.proofs.OnceLemmas.{carries, calls_finish_once, views_are_built_once}
use Rattle.mt_promise.proofs.CommitLemmas.{commits_are_named_once}
use Rattle.mt_commit.specs.Logged.{key_of, delta_made}
use Rattle.mt_commit.proofs.DeltaLemmas.{delta_at, get-row_put, deltas_of-length}
use Rattle.mt_check.specs.declared.receipt.Receipt.{Receipt}
use Rattle.mt_check.specs.declared.receipt.Receipt.TheVariants.{Call, Page}
use Rattle.mt_check.specs.Receipts.{rows_at, HasVersion, FitsRow, IsSound, claim, claim_of, ClaimsAgain}
use Rattle.mt_check.specs.Versions.{AreSound}
use Rattle.mt_check.specs.Worth.{deltas_after, IsGiven, IsOfCall, AreGiven, AuditsBlameNone}
use Rattle.mt_check.proofs.LogLemmas.{sound_clean}
use Rattle.mt_check.proofs.JudgeLemmas.{sound_unbroken}
use Rattle.mt_check.proofs.WorthLemmas.{rows_taken, replies_are_sound, pages_are_sound}

-- ---- the commits of a legal history take away rows that are there alone
abbrev IsOver : ℕ → List Change → Change → Type 0
IsOver C cs (PutChange key sets) = Unit {0}
IsOver C cs (DropChange key) = IsSome (get (after C cs) key)

-- each change is over the rows before it
abbrev AllOver : ℕ → List Change → Type 0
AllOver C cs = (i : ℕ) (change : Change) → slice_get cs i ≡ Some change → IsOver C (take i cs) change

-- the commits are as they were, or one more was made
abbrev AddsOver : ℕ → List Change → List Change → Type 0
AddsOver C old new = (new ≡ old) ⊎ ((change : Change) × (new ≡ old ++ change ∷ []) × IsOver C old change)

committed_over : (C : ℕ) (past : History) (call : OpenCall) (request : Request) (number note : ℕ) → MayStep C past (record call { request = request }) (Commit number) note
    → (change : Change) × (change_of request ≡ change ∷ []) × IsOver C (moment past).commits change
committed_over C past call (Put key sets) number note may = (PutChange key sets, refl, tt)
committed_over C past call (PutIf key sets version) number note may = (PutChange key sets, refl, tt)
committed_over C past call (Remove key) number note may = (DropChange key, refl, may.2)
committed_over C past call _ number note may = absurd may

adds_by_step : (C : ℕ) (past : History) (r : Option OpenCall) (o : Outcome) (note : ℕ) → MayStepAt C past r o note → AddsOver C (moment past).commits (after_call_step (moment past) r o note).commits
adds_by_step C past None o note may = inl refl
adds_by_step C past (Some call) (Commit number) note may =
    let (change, own, over) = committed_over C past call call.request number note may in
    inr (change, ap (λ (l : List Change). (moment past).commits ++ l) own, over)
adds_by_step C past (Some call) Moved note may = inl refl
adds_by_step C past (Some call) Again note may = inl refl
adds_by_step C past (Some call) (Done reply) note may = inl refl
adds_by_step C past (Some call) (Refused refusal) note may = inl refl
adds_by_step C past (Some call) _ note may = absurd may

adds_by_event : (C : ℕ) (past : History) (e : Event) (o : Outcome) (note : ℕ) → MayHappen C past e o note → AddsOver C (moment past).commits (after_event (moment past) e o note).commits
adds_by_event C past (Begin pass request) (Called number) note may = inl refl
adds_by_event C past (Step call) o note may = adds_by_step C past (call_of call.0 (moment past).calls) o note may
adds_by_event C past (Apply view) (Applied number) note may = inl refl
adds_by_event C past (ViewDrop view) Dropped note may = inl refl
adds_by_event C past Advance (Epoch number) note may = inl refl
adds_by_event C past (ViewRead view floor start limit) o note may = inl refl
adds_by_event C past Collect o note may = inl refl
adds_by_event C past _ _ note may = inl refl

-- a place of a list and one more
in_front : (cs : List Change) (c : Change) (i : ℕ) (change : Change) → slice_get (cs ++ c ∷ []) i ≡ Some change
    → ((slice_get cs i ≡ Some change) × (take i (cs ++ c ∷ []) ≡ take i cs)) ⊎ ((change ≡ c) × (take i (cs ++ c ∷ []) ≡ cs))
in_front [] c zero change e = let same : c ≡ change = cc in inr (sym same, refl)
in_front [] c (suc i) change e = let clash : ◌≡◌ {A = Option Change} None (Some change) = e in cc
in_front (x ∷ cs) c zero change e = inl (e, refl)
in_front (x ∷ cs) c (suc i) change e = elim (in_front cs c i change e) [
  | inl there ↦ inl (there.0, ap (λ (l : List Change). x ∷ l) there.1)
  | inr last ↦ inr (last.0, ap (λ (l : List Change). x ∷ l) last.1)
]

adds_all : (C : ℕ) (old new : List Change) → AddsOver C old new → AllOver C old → AllOver C new
adds_all C old new (inl same) all = subst (AllOver C) (sym same) all
adds_all C old new (inr (change, is, over)) all = subst (AllOver C) (sym is) (λ i c at. elim (in_front old change i c at) [
  | inl there ↦ subst (λ (l : List Change). IsOver C l c) (sym there.1) (all i c there.0)
  | inr last ↦ subst (λ (l : List Change). IsOver C l c) (sym last.1) (subst (λ (x : Change). IsOver C old x) (sym last.0) over)
])

all_over : (C : ℕ) (h : History) → Legal C h → AllOver C (moment h).commits
all_over C [] legal = λ i change at. (let clash : ◌≡◌ {A = Option Change} None (Some change) = at in cc)
all_over C (x ∷ h) legal = adds_all C (moment h).commits (moment (x ∷ h)).commits (adds_by_event C h x.event x.outcome x.opens legal.1) (all_over C h legal.0)

-- ---- the deltas of its commits are sound
has_version : (number : ℕ) (row : Option Row) (given : Option Row) → row ≡ given → HasVersion number given → HasVersion number row
has_version number row given is h = subst (HasVersion number) (sym is) h

fits_made : (C number : ℕ) (change : Change) (cs : List Change) → IsOver C cs change → FitsRow (get (after C cs) (key_of change)) (delta_made C number change (after C cs))
fits_made C number (PutChange key sets) cs over = record {
  before = refl;
  version = has_version number _ (Some _) (get-row_put key (Some _) (after C cs)) refl;
  changes = inr (subst IsSome (sym (get-row_put key (Some _) (after C cs))) refl);
}
fits_made C number (DropChange key) cs over = record {
  before = refl;
  version = has_version number _ None (get-row_put key None (after C cs)) tt;
  changes = inl over;
}

some_change : (cs : List Change) (i : ℕ) → i < length cs → (change : Change) × (slice_get cs i ≡ Some change)
some_change [] i below = absurd (omega (arith, below))
some_change (c ∷ cs) zero below = (c, refl)
some_change (c ∷ cs) (suc i) below = some_change cs i (omega (arith, below))

same_delta : (a b : Delta) → ◌≡◌ {A = Option Delta} (Some a) (Some b) → a ≡ b
same_delta a b e = cc e

pub deltas_sound : (C : ℕ) (h : History) → Legal C h → AreSound (deltas_after C h) (length (deltas_after C h))
deltas_sound C h legal i d below at =
    let cs = (moment h).commits in
    let size = deltas_of-length C cs in
    let (change, there) = some_change cs i (omega (arith, below, size)) in
    let made = delta_at C 0 empty cs i change there in
    let same : delta_made C (0 + i + 1) change (after_from C 0 empty (take i cs)) ≡ d = same_delta _ d (sym made ∙ at) in
    let rows = rows_taken C 0 empty cs i in
    subst (λ (x : Delta). (x.number ≡ i + 1) × FitsRow (get (rows_at (deltas_after C h) i) x.key) x) same (
      (let number : 0 + i + 1 ≡ i + 1 = omega arith in number),
      subst (λ (r : Rows). FitsRow (get r (key_of change)) (delta_made C (0 + i + 1) change (after_from C 0 empty (take i cs)))) (sym rows)
          (fits_made C (0 + i + 1) change (take i cs) (all_over C h legal i change there)),
    )

-- ---- a view was built for one specification
same_spec : (spec other : ViewSpec) → ◌≡◌ {A = Request} (Build spec) (Build other) → spec ≡ other
same_spec spec other e = cc e

one_spec : (C : ℕ) (past : History) (view : ViewNo) (spec other : ViewSpec) (at : ℕ) → Legal C past → StandsAt past view spec at → StandsAt past view other at → spec ≡ other
one_spec C past view spec other at legal one two =
    let same = views_are_built_once C past (Build spec) (Build other) one.reply two.reply one.before two.before one.until two.until view legal one.built two.built one.answer two.answer in
    let first = (carries C past (Build spec) one.reply one.before one.until legal one.built).number in
    let second = (carries C past (Build other) two.reply two.before two.until legal two.built).number in
    let number : one.built.number.0 ≡ two.built.number.0 = sym first ∙ (ap (λ (r : _). r.call.0) same.1 ∙ second) in
    same_spec spec other (calls_finish_once C past (Build spec) (Build other) one.reply two.reply one.before two.before one.until two.until legal one.built two.built number).2

-- ---- each receipt is sound
given_sound : (C : ℕ) (h : History) → Legal C h → (receipt : Receipt) (number : ℕ) → IsGiven h receipt number → IsSound C (deltas_after C h) receipt
given_sound C h legal (Call request answer from to) number (reply, before, past, f, named, gives, is, first, last) =
    subst (λ (x : Answer). IsSound C (deltas_after C h) (Call request x from to)) (sym is)
    (subst (λ (n : ℕ). IsSound C (deltas_after C h) (Call request reply.answer n to)) (sym first)
    (subst (λ (n : ℕ). IsSound C (deltas_after C h) (Call request reply.answer reply.from n)) (sym last)
    (replies_are_sound C h legal request reply before past f gives)))
given_sound C h legal (Page spec floor start limit page from to) number (view, note, later, past, read, stands, first, last) =
    let (own, standing, sound) = pages_are_sound C h legal view floor start limit page note later past read in
    let whole = legal_before C later (happening (ViewRead view floor start limit) (View page) note) past (subst (λ (z : History). Legal C z) read legal) in
    let same = one_spec C past view own spec page.at whole.0 standing stands in
    subst (λ (n : ℕ). IsSound C (deltas_after C h) (Page spec floor start limit page n to)) (sym first)
    (subst (λ (n : ℕ). IsSound C (deltas_after C h) (Page spec floor start limit page page.at n)) (sym last)
    (subst (λ (x : ViewSpec). IsSound C (deltas_after C h) (Page x floor start limit page page.at page.at)) same sound))

-- ---- no number is claimed by two
claim_named : (request : Request) (answer : Answer) (number : ℕ) → claim_of request answer ≡ Some number → commit_named answer ≡ Some number
claim_named (Put key sets) (Stored n) number e = e
claim_named (PutIf key sets version) (Stored n) number e = e
claim_named (Remove key) (Removed n) number e = e
claim_named _ _ number e = let clash : ◌≡◌ {A = Option ℕ} None (Some number) = e in cc

same_claims : (C : ℕ) (h : History) → Legal C h → (one other : Receipt) (first second number : ℕ) → IsGiven h one first → IsGiven h other second → claim one ≡ Some number → claim other ≡ Some number
    → IsOfCall one × IsOfCall other × (first ≡ second)
same_claims C h legal (Call request answer from to) (Call asked told start end) first second number (reply, before, past, f, named, gives, is, begin, last) (again, early, late, g, called, also, same, since, until) claims claimed =
    let one = ap commit_named (sym is) ∙ claim_named request answer number claims in
    let two = ap commit_named (sym same) ∙ claim_named asked told number claimed in
    let replies = (commits_are_named_once C h request asked reply again before early past late number legal f g one two).3 in
    let own = (carries C h request reply before past legal f).number in
    let others = (carries C h asked again early late legal g).number in
    (tt, tt, sym named ∙ (sym own ∙ (ap (λ (r : _). r.call.0) replies ∙ (others ∙ called))))
same_claims C h legal (Page spec floor start limit page from to) other first second number given also claims claimed = let clash : ◌≡◌ {A = Option ℕ} None (Some number) = claims in cc
same_claims C h legal one (Page spec floor start limit page from to) first second number given also claims claimed = let clash : ◌≡◌ {A = Option ℕ} None (Some number) = claimed in cc

-- a place in the first i of a list is a place of the list, below i
in_first : (receipts : List Receipt) (i j : ℕ) (receipt : Receipt) → slice_get (take i receipts) j ≡ Some receipt → (slice_get receipts j ≡ Some receipt) × (j < i)
in_first receipts zero j receipt e = let clash : ◌≡◌ {A = Option Receipt} None (Some receipt) = e in cc
in_first [] (suc i) j receipt e = let clash : ◌≡◌ {A = Option Receipt} None (Some receipt) = e in cc
in_first (r ∷ receipts) (suc i) zero receipt e = (e, omega arith)
in_first (r ∷ receipts) (suc i) (suc j) receipt e = let (there, below) = in_first receipts i j receipt e in (there, omega (arith, below))

none_again : (C : ℕ) (h : History) (receipts : List Receipt) → Legal C h → AreGiven h receipts → (i : ℕ) (receipt : Receipt) → slice_get receipts i ≡ Some receipt → ClaimsAgain (take i receipts) receipt → ⊥
none_again C h receipts legal a i receipt at (number, claims, (j, other, found, claimed)) =
    let (there, below) = in_first receipts i j other found in
    let (one, two, same) = same_claims C h legal receipt other (a.numbers i) (a.numbers j) number (a.given i receipt at) (a.given j other there) claims claimed in
    let is = a.once i j receipt other at there one two same in
    absurd (omega (arith, is, below))

pub audits_blame_none : AuditsBlameNone
audits_blame_none C h receipts legal a fault = (
  λ first. (let within = slice_get_within (deltas_after C h) (fault.index - 1) first.line first.at in
      sound_clean (deltas_after C h) (length (deltas_after C h)) (deltas_sound C h legal) (fault.index - 1) first.line fault.rule within first.at first.smallest.0),
  λ first. sound_unbroken C (deltas_after C h) (take (fault.index - 1) receipts) first.1.line fault.rule
      (given_sound C h legal first.1.line (a.numbers (fault.index - 1)) (a.given (fault.index - 1) first.1.line first.1.at))
      (none_again C h receipts legal a (fault.index - 1) first.1.line first.1.at)
      first.1.smallest.0,
)
