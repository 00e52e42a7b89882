-- What calls and events come to on a machine on which no call is open.
use Rattle.std.proofs.Common.{arith, ◌≡◌, ◌≤◌, ℕ, List, [], length, suc, ◌<◌, refl, sym, ap, subst, ◌∙◌, inl, inr, Bool, true, false, eqb}
use Rattle.std.specs.FinMap.{empty, empty_of_len, len, len-empty}
use Rattle.std.specs.Prelude.{Option, Some, None, Result, Ok, Err, IfOk, IsTrue, ◌↔◌, ◌==◌, MatchBool, MatchOption, if◌then◌else◌, ◌&&◌, is_some, nat_le}
use Rattle.std.specs.Option.{option_or}
use Rattle.std.proofs.lemmas.Bool.Decides.{eqb_tells, leb_tells}
use Rattle.mt_types.specs.Keys.{key_cmp}
use Rattle.mt_types.specs.Numbers.{greatest_number}
use Rattle.mt_types.specs.Rows.{Rows}
use Rattle.mt_types.specs.declared.row.Row.{Row}
use Rattle.mt_types.specs.declared.limits.TheConstants.{MAX_KEY_BYTES, MAX_OPEN_CALLS, MAX_VIEWS}
use Rattle.mt_types.specs.declared.numbers.ViewNo.{ViewNo}
use Rattle.mt_types.specs.declared.refusal.Refusal.{Refusal}
use Rattle.mt_types.specs.declared.refusal.Refusal.TheVariants.{NoMemory, NoSuchView, Behind, KeyTooLong, Spent, TooManyCalls, TooManyViews}
use Rattle.mt_types.specs.declared.event.Answer.{Answer}
use Rattle.mt_types.specs.declared.event.Answer.TheVariants.{Absent, Removed}
use Rattle.mt_types.specs.declared.event.Event.{Event}
use Rattle.mt_types.specs.declared.event.Event.TheVariants.{Begin, Step, Apply, ViewRead, ViewDrop, Advance, Collect}
use Rattle.mt_types.specs.declared.event.Outcome.{Outcome}
use Rattle.mt_types.specs.declared.event.Outcome.TheVariants.{Applied, Current, Done, Dropped, Freed, View, Refused}
use Rattle.mt_types.specs.declared.event.Reply.{Reply}
use Rattle.mt_types.specs.declared.event.Request.{Request}
use Rattle.mt_types.specs.declared.event.Request.TheVariants.{Remove}
use Rattle.mt_types.specs.declared.view.Page.{Page}
use Rattle.mt_types.specs.Limits.{key_fault, page_fault, refused_if, request_fault}
use Rattle.mt_promise.specs.History.{History, moment}
use Rattle.mt_promise.specs.Legal.{is_build}
use Rattle.mt_view.specs.Laws.{ShowsPage}
use Rattle.mt_view.specs.Views.{places, state_at}
use Rattle.mt_view.specs.State.{StateView, page_of_state}
use Rattle.mt_index.specs.Alone.{IsIdle, AnswersPlainly, RefusesPlainly}
use Rattle.mt_index.specs.Events.{EventDoes, HappensAlone}
use Rattle.mt_index.specs.Stands.{MachineView, Stands, HasBounds, ReadsPage, ReadsView, fault_of}
use Rattle.mt_map.specs.Calls.{CameTo, IsAnswerTo, removed_by}
use Rattle.mt_index.specs.Viewing.{page_outcome}
use Rattle.mt_index.proofs.AloneStands.{begin_refuses_plainly}
use Rattle.mt_index.proofs.EventLemmas.{turned_away}
use Rattle.mt_index.proofs.MachineLemmas.{copies_view}
use Rattle.mt_asked.specs.Borrowed.{request_of}
use Rattle.mt_asked.specs.declared.asked.Asked.{Asked}
use Rattle.mt_asked.specs.declared.asked.Asked.TheVariants as Asks
use Rattle.mt_map.specs.Tidies.{ChangeComesTo, MapCameTo, MapComesTo, MapView, PurgesIfEmptied, Removes, RemovesAndTidies}
use Rattle.mt_map.specs.Views.{IsOutside, ShowsView}

-- ---- answers

pub is_answer : (s t : MachineView) (request : Request) (reply : Reply) → (h : History) × Stands s h → AnswersPlainly s request reply t → IsAnswerTo request reply.answer
is_answer s t request reply (h, stands) answers =
    let plain = (answers h stands).plain in
    record { map = _; commits = _; made = plain.made; plain = plain.plain }

fault_as : (fault : Option Refusal) (refusal : Refusal) → MatchOption fault (Unit {0}) (λ (due : Refusal). ◌≡◌ {A = Result Reply Refusal} (Err refusal) (Err due)) → MatchOption fault (Unit {0}) (λ (due : Refusal). ◌≡◌ {A = Result Answer Refusal} (Err refusal) (Err due))
fault_as None refusal is = tt
fault_as (Some due) refusal is = ap (λ (r : Refusal). Err r) (let same : refusal ≡ due = cc in same)

fault_none : (fault : Option Refusal) (reply : Reply) (answer : Answer) → MatchOption fault (Unit {0}) (λ (due : Refusal). ◌≡◌ {A = Result Reply Refusal} (Ok reply) (Err due)) → MatchOption fault (Unit {0}) (λ (due : Refusal). ◌≡◌ {A = Result Answer Refusal} (Ok answer) (Err due))
fault_none None reply answer is = tt
fault_none (Some due) reply answer is = absurd (let clash : ◌≡◌ {A = Result Reply Refusal} (Ok reply) (Err due) = is in cc)

-- a call that is answered came to that
pub came_answered : (s t : MachineView) (request : Request) (reply : Reply) → AnswersPlainly s request reply t → HappensAlone s request (Done reply) t
    → MatchOption (fault_of s request) (Unit {0}) (λ (due : Refusal). ◌≡◌ {A = Result Reply Refusal} (Ok reply) (Err due)) → t.columns ≡ s.columns → HasBounds s.log.capacity s.log.retention t.log → CameTo s request (Ok reply.answer) t
came_answered s t request reply plainly happens fault columns bounds = record {
  answered = record { reply = reply; is_its = refl; plainly = plainly; happens = happens };
  refused = tt;
  fault = fault_none (fault_of s request) reply reply.answer fault;
  columns = columns;
  bounds = bounds;
}

-- a call that is refused came to that
pub came_refused : (s t : MachineView) (request : Request) (refusal : Refusal) → RefusesPlainly s request refusal t → HappensAlone s request (Refused refusal) t
    → MatchOption (fault_of s request) (Unit {0}) (λ (due : Refusal). ◌≡◌ {A = Result Reply Refusal} (Err refusal) (Err due)) → t.columns ≡ s.columns → HasBounds s.log.capacity s.log.retention t.log → CameTo s request (Err refusal) t
came_refused s t request refusal plainly happens fault columns bounds = record {
  answered = tt;
  refused = record { plainly = plainly; happens = happens };
  fault = fault_as (fault_of s request) refusal fault;
  columns = columns;
  bounds = bounds;
}

-- ---- limits
or_first : (first second : Option Refusal) (refusal : Refusal) → first ≡ Some refusal → option_or first second ≡ Some refusal
or_first first second refusal is = ap (λ (f : Option Refusal). option_or f second) is

due_fault : (fault : Option Refusal) (refusal : Refusal) → fault ≡ Some refusal → MatchOption fault (Unit {0}) (λ (due : Refusal). ◌≡◌ {A = Result Answer Refusal} (Err refusal) (Err due))
due_fault fault refusal is =
    subst (λ (f : Option Refusal). MatchOption f (Unit {0}) (λ (due : Refusal). ◌≡◌ {A = Result Answer Refusal} (Err refusal) (Err due))) (sym is) refl

first_fault : (s : MachineView) (request : Request) (refusal : Refusal) → request_fault s.columns request ≡ Some refusal → fault_of s request ≡ Some refusal
first_fault s request refusal limit =
    or_first (request_fault s.columns request)
    (option_or (refused_if (nat_le greatest_number s.calls.begun) Spent)
    (option_or (refused_if (nat_le MAX_OPEN_CALLS (length s.calls.calls)) TooManyCalls)
    (if is_build request then refused_if (nat_le MAX_VIEWS (places s.views)) TooManyViews else None))) refusal limit

came_limited : (s : MachineView) (request : Request) (refusal : Refusal) → IsIdle s → fault_of s request ≡ Some refusal → CameTo s request (Err refusal) s
came_limited s request refusal idle due = record {
  answered = tt;
  refused = record {
    plainly = begin_refuses_plainly s request refusal idle (inl due, refl);
    happens = turned_away s s request refusal (inl due, refl);
  };
  fault = due_fault (fault_of s request) refusal due;
  columns = refl;
  bounds = (refl, refl);
}

-- a call that breaks a limit comes to a refusal for it, if nothing is done
pub limit_refuses : (s : MapView) (request : Request) (refusal : Refusal) → IsIdle s.machine → request_fault s.machine.columns request ≡ Some refusal → MapCameTo s request (Err refusal) s
limit_refuses s request refusal idle limit = record {
  came = came_limited s.machine request refusal idle (first_fault s.machine request refusal limit);
  tidies = refl;
}

-- ---- calls by borrowed bytes

-- none was made: it breaks a limit, or memory for a copy was refused
pub asked_refused : (s : MapView) (n : ℕ) (request : Request) (refusal : Refusal) → IsIdle s.machine → n ≡ s.machine.columns
    → MatchOption (request_fault n request) (refusal ≡ NoMemory) (λ (fault : Refusal). ◌≡◌ {A = Result Request Refusal} (Err refusal) (Err fault))
    → MapComesTo s request (Err refusal) s
asked_refused s n request refusal idle columns why = go (request_fault s.machine.columns request) refl (subst (λ (count : ℕ). MatchOption (request_fault count request) (refusal ≡ NoMemory) (λ (due : Refusal). ◌≡◌ {A = Result Request Refusal} (Err refusal) (Err due))) columns why)
  where
    go : (fault : Option Refusal) → request_fault s.machine.columns request ≡ fault → MatchOption fault (refusal ≡ NoMemory) (λ (due : Refusal). ◌≡◌ {A = Result Request Refusal} (Err refusal) (Err due)) → MapComesTo s request (Err refusal) s
    go None is short = inr (ap (λ (r : Refusal). Err r) short, is, refl)
    go (Some due) is same = inl (limit_refuses s request refusal idle (is ∙ ap (λ (r : Refusal). Some r) (sym (let e : refusal ≡ due = cc in e))))

-- a change that is no remove
pub change_asked : (asked : Asked) (s t : MapView) (result : Result Answer Refusal) → ((key : _) → asked ≡ Asks.Remove key → ⊥) → MapComesTo s (request_of asked) result t → ChangeComesTo s (request_of asked) result t
change_asked (Asks.Get key columns) s t result other comes = comes
change_asked (Asks.Range start limit columns) s t result other comes = comes
change_asked (Asks.Put key sets) s t result other comes = comes
change_asked (Asks.PutIf key sets version) s t result other comes = comes
change_asked (Asks.Remove key) s t result other comes = absurd (other key refl)
change_asked (Asks.Tidy key) s t result other comes = comes
change_asked (Asks.Build spec) s t result other comes = comes

-- ---- keys that are too long
pub long_fault : (key : List ℕ) → MAX_KEY_BYTES < length key → key_fault key ≡ Some KeyTooLong
long_fault key long = elim (leb_tells (suc MAX_KEY_BYTES) (length key)) [
  | inl t ↦ ap (λ (b : Bool). refused_if b KeyTooLong) t.0
  | inr f ↦ absurd (let most = f.1 in omega (arith, most, long))
]

pub short_fault : (key : List ℕ) → length key ≤ MAX_KEY_BYTES → key_fault key ≡ None
short_fault key short = elim (leb_tells (suc MAX_KEY_BYTES) (length key)) [
  | inl t ↦ absurd (let more = t.1 in omega (arith, more, short))
  | inr f ↦ ap (λ (b : Bool). refused_if b KeyTooLong) f.0
]

-- a request that removes no row isn't answered so
pub long_ends : {A : Type 0} (s : MachineView) (key : List ℕ) (ended : Result A Refusal) → MAX_KEY_BYTES < length key
    → MatchOption (fault_of s (Remove key)) (Unit {0}) (λ (due : Refusal). ended ≡ Err due) → ended ≡ Err KeyTooLong
long_ends s key ended long fault =
    subst (λ (own : Option Refusal). MatchOption (option_or own (option_or (refused_if (nat_le greatest_number s.calls.begun) Spent) (option_or (refused_if (nat_le MAX_OPEN_CALLS (length s.calls.calls)) TooManyCalls) None))) (Unit {0}) (λ (due : Refusal). ended ≡ Err due))
    (long_fault key long) fault

-- ---- removes
untaken : (s t : MapView) (key : List ℕ) (found : Option ℕ) → MapCameTo s (Remove key) (removed_by (Ok found)) t → (s.tidies && is_some found) ≡ false → RemovesAndTidies s key found t
untaken s t key found came off = record {
  removed = t.machine;
  came = came.came;
  then = subst (λ (b : Bool). MatchBool b (PurgesIfEmptied t.machine key t.machine) (t.machine ≡ t.machine)) (sym off) refl;
  tidies = came.tidies;
}

off_and : (b c : Bool) → b ≡ false → (b && c) ≡ false
off_and b c off = ap (λ (x : Bool). x && c) off

and_off : (b : Bool) → (b && false) ≡ false
and_off true = refl
and_off false = refl

-- if no tidies follow removes
pub removes_untidied : (s t : MapView) (key : List ℕ) (result : Result (Option ℕ) Refusal) → MapCameTo s (Remove key) (removed_by result) t → s.tidies ≡ false → Removes s key result t
removes_untidied s t key (Ok found) came off = untaken s t key found came (off_and s.tidies (is_some found) off)
removes_untidied s t key (Err refusal) came off = inl came

-- of a key that is too long
pub removes_long : (s t : MapView) (key : List ℕ) (result : Result (Option ℕ) Refusal) → MapCameTo s (Remove key) (removed_by result) t → MAX_KEY_BYTES < length key → Removes s key result t
removes_long s t key (Ok (Some commit)) came long =
    absurd (let clash : ◌≡◌ {A = Result Answer Refusal} (Ok (Removed commit)) (Err KeyTooLong) = long_ends s.machine key (Ok (Removed commit)) long came.came.fault in cc)
removes_long s t key (Ok None) came long = untaken s t key None came (and_off s.tidies)
removes_long s t key (Err refusal) came long = inl came

pub removes_none : (s t : MapView) (key : List ℕ) → MapCameTo s (Remove key) (Ok Absent) t → Removes s key (Ok None) t
removes_none s t key came = untaken s t key None came (and_off s.tidies)

-- and where tidies follow
pub removes_tidied : (s m t : MapView) (key : List ℕ) (commit : ℕ) → MapCameTo s (Remove key) (Ok (Removed commit)) m → s.tidies ≡ true → PurgesIfEmptied m.machine key t.machine → t.tidies ≡ m.tidies → Removes s key (Ok (Some commit)) t
removes_tidied s m t key commit came on purges same = record {
  removed = m.machine;
  came = came.came;
  then = subst (λ (b : Bool). MatchBool (b && true) (PurgesIfEmptied m.machine key t.machine) (t.machine ≡ m.machine)) (sym on) purges;
  tidies = same ∙ came.tidies;
}

-- ---- events that are no part of a call

-- no call is open after such an event
pub stays_idle : (s t : MachineView) (event : Event) (outcome : Outcome) → IsOutside event
    → EventDoes s event outcome t → IsIdle s → IsIdle t
unfolding EventDoes
stays_idle s t (Begin pass request) outcome outside does idle = absurd outside
stays_idle s t (Step call) outcome outside does idle = absurd outside
stays_idle s t (Apply view) outcome outside does idle =
    elim does [
      | inl none ↦ subst IsIdle (sym none.2) idle
      | inr to ↦ elim to.comes [
        | inl current ↦ subst IsIdle (sym current.2) idle
        | inr later ↦ elim later [
          | inl refused ↦ subst IsIdle (sym refused.2) idle
          | inr takes ↦ subst IsIdle (sym takes.is_next) idle
        ]
      ]
    ]
stays_idle s t (ViewRead view floor start limit) outcome outside does idle = subst IsIdle (sym does.1) idle
stays_idle s t (ViewDrop view) outcome outside does idle =
    elim does [
      | inl none ↦ subst IsIdle (sym none.2) idle
      | inr drops ↦ subst IsIdle (sym drops.is_next) idle
    ]
stays_idle s t Advance outcome outside does idle =
    elim does [
      | inl spent ↦ subst IsIdle (sym spent.2) idle
      | inr next ↦ subst IsIdle (sym next.2) idle
    ]
stays_idle s t Collect outcome outside does idle = subst IsIdle (sym does.is_next) idle

-- a page that is read is not before its floor
pub page_floor : (fault : Option Refusal) (there : Option StateView) (floor : ℕ) (start : List ℕ) (limit : ℕ) (page : Page)
    → ReadsPage fault there floor start limit (View page) → floor ≤ page.at
page_floor (Some fault) there floor start limit page reads = absurd (let clash : ◌≡◌ {A = Outcome} (View page) (Refused fault) = reads in cc)
page_floor None None floor start limit page reads = absurd (let clash : ◌≡◌ {A = Outcome} (View page) (Refused NoSuchView) = reads in cc)
page_floor None (Some state) floor start limit page reads =
    elim reads [
      | inl behind ↦ absurd (let clash : ◌≡◌ {A = Outcome} (View page) (Refused (Behind state.at)) = behind.1 in cc)
      | inr there ↦ elim there.1 [
        | inl shows ↦ (let same : page ≡ page_of_state state start limit = cc in let at = ap (λ (p : Page). p.at) same in let above = there.0 in omega (arith, at, above))
        | inr wants ↦ absurd (let clash : ◌≡◌ {A = Outcome} (View page) (Refused NoMemory) = wants in cc)
      ]
    ]

-- and it shows exactly its view
pub page_shows : (s : MachineView) (view : ℕ) (floor : ℕ) (start : List ℕ) (limit : ℕ) (page : Page) → ShowsPage
    → ReadsView s view floor start limit (View page) → (h : History) → Stands s h → ShowsView s.columns (moment h) view start limit page
page_shows s view floor start limit page shows reads h st = at (page_fault start limit) (state_at view s.views.views) refl reads
  where
    at : (fault : Option Refusal) (there : Option StateView) → state_at view s.views.views ≡ there → ReadsPage fault there floor start limit (View page)
        → ShowsView s.columns (moment h) view start limit page
    at (Some fault) there is r = absurd (let clash : ◌≡◌ {A = Outcome} (View page) (Refused fault) = r in cc)
    at None None is r = absurd (let clash : ◌≡◌ {A = Outcome} (View page) (Refused NoSuchView) = r in cc)
    at None (Some state) is r =
        elim r [
          | inl behind ↦ absurd (let clash : ◌≡◌ {A = Outcome} (View page) (Refused (Behind state.at)) = behind.1 in cc)
          | inr there ↦ elim there.1 [
            | inl same ↦ (let c = copies_view s h st view state is in
                let e : page ≡ page_of_state state start limit = cc in
                record { view = c.view; there = c.there; shows = e ∙ shows s.columns (moment h) c.view state start limit c.is_its })
            | inr wants ↦ absurd (let clash : ◌≡◌ {A = Outcome} (View page) (Refused NoMemory) = wants in cc)
          ]
        ]

-- ---- a page whose start is not copied
-- if a page is read, there may be no memory for it
pub page_wants : (s : MachineView) (view : ℕ) (floor : ℕ) (page : Page) → ReadsView s view floor [] 1 (View page) → ReadsView s view floor [] 1 (Refused NoMemory)
page_wants s view floor page reads = at (state_at view s.views.views) reads
  where
    at : (there : Option StateView) → ReadsPage None there floor [] 1 (View page) → ReadsPage None there floor [] 1 (Refused NoMemory)
    at None r = absurd (let clash : ◌≡◌ {A = Outcome} (View page) (Refused NoSuchView) = r in cc)
    at (Some state) (inl behind) = absurd (let clash : ◌≡◌ {A = Outcome} (View page) (Refused (Behind state.at)) = behind.1 in cc)
    at (Some state) (inr (above, reads)) = inr (above, inr refl)

-- what refuses a page with an empty start refuses one with any start that breaks no limit
pub page_refused : (s : MachineView) (view : ℕ) (floor : ℕ) (start : List ℕ) (limit : ℕ) (refusal : Refusal) → ReadsView s view floor [] 1 (Refused refusal) → page_fault start limit ≡ None
    → ReadsView s view floor start limit (Refused refusal)
page_refused s view floor start limit refusal reads fits =
    subst (λ (fault : Option Refusal). ReadsPage fault (state_at view s.views.views) floor start limit (Refused refusal)) (sym fits) (at (state_at view s.views.views) reads)
  where
    at : (there : Option StateView) → ReadsPage None there floor [] 1 (Refused refusal) → ReadsPage None there floor start limit (Refused refusal)
    at None r = r
    at (Some state) (inl behind) = inl behind
    at (Some state) (inr (above, inl shows)) = absurd (let clash : ◌≡◌ {A = Outcome} (Refused refusal) (View (page_of_state state [] 1)) = shows in cc)
    at (Some state) (inr (above, inr wants)) = inr (above, inr wants)

-- and so does a limit
pub page_stopped : (s : MachineView) (view : ℕ) (floor : ℕ) (start : List ℕ) (limit : ℕ) (refusal : Refusal) → page_fault start limit ≡ Some refusal → ReadsView s view floor start limit (Refused refusal)
page_stopped s view floor start limit refusal is =
    subst (λ (fault : Option Refusal). ReadsPage fault (state_at view s.views.views) floor start limit (Refused refusal)) (sym is) refl

pub drop_or_refusal : (s t : MachineView) (view : ViewNo) (outcome : Outcome) → EventDoes s (ViewDrop view) outcome t
    → (outcome ≡ Dropped → ⊥) → ((refusal : Refusal) → outcome ≡ Refused refusal → ⊥) → ⊥
unfolding EventDoes
drop_or_refusal s t view outcome does not_dropped no_refusal =
    elim does [ inl none ↦ no_refusal NoSuchView none.1 | inr drops ↦ not_dropped drops.is_outcome ]

none_is : (b : Bool) (outcome : Outcome) → outcome ≡ (if b then Current else Refused NoSuchView)
    → (outcome ≡ Current → ⊥) → ((refusal : Refusal) → outcome ≡ Refused refusal → ⊥) → ⊥
none_is true outcome is not_current no_refusal = not_current is
none_is false outcome is not_current no_refusal = no_refusal NoSuchView is

pub apply_comes : (s t : MachineView) (view : ViewNo) (outcome : Outcome) → EventDoes s (Apply view) outcome t
    → ((number : ℕ) → outcome ≡ Applied number → ⊥) → (outcome ≡ Current → ⊥) → ((refusal : Refusal) → outcome ≡ Refused refusal → ⊥) → ⊥
unfolding EventDoes
apply_comes s t view outcome does not_applied not_current no_refusal =
    elim does [
      | inl none ↦ none_is (eqb view.0 0) outcome none.1 not_current no_refusal
      | inr to ↦ elim to.comes [
        | inl current ↦ not_current current.1
        | inr later ↦ elim later [
          | inl refused ↦ no_refusal NoMemory refused.1
          | inr takes ↦ not_applied _ takes.is_outcome
        ]
      ]
    ]

pub collect_frees : (s t : MachineView) (outcome : Outcome) → EventDoes s Collect outcome t → ((count : ℕ) → outcome ≡ Freed count → ⊥) → ⊥
unfolding EventDoes
collect_frees s t outcome does not_freed = not_freed does.count does.is_outcome

-- ---- what a page that was read shows
pub pages_show : (s : MachineView) (view : ℕ) (floor : ℕ) (start : List ℕ) (limit : ℕ) (result : Result Page Refusal) → ShowsPage
    → ReadsView s view floor start limit (page_outcome result) → IfOk result (λ page. (h : History) → Stands s h → ShowsView s.columns (moment h) view start limit page)
pages_show s view floor start limit (Ok page) shows reads = page_shows s view floor start limit page shows reads
pages_show s view floor start limit (Err refusal) shows reads = tt

pub pages_floor : (s : MachineView) (view : ℕ) (floor : ℕ) (start : List ℕ) (limit : ℕ) (result : Result Page Refusal)
    → ReadsView s view floor start limit (page_outcome result) → IfOk result (λ page. floor ≤ page.at)
pages_floor s view floor start limit (Ok page) reads = page_floor (page_fault start limit) (state_at view s.views.views) floor start limit page reads
pages_floor s view floor start limit (Err refusal) reads = tt

-- a map is empty if no row is counted, and only then
pub none_counted : (map : Rows) (many : ℕ) → many ≡ len map → IsTrue (many == 0) ↔ (map ≡ empty)
none_counted map many is = (
  (λ yes. elim (eqb_tells many 0) [
    | inl none ↦ empty_of_len map (sym is ∙ none.1)
    | inr some ↦ absurd (let clash : ◌≡◌ {A = Bool} false true = sym some.0 ∙ yes in cc)
  ]),
  (λ none. elim (eqb_tells many 0) [
    | inl same ↦ same.0
    | inr some ↦ absurd (some.1 (is ∙ ap len none ∙ len-empty key_cmp Row))
  ]),
)
