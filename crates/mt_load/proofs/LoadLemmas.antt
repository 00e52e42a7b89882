-- What loading one row more does, and what it leads to in the end.
use Rattle.std.proofs.Common.{◌≡◌, ◌⊎◌, ℕ, ◌+◌, ◌*◌, ◌-◌, ◌^◌, ◌<◌, ◌≤◌, true, false, Bool, cond, List, [], ◌∷◌, ◌++◌, length, replicate, Option, Some, None, ap, sym, subst, refl, ◌∙◌, inl, inr, arith}
use Rattle.std.specs.FinMap as fin
use Rattle.std.specs.List.{AllByRecursion}
use Rattle.std.specs.Prelude.{is_some}
use Rattle.std.specs.Ordering.{eq_by_cmp, is_eq}
use Rattle.std.specs.declared.cmp.Ordering.{Ordering}
use Rattle.std.specs.declared.cmp.Ordering.TheVariants.{Less, Equal, Greater}
use Rattle.std.proofs.lemmas.Cmp.{tied_itself}
use Rattle.std.proofs.lemmas.List.{append-nil, length-append, length-replicate}
use Rattle.mt_types.specs.Keys.{key_cmp}
use Rattle.mt_types.specs.Limits.{key_fault, request_fault, sets_fault, columns_fault}
use Rattle.mt_types.specs.Limited.{ColumnIsLimited}
use Rattle.mt_types.specs.Numbers.{greatest_number}
use Rattle.mt_types.specs.Rows.{Rows, after, after_change, columns_before, new_columns}
use Rattle.mt_types.specs.declared.limits.TheConstants.{MAX_KEY_BYTES, MAX_COLUMN_BYTES}
use Rattle.mt_types.specs.declared.row.Row.{Row}
use Rattle.mt_types.specs.declared.row.Change.{Change}
use Rattle.mt_types.specs.declared.row.Change.TheVariants.{Put as PutChange}
use Rattle.mt_types.specs.declared.event.Answer.{Answer}
use Rattle.mt_types.specs.declared.event.Answer.TheVariants.{Stored}
use Rattle.mt_types.specs.declared.event.Reply.{Reply}
use Rattle.mt_types.specs.declared.event.Request.{Request}
use Rattle.mt_types.specs.declared.event.Request.TheVariants.{Put}
use Rattle.mt_promise.specs.Alone.{IsPlain}
use Rattle.mt_promise.specs.History.{History, Moment, moment, rows}
use Rattle.mt_promise.specs.Legal.{Legal}
use Rattle.mt_promise.proofs.HistoryLemmas.{after-append}
use Rattle.mt_promise.proofs.RowLimits.{key_apart, key_fits, key_order, neither_of, none_long, not_refused}
use Rattle.std.specs.Prelude.{Result, Ok, Err, OnOk, IfErr, MatchOption}
use Rattle.std.proofs.lemmas.Bool.Decides.{eqb_tells}
use Rattle.mt_types.specs.declared.refusal.Refusal.{Refusal}
use Rattle.mt_types.specs.declared.refusal.Refusal.TheVariants.{NoMemory}
use Rattle.mt_reach.proofs.Reaching.{rows_are_reached}
use Rattle.mt_reach.specs.Reach.{CanEndAt, EndsAt, Entry, Falls, Fits, IsClosedAt, IsReached, RowsAreReached, row_in}
use Rattle.mt_commit.specs.Log.{newest}
use Rattle.mt_replay.specs.Replay.{numbered}
use Rattle.mt_replay.proofs.ReplayLemmas.{all_new}
use Rattle.mt_index.specs.Alone.{AnswersPlainly, IsIdle}
use Rattle.mt_index.specs.Rebase.{CanBeAfter, HasSameRows, rebased}
use Rattle.mt_index.specs.Stands.{MachineView, Stands}
use Rattle.mt_index.proofs.RebaseStands.{bare_at}
use Rattle.mt_load.specs.Loaded.{IsLoaded}
use Rattle.mt_load.specs.Loading.{HasLoaded, IsAt, IsBefore, IsParted, row_at}
use Rattle.mt_load.proofs.RunLemmas.{put_through}

-- ---- between two calls
pub idle_at : (map : Rows) (s : MachineView) → IsAt map s → IsIdle s
idle_at map s at = (bare_at s at.h (newest s.log) at.stands at.closed).calls

pub opened : (s : MachineView) → Stands s [] → HasLoaded fin.empty [] s
opened s st = record {
  at = record {
    h = [];
    stands = st;
    closed = record { commits = sym st.commits; begun = sym st.commits; calls = refl; built = refl; views = refl; epoch = refl };
    has = refl;
  };
  alike = λ key. fin.get-empty key_cmp key;
  falls = tt;
  ends = st.commits;
  fits = tt;
  many = sym (fin.len-empty key_cmp Row);
}

-- ---- a put
put_made : (map : Rows) (n : ℕ) (key : List ℕ) (sets : List (ℕ × List ℕ)) (answer : Answer) (made : List Change) → IsPlain map n (Put key sets) answer made → made ≡ PutChange key sets ∷ []
put_made map n key sets (Stored number) made plain = plain.1
put_made map n key sets _ made plain = absurd plain

module _ (s t : MachineView) (map : Rows) (key : List ℕ) (row : Row) (reply : Reply) (at : IsAt map s) (wide : length row.columns ≡ s.columns)
    (plainly : AnswersPlainly s (Put key (numbered 0 row.columns)) reply t) (columns : t.columns ≡ s.columns) where
  pub put_newest : newest t.log ≡ newest s.log + 1
  put_newest =
      let a = plainly at.h at.stands in
      let m = moment at.h in
      let n = moment a.then in
      let made = put_made (rows s.columns m) (length m.commits) key (numbered 0 row.columns) reply.answer a.plain.made a.plain.plain in
      let long : length n.commits ≡ length m.commits + 1 = ap (λ (l : List Change). length l) (a.plain.commits ∙ ap (λ (l : List Change). m.commits ++ l) made) ∙ length-append m.commits (PutChange key (numbered 0 row.columns) ∷ []) in
      let before = at.stands.commits in
      let after_it = a.stands.commits in
      omega (arith, long, before, after_it)

  pub put_at : length (columns_before s.columns (fin.get map key)) ≡ s.columns → IsAt (fin.insert map key (row_at (newest s.log + 1) row)) t
  put_at olds =
      let C = s.columns in
      let a = plainly at.h at.stands in
      let m = moment at.h in
      let n = moment a.then in
      let made = put_made (rows C m) (length m.commits) key (numbered 0 row.columns) reply.answer a.plain.made a.plain.plain in
      let commits : n.commits ≡ m.commits ++ (PutChange key (numbered 0 row.columns) ∷ []) = a.plain.commits ∙ ap (λ (l : List Change). m.commits ++ l) made in
      let before = at.stands.commits in
      let after_it = a.stands.commits in
      let next = put_newest in
      let number : length m.commits + 1 ≡ newest s.log + 1 = omega (arith, before) in
      let more = put_through key (numbered 0 row.columns) _ _ at.h a.then reply a.ran in
      let begun = more.begun in
      let was = at.closed.begun in
      let all : new_columns (numbered 0 row.columns) 0 (columns_before C (fin.get map key)) ≡ row.columns =
      all_new 0 row.columns (columns_before C (fin.get map key)) (wide ∙ sym olds) in
      let all_rows : rows C n ≡ fin.insert map key (row_at (newest s.log + 1) row) =
      ap (λ (cs : List Change). after C cs) commits
      ∙ after-append C m.commits (PutChange key (numbered 0 row.columns))
      ∙ ap (λ (k : ℕ). after_change C k (PutChange key (numbered 0 row.columns)) (rows C m)) number
      ∙ ap (λ (rs : Rows). after_change C (newest s.log + 1) (PutChange key (numbered 0 row.columns)) rs) at.has
      ∙ ap (λ (cs : List (List ℕ)). fin.insert map key (record { version = newest s.log + 1; columns = cs })) all in
      record {
        h = a.then;
        stands = a.stands;
        closed = record {
          commits = sym after_it;
          begun = omega (arith, begun, was, next);
          calls = a.plain.closed;
          built = more.built ∙ at.closed.built;
          views = a.plain.views ∙ append-nil m.views ∙ at.closed.views;
          epoch = more.epoch ∙ at.closed.epoch;
        };
        has = ap (λ (C : ℕ). rows C n) columns ∙ all_rows;
      }

-- ---- the entries
pub falls_up : (k n : ℕ) (es : List Entry) → k ≤ n → Falls k es → Falls n es
falls_up k n [] le falls = tt
falls_up k n (e ∷ es) le falls = let within = falls.1 in (falls.0, omega (arith, le, within), falls.2)

pub falls_length : (n : ℕ) (es : List Entry) → Falls n es → length es ≤ n
falls_length n [] falls = omega arith
falls_length n (e ∷ es) falls =
    let rest = falls_length (e.1.version - 1) es falls.2 in
    let some = falls.0 in
    let within = falls.1 in
    omega (arith, rest, some, within)

width_either : (C : ℕ) (b : Bool) (row : Row) (other : Option Row) → length row.columns ≡ C → length (columns_before C other) ≡ C → length (columns_before C (cond b (Some row) other)) ≡ C
width_either C true row other wide rest = wide
width_either C false row other wide rest = rest

-- the row that a key has among entries has as many columns as all
width_in : (C : ℕ) (es : List Entry) (key : List ℕ) → AllByRecursion (Fits C) es → length (columns_before C (row_in es key)) ≡ C
width_in C [] key fits = length-replicate C []
width_in C (e ∷ es) key fits = width_either C (eq_by_cmp key_cmp key e.0) e.1 (row_in es key) fits.0.1 (width_in C es key fits.1)

pub width_at : (map : Rows) (es : List Entry) (s : MachineView) (key : List ℕ) → HasLoaded map es s → length (columns_before s.columns (fin.get map key)) ≡ s.columns
width_at map es s key has = ap (λ (o : Option Row). length (columns_before s.columns o)) (has.alike key) ∙ width_in s.columns es key has.fits

short_of : (i : ℕ) (columns : List (List ℕ)) → AllByRecursion (λ (set : ℕ × List ℕ). ColumnIsLimited set.1) (numbered i columns) → AllByRecursion (λ (bytes : List ℕ). length bytes ≤ MAX_COLUMN_BYTES) columns
short_of i [] all = tt
short_of i (column ∷ columns) all = (all.0, short_of (i + 1) columns all.1)

-- what a put passes that no limit refuses
pub entry_fits : (C : ℕ) (key : List ℕ) (row : Row) → length row.columns ≡ C → request_fault C (Put key (numbered 0 row.columns)) ≡ None → Fits C (key, row)
entry_fits C key row wide asks =
    let limits = neither_of (key_fault key) (sets_fault C (numbered 0 row.columns)) asks in
    let short = neither_of (columns_fault C _) _ limits.1 in
    (key_fits key limits.0, wide, short_of 0 row.columns (none_long (numbered 0 row.columns) (not_refused _ _ short.1)))

-- ---- another number of commits
module _ (law : RowsAreReached) (map : Rows) (es : List Entry) (s : MachineView) (has : HasLoaded map es s) (n : ℕ) (later : newest s.log ≤ n) (few : n ≤ greatest_number)
    (unused : List ℕ) (short : length unused ≤ MAX_KEY_BYTES) (none : fin.get map unused ≡ None) (how : CanEndAt n es) where
  pub reached : IsReached s.columns n es
  reached = law s.columns n es unused few (falls_up (newest s.log) n es later has.falls) has.fits short (sym (has.alike unused) ∙ none) how

  pub same_rows : HasSameRows s.columns n has.at.h reached.h
  same_rows = record {
    legal = reached.legal;
    closed = reached.closed;
    rows = fin.same_map key_order key_apart (rows s.columns (moment reached.h)) (rows s.columns (moment has.at.h))
        (λ key. reached.rows key ∙ sym (has.alike key) ∙ ap (λ (rs : Rows). fin.get rs key) (sym has.at.has));
  }

  pub can_be : CanBeAfter n s
  can_be = (has.at.h, has.at.stands, has.at.closed, reached.h, same_rows)

-- it is then at each such history
abbrev pub StandsThere : MachineView → ℕ → MachineView → Type 0
StandsThere s n t = (h other : History) → Stands s h → HasSameRows s.columns n h other → Stands t other

module _ (map : Rows) (s t : MachineView) (n : ℕ) (at : IsAt map s) (is : t ≡ rebased n s) (stand : StandsThere s n t) where
  no_more : n + 0 ≡ n
  no_more = omega arith

  pub rebased_newest : newest t.log ≡ n
  rebased_newest = ap (λ (m : MachineView). newest m.log) is ∙ no_more

  pub rebased_columns : t.columns ≡ s.columns
  rebased_columns = ap (λ (m : MachineView). m.columns) is

  pub rebased_at : (other : History) → HasSameRows s.columns n at.h other → IsAt map t
  rebased_at other same = record {
    h = other;
    stands = stand at.h other at.stands same;
    closed = subst (λ (k : ℕ). IsClosedAt k other) (sym rebased_newest) same.closed;
    has = ap (λ (C : ℕ). rows C (moment other)) rebased_columns ∙ same.rows ∙ at.has;
  }

  pub rebased_loaded : (other : History) → HasSameRows s.columns n at.h other → length other ≡ 3 * n → IsLoaded s.columns n map t
  rebased_loaded other same long = record {
    columns = rebased_columns;
    h = other;
    stands = stand at.h other at.stands same;
    closed = same.closed;
    long = long;
    has = same.rows ∙ at.has;
    each = λ another legal closed has. stand at.h another at.stands (record { legal = legal; closed = closed; rows = has ∙ sym at.has });
  }

-- ---- one row more
pub put_over : (map : Rows) (key : List ℕ) (one other : Row) → fin.insert (fin.insert map key one) key other ≡ fin.insert map key other
put_over map key one other =
    fin.same_map key_order key_apart _ _ (λ q.
    fin.get-insert key_order (fin.insert map key one) key other q
    ∙ ap (cond (eq_by_cmp key_cmp q key) (Some other)) (fin.get-insert key_order map key one q)
    ∙ twice (eq_by_cmp key_cmp q key) (fin.get map q)
    ∙ sym (fin.get-insert key_order map key other q))
  where
    twice : (b : Bool) (rest : Option Row) → cond b (Some other) (cond b (Some one) rest) ≡ cond b (Some other) rest
    twice true rest = refl
    twice false rest = refl

pub width_over : (C : ℕ) (map : Rows) (key : List ℕ) (row : Row) → length row.columns ≡ C → length (columns_before C (fin.get (fin.insert map key row) key)) ≡ C
width_over C map key row wide =
    ap (λ (o : Option Row). length (columns_before C o)) (fin.get-insert key_order map key row key ∙ ap (λ (b : Bool). cond b (Some row) (fin.get map key)) (ap is_eq (tied_itself key_order key))) ∙ wide

pub added_row : (map : Rows) (es : List Entry) (s t : MachineView) (key : List ℕ) (row : Row) → HasLoaded map es s → fin.get map key ≡ None → newest s.log < row.version
    → IsAt (fin.insert map key row) t → newest t.log ≡ row.version → t.columns ≡ s.columns → Fits s.columns (key, row)
    → HasLoaded (fin.insert map key row) ((key, row) ∷ es) t
added_row map es s t key row has none later at newest_is columns fits =
    let long = fin.len-insert key_order map key row ∙ ap (λ (o : Option Row). cond (is_some o) (fin.len map) (fin.len map + 1)) none in
    let many = has.many in
    record {
      at = at;
      alike = λ q. fin.get-insert key_order map key row q ∙ ap (cond (eq_by_cmp key_cmp q key) (Some row)) (has.alike q);
      ends = sym newest_is;
      falls = (omega (arith, later), omega (arith, newest_is), falls_up (newest s.log) (row.version - 1) es (omega (arith, later)) has.falls);
      fits = subst (λ (C : ℕ). AllByRecursion (Fits C) ((key, row) ∷ es)) (sym columns) (fits, has.fits);
      many = omega (arith, long, many);
    }

-- ---- what comes of a call that may fail
pub on_ok : {T E P Q : Type 0} (r : Result T E) → (P → Q) → OnOk r P → OnOk r Q
on_ok (Ok x) f p = f p
on_ok (Err e) f p = tt

pub on_both : {T E P Q R : Type 0} (r : Result T E) → (P → Q → R) → OnOk r P → OnOk r Q → OnOk r R
on_both (Ok x) f p q = f p q
on_both (Err e) f p q = tt

pub on_three : {T E P Q R S : Type 0} (r : Result T E) → (P → Q → R → S) → OnOk r P → OnOk r Q → OnOk r R → OnOk r S
on_three (Ok x) f p q s = f p q s
on_three (Err e) f p q s = tt

pub unrefused : {T : Type 0} (fault : Option Refusal) (r : Result T Refusal) (x : T) → r ≡ Ok x → MatchOption fault (IfErr r (λ refusal. refusal ≡ NoMemory)) (λ refusal. r ≡ Err refusal) → fault ≡ None
unrefused None r x is asks = refl
unrefused {T} (Some refusal) r x is asks = absurd (let clash : ◌≡◌ {A = Result T Refusal} (Ok x) (Err refusal) = sym is ∙ asks in cc)

pub asks_none : (C columns : ℕ) (asked request wanted : Request) (r : Result Request Refusal) → columns ≡ C → request ≡ asked → request ≡ wanted → r ≡ Ok request → MatchOption (request_fault columns asked) (IfErr r (λ refusal. refusal ≡ NoMemory)) (λ refusal. r ≡ Err refusal)
    → request_fault C wanted ≡ None
asks_none C columns asked request wanted r same is other ok fault =
    ap (λ (n : ℕ). request_fault n wanted) (sym same) ∙ ap (request_fault columns) (sym other ∙ is) ∙ unrefused (request_fault columns asked) r request ok fault

-- ---- the next commit is to make a row
module _ (map : Rows) (es : List Entry) (s : MachineView) (key : List ℕ) (row : Row) (has : HasLoaded map es s) where
  pub before_at_once : newest s.log + 1 ≡ row.version → IsBefore map key row s
  before_at_once next = record { over = map; at = has.at; next = next; wide = width_at map es s key has; same = refl }

  pub before_by_put : (t : MachineView) → length row.columns ≡ s.columns → newest s.log + 2 ≡ row.version → t.columns ≡ s.columns → IsAt (fin.insert map key (row_at (newest s.log + 1) row)) t → newest t.log ≡ newest s.log + 1 → IsBefore map key row t
  before_by_put t wide two columns at one = record {
    over = fin.insert map key (row_at (newest s.log + 1) row);
    at = at;
    next = omega (arith, two, one);
    wide = ap (λ (C : ℕ). length (columns_before C (fin.get (fin.insert map key (row_at (newest s.log + 1) row)) key))) columns ∙ width_over s.columns map key (row_at (newest s.log + 1) row) wide ∙ sym columns;
    same = put_over map key (row_at (newest s.log + 1) row) row;
  }

  pub before_by_jump : (t : MachineView) (n : ℕ) → t ≡ rebased n s → StandsThere s n t → newest s.log ≤ n → n ≤ greatest_number → length key ≤ MAX_KEY_BYTES → fin.get map key ≡ None → length es + 2 ≤ n → n + 1 ≡ row.version → IsBefore map key row t
  before_by_jump t n is stand later few short none room next =
      let r = reached rows_are_reached map es s has n later few key short none (inr room) in
      let columns = rebased_columns map s t n has.at is stand in
      let newest_is = rebased_newest map s t n has.at is stand in
      record {
        over = map;
        at = rebased_at map s t n has.at is stand r.h (same_rows rows_are_reached map es s has n later few key short none (inr room));
        next = omega (arith, newest_is, next);
        wide = ap (λ (C : ℕ). length (columns_before C (fin.get map key))) columns ∙ width_at map es s key has ∙ sym columns;
        same = refl;
      }

  pub can_jump : (n : ℕ) → newest s.log ≤ n → n ≤ greatest_number → length key ≤ MAX_KEY_BYTES → fin.get map key ≡ None → length es + 2 ≤ n → CanBeAfter n s
  can_jump n later few short none room = can_be rows_are_reached map es s has n later few key short none (inr room)

  -- and then it has made it
  pub row_made : (mid t : MachineView) (before : IsBefore map key row mid) → mid.columns ≡ s.columns → newest s.log < row.version → fin.get map key ≡ None → Fits mid.columns (key, row) → t.columns ≡ mid.columns
      → IsAt (fin.insert before.over key (row_at (newest mid.log + 1) row)) t → newest t.log ≡ newest mid.log + 1 → HasLoaded (fin.insert map key row) ((key, row) ∷ es) t
  row_made mid t before columns later none fits same_columns at newest_is =
      let number = before.next in
      added_row map es s t key row has none later
      (subst (λ (rs : Rows). IsAt rs t) (ap (λ (k : ℕ). fin.insert before.over key (row_at k row)) number ∙ before.same) at)
      (newest_is ∙ number) (same_columns ∙ columns) (subst (λ (C : ℕ). Fits C (key, row)) columns fits)

-- the end
pub ended : (map : Rows) (es : List Entry) (s t : MachineView) (n : ℕ) (has : HasLoaded map es s) → t ≡ rebased n s → StandsThere s n t → newest s.log ≤ n → n ≤ greatest_number
    → (unused : List ℕ) → length unused ≤ MAX_KEY_BYTES → fin.get map unused ≡ None → CanEndAt n es → IsLoaded s.columns n map t
ended map es s t n has is stand later few unused short none how =
    let r = reached rows_are_reached map es s has n later few unused short none how in
    rebased_loaded map s t n has.at is stand r.h (same_rows rows_are_reached map es s has n later few unused short none how) r.long

-- how it may end: at the number of the newest row, or with two numbers of no row
pub may_end : (map : Rows) (es : List Entry) (s : MachineView) (n : ℕ) → HasLoaded map es s → ((newest s.log < n) → fin.len map + 2 ≤ n) → newest s.log ≤ n → CanEndAt n es
may_end map es s n has room later = elim (eqb_tells (newest s.log) n) [
  | inl same ↦ inl (subst (λ (k : ℕ). EndsAt k es) same.1 has.ends)
  | inr other ↦ inr (let many = has.many in let apart = other.1 in let enough = room (omega (arith, later, apart)) in omega (arith, many, enough))
]

-- ---- what is left
-- before any row is loaded
pub all_left : (all : Rows) → IsParted all all fin.empty
all_left all = λ key. inl (refl, fin.get-empty key_cmp key)

-- a row that is left was loaded by none
pub left_is_new : (all left map : Rows) (key : List ℕ) (row : Row) → IsParted all left map → fin.get left key ≡ Some row → fin.get map key ≡ None
left_is_new all left map key row parted there = elim (parted key) [
  | inl l ↦ l.1
  | inr r ↦ absurd (let clash : ◌≡◌ {A = Option Row} None (Some row) = sym r.0 ∙ there in cc)
]

-- a row that was left is loaded
pub parted_more : (all left map : Rows) (key : List ℕ) (row : Row) → IsParted all left map → fin.get left key ≡ Some row → IsParted all (fin.remove left key) (fin.insert map key row)
parted_more all left map key row parted there = λ q.
    by q (key_cmp q key) refl (fin.get-remove key_order left key q) (fin.get-insert key_order map key row q)
  where
    has_all : fin.get all key ≡ Some row
    has_all = elim (parted key) [
      | inl l ↦ sym l.0 ∙ there
      | inr r ↦ absurd (let clash : ◌≡◌ {A = Option Row} None (Some row) = sym r.0 ∙ there in cc)
    ]

    by : (q : List ℕ) (o : Ordering) → key_cmp q key ≡ o → fin.get (fin.remove left key) q ≡ cond (is_eq o) None (fin.get left q) → fin.get (fin.insert map key row) q ≡ cond (is_eq o) (Some row) (fin.get map q)
        → ((fin.get (fin.remove left key) q ≡ fin.get all q) × (fin.get (fin.insert map key row) q ≡ None)) ⊎ ((fin.get (fin.remove left key) q ≡ None) × (fin.get (fin.insert map key row) q ≡ fin.get all q))
    by q Less is gone put = elim (parted q) [ inl l ↦ inl (gone ∙ l.0, put ∙ l.1) | inr r ↦ inr (gone ∙ r.0, put ∙ r.1) ]
    by q Greater is gone put = elim (parted q) [ inl l ↦ inl (gone ∙ l.0, put ∙ l.1) | inr r ↦ inr (gone ∙ r.0, put ∙ r.1) ]
    by q Equal is gone put = inr (gone, put ∙ sym has_all ∙ fin.get_tied key_order all q key is)

-- a key that isn't left stays so
pub parted_still : (all left map : Rows) (key : List ℕ) → IsParted all left map → fin.get left key ≡ None → IsParted all (fin.remove left key) map
parted_still all left map key parted none = λ q. by q (key_cmp q key) refl (fin.get-remove key_order left key q)
  where
    by : (q : List ℕ) (o : Ordering) → key_cmp q key ≡ o → fin.get (fin.remove left key) q ≡ cond (is_eq o) None (fin.get left q)
        → ((fin.get (fin.remove left key) q ≡ fin.get all q) × (fin.get map q ≡ None)) ⊎ ((fin.get (fin.remove left key) q ≡ None) × (fin.get map q ≡ fin.get all q))
    by q Less is same = elim (parted q) [ inl l ↦ inl (same ∙ l.0, l.1) | inr r ↦ inr (same ∙ r.0, r.1) ]
    by q Greater is same = elim (parted q) [ inl l ↦ inl (same ∙ l.0, l.1) | inr r ↦ inr (same ∙ r.0, r.1) ]
    by q Equal is gone = elim (parted q) [ inl l ↦ inl (gone ∙ sym none ∙ fin.get_tied key_order left q key is ∙ l.0, l.1) | inr r ↦ inr (gone, r.1) ]

-- if none is left, all were loaded
pub none_left : (all map left : Rows) → left ≡ fin.empty → IsParted all left map → map ≡ all
none_left all map left none parted =
    fin.same_map key_order key_apart map all (λ q. elim (parted q) [
      | inl l ↦ l.1 ∙ sym (sym l.0 ∙ ap (λ (rs : Rows). fin.get rs q) none ∙ fin.get-empty key_cmp q)
      | inr r ↦ r.1
    ])
