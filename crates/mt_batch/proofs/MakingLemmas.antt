-- The changes of a batch, one after the other, ahead of a mark.
use Rattle.std.proofs.Common.{◌≡◌, ◌≤◌, ℕ, List, [], ◌∷◌, ◌++◌, length, sym, ap, subst, ◌∙◌, inl, inr, arith, length-append}
use Rattle.std.specs.Prelude.{Result, Ok, Err, IfOk, IfErr, OnOk, OnErr}
use Rattle.std.proofs.Math.Nat.{min-le_left}
use Rattle.std.proofs.lemmas.List.{append_assoc, append-nil}
use Rattle.mt_types.specs.Numbers.{greatest_number, least}
use Rattle.mt_types.specs.Rows.{Rows}
use Rattle.mt_types.specs.declared.refusal.Refusal.{Refusal}
use Rattle.mt_types.specs.declared.row.Change.{Change as RowChange}
use Rattle.mt_types.specs.declared.row.Change.TheVariants as made
use Rattle.mt_types.specs.declared.event.Reply.{Reply}
use Rattle.mt_types.specs.declared.event.Request.TheVariants.{Put}
use Rattle.mt_types.specs.declared.event.Answer.{Answer}
use Rattle.mt_types.specs.declared.event.Answer.TheVariants.{Absent, Found, Stored, Removed, Rows as RowsAnswer, Tidied, Built}
use Rattle.mt_promise.specs.Alone.{IsPlain}
use Rattle.mt_promise.specs.History.{History, moment, rows}
use Rattle.mt_promise.specs.Legal.{held_from}
use Rattle.mt_commit.specs.Log.{kept_after, newest}
use Rattle.mt_undo.specs.Removing.{Taken, drops}
use Rattle.mt_index.specs.Alone.{AnswersPlainly, IsIdle, RefusesPlainly, next_call, pass_0}
use Rattle.mt_index.specs.Marks.{GoesOnBy, IsAhead, KeepsAll}
use Rattle.mt_index.specs.Stands.{MachineView, Stands, HasBounds, holding}
use Rattle.mt_index.specs.declared.marks.Mark.{Mark}
use Rattle.mt_index.proofs.LogStands.{least_grows}
use Rattle.mt_index.proofs.MarkStands.{held_by_views, none_open}
use Rattle.mt_types.specs.Rows.{after}
use Rattle.mt_batch.specs.declared.batch.Change.{Change}
use Rattle.mt_batch.specs.Changes.{numbers_from, puts_of, taken_of}
use Rattle.mt_batch.specs.Making.{MakesAll, PutsAll, without_reply}
use Rattle.mt_batch.proofs.RunLemmas.{Leaves, done_leaves, refused_leaves, turned_leaves}

plain_put : (map : Rows) (n : ℕ) (key : List ℕ) (sets : List (ℕ × List ℕ)) (answer : Answer) (changes : List RowChange) → IsPlain map n (Put key sets) answer changes → changes ≡ made.Put key sets ∷ []
plain_put map n key sets (Stored number) changes is = is.1
plain_put map n key sets Absent changes is = absurd is
plain_put map n key sets (Found row) changes is = absurd is
plain_put map n key sets (Removed number) changes is = absurd is
plain_put map n key sets (RowsAnswer pairs) changes is = absurd is
plain_put map n key sets (Tidied rule) changes is = absurd is
plain_put map n key sets (Built view) changes is = absurd is

module _ (s m t : MachineView) (mark : Mark) (changes : List RowChange) (ahead : IsAhead s mark changes m) (columns : t.columns ≡ m.columns) where
  -- ahead by more
  on_from : (more : List RowChange) → KeepsAll s t → ((g : History) → Stands m g → (later : History) × Stands t later × GoesOnBy g more later) → IsAhead s mark (changes ++ more) t
  on_from more keeps goes = record {
    marked = ahead.marked;
    idle = ahead.idle;
    sound = ahead.sound;
    few = ahead.few;
    some = ahead.some;
    columns = columns ∙ ahead.columns;
    keeps = keeps;
    led = λ h st.
        let (g, gst, on) = ahead.led h st in
        let (later, stands, further) = goes g gst in (
          later,
          stands,
          record {
            own = further.own ++ on.own;
            block = further.block ∙ ap (λ (l : History). further.own ++ l) on.block ∙ sym (append_assoc further.own on.own h);
            commits = further.commits ∙ ap (λ (cs : List RowChange). cs ++ more) on.commits ∙ append_assoc (moment h).commits changes more;
            views = further.views ∙ on.views;
            built = further.built ∙ on.built;
            epoch = further.epoch ∙ on.epoch;
            begun = let one = on.begun in let other = further.begun in let both = length-append changes more in omega (arith, one, other, both);
          },
        );
  }

  module _ (bounds : HasBounds m.log.capacity m.log.retention t.log) (base : t.log.base ≡ m.log.base) where
    keeps_on : KeepsAll s t
    keeps_on = record { base = base ∙ ahead.keeps.base; retention = bounds.1 ∙ ahead.keeps.retention; capacity = bounds.0 ∙ ahead.keeps.capacity }

    -- a put is made
    pub put_on : (key : List ℕ) (sets : List (ℕ × List ℕ)) (reply : Reply) → AnswersPlainly m (Put key sets) reply t → IsAhead s mark (changes ++ made.Put key sets ∷ []) t
    put_on key sets reply answers = on_from (made.Put key sets ∷ []) keeps_on (λ g gst.
        let a = answers g gst in
        let leaves : Leaves key sets (next_call m) g 1 a.then = done_leaves key sets (next_call m) g pass_0 reply a.then a.ran in (
          a.then,
          a.stands,
          record {
            own = leaves.own;
            block = leaves.block;
            commits = a.plain.commits ∙ ap (λ (cs : List RowChange). (moment g).commits ++ cs) (plain_put (rows m.columns (moment g)) (length (moment g).commits) key sets reply.answer a.plain.made a.plain.plain);
            views = a.plain.views ∙ append-nil (moment g).views;
            built = leaves.built;
            epoch = leaves.epoch;
            begun = let is = leaves.begun in omega (arith, is);
          },
        ))

    -- a put is refused
    pub put_off : (key : List ℕ) (sets : List (ℕ × List ℕ)) (refusal : Refusal) → RefusesPlainly m (Put key sets) refusal t → IsAhead s mark changes t
    put_off key sets refusal refuses =
        subst (λ (cs : List RowChange). IsAhead s mark cs t) (append-nil changes) (on_from [] keeps_on (λ g gst.
        let r = refuses g gst in
        let leaves : Leaves key sets (next_call m) g 0 r.then = elim r.ran [
          | inl turned ↦ turned_leaves key sets (next_call m) g pass_0 refusal r.then turned
          | inr ran ↦ refused_leaves key sets (next_call m) g pass_0 refusal r.then ran
        ] in (
          r.then,
          r.stands,
          record {
            own = leaves.own;
            block = leaves.block;
            commits = r.nothing.commits ∙ sym (append-nil (moment g).commits);
            views = r.nothing.views;
            built = leaves.built;
            epoch = leaves.epoch;
            begun = let is = leaves.begun in omega (arith, is);
          },
        )))

  -- rows are removed
  pub removes_on : (taken : List Taken) → m.log.base ≡ m.log.held_after → KeepsAll m t → ((g : History) → Stands m g → (later : History) × Stands t later × GoesOnBy g (drops taken) later) → IsAhead s mark (changes ++ drops taken) t
  removes_on taken held keeps goes = on_from (drops taken) (record {
    base = keeps.base ∙ sym held ∙ ahead.keeps.base;
    retention = keeps.retention;
    capacity = keeps.capacity ∙ ahead.keeps.capacity;
  }) goes

-- the log has trimmed nothing since
pub holds_all : (s m : MachineView) (mark : Mark) (changes : List RowChange) → IsAhead s mark changes m → IsIdle m → newest m.log ≤ greatest_number → m.log.base ≡ m.log.held_after
holds_all s m mark changes ahead idle fits =
    let (h, st) = ahead.some in
    let (g, gst, on) = ahead.led h st in
    let is = gst.trimmed in
    let base = ahead.keeps.base in
    let retention = ahead.keeps.retention in
    let commits = gst.commits in
    let low : s.log.held_after ≤ held_from (moment h) = (let is = st.trimmed in let left = min-le_left (held_from (moment h)) (kept_after s.log (length (moment h).commits)) in omega (arith, is, left)) in
    let grown : held_from (moment h) ≤ held_from (moment g) =
    subst (λ (l : List ℕ). least (length (moment h).commits) l ≤ held_from (moment g)) (sym (held_by_views (moment h) (moment g) (none_open s h st ahead.idle) (none_open m g gst idle) (sym on.views)))
    (least_grows (length (moment h).commits) (length (moment g).commits) (holding (moment g)) (let both = ap length on.commits ∙ length-append (moment h).commits changes in omega (arith, both))) in
    omega (arith, is, base, retention, commits, low, grown, fits)

-- ---- what a call came to, without its reply
pub ok_of : {P : Reply → Type 0} (Q : Type 0) (done : Result Reply Refusal) (result : Result (Unit {0}) Refusal) → result ≡ without_reply done → IfOk done P → ((reply : Reply) → P reply → Q) → OnOk result Q
ok_of Q (Ok reply) result is holds so = subst (λ (r : Result (Unit {0}) Refusal). OnOk r Q) (sym is) (so reply holds)
ok_of Q (Err refusal) result is holds so = subst (λ (r : Result (Unit {0}) Refusal). OnOk r Q) (sym is) tt

pub err_of : {P : Refusal → Type 0} (Q : Type 0) (done : Result Reply Refusal) (result : Result (Unit {0}) Refusal) → result ≡ without_reply done → IfErr done P → ((refusal : Refusal) → P refusal → Q) → OnErr result Q
err_of Q (Ok reply) result is holds so = subst (λ (r : Result (Unit {0}) Refusal). OnErr r Q) (sym is) tt
err_of Q (Err refusal) result is holds so = subst (λ (r : Result (Unit {0}) Refusal). OnErr r Q) (sym is) (so refusal holds)

pub if_err : {P : Refusal → Type 0} (Q : Refusal → Type 0) (done : Result Reply Refusal) (result : Result (Unit {0}) Refusal) → result ≡ without_reply done → IfErr done P → ((refusal : Refusal) → P refusal → Q refusal) → IfErr result Q
if_err Q (Ok reply) result is holds so = subst (λ (r : Result (Unit {0}) Refusal). IfErr r Q) (sym is) tt
if_err Q (Err refusal) result is holds so = subst (λ (r : Result (Unit {0}) Refusal). IfErr r Q) (sym is) (so refusal holds)

-- a clause of an error
pub either_err : {A : Type 0} (Q : Type 0) (r : Result A Refusal) → Q → OnErr r Q
either_err Q (Ok done) so = tt
either_err Q (Err refusal) so = so

-- ---- all changes
module _ (s m : MachineView) (mark : Mark) (changes : List Change) (puts : PutsAll s mark changes (Ok tt) m) where
  pub rows_then : (h : History) → Stands s h → (g : History) × Stands m g × (rows m.columns (moment g) ≡ after s.columns ((moment h).commits ++ puts_of changes)) × (newest m.log ≡ length ((moment h).commits ++ puts_of changes))
  rows_then h st =
      let (g, gst, on) = puts.gone.ahead.led h st in
      let commits : (moment g).commits ≡ (moment h).commits ++ puts_of changes = on.commits ∙ ap (λ (cs : List RowChange). (moment h).commits ++ cs) puts.all in (
        g,
        gst,
        ap (λ (C : ℕ). after C (moment g).commits) puts.gone.ahead.columns ∙ ap (after s.columns) commits,
        gst.commits ∙ ap length commits,
      )

  pub some_rows : (g : History) × Stands m g
  some_rows = let (h, st) = puts.gone.ahead.some in let (g, gst, same, many) = rows_then h st in (g, gst)

  pub all_made : (t : MachineView) → IsIdle m → newest m.log ≤ greatest_number → t.columns ≡ m.columns → (taken : List Taken) → KeepsAll m t → ((g : History) → Stands m g → (later : History) × Stands t later × GoesOnBy g (drops taken) later)
      → (from : ℕ) (numbers : List ℕ) → ((g : History) → Stands m g → taken ≡ taken_of (rows m.columns (moment g)) changes) → ((g : History) → Stands m g → numbers ≡ numbers_from (rows m.columns (moment g)) from (newest m.log) changes)
      → MakesAll s mark changes from numbers t
  all_made t idle fits columns taken keeps goes from numbers are numbered = record {
    taken = taken;
    ahead = subst (λ (cs : List RowChange). IsAhead s mark (cs ++ drops taken) t) puts.all
        (removes_on s m t mark puts.gone.made puts.gone.ahead columns taken (holds_all s m mark puts.gone.made puts.gone.ahead idle fits) keeps goes);
    are = λ h st. let (g, gst, same, many) = rows_then h st in are g gst ∙ ap (λ (rs : Rows). taken_of rs changes) same;
    numbered = λ h st.
        let (g, gst, same, many) = rows_then h st in
        numbered g gst ∙ ap (λ (rs : Rows). numbers_from rs from (newest m.log) changes) same ∙ ap (λ (n : ℕ). numbers_from (after s.columns ((moment h).commits ++ puts_of changes)) from n changes) many;
  }
