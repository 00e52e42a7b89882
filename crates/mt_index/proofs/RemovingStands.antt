-- A machine from which rows are removed at once, each by a call alone: the history that it is then at.
use Rattle.std.proofs.Common.{◌≡◌, ◌<◌, ◌≤◌, ◌+◌, ◌-◌, ◌*◌, ℕ, List, [], ◌∷◌, ◌++◌, length, take, min, max, Option, Some, None, IsSome, refl, sym, ap, subst, ◌∙◌, inl, inr, arith, length-append}
use Rattle.std.specs.FinMap.{get, len}
use Rattle.std.specs.List.{AllByRecursion}
use Rattle.std.proofs.Math.Nat.{min-le_left}
use Rattle.std.proofs.lemmas.List.{append_assoc, append-nil, take-append-le}
use Rattle.mt_types.specs.Numbers.{greatest_number, least}
use Rattle.mt_types.specs.Rows.{after}
use Rattle.mt_types.specs.declared.limits.TheConstants.{MAX_KEY_BYTES}
use Rattle.mt_types.specs.declared.event.Request.TheVariants.{Remove}
use Rattle.mt_types.specs.declared.event.Answer.{Answer}
use Rattle.mt_types.specs.declared.event.Answer.TheVariants.{Removed}
use Rattle.mt_types.specs.declared.row.Row.{Row}
use Rattle.mt_types.specs.declared.row.Change.{Change}
use Rattle.mt_types.specs.declared.row.Change.TheVariants.{Drop}
use Rattle.mt_promise.specs.History.{History, StandingView, moment, rows}
use Rattle.mt_promise.specs.Legal.{Legal, held_from}
use Rattle.mt_promise.proofs.HistoryLemmas.{after-append}
use Rattle.mt_commit.proofs.DeltaLemmas.{get-row_put}
use Rattle.mt_reach.proofs.Steps.{done, legal_done, one_call_done}
use Rattle.mt_reach.proofs.Reaching.{key_fits}
use Rattle.mt_commit.specs.Log.{LogView, IsLog, kept_after}
use Rattle.mt_arena.specs.Arena.{ArenaView}
use Rattle.mt_steps.specs.Lone.{IsLoneTree}
use Rattle.mt_view.specs.Views.{all_standing}
use Rattle.mt_undo.specs.Undoing.{HaveMade}
use Rattle.mt_undo.specs.Removing.{AreApart, AreThere, CanRemove, HaveRemoved, Taken, drops}
use Rattle.mt_undo.proofs.RemoveLemmas.{there_still}
use Rattle.mt_undo.proofs.UndoLemmas.{other_more, same_or_not}
use Rattle.mt_index.specs.Alone.{IsIdle}
use Rattle.mt_index.specs.Marks.{GoesOnBy, KeepsAll}
use Rattle.mt_index.specs.Stands.{MachineView, Stands, holding}
use Rattle.mt_index.proofs.LogStands.{least_grows}
use Rattle.mt_index.proofs.MarkStands.{exact_where, held_by_views, idle_tree, moved_stands, none_open, none_reserved, reached_all}

-- ---- the history of these calls
pub record Goes (C : ℕ) (h : History) (taken : List Taken) : Type 0 where
  pub ahead : History
  pub legal : Legal C ahead
  pub calls : (moment ahead).calls ≡ []
  pub begun : (moment ahead).begun ≡ (moment h).begun + length taken
  pub on : GoesOnBy h (drops taken) ahead
  pub events : length ahead ≡ length h + 3 * length taken

pub removes_go : (C : ℕ) (h : History) (taken : List Taken) → Legal C h → (moment h).calls ≡ [] → (moment h).begun + length taken ≤ greatest_number → AreThere (rows C (moment h)) taken → AreApart taken
    → AllByRecursion (λ (t : Taken). length t.0 ≤ MAX_KEY_BYTES) taken → Goes C h taken
removes_go C h [] legal none few there apart fit = record {
  ahead = h;
  legal = legal;
  calls = none;
  begun = (let e : (moment h).begun ≡ (moment h).begun + 0 = omega arith in e);
  on = record { own = []; block = refl; commits = sym (append-nil (moment h).commits); views = refl; built = refl; epoch = refl; begun = omega arith };
  events = omega arith;
}
removes_go C h (t ∷ taken) legal none few there apart fit =
    let left : (moment h).begun < greatest_number = omega (arith, few) in
    let fits = key_fits t.0 fit.0 in
    let answer : Answer = Removed (length (moment h).commits + 1) in
    let next : History = done C h legal none left (Remove t.0) fits refl answer in
    let next_legal : Legal C next = legal_done C h legal none left (Remove t.0) fits refl answer (refl, refl, subst (λ (o : Option Row). IsSome o) (sym there.0) refl) refl in
    let on = one_call_done C h legal none left (Remove t.0) fits refl answer refl in
    let rest = removes_go C next taken next_legal on.calls (let begun = on.begun in omega (arith, few, begun))
    (subst (λ (cs : List Change). AreThere (after C cs) taken) (sym on.commits) (there_still C (moment h).commits t.0 taken apart.0 there.1)) apart.1 fit.1 in
    record {
      ahead = rest.ahead;
      legal = rest.legal;
      calls = rest.calls;
      begun = let first = on.begun in let then_begun = rest.begun in omega (arith, first, then_begun);
      on = record {
        own = rest.on.own ++ on.own;
        block = rest.on.block ∙ ap (λ (l : History). rest.on.own ++ l) on.block ∙ sym (append_assoc rest.on.own on.own h);
        commits = rest.on.commits ∙ ap (λ (cs : List Change). cs ++ drops taken) on.commits ∙ append_assoc (moment h).commits (Drop t.0 ∷ []) (drops taken);
        views = rest.on.views ∙ on.views;
        built = rest.on.built ∙ on.built;
        epoch = rest.on.epoch ∙ on.epoch;
        begun = let first = on.begun in let then_begun = rest.on.begun in omega (arith, first, then_begun);
      };
      events = let more = rest.events in omega (arith, more);
    }

-- ---- what has a row then had it before
none_after : (C : ℕ) (cs : List Change) (key : List ℕ) → get (after C (cs ++ Drop key ∷ [])) key ≡ None
none_after C cs key = ap (λ (rs : Rattle.mt_types.specs.Rows.Rows). get rs key) (after-append C cs (Drop key)) ∙ get-row_put key None (after C cs)

keys_before : (C : ℕ) (cs : List Change) (taken : List Taken) (q : List ℕ) (row : Row) → get (after C (cs ++ drops taken)) q ≡ Some row → get (after C cs) q ≡ Some row
keys_before C cs [] q row is = sym (ap (λ (l : List Change). get (after C l) q) (append-nil cs)) ∙ is
keys_before C cs (t ∷ taken) q row is =
    let one : get (after C (cs ++ Drop t.0 ∷ [])) q ≡ Some row = keys_before C (cs ++ Drop t.0 ∷ []) taken q row (ap (λ (l : List Change). get (after C l) q) (append_assoc cs (Drop t.0 ∷ []) (drops taken)) ∙ is) in
    elim (same_or_not q t.0) [
      | inl same ↦ absurd (gone one same)
      | inr apart ↦ sym (other_more C cs (Drop t.0) q apart.0) ∙ one
    ]
  where
    gone : get (after C (cs ++ Drop t.0 ∷ [])) q ≡ Some row → q ≡ t.0 → ⊥
    gone one same = let clash : ◌≡◌ {A = Option Row} None (Some row) = sym (none_after C cs t.0) ∙ ap (get (after C (cs ++ Drop t.0 ∷ []))) (sym same) ∙ one in cc

-- ---- bounds that grow
within_more : (low high : ℕ) (views : List StandingView) → low ≤ high → AllByRecursion (λ (v : StandingView). v.at ≤ low) views → AllByRecursion (λ (v : StandingView). v.at ≤ high) views
within_more low high [] h within = tt
within_more low high (v ∷ views) h within = (let here = within.0 in omega (arith, h, here), within_more low high views h within.1)

-- ---- the machine
module _ (s : MachineView) (h : History) (st : Stands s h) (idle : IsIdle s) (base : s.log.base ≡ s.log.held_after) (retention : s.log.retention ≡ greatest_number) (taken : List Taken)
    (there : AreThere (rows s.columns (moment h)) taken) (apart : AreApart taken) (fit : AllByRecursion (λ (t : Taken). length t.0 ≤ MAX_KEY_BYTES) taken) (few : s.calls.begun + length taken ≤ greatest_number)
    (reserved : LogView) (room : reserved ≡ record s.log { reserved = s.log.reserved + length taken }) where
  pub can_remove : CanRemove s.columns (moment h).commits taken s.tree reserved
  can_remove = record {
    made = subst (λ (l : LogView). HaveMade s.columns (moment h).commits s.tree l) (sym room) (record { rows = st.content; logged = st.logged; newest = st.commits });
    there = there;
    apart = apart;
    room = let is = ap (λ (l : LogView). l.reserved) room in omega (arith, is);
  }

  pub goes : Goes s.columns h taken
  goes = removes_go s.columns h taken st.legal (none_open s h st idle) (let begun = st.begun in omega (arith, few, begun)) there apart fit

  module _ (a : ArenaView) (left : LogView) (sound : IsLog left)
      (removes : (lone : IsLoneTree s.tree) (C : ℕ) (changes : List Change) → CanRemove C changes taken s.tree reserved → HaveRemoved C changes taken lone.now reserved a left) where
    abbrev pub after_removing : MachineView
    after_removing = record { columns = s.columns; epoch = s.epoch; tree = a; log = left; calls = record s.calls { begun = s.calls.begun + length taken }; views = s.views }

    removed : HaveRemoved s.columns (moment h).commits taken s.epoch reserved a left
    removed = let (lone, now) = idle_tree s h st idle in subst (λ (n : ℕ). HaveRemoved s.columns (moment h).commits taken n reserved a left) now (removes lone s.columns (moment h).commits can_remove)

    same_log : left ≡ record s.log { deltas = left.deltas; reserved = s.log.reserved; rows = left.rows }
    same_log = removed.same_log
        ∙ ap (λ (l : LogView). record l { deltas = left.deltas; reserved = reserved.reserved - length taken; rows = left.rows }) room
        ∙ ap (λ (k : ℕ). record s.log { deltas = left.deltas; reserved = k; rows = left.rows }) (let is = ap (λ (l : LogView). l.reserved) room in let e : reserved.reserved - length taken ≡ s.log.reserved = omega (arith, is) in e)

    pub removed_keeps : KeepsAll s after_removing
    removed_keeps = record {
      base = ap (λ (l : LogView). l.base) same_log ∙ base;
      retention = ap (λ (l : LogView). l.retention) same_log ∙ retention;
      capacity = ap (λ (l : LogView). l.capacity) same_log;
    }

    pub removed_stands : Stands after_removing goes.ahead
    removed_stands =
        let g = goes in
        let made : HaveMade s.columns (moment g.ahead).commits a left = subst (λ (cs : List Change). HaveMade s.columns cs a left) (sym g.on.commits) removed.made in
        let held : left.held_after ≡ s.log.held_after = ap (λ (l : LogView). l.held_after) same_log in
        let left_base : left.base ≡ s.log.base = ap (λ (l : LogView). l.base) same_log in
        let left_retention : left.retention ≡ s.log.retention = ap (λ (l : LogView). l.retention) same_log in
        let more = ap length g.on.commits ∙ length-append (moment h).commits (drops taken) in
        let begun : (moment g.ahead).begun ≡ s.calls.begun + length taken = g.begun ∙ ap (λ (n : ℕ). n + length taken) (sym st.begun) in
        let low : s.log.held_after ≤ held_from (moment h) = (let is = st.trimmed in let first = min-le_left (held_from (moment h)) (kept_after s.log (length (moment h).commits)) in omega (arith, is, first)) in
        let grown : held_from (moment h) ≤ held_from (moment g.ahead) =
        subst (λ (l : List ℕ). least (length (moment h).commits) l ≤ held_from (moment g.ahead)) (sym (held_by_views (moment h) (moment g.ahead) (none_open s h st idle) g.calls (sym g.on.views)))
        (least_grows (length (moment h).commits) (length (moment g.ahead).commits) (holding (moment g.ahead)) (omega (arith, more))) in
        subst (λ (n : ℕ). Stands (record { columns = s.columns; epoch = s.epoch; tree = a; log = left; calls = record s.calls { begun = n }; views = s.views }) g.ahead) begun
        (moved_stands s h st idle a left g.ahead g.legal g.calls removed.lone removed.same_now made
        (let fits = sound.fits in let newest_is = made.newest in let e : left.held_after ≡ min (held_from (moment g.ahead)) (max left.base (length (moment g.ahead).commits - left.retention)) = omega (arith, held, left_base, left_retention, base, retention, low, grown, fits, newest_is) in e)
        (removed.counted (ap (λ (l : LogView). l.rows) room ∙ st.counted) ∙ ap (λ (cs : List Change). len (after s.columns cs)) (sym g.on.commits))
        (ap (λ (l : LogView). l.holders) same_log) (ap (λ (l : LogView). l.reserved) same_log ∙ none_reserved s h st idle)
        g.on.views g.on.built g.on.epoch
        (exact_where s.columns (moment h) (moment g.ahead) s.views.views
        (within_more (length (moment h).commits) (length (moment g.ahead).commits) (all_standing s.views.views) (omega (arith, more)) (reached_all s.columns (moment h) s.views.views st.views.exact))
        (λ at before now. ap (take at) g.on.commits ∙ take-append-le at (moment h).commits (drops taken) before)
        st.views.exact)
        (λ key row is. st.keys key row (keys_before s.columns (moment h).commits taken key row (ap (λ (cs : List Change). get (after s.columns cs) key) (sym g.on.commits) ∙ is))))
