-- A row that is removed at once, and what a tree and its log are then.
use Rattle.std.proofs.Common.{◌≡◌, ◌≢◌, ◌≤◌, ◌+◌, ◌-◌, ℕ, suc, List, [], ◌∷◌, ◌++◌, length, drop, Some, None, refl, sym, ap, subst, ◌∙◌, inl, inr, arith, length-append}
use Rattle.std.specs.Prelude.{◌↔◌}
use Rattle.std.specs.FinMap.{get, len}
use Rattle.std.specs.List.{AllByRecursion}
use Rattle.std.proofs.lemmas.List.{append_assoc, append-nil}
use Rattle.mt_types.specs.Rows.{after}
use Rattle.mt_types.specs.declared.row.Row.{Row}
use Rattle.mt_types.specs.declared.row.Delta.{Delta}
use Rattle.mt_types.specs.declared.row.Change.{Change}
use Rattle.mt_types.specs.declared.row.Change.TheVariants.{Drop}
use Rattle.mt_slice.specs.Place.{AreBytes}
use Rattle.mt_commit.specs.Log.{LogView, newest, with_delta, counted, effect_of}
use Rattle.mt_commit.specs.Deltas.{with_row}
use Rattle.mt_commit.specs.Logged.{delta_made, deltas_of}
use Rattle.mt_commit.proofs.DeltaLemmas.{delta_is}
use Rattle.mt_commit.proofs.RowLemmas.{len-with_row}
use Rattle.mt_arena.specs.Arena.{ArenaView}
use Rattle.mt_steps.specs.Lone.{IsLoneTree}
use Rattle.mt_steps.specs.Step.{RowIs}
use Rattle.mt_undo.specs.Taking.{IsTakenBack}
use Rattle.mt_undo.specs.Undoing.{HaveMade}
use Rattle.mt_undo.specs.Removing.{AreThere, CanRemove, HaveRemoved, Taken, drops}
use Rattle.mt_undo.proofs.UndoLemmas.{deltas_more, number, other_more, rows_more, rows_on, same_or_not}

module _ (C : ℕ) (changes : List Change) (key : List ℕ) (before : Row) (a : ArenaView) (log : LogView) (can : CanRemove C changes ((key, before) ∷ []) a log) where
  found : get (after C changes) key ≡ Some before
  found = can.there.0

  -- the key has its row
  pub has_row : AreBytes key → (row : Row) × RowIs a key (Some row)
  has_row bytes = (
    before,
    λ row. ((λ there. sym found ∙ (can.made.rows key bytes row).0 there), (λ is. (can.made.rows key bytes row).1 (found ∙ is))),
  )

  abbrev delta : ℕ → Delta
  delta n = record { number = n; key = key; before = Some before; after = None }

  delta_so : delta (number C changes (Drop key)) ≡ delta_made C (number C changes (Drop key)) (Drop key) (after C changes)
  delta_so = delta_is C (number C changes (Drop key)) (Drop key) (after C changes) key (Some before) None refl found refl

  pub removes_one : (now n : ℕ) (after_tree : ArenaView) (left : LogView) → IsTakenBack a key None now after_tree → n ≡ newest log → left ≡ with_delta log (delta (n + 1))
      → HaveRemoved C changes ((key, before) ∷ []) now log after_tree left
  removes_one now n after_tree left back is same =
      let newest_was = can.made.newest in
      let is_next : n + 1 ≡ number C changes (Drop key) = omega (arith, is, newest_was) in
      let its : delta (n + 1) ≡ delta_made C (number C changes (Drop key)) (Drop key) (after C changes) = ap delta is_next ∙ delta_so in
      let deltas : left.deltas ≡ log.deltas ++ delta (n + 1) ∷ [] = ap (λ (l : LogView). l.deltas) same in
      let held : left.held_after ≡ log.held_after = ap (λ (l : LogView). l.held_after) same in
      let within : log.held_after ≤ length changes = omega (arith, newest_was) in
      let long = ap length deltas ∙ length-append log.deltas (delta (n + 1) ∷ []) in
      let many = length-append changes (Drop key ∷ []) in
      record {
        lone = back.lone;
        same_now = back.same_now;
        made = record {
          rows = rows_on C changes (Drop key) a after_tree can.made.rows
              (subst (λ (d : Delta). RowIs after_tree d.key d.after) its back.own)
              (subst (λ (d : Delta). (other : List ℕ) → AreBytes other → other ≢ d.key → (row : Row) → Rattle.mt_tree.specs.Seen.HasRow after_tree other row ↔ Rattle.mt_tree.specs.Seen.HasRow a other row) its back.others);
          logged = deltas ∙ ap (λ (ds : List Delta). ds ++ delta (n + 1) ∷ []) can.made.logged
              ∙ ap (λ (d : Delta). drop log.held_after (deltas_of C changes) ++ d ∷ []) its
              ∙ sym (deltas_more C changes (Drop key) log.held_after within)
              ∙ ap (λ (k : ℕ). drop k (deltas_of C (changes ++ Drop key ∷ []))) (sym held);
          newest = omega (arith, held, long, many, newest_was);
        };
        same_log = same ∙ ap (λ (l : LogView). record log { deltas = l.deltas; reserved = log.reserved - 1; rows = l.rows }) (sym same);
        counted = λ so.
            ap (λ (l : LogView). l.rows) same ∙ ap (counted (effect_of (Some before) None)) so
            ∙ sym (len-with_row key (Some before) None (after C changes) found)
            ∙ ap len (sym (rows_more C changes (Drop key) ∙ ap (λ (d : Delta). with_row d.key d.after (after C changes)) (sym its)));
      }

-- ---- one after the other
pub there_still : (C : ℕ) (changes : List Change) (key : List ℕ) (taken : List Taken) → AllByRecursion (λ (other : Taken). other.0 ≢ key) taken → AreThere (after C changes) taken → AreThere (after C (changes ++ Drop key ∷ [])) taken
there_still C changes key [] apart there = tt
there_still C changes key (t ∷ taken) apart there = (
  elim (same_or_not t.0 key) [
    | inl same ↦ absurd (apart.0 same)
    | inr other ↦ other_more C changes (Drop key) t.0 other.0 ∙ there.0
  ],
  there_still C changes key taken apart.1 there.1,
)

-- the first of them alone
pub can_first : (C : ℕ) (changes : List Change) (t : Taken) (taken : List Taken) (a : ArenaView) (log : LogView) → CanRemove C changes (t ∷ taken) a log → CanRemove C changes (t ∷ []) a log
can_first C changes t taken a log can = record {
  made = can.made;
  there = (can.there.0, tt);
  apart = (tt, tt);
  room = let room = can.room in omega (arith, room);
}

-- and then the others
pub can_rest : (C : ℕ) (changes : List Change) (t : Taken) (taken : List Taken) (now : ℕ) (a b : ArenaView) (log left : LogView) → CanRemove C changes (t ∷ taken) a log → HaveRemoved C changes (t ∷ []) now log b left → CanRemove C (changes ++ Drop t.0 ∷ []) taken b left
can_rest C changes t taken now a b log left can first = record {
  made = first.made;
  there = there_still C changes t.0 taken can.apart.0 can.there.1;
  apart = can.apart.1;
  room = let room = can.room in let reserved = ap (λ (l : LogView). l.reserved) first.same_log in omega (arith, room, reserved);
}

-- both together
pub removed_both : (C : ℕ) (changes : List Change) (t : Taken) (taken : List Taken) (now : ℕ) (b c : ArenaView) (log left last : LogView) → (first : HaveRemoved C changes (t ∷ []) now log b left)
    → HaveRemoved C (changes ++ Drop t.0 ∷ []) taken now left c last → HaveRemoved C changes (t ∷ taken) now log c last
removed_both C changes t taken now b c log left last first rest =
    let joined : (changes ++ Drop t.0 ∷ []) ++ drops taken ≡ changes ++ drops (t ∷ taken) = append_assoc changes (Drop t.0 ∷ []) (drops taken) in
    let fewer : left.reserved - length taken ≡ log.reserved - suc (length taken) = (let reserved = ap (λ (l : LogView). l.reserved) first.same_log in omega (arith, reserved)) in
    record {
      lone = rest.lone;
      same_now = rest.same_now;
      made = subst (λ (cs : List Change). HaveMade C cs c last) joined rest.made;
      same_log = rest.same_log
          ∙ ap (λ (l : LogView). record l { deltas = last.deltas; reserved = left.reserved - length taken; rows = last.rows }) first.same_log
          ∙ ap (λ (k : ℕ). record log { deltas = last.deltas; reserved = k; rows = last.rows }) fewer;
      counted = λ so. rest.counted (first.counted so) ∙ ap (λ (cs : List Change). len (after C cs)) joined;
    }

-- none is removed
pub removed_none : (C : ℕ) (changes : List Change) (a : ArenaView) (log : LogView) → (lone : IsLoneTree a) → HaveMade C changes a log → HaveRemoved C changes [] lone.now log a log
removed_none C changes a log lone made = record {
  lone = lone;
  same_now = refl;
  made = subst (λ (cs : List Change). HaveMade C cs a log) (sym (append-nil changes)) made;
  same_log = ap (λ (k : ℕ). record log { reserved = k }) (let e : log.reserved ≡ log.reserved - 0 = omega arith in e);
  counted = λ so. so ∙ ap (λ (cs : List Change). len (after C cs)) (sym (append-nil changes));
}

-- ---- the loop: some are removed, and once the others are, all are
pub record Removing (C : ℕ) (changes : List Change) (all : List Taken) (now : ℕ) (log : LogView) (rest : List Taken) (a : ArenaView) (left : LogView) : Type 0 where
  pub done : List Change
  pub lone : IsLoneTree a
  pub same_now : lone.now ≡ now
  pub can : CanRemove C done rest a left
  pub finish : (b : ArenaView) (last : LogView) → HaveRemoved C done rest now left b last → HaveRemoved C changes all now log b last

abbrev pub AllRemoving : List Taken → ArenaView → LogView → List Taken → ArenaView → LogView → Type 0
AllRemoving all a log rest b left =
    (lone : IsLoneTree a) (C : ℕ) (changes : List Change) → CanRemove C changes all a log → Removing C changes all lone.now log rest b left

pub removing_on : (C : ℕ) (changes : List Change) (all : List Taken) (now : ℕ) (log : LogView) (t : Taken) (rest : List Taken) (a b : ArenaView) (left next : LogView) → (r : Removing C changes all now log (t ∷ rest) a left)
    → HaveRemoved C r.done (t ∷ []) r.lone.now left b next → Removing C changes all now log rest b next
removing_on C changes all now log t rest a b left next r had =
    let first : HaveRemoved C r.done (t ∷ []) now left b next = subst (λ (n : ℕ). HaveRemoved C r.done (t ∷ []) n left b next) r.same_now had in
    record {
      done = r.done ++ Drop t.0 ∷ [];
      lone = first.lone;
      same_now = first.same_now;
      can = can_rest C r.done t rest now a b left next r.can first;
      finish = λ c last others. r.finish c last (removed_both C r.done t rest now b c left next last first others);
    }

pub all_removed : (C : ℕ) (changes : List Change) (all : List Taken) (now : ℕ) (log : LogView) (a : ArenaView) (left : LogView) → Removing C changes all now log [] a left → HaveRemoved C changes all now log a left
all_removed C changes all now log a left r =
    r.finish a left (subst (λ (n : ℕ). HaveRemoved C r.done [] n left a left) r.same_now (removed_none C r.done a left r.lone r.can.made))
