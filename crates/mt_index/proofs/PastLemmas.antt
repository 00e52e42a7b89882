-- The moments of a call as arenas, and what the answer of a range says of the history by them.
use Rattle.std.proofs.Common.{ℕ, ◌≡◌, ◌≤◌, ◌⊎◌, inl, inr, List, [], ◌∷◌, ◌++◌, length, drop, Option, Some, None, IsSome, true, false, refl, sym, ap, subst, ◌∙◌, arith}
use Rattle.std.proofs.lemmas.List.{append-nil, length-append, drop-append-le, drop_all}
use Rattle.mt_types.specs.Rows.{after}
use Rattle.mt_types.specs.declared.row.Change.{Change}
use Rattle.mt_types.specs.declared.row.Delta.{Delta}
use Rattle.mt_commit.specs.Deltas.{redo}
use Rattle.mt_commit.specs.Logged.{deltas_of}
use Rattle.mt_commit.proofs.DeltaLemmas.{deltas_of-length}
use Rattle.mt_works.specs.History.{GoesBy}
use Rattle.mt_works.specs.Build.{HasRows, HadRows}
use Rattle.std.specs.Prelude.{All}
use Rattle.std.specs.FinMap.{get}
use Rattle.std.proofs.lemmas.List.Elements.{All-nil, All-cons, All-head, All-tail}
use Rattle.mt_types.specs.Rows.{shown}
use Rattle.mt_types.specs.declared.row.Row.{Row}
use Rattle.mt_promise.specs.History.{History, Happening, Moment, moment, rows, Sometime}
use Rattle.mt_promise.specs.RightAnswers.{RightRange, Shows, Lacks, Stands as IsThere}
use Rattle.mt_promise.proofs.HistoryLemmas.{Throughout-here}
use Rattle.mt_slice.specs.Place.{AreBytes, place_of}
use Rattle.mt_arena.specs.Arena.{ArenaView}
use Rattle.mt_chart.specs.Tree.{Arena}
use Rattle.mt_chart.specs.ScanRun.{Stood}
use Rattle.mt_chart.specs.KeyAnswer.{KeysAreBytes}
use Rattle.mt_tree.specs.Seen.{arena_seen, HasRow}
use Rattle.mt_steps.specs.Step.{IsRangeOf}
use Rattle.mt_index.specs.Stands.{HasRowsOf, IsPast}

-- ---- the commits of a moment and of a later one
-- one commit more, with its delta
pub record OneMore (C : ℕ) (m later : Moment) : Type 0 where
  pub change : Change
  pub commits : later.commits ≡ m.commits ++ change ∷ []
  pub delta : Delta
  pub deltas : deltas_of C later.commits ≡ deltas_of C m.commits ++ delta ∷ []
  pub made : rows C later ≡ redo delta (rows C m)

-- the commits are the same, or one more
abbrev pub Grows : ℕ → Moment → Moment → Type 0
Grows C m later = (later.commits ≡ m.commits) ⊎ OneMore C m later

-- the commits of the one are the first of the other
pub begins_with : (C : ℕ) (m later : Moment) → Grows C m later → (more : List Change) × (later.commits ≡ m.commits ++ more)
begins_with C m later (inl same) = ([], same ∙ sym (append-nil m.commits))
begins_with C m later (inr one) = (one.change ∷ [], one.commits)

longer : (C : ℕ) (m later : Moment) → Grows C m later → length m.commits ≤ length later.commits
longer C m later goes = let (more, is) = begins_with C m later goes in let n = ap (λ (cs : List Change). length cs) is ∙ length-append m.commits more in omega (arith, n)

-- the tree has the rows
has_rows : (C : ℕ) (a : ArenaView) (h : History) → HasRowsOf C a h → ((key : List ℕ) (row : Row) → get (rows C (moment h)) key ≡ Some row → AreBytes key) → HasRows (arena_seen a) (rows C (moment h))
has_rows C a h content keys = record {
  each = λ key row. (
    (λ is. let bytes = keys key row is in (bytes, (content key bytes row).1 is)),
    (λ has. (content key has.0 row).0 has.1),
  );
}

-- if the tree has no row at a key, there is none by the history
pub lacks_now : (C : ℕ) (a : ArenaView) (h : History) → HasRowsOf C a h → (key : List ℕ) → AreBytes key → ((row : Row) → HasRow a key row → ⊥) → Lacks C key (moment h)
lacks_now C a h content key bytes lacks = none (get (rows C (moment h)) key) refl
  where
    none : (there : Option Row) → get (rows C (moment h)) key ≡ there → get (rows C (moment h)) key ≡ None
    none None e = e
    none (Some row) e = absurd (lacks row ((content key bytes row).1 e))

-- more happens, and neither the tree nor the commits change
pub past_later : (C began from : ℕ) (x : Happening) (h : History) (arenas : List Arena) → (moment (x ∷ h)).commits ≡ (moment h).commits → IsPast C began from h arenas → IsPast C began from (x ∷ h) arenas
past_later C began from x h arenas same past = record {
  stood = λ asked key row bytes stood. inr (past.stood asked key row bytes stood);
  lacked = λ key bytes lacked. inr (past.lacked key bytes lacked);
  throughout = λ key bytes there. past.throughout key bytes there.1;
  earlier = past.earlier;
  had = subst (λ (cs : List Change). HadRows arenas (after C cs ∷ past.earlier)) (sym same) past.had;
  goes = subst (λ (cs : List Change). GoesBy (after C cs ∷ past.earlier) (drop from (deltas_of C cs))) (sym same) past.goes;
  reached = subst (λ (cs : List Change). from ≤ length cs) (sym same) past.reached;
}

some_row : (o : Option Row) → IsSome o → (row : Row) × (o ≡ Some row)
some_row (Some row) there = (row, refl)
some_row None there = absurd (let clash : false ≡ true = there in cc)

-- one moment more
pub past_more : (C began from : ℕ) (x : Happening) (h : History) (a : ArenaView) (arenas : List Arena) → began ≤ length (x ∷ h) → HasRowsOf C a (x ∷ h) → ((key : List ℕ) (row : Row) → get (rows C (moment (x ∷ h))) key ≡ Some row → AreBytes key)
    → Grows C (moment h) (moment (x ∷ h)) → IsPast C began from h arenas → IsPast C began from (x ∷ h) (arena_seen a ∷ arenas)
past_more C began from x h a arenas before content keys goes past = record {
  stood = λ asked key row bytes stood. elim stood [
    | inl now ↦ inl (before, (now.0, (content key bytes now.0).0 now.1, sym now.2))
    | inr then ↦ inr (past.stood asked key row bytes then)
  ];
  lacked = λ key bytes lacked. elim lacked [
    | inl now ↦ inl (before, lacks_now C a (x ∷ h) content key bytes now)
    | inr then ↦ inr (past.lacked key bytes then)
  ];
  throughout = λ key bytes there.
      let (row, is) = some_row _ (there.0 before) in
      ((row, (content key bytes row).1 is), past.throughout key bytes there.1);
  earlier = rows C (moment h) ∷ past.earlier;
  had = (has_rows C a (x ∷ h) content keys, past.had);
  goes = elim goes [
    | inl same ↦ inl (ap (after C) same, subst (λ (cs : List Change). GoesBy (rows C (moment h) ∷ past.earlier) (drop from (deltas_of C cs))) (sym same) past.goes)
    | inr one ↦ inr (
      drop from (deltas_of C (moment h).commits),
      one.delta,
      ap (drop from) one.deltas ∙ drop-append-le from (deltas_of C (moment h).commits) (one.delta ∷ []) (let n = deltas_of-length C (moment h).commits in let r = past.reached in omega (arith, n, r)),
      one.made,
      past.goes,
    )
  ];
  reached = let more = longer C (moment h) (moment (x ∷ h)) goes in let r = past.reached in omega (arith, more, r);
}

-- a call that begins
pub past_new : (C : ℕ) (x : Happening) (h : History) (a : ArenaView) → HasRowsOf C a (x ∷ h) → ((key : List ℕ) (row : Row) → get (rows C (moment (x ∷ h))) key ≡ Some row → AreBytes key) → IsPast C (length h) (length (moment (x ∷ h)).commits) (x ∷ h) (arena_seen a ∷ [])
past_new C x h a content keys = record {
  stood = λ asked key row bytes stood. elim stood [
    | inl now ↦ inl (omega arith, (now.0, (content key bytes now.0).0 now.1, sym now.2))
    | inr then ↦ elim then [ ]
  ];
  lacked = λ key bytes lacked. elim lacked [
    | inl now ↦ inl (omega arith, lacks_now C a (x ∷ h) content key bytes now)
    | inr then ↦ elim then [ ]
  ];
  throughout = λ key bytes there.
      let (row, is) = some_row _ (there.0 (omega arith)) in
      ((row, (content key bytes row).1 is), tt);
  earlier = [];
  had = (has_rows C a (x ∷ h) content keys, tt);
  goes = drop_all (length (moment (x ∷ h)).commits) (deltas_of C (moment (x ∷ h)).commits) (let n = deltas_of-length C (moment (x ∷ h)).commits in omega (arith, n));
  reached = omega arith;
}

all_stood : (C began from : ℕ) (h : History) (arenas : List Arena) (asked : List ℕ) → IsPast C began from h arenas → (pairs : List (List ℕ × Row)) → KeysAreBytes pairs → All (λ pair. Stood (shown asked) arenas (place_of pair.0) pair.1) pairs
    → All (λ pair. Sometime began (Shows C pair.0 asked pair.1) h) pairs
all_stood C began from h arenas asked past [] bytes all = All-nil (λ (pair : List ℕ × Row). Sometime began (Shows C pair.0 asked pair.1) h)
all_stood C began from h arenas asked past (pair ∷ pairs) bytes all =
    All-cons (λ (pair : List ℕ × Row). Sometime began (Shows C pair.0 asked pair.1) h) pair pairs
    (past.stood asked pair.0 pair.1 bytes.0 (All-head (λ (pair : List ℕ × Row). Stood (shown asked) arenas (place_of pair.0) pair.1) pair pairs all))
    (all_stood C began from h arenas asked past pairs bytes.1 (All-tail (λ (pair : List ℕ × Row). Stood (shown asked) arenas (place_of pair.0) pair.1) pair pairs all))

-- the answer of a range, by the arenas of its moments, is right by the history
pub right_range : (C began from : ℕ) (h : History) (arenas : List Arena) (start asked : List ℕ) (limit : ℕ) (pairs : List (List ℕ × Row)) → began ≤ length h → IsPast C began from h arenas
    → ((key : List ℕ) (row : Row) → get (rows C (moment h)) key ≡ Some row → AreBytes key) → IsRangeOf arenas start asked limit pairs → RightRange C began h start asked limit pairs
right_range C began from h arenas start asked limit pairs before past keys is = record {
  rises = is.answers.rises;
  from_start = is.answers.from_start;
  few = is.answers.few;
  stood = all_stood C began from h arenas asked past pairs is.bytes is.answers.stood;
  once = λ key from there within.
      let (row, now) = some_row _ (Throughout-here began (IsThere C key) h before there) in
      let bytes = keys key row now in
      is.answers.once key from (bytes, past.throughout key bytes there) within;
}
