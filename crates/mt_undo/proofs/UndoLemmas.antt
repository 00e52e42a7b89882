-- The last put of a tree and its log, and what they are without it.
use Rattle.std.proofs.Common.{◌≡◌, ◌≢◌, ◌<◌, ◌≤◌, ◌+◌, ◌-◌, ◌⊎◌, ℕ, suc, Bool, true, false, cond, List, [], ◌∷◌, ◌++◌, length, drop, Some, refl, sym, ap, subst, ◌∙◌, inl, inr, arith, length-append}
use Rattle.std.specs.Prelude.{◌↔◌, All}
use Rattle.std.specs.FinMap.{get}
use Rattle.std.specs.List.{AllByRecursion}
use Rattle.std.specs.Ordering.{eq_by_cmp, is_eq}
use Rattle.std.specs.declared.cmp.Ordering.{Ordering}
use Rattle.std.specs.declared.cmp.Ordering.TheVariants.{Less, Equal, Greater}
use Rattle.std.proofs.lemmas.Bool.{false≢true}
use Rattle.std.proofs.lemmas.Cmp.{tied_itself}
use Rattle.std.proofs.lemmas.List.{append_assoc, append-nil, drop-append-le}
use Rattle.mt_types.specs.Keys.{key_cmp}
use Rattle.mt_types.specs.Rows.{Rows, after}
use Rattle.mt_types.specs.declared.row.Row.{Row}
use Rattle.mt_types.specs.declared.row.Delta.{Delta}
use Rattle.mt_types.specs.declared.row.Change.{Change}
use Rattle.mt_types.specs.declared.row.Change.TheVariants.{Put, Drop}
use Rattle.mt_types.proofs.MapLemmas.{key_apart, key_order}
use Rattle.mt_promise.proofs.HistoryLemmas.{after-append}
use Rattle.mt_slice.specs.Place.{AreBytes}
use Rattle.mt_commit.specs.Log.{LogView, newest}
use Rattle.mt_commit.specs.Deltas.{with_row}
use Rattle.mt_commit.specs.Logged.{delta_made, deltas_of}
use Rattle.mt_commit.proofs.DeltaLemmas.{deltas_of-append, deltas_of-length, redone, get-row_put}
use Rattle.mt_commit.proofs.RowLemmas.{get-with_row}
use Rattle.mt_arena.specs.Arena.{ArenaView}
use Rattle.mt_tree.specs.Seen.{HasRow}
use Rattle.mt_steps.specs.Lone.{IsLoneTree}
use Rattle.mt_steps.specs.Step.{RowIs}
use Rattle.mt_undo.specs.Taking.{IsTakenBack}
use Rattle.mt_undo.specs.Undoing.{CanGoBack, GoesBack, HaveGoneBack, HaveMade, HasRowsAfter, IsPut}

-- ---- lists whose last is named
tail_of : {A : Type 0} → List A → List A
tail_of [] = []
tail_of (x ∷ xs) = xs

pub same_last : {A : Type 0} (xs ys : List A) (x y : A) → xs ++ x ∷ [] ≡ ys ++ y ∷ [] → (xs ≡ ys) × (x ≡ y)
unfolding tail_of
same_last [] [] x y e = (refl, cc)
same_last [] (b ∷ ys) x y e = absurd (let long = ap length e ∙ ap (λ (n : ℕ). suc n) (length-append ys (y ∷ [])) in omega (arith, long))
same_last (a ∷ xs) [] x y e = absurd (let long = sym (ap (λ (n : ℕ). suc n) (length-append xs (x ∷ []))) ∙ ap length e in omega (arith, long))
same_last (a ∷ xs) (b ∷ ys) x y e =
    let (rest, same) = same_last xs ys x y (ap tail_of e) in
    let first : a ≡ b = cc in
    (ap (λ (l : List _). a ∷ l) rest ∙ ap (λ z. z ∷ ys) first, same)

-- ---- keys that are the same or not
itself : (key : List ℕ) → eq_by_cmp key_cmp key key ≡ true
itself key = ap is_eq (tied_itself key_order key)

equal_then : (o : Ordering) → is_eq o ≡ true → o ≡ Equal
equal_then Less e = absurd (cc)
equal_then Equal e = refl
equal_then Greater e = absurd (cc)

pub same_or_not : (q key : List ℕ) → (q ≡ key) ⊎ ((eq_by_cmp key_cmp q key ≡ false) × (q ≢ key))
same_or_not q key = elim (eq_by_cmp key_cmp q key) as (λ b. eq_by_cmp key_cmp q key ≡ b → (q ≡ key) ⊎ ((b ≡ false) × (q ≢ key))) [
  | true ↦ λ e. inl (key_apart q key (equal_then (key_cmp q key) e))
  | false ↦ λ e. inr (refl, λ same. false≢true (sym e ∙ ap (λ (k : List ℕ). eq_by_cmp key_cmp k key) same ∙ itself key))
] refl

-- ---- a change more or less
module _ (C : ℕ) (changes : List Change) (last : Change) where
  abbrev pub number : ℕ
  number = length changes + 1

  abbrev pub delta : Delta
  delta = delta_made C number last (after C changes)

  pub rows_more : after C (changes ++ last ∷ []) ≡ with_row delta.key delta.after (after C changes)
  rows_more = after-append C changes last ∙ redone C number last (after C changes)

  pub own_more : get (after C (changes ++ last ∷ [])) delta.key ≡ delta.after
  own_more = ap (λ (rs : Rows). get rs delta.key) rows_more ∙ get-row_put delta.key delta.after (after C changes)

  pub other_more : (q : List ℕ) → eq_by_cmp key_cmp q delta.key ≡ false → get (after C (changes ++ last ∷ [])) q ≡ get (after C changes) q
  other_more q apart =
      ap (λ (rs : Rows). get rs q) rows_more ∙ get-with_row delta.key delta.after (after C changes) q
      ∙ ap (λ (b : Bool). cond b delta.after (get (after C changes) q)) apart

  -- the deltas of one change more, in a log that has trimmed none of the last
  pub deltas_more : (held : ℕ) → held ≤ length changes → drop held (deltas_of C (changes ++ last ∷ [])) ≡ drop held (deltas_of C changes) ++ delta ∷ []
  deltas_more held within =
      ap (λ (ds : List Delta). drop held ds) (deltas_of-append C changes last)
      ∙ drop-append-le held (deltas_of C changes) (delta ∷ []) (let many = deltas_of-length C changes in omega (arith, within, many))

  -- the tree has the rows after the others if the key's row is that before, and each other key's row is as it was
  pub rows_back : (a after_tree : ArenaView) → HasRowsAfter C (changes ++ last ∷ []) a → RowIs after_tree delta.key delta.before
      → ((other : List ℕ) → AreBytes other → other ≢ delta.key → (row : Row) → HasRow after_tree other row ↔ HasRow a other row)
      → HasRowsAfter C changes after_tree
  rows_back a after_tree has own others q bytes row = elim (same_or_not q delta.key) [
    | inl same ↦ subst (λ (k : List ℕ). HasRow after_tree k row ↔ (get (after C changes) k ≡ Some row)) (sym same) (own row)
    | inr apart ↦ (
      (λ there. sym (other_more q apart.0) ∙ (has q bytes row).0 ((others q bytes apart.1 row).0 there)),
      (λ is. (others q bytes apart.1 row).1 ((has q bytes row).1 (other_more q apart.0 ∙ is))),
    )
  ]

  -- and the other way round
  pub rows_on : (a after_tree : ArenaView) → HasRowsAfter C changes a → RowIs after_tree delta.key delta.after
      → ((other : List ℕ) → AreBytes other → other ≢ delta.key → (row : Row) → HasRow after_tree other row ↔ HasRow a other row)
      → HasRowsAfter C (changes ++ last ∷ []) after_tree
  rows_on a after_tree has own others q bytes row = elim (same_or_not q delta.key) [
    | inl same ↦ (
      (λ there. ap (get (after C (changes ++ last ∷ []))) same ∙ own_more ∙ (own row).0 (subst (λ (k : List ℕ). HasRow after_tree k row) same there)),
      (λ is. subst (λ (k : List ℕ). HasRow after_tree k row) (sym same) ((own row).1 (sym own_more ∙ ap (get (after C (changes ++ last ∷ []))) (sym same) ∙ is))),
    )
    | inr apart ↦ (
      (λ there. other_more q apart.0 ∙ (has q bytes row).0 ((others q bytes apart.1 row).0 there)),
      (λ is. (others q bytes apart.1 row).1 ((has q bytes row).1 (sym (other_more q apart.0) ∙ is))),
    )
  ]

-- a put leaves a row
pub put_leaves : (C n : ℕ) (change : Change) (rows : Rows) → IsPut change → (row : Row) × ((delta_made C n change rows).after ≡ Some row)
put_leaves C n (Put key sets) rows is = (_, get-row_put key (Some _) rows)
put_leaves C n (Drop key) rows is = absurd is

-- ---- the last put is taken back
all_first : (xs : List Change) (x : Change) → AllByRecursion IsPut (xs ++ x ∷ []) → AllByRecursion IsPut xs × IsPut x
all_first [] x all = (tt, all.0)
all_first (y ∷ xs) x all = let (rest, last) = all_first xs x all.1 in ((all.0, rest), last)

module _ (C : ℕ) (first puts : List Change) (last : Change) (commits rows : ℕ) (a : ArenaView) (log : LogView) (can : CanGoBack C first (puts ++ last ∷ []) commits rows a log)
    (left : LogView) (taken : Delta) (split : log.deltas ≡ left.deltas ++ taken ∷ []) (same : left ≡ record log { deltas = left.deltas; rows = rows }) where
  abbrev changes : List Change
  changes = first ++ puts

  apart : first ++ (puts ++ last ∷ []) ≡ changes ++ last ∷ []
  apart = sym (append_assoc first puts (last ∷ []))

  has : HasRowsAfter C (changes ++ last ∷ []) a
  has = subst (λ (cs : List Change). HasRowsAfter C cs a) apart can.made.rows

  within : log.held_after ≤ length changes
  within = let long = length-append first puts in let held = can.held in let many = can.many in omega (arith, long, held, many)

  both : (left.deltas ≡ drop log.held_after (deltas_of C changes)) × (taken ≡ delta C changes last)
  both = same_last left.deltas _ taken (delta C changes last)
      (sym split ∙ can.made.logged ∙ ap (λ (cs : List Change). drop log.held_after (deltas_of C cs)) apart ∙ deltas_more C changes last log.held_after within)

  pub has_its_row : AreBytes taken.key → (row : Row) × RowIs a taken.key (Some row)
  has_its_row bytes =
      let (row, leaves) = put_leaves C (number C changes last) last (after C changes) (all_first puts last can.are_puts).1 in
      let found : get (after C (changes ++ last ∷ [])) taken.key ≡ Some row = ap (λ (d : Delta). get (after C (changes ++ last ∷ [])) d.key) both.1 ∙ own_more C changes last ∙ leaves in
      (row, λ other. ((λ there. sym found ∙ (has taken.key bytes other).0 there), (λ is. (has taken.key bytes other).1 (found ∙ is))))

  pub goes_back : (now : ℕ) (after_tree : ArenaView) → IsTakenBack a taken.key taken.before now after_tree → GoesBack C first puts commits rows now log after_tree left
  goes_back now after_tree back =
      let its = subst (λ (d : Delta). IsTakenBack a d.key d.before now after_tree) both.1 back in
      let held : left.held_after ≡ log.held_after = ap (λ (l : LogView). l.held_after) same in
      let base : left.base ≡ log.base = ap (λ (l : LogView). l.base) same in
      let long = ap length split ∙ length-append left.deltas (taken ∷ []) in
      let many = ap length apart ∙ length-append changes (last ∷ []) in
      let newest_was = can.made.newest in
      record {
        lone = its.lone;
        same_now = its.same_now;
        can = record {
          made = record {
            rows = rows_back C changes last a after_tree has its.own its.others;
            logged = both.0 ∙ ap (λ (n : ℕ). drop n (deltas_of C changes)) (sym held);
            newest = omega (arith, held, long, many, newest_was);
          };
          are_puts = (all_first puts last can.are_puts).0;
          many = can.many;
          held = let within = can.held in omega (arith, held, within);
          keeps = base ∙ can.keeps ∙ sym held;
          holders = subst (λ (l : LogView). All (λ holder. holder ≤ commits) l.holders) (sym same) can.holders;
          few = can.few;
          counted = λ none. ap (λ (l : LogView). l.rows) same;
        };
        same_log = same;
      }

-- ---- one after the other
pub record GoingBack (C : ℕ) (first : List Change) (commits rows now : ℕ) (log : LogView) (a : ArenaView) (left : LogView) : Type 0 where
  pub puts : List Change
  pub lone : IsLoneTree a
  pub same_now : lone.now ≡ now
  pub can : CanGoBack C first puts commits rows a left
  pub same_log : left ≡ record log { deltas = left.deltas; rows = left.rows }

-- so it is whatever the caller knows of the first changes
abbrev pub AllGoBack : ℕ → ℕ → ArenaView → LogView → ArenaView → LogView → Type 0
AllGoBack commits rows a log after_tree left =
    (lone : IsLoneTree a) (C : ℕ) (first puts : List Change) → CanGoBack C first puts commits rows a log → GoingBack C first commits rows lone.now log after_tree left

pub snoc : (cs : List Change) → (cs ≡ []) ⊎ ((init : List Change) × (c : Change) × (cs ≡ init ++ c ∷ []))
snoc [] = inl refl
snoc (c ∷ cs) = elim (snoc cs) [
  | inl none ↦ inr ([], c, ap (λ (l : List Change). c ∷ l) none)
  | inr (init, last, is) ↦ inr (c ∷ init, last, ap (λ (l : List Change). c ∷ l) is)
]

-- there is a last put as long as there are more commits
pub has_last : (C : ℕ) (first puts : List Change) (commits rows : ℕ) (a : ArenaView) (log : LogView) → CanGoBack C first puts commits rows a log → commits < newest log → (init : List Change) × (last : Change) × (puts ≡ init ++ last ∷ [])
has_last C first puts commits rows a log can more = elim (snoc puts) [
  | inl none ↦ (
      let long = can.made.newest ∙ length-append first puts in
      let many = can.many in
      let few = ap length none in
      absurd (omega (arith, more, long, many, few)))
  | inr found ↦ found
]

pub gone_back : (C : ℕ) (first : List Change) (commits rows now : ℕ) (log : LogView) (a : ArenaView) (left : LogView) → GoingBack C first commits rows now log a left → newest left ≤ commits → HaveGoneBack C first rows now log a left
gone_back C first commits rows now log a left g done =
    let none : g.puts ≡ [] = elim (snoc g.puts) [
      | inl none ↦ none
      | inr (init, last, is) ↦ (
          let long = g.can.made.newest ∙ length-append first g.puts in
          let more = ap length is ∙ length-append init (last ∷ []) in
          let many = g.can.many in
          absurd (omega (arith, done, long, more, many)))
    ] in
    let all : first ++ g.puts ≡ first = ap (λ (l : List Change). first ++ l) none ∙ append-nil first in
    record {
      lone = g.lone;
      same_now = g.same_now;
      made = subst (λ (cs : List Change). HaveMade C cs a left) all g.can.made;
      same_log = g.same_log ∙ ap (λ (n : ℕ). record log { deltas = left.deltas; rows = n }) (g.can.counted none);
    }

pub further_back : (C : ℕ) (first : List Change) (commits rows now : ℕ) (log : LogView) (a b : ArenaView) (left next : LogView) → (g : GoingBack C first commits rows now log a left)
    → ((init : List Change) (last : Change) → CanGoBack C first (init ++ last ∷ []) commits rows a left → GoesBack C first init commits rows g.lone.now left b next) → commits < newest left
    → GoingBack C first commits rows now log b next
further_back C first commits rows now log a b left next g goes more =
    let (init, last, is) = has_last C first g.puts commits rows a left g.can more in
    let step = goes init last (subst (λ (cs : List Change). CanGoBack C first cs commits rows a left) is g.can) in
    let rows_are : next.rows ≡ rows = ap (λ (l : LogView). l.rows) step.same_log in
    record {
      puts = init;
      lone = step.lone;
      same_now = step.same_now ∙ g.same_now;
      can = step.can;
      same_log = step.same_log ∙ ap (λ (l : LogView). record l { deltas = next.deltas; rows = rows }) g.same_log
          ∙ ap (λ (n : ℕ). record log { deltas = next.deltas; rows = n }) (sym rows_are);
    }

pub falls_back : (C : ℕ) (first : List Change) (commits rows now : ℕ) (log : LogView) (a b : ArenaView) (left next : LogView) → (g : GoingBack C first commits rows now log a left)
    → ((init : List Change) (last : Change) → CanGoBack C first (init ++ last ∷ []) commits rows a left → GoesBack C first init commits rows g.lone.now left b next) → commits < newest left
    → newest next - commits < newest left - commits
falls_back C first commits rows now log a b left next g goes more =
    let (init, last, is) = has_last C first g.puts commits rows a left g.can more in
    let step = goes init last (subst (λ (cs : List Change). CanGoBack C first cs commits rows a left) is g.can) in
    let one = ap length is ∙ length-append init (last ∷ []) in
    let before = g.can.made.newest ∙ length-append first g.puts in
    let then_newest = step.can.made.newest ∙ length-append first init in
    omega (arith, more, one, before, then_newest)
