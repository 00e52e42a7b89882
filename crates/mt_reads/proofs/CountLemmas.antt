-- How many rows a walk counts, from a key on and before a bound.
use Rattle.std.proofs.Common.{ℕ, ◌≡◌, ◌+◌, ◌≤◌, ◌⊎◌, inl, inr, Bool, true, false, ◌&&◌, cond, List, [], ◌∷◌, ◌++◌, length, filter, refl, sym, ap, subst, ◌∙◌, arith}
use Rattle.std.specs.Prelude.{Option, Some, None, T, min}
use Rattle.std.specs.Cmp.{first_so, second_so}
use Rattle.std.specs.List.{AllByRecursion}
use Rattle.std.specs.Ordering.{eq_by_cmp, is_eq, is_ge, is_lt, ordering_reverse}
use Rattle.std.specs.declared.cmp.Ordering.{Ordering}
use Rattle.std.specs.declared.cmp.Ordering.TheVariants.{Less, Equal, Greater}
use Rattle.std.specs.FinMap as fin
use Rattle.std.specs.FinMap.{get, entries, is_sorted}
use Rattle.std.specs.FinMap.Entries.{find, below_all}
use Rattle.std.proofs.lemmas.Bool.{false≢true}
use Rattle.std.proofs.lemmas.Cmp.{tied_itself}
use Rattle.std.proofs.lemmas.List.{append_assoc, length-append}
use Rattle.std.proofs.lemmas.List.Elements.{filter-append}
use Rattle.mt_types.specs.Keys.{key_cmp}
use Rattle.mt_types.specs.Rows.{Rows}
use Rattle.mt_types.specs.Views.{belongs, is_before}
use Rattle.mt_types.specs.declared.row.Row.{Row}
use Rattle.mt_types.specs.declared.view.RowTest.TheVariants.{Any}
use Rattle.mt_types.specs.declared.view.ViewSpec.TheVariants.{Range}
use Rattle.mt_types.proofs.MapLemmas.{key_order, key_apart}
use Rattle.mt_promise.specs.History.{History, moment, rows}
use Rattle.mt_index.specs.Stands.{MachineView, Stands}
use Rattle.mt_reads.specs.Walks.{At, IsAfter, IsToCome, GivesNext, RowsView}
use Rattle.mt_reads.specs.Back.{IsBefore}
use Rattle.mt_reads.specs.Counts.{count_of}
use Rattle.mt_reads.proofs.BackLemmas.{three, not_after, not_itself, past_end}
use Rattle.mt_reads.proofs.Ranges.{at_or_after, comes_later}

abbrev Entries : Type 0
Entries = List (List ℕ × Row)

-- ---- the entries of a map in the order of their keys
-- a key is among them with this row
abbrev Has : List ℕ → Row → Entries → Type 0
Has key row [] = ⊥
Has key row (e ∷ es) = (e ≡ (key, row)) ⊎ Has key row es

abbrev Less_all : List ℕ → Entries → Type 0
Less_all key es = AllByRecursion (λ e. key_cmp key e.0 ≡ Less) es

less_of : (o : Ordering) → is_lt o ≡ true → o ≡ Less
less_of Less e = refl
less_of Equal e = absurd (false≢true e)
less_of Greater e = absurd (false≢true e)

equal_of : (o : Ordering) → is_eq o ≡ true → o ≡ Equal
equal_of Less e = absurd (false≢true e)
equal_of Equal e = refl
equal_of Greater e = absurd (false≢true e)

less_all : (key : List ℕ) (es : Entries) → below_all key_cmp key es ≡ true → Less_all key es
less_all key [] below = tt
less_all key (e ∷ es) below = (
  less_of (key_cmp key e.0) (first_so (is_lt (key_cmp key e.0)) (below_all key_cmp key es) below),
  less_all key es (second_so (is_lt (key_cmp key e.0)) (below_all key_cmp key es) below),
)

is_true : (b : Bool) → T b → b ≡ true
is_true true so = refl
is_true false so = absurd so

-- of what is among them something is true that is true of each
of_each : (P : List ℕ × Row → Type 0) (key : List ℕ) (row : Row) (es : Entries) → AllByRecursion P es → Has key row es → P (key, row)
of_each P key row [] all has = absurd has
of_each P key row (e ∷ es) all (inl is) = subst P is all.0
of_each P key row (e ∷ es) all (inr has) = of_each P key row es all.1 has

each_of : (P Q : List ℕ × Row → Type 0) (es : Entries) → ((e : List ℕ × Row) → P e → Q e) → AllByRecursion P es → AllByRecursion Q es
each_of P Q [] weaker all = tt
each_of P Q (e ∷ es) weaker all = (weaker e all.0, each_of P Q es weaker all.1)

found : (key : List ℕ) (row : Row) (es : Entries) → find key_cmp key es ≡ Some row → Has key row es
found key row [] is = absurd (let clash : ◌≡◌ {A = Option Row} None (Some row) = is in cc)
found key row (e ∷ es) is = go (eq_by_cmp key_cmp key e.0) refl (found key row es)
  where
    go : (b : Bool) → eq_by_cmp key_cmp key e.0 ≡ b → (find key_cmp key es ≡ Some row → Has key row es) → Has key row (e ∷ es)
    go true tied later =
        let same : e.0 ≡ key = sym (key_apart key e.0 (equal_of (key_cmp key e.0) tied)) in
        let its : ◌≡◌ {A = Option Row} (Some e.1) (Some row) = sym (ap (λ (b : Bool). cond b (Some e.1) (find key_cmp key es)) tied) ∙ is in
        let its_row : e.1 ≡ row = cc in
        inl (λ i. (same i, its_row i))
    go false other later = inr (later (sym (ap (λ (b : Bool). cond b (Some e.1) (find key_cmp key es)) other) ∙ is))

there : (key : List ℕ) (row : Row) (es : Entries) → is_sorted key_cmp es ≡ true → Has key row es → find key_cmp key es ≡ Some row
there key row [] sorted has = absurd has
there key row (e ∷ es) sorted (inl is) =
    let tied : eq_by_cmp key_cmp key e.0 ≡ true = ap (λ (p : List ℕ × Row). is_eq (key_cmp key p.0)) is ∙ ap is_eq (tied_itself key_order key) in
    ap (λ (b : Bool). cond b (Some e.1) (find key_cmp key es)) tied ∙ ap (λ (p : List ℕ × Row). Some p.1) is
there key row (e ∷ es) sorted (inr has) =
    let less : key_cmp e.0 key ≡ Less = of_each (λ p. key_cmp e.0 p.0 ≡ Less) key row es (less_all e.0 es (first_so (below_all key_cmp e.0 es) (is_sorted key_cmp es) sorted)) has in
    let other : eq_by_cmp key_cmp key e.0 ≡ false = ap is_eq (key_order.antisymm key e.0 ∙ ap ordering_reverse less) in
    ap (λ (b : Bool). cond b (Some e.1) (find key_cmp key es)) other
    ∙ there key row es (second_so (below_all key_cmp e.0 es) (is_sorted key_cmp es) sorted) has

has_either : (key : List ℕ) (row : Row) (es fs : Entries) → Has key row (es ++ fs) → Has key row es ⊎ Has key row fs
has_either key row [] fs has = inr has
has_either key row (e ∷ es) fs (inl is) = inl (inl is)
has_either key row (e ∷ es) fs (inr has) = elim (has_either key row es fs has) [
  | inl front ↦ inl (inr front)
  | inr back ↦ inr back
]

has_first : (e : List ℕ × Row) (es fs : Entries) → Has e.0 e.1 (es ++ e ∷ fs)
has_first e [] fs = inl refl
has_first e (f ∷ es) fs = inr (has_first e es fs)

sorted_end : (es fs : Entries) → is_sorted key_cmp (es ++ fs) ≡ true → is_sorted key_cmp fs ≡ true
sorted_end [] fs sorted = sorted
sorted_end (e ∷ es) fs sorted = sorted_end es fs (second_so (below_all key_cmp e.0 (es ++ fs)) (is_sorted key_cmp (es ++ fs)) sorted)

filter_none : (p : List ℕ × Row → Bool) (es : Entries) → AllByRecursion (λ e. p e ≡ false) es → length (filter p es) ≡ 0
filter_none p [] none = refl
filter_none p (e ∷ es) none = ap (λ (b : Bool). length (cond b (e ∷ filter p es) (filter p es))) none.0 ∙ filter_none p es none.1

filter_one : (p : List ℕ × Row → Bool) (e : List ℕ × Row) → p e ≡ true → length (filter p (e ∷ [])) ≡ 1
filter_one p e is = ap (λ (b : Bool). length (cond b (e ∷ []) [])) is

-- ---- which belong to a range
module _ (map : Rows) (from : List ℕ) (to : Option (List ℕ)) where
  abbrev within : List ℕ × Row → Bool
  within = belongs (Range from to Any)

  before_it : (bound : Option (List ℕ)) (key : List ℕ) → IsBefore bound key → is_before key bound ≡ true
  before_it None key before = refl
  before_it (Some end) key before = ap is_lt before

  not_before_it : (bound : Option (List ℕ)) (key : List ℕ) → (IsBefore bound key → ⊥) → is_before key bound ≡ false
  not_before_it None key not = absurd (not tt)
  not_before_it (Some end) key not = go (is_lt (key_cmp key end)) refl
    where
      go : (b : Bool) → is_lt (key_cmp key end) ≡ b → is_lt (key_cmp key end) ≡ false
      go true is = absurd (not (less_of (key_cmp key end) is))
      go false is = is

  all_three : (a b : Bool) → a ≡ true → b ≡ true → (a && b && true) ≡ true
  all_three a b one other = ap (λ (x : Bool). x && b && true) one ∙ ap (λ (x : Bool). true && x && true) other

  not_second : (a b : Bool) → b ≡ false → (a && b && true) ≡ false
  not_second true b is = ap (λ (x : Bool). true && x && true) is
  not_second false b is = refl

  is_within : (e : List ℕ × Row) → is_ge (key_cmp e.0 from) ≡ true → IsBefore to e.0 → within e ≡ true
  is_within e ge before = all_three (is_ge (key_cmp e.0 from)) (is_before e.0 to) ge (before_it to e.0 before)

  is_past : (e : List ℕ × Row) → (IsBefore to e.0 → ⊥) → within e ≡ false
  is_past e not = not_second (is_ge (key_cmp e.0 from)) (is_before e.0 to) (not_before_it to e.0 not)

  is_early : (e : List ℕ × Row) → key_cmp e.0 from ≡ Less → within e ≡ false
  is_early e less = ap (λ (o : Ordering). is_ge o && is_before e.0 to && true) less

  -- ---- the entries of the map: those that a walk has passed, of which this many belong, and those to come
  pub record IsParted (es : Entries) (at : At) (many : ℕ) : Type 0 where
    pub passed : Entries
    pub left : Entries
    pub are : es ≡ passed ++ left
    pub behind : AllByRecursion (λ e. IsToCome at e.0 → ⊥) passed
    pub ahead : AllByRecursion (λ e. IsToCome at e.0) left
    pub many_belong : length (filter within passed) ≡ many
    pub from_start : (key : List ℕ) → IsToCome at key → is_ge (key_cmp key from) ≡ true

  begins : (es : Entries) → is_sorted key_cmp es ≡ true → IsParted es (record { key = from; given = false }) 0
  begins [] sorted = record {
    passed = [];
    left = [];
    are = refl;
    behind = tt;
    ahead = tt;
    many_belong = refl;
    from_start = at_or_after from;
  }
  begins (e ∷ es) sorted = go (three e.0 from) (begins es (second_so (below_all key_cmp e.0 es) (is_sorted key_cmp es) sorted))
    where
      go : (key_cmp e.0 from ≡ Less) ⊎ IsAfter from false e.0 → IsParted es (record { key = from; given = false }) 0 → IsParted (e ∷ es) (record { key = from; given = false }) 0
      go (inl less) p = record {
        passed = e ∷ p.passed;
        left = p.left;
        are = ap (λ (k : Entries). e ∷ k) p.are;
        behind = ((λ after. not_after from e.0 after less), p.behind);
        ahead = p.ahead;
        many_belong = ap (λ (b : Bool). length (cond b (e ∷ filter within p.passed) (filter within p.passed))) (is_early e less) ∙ p.many_belong;
        from_start = at_or_after from;
      }
      go (inr here) p = record {
        passed = [];
        left = e ∷ es;
        are = refl;
        behind = tt;
        ahead = (
          here,
          each_of (λ f. key_cmp e.0 f.0 ≡ Less) (λ f. IsAfter from false f.0) es (λ f less. comes_later from false e.0 f.0 here less)
              (less_all e.0 es (first_so (below_all key_cmp e.0 es) (is_sorted key_cmp es) sorted)),
        );
        many_belong = refl;
        from_start = at_or_after from;
      }

  module _ (es : Entries) (sorted : is_sorted key_cmp es ≡ true) (at new : At) (many : ℕ) (p : IsParted es at many) where
    -- each of those to come has its row
    has_row : (es ≡ entries map) → (e : List ℕ × Row) (fore aft : Entries) → p.left ≡ fore ++ e ∷ aft → get map e.0 ≡ Some e.1
    has_row are e fore aft is =
        let whole : es ≡ (p.passed ++ fore) ++ e ∷ aft = p.are ∙ ap (λ (k : Entries). p.passed ++ k) is ∙ sym (append_assoc p.passed fore (e ∷ aft)) in
        fin.get-entries map e.0 ∙ ap (find key_cmp e.0) (sym are)
        ∙ there e.0 e.1 es sorted (subst (Has e.0 e.1) (sym whole) (has_first e (p.passed ++ fore) aft))

    -- the first of those to come is the row that the walk returns next
    pub goes : (es ≡ entries map) → (row : Row) → GivesNext map at (Some row) new → IsBefore to new.key → IsParted es new (many + 1)
    goes are row (given, has, comes, least) before = by_left p.left refl
      where
        among : Has new.key row (p.passed ++ p.left)
        among = subst (Has new.key row) p.are (found new.key row es (ap (find key_cmp new.key) are ∙ sym (fin.get-entries map new.key) ∙ has))

        to_come : Has new.key row p.left
        to_come = elim (has_either new.key row p.passed p.left among) [
          | inl front ↦ absurd (of_each (λ e. IsToCome at e.0 → ⊥) new.key row p.passed p.behind front comes)
          | inr back ↦ back
        ]

        later : (key : List ℕ) → IsToCome new key → key_cmp new.key key ≡ Less
        later key more = subst (λ (b : Bool). IsAfter new.key b key) given more

        by_left : (left : Entries) → p.left ≡ left → IsParted es new (many + 1)
        by_left [] none = absurd (subst (Has new.key row) none to_come)
        by_left (b ∷ bs) is = record {
          passed = p.passed ++ b ∷ [];
          left = bs;
          are = p.are ∙ ap (λ (k : Entries). p.passed ++ k) is ∙ sym (append_assoc p.passed (b ∷ []) bs);
          behind = all_push p.passed (each_of (λ e. IsToCome at e.0 → ⊥) (λ e. IsToCome new e.0 → ⊥) p.passed
              (λ e not more. not (comes_later at.key at.given new.key e.0 comes (later e.0 more))) p.behind);
          ahead = each_of (λ e. key_cmp b.0 e.0 ≡ Less) (λ e. IsToCome new e.0) bs
              (λ e less. subst (λ (g : Bool). IsAfter new.key g e.0) (sym given) (subst (λ (k : List ℕ). key_cmp k e.0 ≡ Less) first_key less)) after_first;
          many_belong = ap (λ (k : Entries). length k) (filter-append within p.passed (b ∷ [])) ∙ length-append (filter within p.passed) (filter within (b ∷ []))
              ∙ ap (λ (n : ℕ). length (filter within p.passed) + n) (filter_one within b (is_within b (subst (λ (k : List ℕ). is_ge (key_cmp k from) ≡ true) (sym first_key) (p.from_start new.key comes)) (subst (IsBefore to) (sym first_key) before)))
              ∙ ap (λ (n : ℕ). n + 1) p.many_belong;
          from_start = λ key more. p.from_start key (comes_later at.key at.given new.key key comes (later key more));
        }
          where
            sorted_left : is_sorted key_cmp (b ∷ bs) ≡ true
            sorted_left = subst (λ (k : Entries). is_sorted key_cmp k ≡ true) is (sorted_end p.passed p.left (subst (λ (k : Entries). is_sorted key_cmp k ≡ true) p.are sorted))

            after_first : Less_all b.0 bs
            after_first = less_all b.0 bs (first_so (below_all key_cmp b.0 bs) (is_sorted key_cmp bs) sorted_left)

            b_comes : IsToCome at b.0
            b_comes = (subst (AllByRecursion (λ (e : List ℕ × Row). IsToCome at e.0)) is p.ahead).0

            first_key : b.0 ≡ new.key
            first_key = elim (subst (Has new.key row) is to_come) [
              | inl same ↦ ap (λ (e : List ℕ × Row). e.0) same
              | inr rest ↦ absurd (not_after new.key b.0 (least b.0 b.1 (has_row are b [] bs is) b_comes) (of_each (λ e. key_cmp b.0 e.0 ≡ Less) new.key row bs after_first rest))
            ]

            all_push : (ps : Entries) → AllByRecursion (λ e. IsToCome new e.0 → ⊥) ps → AllByRecursion (λ e. IsToCome new e.0 → ⊥) (ps ++ b ∷ [])
            all_push [] all = ((λ more. not_itself new.key (subst (λ (k : List ℕ). key_cmp new.key k ≡ Less) first_key (later b.0 more))), tt)
            all_push (e ∷ ps) all = (all.0, all_push ps all.1)

    -- how many belong in all
    total : length (filter within es) ≡ many + length (filter within p.left)
    total = ap (λ (k : Entries). length (filter within k)) p.are ∙ ap (λ (k : Entries). length k) (filter-append within p.passed p.left)
        ∙ length-append (filter within p.passed) (filter within p.left) ∙ ap (λ (n : ℕ). n + length (filter within p.left)) p.many_belong

    none_belongs : (es ≡ entries map) → ((e : List ℕ × Row) → get map e.0 ≡ Some e.1 → IsToCome at e.0 → within e ≡ false) → length (filter within p.left) ≡ 0
    none_belongs are none = filter_none within p.left (go [] p.left refl p.ahead)
      where
        go : (fore rest : Entries) → p.left ≡ fore ++ rest → AllByRecursion (λ e. IsToCome at e.0) rest → AllByRecursion (λ e. within e ≡ false) rest
        go fore [] is all = tt
        go fore (e ∷ rest) is all = (
          none e (has_row are e fore rest is) all.0,
          go (fore ++ e ∷ []) rest (is ∙ sym (append_assoc fore (e ∷ []) rest)) all.1,
        )

    pub ends : (es ≡ entries map) → (most : ℕ) → many ≤ most → ((e : List ℕ × Row) → get map e.0 ≡ Some e.1 → IsToCome at e.0 → within e ≡ false) → many ≡ min most (length (filter within es))
    ends are most few none =
        let no_more = none_belongs are none in
        let all = total in
        omega (arith, few, no_more, all)

    pub fills : (most : ℕ) → many ≡ most → most ≡ min most (length (filter within es))
    fills most full =
        let all = total in
        omega (arith, full, all)

-- ---- a walk over a machine has counted this many
module _ (s : MachineView) (from : List ℕ) (to : Option (List ℕ)) where
  abbrev listed : History → Entries
  listed h = entries (rows s.columns (moment h))

  pub record IsCounting (walk : RowsView) (many : ℕ) : Type 0 where
    pub machine : walk.machine ≡ s
    pub parted : (h : History) → Stands s h → IsParted (rows s.columns (moment h)) from to (listed h) walk.at many

  sorted : (h : History) → is_sorted key_cmp (listed h) ≡ true
  sorted h = is_true (is_sorted key_cmp (listed h)) (fin.entries_sorted (rows s.columns (moment h)))

  pub counting_begins : (walk : RowsView) → walk.machine ≡ s → walk.at ≡ record { key = from; given = false } → IsCounting walk 0
  counting_begins walk same begin = record {
    machine = same;
    parted = λ h stands. subst (λ (a : At). IsParted (rows s.columns (moment h)) from to (listed h) a 0) (sym begin) (begins (rows s.columns (moment h)) from to (listed h) (sorted h));
  }

  module _ (walk new : RowsView) (many : ℕ) (c : IsCounting walk many) where
    at_machine : (given : Option Row) → ((h : History) → Stands walk.machine h → GivesNext (rows walk.machine.columns (moment h)) walk.at given new.at)
        → (h : History) → Stands s h → GivesNext (rows s.columns (moment h)) walk.at given new.at
    at_machine given gives = subst (λ (m : MachineView). (h : History) → Stands m h → GivesNext (rows m.columns (moment h)) walk.at given new.at) c.machine gives

    pub counting_goes : (row : Row) (key : List ℕ) → ((h : History) → Stands walk.machine h → GivesNext (rows walk.machine.columns (moment h)) walk.at (Some row) new.at)
        → new.machine ≡ walk.machine → key ≡ new.at.key → IsBefore to key → IsCounting new (many + 1)
    counting_goes row key gives same key_is before = record {
      machine = same ∙ c.machine;
      parted = λ h stands. goes (rows s.columns (moment h)) from to (listed h) (sorted h) walk.at new.at many (c.parted h stands) refl row (at_machine (Some row) gives h stands) (subst (IsBefore to) key_is before);
    }

    pub counting_ends : (most : ℕ) → many ≤ most → ((h : History) → Stands walk.machine h → GivesNext (rows walk.machine.columns (moment h)) walk.at None new.at)
        → (h : History) → Stands s h → many ≡ count_of (rows s.columns (moment h)) from to most
    counting_ends most few gives h stands = ends (rows s.columns (moment h)) from to (listed h) (sorted h) walk.at new.at many (c.parted h stands) refl most few
        (λ e there comes. absurd ((at_machine None gives h stands).1 e.0 e.1 there comes))

    pub counting_stops : (most : ℕ) → many ≤ most → (row : Row) (key : List ℕ) → ((h : History) → Stands walk.machine h → GivesNext (rows walk.machine.columns (moment h)) walk.at (Some row) new.at)
        → key ≡ new.at.key → (IsBefore to key → ⊥) → (h : History) → Stands s h → many ≡ count_of (rows s.columns (moment h)) from to most
    counting_stops most few row key gives key_is not h stands =
        let (given, has, comes, least) = at_machine (Some row) gives h stands in
        ends (rows s.columns (moment h)) from to (listed h) (sorted h) walk.at new.at many (c.parted h stands) refl most few
        (λ e there to_come. is_past (rows s.columns (moment h)) from to e (past_end (rows s.columns (moment h)) from to new.at.key e.0 (subst (λ (k : List ℕ). IsBefore to k → ⊥) key_is not) (least e.0 e.1 there to_come)))

    pub counting_fills : (most : ℕ) → many ≡ most → (h : History) → Stands s h → most ≡ count_of (rows s.columns (moment h)) from to most
    counting_fills most full h stands = fills (rows s.columns (moment h)) from to (listed h) (sorted h) walk.at new.at many (c.parted h stands) most full
