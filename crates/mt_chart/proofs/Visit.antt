-- The visit of a border by a scan: entry by entry, and what it has done at its end.
use Rattle.std.proofs.Common.{ℕ, ◌≡◌, ◌<◌, ◌≤◌, ◌+◌, ◌⊎◌, inl, inr, List, [], ◌∷◌, ◌++◌, length, Some, None, refl, sym, ap, subst, ◌∙◌, arith}
use Rattle.std.proofs.lemmas.List.{length-append}
use Rattle.mt_slice.specs.Place.{Place, last, deeper, under, Precedes, first_slice, first_class}
use Rattle.mt_types.specs.declared.row.Row.{Row}
use Rattle.mt_chart.specs.Tree.{PlainContent, short, long, link, PlainEntry, Right, BorderNode, Among, first, later, Below, no_right, before_right, HoldsRow}
use Rattle.mt_chart.specs.Chart.{Chart, class}
use Rattle.mt_chart.specs.NotedList.{IsNotedList}
use Rattle.mt_chart.specs.Scan.{AtMost, Pair, Rising, UpTo, Listed, AnswersRange, Scanned, Passed, Visiting}
use Rattle.mt_slice.proofs.PlaceOrder.{never, precedes_again, under_precedes}
use Rattle.mt_chart.proofs.PlaceOrder.{either, most_again, not_both, under_most, under_back, outside, least, slices_rise, after_layer}
use Rattle.mt_chart.proofs.Entries.{Before, InOrder, among_append}
use Rattle.mt_chart.proofs.Keys.{holds_slice}
use Rattle.mt_chart.proofs.Reach.{below_less}

-- lists of pairs
pub listed_more : {V : Type 0} (key : Place) (xs ys : List (Pair V)) → Listed key xs → Listed key (xs ++ ys)
listed_more key xs ys (pair, i, e) = (pair, (among_append pair xs ys).1 (inl i), e)

pub up_to_more : {V : Type 0} (key : Place) (xs ys : List (Pair V)) → UpTo key xs → UpTo key (xs ++ ys)
up_to_more key xs ys (pair, i, e) = (pair, (among_append pair xs ys).1 (inl i), e)

among_one : {A : Type 0} (x y : A) → Among x (y ∷ []) → x ≡ y
among_one x y first = refl
among_one x y (later i) = elim i [ ]

pub rising_more : {V : Type 0} (xs : List (Pair V)) (y : Pair V) → Rising xs → ((x : Pair V) → Among x xs → Precedes x.key y.key) → Rising (xs ++ (y ∷ []))
rising_more [] y r h = (λ z i. elim i [ ], tt)
rising_more (x ∷ xs) y r h = (λ z i. go z ((among_append z xs (y ∷ [])).0 i), rising_more xs y r.1 (λ z i. h z (later i)))
  where
    go : (z : Pair _) → Among z xs ⊎ Among z (y ∷ []) → Precedes x.key z.key
    go z (inl i) = r.0 z i
    go z (inr i) = let e : y ≡ z = sym (among_one z y i) in subst (λ (w : Pair _). Precedes x.key w.key) e (h x first)

-- entries and places
pub by_class : (x y : Place) → (first_slice x < first_slice y) ⊎ ((first_slice x ≡ first_slice y) × (first_class x < first_class y)) → Precedes x y
by_class (last s i) (last t j) h = h
by_class (last s i) (deeper t y) (inl h) = inl h
by_class (last s i) (deeper t y) (inr h) = inr (h.0, let g : i < 9 = h.1 in omega arith)
by_class (deeper s x) (last t j) h = h
by_class (deeper s x) (deeper t y) (inl h) = inl h
by_class (deeper s x) (deeper t y) (inr h) = absurd (let g : 9 < 9 = h.1 in omega arith)

pub same_slice_at : (x : Place) → first_slice x ≡ first_slice x
same_slice_at (last s k) = refl
same_slice_at (deeper s x) = refl

-- no row of the entry, and no place under it if it is a link, comes before `z`
abbrev pub From : Place → PlainEntry → Type 0
From z e = ((x : Place) (row : Row) → HoldsRow e.slice e.content x row → AtMost z x) × ((h : ℕ) (y : Place) → e.content ≡ link h → AtMost z (deeper e.slice y))

pub from_later : (z : Place) (e f : PlainEntry) → first_slice z ≡ e.slice → first_class z ≡ class e.content → Before e f → From z f
from_later z e f s c b = (row_later, link_later)
  where
    onto : (y : Place) → first_slice y ≡ f.slice → first_class y ≡ class f.content → (e.slice < f.slice) ⊎ ((e.slice ≡ f.slice) × (class e.content < class f.content)) → Precedes z y
    onto y u v (inl h) = by_class z y (inl (omega arith))
    onto y u v (inr h) = by_class z y (inr (s ∙ h.0 ∙ sym u, (let g : class e.content < class f.content = h.1 in omega arith)))

    row_later : (x : Place) (row : Row) → HoldsRow f.slice f.content x row → AtMost z x
    row_later x row h = let (u, v) = holds_slice f.slice f.content x row h in inr (onto x u v b)

    link_later : (h : ℕ) (y : Place) → f.content ≡ link h → AtMost z (deeper f.slice y)
    link_later h y q = inr (onto (deeper f.slice y) refl (ap class (sym q)) b)

holds_one_place : (s : ℕ) (c : PlainContent) (x y : Place) (row row' : Row) → HoldsRow s c x row → HoldsRow s c y row' → x ≡ y
holds_one_place s (short k r) x y row row' h i = h.0 ∙ sym i.0
holds_one_place s (long z r) x y row row' h i = h.0 ∙ sym i.0
holds_one_place s (link t) x y row row' h i = elim h [ ]

row_or_link : (s : ℕ) (c : PlainContent) (x : Place) (row : Row) (h : ℕ) → c ≡ link h → HoldsRow s c x row → ⊥
row_or_link s c x row h e k = subst (λ (d : PlainContent). HoldsRow s d x row) e k

pub from_row : (e : PlainEntry) (x : Place) (row : Row) → HoldsRow e.slice e.content x row → From x e
from_row e x row h = (λ y r k. inl (holds_one_place e.slice e.content x y row r h k), λ t y q. absurd (row_or_link e.slice e.content x row t q h))

pub from_link : (e : PlainEntry) (h : ℕ) → e.content ≡ link h → From (deeper e.slice (last 0 0)) e
from_link e h q = (λ x row k. absurd (row_or_link e.slice e.content x row h q k), λ t y r. go y (least y))
  where
    go : (y : Place) → AtMost (last 0 0) y → AtMost (deeper e.slice (last 0 0)) (deeper e.slice y)
    go y (inl i) = inl (ap (deeper e.slice) i)
    go y (inr i) = inr (inr (refl, i))

pub in_order_parts : (xs : List PlainEntry) (e : PlainEntry) (ys : List PlainEntry) → InOrder (xs ++ (e ∷ ys)) → (f : PlainEntry) → Among f ys → Before e f
in_order_parts [] e ys o f i = o.0 f i
in_order_parts (x ∷ xs) e ys o f i = in_order_parts xs e ys o.1 f i

-- a link is entered if the cursor is before all that comes after its layer: then it is before its layer or in it
pub enters : (s : ℕ) (at : Place) → Precedes at (last s 10) → Precedes at (deeper s (last 0 0)) ⊎ ((x : Place) × (at ≡ deeper s x))
enters s (last t j) (inl h) = inl (inl h)
enters s (last t j) (inr h) = inl (inr (h.0, let g : j < 10 = h.1 in omega arith))
enters s (deeper t x) (inl h) = inl (inl h)
enters s (deeper t x) (inr h) = inr (x, ap (λ (w : ℕ). deeper w x) h.0)

module _ {V : Type 0} (stood : Place → V → Type 0) (throughout : Place → Type 0) (show : Row → V) (chart : Chart) (begun : ℕ)
    (start : Place) (limit : ℕ) (p : List ℕ) (b : BorderNode) (noted : IsNotedList show chart begun stood throughout p b.low b.right b.entries) (in_order : InOrder b.entries)
    (at : Place) (from_low : b.low ≤ first_slice at) (to_right : Below (first_slice at) b.right) where
  -- a place of the border's interval whose row, if it has one, does not stand in what is yet to be visited
  pub seen : (done todo : List PlainEntry) (taken : List (Pair V)) → Visiting stood throughout start limit p b at done todo taken → (x : Place) → Below (first_slice x) b.right →
      ((e : PlainEntry) → Among e todo → ((row : Row) → HoldsRow e.slice e.content x row → ⊥) × ((h : ℕ) (y : Place) → e.content ≡ link h → x ≡ deeper e.slice y → ⊥)) →
      AtMost start (under p x) → throughout (under p x) → Listed (under p x) taken
  seen done todo taken v x hi ahead from t = go (either x at)
    where
      behind : Precedes x at ⊎ UpTo (under p x) taken → Listed (under p x) taken
      behind (inl h) = v.scanned.covered (under p x) from (inl (under_precedes p x at h)) t
      behind (inr u) = v.scanned.covered (under p x) from (inr u) t

      at_entry : (e : PlainEntry) (row : Row) → HoldsRow e.slice e.content x row → Among e done ⊎ Among e todo → Listed (under p x) taken
      at_entry e row h (inl i) = behind ((v.passed e i).0 x row h)
      at_entry e row h (inr i) = absurd ((ahead e i).0 row h)

      at_link : (z : Place) (h : ℕ) → x ≡ deeper (first_slice x) z → AtMost at x →
          Among (record { slice = first_slice x; content = link h }) done ⊎ Among (record { slice = first_slice x; content = link h }) todo → Listed (under p x) taken
      at_link z h q c (inl i) = absurd (not_both (last (first_slice x) 10) x (most_again (last (first_slice x) 10) at x ((v.passed (record { slice = first_slice x; content = link h }) i).1 h refl) c)
          (subst (λ (w : Place). Precedes w (last (first_slice x) 10)) (sym q) (inr (refl, omega arith))))
      at_link z h q c (inr i) = absurd ((ahead (record { slice = first_slice x; content = link h }) i).1 h z refl q)

      find : AtMost at x → ((e : PlainEntry) × (row : Row) × Among e b.entries × HoldsRow e.slice e.content x row) ⊎
          ((z : Place) × (h : ℕ) × (x ≡ deeper (first_slice x) z) × Among (record { slice = first_slice x; content = link h }) b.entries) → Listed (under p x) taken
      find c (inl (e, row, i, h)) = at_entry e row h ((among_append e done todo).0 (subst (λ (es : List PlainEntry). Among e es) v.split i))
      find c (inr (z, h, q, i)) = at_link z h q c
          ((among_append (record { slice = first_slice x; content = link h }) done todo).0 (subst (λ (es : List PlainEntry). Among (record { slice = first_slice x; content = link h }) es) v.split i))

      low : AtMost at x → b.low ≤ first_slice x
      low c = let k : first_slice at ≤ first_slice x = slices_rise at x c in let e : first_slice x ≡ first_slice x = same_slice_at x in omega arith

      go : Precedes x at ⊎ AtMost at x → Listed (under p x) taken
      go (inl h) = behind (inl h)
      go (inr c) = find c (noted.covers x (low c) hi t)

  -- all before a place is done, if nothing that is yet to be visited is before it
  pub seen_before : (done todo : List PlainEntry) (taken : List (Pair V)) → Visiting stood throughout start limit p b at done todo taken → (z : Place) →
      ((e : PlainEntry) → Among e todo → From z e) → ((x : Place) → Precedes x z → Below (first_slice x) b.right) →
      (key : Place) → AtMost start key → Precedes key (under p z) → throughout key → Listed key taken
  seen_before done todo taken v z ahead hi key from h t = go (outside p key)
    where
      ahead_of : (x : Place) → Precedes x z → (e : PlainEntry) → Among e todo →
          ((row : Row) → HoldsRow e.slice e.content x row → ⊥) × ((h : ℕ) (y : Place) → e.content ≡ link h → x ≡ deeper e.slice y → ⊥)
      ahead_of x c e i = (λ row k. not_both z x ((ahead e i).0 x row k) c, λ h y q k. not_both z x (subst (λ (w : Place). AtMost z w) (sym k) ((ahead e i).1 h y q)) c)

      inside : (x : Place) → key ≡ under p x → Precedes x z → Listed key taken
      inside x e c = subst (λ (w : Place). Listed w taken) (sym e)
          (seen done todo taken v x (hi x c) (ahead_of x c) (subst (λ (w : Place). AtMost start w) e from) (subst (λ (w : Place). throughout w) e t))

      go : ((x : Place) × (key ≡ under p x)) ⊎ (((y : Place) → Precedes key (under p y)) ⊎ ((y : Place) → Precedes (under p y) key)) → Listed key taken
      go (inl (x, e)) = inside x e (under_back p x z (subst (λ (w : Place). Precedes w (under p z)) e h))
      go (inr (inl f)) = v.scanned.covered key from (inl (f at)) t
      go (inr (inr f)) = absurd (never key (precedes_again key (under p z) key h (f z)))

  -- before the first entry
  pub visit_begins : (taken : List (Pair V)) → Scanned stood throughout start limit (under p at) taken → Visiting stood throughout start limit p b at [] b.entries taken
  visit_begins taken s = record { split = refl; scanned = s; passed = λ e i. elim i [ ] }

  -- past an entry of which nothing is to be taken
  pub visit_passes : (done : List PlainEntry) (e : PlainEntry) (todo : List PlainEntry) (taken : List (Pair V)) → Visiting stood throughout start limit p b at done (e ∷ todo) taken →
      Passed p at taken e → Visiting stood throughout start limit p b at (done ++ (e ∷ [])) todo taken
  visit_passes done e todo taken v h = record {
    split = v.split ∙ (one_over done e todo);
    scanned = v.scanned;
    passed = λ f i. go f ((among_append f done (e ∷ [])).0 i);
  }
    where
      one_over : (xs : List PlainEntry) (x : PlainEntry) (ys : List PlainEntry) → xs ++ (x ∷ ys) ≡ (xs ++ (x ∷ [])) ++ ys
      one_over [] x ys = refl
      one_over (y ∷ xs) x ys = ap (λ w. y ∷ w) (one_over xs x ys)

      go : (f : PlainEntry) → Among f done ⊎ Among f (e ∷ []) → Passed p at taken f
      go f (inl i) = v.passed f i
      go f (inr i) = let q : e ≡ f = sym (among_one f e i) in subst (λ (w : PlainEntry). Passed p at taken w) q h

  pub row_passed : (e : PlainEntry) (x : Place) (row : Row) (taken : List (Pair V)) → HoldsRow e.slice e.content x row → Precedes x at ⊎ UpTo (under p x) taken → Passed p at taken e
  row_passed e x row taken h u = (
    λ y r k. subst (λ (w : Place). Precedes w at ⊎ UpTo (under p w) taken) (holds_one_place e.slice e.content x y row r h k) u,
    λ t q. absurd (row_or_link e.slice e.content x row t q h),
  )

  pub link_passed : (e : PlainEntry) (h : ℕ) (taken : List (Pair V)) → e.content ≡ link h → AtMost (last e.slice 10) at → Passed p at taken e
  link_passed e h taken q c = (λ x row k. absurd (row_or_link e.slice e.content x row h q k), λ t r. c)

  -- up to an entry of the border
  ahead_from : (done : List PlainEntry) (e : PlainEntry) (todo : List PlainEntry) (taken : List (Pair V)) → Visiting stood throughout start limit p b at done (e ∷ todo) taken →
      (z : Place) → first_slice z ≡ e.slice → first_class z ≡ class e.content → From z e → (f : PlainEntry) → Among f (e ∷ todo) → From z f
  ahead_from done e todo taken v z s c h f first = h
  ahead_from done e todo taken v z s c h f (later i) = from_later z e f s c (in_order_parts done e todo (subst (λ (es : List PlainEntry). InOrder es) v.split in_order) f i)

  below_entry : (done : List PlainEntry) (e : PlainEntry) (todo : List PlainEntry) (taken : List (Pair V)) → Visiting stood throughout start limit p b at done (e ∷ todo) taken →
      (z : Place) → first_slice z ≡ e.slice → (x : Place) → Precedes x z → Below (first_slice x) b.right
  below_entry done e todo taken v z s x h =
      let k : first_slice x ≤ first_slice z = slices_rise x z (inr h) in
      let ex : first_slice x ≡ first_slice x = same_slice_at x in let ez : first_slice z ≡ first_slice z = same_slice_at z in
      let le : first_slice x ≤ e.slice = omega arith in
      below_less le (noted.to_right e (subst (λ (es : List PlainEntry). Among e es) (sym v.split) ((among_append e done (e ∷ todo)).1 (inr first))))

  is_live : (done : List PlainEntry) (e : PlainEntry) (todo : List PlainEntry) (taken : List (Pair V)) → Visiting stood throughout start limit p b at done (e ∷ todo) taken → Among e b.entries
  is_live done e todo taken v = subst (λ (es : List PlainEntry). Among e es) (sym v.split) ((among_append e done (e ∷ todo)).1 (inr first))

  -- a row is taken: its key is not before the cursor and after the last key taken, and there is room
  pub visit_takes : (done : List PlainEntry) (e : PlainEntry) (todo : List PlainEntry) (taken : List (Pair V)) → Visiting stood throughout start limit p b at done (e ∷ todo) taken →
      (x : Place) (row : Row) → HoldsRow e.slice e.content x row → AtMost at x → ((y : Pair V) → Among y taken → Precedes y.key (under p x)) → length taken < limit →
      Visiting stood throughout start limit p b at (done ++ (e ∷ [])) todo (taken ++ (record { key = under p x; value = show row } ∷ []))
  visit_takes done e todo taken v x row h c after room =
      visit_passes done e todo (taken ++ (record { key = under p x; value = show row } ∷ []))
      (record { split = v.split; scanned = scanned_now; passed = λ f i. ((λ y r k. weaker y ((v.passed f i).0 y r k)), (v.passed f i).1) })
      (row_passed e x row (taken ++ (record { key = under p x; value = show row } ∷ [])) h (inr (record { key = under p x; value = show row }, is_new, inl refl)))
    where
      new : Pair V
      new = record { key = under p x; value = show row }

      is_new : Among (record { key = under p x; value = show row }) (taken ++ (record { key = under p x; value = show row } ∷ []))
      is_new = (among_append (record { key = under p x; value = show row }) taken (record { key = under p x; value = show row } ∷ [])).1 (inr first)

      weaker : (y : Place) → Precedes y at ⊎ UpTo (under p y) taken → Precedes y at ⊎ UpTo (under p y) (taken ++ (record { key = under p x; value = show row } ∷ []))
      weaker y (inl g) = inl g
      weaker y (inr u) = inr (up_to_more (under p y) taken (record { key = under p x; value = show row } ∷ []) u)

      from : AtMost start (under p x)
      from = most_again start (under p at) (under p x) v.scanned.onward (under_most p at x c)

      each_from : (pair : Pair V) → Among pair taken ⊎ Among pair (record { key = under p x; value = show row } ∷ []) → AtMost start pair.key
      each_from pair (inl i) = v.scanned.from_start pair i
      each_from pair (inr i) = let q : record { key = under p x; value = show row } ≡ pair = sym (among_one pair (record { key = under p x; value = show row }) i) in subst (λ (w : Pair V). AtMost start w.key) q from

      each_shown : (pair : Pair V) → Among pair taken ⊎ Among pair (record { key = under p x; value = show row } ∷ []) → stood pair.key pair.value
      each_shown pair (inl i) = v.scanned.shown pair i
      each_shown pair (inr i) = let q : record { key = under p x; value = show row } ≡ pair = sym (among_one pair (record { key = under p x; value = show row }) i) in
          subst (λ (w : Pair V). stood w.key w.value) q (noted.shown e x row (is_live done e todo taken v) h)

      up_to_new : (key : Place) → AtMost start key → AtMost key (under p x) → throughout key → Listed key (taken ++ (record { key = under p x; value = show row } ∷ []))
      up_to_new key f (inl q) t = (record { key = under p x; value = show row }, is_new, sym q)
      up_to_new key f (inr g) t = listed_more key taken (record { key = under p x; value = show row } ∷ [])
          (seen_before done (e ∷ todo) taken v x
          (ahead_from done e todo taken v x (holds_slice e.slice e.content x row h).0 (holds_slice e.slice e.content x row h).1 (from_row e x row h))
          (below_entry done e todo taken v x (holds_slice e.slice e.content x row h).0) key f g t)

      at_pair : (key : Place) → AtMost start key → (pair : Pair V) → AtMost key pair.key → Among pair taken ⊎ Among pair (record { key = under p x; value = show row } ∷ []) → throughout key →
          Listed key (taken ++ (record { key = under p x; value = show row } ∷ []))
      at_pair key f pair g (inl i) t = listed_more key taken (record { key = under p x; value = show row } ∷ []) (v.scanned.covered key f (inr (pair, i, g)) t)
      at_pair key f pair g (inr i) t = let q : pair ≡ record { key = under p x; value = show row } = among_one pair (record { key = under p x; value = show row }) i in
          up_to_new key f (subst (λ (w : Pair V). AtMost key w.key) q g) t

      all : (key : Place) → AtMost start key → Precedes key (under p at) ⊎ UpTo key (taken ++ (record { key = under p x; value = show row } ∷ [])) → throughout key →
          Listed key (taken ++ (record { key = under p x; value = show row } ∷ []))
      all key f (inl g) t = listed_more key taken (record { key = under p x; value = show row } ∷ []) (v.scanned.covered key f (inl g) t)
      all key f (inr (pair, i, g)) t = at_pair key f pair g ((among_append pair taken (record { key = under p x; value = show row } ∷ [])).0 i) t

      scanned_now : Scanned stood throughout start limit (under p at) (taken ++ (record { key = under p x; value = show row } ∷ []))
      scanned_now = record {
        onward = v.scanned.onward;
        rises = rising_more taken (record { key = under p x; value = show row }) v.scanned.rises after;
        from_start = λ pair i. each_from pair ((among_append pair taken (record { key = under p x; value = show row } ∷ [])).0 i);
        few = (let e : length (taken ++ (record { key = under p x; value = show row } ∷ [])) ≡ length taken + 1 = length-append taken (record { key = under p x; value = show row } ∷ []) in omega arith);
        shown = λ pair i. each_shown pair ((among_append pair taken (record { key = under p x; value = show row } ∷ [])).0 i);
        covered = all;
      }

  -- if the next entry is a link to be entered, the scan goes to its head, at the first place of its layer
  pub visit_enters : (done : List PlainEntry) (e : PlainEntry) (todo : List PlainEntry) (taken : List (Pair V)) (h : ℕ) → Visiting stood throughout start limit p b at done (e ∷ todo) taken →
      e.content ≡ link h → Precedes at (deeper e.slice (last 0 0)) → Scanned stood throughout start limit (under (e.slice ∷ p) (last 0 0)) taken
  visit_enters done e todo taken h v q c = record {
    onward = most_again start (under p at) (under p (deeper e.slice (last 0 0))) v.scanned.onward (under_most p at (deeper e.slice (last 0 0)) (inr c));
    rises = v.scanned.rises;
    from_start = v.scanned.from_start;
    few = v.scanned.few;
    shown = v.scanned.shown;
    covered = go;
  }
    where
      go : (key : Place) → AtMost start key → Precedes key (under p (deeper e.slice (last 0 0))) ⊎ UpTo key taken → throughout key → Listed key taken
      go key f (inl g) t = seen_before done (e ∷ todo) taken v (deeper e.slice (last 0 0))
          (ahead_from done e todo taken v (deeper e.slice (last 0 0)) refl (ap class (sym q)) (from_link e h q))
          (below_entry done e todo taken v (deeper e.slice (last 0 0)) refl) key f g t
      go key f (inr u) t = v.scanned.covered key f (inr u) t

  -- at its end, with a right link
  pub visit_goes_right : (taken : List (Pair V)) (r : Right) → Visiting stood throughout start limit p b at b.entries [] taken → b.right ≡ Some r →
      Scanned stood throughout start limit (under p (last r.low 0)) taken
  visit_goes_right taken r v q = record {
    onward = most_again start (under p at) (under p (last r.low 0)) v.scanned.onward (under_most p at (last r.low 0) (inr (rises_to (subst (λ w. Below (first_slice at) w) q to_right))));
    rises = v.scanned.rises;
    from_start = v.scanned.from_start;
    few = v.scanned.few;
    shown = v.scanned.shown;
    covered = go;
  }
    where
      less : (s : ℕ) → Below s (Some r) → s < r.low
      less s (before_right h) = h

      to_low : (x : Place) → first_slice x < r.low → Precedes x (last r.low 0)
      to_low (last s k) h = inl h
      to_low (deeper s x) h = inl h

      rises_to : Below (first_slice at) (Some r) → Precedes at (last r.low 0)
      rises_to h = to_low at (less (first_slice at) h)

      slice_less : (x : Place) → Precedes x (last r.low 0) → first_slice x < r.low
      slice_less (last s k) (inl h) = h
      slice_less (last s k) (inr h) = absurd (let g : k < 0 = h.1 in omega arith)
      slice_less (deeper s x) (inl h) = h
      slice_less (deeper s x) (inr h) = absurd (let g : 9 < 0 = h.1 in omega arith)

      go : (key : Place) → AtMost start key → Precedes key (under p (last r.low 0)) ⊎ UpTo key taken → throughout key → Listed key taken
      go key f (inl g) t = seen_before b.entries [] taken v (last r.low 0) (λ e i. elim i [ ])
          (λ x h. subst (λ w. Below (first_slice x) w) (sym q) (before_right {link = r} (slice_less x h))) key f g t
      go key f (inr u) t = v.scanned.covered key f (inr u) t

  -- at its end, with no right link: each key of the layer is done
  whole_layer : (taken : List (Pair V)) → Visiting stood throughout start limit p b at b.entries [] taken → b.right ≡ None → (x : Place) → AtMost start (under p x) → throughout (under p x) → Listed (under p x) taken
  whole_layer taken v q x f t = seen b.entries [] taken v x (subst (λ w. Below (first_slice x) w) (sym q) no_right) (λ e i. elim i [ ]) f t

  pub visit_ends : (taken : List (Pair V)) → Visiting stood throughout start limit p b at b.entries [] taken → b.right ≡ None → p ≡ [] → AnswersRange stood throughout start limit taken
  visit_ends taken v q top = record {
    rises = v.scanned.rises;
    from_start = v.scanned.from_start;
    few = v.scanned.few;
    shown = v.scanned.shown;
    complete = λ key f t _. subst (λ (w : List ℕ). AtMost start (under w key) → throughout (under w key) → Listed (under w key) taken) top (whole_layer taken v q key) f t;
  }

  pub visit_leaves : (taken : List (Pair V)) (s : ℕ) (u : List ℕ) → Visiting stood throughout start limit p b at b.entries [] taken → b.right ≡ None → p ≡ s ∷ u →
      Scanned stood throughout start limit (under u (last s 10)) taken
  visit_leaves taken s u v q e = record {
    onward = most_again start (under p at) (under u (last s 10)) v.scanned.onward
        (subst (λ (w : List ℕ). AtMost (under w at) (under u (last s 10))) (sym e) (under_most u (deeper s at) (last s 10) (inr (inr (refl, omega arith)))));
    rises = v.scanned.rises;
    from_start = v.scanned.from_start;
    few = v.scanned.few;
    shown = v.scanned.shown;
    covered = go;
  }
    where
      between : (key : Place) → ((y : Place) → Precedes (under u (deeper s y)) key) → AtMost (under u (last s 10)) key
      between key h = on_side (outside u key)
        where
          on_side : ((x : Place) × (key ≡ under u x)) ⊎ (((y : Place) → Precedes key (under u y)) ⊎ ((y : Place) → Precedes (under u y) key)) → AtMost (under u (last s 10)) key
          on_side (inl (x, k)) = subst (λ (w : Place). AtMost (under u (last s 10)) w) (sym k)
              (under_most u (last s 10) x (after_layer s x (λ y. under_back u (deeper s y) x (subst (λ (w : Place). Precedes (under u (deeper s y)) w) k (h y)))))
          on_side (inr (inl f)) = absurd (never key (precedes_again key (under u (deeper s (last 0 0))) key (f (deeper s (last 0 0))) (h (last 0 0))))
          on_side (inr (inr f)) = inr (f (last s 10))

      sides : (key : Place) → AtMost start key → Precedes key (under u (last s 10)) → throughout key →
          ((x : Place) × (key ≡ under (s ∷ u) x)) ⊎ (((y : Place) → Precedes key (under (s ∷ u) y)) ⊎ ((y : Place) → Precedes (under (s ∷ u) y) key)) → Listed key taken
      sides key f g t (inl (x, k)) =
          let w : key ≡ under p x = subst (λ (l : List ℕ). key ≡ under l x) (sym e) k in
          subst (λ (y : Place). Listed y taken) (sym w) (whole_layer taken v q x (subst (λ (y : Place). AtMost start y) w f) (subst (λ (y : Place). throughout y) w t))
      sides key f g t (inr (inl k)) = v.scanned.covered key f (inl (subst (λ (l : List ℕ). Precedes key (under l at)) (sym e) (k at))) t
      sides key f g t (inr (inr k)) = absurd (not_both (under u (last s 10)) key (between key k) g)

      go : (key : Place) → AtMost start key → Precedes key (under u (last s 10)) ⊎ UpTo key taken → throughout key → Listed key taken
      go key f (inl g) t = sides key f g t (outside (s ∷ u) key)
      go key f (inr w) t = v.scanned.covered key f (inr w) t
