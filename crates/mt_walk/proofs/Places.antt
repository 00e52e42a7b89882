-- The entries of a border before a place and from it on, and their order.
use Rattle.std.proofs.Common.{ℕ, ◌≡◌, ◌<◌, ◌≤◌, ◌+◌, ◌⊎◌, inl, inr, List, [], ◌∷◌, ◌++◌, length, take, drop, slice_get, Some, sym, ap, subst, ◌∙◌, arith, All}
use Rattle.std.proofs.lemmas.List.Elements.{All-head, All-tail}
use Rattle.std.proofs.lemmas.List.{drop_more, take_more, drop_all, take-append-drop, map-append, append-nil}
use Rattle.std.proofs.lemmas.Option.{slice_get_within, get_or_from_slice_get}
use Rattle.mt_types.specs.declared.row.Row.{Row}
use Rattle.mt_slice.specs.Place.{Place, under, Precedes, first_slice, first_class}
use Rattle.mt_border.specs.Border.{BorderView}
use Rattle.mt_border.specs.Order.{IsBorder}
use Rattle.mt_border.specs.Entry.{IsEntry, IsContent}
use Rattle.mt_border.specs.declared.entry.Entry.{Entry}
use Rattle.mt_border.specs.declared.entry.Content.{Content}
use Rattle.mt_border.specs.declared.entry.Content.TheVariants.{Short, Long, Link}
use Rattle.mt_chart.specs.Tree.{PlainEntry, link, Among, first, later, HoldsRow}
use Rattle.mt_chart.specs.Chart.{class}
use Rattle.mt_chart.specs.Scan.{AtMost, Pair}
use Rattle.mt_chart.proofs.Entries.{Before, InOrder, among_append, among_cases}
use Rattle.mt_chart.proofs.Keys.{holds_slice}
use Rattle.mt_chart.proofs.PlaceOrder.{then_most, under_most}
use Rattle.mt_chart.proofs.Visit.{by_class}
use Rattle.mt_slice.proofs.PlaceOrder.{precedes_again, under_precedes}
use Rattle.mt_tree.specs.Seen.{content_seen, entry_seen, entries_seen, border_seen}
use Rattle.mt_tree.proofs.BorderEntries.{seen_in_order}
use Rattle.mt_walk.specs.Standing.{done_of, left_in, IsDone}

module _ (b : BorderView) (place : ℕ) where
  pub parts : (border_seen b).entries ≡ done_of b place ++ left_in b place
  parts = sym (sym (map-append entry_seen (take place b.live) (drop place b.live)) ∙ ap entries_seen (take-append-drop place b.live))

  module _ (entry : Entry) (there : slice_get b.live place ≡ Some entry) where
    within : place < length b.live
    within = slice_get_within b.live place entry there

    pub left_more : left_in b place ≡ entry_seen entry ∷ left_in b (place + 1)
    left_more = ap entries_seen (drop_more b.live place entry within ∙ ap (λ (e : Entry). e ∷ drop (place + 1) b.live) (get_or_from_slice_get b.live place entry entry there))

    pub done_more : done_of b (place + 1) ≡ done_of b place ++ entry_seen entry ∷ []
    done_more =
        ap entries_seen (take_more b.live place entry within ∙ ap (λ (e : Entry). take place b.live ++ e ∷ []) (get_or_from_slice_get b.live place entry entry there))
        ∙ map-append entry_seen (take place b.live) (entry ∷ [])

    pub is_next : Among (entry_seen entry) (left_in b place)
    is_next = subst (λ (es : List PlainEntry). Among (entry_seen entry) es) (sym left_more) first

    pub is_left : (e : PlainEntry) → Among e (left_in b (place + 1)) → Among e (left_in b place)
    is_left e i = subst (λ (es : List PlainEntry). Among e es) (sym left_more) (later i)

    pub is_live : Among (entry_seen entry) (border_seen b).entries
    is_live = subst (λ (es : List PlainEntry). Among (entry_seen entry) es) (sym parts) ((among_append (entry_seen entry) (done_of b place) (left_in b place)).1 (inr is_next))

  pub none_left : length b.live ≤ place → left_in b place ≡ []
  none_left few = ap entries_seen (drop_all place b.live few)

  pub all_done : length b.live ≤ place → done_of b place ≡ (border_seen b).entries
  all_done few = sym (parts ∙ ap (λ (es : List PlainEntry). done_of b place ++ es) (none_left few) ∙ append-nil (done_of b place))

-- ---- the order
pub before_parts : (xs ys : List PlainEntry) → InOrder (xs ++ ys) → (e f : PlainEntry) → Among e xs → Among f ys → Before e f
before_parts [] ys order e f i j = elim i [ ]
before_parts (x ∷ xs) ys order e f i j = elim (among_cases e x xs i) [
  | inl same ↦ subst (λ (z : PlainEntry). Before z f) (sym same) (order.0 f ((among_append f xs ys).1 (inr j)))
  | inr more ↦ before_parts xs ys order.1 e f more j
]

-- a place of one entry is before each place with the slice and class of a later one
pub place_before : (e f : PlainEntry) (x y : Place) (row : Row) → Before e f → HoldsRow e.slice e.content x row → first_slice y ≡ f.slice → first_class y ≡ class f.content → Precedes x y
place_before e f x y row before holds slice class_is =
    let (own_slice, own_class) = holds_slice e.slice e.content x row holds in
    by_class x y (go own_slice own_class before)
  where
    go : first_slice x ≡ e.slice → first_class x ≡ class e.content → Before e f → (first_slice x < first_slice y) ⊎ ((first_slice x ≡ first_slice y) × (first_class x < first_class y))
    go s c (inl less) = inl (omega (arith, s, slice, less))
    go s c (inr both) = let less = both.1 in inr (s ∙ both.0 ∙ sym slice, omega (arith, c, class_is, less))

module _ (b : BorderView) (sound : IsBorder b) where
  pub in_order : InOrder (border_seen b).entries
  in_order = seen_in_order b.live sound.ordered sound.entries

  pub done_before : (place : ℕ) (e f : PlainEntry) → Among e (done_of b place) → Among f (left_in b place) → Before e f
  done_before place e f i j = before_parts (done_of b place) (left_in b place) (subst InOrder (parts b place) in_order) e f i j

-- a class is at most 9
content_class_most : (c : Content) → IsContent c → class (content_seen c) ≤ 9
content_class_most (Short bytes row) h = omega (arith, h)
content_class_most (Long suffix row) h = omega arith
content_class_most (Link head) h = omega arith

seen_class_most : (entries : List Entry) → All IsEntry entries → (e : PlainEntry) → Among e (entries_seen entries) → class e.content ≤ 9
seen_class_most [] each e i = elim i [ ]
seen_class_most (x ∷ xs) each e i = elim (among_cases e (entry_seen x) (entries_seen xs) i) [
  | inl same ↦ subst (λ (z : PlainEntry). class z.content ≤ 9) (sym same) (content_class_most x.content (All-head IsEntry x xs each).content)
  | inr more ↦ seen_class_most xs (All-tail IsEntry x xs each) e more
]

pub class_most : (b : BorderView) → IsBorder b → (e : PlainEntry) → Among e (border_seen b).entries → class e.content ≤ 9
class_most b sound e i = seen_class_most b.live sound.entries.each e i

-- after a link come only greater slices
pub past_link : (b : BorderView) → IsBorder b → (place : ℕ) (entry : Entry) (head : ℕ) → slice_get b.live place ≡ Some entry → content_seen entry.content ≡ link head → (f : PlainEntry) → Among f (left_in b (place + 1)) → entry.slice < f.slice
past_link b sound place entry head there is f i = go (before_parts (done_of b (place + 1)) (left_in b (place + 1)) (subst InOrder (parts b (place + 1)) (in_order b sound)) (entry_seen entry) f is_done i)
  where
    is_done : Among (entry_seen entry) (done_of b (place + 1))
    is_done = subst (λ (es : List PlainEntry). Among (entry_seen entry) es) (sym (done_more b place entry there)) ((among_append (entry_seen entry) (done_of b place) (entry_seen entry ∷ [])).1 (inr first))

    most : class f.content ≤ 9
    most = class_most b sound f (subst (λ (es : List PlainEntry). Among f es) (sym (parts b (place + 1))) ((among_append f (done_of b (place + 1)) (left_in b (place + 1))).1 (inr i)))

    go : Before (entry_seen entry) f → entry.slice < f.slice
    go (inl less) = less
    go (inr both) =
        let nine : class (content_seen entry.content) ≡ 9 = ap class is in
        let less = both.1 in
        absurd (omega (arith, nine, less, most))

-- ---- pairs that are done are before what is ahead
module _ (prefix : List ℕ) (at : Place) (b : BorderView) (sound : IsBorder b) (place : ℕ) (pair : Pair Row) (done : IsDone prefix at (done_of b place) pair) where
  -- a place of an entry that is left
  pub done_ahead : (f : PlainEntry) → Among f (left_in b place) → (y : Place) → AtMost at y → first_slice y ≡ f.slice → first_class y ≡ class f.content → Precedes pair.key (under prefix y)
  done_ahead f j y most slice class_is = go done
    where
      go : IsDone prefix at (done_of b place) pair → Precedes pair.key (under prefix y)
      go (inl before) = then_most pair.key (under prefix at) (under prefix y) before (under_most prefix at y most)
      go (inr (e, x, row, i, holds, same)) = subst (λ (k : Place). Precedes k (under prefix y)) (sym same)
          (under_precedes prefix x y (place_before e f x y row (done_before b sound place e f i j) holds slice class_is))

  -- a place after the whole border
  pub done_behind : (y : Place) → Precedes at y → ((e : PlainEntry) (x : Place) → Among e (border_seen b).entries → first_slice x ≡ e.slice → Precedes x y) → Precedes pair.key (under prefix y)
  done_behind y before all = go done
    where
      go : IsDone prefix at (done_of b place) pair → Precedes pair.key (under prefix y)
      go (inl less) = precedes_again pair.key (under prefix at) (under prefix y) less (under_precedes prefix at y before)
      go (inr (e, x, row, i, holds, same)) = subst (λ (k : Place). Precedes k (under prefix y)) (sym same)
          (under_precedes prefix x y (all e x (subst (λ (es : List PlainEntry). Among e es) (sym (parts b place)) ((among_append e (done_of b place) (left_in b place)).1 (inl i))) (holds_slice e.slice e.content x row holds).0))
