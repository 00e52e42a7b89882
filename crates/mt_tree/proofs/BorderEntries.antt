-- The entries of a border as they are seen: in order, and what stands among them once one is hidden, changed or shown.
use Rattle.std.proofs.Common.{ℕ, zero, suc, ◌≡◌, ◌≢◌, ◌<◌, ◌≤◌, ◌+◌, ◌*◌, ◌⊎◌, ◌↔◌, inl, inr, List, [], ◌∷◌, ◌++◌, take, drop, slice_get, Option, Some, None, IsSomeAnd, refl, ap, sym, subst, ◌∙◌, arith}
use Rattle.std.specs.List.{All, remove}
use Rattle.std.specs.Option.{option_map}
use Rattle.std.proofs.lemmas.List.{map-append, take-append-drop}
use native.Mathlib.Decide.{dec_lt}
use Rattle.mt_border.specs.Entry.{IsEntry, IsContent, entry_rank, content_class}
use Rattle.mt_slice.specs.Classes.{class_number}
use Rattle.mt_border.specs.Border.{BorderView}
use Rattle.mt_border.specs.Order.{IsBorder, IsOrdered, AreEntries, IsLeftOf}
use Rattle.mt_border.specs.Table.{changed_at}
use Rattle.mt_border.specs.declared.entry.Content.{Content}
use Rattle.mt_border.specs.declared.entry.Content.TheVariants.{Short, Long, Link}
use Rattle.mt_border.specs.declared.entry.Entry.{Entry}
use Rattle.mt_border.specs.declared.entry.RightLink.{RightLink}
use Rattle.mt_chart.specs.Tree.{Among, first, later, Below, no_right, before_right}
use Rattle.mt_chart.specs.Tree.{PlainEntry}
use Rattle.mt_chart.specs.Chart.{class}
use Rattle.mt_chart.proofs.Entries.{Before, InOrder, among_append, among_insert, among_hidden, among_set, in_order_apart, stands_once}
use Rattle.mt_tree.specs.Seen.{content_seen, entry_seen, entries_seen, right_seen}
use Rattle.mt_tree.proofs.SeenLemmas.{among_unmap}

-- what is asked of a node that is known
pub asked : {A : Type 0} (P : A → Type 0) (there : Option A) (known : A) → there ≡ Some known → IsSomeAnd there P → P known
asked P there known is holds = subst (λ (o : Option _). IsSomeAnd o P) is holds

-- what holds of all holds of what is among them
pub all_among : {A : Type 0} (P : A → Type 0) (xs : List A) → All P xs → (x : A) → Among x xs → P x
all_among P [] h x i = elim i [ ]
all_among P (y ∷ xs) h x first = h 0 x (omega arith)
all_among P (y ∷ xs) h x (later i) = all_among P xs (λ k d within. h (suc k) d (omega arith)) x i

-- the entry at a place, and those before and after it
pub record Focus (entries : List Entry) (place : ℕ) (entry : Entry) : Type 0 where
  pub before : List Entry
  pub behind : List Entry
  pub whole : entries ≡ before ++ (entry ∷ behind)
  pub dropped : drop place entries ≡ entry ∷ behind
  pub hidden : remove entries place ≡ before ++ behind
  pub changed : (change : Entry → Entry) → changed_at place change entries ≡ before ++ (change entry ∷ behind)

pub focus : (entries : List Entry) (place : ℕ) (entry : Entry) → slice_get entries place ≡ Some entry → Focus entries place entry
focus [] place entry e = absurd (cc)
focus (x ∷ xs) zero entry e =
    let same : x ≡ entry = cc in
    record { before = []; behind = xs; whole = ap (λ (y : Entry). y ∷ xs) same; dropped = ap (λ (y : Entry). y ∷ xs) same; hidden = refl; changed = λ change. ap (λ (y : Entry). change y ∷ xs) same }
focus (x ∷ xs) (suc place) entry e =
    let f = focus xs place entry e in
    let more : List Entry → List Entry = λ ys. x ∷ ys in
    record { before = x ∷ f.before; behind = f.behind; whole = ap more f.whole; dropped = f.dropped; hidden = ap more f.hidden; changed = λ change. ap more (f.changed change) }

-- entries in order are seen in order
class_is : (content : Content) → class (content_seen content) ≡ class_number (content_class content)
class_is (Short bytes row) = refl
class_is (Long suffix row) = refl
class_is (Link top) = refl

class_most : (content : Content) → IsContent content → class_number (content_class content) ≤ 9
class_most (Short bytes row) h = omega arith
class_most (Long suffix row) h = omega arith
class_most (Link top) h = omega arith

first_parts : (s t c d : ℕ) → d ≤ 9 → s * 10 + c < t * 10 + d → (s < t) ⊎ ((s ≡ t) × (c < d))
first_parts s t c d most lt = go (dec_lt s t)
  where
    go : Dec (s < t) → (s < t) ⊎ ((s ≡ t) × (c < d))
    go (yes h) = inl h
    go (no h) = inr (omega arith, omega arith)

rank_before : (x y : Entry) → IsEntry y → entry_rank x < entry_rank y → Before (entry_seen x) (entry_seen y)
rank_before x y h lt = rw (class_is x.content, class_is y.content)
    (first_parts x.slice y.slice (class_number (content_class x.content)) (class_number (content_class y.content)) (class_most y.content h.content) lt)

pub seen_in_order : (entries : List Entry) → IsOrdered entries → AreEntries entries → InOrder (entries_seen entries)
seen_in_order [] o h = tt
seen_in_order (x ∷ xs) o h = (
  λ f i. (let s = among_unmap entry_seen f xs i in
      subst (λ (v : PlainEntry). Before (entry_seen x) v) s.is
      (rank_before x s.source (all_among IsEntry xs (λ k d within. h.each (suc k) d (omega arith)) s.source s.stands) (all_among (λ (y : Entry). entry_rank x < entry_rank y) xs (λ k d within. o.pairs 0 (suc k) d (omega arith) (omega arith)) s.source s.stands))),
  seen_in_order xs (record { pairs = λ i j d before within. o.pairs (suc i) (suc j) d (omega arith) (omega arith) }) (record { each = λ k d within. h.each (suc k) d (omega arith) }),
)

-- an entry of a border stands in its interval
pub seen_from_low : (b : BorderView) → IsBorder b → (e : PlainEntry) → Among e (entries_seen b.live) → b.low ≤ e.slice
seen_from_low b h e i = let s = among_unmap entry_seen e b.live i in
    subst (λ (v : PlainEntry). b.low ≤ v.slice) s.is (all_among (λ (y : Entry). b.low ≤ y.slice) b.live h.from_low.each s.source s.stands)

pub seen_to_right : (low : ℕ) (live : List Entry) (right : Option RightLink) → IsLeftOf low live right → (e : PlainEntry) → Among e (entries_seen live) → Below e.slice (option_map right_seen right)
seen_to_right low live None h e i = no_right
seen_to_right low live (Some link) h e i = let s = among_unmap entry_seen e live i in
    before_right (subst (λ (v : PlainEntry). v.slice < link.low) s.is (all_among (λ (y : Entry). y.slice < link.low) live h.1.each s.source s.stands))

module _ (live : List Entry) (place : ℕ) where
  joined : entries_seen (take place live) ++ entries_seen (drop place live) ≡ entries_seen live
  joined = sym (map-append entry_seen (take place live) (drop place live)) ∙ ap entries_seen (take-append-drop place live)

  -- the entries before a place and those from it on are the entries
  pub seen_parts : (e : PlainEntry) → Among e (entries_seen live) ↔ (Among e (entries_seen (take place live)) ⊎ Among e (entries_seen (drop place live)))
  seen_parts e = rw (← joined) (among_append e (entries_seen (take place live)) (entries_seen (drop place live)))

  -- if an entry is shown at a place, it is among the entries, and so is each that was
  module _ (x : Entry) where
    abbrev inserted : List Entry
    inserted = take place live ++ (x ∷ drop place live)

    around_seen : entries_seen inserted ≡ entries_seen (take place live) ++ (entry_seen x ∷ entries_seen (drop place live))
    around_seen = map-append entry_seen (take place live) (x ∷ drop place live)

    pub seen_inserted : (e : PlainEntry) → Among e (entries_seen inserted) ↔ ((e ≡ entry_seen x) ⊎ Among e (entries_seen live))
    seen_inserted e = rw (around_seen, ← joined) (among_insert e (entry_seen x) (entries_seen (take place live)) (entries_seen (drop place live)))

    -- then none that stood has its slice and class, if they are in order
    pub seen_inserted_lacked : IsOrdered inserted → AreEntries inserted → (e : PlainEntry) → Among e (entries_seen live) → e.slice ≡ x.slice → class e.content ≢ class (entry_seen x).content
    seen_inserted_lacked ordered whole e i slices classes =
        let in_order : InOrder (entries_seen inserted) = seen_in_order inserted ordered whole in
        let same : e ≡ entry_seen x = in_order_apart (entries_seen inserted) in_order e (entry_seen x) ((seen_inserted e).1 (inr i)) ((seen_inserted (entry_seen x)).1 (inl refl)) slices classes in
        stands_once e (entry_seen x) (entries_seen (take place live)) (entries_seen (drop place live)) (rw around_seen at in_order) (rw joined i) same

-- if the entry at a place is hidden, each other stays; if it is changed, what it is changed to is there instead
module _ (live : List Entry) (place : ℕ) (entry : Entry) (ordered : IsOrdered live) (whole : AreEntries live) (there : slice_get live place ≡ Some entry) where
  at : Focus live place entry
  at = focus live place entry there

  split : (x : Entry) → entries_seen (at.before ++ (x ∷ at.behind)) ≡ entries_seen at.before ++ (entry_seen x ∷ entries_seen at.behind)
  split x = map-append entry_seen at.before (x ∷ at.behind)

  around : entries_seen live ≡ entries_seen at.before ++ (entry_seen entry ∷ entries_seen at.behind)
  around = ap entries_seen at.whole ∙ split entry

  in_order : InOrder (entries_seen at.before ++ (entry_seen entry ∷ entries_seen at.behind))
  in_order = subst InOrder around (seen_in_order live ordered whole)

  pub seen_there : Among (entry_seen entry) (entries_seen live)
  seen_there = rw around ((among_insert (entry_seen entry) (entry_seen entry) (entries_seen at.before) (entries_seen at.behind)).1 (inl refl))

  pub seen_hidden : (e : PlainEntry) → Among e (entries_seen (remove live place)) ↔ (Among e (entries_seen live) × (e ≢ entry_seen entry))
  seen_hidden e = rw (at.hidden, map-append entry_seen at.before at.behind, around) (among_hidden (entry_seen entry) (entries_seen at.before) (entries_seen at.behind) in_order e)

  pub seen_changed : (change : Entry → Entry) (e : PlainEntry) → Among e (entries_seen (changed_at place change live)) ↔ ((e ≡ entry_seen (change entry)) ⊎ (Among e (entries_seen live) × (e ≢ entry_seen entry)))
  seen_changed change e = rw (at.changed change, split (change entry), around) (among_set (entry_seen entry) (entry_seen (change entry)) (entries_seen at.before) (entries_seen at.behind) in_order e)
