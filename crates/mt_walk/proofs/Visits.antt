-- A walk at a border: what it gives there, and where it goes from there.
use Rattle.std.proofs.Common.{ℕ, suc, ◌≡◌, ◌<◌, ◌≤◌, ◌+◌, ◌⊎◌, inl, inr, List, [], ◌∷◌, ◌++◌, length, slice_get, Option, Some, None, Bool, true, false, IsSomeAnd, refl, sym, ap, subst, ◌∙◌, arith}
use Rattle.std.specs.Option.{option_map, option_and_then}
use Rattle.mt_types.specs.declared.row.Row.{Row}
use Rattle.mt_types.specs.declared.numbers.NodeNo.{NodeNo}
use Rattle.mt_slice.specs.Place.{Place, last, deeper, under, Precedes, first_slice, first_class}
use Rattle.mt_border.specs.Border.{BorderView}
use Rattle.mt_border.specs.Order.{IsBorder}
use Rattle.mt_border.specs.declared.entry.Entry.{Entry}
use Rattle.mt_border.specs.declared.entry.Content.TheVariants.{Link}
use Rattle.mt_border.specs.declared.entry.RightLink.{RightLink}
use Rattle.mt_arena.specs.Node.{border_at, border_of, node_at}
use Rattle.mt_arena.specs.Arena.{ArenaView}
use Rattle.mt_arena.specs.declared.node.Node.{Node}
use Rattle.mt_arena.specs.declared.node.Node.TheVariants.{Head, Interior, Border}
use Rattle.mt_chart.specs.Tree.{Arena, PlainEntry, PlainContent, Right, link, BorderNode, Among, first, Below, no_right, before_right, Has, HoldsRow}
use Rattle.mt_chart.specs.Chart.{class, OnBorder}
use Rattle.mt_chart.specs.NotedList.{IsNotedList}
use Rattle.mt_chart.specs.Scan.{AtMost, Pair, Scanned, Passed, Visiting}
use Rattle.mt_chart.proofs.Entries.{Before, among_append, among_cases}
use Rattle.mt_chart.proofs.Keys.{holds_slice}
use Rattle.mt_chart.proofs.HeldNodes.{border_is_on}
use Rattle.mt_chart.proofs.Reach.{on_border_at}
use Rattle.mt_chart.proofs.Ranges.{border_is_noted}
use Rattle.mt_chart.proofs.PlaceOrder.{slices_rise}
use Rattle.mt_chart.proofs.Visit.{by_class, visit_takes, visit_enters, visit_goes_right, visit_leaves, visit_ends}
use Rattle.mt_slice.proofs.PlaceOrder.{sizes, precedes_again, under_precedes}
use Rattle.mt_tree.specs.Seen.{content_seen, entry_seen, arena_seen, border_seen, right_seen}
use Rattle.mt_tree.specs.Descent.{is_marked}
use Rattle.mt_tree.proofs.SeenLemmas.{seen-border, border-seen}
use Rattle.mt_steps.specs.Causes.{IsMarkedAt}
use Rattle.mt_steps.specs.Lone.{IsLoneTree}
use Rattle.mt_walk.specs.Descent.{HoldsNow, SeeksBorder}
use Rattle.mt_walk.specs.Walk.{WalkAt, NoneToCome, IsNextPair, HasGiven}
use Rattle.mt_walk.specs.Standing.{IsAbove, HasOne, IsAhead, IsDone, done_of, left_in, IsVisiting}
use Rattle.mt_walk.specs.declared.course.Stop.{Stop}
use Rattle.mt_walk.proofs.DescentLemmas.{unmarked}
use Rattle.mt_walk.proofs.Places.{parts, left_more, done_more, is_next, is_left, is_live, none_left, all_done, in_order, past_link, done_before, done_ahead, done_behind}
use Rattle.mt_walk.proofs.WalkLemmas.{scan_gives, scan_ends}

-- a border that is marked deleted
marked_border : (a : ArenaView) (number : ℕ) (b : BorderView) → border_at a.nodes number ≡ Some b → b.version.deleted ≡ true → IsMarkedAt a number
marked_border a number b named marked = go (node_at a.nodes number) named
  where
    go : (found : Option Node) → option_and_then border_of found ≡ Some b → IsSomeAnd found (λ (node : Node). is_marked node ≡ true)
    go None e = absurd (cc)
    go (Some (Head h)) e = absurd (cc)
    go (Some (Interior i)) e = absurd (cc)
    go (Some (Border c)) e = let same : c ≡ b = cc in ap (λ (x : BorderView). x.version.deleted) same ∙ marked

true_or_false : (b : Bool) → (b ≡ true) ⊎ (b ≡ false)
true_or_false true = inl refl
true_or_false false = inr refl

-- the limit of a visit may be any that the pairs keep
roomier : (arena : Arena) (start : Place) (limit more : ℕ) (prefix : List ℕ) (b : BorderView) (at : Place) (done todo : List PlainEntry) (given : List (Pair Row)) → length given ≤ more
    → Visiting (λ key row. Has arena key row) (HasOne arena) start limit prefix (border_seen b) at done todo given → Visiting (λ key row. Has arena key row) (HasOne arena) start more prefix (border_seen b) at done todo given
roomier arena start limit more prefix b at done todo given room v = record {
  split = v.split;
  scanned = record {
    onward = v.scanned.onward;
    rises = v.scanned.rises;
    from_start = v.scanned.from_start;
    few = room;
    shown = v.scanned.shown;
    covered = v.scanned.covered;
  };
  passed = v.passed;
}

-- the least place of a slice
least_of : (low : ℕ) (x : Place) → low ≤ first_slice x → AtMost (last low 0) x
least_of low (last s k) most = go (sizes low s) (sizes 0 k)
  where
    go : (low < s) ⊎ ((low ≡ s) ⊎ (s < low)) → (0 < k) ⊎ ((0 ≡ k) ⊎ (k < 0)) → AtMost (last low 0) (last s k)
    go (inl less) any = inr (inl less)
    go (inr (inr more)) any = absurd (omega (arith, most, more))
    go (inr (inl same)) (inl some) = inr (inr (same, some))
    go (inr (inl same)) (inr (inl none)) = inl (ap (λ (n : ℕ). last n 0) same ∙ ap (λ (n : ℕ). last s n) none)
    go (inr (inl same)) (inr (inr under)) = absurd (omega (arith, under))
least_of low (deeper s y) most = go (sizes low s)
  where
    go : (low < s) ⊎ ((low ≡ s) ⊎ (s < low)) → AtMost (last low 0) (deeper s y)
    go (inl less) = inr (inl less)
    go (inr (inr more)) = absurd (omega (arith, most, more))
    go (inr (inl same)) = inr (inr (same, omega arith))

-- what is ahead of it
pub ahead_of_least : (low : ℕ) (e : PlainEntry) → low ≤ e.slice → IsAhead (last low 0) e
ahead_of_least low e most = (rows, λ head is. links (sizes low e.slice))
  where
    rows : (x : Place) (row : Row) → HoldsRow e.slice e.content x row → AtMost (last low 0) x
    rows x row holds = let same = (holds_slice e.slice e.content x row holds).0 in least_of low x (omega (arith, same, most))

    links : (low < e.slice) ⊎ ((low ≡ e.slice) ⊎ (e.slice < low)) → Precedes (last low 0) (deeper e.slice (last 0 0))
    links (inl less) = inl less
    links (inr (inl same)) = inr (same, omega arith)
    links (inr (inr more)) = absurd (omega (arith, most, more))

module _ (a : ArenaView) (lone : IsLoneTree a) where
  abbrev Stood : Place → Row → Type 0
  Stood key row = Has (arena_seen a) key row

  abbrev Whole : Place → Type 0
  Whole = HasOne (arena_seen a)

  -- a border that is held now is not marked deleted, and is on
  pub held_alive : (number slice : ℕ) (prefix : List ℕ) (b : BorderView) → border_at a.nodes number ≡ Some b → HoldsNow a lone prefix number slice → b.version.deleted ≡ false
  held_alive number slice prefix b named held = elim (true_or_false b.version.deleted) [
    | inl marked ↦ absurd (unmarked a lone number slice prefix held (marked_border a number b named marked))
    | inr is ↦ is
  ]

  pub held_border : (number slice : ℕ) (prefix : List ℕ) (b : BorderView) → border_at a.nodes number ≡ Some b → HoldsNow a lone prefix number slice → OnBorder (arena_seen a) lone.w.chart number prefix (border_seen b) × (b.low ≤ slice)
  held_border number slice prefix b named held =
      border_is_on (arena_seen a) lone.w.chart lone.world.index.tree (suc lone.now) number slice prefix (border_seen b) held (seen-border a number b named) (held_alive number slice prefix b named held)

  pub noted_border : (number slice : ℕ) (prefix : List ℕ) (b : BorderView) → border_at a.nodes number ≡ Some b → HoldsNow a lone prefix number slice
      → IsNotedList (λ (row : Row). row) lone.w.chart (suc lone.now) Stood Whole prefix b.low (border_seen b).right (border_seen b).entries
  noted_border number slice prefix b named held =
      border_is_noted (λ (row : Row). row) (arena_seen a) lone.w.chart lone.world.index.tree (suc lone.now) Stood Whole (λ key row h. h) (λ key t. t) prefix number (border_seen b) (held_border number slice prefix b named held).0

  -- at the begin of a border
  pub begins_at : (start : Place) (limit : ℕ) (prefix : List ℕ) (at : Place) (here : Stop) (given : List (Pair Row)) (b : BorderView) → border_at a.nodes here.node.0 ≡ Some b → here.place ≡ 0
      → HoldsNow a lone prefix here.node.0 (first_slice at) → Below (first_slice at) (border_seen b).right → Scanned Stood Whole start limit (under prefix at) given
      → ((pair : Pair Row) → Among pair given → Precedes pair.key (under prefix at)) → ((e : PlainEntry) → Among e (border_seen b).entries → IsAhead at e)
      → IsVisiting a lone start limit prefix at here given
  begins_at start limit prefix at here given b named first_place held to_right scanned past ahead = record {
    b = b;
    named = named;
    held = held;
    to_right = to_right;
    visiting = record {
      split = parts b here.place;
      scanned = scanned;
      passed = λ e i. absurd (none e (subst (λ (n : ℕ). Among e (done_of b n)) first_place i));
    };
    ahead = λ e i. ahead e (subst (λ (es : List PlainEntry). Among e es) (sym (parts b here.place)) ((among_append e (done_of b here.place) (left_in b here.place)).1 (inr i)));
    done = λ pair i. inl (past pair i);
  }
    where
      none : (e : PlainEntry) → Among e (done_of b 0) → ⊥
      none e i = elim i [ ]

  -- ---- at a border
  module _ (start : Place) (limit : ℕ) (prefix : List ℕ) (at : Place) (here : Stop) (given : List (Pair Row)) (v : IsVisiting a lone start limit prefix at here given) (sound : IsBorder v.b) where
    from_low : v.b.low ≤ first_slice at
    from_low = (held_border here.node.0 (first_slice at) prefix v.b v.named v.held).1

    noted : IsNotedList (λ (row : Row). row) lone.w.chart (suc lone.now) Stood Whole prefix v.b.low (border_seen v.b).right (border_seen v.b).entries
    noted = noted_border here.node.0 (first_slice at) prefix v.b v.named v.held

    -- ---- an entry
    module _ (entry : Entry) (there : slice_get v.b.live here.place ≡ Some entry) where
      at_entry : (more : ℕ) → length given ≤ more → Visiting Stood Whole start more prefix (border_seen v.b) at (done_of v.b here.place) (entry_seen entry ∷ left_in v.b (here.place + 1)) given
      at_entry more room = roomier (arena_seen a) start limit more prefix v.b at (done_of v.b here.place) (entry_seen entry ∷ left_in v.b (here.place + 1)) given room
          (subst (λ (es : List PlainEntry). Visiting Stood Whole start limit prefix (border_seen v.b) at (done_of v.b here.place) es given) (left_more v.b here.place entry there) v.visiting)

      module _ (x : Place) (row : Row) (holds : HoldsRow entry.slice (content_seen entry.content) x row) where
        abbrev new : Pair Row
        new = record { key = under prefix x; value = row }

        abbrev past : Stop
        past = record here { place = here.place + 1 }

        most : AtMost at x
        most = (v.ahead (entry_seen entry) (is_next v.b here.place entry there)).0 x row holds

        taken : Visiting Stood Whole start (length given + 1) prefix (border_seen v.b) at (done_of v.b here.place ++ entry_seen entry ∷ []) (left_in v.b (here.place + 1)) (given ++ new ∷ [])
        taken =
            visit_takes Stood Whole (λ (r : Row). r) lone.w.chart (suc lone.now) start (length given + 1) prefix (border_seen v.b) noted (in_order v.b sound) at from_low v.to_right
            (done_of v.b here.place) (entry_seen entry) (left_in v.b (here.place + 1)) given (at_entry (length given + 1) (omega arith)) x row holds most
            (λ pair i. done_ahead prefix at v.b sound here.place pair (v.done pair i) (entry_seen entry) (is_next v.b here.place entry there) x most (holds_slice entry.slice (content_seen entry.content) x row holds).0 (holds_slice entry.slice (content_seen entry.content) x row holds).1)
            (omega arith)

        pub takes_goes : IsVisiting a lone start (length given + 1) prefix at past (given ++ new ∷ [])
        takes_goes = record {
          b = v.b;
          named = v.named;
          held = v.held;
          to_right = v.to_right;
          visiting = subst (λ (es : List PlainEntry). Visiting Stood Whole start (length given + 1) prefix (border_seen v.b) at es (left_in v.b (here.place + 1)) (given ++ new ∷ [])) (sym (done_more v.b here.place entry there)) taken;
          ahead = λ e i. v.ahead e (is_left v.b here.place entry there e i);
          done = λ pair i. subst (λ (es : List PlainEntry). IsDone prefix at es pair) (sym (done_more v.b here.place entry there)) (done_now pair ((among_append pair given (new ∷ [])).0 i));
        }
          where
            more : (pair : Pair Row) → IsDone prefix at (done_of v.b here.place) pair → IsDone prefix at (done_of v.b here.place ++ entry_seen entry ∷ []) pair
            more pair (inl before) = inl before
            more pair (inr (e, y, r, i, h, same)) = inr (e, y, r, (among_append e (done_of v.b here.place) (entry_seen entry ∷ [])).1 (inl i), h, same)

            done_now : (pair : Pair Row) → Among pair given ⊎ Among pair (new ∷ []) → IsDone prefix at (done_of v.b here.place ++ entry_seen entry ∷ []) pair
            done_now pair (inl i) = more pair (v.done pair i)
            done_now pair (inr i) = elim (among_cases pair new [] i) [
              | inl same ↦ inr (entry_seen entry, x, row, (among_append (entry_seen entry) (done_of v.b here.place) (entry_seen entry ∷ [])).1 (inr first), holds, ap (λ (p : Pair Row). p.key) same)
              | inr none ↦ elim none [ ]
            ]

        pub takes_gives : (stands : WalkAt) → HasGiven start given stands → IsNextPair (arena_seen a) stands new
        takes_gives stands has =
            scan_gives (arena_seen a) start (length given + 1) given stands has (under prefix at) new v.visiting.scanned.rises v.visiting.scanned.from_start taken.scanned

      -- a link
      module _ (head : NodeNo) (is : entry.content ≡ Link head) where
        seen_link : content_seen entry.content ≡ link head.0
        seen_link = ap content_seen is

        pub before_layer : Precedes at (deeper entry.slice (last 0 0))
        before_layer = (v.ahead (entry_seen entry) (is_next v.b here.place entry there)).1 head.0 seen_link

        pub enters_scanned : Scanned Stood Whole start limit (under (entry.slice ∷ prefix) (last 0 0)) given
        enters_scanned =
            visit_enters Stood Whole (λ (r : Row). r) lone.w.chart (suc lone.now) start limit prefix (border_seen v.b) noted (in_order v.b sound) at from_low v.to_right
            (done_of v.b here.place) (entry_seen entry) (left_in v.b (here.place + 1)) given head.0 (at_entry limit v.visiting.scanned.few) seen_link before_layer

        pub enters_past : (pair : Pair Row) → Among pair given → Precedes pair.key (under (entry.slice ∷ prefix) (last 0 0))
        enters_past pair i = done_ahead prefix at v.b sound here.place pair (v.done pair i) (entry_seen entry) (is_next v.b here.place entry there) (deeper entry.slice (last 0 0)) (inr before_layer) refl (ap class (sym seen_link))

        pub enters_held : (sought : ℕ) → HoldsNow a lone (entry.slice ∷ prefix) head.0 sought
        enters_held sought = noted.heads entry.slice head.0 sought
            (subst (λ (c : PlainContent). Among (record { slice = entry.slice; content = c }) (border_seen v.b).entries) seen_link (is_live v.b here.place entry there))

        pub enters_above : IsAbove a lone prefix (record { slice = entry.slice; place = here.place + 1; node = here.node })
        enters_above =
            let less = slices_rise at (deeper entry.slice (last 0 0)) (inr before_layer) in
            let low = v.held.at_most in
            record {
              b = v.b;
              named = v.named;
              sound = sound;
              held = record { role = v.held.role; low = v.held.low; standing = v.held.standing; place = v.held.place; at_most = omega (arith, less, low); since = v.held.since };
              place = here.place;
              past = refl;
              entry = entry;
              there = there;
              at_slice = refl;
              head = head;
              is_link = is;
            }

        -- it goes to the first border of the layer
        pub enters_layer : (number : NodeNo) → SeeksBorder a head.0 0 number.0 → IsVisiting a lone start limit (entry.slice ∷ prefix) (last 0 0) (record { node = number; place = 0; slice = 0 }) given
        enters_layer number found =
            begins_at start limit (entry.slice ∷ prefix) (last 0 0) (record { node = number; place = 0; slice = 0 }) given found.at_slice.border found.at_slice.named refl
            (found.leads lone (entry.slice ∷ prefix) (enters_held 0)) found.at_slice.to_right enters_scanned enters_past (λ e i. ahead_of_least 0 e (omega arith))

    -- ---- the end of the border
    module _ (few : length v.b.live ≤ here.place) where
      at_end : (more : ℕ) → length given ≤ more → Visiting Stood Whole start more prefix (border_seen v.b) at (border_seen v.b).entries [] given
      at_end more room = roomier (arena_seen a) start limit more prefix v.b at (border_seen v.b).entries [] given room
          (subst (λ (es : List PlainEntry). Visiting Stood Whole start limit prefix (border_seen v.b) at es [] given) (all_done v.b here.place few)
          (subst (λ (es : List PlainEntry). Visiting Stood Whole start limit prefix (border_seen v.b) at (done_of v.b here.place) es given) (none_left v.b here.place few) v.visiting))

      -- to the right
      module _ (right : RightLink) (is : v.b.right ≡ Some right) where
        seen_right : (border_seen v.b).right ≡ Some (right_seen right)
        seen_right = ap (option_map right_seen) is

        pub slice_less : (s : ℕ) → Below s (border_seen v.b).right → s < right.low
        slice_less s h = less (subst (λ (r : Option Right). Below s r) seen_right h)
          where
            less : Below s (Some (right_seen right)) → s < right.low
            less (before_right h) = h

        before_low : (x : Place) → first_slice x < right.low → Precedes x (last right.low 0)
        before_low (last s k) h = inl h
        before_low (deeper s y) h = inl h

        right_scanned : Scanned Stood Whole start limit (under prefix (last right.low 0)) given
        right_scanned =
            visit_goes_right Stood Whole (λ (r : Row). r) lone.w.chart (suc lone.now) start limit prefix (border_seen v.b) noted (in_order v.b sound) at from_low v.to_right
            given (right_seen right) (at_end limit v.visiting.scanned.few) seen_right

        right_past : (pair : Pair Row) → Among pair given → Precedes pair.key (under prefix (last right.low 0))
        right_past pair i = done_behind prefix at v.b sound here.place pair (v.done pair i) (last right.low 0) (before_low at (slice_less (first_slice at) v.to_right))
            (λ e x j same. before_low x (let less = slice_less e.slice (noted.to_right e j) in omega (arith, less, same)))

        pub goes_right : IsVisiting a lone start limit prefix (last right.low 0) (record { node = right.node; place = 0; slice = right.low }) given
        goes_right =
            let on = (held_border here.node.0 (first_slice at) prefix v.b v.named v.held).0 in
            let (rises, posted, place) = (lone.world.index.tree.each_border here.node.0 prefix (border_seen v.b) on).right (right_seen right) seen_right in
            let (node, stands, low) = on_border_at (arena_seen a) lone.w.chart lone.world.index.tree right.node.0 prefix right.low posted place in
            let whole = lone.world.index.tree.each_border right.node.0 prefix node stands in
            let (c, named, same) = border-seen a right.node.0 node stands.node in
            begins_at start limit prefix (last right.low 0) (record { node = right.node; place = 0; slice = right.low }) given c named refl
            (noted.next (right_seen right) seen_right right.low (omega arith))
            (subst (λ (n : BorderNode). Below right.low n.right) (sym same) (below node low (λ other e. (whole.right other e).0)))
            right_scanned right_past
            (λ e i. ahead_of_least right.low e (let least = whole.from_low e (subst (λ (n : BorderNode). Among e n.entries) same i) in omega (arith, least, low)))
          where
            below : (node : BorderNode) → node.low ≡ right.low → ((other : Right) → node.right ≡ Some other → node.low < other.low) → Below right.low node.right
            below node low rises = go node.right refl
              where
                go : (r : Option Right) → node.right ≡ r → Below right.low r
                go None e = no_right
                go (Some other) e = before_right (let less = rises other e in omega (arith, less, low))

      -- ---- the end of a layer
      module _ (last_one : v.b.right ≡ None) where
        seen_last : (border_seen v.b).right ≡ None
        seen_last = ap (option_map right_seen) last_one

        pub ends_all : prefix ≡ [] → (stands : WalkAt) → HasGiven start given stands → NoneToCome (arena_seen a) stands
        ends_all top stands has =
            scan_ends (arena_seen a) start (length given + 1) given stands has
            (visit_ends Stood Whole (λ (r : Row). r) lone.w.chart (suc lone.now) start (length given + 1) prefix (border_seen v.b) noted (in_order v.b sound) at from_low v.to_right
            given (at_end (length given + 1) (omega arith)) seen_last top)
            (omega arith)

        module _ (stop : Stop) (above : List ℕ) (below : prefix ≡ stop.slice ∷ above) (s : IsAbove a lone above stop) where
          leaves_scanned : Scanned Stood Whole start limit (under above (last stop.slice 10)) given
          leaves_scanned =
              visit_leaves Stood Whole (λ (r : Row). r) lone.w.chart (suc lone.now) start limit prefix (border_seen v.b) noted (in_order v.b sound) at from_low v.to_right
              given stop.slice above (at_end limit v.visiting.scanned.few) seen_last below

          behind_layer : (y : Place) → Precedes (under prefix y) (under above (last stop.slice 10))
          behind_layer y = subst (λ (p : List ℕ). Precedes (under p y) (under above (last stop.slice 10))) (sym below) (under_precedes above (deeper stop.slice y) (last stop.slice 10) (inr (refl, omega arith)))

          leaves_past : (pair : Pair Row) → Among pair given → Precedes pair.key (under above (last stop.slice 10))
          leaves_past pair i = go (v.done pair i)
            where
              go : IsDone prefix at (done_of v.b here.place) pair → Precedes pair.key (under above (last stop.slice 10))
              go (inl before) = precedes_again pair.key (under prefix at) (under above (last stop.slice 10)) before (behind_layer at)
              go (inr (e, x, row, j, h, same)) = subst (λ (k : Place). Precedes k (under above (last stop.slice 10))) (sym same) (behind_layer x)

          abbrev link_entry : PlainEntry
          link_entry = entry_seen s.entry

          link_is : content_seen s.entry.content ≡ link s.head.0
          link_is = ap content_seen s.is_link

          is_past : stop.place ≡ s.place + 1
          is_past = s.past

          passed_one : (e : PlainEntry) → (e.slice < stop.slice) ⊎ ((e.slice ≡ stop.slice) × (class e.content ≤ 9)) → Passed above (last stop.slice 10) given e
          passed_one e before = (λ x row holds. inl (by_class x (last stop.slice 10) (rows x (holds_slice e.slice e.content x row holds).0 (holds_slice e.slice e.content x row holds).1 before)), λ head is. links before)
            where
              rows : (x : Place) → first_slice x ≡ e.slice → first_class x ≡ class e.content → (e.slice < stop.slice) ⊎ ((e.slice ≡ stop.slice) × (class e.content ≤ 9)) → (first_slice x < stop.slice) ⊎ ((first_slice x ≡ stop.slice) × (first_class x < 10))
              rows x slice class_is (inl less) = inl (omega (arith, slice, less))
              rows x slice class_is (inr both) = let most = both.1 in inr (slice ∙ both.0, omega (arith, class_is, most))

              links : (e.slice < stop.slice) ⊎ ((e.slice ≡ stop.slice) × (class e.content ≤ 9)) → AtMost (last e.slice 10) (last stop.slice 10)
              links (inl less) = inr (inl less)
              links (inr both) = inl (ap (λ (n : ℕ). last n 10) both.0)

          passed_all : (e : PlainEntry) → Among e (done_of s.b stop.place) → Passed above (last stop.slice 10) given e
          passed_all e i = passed_one e (go ((among_append e (done_of s.b s.place) (link_entry ∷ [])).0 (subst (λ (es : List PlainEntry). Among e es) (done_more s.b s.place s.entry s.there) (subst (λ (n : ℕ). Among e (done_of s.b n)) is_past i))))
            where
              slice_is : s.entry.slice ≡ stop.slice
              slice_is = s.at_slice

              nine : class (content_seen s.entry.content) ≡ 9
              nine = ap class link_is

              before : Before e link_entry → (e.slice < stop.slice) ⊎ ((e.slice ≡ stop.slice) × (class e.content ≤ 9))
              before (inl less) = inl (omega (arith, less, slice_is))
              before (inr both) = let less = both.1 in inr (both.0 ∙ slice_is, omega (arith, less, nine))

              go : Among e (done_of s.b s.place) ⊎ Among e (link_entry ∷ []) → (e.slice < stop.slice) ⊎ ((e.slice ≡ stop.slice) × (class e.content ≤ 9))
              go (inl j) = before (done_before s.b s.sound s.place e link_entry j (is_next s.b s.place s.entry s.there))
              go (inr j) = elim (among_cases e link_entry [] j) [
                | inl same ↦ inr (ap (λ (z : PlainEntry). z.slice) same ∙ slice_is, (let nine_too : class e.content ≡ 9 = ap (λ (z : PlainEntry). class z.content) same ∙ nine in omega (arith, nine_too)))
                | inr none ↦ elim none [ ]
              ]

          ahead_one : (e : PlainEntry) → stop.slice < e.slice → IsAhead (last stop.slice 10) e
          ahead_one e less = (λ x row holds. inr (by_class (last stop.slice 10) x (inl (let same = (holds_slice e.slice e.content x row holds).0 in omega (arith, same, less)))), λ head is. inl less)

          pub goes_above : IsVisiting a lone start limit above (last stop.slice 10) stop given
          goes_above = record {
            b = s.b;
            named = s.named;
            held = s.held;
            to_right = subst (λ (n : ℕ). Below n (border_seen s.b).right) s.at_slice ((noted_border stop.node.0 stop.slice above s.b s.named s.held).to_right link_entry (is_live s.b s.place s.entry s.there));
            visiting = record { split = parts s.b stop.place; scanned = leaves_scanned; passed = passed_all };
            ahead = λ e i. ahead_one e (let less = past_link s.b s.sound s.place s.entry s.head.0 s.there link_is e (subst (λ (n : ℕ). Among e (left_in s.b n)) is_past i) in let same = s.at_slice in omega (arith, less, same));
            done = λ pair i. inl (leaves_past pair i);
          }
