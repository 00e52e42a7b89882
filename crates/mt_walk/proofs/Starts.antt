-- A walk on the way to its first pair: down the layers of its key, to the border where that key ends.
use Rattle.std.proofs.Common.{ℕ, suc, ◌≡◌, ◌≢◌, ◌<◌, ◌≤◌, ◌+◌, ◌^◌, ◌⊎◌, inl, inr, false, List, [], ◌∷◌, ◌++◌, length, drop, reverse, slice_get, Option, Some, refl, sym, ap, subst, ◌∙◌, arith}
use Rattle.std.proofs.lemmas.Option.{slice_get_cases}
use Rattle.std.proofs.lemmas.List.{reverse-append}
use Rattle.mt_types.specs.declared.limits.TheConstants.{MAX_KEY_BYTES}
use Rattle.mt_types.specs.declared.row.Row.{Row}
use Rattle.mt_types.specs.declared.numbers.NodeNo.{NodeNo}
use Rattle.mt_slice.specs.Place.{Place, last, deeper, under, Precedes, AreBytes, first_slice, first_class, place_of, slice_number}
use Rattle.mt_slice.proofs.PlaceOn.{place_of-short, place_of-long}
use Rattle.mt_slice.proofs.PlaceOrder.{sizes}
use Rattle.mt_slice.proofs.Slices.{bytes-drop, slice_number-below}
use Rattle.mt_border.specs.Border.{BorderView}
use Rattle.mt_border.specs.Order.{IsBorder}
use Rattle.mt_border.specs.declared.entry.Entry.{Entry}
use Rattle.mt_border.specs.declared.entry.Content.{Content}
use Rattle.mt_border.specs.declared.entry.Content.TheVariants.{Short, Long, Link}
use Rattle.mt_arena.specs.Node.{border_at}
use Rattle.mt_arena.specs.Arena.{ArenaView, IsArena}
use Rattle.mt_chart.specs.Tree.{PlainEntry, PlainContent, Below, link, Among, first, Has, HoldsRow}
use Rattle.mt_chart.specs.Chart.{class}
use Rattle.mt_chart.specs.Scan.{Scanned}
use Rattle.mt_chart.proofs.Entries.{Before, InOrder, among_cases}
use Rattle.mt_chart.proofs.Keys.{holds_slice}
use Rattle.mt_chart.proofs.PlaceOrder.{most_then}
use Rattle.mt_chart.proofs.Ranges.{scan_begins, holds_top}
use Rattle.mt_chart.proofs.Visit.{by_class}
use Rattle.mt_tree.specs.Seen.{arena_seen, border_seen, content_seen, entry_seen}
use Rattle.mt_steps.specs.Lone.{IsLoneTree}
use Rattle.mt_walk.specs.Descent.{HoldsNow, MaySeek, SeeksBorder}
use Rattle.mt_walk.specs.Standing.{slices_of, prefix_of, ArePath, AreNarrow, HasOne, IsAhead, IsAbove, done_of, left_in, IsVisiting}
use Rattle.mt_walk.specs.Start.{BeginsAt, LinksAt, LinksNot}
use Rattle.mt_walk.specs.Steps.{Begins}
use Rattle.mt_walk.specs.declared.course.Stop.{Stop}
use Rattle.mt_walk.proofs.Places.{parts, left_more, is_live, none_left, past_link, place_before, in_order, before_parts}
use Rattle.mt_walk.proofs.StartLemmas.{first_of_rest}
use Rattle.mt_walk.proofs.Visits.{noted_border}

order_behind : (xs ys : List PlainEntry) → InOrder (xs ++ ys) → InOrder ys
order_behind [] ys order = order
order_behind (x ∷ xs) ys order = order_behind xs ys order.1

-- ---- what is left of a border is ahead
module _ (b : BorderView) (sound : IsBorder b) (place : ℕ) (rest : List ℕ) (begins : BeginsAt b.live (place_of rest) place) (no_link : LinksNot b.live place rest) where
  module _ (entry : Entry) (there : slice_get b.live place ≡ Some entry) where
    -- the entry there is before all that follow
    next_before : (f : PlainEntry) → Among f (left_in b (place + 1)) → Before (entry_seen entry) f
    next_before f i = before_parts (entry_seen entry ∷ []) (left_in b (place + 1)) (subst InOrder (left_more b place entry there) order) (entry_seen entry) f first i
      where
        order : InOrder (left_in b place)
        order = order_behind (done_of b place) (left_in b place) (subst InOrder (parts b place) (in_order b sound))

    -- a place of one that follows
    after_place : (f : PlainEntry) → Among f (left_in b (place + 1)) → (y : Place) → first_slice y ≡ f.slice → first_class y ≡ class f.content → Precedes (place_of rest) y
    after_place f i y slice class_is = go entry.content refl
      where
        row_at : (x : Place) (row : Row) → HoldsRow entry.slice (content_seen entry.content) x row → Precedes (place_of rest) y
        row_at x row holds = most_then (place_of rest) x y ((begins.left entry there).0 x row holds) (place_before (entry_seen entry) f x y row (next_before f i) holds slice class_is)

        link_at : (head : NodeNo) → entry.content ≡ Link head → Precedes (place_of rest) y
        link_at head is =
            let most = (begins.left entry there).1 head.0 (ap content_seen is) in
            let less = past_link b sound place entry head.0 there (ap content_seen is) f i in
            by_class (place_of rest) y (inl (omega (arith, most, less, slice)))

        go : (c : Content) → entry.content ≡ c → Precedes (place_of rest) y
        go (Short bytes row) is = row_at (last entry.slice bytes) row (subst (λ (c : Content). HoldsRow entry.slice (content_seen c) (last entry.slice bytes) row) (sym is) (refl, refl))
        go (Long suffix row) is = row_at (deeper entry.slice (place_of suffix)) row (subst (λ (c : Content). HoldsRow entry.slice (content_seen c) (deeper entry.slice (place_of suffix)) row) (sym is) (refl, refl))
        go (Link head) is = link_at head is

    -- a link there
    before_link : (head : NodeNo) → entry.content ≡ Link head → Precedes (place_of rest) (deeper entry.slice (last 0 0))
    before_link head is = go (sizes (slice_number rest) entry.slice)
      where
        short_rest : (slice_number rest ≡ entry.slice) → (entry.slice ≢ slice_number rest) ⊎ (length rest ≤ 8) → Precedes (place_of rest) (deeper entry.slice (last 0 0))
        short_rest same (inl other) = absurd (other (sym same))
        short_rest same (inr few) = subst (λ (p : Place). Precedes p (deeper entry.slice (last 0 0))) (sym (place_of-short rest few)) (inr (same, omega (arith, few)))

        go : (slice_number rest < entry.slice) ⊎ ((slice_number rest ≡ entry.slice) ⊎ (entry.slice < slice_number rest)) → Precedes (place_of rest) (deeper entry.slice (last 0 0))
        go (inl less) = by_class (place_of rest) (deeper entry.slice (last 0 0)) (inl (let at_rest = first_of_rest rest in omega (arith, at_rest, less)))
        go (inr (inl same)) = short_rest same (no_link entry head there is)
        go (inr (inr more)) = absurd (let most = (begins.left entry there).1 head.0 (ap content_seen is) in let at_rest = first_of_rest rest in omega (arith, most, at_rest, more))

    here_ahead : IsAhead (place_of rest) (entry_seen entry)
    here_ahead = ((begins.left entry there).0, λ head is. go entry.content refl head is)
      where
        go : (c : Content) → entry.content ≡ c → (head : ℕ) → content_seen entry.content ≡ link head → Precedes (place_of rest) (deeper entry.slice (last 0 0))
        go (Short bytes row) e head is = absurd (no_short bytes row head (sym (ap content_seen e) ∙ is))
          where
            no_short : (bytes : ℕ) (row : Row) (head : ℕ) → content_seen (Short bytes row) ≡ link head → ⊥
            no_short bytes row head e = cc
        go (Long suffix row) e head is = absurd (no_long suffix row head (sym (ap content_seen e) ∙ is))
          where
            no_long : (suffix : List ℕ) (row : Row) (head : ℕ) → content_seen (Long suffix row) ≡ link head → ⊥
            no_long suffix row head e = cc
        go (Link top) e head is = before_link top e

    all_ahead : (f : PlainEntry) → Among f (entry_seen entry ∷ left_in b (place + 1)) → IsAhead (place_of rest) f
    all_ahead f i = elim (among_cases f (entry_seen entry) (left_in b (place + 1)) i) [
      | inl same ↦ subst (λ (z : PlainEntry). IsAhead (place_of rest) z) (sym same) here_ahead
      | inr more ↦ (
        λ x row holds. inr (after_place f more x (holds_slice f.slice f.content x row holds).0 (holds_slice f.slice f.content x row holds).1),
        λ head is. after_place f more (deeper f.slice (last 0 0)) refl (ap class (sym is)),
      )
    ]

  pub starts_ahead : (f : PlainEntry) → Among f (left_in b place) → IsAhead (place_of rest) f
  starts_ahead f i = elim (slice_get_cases b.live place).1 [
    | inl some ↦ all_ahead some.0 some.2 f (subst (λ (es : List PlainEntry). Among f es) (left_more b place some.0 some.2) i)
    | inr none ↦ absurd (no_more (subst (λ (es : List PlainEntry). Among f es) (none_left b place none.0) i))
  ]
    where
      no_more : Among f [] → ⊥
      no_more j = elim j [ ]

-- ---- down the layers
-- it is in the layer of a path, at its head, and has this rest of its key
pub record IsStarting (a : ArenaView) (start : List ℕ) (path : List Stop) (head : ℕ) (rest : List ℕ) : Type 0 where
  pub lone : IsLoneTree a
  pub held : HoldsNow a lone (prefix_of path) head (first_slice (place_of rest))
  pub of_key : place_of start ≡ under (prefix_of path) (place_of rest)
  pub path_is : ArePath a lone (reverse path)
  pub narrow : AreNarrow (prefix_of path)
  pub bytes : AreBytes rest

pub starting_begins : (a : ArenaView) (start : List ℕ) → IsLoneTree a → AreBytes start → IsStarting a start [] 0 start
starting_begins a start lone bytes = record {
  lone = lone;
  held = holds_top (arena_seen a) lone.w.chart lone.world.index.tree (suc lone.now) (first_slice (place_of start));
  of_key = refl;
  path_is = tt;
  narrow = tt;
  bytes = bytes;
}

module _ (a : ArenaView) (start : List ℕ) (path : List Stop) (head : ℕ) (rest : List ℕ) (s : IsStarting a start path head rest) (slice : ℕ) (slice_is : slice ≡ slice_number rest) where
  at_slice : first_slice (place_of rest) ≡ slice
  at_slice = first_of_rest rest ∙ sym slice_is

  fits : slice < 2 ^ 64
  fits = subst (λ (n : ℕ). n < 2 ^ 64) (sym slice_is) (slice_number-below rest s.bytes)

  held_at : HoldsNow a s.lone (prefix_of path) head slice
  held_at = subst (λ (n : ℕ). HoldsNow a s.lone (prefix_of path) head n) at_slice s.held

  pub starting_may_seek : MaySeek a head slice
  starting_may_seek = record { lone = s.lone; prefix = prefix_of path; held = held_at }

  module _ (node : NodeNo) (found : SeeksBorder a head slice node.0) (b : BorderView) (named : border_at a.nodes node.0 ≡ Some b) (sound : IsBorder b) (place : ℕ) where
    held_here : HoldsNow a s.lone (prefix_of path) node.0 slice
    held_here = found.leads s.lone (prefix_of path) held_at

    same_border : found.at_slice.border ≡ b
    same_border = let both : ◌≡◌ {A = Option BorderView} (Some found.at_slice.border) (Some b) = sym found.at_slice.named ∙ named in cc

    -- into the layer of a link
    module _ (below : NodeNo) (links : LinksAt b.live place rest below) where
      abbrev stop : Stop
      stop = record { node = node; place = place + 1; slice = slice }

      longer_path : stop ∷ reverse path ≡ reverse (path ++ stop ∷ [])
      longer_path = sym (reverse-append path (stop ∷ []))

      entry_slice : links.entry.slice ≡ slice
      entry_slice = links.at_slice ∙ sym slice_is

      above : IsAbove a s.lone (prefix_of path) stop
      above = record {
        b = b;
        named = named;
        sound = sound;
        held = held_here;
        place = place;
        past = refl;
        entry = links.entry;
        there = links.there;
        at_slice = entry_slice;
        head = below;
        is_link = links.is_link;
      }

      live : Among (record { slice = slice; content = link below.0 }) (border_seen b).entries
      live =
          subst (λ (n : ℕ). Among (record { slice = n; content = link below.0 }) (border_seen b).entries) entry_slice
          (subst (λ (c : PlainContent). Among (record { slice = links.entry.slice; content = c }) (border_seen b).entries) (ap content_seen links.is_link) (is_live b place links.entry links.there))

      held_below : HoldsNow a s.lone (slice ∷ prefix_of path) below.0 (first_slice (place_of (drop 8 rest)))
      held_below = (noted_border a s.lone node.0 slice (prefix_of path) b named held_here).heads slice below.0 (first_slice (place_of (drop 8 rest))) live

      key_below : place_of start ≡ under (slice ∷ prefix_of path) (place_of (drop 8 rest))
      key_below = s.of_key ∙ ap (under (prefix_of path)) (place_of-long rest links.longer ∙ ap (λ (n : ℕ). deeper n (place_of (drop 8 rest))) (sym slice_is))

      pub starting_goes : (left : List ℕ) → left ≡ drop 8 rest → (longer : List Stop) → longer ≡ path ++ stop ∷ [] → IsStarting a start longer below.0 left
      starting_goes left left_is longer longer_is = subst (λ (p : List Stop). IsStarting a start p below.0 left) (sym longer_is) (subst (λ (r : List ℕ). IsStarting a start (path ++ stop ∷ []) below.0 r) (sym left_is) (record {
        lone = s.lone;
        held = subst (λ (stops : List Stop). HoldsNow a s.lone (slices_of stops) below.0 (first_slice (place_of (drop 8 rest)))) longer_path held_below;
        of_key = subst (λ (stops : List Stop). place_of start ≡ under (slices_of stops) (place_of (drop 8 rest))) longer_path key_below;
        path_is = subst (λ (stops : List Stop). ArePath a s.lone stops) longer_path (above, s.path_is);
        narrow = subst (λ (stops : List Stop). AreNarrow (slices_of stops)) longer_path (fits, s.narrow);
        bytes = bytes-drop 8 rest s.bytes;
      }))

    -- the key's border
    module _ (begins : BeginsAt b.live (place_of rest) place) (no_link : LinksNot b.live place rest) where
      abbrev here : Stop
      here = record { node = node; place = place; slice = slice }

      pub starting_visits : IsVisiting a s.lone (place_of start) 0 (prefix_of path) (place_of rest) here []
      starting_visits = record {
        b = b;
        named = named;
        held = subst (λ (n : ℕ). HoldsNow a s.lone (prefix_of path) node.0 n) (sym at_slice) held_here;
        to_right = subst (λ (c : BorderView). Below (first_slice (place_of rest)) (border_seen c).right) same_border (subst (λ (n : ℕ). Below n (border_seen found.at_slice.border).right) (sym at_slice) found.at_slice.to_right);
        visiting = record {
          split = parts b place;
          scanned = subst (λ (p : Place). Scanned (λ key row. Has (arena_seen a) key row) (HasOne (arena_seen a)) (place_of start) 0 p []) s.of_key
              (scan_begins (λ key row. Has (arena_seen a) key row) (HasOne (arena_seen a)) (place_of start) 0);
          passed = λ e i. (λ x row holds. inl ((begins.passed e i).0 x row holds), (begins.passed e i).1);
        };
        ahead = starts_ahead b sound place rest begins no_link;
        done = λ pair i. elim i [ ];
      }

      pub starting_stands : IsArena a → AreBytes start → length start ≤ MAX_KEY_BYTES → Begins a start (record { tree = a; key = start; given = false; path = path; here = here; border = b; after = false })
      starting_stands arena bytes short = record {
        stands = record {
          lone = s.lone;
          start = place_of start;
          limit = 0;
          given = [];
          has_given = inl (refl, refl);
          at = place_of rest;
          slice = at_slice;
          after = λ off. absurd (cc);
          visits = starting_visits;
          path = s.path_is;
          arena = arena;
          borrowed = named;
          narrow = s.narrow;
          fits = fits;
          bytes = bytes;
          short = short;
        };
        tree = refl;
        at_start = refl;
      }
