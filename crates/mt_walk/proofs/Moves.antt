-- The steps of a walk: past a row, into a layer, to the right neighbour, and out of a layer.
use Rattle.std.proofs.Common.{ℕ, ◌≡◌, ◌<◌, ◌≤◌, ◌+◌, ◌⊎◌, inl, inr, Bool, true, false, List, [], ◌∷◌, ◌++◌, length, reverse, slice_get, Option, Some, None, IsSome, suc, refl, sym, ap, subst, ◌∙◌, arith}
use Rattle.std.proofs.lemmas.List.{reverse-append}
use Rattle.std.proofs.lemmas.List.Elements.{All-get_or}
use Rattle.std.proofs.lemmas.Option.{slice_get_within, get_or_from_slice_get}
use Rattle.mt_word.specs.declared.permutation_word.TheConstants.{SLOTS}
use Rattle.mt_scan.specs.Scan.{HoldsKey}
use Rattle.mt_steps.proofs.RangeLemmas.{holds_keys}
use Rattle.mt_types.specs.declared.row.Row.{Row}
use Rattle.mt_types.specs.declared.numbers.NodeNo.{NodeNo}
use Rattle.mt_slice.specs.Place.{Place, last, deeper, under, Precedes, first_slice, place_of}
use Rattle.mt_slice.proofs.PlaceOrder.{sizes}
use Rattle.mt_border.specs.Border.{BorderView}
use Rattle.mt_border.specs.Order.{IsBorder}
use Rattle.mt_border.specs.Entry.{content_row, entry_row}
use Rattle.mt_border.specs.declared.entry.Entry.{Entry}
use Rattle.mt_border.specs.declared.entry.Content.{Content}
use Rattle.mt_border.specs.declared.entry.Content.TheVariants.{Short, Long, Link}
use Rattle.mt_border.specs.declared.entry.RightLink.{RightLink}
use Rattle.mt_arena.specs.Node.{border_at}
use Rattle.mt_chart.specs.Tree.{HoldsRow}
use Rattle.mt_chart.specs.Scan.{Pair}
use Rattle.mt_chart.proofs.PlaceOrder.{slices_rise}
use Rattle.mt_tree.specs.Seen.{arena_seen, content_seen, content_place, entry_place}
use Rattle.mt_scan.specs.Onward.{cursor_of, all_cursors}
use Rattle.mt_walk.specs.Descent.{MaySeek, SeeksBorder}
use Rattle.std.specs.Option.{option_map}
use Rattle.mt_arena.specs.Arena.{ArenaView}
use Rattle.mt_walk.specs.Walk.{WalkAt, behind, IsNextPair, Gives, WalkView, stands_at, GivesRow}
use Rattle.mt_walk.proofs.Layers.{few_layers, left_at, advance_falls}
use Rattle.mt_walk.specs.Standing.{slices_of, prefix_of, ArePath, AreNarrow, IsVisiting, IsWalk}
use Rattle.mt_walk.specs.Steps.{walk_cursor, Advances, StandsOn, IsAtEntry, IsAtEnd, TakesEntry, GoesOn}
use Rattle.mt_walk.specs.declared.course.Stop.{Stop}
use Rattle.mt_walk.proofs.Visits.{held_alive, takes_goes, takes_gives, before_layer, enters_held, enters_above, enters_layer, slice_less, goes_right, ends_all, goes_above}
use Rattle.mt_walk.proofs.Advance.{coarse, Gets, coarse_within, enter_advances, right_advances, leave_advances}

-- the row of an entry, at its place
row_holds : (slice : ℕ) (content : Content) (row : Row) → content_row content ≡ Some row → HoldsRow slice (content_seen content) (content_place slice content) row
row_holds slice (Short bytes here) row is = (refl, cc)
row_holds slice (Long suffix here) row is = (refl, cc)
row_holds slice (Link head) row is = absurd (cc)

-- the place from which on it visits its border is before a link, as far as its slice tells
coarse_before : (at : Place) (slice link : ℕ) (after : Bool) → first_slice at ≡ slice → (after ≡ true → at ≡ last slice 10) → Precedes at (deeper link (last 0 0)) → Precedes (coarse slice after) (last link 10)
coarse_before at slice link true same is before = go (subst (λ (x : Place). Precedes x (deeper link (last 0 0))) (is refl) before)
  where
    go : (slice < link) ⊎ ((slice ≡ link) × (10 ≤ 9)) → Precedes (last slice 10) (last link 10)
    go (inl less) = inl less
    go (inr both) = absurd (let most = both.1 in omega (arith, most))
coarse_before at slice link false same is before = go (sizes slice link)
  where
    most : first_slice at ≤ link
    most = slices_rise at (deeper link (last 0 0)) (inr before)

    go : (slice < link) ⊎ ((slice ≡ link) ⊎ (link < slice)) → Precedes (last slice 0) (last link 10)
    go (inl less) = inl less
    go (inr (inl same)) = inr (same, omega arith)
    go (inr (inr more)) = absurd (omega (arith, more, most, same))

-- a path with one stop more
longer : (path : List Stop) (stop : Stop) → reverse (path ++ stop ∷ []) ≡ stop ∷ reverse path
longer path stop = reverse-append path (stop ∷ [])

-- what has a name is there
is_named : (found : Option BorderView) (b : BorderView) → found ≡ Some b → IsSome found
is_named found b named = subst (λ (o : Option BorderView). IsSome o) (sym named) refl

module _ (walk : WalkView) (s : IsWalk walk) where
  within : (places : ℕ) → cursor_of places (walk_cursor walk) < all_cursors places
  within = coarse_within (prefix_of walk.path) walk.here.slice walk.after s.narrow s.fits

  same_border : (b : BorderView) → border_at walk.tree.nodes walk.here.node.0 ≡ Some b → b ≡ s.visits.b
  same_border b named = let both : ◌≡◌ {A = Option BorderView} (Some b) (Some s.visits.b) = sym named ∙ s.visits.named in cc

  -- ---- at an entry
  module _ (entry : Entry) (e : IsAtEntry walk.tree walk.here entry) where
    sound : IsBorder s.visits.b
    sound = subst IsBorder (same_border e.b e.named) e.sound

    there : slice_get s.visits.b.live walk.here.place ≡ Some entry
    there = subst (λ (b : BorderView). slice_get b.live walk.here.place ≡ Some entry) (same_border e.b e.named) e.there

    -- it is one of its slots
    pub walk_room : walk.here.place < SLOTS
    walk_room =
        let within = slice_get_within s.visits.b.live walk.here.place entry there in
        let slots = sound.slots in
        omega (arith, within, slots)

    -- its row is that of a key
    pub walk_holds_key : IsSome (entry_row entry) → HoldsKey (prefix_of walk.path) entry
    walk_holds_key some =
        let keys = holds_keys walk.tree s.lone.now (suc s.lone.now) walk.here.node.0 (first_slice s.at) s.lone.w (prefix_of walk.path) s.visits.b s.lone.world s.visits.held s.visits.named
        (held_alive walk.tree s.lone walk.here.node.0 (first_slice s.at) (prefix_of walk.path) s.visits.b s.visits.named s.visits.held) in
        subst (λ (e : Entry). IsSome (entry_row e) → HoldsKey (prefix_of walk.path) e) (get_or_from_slice_get s.visits.b.live walk.here.place entry entry there)
        (All-get_or (λ e. IsSome (entry_row e) → HoldsKey (prefix_of walk.path) e) s.visits.b.live walk.here.place entry (slice_get_within s.visits.b.live walk.here.place entry there) keys.each) some

    -- past a row
    module _ (row : Row) (has : entry_row entry ≡ Some row) (new : WalkView) (takes : TakesEntry walk entry new) where
      abbrev key : List ℕ
      key = takes.0

      abbrev to : WalkView
      to = record walk { key = takes.0; given = true; here = record walk.here { place = walk.here.place + 1 } }

      holds : HoldsRow entry.slice (content_seen entry.content) (entry_place entry) row
      holds = row_holds entry.slice entry.content row has

      abbrev pair : Pair Row
      pair = record { key = under (prefix_of walk.path) (entry_place entry); value = row }

      stands_then : IsWalk to
      stands_then = record {
        lone = s.lone;
        start = s.start;
        limit = length s.given + 1;
        given = s.given ++ pair ∷ [];
        has_given = inr (s.given, pair, refl, ap behind takes.1);
        at = s.at;
        slice = s.slice;
        after = s.after;
        visits = takes_goes walk.tree s.lone s.start s.limit (prefix_of walk.path) s.at walk.here s.given s.visits sound entry there (entry_place entry) row holds;
        path = s.path;
        arena = s.arena;
        borrowed = s.borrowed;
        narrow = s.narrow;
        fits = s.fits;
        bytes = takes.2;
        short = takes.3;
      }

      gives_then : GivesRow walk (Some row) to
      gives_then = (
        subst (λ (k : Place). IsNextPair (arena_seen walk.tree) (stands_at walk) (record { key = k; value = row })) (sym takes.1)
            (takes_gives walk.tree s.lone s.start s.limit (prefix_of walk.path) s.at walk.here s.given s.visits sound entry there (entry_place entry) row holds (stands_at walk) s.has_given),
        refl,
      )

      pub walk_takes : StandsOn walk new × GivesRow walk (Some row) new
      walk_takes = subst (λ (n : WalkView). StandsOn walk n × GivesRow walk (Some row) n) (sym takes.4) (record { stands = stands_then; tree = refl }, gives_then)

    -- into a layer
    module _ (head : NodeNo) (is : entry.content ≡ Link head) where
      pub walk_may_seek : (slice : ℕ) → MaySeek walk.tree head.0 slice
      walk_may_seek slice = record {
        lone = s.lone;
        prefix = entry.slice ∷ prefix_of walk.path;
        held = enters_held walk.tree s.lone s.start s.limit (prefix_of walk.path) s.at walk.here s.given s.visits sound entry there head is slice;
      }

      module _ (node : NodeNo) (found : SeeksBorder walk.tree head.0 0 node.0) (border : BorderView) (named : border_at walk.tree.nodes node.0 ≡ Some border) where
        abbrev stop : Stop
        stop = record { node = walk.here.node; place = walk.here.place + 1; slice = entry.slice }

        abbrev inside : WalkView
        inside = record walk { path = walk.path ++ stop ∷ []; here = record { node = node; place = 0; slice = 0 }; border = border; after = false }

        longer_path : stop ∷ reverse walk.path ≡ reverse (walk.path ++ stop ∷ [])
        longer_path = sym (longer walk.path stop)

        before : Precedes s.at (deeper entry.slice (last 0 0))
        before = before_layer walk.tree s.lone s.start s.limit (prefix_of walk.path) s.at walk.here s.given s.visits sound entry there head is

        stands_inside : IsWalk inside
        stands_inside = record {
          lone = s.lone;
          start = s.start;
          limit = s.limit;
          given = s.given;
          has_given = s.has_given;
          at = last 0 0;
          slice = refl;
          after = λ off. absurd (cc);
          visits = subst (λ (stops : List Stop). IsVisiting walk.tree s.lone s.start s.limit (slices_of stops) (last 0 0) (record { node = node; place = 0; slice = 0 }) s.given) longer_path
              (enters_layer walk.tree s.lone s.start s.limit (prefix_of walk.path) s.at walk.here s.given s.visits sound entry there head is node found);
          path = subst (λ (stops : List Stop). ArePath walk.tree s.lone stops) longer_path
              (enters_above walk.tree s.lone s.start s.limit (prefix_of walk.path) s.at walk.here s.given s.visits sound entry there head is, s.path);
          arena = s.arena;
          borrowed = named;
          narrow = subst (λ (stops : List Stop). AreNarrow (slices_of stops)) longer_path (e.whole.slice_fits, s.narrow);
          fits = omega arith;
          bytes = s.bytes;
          short = s.short;
        }

        advances_inside : Advances walk.tree (walk_cursor walk) (walk_cursor inside)
        advances_inside = record {
          sound = e.arena;
          within = within;
          gets_on = λ places deep. subst (λ (stops : List Stop). Gets places (walk_cursor walk) (record { prefix = slices_of stops; at = last 0 0 })) longer_path
              (enter_advances (prefix_of walk.path) walk.here.slice walk.after entry.slice head s.fits (coarse_before s.at walk.here.slice entry.slice walk.after s.slice s.after before) places deep);
        }

        pub walk_enters : StandsOn walk inside × (stands_at inside ≡ stands_at walk) × Advances walk.tree (walk_cursor walk) (walk_cursor inside)
        walk_enters = (record { stands = stands_inside; tree = refl }, refl, advances_inside)

  -- ---- at the end of its border
  module _ (right : Option RightLink) (e : IsAtEnd walk.tree walk.here right) where
    sound_end : IsBorder s.visits.b
    sound_end = subst IsBorder (same_border e.b e.named) e.sound

    few : length s.visits.b.live ≤ walk.here.place
    few = subst (λ (b : BorderView). length b.live ≤ walk.here.place) (same_border e.b e.named) e.few

    right_is : right ≡ s.visits.b.right
    right_is = e.right_is ∙ ap (λ (b : BorderView). b.right) (same_border e.b e.named)

    -- to the right
    module _ (link : RightLink) (is : right ≡ Some link) where
      named_right : s.visits.b.right ≡ Some link
      named_right = sym right_is ∙ is

      visits_right : IsVisiting walk.tree s.lone s.start s.limit (prefix_of walk.path) (last link.low 0) (record { node = link.node; place = 0; slice = link.low }) s.given
      visits_right = goes_right walk.tree s.lone s.start s.limit (prefix_of walk.path) s.at walk.here s.given s.visits sound_end few link named_right

      pub walk_has_right : IsSome (border_at walk.tree.nodes link.node.0)
      walk_has_right = is_named (border_at walk.tree.nodes link.node.0) visits_right.b visits_right.named

      further : walk.here.slice < link.low
      further =
          let less = slice_less walk.tree s.lone s.start s.limit (prefix_of walk.path) s.at walk.here s.given s.visits sound_end few link named_right (first_slice s.at) s.visits.to_right in
          omega (arith, less, s.slice)

      module _ (border : BorderView) (named : border_at walk.tree.nodes link.node.0 ≡ Some border) where
        abbrev beside : WalkView
        beside = record walk { here = record { node = link.node; place = 0; slice = link.low }; border = border; after = false }

        stands_beside : IsWalk beside
        stands_beside = record {
          lone = s.lone;
          start = s.start;
          limit = s.limit;
          given = s.given;
          has_given = s.has_given;
          at = last link.low 0;
          slice = refl;
          after = λ off. absurd (cc);
          visits = visits_right;
          path = s.path;
          arena = s.arena;
          borrowed = named;
          narrow = s.narrow;
          fits = e.narrow link is;
          bytes = s.bytes;
          short = s.short;
        }

        advances_beside : Advances walk.tree (walk_cursor walk) (walk_cursor beside)
        advances_beside = record {
          sound = e.arena;
          within = within;
          gets_on = λ places deep. right_advances (prefix_of walk.path) walk.here.slice walk.after link s.fits further places deep;
        }

        pub walk_goes_right : StandsOn walk beside × (stands_at beside ≡ stands_at walk) × Advances walk.tree (walk_cursor walk) (walk_cursor beside)
        walk_goes_right = (record { stands = stands_beside; tree = refl }, refl, advances_beside)

    -- with nothing to the right
    module _ (is : right ≡ None) where
      last_border : s.visits.b.right ≡ None
      last_border = sym right_is ∙ is

      pub walk_ends : walk.path ≡ [] → GivesRow walk None walk
      walk_ends empty = (
        ends_all walk.tree s.lone s.start s.limit (prefix_of walk.path) s.at walk.here s.given s.visits sound_end few last_border (ap prefix_of empty) (stands_at walk) s.has_given,
        refl,
      )

      module _ (path : List Stop) (stop : Stop) (whole : walk.path ≡ path ++ stop ∷ []) where
        shorter : reverse walk.path ≡ stop ∷ reverse path
        shorter = ap reverse whole ∙ longer path stop

        above : ArePath walk.tree s.lone (stop ∷ reverse path)
        above = subst (λ (stops : List Stop). ArePath walk.tree s.lone stops) shorter s.path

        narrow_all : AreNarrow (slices_of (stop ∷ reverse path))
        narrow_all = subst (λ (stops : List Stop). AreNarrow (slices_of stops)) shorter s.narrow

        pub walk_has_above : IsSome (border_at walk.tree.nodes stop.node.0)
        walk_has_above = is_named (border_at walk.tree.nodes stop.node.0) above.0.b above.0.named

        module _ (border : BorderView) (named : border_at walk.tree.nodes stop.node.0 ≡ Some border) where
          abbrev outside : WalkView
          outside = record walk { path = path; here = stop; border = border; after = true }

          stands_outside : IsWalk outside
          stands_outside = record {
            lone = s.lone;
            start = s.start;
            limit = s.limit;
            given = s.given;
            has_given = s.has_given;
            at = last stop.slice 10;
            slice = refl;
            after = λ off. refl;
            visits = goes_above walk.tree s.lone s.start s.limit (prefix_of walk.path) s.at walk.here s.given s.visits sound_end few last_border stop (prefix_of path) (ap slices_of shorter) above.0;
            path = above.1;
            arena = s.arena;
            borrowed = named;
            narrow = narrow_all.1;
            fits = narrow_all.0;
            bytes = s.bytes;
            short = s.short;
          }

          advances_outside : Advances walk.tree (walk_cursor walk) (walk_cursor outside)
          advances_outside = record {
            sound = e.arena;
            within = within;
            gets_on = λ places deep. subst (λ (stops : List Stop). length (slices_of stops) < places → Gets places (record { prefix = slices_of stops; at = coarse walk.here.slice walk.after }) (walk_cursor outside)) (sym shorter)
                (λ under. leave_advances (prefix_of path) stop.slice walk.here.slice walk.after s.fits places under) deep;
          }

          pub walk_leaves : StandsOn walk outside × (stands_at outside ≡ stands_at walk) × Advances walk.tree (walk_cursor walk) (walk_cursor outside)
          walk_leaves = (record { stands = stands_outside; tree = refl }, refl, advances_outside)

-- ---- a walk that continues without a pair
pub walk_begins : (walk : WalkView) → IsWalk walk → GoesOn walk walk
walk_begins walk s = record { on = record { stands = s; tree = refl }; same = refl }

abbrev pub walk_left : WalkView → ℕ
walk_left walk = left_at (walk_cursor walk)

pub walk_goes_on : (begun walk new : WalkView) → GoesOn begun walk → StandsOn walk new × (stands_at new ≡ stands_at walk) × Advances walk.tree (walk_cursor walk) (walk_cursor new) → GoesOn begun new × (walk_left new < walk_left walk)
walk_goes_on begun walk new g (on, same, advances) = (
  record { on = record { stands = on.stands; tree = on.tree ∙ g.on.tree }; same = same ∙ g.same },
  advance_falls walk.tree (walk_cursor walk) (walk_cursor new) (few_layers walk.tree g.on.stands.lone walk.here.node.0 (first_slice g.on.stands.at) (prefix_of walk.path) advances.sound g.on.stands.visits.held) advances,
)

-- what it gives then is what it gives
pub gives_from : (begun walk new : WalkView) (row : Option Row) → GoesOn begun walk → GivesRow walk row new → GivesRow begun row new
gives_from begun walk new row g gives =
    subst (λ (t : ArenaView). Gives (arena_seen t) (stands_at begun) (option_map (λ r. record { key = place_of new.key; value = r }) row) (stands_at new)) g.on.tree
    (subst (λ (w : WalkAt). Gives (arena_seen walk.tree) w (option_map (λ r. record { key = place_of new.key; value = r }) row) (stands_at new)) g.same gives)

pub stands_from : (begun walk new : WalkView) → GoesOn begun walk → StandsOn walk new → StandsOn begun new
stands_from begun walk new g on = record { stands = on.stands; tree = on.tree ∙ g.on.tree }
