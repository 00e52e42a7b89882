-- What each change of a head keeps of the tree.
use Rattle.std.proofs.Common.{ℕ, zero, suc, ◌≡◌, ◌≢◌, ◌-◌, ◌<◌, ◌⊎◌, inl, inr, List, [], ◌∷◌, Option, Some, None, IsSomeAnd, slice_get, true, false, refl, ap, ◌∙◌, arith}
use Rattle.std.specs.Option.{option_map}
use Rattle.mt_types.specs.declared.numbers.NodeNo.{NodeNo}
use Rattle.mt_border.specs.Border.{BorderView}
use Rattle.mt_interior.specs.Head.{HeadView, with_root, with_lock, with_deleted}
use Rattle.mt_interior.specs.Interior.{InteriorView, IsInterior}
use Rattle.mt_interior.specs.declared.child.Child.{Child}
use Rattle.mt_arena.specs.Node.{interior_at, head_at, border_at}
use Rattle.mt_arena.specs.Arena.{ArenaView, with_node_at}
use Rattle.mt_arena.specs.declared.node.Node.TheVariants.{Head}
use Rattle.mt_chart.specs.Tree.{PlainChild, Among, first, later, head, Arena}
use Rattle.mt_chart.specs.Chart.{on, gone, top, at_level, Spot, spot, Chart, OnHead, IsLastBorder, FirstLow, NoChildTwice, Changes}
use Rattle.mt_chart.specs.Steps.{Twin, Keeps, WritesHead}
use Rattle.mt_chart.proofs.InteriorLaws.{marking_head, marking_gone_head, making_root, making_root_over_half, bypassing_root}
use Rattle.mt_chart.proofs.RootSteps.{head_root}
use Rattle.mt_tree.specs.Seen.{arena_seen, head_seen, border_seen, right_seen, interior_seen, child_seen, children_seen}
use Rattle.mt_tree.specs.Keeping.{IsIndexAt, KeepsTree, KeepsAlong}
use Rattle.mt_tree.specs.InteriorSteps.{HasOneChild, HasUpperChildren, IsInLayer}
use Rattle.mt_tree.specs.HeadSteps.{IsRootOver, NamesRootAt, IsRootOverHalf, NamesRootOverHalfAt, KeepsRootOverHalf, BypassesRootAt}
use Rattle.mt_tree.proofs.SeenLemmas.{seen-head, seen-border, seen-interior, written-head}
use Rattle.mt_tree.proofs.ChildLists.{upper_children, only_child}
use Rattle.mt_tree.proofs.SpareWrites.{spare_written}
use Rattle.mt_tree.proofs.InteriorPlaces.{IsOnAs, is_on_as}

-- a head of the arena is written
module _ (a : ArenaView) (number : ℕ) (old new : HeadView) (is : head_at a.nodes number ≡ Some old) where
  abbrev after : Arena
  after = arena_seen (with_node_at a number (Head new))

  there : arena_seen a number ≡ Some (head (head_seen old))
  there = seen-head a number old is

  written : Changes (arena_seen a) after number (Some (head (head_seen new)))
  written = written-head a number old new is

  writes : (chart : Chart) (prefix : List ℕ) → OnHead chart number prefix → WritesHead (arena_seen a) after chart number prefix (head_seen old) (head_seen new)
  writes chart prefix place = record { place = place; there = there; written = written }

  -- whatever its standing, if it keeps its root
  marked_keeps : new.root ≡ old.root → new.level ≡ old.level → (old.version.deleted ≡ true → new.version.deleted ≡ true) →
      (new.version.deleted ≡ true → (old.version.deleted ≡ true) ⊎ IsLastBorder (arena_seen a) old.root.0) → KeepsTree a (with_node_at a number (Head new))
  marked_keeps same_root same_level deleted last = record { keeps = λ now twins chart index. go now twins chart index (chart number) refl }
    where
      go : (now : ℕ) (twins : List Twin) (chart : Chart) → IsIndexAt a now twins chart → (stands : Option Spot) → chart number ≡ stands → Keeps now twins (arena_seen a) after chart chart
      go now twins chart index None unknown = spare_written now twins (arena_seen a) after chart number (Some (head (head_seen new))) index written unknown
      go now twins chart index (Some (spot top prefix low (on posted))) place =
          let w = index.tree.heads number prefix low posted place in
          marking_head now twins (arena_seen a) after chart index (record {
            number = number;
            prefix = prefix;
            old = head_seen old;
            new = head_seen new;
            writes = writes chart prefix (rw (w.low, w.posted) at place);
            root = ap (λ (n : NodeNo). n.0) same_root;
            level = same_level;
            last = last;
          })
      go now twins chart index (Some (spot top prefix low (gone epoch))) place =
          let (node, there_too, was) = index.tree.gone_heads number prefix low epoch place in
          let here = there in
          let same : node ≡ head_seen old = cc in
          marking_gone_head now twins (arena_seen a) after chart index (record {
            number = number;
            prefix = prefix;
            low = low;
            epoch = epoch;
            node = head_seen new;
            place = place;
            written = written;
            marked = deleted (rw same at was);
          })
      go now twins chart index (Some (spot (at_level zero) prefix low (on posted))) place = absurd (let (t, w, _) = index.tree.borders number prefix low posted place in let here = there in cc)
      go now twins chart index (Some (spot (at_level zero) prefix low (gone epoch))) place = absurd (let (t, w, _) = index.tree.gone_borders number prefix low epoch place in let here = there in cc)
      go now twins chart index (Some (spot (at_level (suc below)) prefix low standing)) place = absurd (let w = (index.tree.interiors number below prefix low standing place).is_node in let here = there in cc)

pub unlock_keeps : (a : ArenaView) (number : ℕ) (old : HeadView) → head_at a.nodes number ≡ Some old → KeepsTree a (with_node_at a number (Head (with_lock old false)))
unlock_keeps a number old is = marked_keeps a number old (with_lock old false) is refl refl (λ deleted. deleted) (λ deleted. inl deleted)

-- where its root is a border with nothing to its right
pub mark_keeps : (a : ArenaView) (number : ℕ) (old : HeadView) → head_at a.nodes number ≡ Some old → IsSomeAnd (border_at a.nodes old.root.0) (λ root. root.right ≡ None) → KeepsTree a (with_node_at a number (Head (with_deleted old)))
mark_keeps a number old is last = marked_keeps a number old (with_deleted old) is refl refl (λ deleted. refl) (λ deleted. inr (go (border_at a.nodes old.root.0) refl last))
  where
    go : (found : Option BorderView) → border_at a.nodes old.root.0 ≡ found → IsSomeAnd found (λ root. root.right ≡ None) → IsLastBorder (arena_seen a) old.root.0
    go None e some = absurd some
    go (Some root) e none = (border_seen root, seen-border a old.root.0 root e, ap (option_map right_seen) none)

-- a new root is named
module _ (a : ArenaView) (number : ℕ) (root_number : NodeNo) (old : HeadView) (node : InteriorView) (is : head_at a.nodes number ≡ Some old) (root_is : interior_at a.nodes root_number.0 ≡ Some node)
    (sound : IsInterior node) where
  abbrev renamed : HeadView
  renamed = with_root old root_number node.level

  level : node.level ≡ suc (node.level - 1)
  level = omega (arith, sound.least)

  -- over the old root and a border
  module _ (over : IsRootOver old node) where
    higher : old.level < node.level
    higher = (rw over.children at sound.lower.each) 0 over.posted (omega arith)

    name_at : (now : ℕ) (twins : List Twin) (chart next : Chart) → IsIndexAt a now twins chart → NamesRootAt a number root_number.0 now twins chart next → Keeps now twins (arena_seen a) (arena_seen (with_node_at a number (Head renamed))) chart next
    name_at now twins chart next index at =
        making_root now twins (arena_seen a) (arena_seen (with_node_at a number (Head renamed))) chart at.between next index (record {
          number = number;
          prefix = at.prefix;
          old = head_seen old;
          new = head_seen renamed;
          writes = writes a number old renamed is chart at.prefix at.stands;
          posted_number = at.posted.node.0;
          low = at.posted.low;
          root_number = root_number.0;
          below = node.level - 1;
          root_node = interior_seen node;
          place = at.unnamed;
          filled = seen-interior a root_number.0 node root_is;
          unknown = at.unknown;
          posted_charted = at.posted_charted;
          root_charted = rw (same, level) at at.root_charted;
          root_low = over.low;
          root_level = level;
          higher = omega (arith, higher, sound.least);
          children = children;
          once = rw children (apart, (λ other i. elim i [ ], tt));
          root = refl;
          level = level;
          deleted = refl;
          no_twin = at.no_twin;
        })
      where
        same : at.root ≡ node
        same = let here = at.is_root in cc

        posted : over.posted ≡ at.posted
        posted = let here : ◌≡◌ {A = Option Child} (Some over.posted) (Some at.posted) = rw (root_is, over.children) at at.is_posted in cc

        children : children_seen node.children ≡ (record { low = 0; number = old.root.0; level = old.level }) ∷ ((record { low = at.posted.low; number = at.posted.node.0; level = 0 }) ∷ [])
        children = rw (over.children, posted, rw posted at over.is_border) refl

        apart : (other : PlainChild) → Among other ((record { low = at.posted.low; number = at.posted.node.0; level = 0 }) ∷ []) → other.number ≢ old.root.0
        apart other first e =
            let here = at.unnamed in
            let there = head_root (arena_seen a) chart index.tree number at.prefix (head_seen old) at.stands (seen-head a number old is) in
            let again : chart at.posted.node.0 ≡ chart old.root.0 = ap chart e in
            let clash : on false ≡ on true = cc in cc
        apart other (later i) e = elim i [ ]

    pub name_root_keeps : KeepsAlong a (with_node_at a number (Head (with_root old root_number node.level))) (NamesRootAt a number root_number.0)
    name_root_keeps = record { keeps = name_at }

  -- over the old root and its new half
  module _ (over : IsRootOverHalf a.nodes old node) where
    over_half_at : (now : ℕ) (twins more_twins : List Twin) (chart next : Chart) → IsIndexAt a now twins chart → NamesRootOverHalfAt a number root_number.0 twins more_twins chart next → Keeps now more_twins (arena_seen a) (arena_seen (with_node_at a number (Head renamed))) chart next
    over_half_at now twins more_twins chart next index at =
        making_root_over_half now twins more_twins (arena_seen a) (arena_seen (with_node_at a number (Head renamed))) chart at.between next index (record {
          number = number;
          prefix = at.prefix;
          old = head_seen old;
          new = head_seen renamed;
          writes = writes a number old renamed is chart at.prefix at.stands;
          split_number = old.root.0;
          below = s.below;
          split = interior_seen over.split;
          was_root = refl;
          place = rw s.is_level at root_place;
          there = seen-interior a old.root.0 over.split over.is_split;
          half_number = over.posted.node.0;
          low = over.half.low;
          half = interior_seen over.half;
          half_unknown = rw posted at at.half_unknown;
          half_filled = seen-interior a over.posted.node.0 over.half over.is_half;
          half_charted = rw (posted, half, half_level) at at.half_charted;
          half_low = refl;
          half_level = half_level;
          half_leftmost = parts.0;
          half_once = parts.1;
          part = parts.2;
          root_number = root_number.0;
          root_below = node.level - 1;
          root_node = interior_seen node;
          unknown = at.unknown;
          filled = seen-interior a root_number.0 node root_is;
          root_charted = rw (same, level) at at.root_charted;
          root_low = over.low;
          root_level = level;
          above = omega (arith, higher, level, over.half_level, half_level);
          children = children;
          once = rw children (apart, (λ other i. elim i [ ], tt));
          root = refl;
          level = level;
          deleted = refl;
          kept_twins = at.kept_twins;
          new_twins = rw (posted, old_same) at at.new_twins;
          no_twin = at.no_twin;
        })
      where
        root_place : chart old.root.0 ≡ Some (spot (at_level old.level) at.prefix 0 (on true))
        root_place = head_root (arena_seen a) chart index.tree number at.prefix (head_seen old) at.stands (seen-head a number old is)

        stood : IsInLayer chart old.root.0 at.prefix
        stood = record { level = old.level; low = 0; posted = true; place = root_place }

        s : IsOnAs chart old.root.0 at.prefix stood (interior_seen over.split)
        s = is_on_as a old.root.0 over.split over.is_split now twins chart index at.prefix stood

        old_same : at.old ≡ old
        old_same = let here = at.is_old in cc

        same : at.root ≡ node
        same = let here = at.is_root in cc

        posted : at.posted ≡ over.posted
        posted = let here : ◌≡◌ {A = Option Child} (Some over.posted) (Some at.posted) = rw (root_is, over.children) at at.is_posted in cc

        half : at.half ≡ over.half
        half = let here = rw posted at at.is_half in let there = over.is_half in cc

        split : at.split ≡ over.split
        split = let here = rw old_same at at.is_split in let there = over.is_split in cc

        upper : HasUpperChildren over.half over.split
        upper = rw (half, split) at at.upper

        parts : FirstLow over.half.low (children_seen over.half.children) × NoChildTwice (children_seen over.half.children) × ((each : PlainChild) → Among each (children_seen over.half.children) → Among each (children_seen over.split.children))
        parts = upper_children over.half over.split upper over.half_starts s.once

        half_level : over.half.level ≡ suc s.below
        half_level = upper.level ∙ s.node_level

        higher : over.posted.level < node.level
        higher = (rw over.children at sound.lower.each) 1 over.posted (omega arith)

        children : children_seen node.children ≡ (record { low = 0; number = old.root.0; level = old.level }) ∷ ((record { low = over.half.low; number = over.posted.node.0; level = suc s.below }) ∷ [])
        children = rw (over.children, over.half_low, over.half_level, half_level) refl

        apart : (other : PlainChild) → Among other ((record { low = over.half.low; number = over.posted.node.0; level = suc s.below }) ∷ []) → other.number ≢ old.root.0
        apart other first e =
            let here = rw posted at at.half_unknown in
            let there = root_place in
            let again : chart over.posted.node.0 ≡ chart old.root.0 = ap chart e in
            let clash : ◌≡◌ {A = Option Spot} None (Some (spot (at_level old.level) at.prefix 0 (on true))) = cc in cc
        apart other (later i) e = elim i [ ]

    pub name_root_over_half_keeps : KeepsRootOverHalf a (with_node_at a number (Head (with_root old root_number node.level))) number root_number.0
    name_root_over_half_keeps = record { keeps = over_half_at }

-- the root goes, and its only child is the root in its place
module _ (a : ArenaView) (number : ℕ) (gone_number : NodeNo) (old : HeadView) (gone_node : InteriorView) (child : Child) (is : head_at a.nodes number ≡ Some old) (gone_is : interior_at a.nodes gone_number.0 ≡ Some gone_node)
    (named : old.root ≡ gone_number) (read : slice_get gone_node.children 0 ≡ Some child) (one : HasOneChild gone_node) where
  abbrev bypassed : HeadView
  bypassed = with_root old child.node child.level

  bypass_at : (now : ℕ) (twins : List Twin) (chart next : Chart) → IsIndexAt a now twins chart → BypassesRootAt number gone_number.0 now twins chart next → Keeps now twins (arena_seen a) (arena_seen (with_node_at a number (Head bypassed))) chart next
  bypass_at now twins chart next index at =
      bypassing_root now twins (arena_seen a) (arena_seen (with_node_at a number (Head bypassed))) chart next index (record {
        number = number;
        prefix = at.prefix;
        old = head_seen old;
        new = head_seen bypassed;
        writes = writes a number old bypassed is chart at.prefix at.stands;
        gone_number = gone_number.0;
        gone_below = g.below;
        gone_node = interior_seen gone_node;
        child = child_seen child;
        was_root = was_root;
        place = rw (low, posted, g.is_level) at at.stood.place;
        there = seen-interior a gone_number.0 gone_node gone_is;
        locked = one.locked;
        one_child = ap children_seen (only_child gone_node.children child read one.one);
        charted = rw (low, g.is_level) at at.charted;
        root = refl;
        level = refl;
        deleted = refl;
        no_twin = at.no_twin;
        gone_no_twin = at.gone_no_twin;
      })
    where
      g : IsOnAs chart gone_number.0 at.prefix at.stood (interior_seen gone_node)
      g = is_on_as a gone_number.0 gone_node gone_is now twins chart index at.prefix at.stood

      was_root : old.root.0 ≡ gone_number.0
      was_root = ap (λ (n : NodeNo). n.0) named

      root_place : chart gone_number.0 ≡ Some (spot (at_level old.level) at.prefix 0 (on true))
      root_place = rw was_root at (head_root (arena_seen a) chart index.tree number at.prefix (head_seen old) at.stands (seen-head a number old is))

      low : at.stood.low ≡ 0
      low = let here = at.stood.place in let there = root_place in cc

      posted : at.stood.posted ≡ true
      posted = let here = at.stood.place in let there = root_place in let same : on at.stood.posted ≡ on true = cc in cc

  pub bypass_root_keeps : KeepsAlong a (with_node_at a number (Head (with_root old child.node child.level))) (BypassesRootAt number gone_number.0)
  bypass_root_keeps = record { keeps = bypass_at }
