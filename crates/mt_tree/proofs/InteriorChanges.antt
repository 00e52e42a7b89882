-- What each change of an interior keeps of the tree.
use Rattle.std.proofs.Common.{ℕ, suc, ◌≡◌, ◌≢◌, ◌<◌, ◌≤◌, ◌⊎◌, inl, inr, List, [], ◌∷◌, length, take, drop, Option, Some, None, IsSome, IsSomeAnd, slice_get, Bool, true, false, refl, sym, ap, ◌∙◌, subst, arith, length-take, length-drop}
use Rattle.std.proofs.lemmas.List.Edits.{length-remove}
use Rattle.std.proofs.lemmas.Option.{slice_get_within}
use Rattle.mt_types.specs.declared.numbers.NodeNo.{NodeNo}
use Rattle.mt_border.specs.Border.{BorderView}
use Rattle.mt_interior.specs.Interior.{InteriorView, IsInterior, children_up_to, with_lock, with_deleted, with_child, with_children, without_child, with_bypass, with_first}
use Rattle.mt_interior.specs.declared.child.Child.{Child}
use Rattle.mt_interior.proofs.ChildrenLemmas.{length-renamed}
use Rattle.mt_arena.specs.Node.{interior_at, border_at}
use Rattle.mt_arena.specs.Arena.{ArenaView, with_node_at}
use Rattle.mt_arena.specs.declared.node.Node.TheVariants.{Interior}
use Rattle.mt_chart.specs.Tree.{Among, first, border, PlainChild, Arena}
use Rattle.mt_chart.specs.Chart.{Standing, on, gone, Role, at_level, spot, Chart, FirstLow, AreChildren, Owns, by_interior, IsTree, NoChildTwice}
use Rattle.mt_chart.specs.Steps.{Twin, AreTwins, Keeps, WritesInterior}
use Rattle.mt_chart.proofs.InteriorLaws.{posting_border, posting_half, dropping_child, bypassing}
use Rattle.mt_tree.specs.Seen.{arena_seen, border_seen, interior_seen, child_seen, children_seen}
use Rattle.mt_tree.specs.Keeping.{IsIndexAt, KeepsTree, KeepsAlong, KeepsWhere}
use Rattle.mt_tree.specs.InteriorSteps.{child_at, HasOneChild, HasUpperChildren, IsInLayer, IsNotGone, CutsAt, PostsAt, DropsAt, BypassesAt, PostsHalfAt, KeepsHalf}
use Rattle.mt_tree.proofs.SeenLemmas.{seen-interior, seen-border}
use Rattle.mt_tree.proofs.ChildLists.{NamesNot, first_low, some_child, among_inserted, inserted_among, once_inserted, some_inserted, among_removed, once_removed, among_read, others_removed, among_kept, among_renamed, renamed_among, once_renamed, among_taken, once_taken, among_parted, upper_children, only_child}
use Rattle.mt_tree.proofs.InteriorPlaces.{StandsAs, IsOnAs, is_on_as, child_place, names_not, writes, write_keeps}

-- a border that is on has the low of its place
border_low : (arena : Arena) (chart : Chart) (number : ℕ) (node : BorderView) → IsTree arena chart → arena number ≡ Some (border (border_seen node)) →
    (prefix : List ℕ) (low : ℕ) (posted : Bool) → chart number ≡ Some (spot (at_level 0) prefix low (on posted)) → node.low ≡ low
border_low arena chart number node tree there prefix low posted place =
    let (other, there_too, its_low) = tree.borders number prefix low posted place in
    let same : other ≡ border_seen node = cc in
    subst (λ (v : _). v.low ≡ low) same its_low

-- one child more in an interior that is on
child_written : (a : ArenaView) (number : ℕ) (old : InteriorView) (child : Child) → interior_at a.nodes number ≡ Some old → IsInterior (with_child old child) →
    (chart : Chart) (prefix : List ℕ) (stands : IsInLayer chart number prefix) (w : IsOnAs chart number prefix stands (interior_seen old)) → ((level low : ℕ) → chart child.node.0 ≢ Some (spot (at_level level) prefix low (on true))) →
    WritesInterior (arena_seen a) (arena_seen (with_node_at a number (Interior (with_child old child)))) chart number w.below prefix stands.low (interior_seen old) (interior_seen (with_child old child))
child_written a number old child is sound chart prefix stands w not_named =
    writes a number old (with_child old child) is chart prefix stands w refl refl
    (first_low old.low (with_child old child).children (some_inserted old.children (children_up_to child.low old.children) child) sound.starts)
    (once_inserted old.children (children_up_to child.low old.children) child (names_not w child.node.0 not_named) w.once)

abbrev posted_child : ℕ → NodeNo → ℕ → Child
posted_child low node level = record { low = low; node = node; level = level }

-- a border is posted
pub post_border_keeps : (a : ArenaView) (number : ℕ) (posted : NodeNo) (node : BorderView) (old : InteriorView) → border_at a.nodes posted.0 ≡ Some node → interior_at a.nodes number ≡ Some old →
    IsInterior (with_child old (posted_child node.low posted 0)) → KeepsAlong a (with_node_at a number (Interior (with_child old (posted_child node.low posted 0)))) (PostsAt number posted.0)
post_border_keeps a number posted node old border_is is sound = record { keeps = keeps }
  where
    child : Child
    child = posted_child node.low posted 0

    keeps : (now : ℕ) (twins : List Twin) (chart next : Chart) → IsIndexAt a now twins chart → PostsAt number posted.0 now twins chart next →
        Keeps now twins (arena_seen a) (arena_seen (with_node_at a number (Interior (with_child old (posted_child node.low posted 0))))) chart next
    keeps now twins chart next index at =
        let w = is_on_as a number old is now twins chart index at.prefix at.stands in
        let its_low = border_low (arena_seen a) chart posted.0 node index.tree (seen-border a posted.0 node border_is) at.prefix at.low false at.unnamed in
        posting_border now twins (arena_seen a) (arena_seen (with_node_at a number (Interior (with_child old child)))) chart next index (record {
          number = number;
          below = w.below;
          prefix = at.prefix;
          least = at.stands.low;
          old = interior_seen old;
          new = interior_seen (with_child old child);
          writes = child_written a number old child is sound chart at.prefix at.stands w (λ level low e. let here = at.unnamed in cc);
          posted_number = posted.0;
          low = at.low;
          place = at.unnamed;
          charted = at.charted;
          children = λ each. (λ i. as_posted each at.low its_low (among_inserted old.children (children_up_to child.low old.children) child each i), λ i. inserted_among old.children (children_up_to child.low old.children) child each (posted_as each at.low its_low i));
        })
      where
        as_posted : (each : PlainChild) (low : ℕ) → node.low ≡ low → (each ≡ child_seen child) ⊎ Among each (children_seen old.children) → (each ≡ record { low = low; number = posted.0; level = 0 }) ⊎ Among each (children_seen old.children)
        as_posted each low e (inl same) = inl (subst (λ (l : ℕ). each ≡ record { low = l; number = posted.0; level = 0 }) e same)
        as_posted each low e (inr i) = inr i

        posted_as : (each : PlainChild) (low : ℕ) → node.low ≡ low → (each ≡ record { low = low; number = posted.0; level = 0 }) ⊎ Among each (children_seen old.children) → (each ≡ child_seen child) ⊎ Among each (children_seen old.children)
        posted_as each low e (inl same) = inl (subst (λ (l : ℕ). each ≡ record { low = l; number = posted.0; level = 0 }) (sym e) same)
        posted_as each low e (inr i) = inr i

-- the new half of an interior is posted
pub post_half_keeps : (a : ArenaView) (number : ℕ) (half_number : NodeNo) (half old : InteriorView) → interior_at a.nodes half_number.0 ≡ Some half → interior_at a.nodes number ≡ Some old → IsInterior half → half.level < old.level →
    IsInterior (with_child old (posted_child half.low half_number half.level)) → KeepsHalf a (with_node_at a number (Interior (with_child old (posted_child half.low half_number half.level)))) number half_number.0
post_half_keeps a number half_number half old half_is is half_sound lower sound = record { keeps = keeps }
  where
    child : Child
    child = posted_child half.low half_number half.level

    after : Arena
    after = arena_seen (with_node_at a number (Interior (with_child old (posted_child half.low half_number half.level))))

    keeps : (now split_number : ℕ) (twins more_twins : List Twin) (chart next : Chart) → IsIndexAt a now twins chart → PostsHalfAt a number half_number.0 split_number twins more_twins chart next → Keeps now more_twins (arena_seen a) after chart next
    keeps now split_number twins more_twins chart next index at =
        posting_half now twins more_twins (arena_seen a) after chart next index (record {
          number = split_number;
          below = s.below;
          prefix = at.prefix;
          least = at.split_stands.low;
          posted = at.split_stands.posted;
          node = interior_seen at.split;
          place = rw s.is_level at at.split_stands.place;
          there = seen-interior a split_number at.split at.is_split;
          half_number = half_number.0;
          low = half.low;
          half = interior_seen half;
          unknown = at.unknown;
          filled = seen-interior a half_number.0 half half_is;
          charted = rw (same, half_level) at at.charted;
          half_low = refl;
          half_level = half_level;
          half_leftmost = parts.0;
          half_once = parts.1;
          part = parts.2;
          parent_number = number;
          parent_below = w.below;
          parent_least = at.stands.low;
          old = interior_seen old;
          new = interior_seen (with_child old child);
          writes = child_written a number old child is sound chart at.prefix at.stands w (λ level low e. let here = at.unknown in cc);
          above = omega (arith, half_level, w.node_level, lower);
          children = λ each. (λ i. as_posted each (among_inserted old.children (children_up_to child.low old.children) child each i), λ i. inserted_among old.children (children_up_to child.low old.children) child each (posted_as each i));
          kept_twins = at.kept_twins;
          new_twins = at.new_twins;
        })
      where
        w : IsOnAs chart number at.prefix at.stands (interior_seen old)
        w = is_on_as a number old is now twins chart index at.prefix at.stands

        s : IsOnAs chart split_number at.prefix at.split_stands (interior_seen at.split)
        s = is_on_as a split_number at.split at.is_split now twins chart index at.prefix at.split_stands

        same : at.half ≡ half
        same = let here = at.is_half in cc

        upper : HasUpperChildren half at.split
        upper = rw same at at.upper

        parts : FirstLow half.low (children_seen half.children) × NoChildTwice (children_seen half.children) × ((each : PlainChild) → Among each (children_seen half.children) → Among each (children_seen at.split.children))
        parts = upper_children half at.split upper half_sound.starts s.once

        half_level : half.level ≡ suc s.below
        half_level = upper.level ∙ s.node_level

        as_posted : (each : PlainChild) → (each ≡ child_seen child) ⊎ Among each (children_seen old.children) → (each ≡ record { low = half.low; number = half_number.0; level = suc s.below }) ⊎ Among each (children_seen old.children)
        as_posted each (inl e) = inl (e ∙ ap (λ (l : ℕ). record { low = half.low; number = half_number.0; level = l }) half_level)
        as_posted each (inr i) = inr i

        posted_as : (each : PlainChild) → (each ≡ record { low = half.low; number = half_number.0; level = suc s.below }) ⊎ Among each (children_seen old.children) → (each ≡ child_seen child) ⊎ Among each (children_seen old.children)
        posted_as each (inl e) = inl (e ∙ ap (λ (l : ℕ). record { low = half.low; number = half_number.0; level = l }) (sym half_level))
        posted_as each (inr i) = inr i

-- an interior names a child no more
drop_at : (a : ArenaView) (number place : ℕ) (old : InteriorView) (child : Child) → interior_at a.nodes number ≡ Some old → slice_get old.children place ≡ Some child → 0 < place → place < length old.children → IsInterior (without_child old place) →
    KeepsAlong a (with_node_at a number (Interior (without_child old place))) (DropsAt number child)
drop_at a number place old child is read later within sound = record {
  keeps = λ now twins chart next index at.
      let w = is_on_as a number old is now twins chart index at.prefix at.stands in
      let shorter = length-remove old.children place within in
      dropping_child now twins (arena_seen a) (arena_seen (with_node_at a number (Interior (without_child old place)))) chart next index (record {
        number = number;
        below = w.below;
        prefix = at.prefix;
        least = at.stands.low;
        old = interior_seen old;
        new = interior_seen (without_child old place);
        writes = writes a number old (without_child old place) is chart at.prefix at.stands w refl refl
            (first_low old.low (without_child old place).children (omega (arith, shorter)) sound.starts) (once_removed old.children place w.once);
        child = child_seen child;
        low = at.low;
        stood = among_read old.children place child read;
        place = at.named;
        charted = at.charted;
        children = λ each. (λ i. (among_removed old.children place each i, others_removed old.children place child read w.once each i), λ stays. among_kept old.children place child read each stays.0 stays.1);
        no_twin = at.no_twin;
      });
}

pub drop_child_keeps : (a : ArenaView) (number place : ℕ) (old : InteriorView) → interior_at a.nodes number ≡ Some old → 0 < place → IsSome (child_at a.nodes number place) → IsInterior (without_child old place) →
    IsSomeAnd (child_at a.nodes number place) (λ child. KeepsAlong a (with_node_at a number (Interior (without_child old place))) (DropsAt number child))
drop_child_keeps a number place old is later some sound = rw is (go (slice_get old.children place) refl (rw is at some))
  where
    go : (read : Option Child) → slice_get old.children place ≡ read → IsSome (slice_get old.children place) → IsSomeAnd (slice_get old.children place) (λ child. KeepsAlong a (with_node_at a number (Interior (without_child old place))) (DropsAt number child))
    go None e some = absurd (let none = rw e at some in cc)
    go (Some child) e some = rw e (drop_at a number place old child is e later (slice_get_within old.children place child e) sound)

-- an interior that names another names that one's only child in its place
module _ (a : ArenaView) (number place gone_number : ℕ) (old gone_node : InteriorView) (entry child : Child) (is : interior_at a.nodes number ≡ Some old) (gone_is : interior_at a.nodes gone_number ≡ Some gone_node)
    (read : slice_get old.children place ≡ Some entry) (named : entry.node.0 ≡ gone_number) (only : gone_node.children ≡ child ∷ []) (locked : gone_node.version.locked ≡ true) (sound : IsInterior (with_bypass old place child.node child.level)) where
  abbrev bypassed : Arena
  bypassed = arena_seen (with_node_at a number (Interior (with_bypass old place child.node child.level)))

  bypass_at : (now : ℕ) (twins : List Twin) (chart next : Chart) → IsIndexAt a now twins chart → BypassesAt number gone_number now twins chart next → Keeps now twins (arena_seen a) bypassed chart next
  bypass_at now twins chart next index at =
      bypassing now twins (arena_seen a) bypassed chart next index (record {
        number = number;
        below = w.below;
        prefix = at.prefix;
        least = at.stands.low;
        old = interior_seen old;
        new = interior_seen (with_bypass old place child.node child.level);
        writes = writes a number old (with_bypass old place child.node child.level) is chart at.prefix at.stands w refl refl
            (first_low old.low (with_bypass old place child.node child.level).children (omega (arith, length-renamed place child.level child.node old.children, slice_get_within old.children place entry read)) sound.starts)
            (once_renamed old.children place child.level child.node entry read unnamed w.once);
        gone_number = gone_number;
        gone_below = g.below;
        low = at.stood.low;
        posted = at.stood.posted;
        gone_node = interior_seen gone_node;
        child = child_seen child;
        place = rw g.is_level at at.stood.place;
        there = seen-interior a gone_number gone_node gone_is;
        locked = locked;
        one_child = one_child;
        charted = rw g.is_level at at.charted;
        entry = child_seen entry;
        stood = among_read old.children place entry read;
        named = named;
        children = λ each. (λ i. as_renamed each (among_renamed old.children place child.level child.node entry read w.once each i), λ i. renamed_among old.children place child.level child.node entry read each (renamed_as each i));
        no_twin = at.no_twin;
        gone_no_twin = at.gone_no_twin;
      })
    where
      w : IsOnAs chart number at.prefix at.stands (interior_seen old)
      w = is_on_as a number old is now twins chart index at.prefix at.stands

      g : IsOnAs chart gone_number at.prefix at.stood (interior_seen gone_node)
      g = is_on_as a gone_number gone_node gone_is now twins chart index at.prefix at.stood

      one_child : children_seen gone_node.children ≡ child_seen child ∷ []
      one_child = ap children_seen only

      -- the interior that goes stands where the one above says
      gone_place : chart gone_number ≡ Some (spot (at_level entry.level) at.prefix entry.low (on true))
      gone_place = ap chart (sym named) ∙ child_place w (child_seen entry) (among_read old.children place entry read)

      same_low : entry.low ≡ child.low
      same_low =
          let first : child.low ≡ at.stood.low = rw one_child at g.children.leftmost in
          let here = at.stood.place in
          let there = gone_place in
          cc

      unnamed : NamesNot child.node.0 (children_seen old.children)
      unnamed each i e = apart (index.owned.one_owner number gone_number child.node.0
          (by_interior w.below at.prefix at.stands.low at.stands.posted (interior_seen old) each (rw w.is_level at at.stands.place) (seen-interior a number old is) i e)
          (by_interior g.below at.prefix at.stood.low at.stood.posted (interior_seen gone_node) (child_seen child) (rw g.is_level at at.stood.place) (seen-interior a gone_number gone_node gone_is) (rw one_child first) refl))
        where
          apart : (number ≡ gone_number) ⊎ AreTwins twins number gone_number → ⊥
          apart (inl same) =
              let here = at.stands.place in let there = gone_place in let level = w.is_level in
              let again : chart number ≡ chart gone_number = ap chart same in
              let its_level : entry.level ≡ suc w.below = cc in
              let lower : entry.level < suc w.below = (w.children.each (child_seen entry) (among_read old.children place entry read)).lower in
              omega arith
          apart (inr twins) = at.no_twin.1 gone_number twins

      as_renamed : (each : PlainChild) → (each ≡ child_seen (record entry { node = child.node; level = child.level })) ⊎ (Among each (children_seen old.children) × (each.number ≢ entry.node.0)) →
          (each ≡ child_seen child) ⊎ (Among each (children_seen old.children) × (each.number ≢ gone_number))
      as_renamed each (inl e) = inl (e ∙ ap (λ (l : ℕ). child_seen (record child { low = l })) same_low)
      as_renamed each (inr (i, other)) = inr (i, λ e. other (e ∙ sym named))

      renamed_as : (each : PlainChild) → (each ≡ child_seen child) ⊎ (Among each (children_seen old.children) × (each.number ≢ gone_number)) →
          (each ≡ child_seen (record entry { node = child.node; level = child.level })) ⊎ (Among each (children_seen old.children) × (each.number ≢ entry.node.0))
      renamed_as each (inl e) = inl (e ∙ ap (λ (l : ℕ). child_seen (record child { low = l })) (sym same_low))
      renamed_as each (inr (i, other)) = inr (i, λ e. other (e ∙ named))

pub bypass_keeps : (a : ArenaView) (number place : ℕ) (gone_number : NodeNo) (old gone_node : InteriorView) (child : Child) → interior_at a.nodes number ≡ Some old → interior_at a.nodes gone_number.0 ≡ Some gone_node →
    IsSomeAnd (slice_get old.children place) (λ entry. entry.node ≡ gone_number) → slice_get gone_node.children 0 ≡ Some child → HasOneChild gone_node → IsInterior (with_bypass old place child.node child.level) →
    KeepsAlong a (with_node_at a number (Interior (with_bypass old place child.node child.level))) (BypassesAt number gone_number.0)
bypass_keeps a number place gone_number old gone_node child is gone_is named only one sound = go (slice_get old.children place) refl named
  where
    go : (read : Option Child) → slice_get old.children place ≡ read → IsSomeAnd read (λ entry. entry.node ≡ gone_number) → KeepsAlong a (with_node_at a number (Interior (with_bypass old place child.node child.level))) (BypassesAt number gone_number.0)
    go None e none = absurd none
    go (Some entry) e named = record { keeps = bypass_at a number place gone_number.0 old gone_node entry child is gone_is e (ap (λ (n : NodeNo). n.0) named) (only_child gone_node.children child only one.one) one.locked sound }

-- an interior keeps its children, and is marked deleted as before or now
marked_keeps : (a : ArenaView) (number : ℕ) (old new : InteriorView) → interior_at a.nodes number ≡ Some old → new.low ≡ old.low → new.level ≡ old.level → new.children ≡ old.children → (now : ℕ) (twins : List Twin) (chart : Chart) → IsIndexAt a now twins chart →
    ((role : Role) (prefix : List ℕ) (low epoch : ℕ) → chart number ≡ Some (spot role prefix low (gone epoch)) → StandsAs chart (interior_seen old) role prefix low (gone epoch) → new.version.deleted ≡ true) →
    Keeps now twins (arena_seen a) (arena_seen (with_node_at a number (Interior new))) chart chart
marked_keeps a number old new is same_low same_level same now twins chart index where_gone =
    write_keeps a number old new is now twins chart index same_low same_level
    (λ prefix stands w. (rw (same_low, same, w.node_low) w.children.leftmost, rw same w.once, λ each i. rw same at i, λ each i. inl (rw same i))) where_gone

-- an interior is locked; if it is gone it is marked deleted, since it was unlocked
pub lock_keeps : (a : ArenaView) (number : ℕ) (old : InteriorView) → interior_at a.nodes number ≡ Some old → old.version.locked ≡ false → KeepsTree a (with_node_at a number (Interior (with_lock old true)))
lock_keeps a number old is unlocked = record {
  keeps = λ now twins chart index. marked_keeps a number old (with_lock old true) is refl refl refl now twins chart index
      (λ role prefix low epoch place w. deleted (w.locked_till_deleted epoch refl));
}
  where
    deleted : (old.version.deleted ≡ true) ⊎ (old.version.locked ≡ true) → old.version.deleted ≡ true
    deleted (inl marked) = marked
    deleted (inr locked) = absurd (cc)

-- one that is unlocked is not gone, or is marked deleted
pub unlock_keeps : (a : ArenaView) (number : ℕ) (old : InteriorView) → interior_at a.nodes number ≡ Some old → KeepsWhere a (with_node_at a number (Interior (with_lock old false))) (λ chart. IsNotGone chart number ⊎ (old.version.deleted ≡ true))
unlock_keeps a number old is = record {
  keeps = λ now twins chart index here. marked_keeps a number old (with_lock old false) is refl refl refl now twins chart index (λ role prefix low epoch place w. deleted chart here role prefix low epoch place);
}
  where
    deleted : (chart : Chart) → IsNotGone chart number ⊎ (old.version.deleted ≡ true) → (role : Role) (prefix : List ℕ) (low epoch : ℕ) → chart number ≡ Some (spot role prefix low (gone epoch)) → old.version.deleted ≡ true
    deleted chart (inl stays) role prefix low epoch place = absurd (stays role prefix low epoch place)
    deleted chart (inr marked) role prefix low epoch place = marked

-- one is marked deleted
pub mark_keeps : (a : ArenaView) (number : ℕ) (old : InteriorView) → interior_at a.nodes number ≡ Some old → KeepsTree a (with_node_at a number (Interior (with_deleted old)))
mark_keeps a number old is = record { keeps = λ now twins chart index. marked_keeps a number old (with_deleted old) is refl refl refl now twins chart index (λ role prefix low epoch place w. refl) }

-- the first children stay, and the new half names the others
pub keep_first_keeps : (a : ArenaView) (number count : ℕ) (old : InteriorView) → interior_at a.nodes number ≡ Some old → 1 ≤ count → count ≤ length old.children → IsInterior (with_first old count) →
    KeepsWhere a (with_node_at a number (Interior (with_first old count))) (CutsAt a number count)
keep_first_keeps a number count old is some within sound = record {
  keeps = λ now twins chart index at. write_keeps a number old (with_first old count) is now twins chart index refl refl
      (λ prefix stands w. (
        first_low old.low (take count old.children) (omega (arith, length-take count old.children, some_child stands.low old.children w.children.leftmost)) sound.starts,
        once_taken count old.children w.once,
        λ each i. among_taken count old.children each i,
        λ each i. others now twins chart index at each (among_parted count old.children each i),
      ))
      (λ role prefix low epoch place w. absurd (at.stays role prefix low epoch place));
}
  where
    others : (now : ℕ) (twins : List Twin) (chart : Chart) → IsIndexAt a now twins chart → CutsAt a number count chart → (each : PlainChild) → Among each (children_seen (take count old.children)) ⊎ Among each (children_seen (drop count old.children)) →
        Among each (children_seen (take count old.children)) ⊎ ((other : ℕ) × (other ≢ number) × Owns (arena_seen a) chart other each.number)
    others now twins chart index at each (inl i) = inl i
    others now twins chart index at each (inr i) = inr (
      at.half_number,
      apart,
      by_interior w.below at.prefix at.half_stands.low at.half_stands.posted (interior_seen at.half) each (rw w.is_level at at.half_stands.place) (seen-interior a at.half_number at.half at.is_half) (rw (at.upper, same) i) refl,
    )
      where
        w : IsOnAs chart at.half_number at.prefix at.half_stands (interior_seen at.half)
        w = is_on_as a at.half_number at.half at.is_half now twins chart index at.prefix at.half_stands

        same : at.split ≡ old
        same = let here = at.is_split in cc

        -- it has fewer children
        apart : at.half_number ≢ number
        apart e =
            let here = at.is_half in
            let both : at.half ≡ old = (let there : interior_at a.nodes at.half_number ≡ interior_at a.nodes number = ap (interior_at a.nodes) e in cc) in
            let fewer : old.children ≡ drop count old.children = ap (λ (v : InteriorView). v.children) (sym both) ∙ (at.upper ∙ ap (λ (v : InteriorView). drop count v.children) same) in
            omega (arith, ap (λ (v : List Child). length v) fewer, length-drop count old.children, some, within)

-- One that has no child takes some: none that is on has no child, and one that is gone is marked deleted.
pub fill_keeps : (a : ArenaView) (number : ℕ) (old : InteriorView) (children : List Child) → interior_at a.nodes number ≡ Some old → old.children ≡ [] → KeepsTree a (with_node_at a number (Interior (with_children old children)))
fill_keeps a number old children is empty = record {
  keeps = λ now twins chart index. write_keeps a number old (with_children old children) is now twins chart index refl refl
      (λ prefix stands w. absurd (rw empty at w.children.leftmost)) (λ role prefix low epoch place w. marked w.ok);
}
  where
    marked : {A : Type 0} {chart : Chart} {standing : Standing} {prefix : List ℕ} {low level : ℕ} → (A × (old.version.deleted ≡ true)) ⊎ AreChildren chart standing prefix low level (children_seen old.children) → old.version.deleted ≡ true
    marked (inl (_, deleted)) = deleted
    marked (inr children) = absurd (rw empty at children.leftmost)
