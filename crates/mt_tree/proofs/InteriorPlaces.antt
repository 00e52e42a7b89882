-- The place of an interior of the arena in a chart, and what it is to write one.
use Rattle.std.proofs.Common.{ℕ, zero, suc, ◌≡◌, ◌≢◌, ◌⊎◌, inl, inr, List, Option, Some, None, true, refl, sym, ap, ◌∙◌, subst}
use Rattle.mt_interior.specs.Interior.{InteriorView}
use Rattle.mt_arena.specs.Node.{interior_at}
use Rattle.mt_arena.specs.Arena.{ArenaView, with_node_at}
use Rattle.mt_arena.specs.declared.node.Node.TheVariants.{Interior}
use Rattle.mt_chart.specs.Tree.{PlainChild, InteriorNode, Among, interior, Arena}
use Rattle.mt_chart.specs.Chart.{Standing, on, gone, Role, top, at_level, Spot, spot, Chart, FirstLow, AreChildren, Owns, IsTree, NoChildTwice, Changes}
use Rattle.mt_chart.specs.Steps.{Twin, WritesInterior, Keeps}
use Rattle.mt_chart.proofs.InteriorLaws.{keeping_children, marking_gone}
use Rattle.mt_tree.specs.Seen.{arena_seen, interior_seen, children_seen}
use Rattle.mt_tree.specs.Keeping.{IsIndexAt}
use Rattle.mt_tree.specs.InteriorSteps.{IsInLayer}
use Rattle.mt_tree.proofs.SeenLemmas.{seen-interior, written-interior}
use Rattle.mt_tree.proofs.ChildLists.{NamesNot}
use Rattle.mt_tree.proofs.SpareWrites.{spare_written}

-- what the invariant says of an interior in a chart
pub record StandsAs (chart : Chart) (node : InteriorNode) (role : Role) (prefix : List ℕ) (low : ℕ) (standing : Standing) : Type 0 where
  pub below : ℕ
  pub is_role : role ≡ at_level (suc below)
  pub node_low : node.low ≡ low
  pub node_level : node.level ≡ suc below
  pub ok : (((epoch : ℕ) × (standing ≡ gone epoch)) × (node.deleted ≡ true)) ⊎ AreChildren chart standing prefix low (suc below) node.children
  pub locked_till_deleted : (epoch : ℕ) → standing ≡ gone epoch → (node.deleted ≡ true) ⊎ (node.locked ≡ true)

pub stands_as : (arena : Arena) (chart : Chart) (number : ℕ) (node : InteriorNode) → IsTree arena chart → arena number ≡ Some (interior node) → (role : Role) (prefix : List ℕ) (low : ℕ) (standing : Standing) →
    chart number ≡ Some (spot role prefix low standing) → StandsAs chart node role prefix low standing
stands_as arena chart number node tree there top prefix low (on posted) place = absurd (let w = (tree.heads number prefix low posted place).is_node in cc)
stands_as arena chart number node tree there top prefix low (gone epoch) place = absurd (let (t, w, _) = tree.gone_heads number prefix low epoch place in cc)
stands_as arena chart number node tree there (at_level zero) prefix low (on posted) place = absurd (let (t, w, _) = tree.borders number prefix low posted place in cc)
stands_as arena chart number node tree there (at_level zero) prefix low (gone epoch) place = absurd (let (t, w, _) = tree.gone_borders number prefix low epoch place in cc)
stands_as arena chart number node tree there (at_level (suc below)) prefix low standing place =
    let w = tree.interiors number below prefix low standing place in
    let there_too = w.is_node in
    let same : w.node ≡ node = cc in
    record {
      below = below;
      is_role = refl;
      node_low = subst (λ (v : InteriorNode). v.low ≡ low) same w.low;
      node_level = subst (λ (v : InteriorNode). v.level ≡ suc below) same w.level;
      ok = subst (λ (v : InteriorNode). (((epoch : ℕ) × (standing ≡ gone epoch)) × (v.deleted ≡ true)) ⊎ AreChildren chart standing prefix low (suc below) v.children) same w.ok;
      locked_till_deleted = λ epoch e. subst (λ (v : InteriorNode). (v.deleted ≡ true) ⊎ (v.locked ≡ true)) same (w.locked_till_deleted epoch e);
    }

-- what it says of one that is on
pub record IsOnAs (chart : Chart) (number : ℕ) (prefix : List ℕ) (stands : IsInLayer chart number prefix) (node : InteriorNode) : Type 0 where
  pub below : ℕ
  pub is_level : stands.level ≡ suc below
  pub node_low : node.low ≡ stands.low
  pub node_level : node.level ≡ suc below
  pub children : AreChildren chart (on stands.posted) prefix stands.low (suc below) node.children
  pub once : NoChildTwice node.children

pub is_on_as : (a : ArenaView) (number : ℕ) (old : InteriorView) → interior_at a.nodes number ≡ Some old → (now : ℕ) (twins : List Twin) (chart : Chart) → IsIndexAt a now twins chart →
    (prefix : List ℕ) (stands : IsInLayer chart number prefix) → IsOnAs chart number prefix stands (interior_seen old)
is_on_as a number old is now twins chart index prefix stands =
    let there = seen-interior a number old is in
    let w = stands_as (arena_seen a) chart number (interior_seen old) index.tree there (at_level stands.level) prefix stands.low (on stands.posted) stands.place in
    let role = w.is_role in
    let is_level : stands.level ≡ suc w.below = cc in
    record {
      below = w.below;
      is_level = is_level;
      node_low = w.node_low;
      node_level = w.node_level;
      children = of w.below w.ok;
      once = index.owned.once number w.below prefix stands.low stands.posted (interior_seen old) (rw is_level at stands.place) there;
    }
  where
    of : {A : Type 0} (below : ℕ) → (((epoch : ℕ) × (on stands.posted ≡ gone epoch)) × A) ⊎ AreChildren chart (on stands.posted) prefix stands.low (suc below) (children_seen old.children) →
        AreChildren chart (on stands.posted) prefix stands.low (suc below) (children_seen old.children)
    of below (inl ((epoch, e), _)) = absurd (cc)
    of below (inr children) = children

-- what an interior that is on names may be named
pub child_place : {chart : Chart} {number : ℕ} {prefix : List ℕ} {stands : IsInLayer chart number prefix} {node : InteriorNode} → IsOnAs chart number prefix stands node →
    (child : PlainChild) → Among child node.children → chart child.number ≡ Some (spot (at_level child.level) prefix child.low (on true))
child_place {prefix = prefix} w child among =
    let may = w.children.each child among in
    may.place ∙ ap (λ (s : Standing). Some (spot (at_level child.level) prefix child.low s)) may.may

pub names_not : {chart : Chart} {number : ℕ} {prefix : List ℕ} {stands : IsInLayer chart number prefix} {node : InteriorNode} → IsOnAs chart number prefix stands node → (other : ℕ) →
    ((level low : ℕ) → chart other ≢ Some (spot (at_level level) prefix low (on true))) → NamesNot other node.children
names_not {chart = chart} w other not_named each i e = not_named each.level each.low (ap chart (sym e) ∙ child_place w each i)

-- an interior of the arena is written
module _ (a : ArenaView) (number : ℕ) (old new : InteriorView) (is : interior_at a.nodes number ≡ Some old) where
  abbrev after : Arena
  after = arena_seen (with_node_at a number (Interior new))

  -- if it is on
  pub writes : (chart : Chart) (prefix : List ℕ) (stands : IsInLayer chart number prefix) (w : IsOnAs chart number prefix stands (interior_seen old)) →
      new.low ≡ old.low → new.level ≡ old.level → FirstLow new.low (children_seen new.children) → NoChildTwice (children_seen new.children) →
      WritesInterior (arena_seen a) after chart number w.below prefix stands.low (interior_seen old) (interior_seen new)
  writes chart prefix stands w same_low same_level leftmost once = record {
    posted = stands.posted;
    place = rw w.is_level at stands.place;
    there = seen-interior a number old is;
    written = written-interior a number old new is;
    low = same_low ∙ w.node_low;
    level = same_level ∙ w.node_level;
    leftmost = subst (λ (l : ℕ). FirstLow l (children_seen new.children)) (same_low ∙ w.node_low) leftmost;
    once = once;
  }

  -- Whatever its standing: if it is on, its new children are some of those that it has, and another names the rest; and
  -- if it is gone, it is marked deleted.
  pub write_keeps : (now : ℕ) (twins : List Twin) (chart : Chart) → IsIndexAt a now twins chart → new.low ≡ old.low → new.level ≡ old.level →
      ((prefix : List ℕ) (stands : IsInLayer chart number prefix) → IsOnAs chart number prefix stands (interior_seen old) →
      FirstLow new.low (children_seen new.children) × NoChildTwice (children_seen new.children) × ((each : PlainChild) → Among each (children_seen new.children) → Among each (children_seen old.children)) ×
      ((each : PlainChild) → Among each (children_seen old.children) → Among each (children_seen new.children) ⊎ ((other : ℕ) × (other ≢ number) × Owns (arena_seen a) chart other each.number))) →
      ((role : Role) (prefix : List ℕ) (low epoch : ℕ) → chart number ≡ Some (spot role prefix low (gone epoch)) → StandsAs chart (interior_seen old) role prefix low (gone epoch) → new.version.deleted ≡ true) →
      Keeps now twins (arena_seen a) after chart chart
  write_keeps now twins chart index same_low same_level where_on where_gone = go (chart number) refl
    where
      there : arena_seen a number ≡ Some (interior (interior_seen old))
      there = seen-interior a number old is

      written : Changes (arena_seen a) after number (Some (interior (interior_seen new)))
      written = written-interior a number old new is

      on_case : (prefix : List ℕ) → IsInLayer chart number prefix → Keeps now twins (arena_seen a) after chart chart
      on_case prefix stands =
          let w = is_on_as a number old is now twins chart index prefix stands in
          let (leftmost, once, fewer, left_out) = where_on prefix stands w in
          keeping_children now twins (arena_seen a) after chart index (record {
            number = number;
            below = w.below;
            prefix = prefix;
            least = stands.low;
            old = interior_seen old;
            new = interior_seen new;
            writes = writes chart prefix stands w same_low same_level leftmost once;
            children = fewer;
            left_out = left_out;
          })

      go : (stands : Option Spot) → chart number ≡ stands → Keeps now twins (arena_seen a) after chart chart
      go None unknown = spare_written now twins (arena_seen a) after chart number (Some (interior (interior_seen new))) index written unknown
      go (Some (spot role prefix low (on posted))) place =
          let w = stands_as (arena_seen a) chart number (interior_seen old) index.tree there role prefix low (on posted) place in
          on_case prefix (record { level = suc w.below; low = low; posted = posted; place = rw w.is_role at place })
      go (Some (spot role prefix low (gone epoch))) place =
          let w = stands_as (arena_seen a) chart number (interior_seen old) index.tree there role prefix low (gone epoch) place in
          marking_gone now twins (arena_seen a) after chart index (record {
            number = number;
            below = w.below;
            prefix = prefix;
            low = low;
            epoch = epoch;
            node = interior_seen new;
            place = rw w.is_role at place;
            written = written;
            node_low = same_low ∙ w.node_low;
            node_level = same_level ∙ w.node_level;
            marked = where_gone role prefix low epoch place w;
          })
