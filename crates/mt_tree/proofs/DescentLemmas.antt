-- The node to which a visit leads, and what a search shows of the tree.
use Rattle.std.proofs.Common.{ℕ, zero, suc, ◌≡◌, ◌+◌, ◌-◌, ◌*◌, ◌<◌, ◌≤◌, inl, inr, Bool, true, false, nat_eq, nat_le, if◌then◌else◌, List, [], ◌∷◌, length, drop, slice_get, get_or, Option, Some, None, refl, sym, ap, subst, ◌∙◌, cond, arith}
use Rattle.std.specs.Option.{option_map, option_and_then}
use Rattle.std.specs.Cmp.Lexicographic.{pointwise}
use Rattle.std.proofs.lemmas.Bool.{cases_Bool}
use Rattle.std.proofs.lemmas.Option.{slice_get-get_or}
use Rattle.std.proofs.lemmas.List.Sums.{prefix_len-le-length, prefix_len_passes}
use borrow.Author.Tests.{leb-true, leb-false, le-leb}
use Rattle.mt_types.specs.declared.numbers.NodeNo.{NodeNo}
use Rattle.mt_slice.specs.Place.{Place, first_slice, place_of, slice_number}
use Rattle.mt_slice.specs.Classes.{class_number, class_of, place_at}
use Rattle.mt_slice.specs.declared.slice_class.Class.{Class}
use Rattle.mt_slice.specs.declared.slice_class.Class.TheVariants.{Len, Long as LongClass}
use Rattle.mt_slice.proofs.PlaceOn.{place_of-place_at}
use Rattle.mt_slice.proofs.ClassNumbers.{class_number-below, same_from_class_number, class_of-Long, IsClass-class_of}
use Rattle.mt_border.specs.Border.{BorderView, right_for}
use Rattle.mt_border.specs.Entry.{entry_rank, rank_at, content_class, IsContent, IsEntry}
use Rattle.mt_border.specs.Find.{found_content}
use Rattle.mt_border.specs.Order.{IsBorder}
use Rattle.mt_border.specs.declared.entry.Content.{Content}
use Rattle.mt_border.specs.declared.entry.Content.TheVariants.{Short, Long, Link}
use Rattle.mt_border.specs.declared.entry.Entry.{Entry}
use Rattle.mt_border.specs.declared.entry.RightLink.{RightLink}
use Rattle.mt_border.specs.declared.found.Found.{Found}
use Rattle.mt_border.specs.declared.found.Found.TheVariants.{Absent, Row as RowFound, OtherSuffix, Link as LinkFound}
use Rattle.mt_interior.specs.Head.{HeadView, IsHead}
use Rattle.mt_interior.specs.Interior.{InteriorView, IsInterior, StartsAt, children_up_to, blank_child}
use Rattle.mt_interior.specs.declared.child.Child.{Child}
use Rattle.mt_arena.specs.Node.{node_at, head_of, interior_of, border_of, head_at, interior_at, border_at, IsNode}
use Rattle.mt_arena.specs.declared.node.Node.{Node}
use Rattle.mt_arena.specs.declared.node.Node.TheVariants.{Head as HeadNode, Interior as InteriorNode, Border as BorderNode}
use Rattle.mt_arena.specs.Arena.{ArenaView}
use Rattle.mt_chart.specs.Tree.{Among, first, later, Below, no_right, before_right, link}
use Rattle.mt_chart.specs.Walk.{to_root, to_child as move_to_child, to_right as move_to_right, to_link}
use Rattle.mt_chart.specs.Tree.{PlainEntry}
use Rattle.mt_chart.specs.Chart.{on, gone, Chart, Holds, OnBorder}
use Rattle.mt_chart.specs.Steps.{Twin}
use Rattle.mt_chart.proofs.TreeLemmas.{roots_held, children_held, borders_on, rights_held}
use Rattle.mt_tree.specs.Seen.{arena_seen, border_seen, head_seen, interior_seen, child_seen, entry_seen, entries_seen, right_seen}
use Rattle.mt_tree.specs.Keeping.{IsIndexAt}
use Rattle.mt_tree.specs.Descent.{visit_head, visit_interior, visit_border, node_visit, to_child, visit_found, to_right, found_for, Knows, LeadsOn, IsHere, IsLast, TellsVisit, MayVisit, MayVisitNode}
use Rattle.mt_tree.specs.declared.visit.Visit.TheVariants.{Again, To, Here}
use Rattle.mt_tree.proofs.SeenLemmas.{among_map, seen-head, seen-interior, seen-border}
use Rattle.mt_tree.proofs.FoundLemmas.{found_one, all_among}

-- from a head
pub leads_head : (a : ArenaView) (number : ℕ) (rest : List ℕ) (h : HeadView) → head_at a.nodes number ≡ Some h → LeadsOn a number rest (visit_head h)
leads_head a number rest h named = record {
  leads = λ now twins chart begun prefix index holds.
      let alive : h.version.deleted ≡ false → Holds chart begun h.root.0 prefix (slice_number rest) =
      roots_held (arena_seen a) chart index.tree begun number (slice_number rest) (slice_number rest) prefix (head_seen h) holds (seen-head a number h named) in
      go chart begun prefix h.version.deleted refl alive;
}
  where
    go : (chart : Chart) (begun : ℕ) (prefix : List ℕ) (deleted : Bool) → h.version.deleted ≡ deleted → (h.version.deleted ≡ false → Holds chart begun h.root.0 prefix (slice_number rest)) →
        Knows a chart begun number prefix rest (if deleted then Again else To h.root)
    go chart begun prefix true is alive = tt
    go chart begun prefix false is alive = alive is

-- the slice and the class of what a key has left
first_slice-place_at : (slice : ℕ) (class : Class) (place : Place) → first_slice (place_at slice class place) ≡ slice
first_slice-place_at slice (Len bytes) place = refl
first_slice-place_at slice LongClass place = refl

pub slice_of_place : (rest : List ℕ) → first_slice (place_of rest) ≡ slice_number rest
slice_of_place rest = ap first_slice (place_of-place_at rest) ∙ first_slice-place_at (slice_number rest) (class_of (length rest)) (place_of (drop 8 rest))

ranks_tell : (slice other c d : ℕ) → c < 10 → d < 10 → slice * 10 + c ≡ other * 10 + d → (slice ≡ other) × (c ≡ d)
ranks_tell slice other c d x y e = (omega (arith, x, y, e), omega (arith, x, y, e))

pub content_class-below : (content : Content) → IsContent content → class_number (content_class content) < 10
content_class-below (Short bytes row) h = omega arith
content_class-below (Long suffix row) h = omega arith
content_class-below (Link top) h = omega arith

-- an entry found for a key has the key's slice and class
pub rank_tells : (rest : List ℕ) (entry : Entry) → IsEntry entry → entry_rank entry ≡ rank_at (slice_number rest) (class_of (length rest)) →
    (entry.slice ≡ slice_number rest) × (class_number (content_class entry.content) ≡ class_number (class_of (length rest)))
rank_tells rest entry h e = ranks_tell entry.slice (slice_number rest) (class_number (content_class entry.content)) (class_number (class_of (length rest)))
    (content_class-below entry.content h.content) (class_number-below (class_of (length rest)) (IsClass-class_of (length rest))) e

pub class_long : (n : ℕ) → class_number (class_of n) ≡ 9 → 8 < n
class_long n e = class_of-Long n (same_from_class_number (class_of n) LongClass (IsClass-class_of n) tt e)

pub link_found : (suffix : List ℕ) (place at : ℕ) (top : NodeNo) (content : Content) → found_content suffix place content ≡ LinkFound at top → content ≡ Link top
link_found suffix place at top (Short bytes row) e = absurd (cc)
link_found suffix place at top (Long held row) e = absurd (neither (pointwise nat_eq held suffix) e)
  where
    neither : (same : Bool) → (if same then RowFound place else OtherSuffix place) ≡ LinkFound at top → ⊥
    neither true f = cc
    neither false f = cc
link_found suffix place at top (Link other) e = let same : other ≡ top = cc in ap Link same

right_below : (b : BorderView) (slice : ℕ) → right_for b.right slice ≡ None → Below slice (option_map right_seen b.right)
right_below b slice = go b.right
  where
    go : (right : Option RightLink) → right_for right slice ≡ None → Below slice (option_map right_seen right)
    go None e = no_right
    go (Some r) e = elim (cases_Bool (nat_le r.low slice)) [
      | inl le ↦ absurd (let clash : ◌≡◌ {A = Option NodeNo} (Some r.node) None = sym (ap (λ b. if b then Some r.node else None) le) ∙ e in cc)
      | inr over ↦ before_right (leb-false r.low slice over)
    ]

record Neighbour (b : BorderView) (slice : ℕ) (next : NodeNo) : Type 0 where
  pub right : RightLink
  pub is : b.right ≡ Some right
  pub low : right.low ≤ slice
  pub node : right.node ≡ next

right_found : (b : BorderView) (slice : ℕ) (next : NodeNo) → right_for b.right slice ≡ Some next → Neighbour b slice next
right_found b slice next = go b.right refl
  where
    go : (right : Option RightLink) → b.right ≡ right → right_for right slice ≡ Some next → Neighbour b slice next
    go None is e = absurd (cc)
    go (Some r) is e = elim (cases_Bool (nat_le r.low slice)) [
      | inl le ↦ (let same : ◌≡◌ {A = Option NodeNo} (Some r.node) (Some next) = sym (ap (λ b. if b then Some r.node else None) le) ∙ e in
          record { right = r; is = is; low = leb-true r.low slice le; node = cc })
      | inr over ↦ absurd (let clash : ◌≡◌ {A = Option NodeNo} None (Some next) = sym (ap (λ b. if b then Some r.node else None) over) ∙ e in cc)
    ]

-- from a border
module _ (a : ArenaView) (number : ℕ) (rest : List ℕ) (b : BorderView) (named : border_at a.nodes number ≡ Some b) (sound : IsBorder b) where
  module _ (now : ℕ) (twins : List Twin) (chart : Chart) (begun : ℕ) (prefix : List ℕ) (index : IsIndexAt a now twins chart) (holds : Holds chart begun number prefix (slice_number rest)) where
    from_found : (found : Found) → found_for rest b.live ≡ found → OnBorder (arena_seen a) chart number prefix (border_seen b) → IsHere a chart number prefix rest → Knows a chart begun number prefix rest (visit_found found)
    from_found (Absent place) e stands here = here
    from_found (RowFound place) e stands here = here
    from_found (OtherSuffix place) e stands here = here
    from_found (LinkFound place top) e stands here =
        let f = found_one (slice_number rest) (class_of (length rest)) (drop 8 rest) b.live (LinkFound place top) e (λ at clash. cc) in
        let is = link_found (drop 8 rest) _ place top f.entry.content f.is in
        let ranks = rank_tells rest f.entry (all_among IsEntry f.entry b.live sound.entries.each f.stands) f.rank in
        let seen : entry_seen f.entry ≡ record { slice = slice_number rest; content = link top.0 } = at_entry f.entry (slice_number rest) top ranks.0 is in
        let among = subst (λ (p : PlainEntry). Among p (entries_seen b.live)) seen (among_map entry_seen f.entry b.live f.stands) in
        (class_long (length rest) (sym ranks.1 ∙ ap (λ (c : Content). class_number (content_class c)) is), record { standing = on true; place = (index.tree.each_border number prefix (border_seen b) stands).links (slice_number rest) top.0 among; since = λ epoch is. absurd (let clash : on true ≡ gone epoch = is in cc) })
      where
        at_entry : (entry : Entry) (slice : ℕ) (t : NodeNo) → entry.slice ≡ slice → entry.content ≡ Link t → entry_seen entry ≡ record { slice = slice; content = link t.0 }
        at_entry entry slice t x y = rw (x, y) refl

    from_right : (right : Option NodeNo) → right_for b.right (slice_number rest) ≡ right → OnBorder (arena_seen a) chart number prefix (border_seen b) × (b.low ≤ slice_number rest) → Knows a chart begun number prefix rest (to_right right (found_for rest b.live))
    from_right (Some next) e (stands, low) =
        let n = right_found b (slice_number rest) next e in
        subst (λ (x : NodeNo). Holds chart begun x.0 prefix (slice_number rest)) n.node
        (rights_held (arena_seen a) chart index.tree begun number (slice_number rest) prefix (border_seen b) (right_seen n.right) stands (ap (option_map right_seen) n.is) n.low)
    from_right None e (stands, low) =
        from_found (found_for rest b.live) refl stands (record {
          border = b;
          named = named;
          stands = record {
            stands = stands;
            from_low = subst (λ (s : ℕ). b.low ≤ s) (sym (slice_of_place rest)) low;
            to_right = subst (λ (s : ℕ). Below s (border_seen b).right) (sym (slice_of_place rest)) (right_below b (slice_number rest) e);
          };
        })

    from_border : (deleted : Bool) → b.version.deleted ≡ deleted → Knows a chart begun number prefix rest (if deleted then Again else to_right (right_for b.right (slice_number rest)) (found_for rest b.live))
    from_border true is = tt
    from_border false is = from_right (right_for b.right (slice_number rest)) refl (borders_on (arena_seen a) chart index.tree begun number (slice_number rest) prefix (border_seen b) holds (seen-border a number b named) is)

  pub leads_border : LeadsOn a number rest (visit_border rest b)
  leads_border = record { leads = λ now twins chart begun prefix index holds. from_border now twins chart begun prefix index holds b.version.deleted refl }

-- from an interior node
first_up_to : (i : InteriorView) (slice : ℕ) → IsInterior i → 0 < length i.children → i.low ≤ slice → 0 < children_up_to slice i.children
first_up_to i slice sound some low = go i.children sound.starts some
  where
    go : (children : List Child) → StartsAt i.low children → 0 < length children → 0 < children_up_to slice children
    go [] starts h = absurd (omega arith)
    go (child ∷ children) starts h =
        let at_most : child.low ≤ slice = omega (arith, starts, low) in
        let passed : children_up_to slice (child ∷ children) ≡ 1 + children_up_to slice children = ap (λ b. cond b (1 + children_up_to slice children) 0) (le-leb child.low slice at_most) in
        omega (arith, passed)

-- an interior node's child for a slice
pub record UpTo (i : InteriorView) (slice : ℕ) : Type 0 where
  pub child : Child
  pub is : slice_get i.children (children_up_to slice i.children - 1) ≡ Some child
  pub among : Among child i.children
  pub low : child.low ≤ slice

read_among : {A : Type 0} (xs : List A) (k : ℕ) (x : A) → slice_get xs k ≡ Some x → Among x xs
read_among [] k x e = absurd (cc)
read_among (y ∷ ys) zero x e = let same : y ≡ x = cc in subst (λ (z : _). Among z (y ∷ ys)) same first
read_among (y ∷ ys) (suc k) x e = later (read_among ys k x e)

pub last_up_to : (i : InteriorView) (slice : ℕ) → IsInterior i → 0 < length i.children → i.low ≤ slice → UpTo i slice
last_up_to i slice sound some low =
    let positive = first_up_to i slice sound some low in
    let count = children_up_to slice i.children in
    let within : count ≤ length i.children = prefix_len-le-length (λ (child : Child). nat_le child.low slice) i.children in
    let child = get_or i.children (count - 1) blank_child in
    let is : slice_get i.children (count - 1) ≡ Some child = slice_get-get_or i.children (count - 1) blank_child (omega (arith, positive, within)) in
    record {
      child = child;
      is = is;
      among = read_among i.children (count - 1) child is;
      low = leb-true child.low slice (prefix_len_passes (λ (c : Child). nat_le c.low slice) i.children (count - 1) blank_child (omega (arith, positive)));
    }

pub leads_interior : (a : ArenaView) (number : ℕ) (rest : List ℕ) (i : InteriorView) → interior_at a.nodes number ≡ Some i → IsInterior i →
    (i.version.deleted ≡ false → (0 < length i.children) × (i.low ≤ slice_number rest)) → LeadsOn a number rest (visit_interior (slice_number rest) i)
leads_interior a number rest i named sound may = record {
  leads = λ now twins chart begun prefix index holds.
      go chart begun prefix i.version.deleted refl
      (λ alive up. children_held (arena_seen a) chart index.tree begun number (slice_number rest) prefix (interior_seen i) (child_seen up.child) holds (seen-interior a number i named) alive
      (among_map child_seen up.child i.children up.among) up.low);
}
  where
    to_up : (chart : Chart) (begun : ℕ) (prefix : List ℕ) (up : UpTo i (slice_number rest)) → Holds chart begun up.child.node.0 prefix (slice_number rest) →
        Knows a chart begun number prefix rest (to_child (slice_get i.children (children_up_to (slice_number rest) i.children - 1)))
    to_up chart begun prefix up held = rw up.is held

    go : (chart : Chart) (begun : ℕ) (prefix : List ℕ) (deleted : Bool) → i.version.deleted ≡ deleted →
        (i.version.deleted ≡ false → (up : UpTo i (slice_number rest)) → Holds chart begun up.child.node.0 prefix (slice_number rest)) →
        Knows a chart begun number prefix rest (if deleted then Again else to_child (slice_get i.children (children_up_to (slice_number rest) i.children - 1)))
    go chart begun prefix true is held = tt
    go chart begun prefix false is held = let (some, low) = may is in let up = last_up_to i (slice_number rest) sound some low in to_up chart begun prefix up (held is up)

-- what each visit was
pub tells_head : (a : ArenaView) (number : ℕ) (rest : List ℕ) (h : HeadView) → head_at a.nodes number ≡ Some h → IsHead h → TellsVisit a number rest (visit_head h)
tells_head a number rest h named sound = go h.version.deleted refl
  where
    go : (deleted : Bool) → h.version.deleted ≡ deleted → TellsVisit a number rest (if deleted then Again else To h.root)
    go true is = tt
    go false is = to_root (head_seen h) (seen-head a number h named) is sound.most refl

pub tells_interior : (a : ArenaView) (number : ℕ) (rest : List ℕ) (i : InteriorView) → interior_at a.nodes number ≡ Some i → IsInterior i →
    (i.version.deleted ≡ false → (0 < length i.children) × (i.low ≤ slice_number rest)) → TellsVisit a number rest (visit_interior (slice_number rest) i)
tells_interior a number rest i named sound may = go i.version.deleted refl
  where
    to_up : i.version.deleted ≡ false → UpTo i (slice_number rest) → TellsVisit a number rest (to_child (slice_get i.children (children_up_to (slice_number rest) i.children - 1)))
    to_up is up = rw up.is
        (move_to_child (interior_seen i) (child_seen up.child) (seen-interior a number i named) is sound.most (omega (arith, sound.low_fits)) (among_map child_seen up.child i.children up.among) refl)

    go : (deleted : Bool) → i.version.deleted ≡ deleted → TellsVisit a number rest (if deleted then Again else to_child (slice_get i.children (children_up_to (slice_number rest) i.children - 1)))
    go true is = tt
    go false is = let (some, low) = may is in to_up is (last_up_to i (slice_number rest) sound some low)

module _ (a : ArenaView) (number : ℕ) (rest : List ℕ) (b : BorderView) (named : border_at a.nodes number ≡ Some b) (sound : IsBorder b) where
  same_border : (other : BorderView) → border_at a.nodes number ≡ Some other → b ≡ other
  same_border other at = let both : ◌≡◌ {A = Option BorderView} (Some b) (Some other) = sym named ∙ at in cc

  here : b.version.deleted ≡ false → IsLast (found_for rest b.live) → TellsVisit a number rest Here
  here alive last other at = let same = same_border other at in
      (ap (λ (x : BorderView). x.version.deleted) (sym same) ∙ alive, subst (λ (x : BorderView). IsLast (found_for rest x.live)) same last)

  tells_found : (found : Found) → found_for rest b.live ≡ found → b.version.deleted ≡ false → TellsVisit a number rest (visit_found found)
  tells_found (Absent place) e alive = here alive (subst IsLast (sym e) tt)
  tells_found (RowFound place) e alive = here alive (subst IsLast (sym e) tt)
  tells_found (OtherSuffix place) e alive = here alive (subst IsLast (sym e) tt)
  tells_found (LinkFound place top) e alive =
      let f = found_one (slice_number rest) (class_of (length rest)) (drop 8 rest) b.live (LinkFound place top) e (λ at clash. cc) in
      let is = link_found (drop 8 rest) _ place top f.entry.content f.is in
      let seen : entry_seen f.entry ≡ record { slice = f.entry.slice; content = link top.0 } = at_entry f.entry top is in
      let among = subst (λ (p : PlainEntry). Among p (entries_seen b.live)) seen (among_map entry_seen f.entry b.live f.stands) in
      to_link (border_seen b) f.entry.slice top.0 (seen-border a number b named) alive (omega (arith, sound.low_fits)) among refl
    where
      at_entry : (entry : Entry) (t : NodeNo) → entry.content ≡ Link t → entry_seen entry ≡ record { slice = entry.slice; content = link t.0 }
      at_entry entry t y = rw y refl

  tells_right : (right : Option NodeNo) → right_for b.right (slice_number rest) ≡ right → b.version.deleted ≡ false → TellsVisit a number rest (to_right right (found_for rest b.live))
  tells_right (Some next) e alive =
      let n = right_found b (slice_number rest) next e in
      move_to_right (border_seen b) (right_seen n.right) (seen-border a number b named) alive (ap (option_map right_seen) n.is) (ap (λ (x : NodeNo). x.0) n.node)
  tells_right None e alive = tells_found (found_for rest b.live) refl alive

  pub tells_border : TellsVisit a number rest (visit_border rest b)
  tells_border = go b.version.deleted refl
    where
      go : (deleted : Bool) → b.version.deleted ≡ deleted → TellsVisit a number rest (if deleted then Again else to_right (right_for b.right (slice_number rest)) (found_for rest b.live))
      go true is = tt
      go false is = tells_right (right_for b.right (slice_number rest)) refl is

-- the visit of a node, of whatever kind
module _ (a : ArenaView) (number : ℕ) (rest : List ℕ) where
  pub may_visit : (node : Node) → node_at a.nodes number ≡ Some node → MayVisit a number (slice_number rest) → MayVisitNode node (slice_number rest)
  may_visit node is may = record { has_child = λ i of. may.has_child i (ap (option_and_then interior_of) is ∙ of) }

  pub leads_node : (node : Node) → node_at a.nodes number ≡ Some node → IsNode node → MayVisit a number (slice_number rest) → LeadsOn a number rest (node_visit rest node)
  leads_node (HeadNode h) is sound may = leads_head a number rest h (ap (option_and_then head_of) is)
  leads_node (InteriorNode i) is sound may = leads_interior a number rest i (ap (option_and_then interior_of) is) sound (may.has_child i (ap (option_and_then interior_of) is))
  leads_node (BorderNode b) is sound may = leads_border a number rest b (ap (option_and_then border_of) is) sound

  pub tells_node : (node : Node) → node_at a.nodes number ≡ Some node → IsNode node → MayVisit a number (slice_number rest) → TellsVisit a number rest (node_visit rest node)
  tells_node (HeadNode h) is sound may = tells_head a number rest h (ap (option_and_then head_of) is) sound
  tells_node (InteriorNode i) is sound may = tells_interior a number rest i (ap (option_and_then interior_of) is) sound (may.has_child i (ap (option_and_then interior_of) is))
  tells_node (BorderNode b) is sound may = tells_border a number rest b (ap (option_and_then border_of) is) sound
