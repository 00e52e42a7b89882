-- What a reader is lent of a node, and why it waits at a head or an interior node.
use Rattle.std.proofs.Common.{ℕ, ◌≡◌, ◌<◌, ◌≤◌, Bool, true, false, if◌then◌else◌, length, slice_get, Option, Some, None, refl, sym, ap, subst, ◌∙◌}
use Rattle.std.specs.Prelude.{◌-◌, IsSomeAnd, nat_le}
use Rattle.std.specs.Borrow.{Bor}
use Rattle.std.specs.Option.{option_and_then, option_map}
use Rattle.std.proofs.lemmas.Bool.{leb-true, leb-false}
use Rattle.mt_word.specs.Version.{VersionView, is_flagged}
use Rattle.mt_border.specs.declared.entry.RightLink.{RightLink}
use Rattle.mt_border.specs.declared.field.Mark.{Mark}
use Rattle.mt_border.specs.declared.field.Mark.TheVariants.{Plain, Unstable, Layer}
use Rattle.mt_interior.specs.Head.{HeadView}
use Rattle.mt_interior.specs.Interior.{InteriorView, children_up_to}
use Rattle.mt_interior.specs.declared.child.Child.{Child}
use Rattle.mt_arena.specs.Arena.{ArenaView, IsArena}
use Rattle.mt_arena.specs.Node.{node_at, border_at, border_of, interior_of, IsNode}
use Rattle.mt_arena.specs.Parts.{IsPart}
use Rattle.mt_arena.specs.declared.node.Node.{Node}
use Rattle.mt_arena.specs.declared.node.Node.TheVariants.{Head as HeadNode, Interior as InteriorNode, Border as BorderNode}
use Rattle.mt_arena.specs.declared.part.Field.{Field}
use Rattle.mt_arena.specs.declared.part.Part.{Part}
use Rattle.mt_arena.specs.declared.part.Part.TheVariants.{Head as HeadPart, Interior as InteriorPart}
use Rattle.mt_chart.specs.Tree.{Below, no_right, before_right}
use Rattle.mt_tree.specs.Descent.{visit_head, visit_interior, to_child, is_marked}
use Rattle.mt_tree.specs.Seen.{right_seen}
use Rattle.mt_tree.specs.declared.visit.Visit.TheVariants.{Again as VisitAgain, To as VisitTo}
use Rattle.mt_steps.specs.Reader.{by_visit, ReadWaits, MayRead, counters_of, same_counters, by_mark, looked, bounded, settled}
use Rattle.mt_steps.specs.Standing.{Lends}
use Rattle.mt_steps.specs.declared.reader.Reader.{Reader}
use Rattle.mt_steps.specs.declared.reader.Reader.TheVariants.{Begins, Looked, Bounded}
use Rattle.mt_steps.specs.declared.reader.Reading.{Reading}
use Rattle.mt_steps.specs.declared.reader.Reading.TheVariants.{Restarts, Repeats, GoesOn, To, Finds}
use Rattle.mt_steps.specs.declared.reader.Counters.{Counters}
use Rattle.mt_steps.proofs.PartLemmas.{no_head, no_interior}

module _ {N K F : Type 0} (a : ArenaView) (number slice : ℕ) (reader : Reader N K F) (may : MayRead a number slice reader) (field : Field) where
  -- the interior that is lent has a child for the slice
  pub may_child : (interior : Bor InteriorView) → IsSomeAnd (node_at a.nodes number) (λ node. IsPart node field (InteriorPart interior))
      → interior.now.version.deleted ≡ false → (0 < length interior.now.children) × (interior.now.low ≤ slice)
  may_child interior is alive = go (node_at a.nodes number) refl is
    where
      go : (node : Option Node) → node_at a.nodes number ≡ node → IsSomeAnd node (λ x. IsPart x field (InteriorPart interior)) → (0 < length interior.now.children) × (interior.now.low ≤ slice)
      go (Some (HeadNode h)) named is = absurd is
      go (Some (InteriorNode i)) named is = may.child interior.now (ap (option_and_then interior_of) named ∙ ap Some (sym is)) alive
      go (Some (BorderNode b)) named is = absurd (no_interior b field interior is)
      go None named is = absurd is

  -- it waits at a node that is marked deleted
  module _ (Waits : Reader N K F → Node → Type 0) (marks : (node : Node) → is_marked node ≡ true → Waits Begins node) where
    marked_waits : (node : Node) → node_at a.nodes number ≡ Some node → border_of node ≡ None → is_marked node ≡ true → IsSomeAnd (node_at a.nodes number) (Waits reader)
    marked_waits node named inner marked =
        let none : border_at a.nodes number ≡ None = ap (option_and_then border_of) named ∙ inner in
        subst (λ (x : Reader N K F). IsSomeAnd (node_at a.nodes number) (Waits x)) (sym (may.begins none))
        (subst (λ (x : Option Node). IsSomeAnd x (Waits Begins)) (sym named) (marks node marked))

    pub waits_head : (head : Bor HeadView) (reading : Reading N K F) → reading ≡ by_visit (visit_head head.now) → IsSomeAnd (node_at a.nodes number) (λ node. IsPart node field (HeadPart head)) → ReadWaits (Waits reader) a number reading
    waits_head head reading of is = subst (λ (r : Reading N K F). ReadWaits (Waits reader) a number r) (sym of) (go head.now.version.deleted refl (node_at a.nodes number) refl is)
      where
        go : (d : Bool) → head.now.version.deleted ≡ d → (node : Option Node) → node_at a.nodes number ≡ node → IsSomeAnd node (λ x. IsPart x field (HeadPart head)) → ReadWaits {N = N} {K = K} {F = F} (Waits reader) a number (by_visit (if d then VisitAgain else VisitTo head.now.root))
        go true marked (Some (HeadNode h)) named is = marked_waits (HeadNode h) named refl (subst (λ (x : HeadView). x.version.deleted ≡ true) is marked)
        go true marked (Some (InteriorNode i)) named is = absurd is
        go true marked (Some (BorderNode b)) named is = absurd (no_head b field head is)
        go true marked None named is = absurd is
        go false marked node named is = tt

    pub waits_interior : (interior : Bor InteriorView) (reading : Reading N K F) → reading ≡ by_visit (visit_interior slice interior.now) → (reading ≡ Restarts → interior.now.version.deleted ≡ true)
        → IsSomeAnd (node_at a.nodes number) (λ node. IsPart node field (InteriorPart interior)) → ReadWaits (Waits reader) a number reading
    waits_interior interior reading of marked is =
        subst (λ (r : Reading N K F). ReadWaits (Waits reader) a number r) (sym of)
        (go interior.now.version.deleted (slice_get interior.now.children (children_up_to slice interior.now.children - 1)) (λ restarts. marked (of ∙ restarts)))
      where
        waits : interior.now.version.deleted ≡ true → (node : Option Node) → node_at a.nodes number ≡ node → IsSomeAnd node (λ x. IsPart x field (InteriorPart interior)) → IsSomeAnd (node_at a.nodes number) (Waits reader)
        waits deleted (Some (HeadNode h)) named is = absurd is
        waits deleted (Some (InteriorNode i)) named is = marked_waits (InteriorNode i) named refl (subst (λ (x : InteriorView). x.version.deleted ≡ true) is deleted)
        waits deleted (Some (BorderNode b)) named is = absurd (no_interior b field interior is)
        waits deleted None named is = absurd is

        go : (deleted : Bool) (child : Option Child) → (◌≡◌ {A = Reading N K F} (by_visit (if deleted then VisitAgain else to_child child)) Restarts → interior.now.version.deleted ≡ true) → ReadWaits {N = N} {K = K} {F = F} (Waits reader) a number (by_visit (if deleted then VisitAgain else to_child child))
        go true child marked = waits (marked refl) (node_at a.nodes number) refl is
        go false (Some child) marked = tt
        go false None marked = waits (marked refl) (node_at a.nodes number) refl is

-- what the tree lends
pub lent_of : (a : ArenaView) (number : ℕ) (field : Field) (part : Part) → IsSomeAnd (node_at a.nodes number) (λ node. IsPart node field part) → IsSomeAnd (node_at a.nodes number) IsNode → IsArena a → Lends a number field part
lent_of a number field part is sound arena = go (node_at a.nodes number) refl is sound
  where
    go : (node : Option Node) → node_at a.nodes number ≡ node → IsSomeAnd node (λ x. IsPart x field part) → IsSomeAnd node IsNode → Lends a number field part
    go (Some node) named is sound = record { node = node; named = named; sound = sound; is = is; arena = arena }
    go None named is sound = absurd is

-- ---- what a reading leads to, by what is so of each that it may be
module _ {N K F : Type 0} (P : Reading N K F → Type 0) where
  pub looked_by : (version : VersionView) → (version.deleted ≡ true → P Restarts) → (is_flagged version ≡ true → P Repeats) → (version.deleted ≡ false → P (GoesOn (Looked (counters_of version)))) → P (looked version)
  looked_by version gone flagged on = go version.deleted refl (is_flagged version) refl
    where
      go : (d : Bool) → version.deleted ≡ d → (f : Bool) → is_flagged version ≡ f → P (if d then Restarts else if f then Repeats else GoesOn (Looked (counters_of version)))
      go true is f set = gone is
      go false is true set = flagged set
      go false is false set = on is

  pub bounded_by : (slice : ℕ) (counters : Counters) (right : Option RightLink) → ((next : RightLink) → right ≡ Some next → next.low ≤ slice → P (To next.node)) → (Below slice (option_map right_seen right) → P (GoesOn (Bounded counters right))) → P (bounded slice counters right)
  bounded_by slice counters None to on = on no_right
  bounded_by slice counters (Some next) to on = go (nat_le next.low slice) refl
    where
      go : (b : Bool) → nat_le next.low slice ≡ b → P (if b then To next.node else GoesOn (Bounded counters (Some next)))
      go true le = to next refl (leb-true next.low slice le)
      go false le = on (before_right (leb-false next.low slice le))

  pub marked_by : (mark : Mark) (reading : Reading N K F) → (mark ≡ Unstable → P Repeats) → ((mark ≡ Unstable → ⊥) → P reading) → P (by_mark mark reading)
  marked_by Plain reading repeats on = on (λ set. absurd (cc))
  marked_by Unstable reading repeats on = repeats refl
  marked_by Layer reading repeats on = on (λ set. absurd (cc))

  pub settled_by : (counters : Counters) (found : F) (version : VersionView) → (version.deleted ≡ true → P Restarts) → (is_flagged version ≡ true → P Repeats) → (same_counters (counters_of version) counters ≡ false → P Repeats)
      → (version.deleted ≡ false → is_flagged version ≡ false → same_counters (counters_of version) counters ≡ true → P (Finds found)) → P (settled counters found version)
  settled_by counters found version gone flagged changed still = go version.deleted refl (is_flagged version) refl (same_counters (counters_of version) counters) refl
    where
      go : (d : Bool) → version.deleted ≡ d → (f : Bool) → is_flagged version ≡ f → (s : Bool) → same_counters (counters_of version) counters ≡ s → P (if d then Restarts else if f then Repeats else if s then Finds found else Repeats)
      go true is f set s same = gone is
      go false is true set s same = flagged set
      go false is false set false same = changed same
      go false is false set true same = still is set same
