-- Why a tidy waits on its way: for what it has read, as a get.
use Rattle.std.proofs.Common.{ℕ, ◌≡◌, ◌+◌, inl, inr, List, [], length, drop, Option, Some, None, Bool, true, false, if◌then◌else◌, refl, sym, ap, subst, ◌∙◌}
use Rattle.std.specs.Prelude.{nat_lt, slice_index, IsSomeAnd}
use Rattle.std.specs.Option.{option_and_then}
use Rattle.std.specs.Borrow.{Bor}
use Rattle.std.specs.Str.{bytes_eq}
use Rattle.mt_slice.specs.Place.{slice_number}
use Rattle.mt_slice.specs.Classes.{class_number, class_of}
use Rattle.mt_border.specs.Border.{BorderView}
use Rattle.mt_border.specs.Keys.{part_bytes, IsKeyPart}
use Rattle.mt_border.specs.Slots.{key_at}
use Rattle.mt_word.specs.Slots.{Slots}
use Rattle.mt_border.specs.declared.entry.RightLink.{RightLink}
use Rattle.mt_border.specs.declared.field.KeyPart.{KeyPart}
use Rattle.mt_border.specs.declared.field.Mark.{Mark}
use Rattle.mt_border.specs.declared.field.Mark.TheVariants.{Plain, Unstable, Layer}
use Rattle.mt_border.specs.declared.field.ValuePart.{ValuePart}
use Rattle.mt_border.specs.declared.field.ValuePart.TheVariants.{Row as RowPart, Link as LinkPart}
use Rattle.mt_interior.specs.Interior.{InteriorView}
use Rattle.mt_arena.specs.Node.{node_at, interior_of, border_of, border_at, IsNode}
use Rattle.mt_arena.specs.Arena.{ArenaView}
use Rattle.mt_arena.specs.Parts.{IsPart}
use Rattle.mt_arena.specs.declared.node.Node.{Node}
use Rattle.mt_arena.specs.declared.node.Node.TheVariants.{Head as HeadNode, Interior as InteriorNode, Border as BorderNode}
use Rattle.mt_arena.specs.declared.part.Field.{Field}
use Rattle.mt_arena.specs.declared.part.Field.TheVariants.{Version as VersionField, Right as RightField, Order as OrderField, Key as KeyField, Value as ValueField}
use Rattle.mt_arena.specs.declared.part.Part.{Part}
use Rattle.mt_arena.specs.declared.part.Part.TheVariants.{Head as HeadPart, Interior as InteriorPart, Version as VersionPart, Right as RightPart, Order as OrderPart, Key as KeyPartOf, Value as ValuePartOf}
use Rattle.mt_arena.proofs.NodeLemmas.{node-from_border}
use Rattle.mt_tree.specs.Descent.{visit_interior}
use Rattle.mt_tree.specs.declared.visit.Visit.{Visit}
use Rattle.mt_tree.specs.declared.visit.Visit.TheVariants.{Again as VisitAgain, To as VisitTo, Below as VisitBelow, Here as VisitHere}
use Rattle.mt_steps.specs.declared.finding.Kind.{Kind}
use Rattle.mt_steps.specs.declared.finding.Kind.TheVariants.{Link as LinkKind}
use Rattle.mt_steps.specs.declared.finding.Sight.{Sight}
use Rattle.mt_steps.specs.declared.finding.Sight.TheVariants.{Absent as AbsentSight}
use Rattle.mt_steps.specs.declared.reader.Counters.{Counters}
use Rattle.mt_steps.specs.declared.reader.Reader.TheVariants.{Begins, Looked, Bounded, Reads, AtValue, Settles}
use Rattle.mt_steps.specs.declared.reader.Reading.TheVariants.{Restarts, GoesOn}
use Rattle.mt_steps.specs.Reader.{by_visit, looked, bounded, settled, counters_of, wants, MayRead, ReadWaits}
use Rattle.mt_steps.specs.Finding.{Finding, FindNotes, FindReading, FindingWaits, next_key, key_found, is_before, key_compared, key_read, value_read, settles}
use Rattle.mt_steps.specs.Standing.{Lends}
use Rattle.mt_steps.proofs.LoneFields.{counters_same, interior_moves, VisitMoves}
use Rattle.mt_steps.proofs.PartLemmas.{lends_field, version_part, right_part, order_part, key_part, value_part}
use Rattle.mt_steps.proofs.ReaderLemmas.{waits_head, waits_interior, looked_by, bounded_by, marked_by, settled_by}
use Rattle.mt_remove.specs.Reading.{without_row, seek_reading}

module _ (a : ArenaView) (number : ℕ) (rest : List ℕ) where
  abbrev slice : ℕ
  slice = slice_number rest

  abbrev pub Waits : Finding → FindReading → Type 0
  Waits finding reading = ReadWaits (FindingWaits finding) a number reading

  lent_there : (field : Field) (part : Part) → Lends a number field part → IsSomeAnd (node_at a.nodes number) (λ node. IsPart node field part)
  lent_there field part lent = subst (λ (o : Option Node). IsSomeAnd o (λ node. IsPart node field part)) (sym lent.named) lent.is

  -- at a border
  module _ (b : BorderView) (named : border_at a.nodes number ≡ Some b) where
    at_border : (P : Node → Type 0) → P (BorderNode b) → IsSomeAnd (node_at a.nodes number) P
    at_border P so = subst (λ (o : Option Node). IsSomeAnd o P) (sym (node-from_border a.nodes number b named)) so

    waits_looked : Waits Begins (looked b.version)
    waits_looked = looked_by (Waits Begins) b.version (λ marked. at_border (FindingWaits Begins) (inl marked)) (λ set. at_border (FindingWaits Begins) (inr set)) (λ alive. tt)

    waits_bounded : (counters : Counters) → Waits (Looked counters) (bounded slice counters b.right)
    waits_bounded counters = bounded_by (Waits (Looked counters)) slice counters b.right (λ next is least. tt) (λ below. tt)

    waits_next : (finding : Finding) (notes : FindNotes) → Waits finding (next_key notes)
    waits_next finding notes = go (nat_lt notes.place (length notes.glance.order.live))
      where
        go : (c : Bool) → Waits finding (if c then GoesOn (Reads notes) else settles notes.glance.counters AbsentSight)
        go true = tt
        go false = tt

    waits_key : (notes : FindNotes) (part : KeyPart) → IsKeyPart (key_at b (slice_index notes.glance.order.live notes.place)) part → Waits (Reads notes) (without_row (key_read rest notes part))
    waits_key notes part is = marked_by (λ r. Waits (Reads notes) (without_row r)) part.mark (key_compared rest notes part) (λ set. at_border (FindingWaits (Reads notes)) (sym is.mark ∙ set))
        (λ clear. go (is_before part.slice (class_number part.class) slice (class_number (class_of (length rest)))) (is_before slice (class_number (class_of (length rest))) part.slice (class_number part.class)) part.mark (bytes_eq (part_bytes part) (drop 8 rest)) clear)
      where
        next : (c : Bool) → Waits (Reads notes) (without_row (if c then GoesOn (Reads (record notes { place = notes.place + 1 })) else settles notes.glance.counters AbsentSight))
        next true = tt
        next false = tt

        go : (less more : Bool) (mark : Mark) (same : Bool) → (mark ≡ Unstable → ⊥) → Waits (Reads notes) (without_row (if less then next_key (record notes { place = notes.place + 1 }) else if more then settles notes.glance.counters AbsentSight else key_found notes mark same))
        go true more mark same clear = next (nat_lt (notes.place + 1) (length notes.glance.order.live))
        go false true mark same clear = tt
        go false false Plain true clear = tt
        go false false Plain false clear = tt
        go false false Layer same clear = tt
        go false false Unstable same clear = absurd (clear refl)

    waits_settled : (counters : Counters) (sight : Sight) → Waits (Settles counters sight) (settled counters sight b.version)
    waits_settled counters sight = settled_by (Waits (Settles counters sight)) counters sight b.version (λ marked. at_border (FindingWaits (Settles counters sight)) (inl marked)) (λ set. at_border (FindingWaits (Settles counters sight)) (inr (inl set)))
        (λ other. at_border (FindingWaits (Settles counters sight)) (inr (inr (λ same. let clash : false ≡ true = sym other ∙ counters_same (counters_of b.version) counters same in absurd (cc))))) (λ alive flags same. tt)

  waits_value : (finding : Finding) (counters : Counters) (part : ValuePart) → Waits finding (value_read [] counters LinkKind part)
  waits_value finding counters (RowPart row) = tt
  waits_value finding counters (LinkPart head) = tt

  -- an interior node that has a child for the slice makes it wait only if it is marked deleted
  no_restart : (visit : Visit) → VisitMoves a number visit → ◌≡◌ {A = FindReading} (by_visit visit) Restarts → ⊥
  no_restart (VisitTo next) moves is = absurd (cc)
  no_restart VisitAgain moves is = moves
  no_restart (VisitBelow head) moves is = moves
  no_restart VisitHere moves is = moves

  restarts_marked : MayRead {N = Unit {0}} {K = Kind} {F = Sight} a number slice Begins → (own : Bor InteriorView) → Lends a number VersionField (InteriorPart own) → ◌≡◌ {A = FindReading} (by_visit (visit_interior slice own.now)) Restarts → own.now.version.deleted ≡ true
  restarts_marked may own lent is = at_node lent.node lent.named lent.sound lent.is
    where
      at_node : (node : Node) → node_at a.nodes number ≡ Some node → IsNode node → IsPart node VersionField (InteriorPart own) → own.now.version.deleted ≡ true
      at_node (HeadNode h) named sound part = absurd part
      at_node (BorderNode b) named sound part = absurd part
      at_node (InteriorNode i) named sound part = go i.version.deleted refl
        where
          go : (d : Bool) → i.version.deleted ≡ d → own.now.version.deleted ≡ true
          go true marked = ap (λ (x : InteriorView). x.version.deleted) part ∙ marked
          go false alive = absurd (no_restart (visit_interior slice i) (interior_moves a number slice i named sound alive (may.child i (ap (option_and_then interior_of) named) alive))
              (subst (λ (x : InteriorView). ◌≡◌ {A = FindReading} (by_visit (visit_interior slice x)) Restarts) part is))

  -- at a border of which it has read something
  is_border : (finding : Finding) → MayRead a number slice finding → (finding ≡ Begins → ⊥) → (b : BorderView) × (border_at a.nodes number ≡ Some b)
  is_border finding may apart = go (border_at a.nodes number) refl
    where
      go : (o : Option BorderView) → border_at a.nodes number ≡ o → (b : BorderView) × (border_at a.nodes number ≡ Some b)
      go (Some b) named = (b, named)
      go None none = absurd (apart (may.begins none))

  -- as its version nothing else is lent
  no_right : (right : Option RightLink) → Lends a number VersionField (RightPart right) → ⊥
  no_right right lent = go lent.node lent.is
    where
      go : (node : Node) → IsPart node VersionField (RightPart right) → ⊥
      go (HeadNode h) part = part
      go (InteriorNode i) part = part
      go (BorderNode b) part = part

  no_order : (order : Slots) → Lends a number VersionField (OrderPart order) → ⊥
  no_order order lent = go lent.node lent.is
    where
      go : (node : Node) → IsPart node VersionField (OrderPart order) → ⊥
      go (HeadNode h) part = part
      go (InteriorNode i) part = part
      go (BorderNode b) part = part

  no_key : (key : KeyPart) → Lends a number VersionField (KeyPartOf key) → ⊥
  no_key key lent = go lent.node lent.is
    where
      go : (node : Node) → IsPart node VersionField (KeyPartOf key) → ⊥
      go (HeadNode h) part = part
      go (InteriorNode i) part = part
      go (BorderNode b) part = part

  no_value : (value : ValuePart) → Lends a number VersionField (ValuePartOf value) → ⊥
  no_value value lent = go lent.node lent.is
    where
      go : (node : Node) → IsPart node VersionField (ValuePartOf value) → ⊥
      go (HeadNode h) part = part
      go (InteriorNode i) part = part
      go (BorderNode b) part = part

  begins_waits : MayRead {N = Unit {0}} {K = Kind} {F = Sight} a number slice Begins → (part : Part) → Lends a number VersionField part → Waits Begins (seek_reading Begins rest part)
  begins_waits may (HeadPart own) lent = waits_head a number slice Begins may VersionField FindingWaits (λ node marked. inl marked) own _ refl (lent_there VersionField (HeadPart own) lent)
  begins_waits may (InteriorPart own) lent = waits_interior a number slice Begins may VersionField FindingWaits (λ node marked. inl marked) own _ refl (restarts_marked may own lent) (lent_there VersionField (InteriorPart own) lent)
  begins_waits may (VersionPart version) lent = at_node lent.node lent.named lent.is
    where
      at_node : (node : Node) → node_at a.nodes number ≡ Some node → IsPart node VersionField (VersionPart version) → Waits Begins (looked version)
      at_node (HeadNode h) named part = absurd part
      at_node (InteriorNode i) named part = absurd part
      at_node (BorderNode b) named part = subst (λ v. Waits Begins (looked v)) (sym part) (waits_looked b (ap (option_and_then border_of) named))
  begins_waits may (RightPart right) lent = absurd (no_right right lent)
  begins_waits may (OrderPart order) lent = absurd (no_order order lent)
  begins_waits may (KeyPartOf key) lent = absurd (no_key key lent)
  begins_waits may (ValuePartOf value) lent = absurd (no_value value lent)

  -- IT WAITS for what it has read
  pub seek_waits : (finding : Finding) → MayRead a number slice finding → (part : Part) → Lends a number (wants finding) part → Waits finding (seek_reading finding rest part)
  seek_waits Begins may part lent = begins_waits may part lent
  seek_waits (Looked counters) may part lent =
      let (b, named) = is_border (Looked counters) may (λ e. absurd (cc)) in
      let field = lends_field a number RightField part lent b named in
      subst (λ (p : Part). Waits (Looked counters) (seek_reading (Looked counters) rest p)) (sym (right_part b part field.is)) (waits_bounded b named counters)
  seek_waits (Bounded counters right) may part lent =
      let (b, named) = is_border (Bounded counters right) may (λ e. absurd (cc)) in
      let field = lends_field a number OrderField part lent b named in
      subst (λ (p : Part). Waits (Bounded counters right) (seek_reading (Bounded counters right) rest p)) (sym (order_part b part field.is)) (waits_next b named (Bounded counters right) _)
  seek_waits (Reads notes) may part lent =
      let (b, named) = is_border (Reads notes) may (λ e. absurd (cc)) in
      let k = slice_index notes.glance.order.live notes.place in
      let field = lends_field a number (KeyField k) part lent b named in
      let (key, one, is) = key_part b k part field.is in
      subst (λ (p : Part). Waits (Reads notes) (seek_reading (Reads notes) rest p)) (sym one) (waits_key b named notes key is)
  seek_waits (AtValue notes kind) may part lent =
      let (b, named) = is_border (AtValue notes kind) may (λ e. absurd (cc)) in
      let k = slice_index notes.glance.order.live notes.place in
      let field = lends_field a number (ValueField k) part lent b named in
      let (value, one, is) = value_part b k part field.is in
      subst (λ (p : Part). Waits (AtValue notes kind) (seek_reading (AtValue notes kind) rest p)) (sym one) (waits_value (AtValue notes kind) notes.glance.counters value)
  seek_waits (Settles counters sight) may part lent =
      let (b, named) = is_border (Settles counters sight) may (λ e. absurd (cc)) in
      let field = lends_field a number VersionField part lent b named in
      subst (λ (p : Part). Waits (Settles counters sight) (seek_reading (Settles counters sight) rest p)) (sym (version_part b part field.is)) (waits_settled b named counters sight)
