-- A get alone: what it has noted of a border is what the border has, and it doesn't wait.
use Rattle.std.proofs.Common.{ℕ, ◌≡◌, ◌<◌, ◌≤◌, ◌+◌, List, length, drop, Some, Bool, true, false, if◌then◌else◌, refl, sym, ap, subst, ◌∙◌}
use Rattle.std.specs.Prelude.{nat_lt, slice_index, IsSome}
use Rattle.std.specs.Option.{option_and_then}
use Rattle.std.specs.Str.{bytes_eq}
use Rattle.mt_slice.specs.Place.{slice_number}
use Rattle.mt_slice.specs.Classes.{class_number, class_of}
use Rattle.mt_word.specs.Slots.{Slots}
use Rattle.mt_border.specs.Border.{BorderView}
use Rattle.mt_border.specs.Entry.{content_row}
use Rattle.mt_border.specs.Order.{IsBorder}
use Rattle.mt_border.specs.Keys.{KeyView, content_mark, part_bytes, IsKeyPart}
use Rattle.mt_border.specs.Parts.{IsValueOf}
use Rattle.mt_border.specs.Slots.{slot_at, key_at}
use Rattle.mt_border.specs.declared.entry.Content.{Content}
use Rattle.mt_border.specs.declared.entry.Content.TheVariants.{Short, Long, Link}
use Rattle.mt_border.specs.declared.field.Mark.{Mark}
use Rattle.mt_border.specs.declared.field.Mark.TheVariants.{Plain, Unstable, Layer}
use Rattle.mt_border.specs.declared.field.KeyPart.{KeyPart as KeyOf}
use Rattle.mt_border.specs.declared.field.ValuePart.{ValuePart as ValueOf}
use Rattle.mt_border.specs.declared.field.ValuePart.TheVariants.{Row as RowPart, Link as LinkPart}
use Rattle.mt_interior.specs.Head.{HeadView}
use Rattle.mt_interior.specs.Interior.{InteriorView}
use Rattle.mt_arena.specs.Arena.{ArenaView}
use Rattle.mt_arena.specs.Node.{node_at, interior_at, border_at, border_of, interior_of, IsNode}
use Rattle.mt_arena.specs.Parts.{IsPart}
use Rattle.mt_arena.specs.declared.node.Node.{Node}
use Rattle.mt_arena.specs.declared.node.Node.TheVariants.{Head as HeadNode, Interior as InteriorNode, Border as BorderNode}
use Rattle.mt_arena.specs.declared.part.Field.TheVariants.{Version as VersionField, Right as RightField, Order as OrderField, Key as KeyField, Value as ValueField}
use Rattle.mt_arena.specs.declared.part.Part.{Part}
use Rattle.mt_chart.specs.Tree.{link, Among}
use Rattle.mt_chart.specs.Walk.{Moves}
use Rattle.mt_tree.specs.Descent.{visit_head, visit_interior, is_marked}
use Rattle.mt_tree.specs.Seen.{arena_seen, entries_seen}
use Rattle.mt_tree.specs.declared.visit.Visit.{Visit}
use Rattle.mt_tree.specs.declared.visit.Visit.TheVariants.{Again as VisitAgain, To as VisitTo, Below as VisitBelow, Here as VisitHere}
use Rattle.mt_steps.specs.Reader.{bounded, by_visit, counters_of, looked, settled, wants}
use Rattle.mt_steps.specs.Finding.{Finding, FindReading, next_key, key_found, is_before, key_compared, key_read, value_read, settles, notes_at, FindNotes}
use Rattle.mt_steps.specs.Getting.{reading_of}
use Rattle.mt_steps.specs.Standing.{Lends}
use Rattle.mt_steps.specs.Way.{rest_of}
use Rattle.mt_steps.specs.World.{is_locked}
use Rattle.mt_steps.specs.declared.reader.Counters.{Counters}
use Rattle.mt_steps.specs.declared.reader.Reader.TheVariants.{Begins, Looked, Bounded, Reads, AtValue, Settles}
use Rattle.mt_steps.specs.declared.finding.Kind.{Kind}
use Rattle.mt_steps.specs.declared.finding.Kind.TheVariants.{Row as RowKind, Link as LinkKind}
use Rattle.mt_steps.specs.declared.reader.Reading.TheVariants.{GoesOn, To, Finds}
use Rattle.mt_steps.specs.declared.finding.Sight.{Sight}
use Rattle.mt_steps.specs.declared.finding.Sight.TheVariants.{Absent, Row as RowSight, Link as LinkSight}
use Rattle.mt_steps.specs.declared.getting.Get.{Get}
use Rattle.mt_steps.proofs.LoneFields.{never, IsNow, VisitMoves, head_moves, interior_moves, unflagged, counters_same, key_of_unlocked, order_unlocked, never_unstable, right_moves, link_moves, link_among, border_alive, border_unlocked}
use Rattle.mt_arena.specs.declared.part.Part.TheVariants.{Order as OrderPart}
use Rattle.mt_steps.proofs.PartLemmas.{lends_field, version_part, right_part, order_part, key_part, value_part, head_part, interior_part}
use Rattle.mt_steps.proofs.ReaderLemmas.{looked_by, bounded_by, marked_by, settled_by}

-- ---- what it has noted
-- a key that was read as a row's is that of a slot with a row
abbrev pub KindFits : Kind → Content → Type 0
KindFits RowKind content = IsSome (content_row content)
KindFits LinkKind content = Unit {0}

-- a link that was found is one of the border's
abbrev pub SightFits : Sight → BorderView → Type 0
SightFits (LinkSight head) b = (slice : ℕ) × Among (record { slice = slice; content = link head.0 }) (entries_seen b.live)
SightFits _ b = Unit {0}

-- WHAT IT HAS NOTED of the border of the number is what the border has
abbrev pub FindStands : ArenaView → ℕ → Finding → Type 0
FindStands a number Begins = Unit {0}
FindStands a number (Looked counters) = (b : BorderView) × IsNow a number counters b
FindStands a number (Bounded counters right) = (b : BorderView) × IsNow a number counters b
FindStands a number (Reads notes) = (b : BorderView) × IsNow a number notes.glance.counters b × (notes.glance.order ≡ b.order)
FindStands a number (AtValue notes kind) = (b : BorderView) × IsNow a number notes.glance.counters b × (notes.glance.order ≡ b.order)
    × KindFits kind (slot_at b (slice_index notes.glance.order.live notes.place)).entry.content
FindStands a number (Settles counters sight) = (b : BorderView) × IsNow a number counters b × SightFits sight b

-- WHERE A READING LEADS IT: it reads on, or it moves to another node, or it answers; it doesn't wait
abbrev pub FindGoes : ArenaView → ℕ → FindReading → Type 0
FindGoes a number (GoesOn next) = FindStands a number next
FindGoes a number (To node) = Moves (arena_seen a) number node.0
FindGoes a number (Finds (LinkSight head)) = Moves (arena_seen a) number head.0
FindGoes a number (Finds Absent) = Unit {0}
FindGoes a number (Finds (RowSight row)) = Unit {0}
FindGoes a number _ = ⊥

-- ---- at a head or an interior node
pub visit_goes : (a : ArenaView) (number : ℕ) (visit : Visit) → VisitMoves a number visit → FindGoes a number (by_visit visit)
visit_goes a number (VisitTo next) moves = moves
visit_goes a number VisitAgain moves = moves
visit_goes a number (VisitBelow head) moves = absurd moves
visit_goes a number VisitHere moves = moves

-- ---- at a border that is not marked deleted, and not locked
module _ (a : ArenaView) (number : ℕ) (b : BorderView) (named : border_at a.nodes number ≡ Some b) (sound : IsBorder b) (alive : b.version.deleted ≡ false) (unlocked : b.version.locked ≡ false) where
  pub goes_looked : FindGoes a number (looked b.version)
  goes_looked = looked_by (FindGoes a number) b.version (λ is. never alive is) (λ set. never (unflagged b sound unlocked) set) (λ on. (b, record { named = named; counted = refl }))

  pub goes_bounded : (slice : ℕ) (counters : Counters) → IsNow a number counters b → FindGoes a number (bounded slice counters b.right)
  goes_bounded slice counters now = bounded_by (FindGoes a number) slice counters b.right (λ next is least. right_moves a number b named sound alive next is) (λ below. (b, now))

  goes_next : (notes : FindNotes) → IsNow a number notes.glance.counters b → notes.glance.order ≡ b.order → FindGoes a number (next_key notes)
  goes_next notes now order = go (nat_lt notes.place (length notes.glance.order.live))
    where
      go : (c : Bool) → FindGoes a number (if c then GoesOn (Reads notes) else settles notes.glance.counters Absent)
      go true = (b, now, order)
      go false = (b, now, tt)

  goes_settled : (counters : Counters) (sight : Sight) → IsNow a number counters b → SightFits sight b → FindGoes a number (settled counters sight b.version)
  goes_settled counters sight now fits = settled_by (FindGoes a number) counters sight b.version (λ is. never alive is) (λ set. never (unflagged b sound unlocked) set)
      (λ other. never other (counters_same (counters_of b.version) counters now.counted)) (λ is set same. told sight fits)
    where
      told : (s : Sight) → SightFits s b → FindGoes a number (Finds s)
      told Absent fits = tt
      told (RowSight row) fits = tt
      told (LinkSight head) (slice, there) = link_moves a number b named sound alive slice head.0 there

  module _ (notes : FindNotes) (now : IsNow a number notes.glance.counters b) (order : notes.glance.order ≡ b.order) where
    abbrev content : Content
    content = (slot_at b (slice_index notes.glance.order.live notes.place)).entry.content

    goes_found : (own : Content) → own ≡ content → (mark : Mark) → mark ≡ content_mark own → (same : Bool) → FindGoes a number (key_found notes mark same)
    goes_found own is Layer of same = (b, now, order, tt)
    goes_found own is Plain of false = (b, now, tt)
    goes_found (Short bytes row) is Plain of true = (b, now, order, subst (λ (c : Content). IsSome (content_row c)) is refl)
    goes_found (Long suffix row) is Plain of true = (b, now, order, subst (λ (c : Content). IsSome (content_row c)) is refl)
    goes_found (Link head) is Plain of true = absurd (let clash : Plain ≡ Layer = of in cc)
    goes_found own is Unstable of same = absurd (never_unstable own of)

    goes_key : (rest : List ℕ) (key : KeyOf) → IsKeyPart (key_at b (slice_index notes.glance.order.live notes.place)) key → FindGoes a number (key_read rest notes key)
    goes_key rest key is = marked_by (FindGoes a number) key.mark (key_compared rest notes key) (λ set. absurd (never_unstable content (sym set ∙ own_mark))) (λ clear. go (is_before key.slice (class_number key.class) (slice_number rest) (class_number (class_of (length rest)))) (is_before (slice_number rest) (class_number (class_of (length rest))) key.slice (class_number key.class)))
      where
        own_mark : key.mark ≡ content_mark content
        own_mark = is.mark ∙ ap (λ (k : KeyView). k.mark) (key_of_unlocked b (slice_index notes.glance.order.live notes.place) sound unlocked)

        go : (before after : Bool) → FindGoes a number (if before then next_key (record notes { place = notes.place + 1 }) else if after then settles notes.glance.counters Absent else key_found notes key.mark (bytes_eq (part_bytes key) (drop 8 rest)))
        go true after = goes_next (record notes { place = notes.place + 1 }) now order
        go false true = (b, now, tt)
        go false false = goes_found content refl key.mark own_mark (bytes_eq (part_bytes key) (drop 8 rest))

    goes_value : notes.place < length notes.glance.order.live → (asked : List ℕ) (kind : Kind) → KindFits kind content → (value : ValueOf) → IsValueOf content value → FindGoes a number (value_read asked notes.glance.counters kind value)
    goes_value within asked RowKind fits (RowPart row) is = (b, now, tt)
    goes_value within asked LinkKind fits (RowPart row) is = (b, now, tt)
    goes_value within asked RowKind fits (LinkPart head) is = absurd (no_row content fits is)
      where
        no_row : (own : Content) → IsSome (content_row own) → IsValueOf own (LinkPart head) → ⊥
        no_row (Short bytes row) some is = is
        no_row (Long suffix row) some is = is
        no_row (Link own) some is = (let clash : false ≡ true = some in cc)
    goes_value within asked LinkKind fits (LinkPart head) is =
        let at : slice_index notes.glance.order.live notes.place ≡ slice_index b.order.live notes.place = ap (λ (o : Slots). slice_index o.live notes.place) order in
        let inside : notes.place < length b.order.live = subst (λ (o : Slots). notes.place < length o.live) order within in
        (b, now, ((slot_at b (slice_index b.order.live notes.place)).entry.slice, link_among b sound unlocked notes.place inside head (ap (λ (k : ℕ). (slot_at b k).entry.content) (sym at) ∙ of content is)))
      where
        of : (own : Content) → IsValueOf own (LinkPart head) → own ≡ Link head
        of (Short bytes row) is = absurd is
        of (Long suffix row) is = absurd is
        of (Link own) is = ap Link (sym is)

-- ---- any reading
-- what it must know before it reads: an interior node has a child for its slice; a value is that of a live slot
abbrev pub FindMay : ArenaView → Get → Finding → Type 0
FindMay a get Begins = (i : InteriorView) → interior_at a.nodes get.way.node.0 ≡ Some i → i.version.deleted ≡ false → (0 < length i.children) × (i.low ≤ slice_number (rest_of get.key get.way))
FindMay a get (AtValue notes kind) = notes.place < length notes.glance.order.live
FindMay a get _ = Unit {0}

module _ (a : ArenaView) (get : Get) (alive : (node : Node) → node_at a.nodes get.way.node.0 ≡ Some node → is_marked node ≡ false) (unlocked : (node : Node) → node_at a.nodes get.way.node.0 ≡ Some node → is_locked node ≡ false) where
  abbrev number : ℕ
  number = get.way.node.0

  abbrev with_finding : Finding → Get
  with_finding finding = record get { finding = finding }

  at_node : FindMay a get Begins → (node : Node) → node_at a.nodes number ≡ Some node → IsNode node → (part : Part) → IsPart node VersionField part → FindGoes a number (reading_of (with_finding Begins) part)
  at_node may (HeadNode h) named sound part is =
      let (own, one, view) = head_part h VersionField part is in
      subst (λ (p : Part). FindGoes a number (reading_of (with_finding Begins) p)) (sym one)
      (subst (λ (x : HeadView). FindGoes a number (by_visit (visit_head x))) (sym view) (visit_goes a number (visit_head h) (head_moves a number h named sound (alive (HeadNode h) named))))
  at_node may (InteriorNode i) named sound part is =
      let (own, one, view) = interior_part i VersionField part is in
      subst (λ (p : Part). FindGoes a number (reading_of (with_finding Begins) p)) (sym one)
      (subst (λ (x : InteriorView). FindGoes a number (by_visit (visit_interior (slice_number (rest_of get.key get.way)) x))) (sym view)
      (visit_goes a number (visit_interior (slice_number (rest_of get.key get.way)) i) (interior_moves a number (slice_number (rest_of get.key get.way)) i named sound (alive (InteriorNode i) named) (may i (ap (option_and_then interior_of) named) (alive (InteriorNode i) named)))))
  at_node may (BorderNode b) named sound part is =
      subst (λ (p : Part). FindGoes a number (reading_of (with_finding Begins) p)) (sym (version_part b part is))
      (goes_looked a number b (ap (option_and_then border_of) named) sound (alive (BorderNode b) named) (unlocked (BorderNode b) named))

  -- WHAT IT READS leads it on, and it doesn't wait
  pub find_goes : (finding : Finding) → FindMay a get finding → FindStands a number finding → (part : Part) → Lends a number (wants finding) part → FindGoes a number (reading_of (with_finding finding) part)
  find_goes Begins may stands part lent = at_node may lent.node lent.named lent.sound part lent.is
  find_goes (Looked counters) fits (b, now) part lent =
      let field = lends_field a number RightField part lent b now.named in
      subst (λ (p : Part). FindGoes a number (reading_of (with_finding (Looked counters)) p)) (sym (right_part b part field.is))
      (goes_bounded a number b now.named field.sound (border_alive a number alive b now.named) (border_unlocked a number unlocked b now.named) (slice_number (rest_of get.key get.way)) counters now)
  find_goes (Bounded counters right) fits (b, now) part lent =
      let field = lends_field a number OrderField part lent b now.named in
      subst (λ (p : Part). FindGoes a number (reading_of (with_finding (Bounded counters right)) p)) (sym (order_part b part field.is ∙ ap OrderPart (order_unlocked b field.sound (border_unlocked a number unlocked b now.named))))
      (goes_next a number b now.named field.sound (border_alive a number alive b now.named) (border_unlocked a number unlocked b now.named) (notes_at counters right b.order 0) now refl)
  find_goes (Reads notes) fits (b, now, order) part lent =
      let k = slice_index notes.glance.order.live notes.place in
      let field = lends_field a number (KeyField k) part lent b now.named in
      let (key, one, is) = key_part b k part field.is in
      subst (λ (p : Part). FindGoes a number (reading_of (with_finding (Reads notes)) p)) (sym one)
      (goes_key a number b now.named field.sound (border_alive a number alive b now.named) (border_unlocked a number unlocked b now.named) notes now order (rest_of get.key get.way) key is)
  find_goes (AtValue notes kind) within (b, now, order, fits) part lent =
      let k = slice_index notes.glance.order.live notes.place in
      let field = lends_field a number (ValueField k) part lent b now.named in
      let (value, one, is) = value_part b k part field.is in
      subst (λ (p : Part). FindGoes a number (reading_of (with_finding (AtValue notes kind)) p)) (sym one)
      (goes_value a number b now.named field.sound (border_alive a number alive b now.named) (border_unlocked a number unlocked b now.named) notes now order within get.columns kind fits value is)
  find_goes (Settles counters sight) fits (b, now, sight_fits) part lent =
      let field = lends_field a number VersionField part lent b now.named in
      subst (λ (p : Part). FindGoes a number (reading_of (with_finding (Settles counters sight)) p)) (sym (version_part b part field.is))
      (goes_settled a number b now.named field.sound (border_alive a number alive b now.named) (border_unlocked a number unlocked b now.named) counters sight now sight_fits)
