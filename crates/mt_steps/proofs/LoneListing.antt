-- A range or build alone: what it has noted of a border is what the border has, and each field that it reads brings it
-- nearer to the end of the border.
use Rattle.std.proofs.Common.{ℕ, ◌≡◌, ◌<◌, ◌+◌, ◌-◌, ◌*◌, ◌⊎◌, inl, inr, List, [], ◌∷◌, ◌++◌, length, Option, Some, Bool, true, false, if◌then◌else◌, refl, sym, ap, subst, ◌∙◌, arith}
use Rattle.std.specs.Prelude.{nat_lt, slice_index, IsSome}
use Rattle.std.specs.Option.{option_copied, option_map, option_and_then}
use Rattle.mt_types.specs.declared.row.Row.{Row}
use Rattle.mt_types.specs.declared.numbers.NodeNo.{NodeNo}
use Rattle.mt_slice.specs.Place.{place_of}
use Rattle.mt_slice.specs.declared.slice_class.Class.{Class}
use Rattle.mt_word.specs.Slots.{Slots}
use Rattle.mt_border.specs.Border.{BorderView}
use Rattle.mt_border.specs.Entry.{content_class, content_row, content_suffix}
use Rattle.mt_border.specs.Order.{IsBorder}
use Rattle.mt_border.specs.Keys.{KeyView, IsKeyPart}
use Rattle.mt_border.specs.Parts.{IsValueOf}
use Rattle.mt_border.specs.Slots.{slot_at, key_at}
use Rattle.mt_border.specs.declared.entry.Content.{Content}
use Rattle.mt_border.specs.declared.entry.Content.TheVariants.{Short, Long, Link}
use Rattle.mt_border.specs.declared.entry.Entry.{Entry}
use Rattle.mt_border.specs.declared.entry.RightLink.{RightLink}
use Rattle.mt_border.specs.declared.field.KeyPart.{KeyPart as KeyOf}
use Rattle.mt_border.specs.declared.field.ValuePart.{ValuePart as ValueOf}
use Rattle.mt_border.specs.declared.field.ValuePart.TheVariants.{Row as RowPart, Link as LinkPart}
use Rattle.mt_interior.specs.Head.{HeadView}
use Rattle.mt_interior.specs.Interior.{InteriorView}
use Rattle.mt_arena.specs.Arena.{ArenaView}
use Rattle.mt_arena.specs.Node.{node_at, border_at, border_of, interior_of, IsNode}
use Rattle.mt_arena.specs.Parts.{IsPart}
use Rattle.mt_arena.specs.declared.node.Node.{Node}
use Rattle.mt_arena.specs.declared.node.Node.TheVariants.{Head as HeadNode, Interior as InteriorNode, Border as BorderNode}
use Rattle.mt_arena.specs.declared.part.Field.TheVariants.{Version as VersionField, Right as RightField, Order as OrderField, Key as KeyField, Value as ValueField}
use Rattle.mt_arena.specs.declared.part.Part.{Part}
use Rattle.mt_chart.specs.Tree.{short, long, link, Among, first, later, PlainContent, PlainEntry}
use Rattle.mt_chart.specs.Walk.{Moves}
use Rattle.mt_tree.specs.Descent.{visit_head, visit_interior, is_marked}
use Rattle.mt_tree.specs.Seen.{arena_seen, entry_seen, entries_seen, right_seen}
use Rattle.mt_tree.specs.declared.visit.Visit.{Visit}
use Rattle.mt_tree.specs.declared.visit.Visit.TheVariants.{Again as VisitAgain, To as VisitTo, Below as VisitBelow, Here as VisitHere}
use Rattle.mt_scan.specs.Onward.{LeadsOn}
use Rattle.mt_scan.specs.Listed.{list_of}
use Rattle.mt_steps.specs.Reader.{MayRead, HasNext, bounded, by_visit, counters_of, looked, settled, wants}
use Rattle.mt_steps.specs.Listing.{Listing, ListReading, ListNotes, list_next, key_read_of, entry_for, is_before_link, kept_with, one_more, list_key, value_kept, list_reading, AreFew}
use Rattle.mt_steps.specs.Standing.{Lends}
use Rattle.mt_steps.specs.World.{is_locked}
use Rattle.mt_steps.specs.declared.reader.Counters.{Counters}
use Rattle.mt_steps.specs.declared.listing.KeyRead.{KeyRead}
use Rattle.mt_steps.specs.declared.listing.SlotKey.{SlotKey}
use Rattle.mt_steps.specs.declared.listing.Listed.{Listed}
use Rattle.mt_steps.specs.declared.listing.KeyRead.TheVariants.{Short as ShortKey, Long as LongKey, Layer as LayerKey}
use Rattle.mt_steps.specs.declared.reader.Reader.TheVariants.{Begins, Looked, Bounded, Reads, AtValue, Settles}
use Rattle.mt_steps.specs.declared.reader.Reading.TheVariants.{GoesOn, To, Finds}
use Rattle.mt_steps.proofs.LoneFields.{never, IsNow, VisitMoves, head_moves, interior_moves, unflagged, counters_same, key_of_unlocked, order_unlocked, never_unstable, right_moves, right_seen_moves, link_moves, link_among, border_alive, border_unlocked}
use Rattle.mt_arena.specs.declared.part.Part.TheVariants.{Order as OrderPart}
use Rattle.mt_steps.proofs.PartLemmas.{lends_field, version_part, right_part, order_part, key_part, value_part, head_part, interior_part}
use Rattle.mt_steps.proofs.ReaderLemmas.{looked_by, bounded_by, marked_by, settled_by}

-- ---- what it has noted
-- the links among these entries are the border's
abbrev pub LinksOf : List Entry → BorderView → Type 0
LinksOf entries b = (slice next : ℕ) → Among (record { slice = slice; content = link next }) (entries_seen entries) → Among (record { slice = slice; content = link next }) (entries_seen b.live)

-- a key that was read as a row's is that of a slot with a row
abbrev pub KeyFits : KeyRead → Content → Type 0
KeyFits LayerKey content = Unit {0}
KeyFits (ShortKey bytes) content = IsSome (content_row content)
KeyFits (LongKey suffix) content = IsSome (content_row content)

-- the right link is the border's, and so are the links
pub record NotedNow (a : ArenaView) (number : ℕ) (counters : Counters) (right : Option RightLink) (entries : List Entry) : Type 0 where
  pub b : BorderView
  pub now : IsNow a number counters b
  pub right_is : right ≡ b.right
  pub links : LinksOf entries b

-- the same of what it has noted of slots, and of the order
abbrev pub SlotsNow : ArenaView → ℕ → ListNotes → Type 0
SlotsNow a number notes = (n : NotedNow a number notes.glance.counters notes.glance.right notes.kept) × (notes.glance.order ≡ n.b.order)

-- WHAT IT HAS NOTED of the border of the number is what the border has
abbrev pub ListStands : ArenaView → ℕ → Listing → Type 0
ListStands a number Begins = Unit {0}
ListStands a number (Looked counters) = (b : BorderView) × IsNow a number counters b
ListStands a number (Bounded counters right) = NotedNow a number counters right []
ListStands a number (Reads notes) = SlotsNow a number notes
ListStands a number (AtValue notes key) = (s : SlotsNow a number notes)
    × (key.slice ≡ (slot_at s.0.b (slice_index notes.glance.order.live notes.place)).entry.slice)
    × KeyFits key.rest (slot_at s.0.b (slice_index notes.glance.order.live notes.place)).entry.content
ListStands a number (Settles counters listed) = NotedNow a number counters listed.right listed.entries

-- how many fields it has still to read there, at most
abbrev pub list_left : Listing → ℕ
list_left Begins = 40
list_left (Looked counters) = 39
list_left (Bounded counters right) = 38
list_left (Reads notes) = 37 - 2 * notes.place
list_left (AtValue notes key) = 36 - 2 * notes.place
list_left (Settles counters listed) = 1

-- WHERE A READING LEADS IT: nearer to the end of the border, or by a move to another node; it doesn't wait
abbrev pub ListGoes : ArenaView → ℕ → Listing → ListReading → Type 0
ListGoes a number listing (GoesOn next) = (list_left next < list_left listing) × ListStands a number next
ListGoes a number listing (To node) = Moves (arena_seen a) number node.0
ListGoes a number listing (Finds listed) = (next : ℕ) → LeadsOn (list_of listed.entries listed.right) next → Moves (arena_seen a) number next
ListGoes a number listing _ = ⊥

-- the slots that it reads are at most fifteen
abbrev pub PlaceFits : Listing → Type 0
PlaceFits (Reads notes) = HasNext notes × AreFew notes
PlaceFits (AtValue notes key) = HasNext notes × AreFew notes
PlaceFits _ = Unit {0}

-- ---- at a head or an interior node
visit_goes : (a : ArenaView) (number : ℕ) (listing : Listing) (visit : Visit) → VisitMoves a number visit → ListGoes a number listing (by_visit visit)
visit_goes a number listing (VisitTo next) moves = moves
visit_goes a number listing VisitAgain moves = moves
visit_goes a number listing (VisitBelow head) moves = moves
visit_goes a number listing VisitHere moves = moves

-- ---- entries that are kept
among_more : (entries : List Entry) (entry : Entry) (seen : PlainEntry) → Among seen (entries_seen (entries ++ entry ∷ [])) → Among seen (entries_seen entries) ⊎ (seen ≡ entry_seen entry)
among_more [] entry _ first = inr refl
among_more [] entry seen (later i) = elim i [ ]
among_more (x ∷ xs) entry _ first = inl first
among_more (x ∷ xs) entry seen (later i) = elim (among_more xs entry seen i) [ inl there ↦ inl (later there) | inr same ↦ inr same ]

links_more : (entries : List Entry) (entry : Entry) (b : BorderView) (right : Option RightLink) → LinksOf entries b → ((slice next : ℕ) → ◌≡◌ {A = PlainEntry} (record { slice = slice; content = link next }) (entry_seen entry)
    → Among (record { slice = slice; content = link next }) (entries_seen b.live)) → LinksOf (kept_with right entries (Some entry)) b
links_more entries entry b right links own = go (is_before_link right entry.slice)
  where
    go : (before : Bool) → LinksOf (if before then entries ++ entry ∷ [] else entries) b
    go true slice next i = elim (among_more entries entry (record { slice = slice; content = link next }) i) [ inl there ↦ links slice next there | inr same ↦ own slice next same ]
    go false slice next i = links slice next i

row_links : (entries : List Entry) (b : BorderView) (right : Option RightLink) (slice : ℕ) (key : KeyRead) (row : Row) → LinksOf entries b → LinksOf (kept_with right entries (entry_for slice key row)) b
row_links entries b right slice (ShortKey bytes) row links = links_more entries (record { slice = slice; content = Short bytes row }) b right links (λ at next same. absurd (let clash : ◌≡◌ {A = PlainContent} (link next) (short bytes row) = ap (λ (e : PlainEntry). e.content) same in cc))
row_links entries b right slice (LongKey suffix) row links = links_more entries (record { slice = slice; content = Long suffix row }) b right links (λ at next same. absurd (let clash : ◌≡◌ {A = PlainContent} (link next) (long (place_of suffix) row) = ap (λ (e : PlainEntry). e.content) same in cc))
row_links entries b right slice LayerKey row links = links

-- ---- at a border that is not marked deleted, and not locked
module _ (a : ArenaView) (number : ℕ) (b : BorderView) (named : border_at a.nodes number ≡ Some b) (sound : IsBorder b) (alive : b.version.deleted ≡ false) (unlocked : b.version.locked ≡ false) where
  goes_looked : ListGoes a number Begins (looked b.version)
  goes_looked = looked_by (ListGoes a number Begins) b.version (λ is. never alive is) (λ set. never (unflagged b sound unlocked) set) (λ on. (omega arith, (b, record { named = named; counted = refl })))

  goes_bounded : (slice : ℕ) (counters : Counters) → IsNow a number counters b → ListGoes a number (Looked counters) (bounded slice counters b.right)
  goes_bounded slice counters now = bounded_by (ListGoes a number (Looked counters)) slice counters b.right (λ next is least. right_moves a number b named sound alive next is)
      (λ below. (omega arith, record { b = b; now = now; right_is = refl; links = λ at next i. elim i [ ] }))

  goes_next : (listing : Listing) (notes : ListNotes) → (n : NotedNow a number notes.glance.counters notes.glance.right notes.kept) → notes.glance.order ≡ n.b.order → 37 - 2 * notes.place < list_left listing → 1 < list_left listing
      → ListGoes a number listing (list_next notes)
  goes_next listing notes n order less some = go (nat_lt notes.place (length notes.glance.order.live))
    where
      go : (c : Bool) → ListGoes a number listing (if c then GoesOn (Reads notes) else GoesOn (Settles notes.glance.counters (record { entries = notes.kept; right = notes.glance.right })))
      go true = (less, (n, order))
      go false = (some, n)

  goes_settled : (counters : Counters) (listed : Listed) → counters_of b.version ≡ counters → listed.right ≡ b.right → LinksOf listed.entries b
      → ListGoes a number (Settles counters listed) (settled counters listed b.version)
  goes_settled counters listed counted right_is links = settled_by (ListGoes a number (Settles counters listed)) counters listed b.version (λ is. never alive is) (λ set. never (unflagged b sound unlocked) set)
      (λ other. never other (counters_same (counters_of b.version) counters counted)) (λ is set same. leads)
    where
      leads : (next : ℕ) → LeadsOn (list_of listed.entries listed.right) next → Moves (arena_seen a) number next
      leads next (inl (there, is, same)) = right_seen_moves a number b named sound alive there next (ap (option_map right_seen) (sym right_is) ∙ is) same
      leads next (inr (slice, there)) = link_moves a number b named sound alive slice next (links slice next there)

-- ---- the key and the value of a slot
key_fits : (content : Content) → KeyFits (key_read_of (content_class content) (content_suffix content)) content
key_fits (Short bytes row) = refl
key_fits (Long suffix row) = refl
key_fits (Link head) = tt

module _ (a : ArenaView) (number : ℕ) (notes : ListNotes) (s : SlotsNow a number notes) (within : HasNext notes) (few : AreFew notes) where
  abbrev b : BorderView
  b = s.0.b

  abbrev n : ℕ
  n = slice_index notes.glance.order.live notes.place

  abbrev entry : Entry
  entry = (slot_at b n).entry

  goes_key : IsBorder b → b.version.locked ≡ false → (key : KeyOf) → IsKeyPart (key_at b n) key → ListGoes a number (Reads notes) (list_key notes key)
  goes_key sound unlocked key is =
      let now_key = key_of_unlocked b n sound unlocked in
      marked_by (ListGoes a number (Reads notes)) key.mark (GoesOn (AtValue notes (record { slice = key.slice; rest = key_read_of key.class (option_copied key.suffix) })))
      (λ set. absurd (never_unstable entry.content (sym set ∙ (is.mark ∙ ap (λ (k : KeyView). k.mark) now_key))))
      (λ clear. (
        omega (arith, within, few.1),
        (
          s,
          is.slice ∙ ap (λ (k : KeyView). k.slice) now_key,
          subst (λ (c : Class). KeyFits (key_read_of c (option_copied key.suffix)) entry.content) (sym (is.class ∙ ap (λ (k : KeyView). k.class) now_key))
              (subst (λ (s : Option (List ℕ)). KeyFits (key_read_of (content_class entry.content) s) entry.content) (sym (is.suffix ∙ ap (λ (k : KeyView). k.suffix) now_key)) (key_fits entry.content)),
        ),
      ))

  module _ (sound : IsBorder b) (alive : b.version.deleted ≡ false) (unlocked : b.version.locked ≡ false) (own : SlotKey) (slice_is : own.slice ≡ entry.slice) where
    abbrev slice : ℕ
    slice = own.slice

    goes_more : (kept : Option Entry) → LinksOf (kept_with notes.glance.right notes.kept kept) b → ListGoes a number (AtValue notes own) (one_more notes kept)
    goes_more kept links =
        goes_next a number b s.0.now.named sound alive unlocked (AtValue notes own) (record { glance = notes.glance; kept = kept_with notes.glance.right notes.kept kept; place = notes.place + 1 })
        (record { b = b; now = s.0.now; right_is = s.0.right_is; links = links }) s.1 (omega (arith, within, few.1)) (omega (arith, within, few.1))

    own_link : (head : NodeNo) → entry.content ≡ Link head → Among (record { slice = entry.slice; content = link head.0 }) (entries_seen b.live)
    own_link head is =
        let at : n ≡ slice_index b.order.live notes.place = ap (λ (o : Slots). slice_index o.live notes.place) s.1 in
        let inside : notes.place < length b.order.live = subst (λ (o : Slots). notes.place < length o.live) s.1 within in
        subst (λ (k : ℕ). Among (record { slice = (slot_at b k).entry.slice; content = link head.0 }) (entries_seen b.live)) (sym at)
        (link_among b sound unlocked notes.place inside head (ap (λ (k : ℕ). (slot_at b k).entry.content) (sym at) ∙ is))

    link_links : (head : NodeNo) → entry.content ≡ Link head → LinksOf (kept_with notes.glance.right notes.kept (Some (record { slice = slice; content = Link head }))) b
    link_links head is = links_more notes.kept (record { slice = slice; content = Link head }) b notes.glance.right s.0.links (λ at next same.
        let one : at ≡ slice = ap (λ (e : PlainEntry). e.slice) same in
        let two : next ≡ head.0 = (let both : ◌≡◌ {A = PlainContent} (link next) (link head.0) = ap (λ (e : PlainEntry). e.content) same in cc) in
        subst (λ (m : ℕ). Among (record { slice = at; content = link m }) (entries_seen b.live)) (sym two)
        (subst (λ (m : ℕ). Among (record { slice = m; content = link head.0 }) (entries_seen b.live)) (sym (one ∙ slice_is)) (own_link head is)))

    goes_value : (key : KeyRead) → KeyFits key entry.content → (value : ValueOf) → IsValueOf entry.content value → ListGoes a number (AtValue notes own) (value_kept notes slice key value)
    goes_value key fits (RowPart row) is = goes_more (entry_for slice key row.now) (row_links notes.kept b notes.glance.right slice key row.now s.0.links)
    goes_value LayerKey fits (LinkPart head) is = goes_more (Some (record { slice = slice; content = Link head })) (link_links head (of entry.content is))
      where
        of : (content : Content) → IsValueOf content (LinkPart head) → content ≡ Link head
        of (Short bytes row) is = absurd is
        of (Long suffix row) is = absurd is
        of (Link own) is = ap Link (sym is)
    goes_value (ShortKey bytes) fits (LinkPart head) is = absurd (no_row entry.content fits is)
      where
        no_row : (content : Content) → IsSome (content_row content) → IsValueOf content (LinkPart head) → ⊥
        no_row (Short bytes row) some is = is
        no_row (Long suffix row) some is = is
        no_row (Link own) some is = (let clash : false ≡ true = some in cc)
    goes_value (LongKey suffix) fits (LinkPart head) is = absurd (no_row entry.content fits is)
      where
        no_row : (content : Content) → IsSome (content_row content) → IsValueOf content (LinkPart head) → ⊥
        no_row (Short bytes row) some is = is
        no_row (Long suffix row) some is = is
        no_row (Link own) some is = (let clash : false ≡ true = some in cc)

-- ---- any reading
module _ (a : ArenaView) (number slice : ℕ) (alive : (node : Node) → node_at a.nodes number ≡ Some node → is_marked node ≡ false) (unlocked : (node : Node) → node_at a.nodes number ≡ Some node → is_locked node ≡ false) where
  at_node : MayRead {N = List Entry} {K = SlotKey} {F = Listed} a number slice Begins → (node : Node) → node_at a.nodes number ≡ Some node → IsNode node → (part : Part) → IsPart node VersionField part → ListGoes a number Begins (list_reading Begins slice part)
  at_node may (HeadNode h) named sound part is =
      let (own, one, view) = head_part h VersionField part is in
      subst (λ (p : Part). ListGoes a number Begins (list_reading Begins slice p)) (sym one)
      (subst (λ (x : HeadView). ListGoes a number Begins (by_visit (visit_head x))) (sym view) (visit_goes a number Begins (visit_head h) (head_moves a number h named sound (alive (HeadNode h) named))))
  at_node may (InteriorNode i) named sound part is =
      let (own, one, view) = interior_part i VersionField part is in
      subst (λ (p : Part). ListGoes a number Begins (list_reading Begins slice p)) (sym one)
      (subst (λ (x : InteriorView). ListGoes a number Begins (by_visit (visit_interior slice x))) (sym view)
      (visit_goes a number Begins (visit_interior slice i)
      (interior_moves a number slice i named sound (alive (InteriorNode i) named) (may.child i (ap (option_and_then interior_of) named) (alive (InteriorNode i) named)))))
  at_node may (BorderNode b) named sound part is =
      subst (λ (p : Part). ListGoes a number Begins (list_reading Begins slice p)) (sym (version_part b part is))
      (goes_looked a number b (ap (option_and_then border_of) named) sound (alive (BorderNode b) named) (unlocked (BorderNode b) named))

  -- WHAT IT READS brings it nearer to its end, and it doesn't wait
  pub list_goes : (listing : Listing) → MayRead a number slice listing → PlaceFits listing → ListStands a number listing → (part : Part) → Lends a number (wants listing) part → ListGoes a number listing (list_reading listing slice part)
  list_goes Begins may fits stands part lent = at_node may lent.node lent.named lent.sound part lent.is
  list_goes (Looked counters) may fits (b, now) part lent =
      let field = lends_field a number RightField part lent b now.named in
      subst (λ (p : Part). ListGoes a number (Looked counters) (list_reading (Looked counters) slice p)) (sym (right_part b part field.is))
      (goes_bounded a number b now.named field.sound (border_alive a number alive b now.named) (border_unlocked a number unlocked b now.named) slice counters now)
  list_goes (Bounded counters right) may fits n part lent =
      let field = lends_field a number OrderField part lent n.b n.now.named in
      subst (λ (p : Part). ListGoes a number (Bounded counters right) (list_reading (Bounded counters right) slice p)) (sym (order_part n.b part field.is ∙ ap OrderPart (order_unlocked n.b field.sound (border_unlocked a number unlocked n.b n.now.named))))
      (goes_next a number n.b n.now.named field.sound (border_alive a number alive n.b n.now.named) (border_unlocked a number unlocked n.b n.now.named) (Bounded counters right)
      (record { glance = record { counters = counters; right = right; order = n.b.order }; kept = []; place = 0 }) n refl (omega arith) (omega arith))
  list_goes (Reads notes) may (within, few) s part lent =
      let k = slice_index notes.glance.order.live notes.place in
      let field = lends_field a number (KeyField k) part lent s.0.b s.0.now.named in
      let (key, one, is) = key_part s.0.b k part field.is in
      subst (λ (p : Part). ListGoes a number (Reads notes) (list_reading (Reads notes) slice p)) (sym one) (goes_key a number notes s within few field.sound (border_unlocked a number unlocked s.0.b s.0.now.named) key is)
  list_goes (AtValue notes own) may (within, few) (s, slice_is, fits) part lent =
      let k = slice_index notes.glance.order.live notes.place in
      let field = lends_field a number (ValueField k) part lent s.0.b s.0.now.named in
      let (value, one, is) = value_part s.0.b k part field.is in
      subst (λ (p : Part). ListGoes a number (AtValue notes own) (list_reading (AtValue notes own) slice p)) (sym one)
      (goes_value a number notes s within few field.sound (border_alive a number alive s.0.b s.0.now.named) (border_unlocked a number unlocked s.0.b s.0.now.named) own slice_is own.rest fits value is)
  list_goes (Settles counters listed) may fits n part lent =
      let field = lends_field a number VersionField part lent n.b n.now.named in
      subst (λ (p : Part). ListGoes a number (Settles counters listed) (list_reading (Settles counters listed) slice p)) (sym (version_part n.b part field.is))
      (goes_settled a number n.b n.now.named field.sound (border_alive a number alive n.b n.now.named) (border_unlocked a number unlocked n.b n.now.named) counters listed n.now.counted n.right_is n.links)
