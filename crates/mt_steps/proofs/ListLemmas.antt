-- A range or build that reads a field of a border: what it knows then, and where that leads.
use Rattle.std.proofs.Common.{ℕ, ◌≡◌, ◌≤◌, ◌+◌, Bool, true, false, cond, List, [], ◌∷◌, ◌++◌, length, map, slice_get, Option, Some, None, refl, sym, ap, subst, ◌∙◌, arith}
use Rattle.std.specs.Prelude.{slice_index, nat_lt}
use Rattle.std.specs.Option.{option_copied, option_map}
use Rattle.std.proofs.lemmas.Bool.{ltb-true, ltb-false}
use Rattle.std.proofs.lemmas.List.{length-append}
use Rattle.std.proofs.lemmas.Option.{slice_get-get_or}
use Rattle.mt_types.specs.declared.row.Row.{Row}
use Rattle.mt_types.specs.declared.numbers.NodeNo.{NodeNo}
use Rattle.mt_slice.specs.Place.{Place, last, deeper, place_of}
use Rattle.mt_slice.specs.declared.slice_class.Class.{Class}
use Rattle.mt_word.specs.Slots.{Slots}
use Rattle.mt_border.specs.Border.{BorderView}
use Rattle.mt_border.specs.Entry.{content_class, content_suffix}
use Rattle.mt_border.specs.Order.{IsBorder}
use Rattle.mt_border.specs.Keys.{KeyView, IsKeyPart}
use Rattle.mt_border.specs.Parts.{IsValueOf}
use Rattle.mt_border.specs.Slots.{slot_at, key_at, order_shown}
use Rattle.mt_border.specs.declared.entry.Content.{Content}
use Rattle.mt_border.specs.declared.entry.Content.TheVariants.{Short, Long, Link}
use Rattle.mt_border.specs.declared.entry.Entry.{Entry}
use Rattle.mt_border.specs.declared.entry.RightLink.{RightLink}
use Rattle.mt_border.specs.declared.field.KeyPart.{KeyPart}
use Rattle.mt_border.specs.declared.field.ValuePart.{ValuePart}
use Rattle.mt_border.specs.declared.field.ValuePart.TheVariants.{Row as RowPart, Link as LinkPart}
use Rattle.mt_arena.specs.Arena.{ArenaView}
use Rattle.mt_arena.specs.Node.{border_at}
use Rattle.mt_chart.specs.Tree.{PlainContent, short, long, link, PlainEntry, Right, Arena, HoldsRow}
use Rattle.mt_chart.specs.Chart.{Holds}
use Rattle.mt_chart.specs.Noted.{plain, SlotSeen, FieldsSeen, IsSameKey}
use Rattle.mt_chart.specs.Reading.{row_in, is_below, kept_of, Lists}
use Rattle.mt_chart.proofs.HeldNodes.{evolves_same}
use Rattle.mt_chart.proofs.ReadingKeys.{noted_at, lists_more, lists_noted}
use Rattle.mt_chart.proofs.ReadingLemmas.{same_key}
use Rattle.mt_chart.proofs.ReadingStay.{right_held, lists_stay, ages_none}
use Rattle.mt_tree.specs.Fields.{content_mark, fields_seen}
use Rattle.mt_tree.specs.Seen.{arena_seen, right_seen, entry_seen, entries_seen, content_seen}
use Rattle.mt_tree.proofs.AgeLemmas.{are_slots}
use Rattle.mt_steps.specs.Reader.{HasNext, bounded, looked, settled}
use Rattle.mt_steps.specs.Listing.{ListNotes, ListReading, list_next, list_at_order, value_kept, key_read_of, is_before_link, kept_with, one_more, list_key, list_value, AreFew, ShowsKey, HasKey, ListsSlots, NotesAreTrue, IsReadList, ListLeads}
use Rattle.mt_steps.specs.Standing.{counters_seen, StandsAt, Still, IsBounded}
use Rattle.mt_steps.specs.World.{World, IsWorld}
use Rattle.mt_steps.specs.declared.reader.Counters.{Counters}
use Rattle.mt_steps.specs.declared.listing.KeyRead.{KeyRead}
use Rattle.mt_steps.specs.declared.listing.SlotKey.{SlotKey}
use Rattle.mt_steps.specs.declared.listing.Listed.{Listed}
use Rattle.mt_steps.specs.declared.listing.KeyRead.TheVariants.{Short as ShortKey, Long as LongKey, Layer as LayerKey}
use Rattle.mt_steps.specs.declared.reader.Reader.TheVariants.{Bounded, Reads, AtValue, Settles}
use Rattle.mt_steps.specs.declared.reader.Reading.TheVariants.{GoesOn}
use Rattle.mt_steps.proofs.StandLemmas.{looks_at, bound, there_now, few_shown, order_of_still, orders_now, still_so, key_of_still}
use Rattle.mt_steps.proofs.ReaderLemmas.{looked_by, bounded_by, marked_by, settled_by}

-- ---- an entry that was read key and value apart
-- if a slot has a row under a key that was read, the entry is that of the key and the row
abbrev with_row : PlainContent → Row → PlainContent
with_row (short bytes old) row = short bytes row
with_row (long rest old) row = long rest row
with_row (link head) row = link head

same_row : (was now : SlotSeen) → IsSameKey was now → now.mark ≡ plain → (row : Row) → row_in now.entry.content ≡ Some row → now.entry ≡ record { slice = was.entry.slice; content = with_row was.entry.content row }
same_row was now same is_plain row has = entries_same now.entry.slice was.entry.slice same.slice now.entry.content (with_row was.entry.content row) (go now.entry.content refl has)
  where
    entries_same : (s t : ℕ) → s ≡ t → (c d : PlainContent) → c ≡ d → ◌≡◌ {A = PlainEntry} (record { slice = s; content = c }) (record { slice = t; content = d })
    entries_same s t slices c d contents = cc

    old : (place : Place) (r : Row) → HoldsRow now.entry.slice now.entry.content place r → (o : Row) × HoldsRow was.entry.slice was.entry.content place o
    old = (same.plain is_plain).1

    of_short : (bytes : ℕ) (c : PlainContent) (o : Row) → HoldsRow was.entry.slice c (last now.entry.slice bytes) o → short bytes row ≡ with_row c row
    of_short bytes (short other held) o (is, r) = let one : bytes ≡ other = cc in ap (λ (n : ℕ). short n row) one
    of_short bytes (long rest held) o (is, r) = absurd (let clash : last now.entry.slice bytes ≡ deeper was.entry.slice rest = is in cc)
    of_short bytes (link head) o h = absurd h

    of_long : (rest : Place) (c : PlainContent) (o : Row) → HoldsRow was.entry.slice c (deeper now.entry.slice rest) o → long rest row ≡ with_row c row
    of_long rest (short other held) o (is, r) = absurd (let clash : deeper now.entry.slice rest ≡ last was.entry.slice other = is in cc)
    of_long rest (long other held) o (is, r) = let one : rest ≡ other = cc in ap (λ (p : Place). long p row) one
    of_long rest (link head) o h = absurd h

    go : (c : PlainContent) → now.entry.content ≡ c → row_in c ≡ Some row → c ≡ with_row was.entry.content row
    go (short bytes r) here has =
        let one : r ≡ row = cc in
        let (o, h) = old (last now.entry.slice bytes) r (subst (λ (x : PlainContent). HoldsRow now.entry.slice x (last now.entry.slice bytes) r) (sym here) (refl, refl)) in
        ap (short bytes) one ∙ of_short bytes was.entry.content o h
    go (long rest r) here has =
        let one : r ≡ row = cc in
        let (o, h) = old (deeper now.entry.slice rest) r (subst (λ (x : PlainContent). HoldsRow now.entry.slice x (deeper now.entry.slice rest) r) (sym here) (refl, refl)) in
        ap (long rest) one ∙ of_long rest was.entry.content o h
    go (link head) here has = absurd (let clash : ◌≡◌ {A = Option Row} None (Some row) = has in cc)

-- what is kept of a slot is what the code keeps
kept_same : (right : Option RightLink) (entries : List Entry) (entry : Entry) (slot : SlotSeen) → slot.entry ≡ entry_seen entry
    → entries_seen entries ++ kept_of (option_map right_seen right) (slot ∷ []) ≡ entries_seen (kept_with right entries (Some entry))
kept_same right entries entry slot is = ap (λ (e : PlainEntry). entries_seen entries ++ cond (is_below e.slice (option_map right_seen right)) (e ∷ []) []) is ∙ (ap (λ (b : Bool). entries_seen entries ++ cond b (entry_seen entry ∷ []) []) (below right) ∙ go (is_before_link right entry.slice))
  where
    below : (right : Option RightLink) → is_below entry.slice (option_map right_seen right) ≡ is_before_link right entry.slice
    below None = refl
    below (Some next) = refl

    seen_more : (es : List Entry) → entries_seen es ++ entry_seen entry ∷ [] ≡ entries_seen (es ++ entry ∷ [])
    seen_more [] = refl
    seen_more (e ∷ es) = ap (λ (xs : List PlainEntry). entry_seen e ∷ xs) (seen_more es)

    none_more : (xs : List PlainEntry) → xs ++ [] ≡ xs
    none_more [] = refl
    none_more (x ∷ xs) = ap (λ (ys : List PlainEntry). x ∷ ys) (none_more xs)

    go : (b : Bool) → entries_seen entries ++ cond b (entry_seen entry ∷ []) [] ≡ entries_seen (cond b (entries ++ entry ∷ []) entries)
    go true = seen_more entries
    go false = none_more (entries_seen entries)

kept_few : (right : Option RightLink) (entries : List Entry) (entry : Entry) (place : ℕ) → length entries ≤ place → length (kept_with right entries (Some entry)) ≤ place + 1
kept_few right entries entry place few = go (is_before_link right entry.slice)
  where
    go : (b : Bool) → length (cond b (entries ++ entry ∷ []) entries) ≤ place + 1
    go true = let size = length-append entries (entry ∷ []) in omega (arith, size, few)
    go false = omega (arith, few)

-- what was read of a key, that a slot shows
shows_key : (content : Content) (class : Class) (suffix : Option (List ℕ)) → class ≡ content_class content → suffix ≡ content_suffix content → ShowsKey (key_read_of class suffix) (content_seen content)
shows_key content class suffix is_class is_suffix =
    subst (λ (c : Class). ShowsKey (key_read_of c suffix) (content_seen content)) (sym is_class)
    (subst (λ (s : Option (List ℕ)). ShowsKey (key_read_of (content_class content) s) (content_seen content)) (sym is_suffix) (go content))
  where
    go : (c : Content) → ShowsKey (key_read_of (content_class c) (content_suffix c)) (content_seen c)
    go (Short bytes row) = (row, refl)
    go (Long own row) = (row, refl)
    go (Link head) = (head.0, refl)

-- ---- what a reading leads to
module _ (show : Row → Row) (a : ArenaView) (now : ℕ) (w : World) (world : IsWorld a now w) (begun : ℕ) (prefix : List ℕ) (slice number : ℕ) (past : List Arena) where
  abbrev arenas : List Arena
  arenas = arena_seen a ∷ past

  abbrev Leads : ListReading → Type 0
  Leads reading = ListLeads show prefix slice number begun past a w reading

  -- the version
  pub leads_looked : (b : BorderView) → border_at a.nodes number ≡ Some b → IsBorder b → Holds w.chart begun number prefix slice → Leads (looked b.version)
  leads_looked b named sound held = looked_by (λ (r : ListReading). Leads r) b.version (λ is. tt) (λ set. tt) (λ alive. looks_at a now w world begun prefix slice number b named sound held alive)

  module _ (counters : Counters) (at : StandsAt begun prefix slice number counters a w) where
    -- the right link
    pub leads_bounded : Leads (bounded slice counters at.b.right)
    leads_bounded = bounded_by (λ (r : ListReading). Leads r) slice counters at.b.right
        (λ neighbour is least.
        let (above, known) = at.looked.right (right_seen neighbour) (ap (option_map right_seen) is) in
        right_held w.chart begun number prefix at.b.low at.looked.known (right_seen neighbour) known slice least)
        (λ below. (at, bound a now w world begun prefix slice number counters at at.b.right refl below))

    abbrev f : FieldsSeen
    f = fields_seen at.b

    abbrev noted : Option RightLink → Option Right
    noted right = option_map right_seen right

    -- what it has read of slots, one moment later: it changes nothing
    later_lists : (right : Option RightLink) (numbers : List ℕ) (place : ℕ) (entries : List Entry) → (Still counters at.b → ListsSlots show prefix right numbers place entries at.b begun arenas w)
        → Still counters at.b → ListsSlots show prefix right numbers place entries at.b begun (arena_seen a ∷ arenas) w
    later_lists right numbers place entries = lists_stay show begun number w.chart w.chart (arena_seen a) arenas prefix f f (counters_seen counters) (evolves_same begun w.chart) world.index.tree
        (there_now a now w world begun prefix slice number counters at) refl (ages_none f) (are_slots at.b at.slots) at.looked.come at.looked.known (noted right) numbers place (entries_seen entries)

    -- the key of the next place is read, if there is one
    next_leads : (right : Option RightLink) (order : Slots) (entries : List Entry) (place : ℕ) → IsBounded prefix slice counters at.b right begun w → place ≤ length order.live → length entries ≤ place → length order.live ≤ 15
        → (Still counters at.b → ListsSlots show prefix right order.live place entries at.b begun (arena_seen a ∷ arenas) w)
        → Leads (list_next (record { glance = record { counters = counters; right = right; order = order }; kept = entries; place = place }))
    next_leads right order entries place bounded few fewer most lists = go (nat_lt place (length order.live)) refl
      where
        go : (b : Bool) → nat_lt place (length order.live) ≡ b
            → Leads (cond b (GoesOn (Reads (record { glance = record { counters = counters; right = right; order = order }; kept = entries; place = place }))) (GoesOn (Settles counters (record { entries = entries; right = right }))))
        go true is = (at, bounded, ltb-true place (length order.live) is, (fewer, most), lists)
        go false is =
            let many = ltb-false place (length order.live) is in
            let all : place ≡ length order.live = omega (arith, many, few) in
            (at, bounded, omega (arith, fewer, few, most), λ still. (order.live, subst (λ (n : ℕ). ListsSlots show prefix right order.live n entries at.b begun (arena_seen a ∷ arenas) w) all (lists still)))

    -- the order
    pub leads_ordered : IsBorder at.b → (right : Option RightLink) → IsBounded prefix slice counters at.b right begun w → Leads (list_at_order (Bounded counters right) (order_shown at.b))
    leads_ordered sound right bounded = next_leads right (order_shown at.b) [] 0 bounded (omega arith) (omega arith) (few_shown at.b sound) (λ still. subst (λ (s : Slots). ListsSlots show prefix right s.live 0 [] at.b begun (arena_seen a ∷ arenas) w) (sym (order_of_still counters at.b sound still)) (record {
      was = map f.slot at.b.order.live;
      order = orders_now a now w world begun prefix slice number counters at show arenas sound right bounded still;
      read = [];
      many = refl;
      same = tt;
      kept_are = refl;
      true = λ entry i. elim i [ ];
    }))

    -- the version again
    pub leads_settled : (listed : Listed) → IsBounded prefix slice counters at.b listed.right begun w → length listed.entries ≤ 15 → (Still counters at.b → (numbers : List ℕ) × ListsSlots show prefix listed.right numbers (length numbers) listed.entries at.b begun arenas w)
        → Leads (settled counters listed at.b.version)
    leads_settled listed bounded few lists = settled_by (λ (r : ListReading). Leads r) counters listed at.b.version (λ is. tt) (λ set. tt) (λ other. tt) (λ alive flags same. told (still_so counters at.b alive flags same))
      where
        told : Still counters at.b → IsReadList show prefix slice begun arenas w listed
        told quiet =
            let (numbers, read) = lists quiet in
            let (list, ordered) = lists_noted show w.chart begun arenas prefix f (noted listed.right) numbers (entries_seen listed.entries)
            (λ next is s low. right_held w.chart begun number prefix at.b.low at.looked.known next (bounded.known next is) s low) read in
            record { low = at.b.low; from_low = at.looked.from_low; passes = bounded.passes; list = list; in_order = ordered; few = few }

  -- ---- slots
  module _ (notes : ListNotes) (at : StandsAt begun prefix slice number notes.glance.counters a w) (bounded : IsBounded prefix slice notes.glance.counters at.b notes.glance.right begun w) (within : HasNext notes) (fews : AreFew notes)
      (lists : NotesAreTrue show prefix notes at.b begun arenas w) where
    abbrev n : ℕ
    n = slice_index notes.glance.order.live notes.place

    abbrev e : Entry
    e = (slot_at at.b n).entry

    abbrev g : FieldsSeen
    g = fields_seen at.b

    at_place : slice_get notes.glance.order.live notes.place ≡ Some n
    at_place = slice_get-get_or notes.glance.order.live notes.place 0 within

    lists_later : Still notes.glance.counters at.b → ListsSlots show prefix notes.glance.right notes.glance.order.live notes.place notes.kept at.b begun (arena_seen a ∷ arenas) w
    lists_later = later_lists notes.glance.counters at notes.glance.right notes.glance.order.live notes.place notes.kept lists

    -- the key of a slot
    pub leads_key : IsBorder at.b → (part : KeyPart) → IsKeyPart (key_at at.b n) part → Leads (list_key notes part)
    leads_key sound part is = marked_by Leads part.mark (GoesOn (AtValue notes own)) (λ set. tt) (λ clear. (
      at,
      bounded,
      within,
      fews,
      lists_later,
      λ quiet.
          let so_far = lists_later quiet in
          let (slot, here, was) = noted_at show w.chart begun (arena_seen a ∷ arenas) prefix g so_far.was notes.glance.order.live so_far.order.slots notes.place n at_place in
          let now_key = key_of_still notes.glance.counters at.b n sound quiet was.held (λ set. clear (is.mark ∙ set)) in
          record {
            read = g.slot n;
            noted = record { held = was.held; same = same_key (g.slot n); true = was.true };
            at_slice = sym (is.slice ∙ ap (λ (k : KeyView). k.slice) now_key);
            is = shows_key e.content part.class (option_copied part.suffix) (is.class ∙ ap (λ (k : KeyView). k.class) now_key) (is.suffix ∙ ap (λ (k : KeyView). k.suffix) now_key);
          },
    ))
      where
        own : SlotKey
        own = record { slice = part.slice; rest = key_read_of part.class (option_copied part.suffix) }

    -- one slot more was read
    more_leads : (entry : Entry) → (Still notes.glance.counters at.b → (g.slot n).entry ≡ entry_seen entry) → Leads (one_more notes (Some entry))
    more_leads entry is = next_leads notes.glance.counters at notes.glance.right notes.glance.order (kept_with notes.glance.right notes.kept (Some entry)) (notes.place + 1) bounded (omega (arith, within)) (kept_few notes.glance.right notes.kept entry notes.place fews.0) fews.1 (λ quiet.
        subst (λ (es : List PlainEntry). Lists show w.chart begun (arena_seen a ∷ arenas) prefix g (option_map right_seen notes.glance.right) notes.glance.order.live (notes.place + 1) es)
        (kept_same notes.glance.right notes.kept entry (g.slot n) (is quiet))
        (lists_more show w.chart begun (arena_seen a ∷ arenas) prefix g (option_map right_seen notes.glance.right) notes.glance.order.live notes.place n (entries_seen notes.kept) at_place (lists_later quiet)))

    none_leads : (Still notes.glance.counters at.b → ⊥) → Leads (one_more notes None)
    none_leads never = next_leads notes.glance.counters at notes.glance.right notes.glance.order notes.kept (notes.place + 1) bounded (omega (arith, within)) (let few = fews.0 in omega (arith, few)) fews.1 (λ quiet. absurd (never quiet))

    module _ (key : SlotKey) (has : Still notes.glance.counters at.b → HasKey show w.chart begun arenas prefix g n key) where
      abbrev at_slice : ℕ
      at_slice = key.slice

      -- what the value is, as the theory sees it
      row_mark : (content : Content) (row : _) → IsValueOf content (RowPart row) → (content_mark content ≡ plain) × (row_in (content_seen content) ≡ Some row.now)
      row_mark (Short bytes held) row is = (refl, ap Some (sym is))
      row_mark (Long suffix held) row is = (refl, ap Some (sym is))
      row_mark (Link head) row is = absurd is

      link_seen : (content : Content) (head : NodeNo) → IsValueOf content (LinkPart head) → content_seen content ≡ link head.0
      link_seen (Short bytes row) head is = absurd is
      link_seen (Long suffix row) head is = absurd is
      link_seen (Link held) head is = ap (λ (m : NodeNo). link m.0) (sym is)

      entry_is : (s : ℕ) (c d : PlainContent) → s ≡ at_slice → c ≡ d → ◌≡◌ {A = PlainEntry} (record { slice = s; content = c }) (record { slice = at_slice; content = d })
      entry_is s c d slices contents = cc

      row_entry : (row : Row) → (content_mark e.content ≡ plain) × (row_in (content_seen e.content) ≡ Some row) → (d : PlainContent) → (Still notes.glance.counters at.b → (c : PlainContent) → ShowsKey key.rest c → with_row c row ≡ d) → Still notes.glance.counters at.b → (g.slot n).entry ≡ record { slice = at_slice; content = d }
      row_entry row (marked, is_row) d shows quiet =
          let found = has quiet in
          same_row found.read (g.slot n) found.noted.same marked row is_row ∙ entry_is found.read.entry.slice (with_row found.read.entry.content row) d found.at_slice (shows quiet found.read.entry.content found.is)

      pub leads_value : (part : ValuePart) → IsValueOf e.content part → Leads (list_value notes key part)
      leads_value part is = go part is key.rest refl
        where
          go : (p : ValuePart) → IsValueOf e.content p → (k : KeyRead) → key.rest ≡ k → Leads (value_kept notes at_slice k p)
          go (RowPart row) is (ShortKey bytes) same = more_leads (record { slice = at_slice; content = Short bytes row.now })
              (row_entry row.now (row_mark e.content row is) (short bytes row.now) (λ quiet c shows. let (old, here) = subst (λ (x : KeyRead). ShowsKey x c) same shows in ap (λ (x : PlainContent). with_row x row.now) here))
          go (RowPart row) is (LongKey suffix) same = more_leads (record { slice = at_slice; content = Long suffix row.now })
              (row_entry row.now (row_mark e.content row is) (long (place_of suffix) row.now) (λ quiet c shows. let (old, here) = subst (λ (x : KeyRead). ShowsKey x c) same shows in ap (λ (x : PlainContent). with_row x row.now) here))
          go (RowPart row) is LayerKey same = none_leads (λ quiet.
              let found = has quiet in
              let (head, here) = subst (λ (x : KeyRead). ShowsKey x found.read.entry.content) same found.is in
              let now_link : content_seen e.content ≡ link head = found.noted.same.links head here in
              let clash : ◌≡◌ {A = Option Row} None (Some row.now) = sym (ap row_in now_link) ∙ (row_mark e.content row is).1 in cc)
          go (LinkPart head) is LayerKey same = more_leads (record { slice = at_slice; content = Link head }) (λ quiet.
              let found = has quiet in
              entry_is e.slice (content_seen e.content) (link head.0) (found.noted.same.slice ∙ found.at_slice) (link_seen e.content head is))
          go (LinkPart head) is (ShortKey bytes) same = tt
          go (LinkPart head) is (LongKey suffix) same = tt
