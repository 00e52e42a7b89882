-- A get that reads the key of a slot: what it knows then, and where that leads.
use Rattle.std.proofs.Common.{ℕ, ◌≡◌, ◌≢◌, ◌<◌, ◌≤◌, ◌+◌, ◌⊎◌, inl, inr, Bool, true, false, cond, ◌||◌, ◌&&◌, ◌==◌, List, [], ◌∷◌, length, drop, slice_get, Option, Some, None, refl, sym, ap, subst, ◌∙◌, arith}
use Rattle.std.specs.Prelude.{slice_index, nat_lt, nat_le, unwrap_or}
use Rattle.std.specs.Option.{option_copied, option_map}
use Rattle.std.specs.Str.{bytes_eq}
use Rattle.std.proofs.lemmas.Bool.{lt-ltb, le-ltb, ltb-true, leb-true, le-leb, eq-eqb, or_right, cases_lt, cases_Bool, cond-true, cond-false}
use Rattle.std.proofs.lemmas.List.{drop_all}
use Rattle.std.proofs.lemmas.Bool.Decides.{eqb_tells}
use Rattle.std.proofs.lemmas.Slice.Eq.{bytes_eq-Decides}
use Rattle.std.proofs.lemmas.Option.{slice_get-get_or}
use Rattle.mt_types.specs.Rows.{shown}
use Rattle.mt_types.specs.declared.numbers.NodeNo.{NodeNo}
use Rattle.mt_types.specs.declared.row.Row.{Row}
use Rattle.mt_slice.specs.Place.{Place, last, deeper, AreBytes, place_of, first_slice, first_class, slice_number}
use Rattle.mt_slice.specs.Classes.{class_number, class_of, place_at}
use Rattle.mt_slice.specs.declared.slice_class.Class.{Class}
use Rattle.mt_slice.specs.declared.slice_class.Class.TheVariants.{Len, Long as LongClass}
use Rattle.mt_slice.proofs.PlaceOn.{place_of-place_at, place_of-short, place_of-long}
use Rattle.mt_slice.proofs.Slices.{bytes-drop}
use Rattle.mt_slice.proofs.Canonical.{same_from_place_of}
use Rattle.mt_word.specs.Slots.{Slots}
use Rattle.mt_border.specs.Border.{BorderView}
use Rattle.mt_border.specs.Entry.{content_class, entry_class, entry_suffix, content_suffix}
use Rattle.mt_border.specs.Slots.{slot_at, key_at}
use Rattle.mt_border.specs.Order.{IsBorder}
use Rattle.mt_border.specs.Keys.{KeyView, content_mark as part_mark, entry_key, part_bytes, IsRest, IsKeyPart}
use Rattle.mt_border.specs.declared.entry.Content.{Content}
use Rattle.mt_border.specs.declared.entry.Content.TheVariants.{Short, Long, Link}
use Rattle.mt_border.specs.declared.entry.RightLink.{RightLink}
use Rattle.mt_border.specs.declared.entry.Entry.{Entry}
use Rattle.mt_border.specs.declared.field.KeyPart.{KeyPart}
use Rattle.mt_border.specs.declared.field.Mark.{Mark}
use Rattle.mt_border.specs.declared.field.Mark.TheVariants.{Plain, Unstable, Layer}
use Rattle.mt_arena.specs.Arena.{ArenaView}
use Rattle.mt_chart.specs.Tree.{Arena, HoldsRow}
use Rattle.mt_chart.specs.Chart.{class}
use Rattle.mt_chart.specs.Noted.{FieldsSeen}
use Rattle.mt_chart.specs.Reading.{Searches, Stops, StandsBefore, StandsAfter, HasLinkKey}
use Rattle.mt_chart.proofs.ReadingKeys.{noted_at, passes_key, stops_after, stops_other, finds_row, finds_link}
use Rattle.mt_tree.specs.Seen.{arena_seen, right_seen, entry_seen, content_seen}
use Rattle.mt_tree.specs.Fields.{fields_seen, content_mark}
use Rattle.mt_tree.proofs.DescentLemmas.{slice_of_place, class_long}
use Rattle.mt_steps.specs.Finding.{FindReading, is_before, settles, next_key, key_found, key_compared, key_read, notes_at, FindNotes}
use Rattle.mt_steps.specs.Getting.{AtBorder, HasBound}
use Rattle.mt_steps.specs.Standing.{Still}
use Rattle.mt_steps.specs.World.{World, IsWorld}
use Rattle.mt_steps.specs.Way.{prefix_of, rest_of}
use Rattle.mt_steps.specs.declared.way.Way.{Way}
use Rattle.mt_steps.specs.declared.reader.Counters.{Counters}
use Rattle.mt_steps.specs.declared.reader.Reader.TheVariants.{Reads, AtValue}
use Rattle.mt_steps.specs.declared.reader.Reading.TheVariants.{GoesOn}
use Rattle.mt_steps.specs.declared.finding.Sight.TheVariants.{Absent as AbsentSight}
use Rattle.mt_steps.specs.declared.finding.Kind.TheVariants.{Row as RowKind, Link as LinkKind}
use Rattle.mt_steps.proofs.StandLemmas.{key_of_still}
use Rattle.mt_steps.proofs.ReaderLemmas.{marked_by}
use Rattle.mt_steps.proofs.FieldLemmas.{LeadsTo, on_border, searches_later, lacks_then, settles_none, next_leads}

-- ---- ranks
class_seen : (content : Content) → class (content_seen content) ≡ class_number (content_class content)
class_seen (Short bytes row) = refl
class_seen (Long suffix row) = refl
class_seen (Link head) = refl

first_class_of : (rest : List ℕ) → first_class (place_of rest) ≡ class_number (class_of (length rest))
first_class_of rest = ap first_class (place_of-place_at rest) ∙ go (class_of (length rest))
  where
    go : (c : Class) → first_class (place_at (slice_number rest) c (place_of (drop 8 rest))) ≡ class_number c
    go (Len bytes) = refl
    go LongClass = refl

class_of-short : (n : ℕ) → n ≤ 8 → class_of n ≡ Len n
class_of-short n most = cond-true (nat_le n 8) (Len n) LongClass (le-leb n 8 most)

class_of-long : (n : ℕ) → 8 < n → class_of n ≡ LongClass
class_of-long n more = elim (cases_Bool (nat_le n 8)) [
  | inl h ↦ absurd (let few = leb-true n 8 h in omega (arith, few, more))
  | inr h ↦ cond-false (nat_le n 8) (Len n) LongClass h
]

before_tells : (slice number other_slice other : ℕ) → is_before slice number other_slice other ≡ true → (slice < other_slice) ⊎ ((slice ≡ other_slice) × (number < other))
before_tells slice number other_slice other is = elim (cases_lt slice other_slice) [
  | inl less ↦ inl less
  | inr most ↦
      let here : ((slice == other_slice) && nat_lt number other) ≡ true = sym (ap (λ (b : Bool). b || ((slice == other_slice) && nat_lt number other)) (le-ltb slice other_slice most)) ∙ is in
      elim (eqb_tells slice other_slice) [
        | inl q ↦ inr (q.1, ltb-true number other (sym (ap (λ (b : Bool). b && nat_lt number other) q.0) ∙ here))
        | inr q ↦ absurd (let none : false ≡ true = sym (ap (λ (b : Bool). b && nat_lt number other) q.0) ∙ here in cc)
      ]
]

not_before : (slice number other_slice other : ℕ) → is_before slice number other_slice other ≡ false → (slice < other_slice → ⊥) × (slice ≡ other_slice → number < other → ⊥)
not_before slice number other_slice other is = (
  (λ less. let yes : is_before slice number other_slice other ≡ true = ap (λ (b : Bool). b || ((slice == other_slice) && nat_lt number other)) (lt-ltb slice other_slice less) in let clash : true ≡ false = sym yes ∙ is in absurd (cc)),
  (λ same less.
      let inside : ((slice == other_slice) && nat_lt number other) ≡ true = ap (λ (b : Bool). b && nat_lt number other) (eq-eqb slice other_slice same) ∙ lt-ltb number other less in
      let yes : is_before slice number other_slice other ≡ true = or_right (nat_lt slice other_slice) ((slice == other_slice) && nat_lt number other) inside in
      let clash : true ≡ false = sym yes ∙ is in absurd (cc)),
)

-- what is neither before nor after is the same
neither : (slice number other_slice other : ℕ) → is_before slice number other_slice other ≡ false → is_before other_slice other slice number ≡ false → (slice ≡ other_slice) × (number ≡ other)
neither slice number other_slice other no_less no_more =
    let (a1, a2) = not_before slice number other_slice other no_less in
    let (b1, b2) = not_before other_slice other slice number no_more in
    let same : slice ≡ other_slice = equal slice other_slice a1 b1 in
    (same, equal number other (a2 same) (b2 (sym same)))
  where
    equal : (m n : ℕ) → (m < n → ⊥) → (n < m → ⊥) → m ≡ n
    equal m n not_less not_more = elim (cases_lt m n) [
      | inl less ↦ absurd (not_less less)
      | inr most ↦ elim (cases_lt n m) [ inl less ↦ absurd (not_more less) | inr most' ↦ omega (arith, most, most') ]
    ]

-- ---- what a slot holds, by its key
row_short : (content : Content) (n : ℕ) → content_class content ≡ Len n → (row : Row) × (content ≡ Short n row)
row_short (Short bytes row) n is = (row, ap (λ (m : ℕ). Short m row) (let same : bytes ≡ n = cc in same))
row_short (Long suffix row) n is = absurd (cc)
row_short (Link head) n is = absurd (cc)

row_long : (content : Content) (suffix : List ℕ) → content_suffix content ≡ Some suffix → (row : Row) × (content ≡ Long suffix row)
row_long (Short bytes row) suffix is = absurd (cc)
row_long (Long own row) suffix is = (row, ap (λ (xs : List ℕ). Long xs row) (let same : own ≡ suffix = cc in same))
row_long (Link head) suffix is = absurd (cc)

link_of : (content : Content) → part_mark content ≡ Layer → (head : NodeNo) × (content ≡ Link head)
link_of (Short bytes row) is = absurd (cc)
link_of (Long suffix row) is = absurd (cc)
link_of (Link head) is = (head, refl)

module _ (a : ArenaView) (now : ℕ) (w : World) (world : IsWorld a now w) (begun : ℕ) (key asked : List ℕ) (way : Way) (past : List Arena) (counters : Counters) (at : AtBorder begun key way counters a w) where
  abbrev b : BorderView
  b = at.here.b

  abbrev f : FieldsSeen
  f = fields_seen b

  abbrev rest : List ℕ
  rest = rest_of key way

  abbrev prefix : List ℕ
  prefix = prefix_of key way

  abbrev slice : ℕ
  slice = slice_number rest

  abbrev arenas : List Arena
  arenas = arena_seen a ∷ past

  module _ (sound : IsBorder b) (bytes : AreBytes rest) (right : Option RightLink) (order : Slots) (place : ℕ) (within : place < length order.live) (fits : length order.live ≤ 15) (bound : HasBound key way counters b right begun w)
      (searches : Still counters b → Searches (shown asked) w.chart begun arenas prefix f (option_map right_seen right) order.live (place_of rest) place) where
    abbrev notes : FindNotes
    notes = notes_at counters right order place

    abbrev number : ℕ
    number = slice_index order.live place

    abbrev e : Entry
    e = (slot_at b number).entry

    abbrev Leads : FindReading → Type 0
    Leads reading = LeadsTo key asked way (Reads notes) begun past a w reading

    abbrev sought : ℕ
    sought = class_number (class_of (length rest))

    number_at_place : slice_get order.live place ≡ Some number
    number_at_place = slice_get-get_or order.live place 0 within

    later_searches : Still counters b → Searches (shown asked) w.chart begun (arena_seen a ∷ arenas) prefix f (option_map right_seen right) order.live (place_of rest) place
    later_searches = searches_later a now w world begun key asked way past counters at (option_map right_seen right) order.live place searches

    few : 3 + place < 20
    few = omega (arith, within, fits)

    -- the key that is read is that of what the slot holds
    own_key : ((key_at b number).mark ≡ Unstable → ⊥) → Still counters b → key_at b number ≡ entry_key e
    own_key clear still =
        let found = later_searches still in
        let (slot, there, noted) = noted_at (shown asked) w.chart begun (arena_seen a ∷ arenas) prefix f found.was order.live found.order.slots place number number_at_place in
        key_of_still counters b number sound still noted.held clear

    -- a key that stops the search
    stops_here : ((found : Searches (shown asked) w.chart begun (arena_seen a ∷ arenas) prefix f (option_map right_seen right) order.live (place_of rest) place) → Still counters b → Stops (place_of rest) found.was place) → Leads (settles counters AbsentSight)
    stops_here stops = settles_none a now w world begun key asked way past counters at (Reads notes) few (λ still.
        let found = later_searches still in
        lacks_then a now w world begun key asked way past counters at (option_map right_seen right) order.live place (arena_seen a ∷ arenas) bound.passes found (stops found still))

    -- if its slice and class are those of the key sought
    module _ (at_slice : Still counters b → e.slice ≡ slice) where
      here_slice : Still counters b → e.slice ≡ first_slice (place_of rest)
      here_slice still = at_slice still ∙ sym (slice_of_place rest)

      -- a row of the key sought
      row_here : (Still counters b → (row : Row) × HoldsRow e.slice (content_seen e.content) (place_of rest) row) → Leads (GoesOn (AtValue notes RowKind))
      row_here holds = (
        (
          at,
          (within, fits),
          tt,
          (λ still.
              let (row, has) = holds still in
              finds_row (shown asked) w.chart begun (arena_seen a ∷ arenas) prefix f (option_map right_seen right) order.live (place_of rest) place number number_at_place (later_searches still) row has),
        ),
        omega arith,
      )

      -- the key of a row that ends in its slice
      short_here : (n : ℕ) → n ≤ 8 → (Still counters b → entry_class e ≡ Len n) → n ≡ sought → Leads (key_found notes Plain (bytes_eq [] (drop 8 rest)))
      short_here n most own at_class = subst (λ (same : Bool). Leads (key_found notes Plain same)) (sym ((bytes_eq-Decides [] (drop 8 rest)).1 (sym (drop_all 8 rest short)))) (row_here holds)
        where
          short : length rest ≤ 8
          short = elim (cases_lt 8 (length rest)) [
            | inl long ↦ absurd (let nine : sought ≡ 9 = ap class_number (class_of-long (length rest) long) in omega (arith, most, at_class, nine))
            | inr few ↦ few
          ]

          as_long : n ≡ length rest
          as_long = at_class ∙ ap class_number (class_of-short (length rest) short)

          holds : Still counters b → (row : Row) × HoldsRow e.slice (content_seen e.content) (place_of rest) row
          holds still =
              let (row, here) = row_short e.content n (own still) in (
                row,
                subst (λ (c : Content). HoldsRow e.slice (content_seen c) (place_of rest) row) (sym here)
                    (place_of-short rest short ∙ (ap (λ (m : ℕ). last m (length rest)) (sym (at_slice still)) ∙ ap (λ (m : ℕ). last e.slice m) (sym as_long)), refl),
              )

      -- the key of a longer row
      long_here : (suffix : List ℕ) → AreBytes suffix → (Still counters b → entry_suffix e ≡ Some suffix) → 8 < length rest → 9 ≡ sought → (same : Bool) → bytes_eq suffix (drop 8 rest) ≡ same → Leads (key_found notes Plain same)
      long_here suffix are_bytes own long at_class same is_same = go same is_same
        where
          its_place : Place
          its_place = deeper slice (place_of suffix)

          holds : Still counters b → (row : Row) × (e.content ≡ Long suffix row) × HoldsRow e.slice (content_seen e.content) its_place row
          holds still =
              let (row, here) = row_long e.content suffix (own still) in
              (row, here, subst (λ (c : Content). HoldsRow e.slice (content_seen c) its_place row) (sym here) (ap (λ (n : ℕ). deeper n (place_of suffix)) (sym (at_slice still)), refl))

          same_place : suffix ≡ drop 8 rest → its_place ≡ place_of rest
          same_place same = ap (λ (xs : List ℕ). deeper slice (place_of xs)) same ∙ sym (place_of-long rest long)

          differs : (suffix ≡ drop 8 rest → ⊥) → its_place ≢ place_of rest
          differs apart same = apart (same_from_place_of suffix (drop 8 rest) are_bytes (bytes-drop 8 rest bytes) (below_same (same ∙ place_of-long rest long)))
            where
              below_same : deeper slice (place_of suffix) ≡ deeper slice (place_of (drop 8 rest)) → place_of suffix ≡ place_of (drop 8 rest)
              below_same is = cc

          go : (same : Bool) → bytes_eq suffix (drop 8 rest) ≡ same → Leads (key_found notes Plain same)
          go true is_same = row_here (λ still.
              let (row, here, has) = holds still in
              (row, subst (λ (x : Place). HoldsRow e.slice (content_seen e.content) x row) (same_place ((bytes_eq-Decides suffix (drop 8 rest)).0 is_same)) has))
          go false is_same = stops_here (λ found still.
              let (row, here, has) = holds still in
              let at_long : class (content_seen e.content) ≡ sought = ap (λ (c : Content). class (content_seen c)) here ∙ at_class in
              stops_other (shown asked) w.chart begun (arena_seen a ∷ arenas) prefix f (option_map right_seen right) order.live (place_of rest) place number number_at_place found (ap content_mark here) its_place row has (here_slice still)
              (at_long ∙ sym (first_class_of rest))
              (differs (λ alike. let equal : bytes_eq suffix (drop 8 rest) ≡ true = (bytes_eq-Decides suffix (drop 8 rest)).1 alike in absurd (cc))))

      -- the key of a layer
      layer_here : (Still counters b → part_mark e.content ≡ Layer) → 8 < length rest → Leads (GoesOn (AtValue notes LinkKind))
      layer_here own long = (
        (
          at,
          (within, fits),
          long,
          (λ still.
              let (head, here) = link_of e.content (own still) in
              subst (λ (n : ℕ). HasLinkKey (shown asked) w.chart begun (arena_seen a ∷ arenas) prefix f number n) (slice_of_place rest)
              (finds_link (shown asked) w.chart begun (arena_seen a ∷ arenas) prefix f (option_map right_seen right) order.live (place_of rest) place number number_at_place (later_searches still) head.0 (here_slice still) (ap content_seen here))),
        ),
        omega arith,
      )

      by_key : (c : Class) (suffix : Option (List ℕ)) (mark : Mark) → IsRest c suffix mark → (Still counters b → (entry_class e ≡ c) × (entry_suffix e ≡ suffix) × (part_mark e.content ≡ mark)) → class_number c ≡ sought
          → Leads (key_found notes mark (bytes_eq (unwrap_or suffix []) (drop 8 rest)))
      by_key (Len n) None Plain most own at_class = short_here n most (λ still. (own still).0) at_class
      by_key LongClass (Some suffix) Plain (some, are_bytes) own at_class = long_here suffix are_bytes (λ still. (own still).1) (class_long (length rest) (sym at_class)) at_class (bytes_eq suffix (drop 8 rest)) refl
      by_key LongClass (Some suffix) Unstable whole own at_class = on_border a now w world begun key asked way past counters at
      by_key LongClass None Layer whole own at_class = layer_here (λ still. (own still).2) (class_long (length rest) (sym at_class))
      by_key (Len n) None Unstable whole own at_class = absurd whole
      by_key (Len n) None Layer whole own at_class = absurd whole
      by_key (Len n) (Some suffix) mark whole own at_class = absurd whole
      by_key LongClass (Some suffix) Layer whole own at_class = absurd whole
      by_key LongClass None Plain whole own at_class = absurd whole
      by_key LongClass None Unstable whole own at_class = absurd whole

    -- ---- as it is lent
    module _ (part : KeyPart) (is : IsKeyPart (key_at b number) part) where
      abbrev own : ℕ
      own = class_number part.class

      module _ (clear : part.mark ≡ Unstable → ⊥) where
        now_key : Still counters b → key_at b number ≡ entry_key e
        now_key still = own_key (λ set. clear (is.mark ∙ set)) still

        own_slice : Still counters b → part.slice ≡ e.slice
        own_slice still = is.slice ∙ ap (λ (k : KeyView). k.slice) (now_key still)

        own_class : Still counters b → own ≡ class (content_seen e.content)
        own_class still = ap class_number (is.class ∙ ap (λ (k : KeyView). k.class) (now_key still)) ∙ sym (class_seen e.content)

        own_rest : IsRest part.class (option_copied part.suffix) part.mark
        own_rest =
            subst (λ (c : Class). IsRest c (option_copied part.suffix) part.mark) (sym is.class)
            (subst (λ (s : Option (List ℕ)). IsRest (key_at b number).class s part.mark) (sym is.suffix)
            (subst (λ (m : Mark). IsRest (key_at b number).class (key_at b number).suffix m) (sym is.mark) is.whole.rest))

        fs : first_slice (place_of rest) ≡ slice
        fs = slice_of_place rest

        fc : first_class (place_of rest) ≡ sought
        fc = first_class_of rest

        before : is_before part.slice own slice sought ≡ true → Still counters b → StandsBefore (first_slice (place_of rest)) (first_class (place_of rest)) (entry_seen e)
        before is_less still =
            let at_slice = own_slice still in
            let at_class = own_class still in
            elim (before_tells part.slice own slice sought is_less) [
              | inl less ↦ inl (omega (arith, less, at_slice, fs))
              | inr (same, less) ↦ inr (sym at_slice ∙ same ∙ sym fs, omega (arith, less, at_class, fc))
            ]

        after : is_before slice sought part.slice own ≡ true → Still counters b → StandsAfter (first_slice (place_of rest)) (first_class (place_of rest)) (entry_seen e)
        after is_more still =
            let at_slice = own_slice still in
            let at_class = own_class still in
            elim (before_tells slice sought part.slice own is_more) [
              | inl less ↦ inl (omega (arith, less, at_slice, fs))
              | inr (same, less) ↦ inr (sym at_slice ∙ sym same ∙ sym fs, omega (arith, less, at_class, fc))
            ]

        at_last : is_before part.slice own slice sought ≡ false → (more : Bool) → is_before slice sought part.slice own ≡ more
            → Leads (cond more (settles counters AbsentSight) (key_found notes part.mark (bytes_eq (part_bytes part) (drop 8 rest))))
        at_last no_less true more =
            stops_here (λ found still. stops_after (shown asked) w.chart begun (arena_seen a ∷ arenas) prefix f (option_map right_seen right) order.live (place_of rest) place number number_at_place found (after more still))
        at_last no_less false no_more =
            let (same_slice, same_class) = neither part.slice own slice sought no_less no_more in
            by_key (λ still. sym (own_slice still) ∙ same_slice) part.class (option_copied part.suffix) part.mark own_rest
            (λ still. let own_now = now_key still in (sym (is.class ∙ ap (λ (k : KeyView). k.class) own_now), sym (is.suffix ∙ ap (λ (k : KeyView). k.suffix) own_now), sym (is.mark ∙ ap (λ (k : KeyView). k.mark) own_now)))
            same_class

        compared : (less : Bool) → is_before part.slice own slice sought ≡ less
            → Leads (cond less (next_key (notes_at counters right order (place + 1))) (cond (is_before slice sought part.slice own) (settles counters AbsentSight) (key_found notes part.mark (bytes_eq (part_bytes part) (drop 8 rest)))))
        compared true less = next_leads a now w world begun key asked way past counters at (Reads notes) right order (place + 1) (omega arith) few fits bound (λ still.
            passes_key (shown asked) w.chart begun (arena_seen a ∷ arenas) prefix f (option_map right_seen right) order.live (place_of rest) place number number_at_place (later_searches still) (before less still))
        compared false no_less = at_last no_less (is_before slice sought part.slice own) refl

      pub leads_key : Leads (key_read rest notes part)
      leads_key = marked_by Leads part.mark (key_compared rest notes part) (λ set. on_border a now w world begun key asked way past counters at) (λ clear. compared clear (is_before part.slice own slice sought) refl)
