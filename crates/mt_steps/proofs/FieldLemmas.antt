-- A get that reads a field of a border other than a key: what it knows then, and where that leads.
use Rattle.std.proofs.Common.{ℕ, suc, ◌≡◌, ◌<◌, ◌≤◌, ◌+◌, Bool, true, false, cond, List, ◌∷◌, length, map, Option, Some, None, refl, sym, ap, subst, add-one, arith}
use Rattle.std.specs.Prelude.{slice_index, nat_lt}
use Rattle.std.specs.Option.{option_map}
use Rattle.std.proofs.lemmas.Bool.{ltb-true, ltb-false}
use Rattle.mt_types.specs.Rows.{shown}
use Rattle.mt_types.specs.declared.numbers.NodeNo.{NodeNo}
use Rattle.mt_types.specs.declared.event.Request.TheVariants.{Get as GetRequest}
use Rattle.mt_types.specs.declared.event.Answer.TheVariants.{Absent as AbsentAnswer, Found}
use Rattle.mt_slice.specs.Place.{Place, AreBytes, place_of, slice_number, rest_at, slices_above}
use Rattle.mt_word.specs.Slots.{Slots}
use Rattle.mt_border.specs.Slots.{order_shown}
use Rattle.mt_border.specs.Border.{BorderView}
use Rattle.mt_border.specs.Slots.{slot_at}
use Rattle.mt_border.specs.Order.{IsBorder}
use Rattle.mt_border.specs.Parts.{IsValueOf}
use Rattle.mt_border.specs.declared.entry.Content.{Content}
use Rattle.mt_border.specs.declared.entry.Content.TheVariants.{Short, Long, Link}
use Rattle.mt_border.specs.declared.entry.RightLink.{RightLink}
use Rattle.mt_border.specs.declared.entry.Entry.{Entry}
use Rattle.mt_border.specs.declared.field.ValuePart.{ValuePart}
use Rattle.mt_border.specs.declared.field.ValuePart.TheVariants.{Row as RowPart, Link as LinkPart}
use Rattle.mt_arena.specs.Arena.{ArenaView}
use Rattle.mt_arena.specs.Node.{border_at}
use Rattle.mt_chart.specs.Tree.{Arena, Right, Below, border, link}
use Rattle.mt_chart.specs.Chart.{Holds}
use Rattle.mt_chart.specs.Walk.{Trail, moves as trail_moves}
use Rattle.mt_chart.specs.ScanRun.{Stood, Lacked}
use Rattle.mt_chart.specs.Noted.{FieldsSeen}
use Rattle.mt_chart.specs.Reading.{Searches, Stops, row_in}
use Rattle.mt_chart.proofs.ReadingStay.{right_held, climbs_right, searches_stay, ages_none, row_key_stays, link_key_stays, climbs_below}
use Rattle.mt_chart.proofs.HeldNodes.{evolves_same, known_holds}
use Rattle.mt_chart.proofs.ReadingLemmas.{lacks}
use Rattle.mt_chart.proofs.ReadingKeys.{stops_at_end, row_stood, no_row_under_link, link_known}
use Rattle.mt_tree.specs.Seen.{arena_seen, border_seen, right_seen, content_seen}
use Rattle.mt_tree.specs.Fields.{fields_seen}
use Rattle.mt_tree.specs.declared.visit.Visit.{Visit}
use Rattle.mt_tree.specs.declared.visit.Visit.TheVariants.{Again as VisitAgain, To as VisitTo, Below as VisitBelow, Here as VisitHere}
use Rattle.mt_tree.proofs.DescentLemmas.{slice_of_place}
use Rattle.mt_tree.proofs.AgeLemmas.{are_slots}
use Rattle.mt_steps.specs.Reader.{bounded, by_visit, counters_of, looked, settled}
use Rattle.mt_steps.specs.Finding.{Finding, FindReading, settles, next_key, value_read, at_order, notes_at}
use Rattle.mt_steps.specs.Getting.{AtBorder, HasBound, FindingIsTrue, reads_made, IsPlaceOf, GoesDeeper, KeyIsTrue, Fits, SightIsTrue}
use Rattle.mt_steps.specs.Standing.{counters_seen, Still}
use Rattle.mt_steps.specs.World.{World, IsWorld}
use Rattle.mt_steps.specs.Way.{IsOnWay, prefix_of, rest_of, Visits, went_by}
use Rattle.mt_steps.specs.Step.{IsRight}
use Rattle.mt_steps.specs.declared.way.Way.{Way}
use Rattle.mt_steps.specs.declared.reader.Counters.{Counters}
use Rattle.mt_steps.specs.declared.reader.Reader.TheVariants.{Begins, Looked, Bounded, Reads, AtValue, Settles}
use Rattle.mt_steps.specs.declared.reader.Reading.TheVariants.{Restarts, Repeats, GoesOn, To, Finds}
use Rattle.mt_steps.specs.declared.finding.Sight.TheVariants.{Absent as AbsentSight, Row as RowSight, Link as LinkSight}
use Rattle.mt_steps.specs.declared.finding.Kind.TheVariants.{Row as RowKind, Link as LinkKind}
use Rattle.mt_steps.specs.declared.finding.Kind.{Kind}
use Rattle.mt_steps.specs.declared.finding.Sight.{Sight}
use Rattle.mt_steps.proofs.StandLemmas.{looks_at, holds_on, bound, there_now, few_shown, order_of_still, orders_now, still_so}
use Rattle.mt_steps.proofs.WayLemmas.{layer_below}
use Rattle.mt_steps.proofs.ReaderLemmas.{looked_by, bounded_by, settled_by}

-- it moves to another node, which is higher in the order of a descent
pub record GoesOnTo (begun : ℕ) (key : List ℕ) (way next : Way) (w : World) : Type 0 where
  pub on : IsOnWay begun key next w
  pub climbs : (made : ℕ) → Trail begun w.chart way.node.0 made → Trail begun w.chart next.node.0 (suc made)

-- what is true after a reading
abbrev pub LeadsTo : List ℕ → List ℕ → Way → Finding → ℕ → List Arena → ArenaView → World → FindReading → Type 0
LeadsTo key asked way finding begun past a w Restarts = Unit {0}
LeadsTo key asked way finding begun past a w Repeats = IsOnWay begun key way w
LeadsTo key asked way finding begun past a w (GoesOn next) =
    FindingIsTrue key asked way next begun (arena_seen a ∷ (arena_seen a ∷ past)) a w × (reads_made finding < reads_made next)
LeadsTo key asked way finding begun past a w (To node) = GoesOnTo begun key way (record { node = node; layer = way.layer }) w
LeadsTo key asked way finding begun past a w (Finds AbsentSight) = IsRight past a (GetRequest key asked) None AbsentAnswer
LeadsTo key asked way finding begun past a w (Finds (RowSight row)) = IsRight past a (GetRequest key asked) None (Found row)
LeadsTo key asked way finding begun past a w (Finds (LinkSight head)) = GoesOnTo begun key way (record { node = head; layer = way.layer + 1 }) w

module _ (a : ArenaView) (now : ℕ) (w : World) (world : IsWorld a now w) (begun : ℕ) (key asked : List ℕ) (way : Way) (past : List Arena) where
  -- it holds the border that it reads
  pub on_border : (counters : Counters) → AtBorder begun key way counters a w → IsOnWay begun key way w
  on_border counters at = record { layer = at.layer; held = holds_on a now w world begun (prefix_of key way) (slice_number (rest_of key way)) way.node.0 counters at.here }

  -- it holds the node at which it is
  pub on_way : (finding : Finding) → FindingIsTrue key asked way finding begun (arena_seen a ∷ past) a w → IsOnWay begun key way w
  on_way Begins on = on
  on_way (Looked counters) at = on_border counters at
  on_way (Bounded counters right) (at, bound) = on_border counters at
  on_way (Reads notes) (at, bound, within, searches) = on_border notes.glance.counters at
  on_way (AtValue notes kind) (at, within, deep, is_true) = on_border notes.glance.counters at
  on_way (Settles counters sight) (at, fits, is_true) = on_border counters at

  -- ---- the version
  module _ (b : BorderView) (named : border_at a.nodes way.node.0 ≡ Some b) (sound : IsBorder b) (on : IsOnWay begun key way w) where
    at_looked : b.version.deleted ≡ false → AtBorder begun key way (counters_of b.version) a w
    at_looked alive = record { layer = on.layer; here = looks_at a now w world begun (prefix_of key way) (slice_number (rest_of key way)) way.node.0 b named sound on.held alive }

    pub leads_looked : LeadsTo key asked way Begins begun past a w (looked b.version)
    leads_looked = looked_by (λ (r : FindReading). LeadsTo key asked way Begins begun past a w r) b.version (λ is. tt) (λ set. on) (λ alive. (at_looked alive, omega arith))

  module _ (counters : Counters) (at : AtBorder begun key way counters a w) where
    abbrev slice : ℕ
    slice = slice_number (rest_of key way)

    -- ---- the right link
    pub leads_bounded : LeadsTo key asked way (Looked counters) begun past a w (bounded slice counters at.here.b.right)
    leads_bounded = bounded_by (λ (r : FindReading). LeadsTo key asked way (Looked counters) begun past a w r) slice counters at.here.b.right
        (λ neighbour is least.
        let (above, known) = at.here.looked.right (right_seen neighbour) (ap (option_map right_seen) is) in
        record {
          on = record { layer = record { within = at.layer.within; under = at.layer.under }; held = right_held w.chart begun way.node.0 (prefix_of key way) at.here.b.low at.here.looked.known (right_seen neighbour) known slice least };
          climbs = λ made trail. climbs_right w.chart begun way.node.0 (prefix_of key way) at.here.b.low at.here.looked.known (right_seen neighbour) known above made trail;
        })
        (λ below. ((at, bound a now w world begun (prefix_of key way) slice way.node.0 counters at.here at.here.b.right refl below), omega arith))

    -- ---- what it has read of slots, one moment later: it changes nothing
    abbrev arenas : List Arena
    arenas = arena_seen a ∷ past

    abbrev f : FieldsSeen
    f = fields_seen at.here.b

    abbrev rest : List ℕ
    rest = rest_of key way

    abbrev prefix : List ℕ
    prefix = prefix_of key way

    there : arena_seen a way.node.0 ≡ Some (border (border_seen at.here.b))
    there = there_now a now w world begun prefix slice way.node.0 counters at.here

    pub searches_later : (noted : Option Right) (numbers : List ℕ) (place : ℕ) → (Still counters at.here.b → Searches (shown asked) w.chart begun arenas prefix f noted numbers (place_of rest) place)
        → Still counters at.here.b → Searches (shown asked) w.chart begun (arena_seen a ∷ arenas) prefix f noted numbers (place_of rest) place
    searches_later noted numbers place = searches_stay (shown asked) begun way.node.0 w.chart w.chart (arena_seen a) arenas prefix f f (counters_seen counters) (evolves_same begun w.chart) world.index.tree there refl (ages_none f)
        (are_slots at.here.b at.here.slots) at.here.looked.come at.here.looked.known noted numbers (place_of rest) place

    -- the key has no row if the search has stopped
    pub lacks_then : (noted : Option Right) (numbers : List ℕ) (place : ℕ) (arenas : List Arena) → Below slice noted → (searches : Searches (shown asked) w.chart begun arenas prefix f noted numbers (place_of rest) place) → Stops (place_of rest) searches.was place → Lacked arenas (place_of key)
    lacks_then noted numbers place arenas below searches stops =
        subst (λ (x : Place). Lacked arenas x) (sym at.layer.under)
        (lacks (shown asked) w.chart begun arenas prefix f noted numbers searches.was searches.order (place_of rest) (subst (λ (n : ℕ). at.here.b.low ≤ n) (sym (slice_of_place rest)) at.here.looked.from_low)
        (subst (λ (n : ℕ). Below n noted) (sym (slice_of_place rest)) below) place searches.before stops)

    -- it settles, and has found no row
    pub settles_none : (finding : Finding) → reads_made finding < 20 → (Still counters at.here.b → Lacked (arena_seen a ∷ arenas) (place_of key)) → LeadsTo key asked way finding begun past a w (settles counters AbsentSight)
    settles_none finding few lacked = ((at, tt, lacked), few)

    -- the key at a place is next, if there is one
    pub next_leads : (finding : Finding) (right : Option RightLink) (order : Slots) (place : ℕ) → reads_made finding < 3 + place → reads_made finding < 20 → length order.live ≤ 15 → HasBound key way counters at.here.b right begun w
        → (Still counters at.here.b → Searches (shown asked) w.chart begun (arena_seen a ∷ arenas) prefix f (option_map right_seen right) order.live (place_of rest) place)
        → LeadsTo key asked way finding begun past a w (next_key (notes_at counters right order place))
    next_leads finding right order place less few fits bound searches = go (nat_lt place (length order.live)) refl
      where
        go : (b : Bool) → nat_lt place (length order.live) ≡ b → LeadsTo key asked way finding begun past a w (cond b (GoesOn (Reads (notes_at counters right order place))) (settles counters AbsentSight))
        go true is = ((at, bound, (ltb-true place (length order.live) is, fits), searches), less)
        go false is = settles_none finding few (λ still.
            let found = searches still in
            lacks_then (option_map right_seen right) order.live place (arena_seen a ∷ arenas) bound.passes found
            (stops_at_end (shown asked) w.chart begun (arena_seen a ∷ arenas) prefix f (option_map right_seen right) order.live (place_of rest) place found (ltb-false place (length order.live) is)))

    -- ---- the order
    pub leads_ordered : IsBorder at.here.b → (right : Option RightLink) → HasBound key way counters at.here.b right begun w → LeadsTo key asked way (Bounded counters right) begun past a w (at_order (Bounded counters right) (order_shown at.here.b))
    leads_ordered sound right bound = next_leads (Bounded counters right) right (order_shown at.here.b) 0 (omega arith) (omega arith) (few_shown at.here.b sound) bound (λ still.
        subst (λ (s : Slots). Searches (shown asked) w.chart begun (arena_seen a ∷ arenas) prefix f (option_map right_seen right) s.live (place_of rest) 0) (sym (order_of_still counters at.here.b sound still)) (record {
          was = map f.slot at.here.b.order.live;
          order = orders_now a now w world begun prefix slice way.node.0 counters at.here (shown asked) arenas sound right bound still;
          before = λ i slot less is. absurd (omega (arith, less));
        }))

    -- ---- the value of a slot
    module _ (order : Slots) (right : Option RightLink) (place : ℕ) (kind : Kind) (fits : IsPlaceOf order place) (deep : GoesDeeper key way kind)
        (is_true : Still counters at.here.b → KeyIsTrue key asked way kind (slice_index order.live place) at.here.b begun arenas w) where
      abbrev at_value : Finding
      at_value = AtValue (notes_at counters right order place) kind

      abbrev n : ℕ
      n = slice_index order.live place

      abbrev here : Entry
      here = (slot_at at.here.b n).entry

      few_made : 4 + place < 20
      few_made = let (within, most) = fits in omega (arith, within, most)

      row_later : (Still counters at.here.b → KeyIsTrue key asked way RowKind n at.here.b begun arenas w) → Still counters at.here.b → KeyIsTrue key asked way RowKind n at.here.b begun (arena_seen a ∷ arenas) w
      row_later = row_key_stays (shown asked) begun way.node.0 w.chart w.chart (arena_seen a) arenas prefix f f (counters_seen counters) (evolves_same begun w.chart) world.index.tree there refl (ages_none f) (are_slots at.here.b at.here.slots) at.here.looked.come at.here.looked.known n (place_of rest)

      link_later : (Still counters at.here.b → KeyIsTrue key asked way LinkKind n at.here.b begun arenas w) → Still counters at.here.b → KeyIsTrue key asked way LinkKind n at.here.b begun (arena_seen a ∷ arenas) w
      link_later = link_key_stays (shown asked) begun way.node.0 w.chart w.chart (arena_seen a) arenas prefix f f (counters_seen counters) (evolves_same begun w.chart) world.index.tree there refl (ages_none f) (are_slots at.here.b at.here.slots) at.here.looked.come at.here.looked.known n slice

      -- what the value is, as the theory sees it
      row_seen : (content : Content) (row : _) → IsValueOf content (RowPart row) → row_in (content_seen content) ≡ Some row.now
      row_seen (Short bytes held) row is = ap Some (sym is)
      row_seen (Long suffix held) row is = ap Some (sym is)
      row_seen (Link head) row is = absurd is

      link_seen : (content : Content) (head : NodeNo) → IsValueOf content (LinkPart head) → content_seen content ≡ link head.0
      link_seen (Short bytes row) head is = absurd is
      link_seen (Long suffix row) head is = absurd is
      link_seen (Link held) head is = ap (λ (m : NodeNo). link m.0) (sym is)

      pub leads_value : (part : ValuePart) → IsValueOf here.content part → LeadsTo key asked way at_value begun past a w (value_read asked counters kind part)
      leads_value part is = go kind part deep is_true is
        where
          go : (k : Kind) (p : ValuePart) → GoesDeeper key way k → (Still counters at.here.b → KeyIsTrue key asked way k n at.here.b begun arenas w) → IsValueOf here.content p
              → LeadsTo key asked way at_value begun past a w (value_read asked counters k p)
          go RowKind (RowPart row) deep has is = (
            (
              at,
              tt,
              (λ still. subst (λ (x : Place). Stood (shown asked) (arena_seen a ∷ arenas) x (shown asked row.now)) (sym at.layer.under)
                  (row_stood (shown asked) w.chart begun (arena_seen a ∷ arenas) prefix f n (place_of rest) (row_later has still) row.now (row_seen here.content row is))),
            ),
            few_made,
          )
          go LinkKind (RowPart row) deep has is =
              settles_none at_value few_made (λ still. absurd (no_row_under_link (shown asked) w.chart begun (arena_seen a ∷ arenas) prefix f n slice (link_later has still) row.now (row_seen here.content row is)))
          go RowKind (LinkPart head) deep has is = on_border counters at
          go LinkKind (LinkPart head) deep has is = (
            (at, deep, (λ still. link_known (shown asked) w.chart begun (arena_seen a ∷ arenas) prefix f n slice (link_later has still) head.0 (link_seen here.content head is))),
            few_made,
          )

    -- ---- the version again
    pub leads_settled : AreBytes key → (sight : Sight) → Fits key way sight → (Still counters at.here.b → SightIsTrue key asked way sight begun arenas w) → LeadsTo key asked way (Settles counters sight) begun past a w (settled counters sight at.here.b.version)
    leads_settled bytes sight fits is_true = settled_by (λ (r : FindReading). LeadsTo key asked way (Settles counters sight) begun past a w r) counters sight at.here.b.version
        (λ is. tt) (λ set. on_border counters at) (λ other. on_border counters at) (λ alive flags same. told sight fits (is_true (still_so counters at.here.b alive flags same)))
      where
        told : (sight : Sight) → Fits key way sight → SightIsTrue key asked way sight begun arenas w → LeadsTo key asked way (Settles counters sight) begun past a w (Finds sight)
        told AbsentSight fits lacked = (bytes, lacked)
        told (RowSight row) fits stood = (bytes, stood)
        told (LinkSight head) long known = record {
          on = record {
            layer = layer_below key way head long at.layer;
            held = subst (λ (m : ℕ). Holds w.chart begun head.0 (slices_above m key) (slice_number (rest_at m key))) (sym (add-one way.layer)) (known_holds w.chart begun head.0 (slice ∷ prefix) known (slice_number (rest_at (suc way.layer) key)));
          };
          climbs = λ made trail. climbs_below w.chart begun way.node.0 prefix at.here.b.low at.here.looked.known at.here.fits head.0 slice (known_holds w.chart begun head.0 (slice ∷ prefix) known 0) made trail;
        }

  -- ---- a head or an interior node, whole
  pub leads_inner : (visit : Visit) → Visits a key way (went_by way visit) → IsOnWay begun key way w → LeadsTo key asked way Begins begun past a w (by_visit visit)
  leads_inner VisitAgain visits on = tt
  leads_inner (VisitTo next) visits on =
      let (further, move, below) = visits.goes now w begun world on in
      record { on = further; climbs = λ made trail. trail_moves (arena_seen a) world.index.tree trail move }
  leads_inner (VisitBelow head) visits on = on
  leads_inner VisitHere visits on = on
