-- The visit of a border, entry by entry.
use Rattle.std.proofs.Common.{ℕ, ◌≡◌, ◌≢◌, ◌<◌, ◌≤◌, ◌+◌, ◌⊎◌, inl, inr, cond, List, [], ◌∷◌, ◌++◌, length, drop, Option, Some, IsSome, slice_get, get_or, refl, sym, ap, subst, ◌∙◌, arith}
use Rattle.std.proofs.lemmas.List.{drop_more}
use Rattle.std.proofs.lemmas.List.Elements.{All-get_or}
use Rattle.std.proofs.lemmas.Option.{slice_get-get_or, slice_get_within, get_or_from_slice_get}
use Rattle.mt_types.specs.Rows.{shown}
use Rattle.mt_types.specs.declared.row.Row.{Row}
use Rattle.mt_types.specs.declared.numbers.NodeNo.{NodeNo}
use Rattle.mt_slice.specs.Place.{Place, last, deeper, under, Precedes, place_of}
use Rattle.mt_scan.specs.Listed.{ListView, list_entries, list_right}
use Rattle.mt_border.specs.Entry.{entry_row, content_row}
use Rattle.mt_border.specs.declared.entry.Content.{Content}
use Rattle.mt_border.specs.declared.entry.Content.TheVariants.{Short, Long, Link}
use Rattle.mt_border.specs.declared.entry.Entry.{Entry}
use Rattle.mt_chart.specs.Tree.{PlainEntry, Right, Among}
use Rattle.mt_chart.specs.Scan.{Pair, VisitOutcome, answers, goes, BorderVisit, UpTo}
use Rattle.mt_chart.specs.KeyAnswer.{as_places}
use Rattle.mt_tree.specs.Seen.{content_seen, entry_seen, entries_seen, content_place, entry_place}
use Rattle.mt_scan.proofs.TakenLemmas.{as_places-append, length-as_places}
use Rattle.std.proofs.lemmas.Bool.Decides.{eqb_tells}
use Rattle.mt_scan.specs.Cursor.{StepsAt, entered_at}
use Rattle.mt_scan.specs.Scan.{ScanView, TakesPair, HoldsKey, HoldsKeys, outcome_of}
use Rattle.mt_scan.specs.declared.scan.ScanMove.TheVariants.{Done, To}
use Rattle.mt_scan.specs.declared.cursor.Step.TheVariants.{Pass, Take, Enter}

-- the visit of these entries, by a scan that has taken these pairs since it began the visit so
abbrev pub VisitsOn : ScanView → Option Right → List PlainEntry → List (List ℕ × Row) → VisitOutcome Row → Type 0
VisitsOn old right entries taken outcome = BorderVisit (shown old.asked) old.limit old.prefix old.at right entries (as_places taken) outcome

-- A visit has come to a place: the scan has taken some pairs, and what the visit of the other entries comes to is what the whole
-- visit comes to.
pub record Visiting (old now : ScanView) (list : ListView) (place : ℕ) : Type 0 where
  pub same : now ≡ record old { taken = now.taken }
  pub onward : (outcome : VisitOutcome Row) → VisitsOn old (list_right list) (entries_seen (drop place list.entries)) now.taken outcome → VisitsOn old (list_right list) (list_entries list) old.taken outcome

-- ---- one entry
-- a link that is entered: at the layer's first place, or at the rest of the cursor
entering : (slice : ℕ) (at : Place) (outcome : VisitOutcome Row) (going : Place → VisitOutcome Row) → Precedes at (last slice 10) → outcome ≡ going (entered_at slice at)
    → (Precedes at (deeper slice (last 0 0)) × (outcome ≡ going (last 0 0))) ⊎ ((rest : Place) × (at ≡ deeper slice rest) × (outcome ≡ going rest))
entering slice (last own bytes) outcome going before is = inl (before_layer before, is)
  where
    before_layer : (own < slice) ⊎ ((own ≡ slice) × (bytes < 10)) → (own < slice) ⊎ ((own ≡ slice) × (bytes ≤ 9))
    before_layer (inl less) = inl less
    before_layer (inr (same, less)) = inr (same, omega arith)
entering slice (deeper own rest) outcome going before is = elim (eqb_tells own slice) [
  | inl p ↦ inr (rest, ap (λ s. deeper s rest) p.1, is ∙ ap (λ b. going (cond b rest (last 0 0))) p.0)
  | inr p ↦ inl (less p.1 before, is ∙ ap (λ b. going (cond b rest (last 0 0))) p.0)
]
  where
    less : own ≢ slice → (own < slice) ⊎ ((own ≡ slice) × (9 < 10)) → (own < slice) ⊎ ((own ≡ slice) × Precedes rest (last 0 0))
    less other (inl h) = inl h
    less other (inr (same, h)) = absurd (other same)

module _ (old : ScanView) (right : Option Right) (taken : List (List ℕ × Row)) (rest : List PlainEntry) (outcome : VisitOutcome Row) where
  pub visits-full : (entries : List PlainEntry) → length taken ≡ old.limit → outcome ≡ answers (as_places taken) → VisitsOn old right entries taken outcome
  visits-full [] full is = inl (length-as_places taken ∙ full, is)
  visits-full (entry ∷ entries) full is = inl (length-as_places taken ∙ full, is)

  pub visits-pass : (slice : ℕ) (content : Content) → StepsAt old.at slice content Pass → VisitsOn old right rest taken outcome
      → VisitsOn old right (record { slice = slice; content = content_seen content } ∷ rest) taken outcome
  visits-pass slice (Short bytes row) passes next = inr (inl (last slice bytes, row, (refl, refl), inl passes, next))
  visits-pass slice (Long suffix row) passes next = inr (inl (deeper slice (place_of suffix), row, (refl, refl), inl passes, next))
  visits-pass slice (Link top) passes next = inr (inr (inr (top.0, refl, inl (passes, next))))

  pub visits-enter : (slice : ℕ) (content : Content) (node : NodeNo) → StepsAt old.at slice content (Enter node) → outcome ≡ goes (slice ∷ old.prefix) node.0 (entered_at slice old.at) (as_places taken)
      → VisitsOn old right (record { slice = slice; content = content_seen content } ∷ rest) taken outcome
  visits-enter slice (Short bytes row) node enters is = absurd enters
  visits-enter slice (Long suffix row) node enters is = absurd enters
  visits-enter slice (Link top) node enters is =
      inr (inr (inr (
        top.0,
        refl,
        inr (entering slice old.at outcome (λ (at : Place). goes (slice ∷ old.prefix) top.0 at (as_places taken)) enters.1
            (is ∙ ap (λ (n : NodeNo). goes (slice ∷ old.prefix) n.0 (entered_at slice old.at) (as_places taken)) enters.0)),
      )))

  pub visits-taken : (slice : ℕ) (content : Content) → StepsAt old.at slice content Take → UpTo (under old.prefix (content_place slice content)) (as_places taken) → VisitsOn old right rest taken outcome
      → VisitsOn old right (record { slice = slice; content = content_seen content } ∷ rest) taken outcome
  visits-taken slice (Short bytes row) takes was next = inr (inl (last slice bytes, row, (refl, refl), inr was, next))
  visits-taken slice (Long suffix row) takes was next = inr (inl (deeper slice (place_of suffix), row, (refl, refl), inr was, next))
  visits-taken slice (Link top) takes was next = absurd takes

  taking : (x : Place) (key : List ℕ) (here row : Row) → here ≡ row → place_of key ≡ under old.prefix x → VisitsOn old right rest (taken ++ (key, shown old.asked row) ∷ []) outcome
      → BorderVisit (shown old.asked) old.limit old.prefix old.at right rest (as_places taken ++ (record { key = under old.prefix x; value = shown old.asked here } ∷ [])) outcome
  taking x key here row is place next =
      subst (λ (ps : List (Pair Row)). BorderVisit (shown old.asked) old.limit old.prefix old.at right rest ps outcome)
      (as_places-append taken ((key, shown old.asked row) ∷ [])
      ∙ ap (λ (k : Place). as_places taken ++ (record { key = k; value = shown old.asked row } ∷ [])) place
      ∙ ap (λ (r : Row). as_places taken ++ (record { key = under old.prefix x; value = shown old.asked r } ∷ [])) (sym is))
      next

  after_all : (x : Place) (key : List ℕ) → place_of key ≡ under old.prefix x → ((pair : Pair Row) → Among pair (as_places taken) → Precedes pair.key (place_of key))
      → (pair : Pair Row) → Among pair (as_places taken) → Precedes pair.key (under old.prefix x)
  after_all x key place new pair i = subst (λ (k : Place). Precedes pair.key k) place (new pair i)

  room_left : length taken < old.limit → length (as_places taken) < old.limit
  room_left room = omega (arith, length-as_places taken)

  pub visits-take : (slice : ℕ) (content : Content) (key : List ℕ) (row : Row) → StepsAt old.at slice content Take → length taken < old.limit
      → content_row content ≡ Some row → place_of key ≡ under old.prefix (content_place slice content)
      → ((pair : Pair Row) → Among pair (as_places taken) → Precedes pair.key (place_of key))
      → VisitsOn old right rest (taken ++ (key, shown old.asked row) ∷ []) outcome
      → VisitsOn old right (record { slice = slice; content = content_seen content } ∷ rest) taken outcome
  visits-take slice (Short bytes here) key row takes room is place new next =
      let x : Place = last slice bytes in
      inr (inr (inl (x, here, (refl, refl), takes, after_all x key place new, room_left room, taking x key here row (cc) place next)))
  visits-take slice (Long suffix here) key row takes room is place new next =
      let x : Place = deeper slice (place_of suffix) in
      inr (inr (inl (x, here, (refl, refl), takes, after_all x key place new, room_left room, taking x key here row (cc) place next)))
  visits-take slice (Link top) key row takes room is place new next = absurd takes

-- ---- a visit that has come to a place
module _ (old now : ScanView) (list : ListView) (place : ℕ) (so_far : Visiting old now list place) where
  -- the entry there
  at-entry : (entry : Entry) → slice_get list.entries place ≡ Some entry → entries_seen (drop place list.entries) ≡ entry_seen entry ∷ entries_seen (drop (place + 1) list.entries)
  at-entry entry here =
      let within = slice_get_within list.entries place entry here in
      ap entries_seen (drop_more list.entries place entry within ∙ ap (λ (e : Entry). e ∷ drop (place + 1) list.entries) (get_or_from_slice_get list.entries place entry entry here))

  -- the limit is reached
  pub comes-full : length now.taken ≡ now.limit → VisitsOn old (list_right list) (list_entries list) old.taken (outcome_of Done now)
  comes-full full =
      so_far.onward (outcome_of Done now)
      (visits-full old (list_right list) now.taken [] (outcome_of Done now) (entries_seen (drop place list.entries)) (full ∙ ap (λ (s : ScanView). s.limit) so_far.same) refl)

  -- an entry is passed
  pub goes-on : (entry : Entry) → slice_get list.entries place ≡ Some entry → StepsAt now.at entry.slice entry.content Pass → Visiting old now list (place + 1)
  goes-on entry here step = record {
    same = so_far.same;
    onward = λ outcome next. so_far.onward outcome
        (subst (λ (es : List PlainEntry). VisitsOn old (list_right list) es now.taken outcome) (sym (at-entry entry here))
        (visits-pass old (list_right list) now.taken (entries_seen (drop (place + 1) list.entries)) outcome entry.slice entry.content
        (subst (λ (s : ScanView). StepsAt s.at entry.slice entry.content Pass) so_far.same step) next));
  }

  -- an entry's pair is taken, or was
  pub goes-on_taking : (entry : Entry) (t : ScanView) → slice_get list.entries place ≡ Some entry → StepsAt now.at entry.slice entry.content Take → length now.taken < now.limit → TakesPair now entry t → Visiting old t list (place + 1)
  goes-on_taking entry t here step room takes = go takes
    where
      is_step : StepsAt old.at entry.slice entry.content Take
      is_step = subst (λ (s : ScanView). StepsAt s.at entry.slice entry.content Take) so_far.same step

      from : (outcome : VisitOutcome Row) → VisitsOn old (list_right list) (entry_seen entry ∷ entries_seen (drop (place + 1) list.entries)) now.taken outcome → VisitsOn old (list_right list) (list_entries list) old.taken outcome
      from outcome next = so_far.onward outcome (subst (λ (es : List PlainEntry). VisitsOn old (list_right list) es now.taken outcome) (sym (at-entry entry here)) next)

      go : TakesPair now entry t → Visiting old t list (place + 1)
      go (inl (was, is)) = subst (λ (s : ScanView). Visiting old s list (place + 1)) (sym is) (record {
        same = so_far.same;
        onward = λ outcome next. from outcome (visits-taken old (list_right list) now.taken (entries_seen (drop (place + 1) list.entries)) outcome entry.slice entry.content is_step
            (subst (λ (s : ScanView). UpTo (under s.prefix (entry_place entry)) (as_places now.taken)) so_far.same was) next);
      })
      go (inr (key, row, has, at, new, is)) = subst (λ (s : ScanView). Visiting old s list (place + 1)) (sym is) (record {
        same = ap (λ (s : ScanView). let u : ScanView = record s { taken = now.taken ++ (key, shown now.asked row) ∷ [] } in u) so_far.same;
        onward = λ outcome next. from outcome (visits-take old (list_right list) now.taken (entries_seen (drop (place + 1) list.entries)) outcome entry.slice entry.content key row is_step
            (subst (λ (s : ScanView). length now.taken < s.limit) so_far.same room) has
            (subst (λ (s : ScanView). place_of key ≡ under s.prefix (entry_place entry)) so_far.same at) new
            (subst (λ (s : ScanView). VisitsOn old (list_right list) (entries_seen (drop (place + 1) list.entries)) (now.taken ++ (key, shown s.asked row) ∷ []) outcome) so_far.same next));
      })

  -- a link is entered
  pub comes-enter : (entry : Entry) (node : NodeNo) (t : ScanView) → slice_get list.entries place ≡ Some entry → StepsAt now.at entry.slice entry.content (Enter node)
      → t ≡ record now { prefix = entry.slice ∷ now.prefix; at = entered_at entry.slice now.at }
      → VisitsOn old (list_right list) (list_entries list) old.taken (outcome_of (To node) t)
  comes-enter entry node t here step is =
      so_far.onward (outcome_of (To node) t)
      (subst (λ (es : List PlainEntry). VisitsOn old (list_right list) es now.taken (outcome_of (To node) t)) (sym (at-entry entry here))
      (visits-enter old (list_right list) now.taken (entries_seen (drop (place + 1) list.entries)) (outcome_of (To node) t) entry.slice entry.content node
      (subst (λ (s : ScanView). StepsAt s.at entry.slice entry.content (Enter node)) so_far.same step)
      (ap (outcome_of (To node)) is ∙ ap (λ (s : ScanView). goes (entry.slice ∷ s.prefix) node.0 (entered_at entry.slice s.at) (as_places now.taken)) so_far.same)))

  -- the entry's row is that of a key
  pub holds-key : HoldsKeys old.prefix list.entries → (entry : Entry) → slice_get list.entries place ≡ Some entry → IsSome (entry_row entry) → HoldsKey now.prefix entry
  holds-key holds entry here row =
      let within = slice_get_within list.entries place entry here in
      subst (λ (s : ScanView). HoldsKey s.prefix entry) (sym so_far.same)
      (subst (λ (e : Entry). IsSome (entry_row e) → HoldsKey old.prefix e) (get_or_from_slice_get list.entries place entry entry here)
      (All-get_or (λ e. IsSome (entry_row e) → HoldsKey old.prefix e) list.entries place entry within holds.each) row)

-- the entry at which a loop over entries is
pub entry-there : (entries : List Entry) (place : ℕ) (entry : Entry) → place < length entries → entry ≡ get_or entries place entry → slice_get entries place ≡ Some entry
entry-there entries place entry within is = slice_get-get_or entries place entry within ∙ ap Some (sym is)
