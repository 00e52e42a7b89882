-- What a build has read, as it visits borders and as others write.
use Rattle.std.proofs.Common.{◌≡◌, ℕ, ◌+◌, ◌<◌, ◌≤◌, ◌⊎◌, inl, inr, Bool, true, false, cond, List, [], ◌∷◌, ◌++◌, length, Option, Some, None, IsSome, refl, ap, sym, ◌∙◌, subst, arith}
use Rattle.std.specs.Prelude.{IsTrue}
use Rattle.std.specs.Ordering.{is_eq, eq_by_cmp}
use Rattle.std.specs.FinMap as map
use Rattle.std.proofs.lemmas.Bool.{false≢true}
use Rattle.std.proofs.lemmas.List.{length-append, length-map}
use Rattle.mt_types.specs.Keys.{key_cmp}
use Rattle.mt_types.specs.Rows.{Rows, shown}
use Rattle.mt_types.specs.declared.row.Row.{Row}
use Rattle.mt_slice.specs.Place.{Place, Precedes, AreBytes, first_slice, place_of, under}
use Rattle.mt_types.specs.declared.view.ViewSpec.{ViewSpec}
use Rattle.mt_slice.proofs.KeyOrder.{cmp_equal, place_order}
use Rattle.mt_word.specs.declared.permutation_word.TheConstants.{SLOTS}
use Rattle.mt_types.proofs.MapLemmas.{Entries, key_order}
use Rattle.mt_chart.specs.Tree.{Arena, Among, first, later, Below, Has, Right}
use Rattle.mt_chart.specs.Tree.{PlainEntry}
use Rattle.mt_chart.specs.Chart.{Chart, Holds, IsTree}
use Rattle.mt_chart.specs.Scan.{Pair, AtMost, Listed, OpenRange, VisitOutcome, answers, goes, AtEnd, BorderVisit, Comes}
use Rattle.mt_chart.specs.ScanRun.{Stood, AllHave, EntriesInOrder}
use Rattle.mt_chart.specs.NotedList.{IsNotedList}
use Rattle.mt_chart.specs.KeyAnswer.{as_places, KeysAreBytes}
use Rattle.mt_chart.proofs.HeldNodes.{holds_kept}
use Rattle.mt_chart.proofs.KeyAnswers.{key_bytes, among_place, place_among, place_is_one}
use Rattle.mt_chart.proofs.PlaceOrder.{either}
use Rattle.mt_chart.proofs.Ranges.{holds_top, scan_begins, noted_visits}
use Rattle.mt_chart.proofs.ScanRuns.{in_order}
use Rattle.mt_tree.specs.Seen.{entry_seen}
use Rattle.mt_scan.specs.Listed.{ListView, list_entries, list_right}
use Rattle.mt_scan.specs.Scan.{ScanView, VisitsList, outcome_of}
use Rattle.mt_scan.specs.declared.scan.ScanMove.{ScanMove}
use Rattle.mt_scan.specs.declared.scan.ScanMove.TheVariants.{Done, To, Top}
use Rattle.mt_view.specs.State.{StateView, IsAfresh, with_pairs}
use Rattle.mt_view.proofs.AfreshLemmas.{same_key}
use Rattle.mt_works.specs.Build.{BuildView, first_key, HasRead, IsScanning, IsBehindAll, ComesTo, VisitsOn, HasRows, HadRows}
use Rattle.mt_works.specs.History.{is_within, WasAt, WasThroughout}
use Rattle.mt_works.specs.Laws.{OthersKeepScans, RestartsKeepScans, WaysKeepScans, BuildsAreExact}
use Rattle.mt_works.proofs.HistoryLemmas.{scans_lead}
use Rattle.mt_works.proofs.PrefixLemmas.{within_from_first}

-- ---- rows and pairs that are put in
-- a row that is there is one of the pairs, or was there
put_or_there : (pairs : Entries) (rows : Rows) (key : List ℕ) (row : Row) → map.get (with_pairs pairs rows) key ≡ Some row → Among (key, row) pairs ⊎ (map.get rows key ≡ Some row)
put_or_there [] rows key row e = inr e
put_or_there (pair ∷ pairs) rows key row e = go (put_or_there pairs (map.insert rows pair.0 pair.1) key row e)
  where
    here : (t : Bool) → eq_by_cmp key_cmp key pair.0 ≡ t → cond t (Some pair.1) (map.get rows key) ≡ Some row → Among (key, row) (pair ∷ pairs) ⊎ (map.get rows key ≡ Some row)
    here true tie is =
        let same : key ≡ pair.0 = same_key key pair.0 tie in
        let alike : pair.1 ≡ row = cc in
        inl (subst (λ (p : List ℕ × Row). Among p (pair ∷ pairs)) (λ t. (sym same t, alike t)) first)
    here false other is = inr is

    go : Among (key, row) pairs ⊎ (map.get (map.insert rows pair.0 pair.1) key ≡ Some row) → Among (key, row) (pair ∷ pairs) ⊎ (map.get rows key ≡ Some row)
    go (inl i) = inl (later i)
    go (inr is) = here (eq_by_cmp key_cmp key pair.0) refl (sym (map.get-insert key_order rows pair.0 pair.1 key) ∙ is)

-- a key with a row keeps one
keeps_row : (pairs : Entries) (rows : Rows) (key : List ℕ) → IsSome (map.get rows key) → IsSome (map.get (with_pairs pairs rows) key)
keeps_row [] rows key some = some
keeps_row (pair ∷ pairs) rows key some = keeps_row pairs (map.insert rows pair.0 pair.1) key (subst (λ (o : Option Row). IsSome o) (sym (map.get-insert key_order rows pair.0 pair.1 key)) (there (eq_by_cmp key_cmp key pair.0)))
  where
    there : (t : Bool) → IsSome (cond t (Some pair.1) (map.get rows key))
    there true = refl
    there false = some

-- and the key of a pair has one
has_row : (pairs : Entries) (rows : Rows) (pair : List ℕ × Row) → Among pair pairs → IsSome (map.get (with_pairs pairs rows) pair.0)
has_row [] rows pair i = elim i [ ]
has_row (pair ∷ pairs) rows _ first =
    keeps_row pairs (map.insert rows pair.0 pair.1) pair.0
    (subst (λ (o : Option Row). IsSome o) (sym (map.get-insert key_order rows pair.0 pair.1 pair.0 ∙ ap (λ (t : Bool). cond t (Some pair.1) (map.get rows pair.0)) (ap is_eq (cmp_equal pair.0)))) refl)
has_row (other ∷ pairs) rows pair (later i) = has_row pairs (map.insert rows other.0 other.1) pair i

-- ---- the visit of a border
-- the pairs with which it ends or continues
abbrev pairs_of : {V : Type 0} → VisitOutcome V → List (Pair V)
pairs_of (answers taken) = taken
pairs_of (goes prefix number at taken) = taken

ends_with : {V : Type 0} (prefix : List ℕ) (right : Option Right) (taken : List (Pair V)) (outcome : VisitOutcome V) → AtEnd prefix right taken outcome → pairs_of outcome ≡ taken
ends_with prefix (Some neighbour) taken outcome is = ap pairs_of is
ends_with [] None taken outcome is = ap pairs_of is
ends_with (slice ∷ above) None taken outcome is = ap pairs_of is

-- a visit takes no more pairs than there are entries
few_taken : {V : Type 0} (show : Row → V) (limit : ℕ) (prefix : List ℕ) (at : Place) (right : Option Right) (entries : List PlainEntry) (taken : List (Pair V)) (outcome : VisitOutcome V)
    → BorderVisit show limit prefix at right entries taken outcome → length (pairs_of outcome) ≤ length taken + length entries
few_taken show limit prefix at right [] taken outcome (inl (full, is)) = let same = ap length (ap pairs_of is) in omega (arith, same)
few_taken show limit prefix at right [] taken outcome (inr end) = let same = ap length (ends_with prefix right taken outcome end) in omega (arith, same)
few_taken show limit prefix at right (entry ∷ entries) taken outcome (inl (full, is)) = let same = ap length (ap pairs_of is) in omega (arith, same)
few_taken show limit prefix at right (entry ∷ entries) taken outcome (inr (inl (place, row, holds, passed, rest))) =
    let few = few_taken show limit prefix at right entries taken outcome rest in omega (arith, few)
few_taken show limit prefix at right (entry ∷ entries) taken outcome (inr (inr (inl (place, row, holds, past, next, room, rest)))) =
    let few = few_taken show limit prefix at right entries (taken ++ (record { key = under prefix place; value = show row } ∷ [])) outcome rest in
    let more = length-append taken (record { key = under prefix place; value = show row } ∷ []) in omega (arith, few, more)
few_taken show limit prefix at right (entry ∷ entries) taken outcome (inr (inr (inr (node, is_link, inl (past, rest))))) =
    let few = few_taken show limit prefix at right entries taken outcome rest in omega (arith, few)
few_taken show limit prefix at right (entry ∷ entries) taken outcome (inr (inr (inr (node, is_link, inr (inl (before, is)))))) = let same = ap length (ap pairs_of is) in omega (arith, same)
few_taken show limit prefix at right (entry ∷ entries) taken outcome (inr (inr (inr (node, is_link, inr (inr (rest, inside, is)))))) = let same = ap length (ap pairs_of is) in omega (arith, same)

module _ (arenas : List Arena) (Done_before Done_then : Place → Type 0) (old new : StateView) (pairs : Entries) (bytes : KeysAreBytes pairs) (same_spec : new.spec ≡ old.spec)
    (takes_in : (rows : Rows) → IsAfresh old rows → IsAfresh new (with_pairs pairs rows))
    (shows : (pair : Pair Row) → Among pair (as_places pairs) → Stood (shown []) arenas pair.key pair.value)
    (lists : (key : Place) → Done_then key → Done_before key ⊎ (AllHave arenas key → Listed key (as_places pairs))) where
  stood_there : (read : HasRead arenas Done_before old) (key : List ℕ) (row : Row) → Among (key, row) pairs ⊎ (map.get read.read key ≡ Some row) → AreBytes key × Stood (shown []) arenas (place_of key) row
  stood_there read key row (inl i) = (key_bytes (key, row) pairs bytes i, shows (record { key = place_of key; value = row }) (among_place (key, row) pairs i))
  stood_there read key row (inr is) = read.stood key row is

  listed_has : (rows : Rows) (key : List ℕ) → AreBytes key → Listed (place_of key) (as_places pairs) → IsSome (map.get (with_pairs pairs rows) key)
  listed_has rows key b (pair, i, is) =
      let (x, j, e) = place_among pair pairs i in
      let same : x.0 ≡ key = place_is_one x.0 key (key_bytes x pairs bytes j) b (sym (ap (λ (p : Pair Row). p.key) e) ∙ is) in
      subst (λ (k : List ℕ). IsSome (map.get (with_pairs pairs rows) k)) same (has_row pairs rows x j)

  pub reads_on : HasRead arenas Done_before old → HasRead arenas Done_then new
  reads_on read = record {
    read = with_pairs pairs read.read;
    afresh = takes_in read.read read.afresh;
    stood = λ key row is. stood_there read key row (put_or_there pairs read.read key row is);
    covered = λ key b within done all. on_side key b (subst (λ (s : ViewSpec). IsTrue (is_within s key)) same_spec within) (lists (place_of key) done) all;
  }
    where
      on_side : (key : List ℕ) → AreBytes key → IsTrue (is_within old.spec key) → Done_before (place_of key) ⊎ (AllHave arenas (place_of key) → Listed (place_of key) (as_places pairs)) → AllHave arenas (place_of key)
          → IsSome (map.get (with_pairs pairs read.read) key)
      on_side key b within (inl done) all = keeps_row pairs read.read key (read.covered key b within done all)
      on_side key b within (inr listed) all = listed_has read.read key b (listed all)

module _ (scan next : ScanView) (list : ListView) (state then : StateView) (taken : scan.taken ≡ []) (asked : scan.asked ≡ []) (limit : scan.limit ≡ 16) (few : length list.entries ≤ SLOTS)
    (bytes : KeysAreBytes next.taken) (same_spec : then.spec ≡ state.spec) (takes_in : (rows : Rows) → IsAfresh state rows → IsAfresh then (with_pairs next.taken rows)) where
  abbrev before : BuildView
  before = record { prefix = scan.prefix; at = scan.at; state = state }

  abbrev then_build : BuildView
  then_build = record { prefix = next.prefix; at = next.at; state = then }

  module _ (chart : Chart) (begun number low : ℕ) (arenas : List Arena) (at_top : (slice : ℕ) → Holds chart begun 0 [] slice)
      (noted : IsNotedList (shown []) chart begun (Stood (shown []) arenas) (AllHave arenas) scan.prefix low (list_right list) (list_entries list)) (ordered : EntriesInOrder (list_entries list))
      (from_low : low ≤ first_slice scan.at) (below : Below (first_slice scan.at) (list_right list)) (scanning : IsScanning chart begun arenas number before) where
    -- from its cursor on, the visit is that of a scan that has taken nothing
    came : (move : ScanMove) → VisitsList scan list move next → Comes chart begun (Stood (shown []) arenas) (AllHave arenas) (under scan.prefix scan.at) 16 (outcome_of move next)
    came move visit =
        noted_visits (shown []) chart begun (Stood (shown []) arenas) (AllHave arenas) at_top (under scan.prefix scan.at) 16 scan.prefix number scan.at []
        (record { held = scanning.held; scanned = scan_begins (Stood (shown []) arenas) (AllHave arenas) (under scan.prefix scan.at) 16 })
        (record { deleted = false; locked = false; low = low; entries = list_entries list; right = list_right list }) noted (in_order (list_entries list) ordered) from_low below (outcome_of move next) (afresh visit)
      where
        afresh : VisitsList scan list move next → VisitsList (record scan { taken = []; limit = 16; asked = [] }) list move next
        afresh visit = subst (λ (s : ScanView). VisitsList s list move next)
            (ap (λ (t : Entries). record scan { taken = t }) taken ∙ ap (λ (l : ℕ). record scan { taken = []; limit = l }) limit ∙ ap (λ (c : List ℕ). record scan { taken = []; limit = 16; asked = c }) asked) visit

    goes_on : (at_number : ℕ) → OpenRange chart begun (Stood (shown []) arenas) (AllHave arenas) (under scan.prefix scan.at) 16 next.prefix at_number next.at (as_places next.taken)
        → IsScanning chart begun arenas at_number then_build
    goes_on at_number went = record {
      held = went.held;
      read = reads_on arenas (λ key. Precedes key (under scan.prefix scan.at)) (λ key. Precedes key (under next.prefix next.at)) state then next.taken bytes same_spec takes_in went.scanned.shown
          (λ key ahead. on_side key ahead (either key (under scan.prefix scan.at))) scanning.read;
    }
      where
        on_side : (key : Place) → Precedes key (under next.prefix next.at) → Precedes key (under scan.prefix scan.at) ⊎ AtMost (under scan.prefix scan.at) key
            → Precedes key (under scan.prefix scan.at) ⊎ (AllHave arenas key → Listed key (as_places next.taken))
        on_side key ahead (inl h) = inl h
        on_side key ahead (inr h) = inr (λ all. went.scanned.covered key h (inl ahead) all)

    ends_so : (move : ScanMove) → VisitsList scan list move next → length (pairs_of (outcome_of move next)) < 16
    ends_so move visit =
        let least = few_taken (shown scan.asked) scan.limit scan.prefix scan.at (list_right list) (list_entries list) (as_places scan.taken) (outcome_of move next) visit in
        let none : length (as_places scan.taken) ≡ 0 = ap (λ (t : Entries). length (as_places t)) taken in
        let size = length-map list.entries entry_seen in
        omega (arith, few, none, size, least)

    comes : (move : ScanMove) → VisitsList scan list move next → (move ≡ Top → next.prefix ≡ []) → ComesTo chart begun arenas move then_build
    comes Done visit home =
        let right = came Done visit in
        let few = ends_so Done visit in
        reads_on arenas (λ key. Precedes key (under scan.prefix scan.at)) (λ key. Unit {0}) state then next.taken bytes same_spec takes_in right.shown
        (λ key done. elim (either key (under scan.prefix scan.at)) [ inl h ↦ inl h | inr h ↦ inr (λ all. right.complete key h all (inl few)) ]) scanning.read
    comes (To node) visit home = goes_on node.0 (came (To node) visit)
    comes Top visit home =
        goes_on 0 (subst (λ (p : List ℕ). OpenRange chart begun (Stood (shown []) arenas) (AllHave arenas) (under scan.prefix scan.at) 16 p 0 next.at (as_places next.taken)) (sym (home refl)) (came Top visit))

  pub visits : (move : ScanMove) → VisitsList scan list move next → (move ≡ Top → next.prefix ≡ []) → VisitsOn before list move then_build
  visits move visit home = record { comes = λ chart begun number low arenas at_top noted ordered from_low below scanning. comes chart begun number low arenas at_top noted ordered from_low below scanning move visit home }

-- a visit that leaves the cursor after each key of the view has come to the scan's end
pub visits_all : (old : BuildView) (list : ListView) (move : ScanMove) (new : BuildView) → VisitsOn old list move new → IsBehindAll new → VisitsOn old list Done new
visits_all old list move new visit behind = record {
  comes = λ chart begun number low arenas at_top noted ordered from_low below scanning. all chart begun arenas move (visit.comes chart begun number low arenas at_top noted ordered from_low below scanning);
}
  where
    all_read : (arenas : List Arena) → HasRead arenas (λ key. Precedes key (under new.prefix new.at)) new.state → HasRead arenas (λ key. Unit {0}) new.state
    all_read arenas read = record { read = read.read; afresh = read.afresh; stood = read.stood; covered = λ key b within done all. read.covered key b within (behind key b within) all }

    all : (chart : Chart) (begun : ℕ) (arenas : List Arena) (move : ScanMove) → ComesTo chart begun arenas move new → ComesTo chart begun arenas Done new
    all chart begun arenas Done read = read
    all chart begun arenas (To node) scanning = all_read arenas scanning.read
    all chart begun arenas Top scanning = all_read arenas scanning.read

-- ---- the begin
pub begins : (chart : Chart) (begun : ℕ) (arena : Arena) (build : BuildView) → IsTree arena chart → build.prefix ≡ [] → build.at ≡ place_of (first_key build.state.spec) → AreBytes (first_key build.state.spec)
    → IsAfresh build.state map.empty → IsScanning chart begun (arena ∷ []) 0 build
begins chart begun arena build tree home start bytes afresh = record {
  held = subst (λ (p : List ℕ). Holds chart begun 0 p (first_slice build.at)) (sym home) (holds_top arena chart tree begun (first_slice build.at));
  read = record {
    read = map.empty;
    afresh = afresh;
    stood = λ key row is. absurd (let clash : None ≡ Some row = sym (map.get-empty key_cmp key) ∙ is in cc);
    covered = λ key b within done all. absurd (within_from_first build.state.spec key within ((place_order key (first_key build.state.spec) b bytes).1
        (subst (λ (p : Place). Precedes (place_of key) p) (ap (λ (q : List ℕ). under q build.at) home ∙ start) done)));
  };
}

-- a visit whose pairs were taken out of the scan, and were taken in
pub visited : (scan next drained : ScanView) (list : ListView) (state then : StateView) (old : BuildView) (pairs : Entries) (move : ScanMove)
    → ◌≡◌ {A = BuildView} (record { prefix = scan.prefix; at = scan.at; state = state }) old → scan.taken ≡ [] → scan.asked ≡ [] → scan.limit ≡ 16 → length list.entries ≤ SLOTS
    → VisitsList scan list move next → (move ≡ Top → next.prefix ≡ []) → pairs ≡ next.taken → KeysAreBytes next.taken → drained ≡ record next { taken = [] }
    → then ≡ record state { rows = then.rows } → ((rows : Rows) → IsAfresh state rows → IsAfresh then (with_pairs pairs rows))
    → VisitsOn old list move (record { prefix = drained.prefix; at = drained.at; state = then })
visited scan next drained list state then old pairs move is taken asked limit few visit home out bytes kept_scan kept takes_in =
    subst (λ (s : ScanView). VisitsOn old list move (record { prefix = s.prefix; at = s.at; state = then })) (sym kept_scan)
    (subst (λ (o : BuildView). VisitsOn o list move (record { prefix = next.prefix; at = next.at; state = then })) is
    (visits scan next list state then taken asked limit few bytes (ap (λ (s : StateView). s.spec) kept)
    (λ rows h. subst (λ (ps : Entries). IsAfresh then (with_pairs ps rows)) out (takes_in rows h)) move visit home))

-- ---- what others do, and the scan's own ways
pub others_keep : OthersKeepScans
others_keep chart new begun number arena arenas build evolves scanning = record {
  held = holds_kept begun number build.prefix (first_slice build.at) chart new evolves scanning.held;
  read = record {
    read = scanning.read.read;
    afresh = scanning.read.afresh;
    stood = λ key row is. (let there = scanning.read.stood key row is in (there.0, inr there.1));
    covered = λ key b within done all. scanning.read.covered key b within done all.1;
  };
}

pub restarts_keep : RestartsKeepScans
restarts_keep chart begun number arena arenas build tree scanning =
    record { held = holds_top arena chart tree begun (first_slice (under build.prefix build.at)); read = scanning.read }

pub ways_keep : WaysKeepScans
ways_keep chart begun number next arenas build held scanning = record { held = held; read = scanning.read }

-- ---- what was read, by rows
was_at : (arenas : List Arena) (moments : List Rows) (key : List ℕ) (row : Row) → AreBytes key → HadRows arenas moments → Stood (shown []) arenas (place_of key) row → WasAt moments key (Some row)
was_at [] [] key row b had stood = stood
was_at [] (rows ∷ moments) key row b had stood = absurd had
was_at (arena ∷ arenas) [] key row b had stood = absurd had
was_at (arena ∷ arenas) (rows ∷ moments) key row b had (inl (there, has, is)) = inl ((had.0.each key there).1 (b, has) ∙ ap Some is)
was_at (arena ∷ arenas) (rows ∷ moments) key row b had (inr stood) = inr (was_at arenas moments key row b had.1 stood)

row_there : (arena : Arena) (rows : Rows) (key : List ℕ) → HasRows arena rows → IsSome (map.get rows key) → AreBytes key × ((row : Row) × Has arena (place_of key) row)
row_there arena rows key has some = go (map.get rows key) refl some
  where
    go : (row : Option Row) → map.get rows key ≡ row → IsSome row → AreBytes key × ((row : Row) × Has arena (place_of key) row)
    go (Some row) is here = let there = (has.each key row).0 is in (there.0, (row, there.1))
    go None is here = absurd (false≢true here)

was_throughout : (arenas : List Arena) (moments : List Rows) (key : List ℕ) → HadRows arenas moments → WasThroughout moments key → AllHave arenas (place_of key)
was_throughout [] moments key had all = tt
was_throughout (arena ∷ arenas) [] key had all = absurd had
was_throughout (arena ∷ arenas) (rows ∷ moments) key had all = ((row_there arena rows key had.0 all.0).1, was_throughout arenas moments key had.1 all.1)

pub builds_exact : BuildsAreExact
builds_exact arena arenas rows past deltas state had history read = scans_lead rows read.read past deltas state history (record {
  stood = λ key row is. (let there = read.stood key row is in was_at (arena ∷ arenas) (rows ∷ past) key row there.0 had there.1);
  covered = λ key within all. read.covered key (row_there arena rows key had.0 all.0).0 within tt (was_throughout (arena ∷ arenas) (rows ∷ past) key had all);
}) read.afresh
