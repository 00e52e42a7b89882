-- The steps of a range.
use Rattle.std.proofs.Common.{ℕ, zero, suc, ◌≡◌, ◌<◌, ◌+◌, ◌^◌, ◌⊎◌, inl, inr, List, [], ◌∷◌, length, Some, IsSome, true, false, refl, sym, ap, subst, ◌∙◌, arith}
use Rattle.std.specs.Prelude.{All}
use Rattle.std.specs.Int.{w64, to_be_bytes, from_be_bytes, bytes_high_first}
use Rattle.std.specs.Slice.Scan.{big_endian}
use Rattle.std.proofs.lemmas.List.{take_all}
use Rattle.std.proofs.lemmas.List.Elements.{All-nil, All-cons}
use Rattle.std.proofs.lemmas.Nat.{from_be_bytes-to_be_bytes_8}
use Rattle.mt_types.specs.Rows.{shown}
use Rattle.mt_types.specs.declared.row.Row.{Row}
use Rattle.mt_types.specs.declared.numbers.NodeNo.{NodeNo}
use Rattle.mt_types.specs.declared.event.Answer.TheVariants.{Rows as RowsAnswer}
use Rattle.mt_types.specs.declared.refusal.Refusal.TheVariants.{NoMemory}
use Rattle.mt_slice.specs.Place.{AreBytes, place_of, under, first_slice, slice_number}
use Rattle.mt_slice.proofs.Slices.{from_be_bytes-big_endian, slice_number-long}
use Rattle.mt_commit.specs.Log.{LogView}
use Rattle.mt_border.specs.Border.{BorderView}
use Rattle.mt_border.specs.Entry.{entry_row, content_row}
use Rattle.mt_border.specs.declared.entry.Entry.{Entry}
use Rattle.mt_border.specs.declared.entry.Content.{Content}
use Rattle.mt_border.specs.declared.entry.Content.TheVariants.{Short, Long, Link}
use Rattle.mt_arena.specs.Node.{border_at, IsNode}
use Rattle.mt_arena.specs.declared.node.Node.{Node}
use Rattle.mt_arena.specs.Arena.{ArenaView, IsArena}
use Rattle.mt_chart.specs.Tree.{Arena, Among, first, later, HoldsRow, Below}
use Rattle.mt_chart.specs.Tree.{PlainEntry}
use Rattle.mt_chart.specs.Chart.{Holds, OnBorder}
use Rattle.mt_chart.specs.Walk.{Moves}
use Rattle.mt_chart.specs.Scan.{OpenRange, Comes}
use Rattle.mt_chart.specs.ScanRun.{Stood, AllHave, EntriesInOrder}
use Rattle.mt_chart.specs.KeyAnswer.{as_places, KeysAreBytes}
use Rattle.mt_chart.proofs.Entries.{InOrder}
use Rattle.mt_chart.proofs.HeldNodes.{evolves_same, border_is_on}
use Rattle.mt_chart.proofs.Ranges.{range_kept, range_again}
use Rattle.mt_chart.proofs.TreeLemmas.{rows_in_borders}
use Rattle.mt_chart.proofs.ScanLemmas.{of_keys}
use Rattle.mt_tree.specs.Seen.{arena_seen, border_seen, entry_seen, content_seen, content_place, entry_place}
use Rattle.mt_tree.specs.Descent.{MayVisit, MayVisitNode, LeadsOn as VisitLeads, TellsVisit, IsHere, node_visit}
use Rattle.mt_tree.specs.declared.visit.Visit.{Visit}
use Rattle.mt_tree.specs.declared.visit.Visit.TheVariants.{Again as VisitAgain, To as VisitTo, Below as VisitBelow, Here as VisitHere}
use Rattle.mt_tree.proofs.DescentLemmas.{slice_of_place, may_visit, leads_node, tells_node}
use Rattle.mt_tree.proofs.HeldLemmas.{held_may_visit}
use Rattle.mt_tree.proofs.SeenLemmas.{seen-border, among_map}
use Rattle.mt_chart.specs.Walk.{Moves}
use Rattle.mt_scan.specs.Cursor.{CursorView}
use Rattle.mt_scan.specs.Onward.{cursor_of, all_cursors, GetsOn, GoesOnward, LeadsOn, GoesFrom}
use Rattle.mt_scan.specs.Listed.{ListView, list_right}
use Rattle.mt_scan.specs.Scan.{ScanView, HoldsKey, HoldsKeys, outcome_of}
use Rattle.mt_scan.specs.declared.scan.ScanMove.{ScanMove}
use Rattle.mt_scan.specs.declared.scan.ScanMove.TheVariants.{Done, To as VisitedTo, Top}
use Rattle.mt_steps.specs.Listing.{Listing}
use Rattle.mt_steps.specs.declared.reader.Reader.TheVariants.{Begins as ListingBegins}
use Rattle.mt_steps.specs.Listing.{ListingIsTrue}
use Rattle.mt_steps.specs.declared.ranging.Range.{Range}
use Rattle.mt_steps.specs.declared.progress.Progress.{Progress}
use Rattle.mt_steps.specs.declared.progress.Progress.TheVariants.{Moved, Waits, Answered, Refused}
use Rattle.mt_steps.specs.World.{World, IsWorld, AreOfKeys}
use Rattle.mt_steps.specs.Way.{Names}
use Rattle.mt_steps.specs.Step.{StepLaw, nothing}
use Rattle.mt_steps.specs.Ranging.{range_request, RangeIsTrue, IsHeldFor, IsHeldNode, Seeks, ScansOn}
use Rattle.mt_steps.proofs.FrameLemmas.{goes_same, quiet_same}
use Rattle.mt_steps.proofs.WayLemmas.{names_may}

-- ---- a slice as a rest of eight bytes
length_high : (k n : ℕ) → length (bytes_high_first k n) ≡ k
length_high zero n = refl
length_high (suc k) n = ap suc (length_high k n)

pub eight_bytes : (slice : ℕ) (rest : List ℕ) → rest ≡ to_be_bytes w64 slice → length rest ≡ 8
eight_bytes slice rest is = ap length is ∙ length_high 8 slice

pub slice_back : (slice : ℕ) (rest : List ℕ) → rest ≡ to_be_bytes w64 slice → slice < 2 ^ 64 → slice_number rest ≡ slice
slice_back slice rest is below =
    let eight = eight_bytes slice rest is in
    slice_number-long rest (omega (arith, eight)) ∙ (ap (big_endian 0) (take_all 8 rest (omega (arith, eight))) ∙ (sym (from_be_bytes-big_endian rest eight) ∙ (ap (from_be_bytes w64) is ∙ from_be_bytes-to_be_bytes_8 slice below)))

module _ (a : ArenaView) (number slice : ℕ) (rest : List ℕ) (same : slice_number rest ≡ slice) where
  pub seeks-may : IsHeldFor a number slice → MayVisit a number (slice_number rest)
  seeks-may h = subst (λ (s : ℕ). MayVisit a number s) (sym same) (held_may_visit a h.now h.twins h.chart h.begun number slice h.prefix h.index h.holds)

  pub seeks-to : (next : NodeNo) → VisitLeads a number rest (VisitTo next) → Seeks a number slice (VisitTo next)
  seeks-to next leads = record {
    leads = λ now twins chart begun prefix index held.
        subst (λ (s : ℕ). Holds chart begun next.0 prefix s) same (leads.leads now twins chart begun prefix index (subst (λ (s : ℕ). Holds chart begun number prefix s) (sym same) held));
  }

  pub seeks-here : VisitLeads a number rest VisitHere → TellsVisit a number rest VisitHere → Seeks a number slice VisitHere
  seeks-here leads tells = record {
    leads = λ now twins chart begun prefix index held.
        let here : IsHere a chart number prefix rest = leads.leads now twins chart begun prefix index (subst (λ (s : ℕ). Holds chart begun number prefix s) (sym same) held) in
        record {
          border = here.border;
          named = here.named;
          alive = (tells here.border here.named).0;
          to_right = subst (λ (s : ℕ). Below s (border_seen here.border).right) (slice_of_place rest ∙ same) here.stands.to_right;
        };
  }

pub seeks-again : (a : ArenaView) (number slice : ℕ) → Seeks a number slice VisitAgain
seeks-again a number slice = record { leads = λ now twins chart begun prefix index held. tt }

pub seeks_visit : (a : ArenaView) (number slice : ℕ) (rest : List ℕ) → slice_number rest ≡ slice → length rest ≡ 8 → (visit : Visit) → VisitLeads a number rest visit → TellsVisit a number rest visit → Seeks a number slice visit
seeks_visit a number slice rest same eight VisitAgain leads tells = seeks-again a number slice
seeks_visit a number slice rest same eight (VisitTo next) leads tells = seeks-to a number slice rest same next leads
seeks_visit a number slice rest same eight (VisitBelow top) leads tells = record {
  leads = λ now twins chart begun prefix index held.
      let below = leads.leads now twins chart begun prefix index (subst (λ (s : ℕ). Holds chart begun number prefix s) (sym same) held) in
      let long : 8 < length rest = below.0 in
      omega (arith, long, eight);
}
seeks_visit a number slice rest same eight VisitHere leads tells = seeks-here a number slice rest same leads tells

-- ---- the visit of a node that is borrowed alone
module _ (node : Node) (slice : ℕ) (rest : List ℕ) (same : slice_number rest ≡ slice) (held : IsHeldNode node slice) where
  pub held_may : MayVisitNode node (slice_number rest)
  held_may = may_visit held.arena held.number rest node held.names.named (seeks-may held.arena held.number slice rest same held.held)

  module _ (sound : IsNode node) (visit : Visit) (value : visit ≡ node_visit rest node) where
    pub node_leads : (a : ArenaView) (number : ℕ) → Names a number node → VisitLeads a number rest visit
    node_leads a number names =
        subst (λ (v : Visit). VisitLeads a number rest v) (sym value) (leads_node a number rest node names.named sound (names_may a number node (slice_number rest) names held_may))

    pub node_tells : (a : ArenaView) (number : ℕ) → Names a number node → TellsVisit a number rest visit
    node_tells a number names =
        subst (λ (v : Visit). TellsVisit a number rest v) (sym value) (tells_node a number rest node names.named sound (names_may a number node (slice_number rest) names held_may))

-- the node to which a visit leads
pub seeks-moves : (a : ArenaView) (number : ℕ) (rest : List ℕ) (visit : Visit) (next : NodeNo) → TellsVisit a number rest visit → visit ≡ VisitTo next → Moves (arena_seen a) number next.0
seeks-moves a number rest visit next tells same = subst (λ (v : Visit). TellsVisit a number rest v) same tells

-- ---- the rows of a border are those of keys
pub all_from : {X : Type 0} (P : X → Type 0) (xs : List X) → ((x : X) → Among x xs → P x) → All P xs
all_from P [] f = All-nil P
all_from P (x ∷ xs) f = All-cons P x xs (f x first) (all_from P xs (λ y i. f y (later i)))

pub holds_row : (slice : ℕ) (content : Content) → IsSome (content_row content) → (row : Row) × HoldsRow slice (content_seen content) (content_place slice content) row
holds_row slice (Short bytes row) some = (row, (refl, refl))
holds_row slice (Long suffix row) some = (row, (refl, refl))
holds_row slice (Link next) some = absurd (let clash : false ≡ true = some in cc)

pub in_order : (es : List PlainEntry) → EntriesInOrder es → InOrder es
in_order [] o = tt
in_order (e ∷ es) o = (o.0, in_order es o.1)

-- ---- a visit of what was read of a border advances: each node to which that leads, there is a move
module _ (a : ArenaView) (number : ℕ) (list : ListView) (c d : CursorView) (visited : ScanMove) (passes : Below (first_slice c.at) (list_right list)) (moves : (next : ℕ) → LeadsOn list next → Moves (arena_seen a) number next)
    (leads : GoesFrom list visited) (onward : GoesOnward c list visited d) (within : (places : ℕ) → cursor_of places c < all_cursors places) (arena : IsArena a) where
  move_or_home : (next : ℕ) → LeadsOn list next ⊎ (next ≡ 0) → Moves (arena_seen a) number next ⊎ (next ≡ 0)
  move_or_home next (inl on) = inl (moves next on)
  move_or_home next (inr home) = inr home

  pub scans_on : (next : NodeNo) → visited ≡ VisitedTo next → ScansOn a number next.0 c d
  scans_on next to = record {
    gets_on = λ places layer. subst (λ (v : ScanMove). GetsOn places c v d) to (onward places (record { layer = layer; to_right = passes }));
    within = within;
    leads = move_or_home next.0 (subst (λ (v : ScanMove). GoesFrom list v) to leads);
    sound = arena;
  }

  pub scans_top : visited ≡ Top → ScansOn a number 0 c d
  scans_top to = record {
    gets_on = λ places layer. inl (subst (λ (v : ScanMove). GetsOn places c v d) to (onward places (record { layer = layer; to_right = passes })));
    within = within;
    leads = inr refl;
    sound = arena;
  }

-- ---- the rows of a border are those of keys
module _ (a : ArenaView) (now begun number slice : ℕ) (w : World) (prefix : List ℕ) (b : BorderView) (world : IsWorld a now w) (held : Holds w.chart begun number prefix slice) (named : border_at a.nodes number ≡ Some b) (alive : b.version.deleted ≡ false) where
  stands : OnBorder (arena_seen a) w.chart number prefix (border_seen b)
  stands = (border_is_on (arena_seen a) w.chart world.index.tree begun number slice prefix (border_seen b) held (seen-border a number b named) alive).0

  holds_key : (entry : Entry) → Among entry b.live → IsSome (entry_row entry) → HoldsKey prefix entry
  holds_key entry i some =
      let (row, holds) = holds_row entry.slice entry.content some in
      let there = (rows_in_borders (arena_seen a) w.chart world.index.tree (under prefix (entry_place entry)) row).1
      (record { prefix = prefix; number = number; node = border_seen b; entry = entry_seen entry; place = entry_place entry; on_border = stands; live = among_map entry_seen entry b.live i; holds = holds; is_key = refl }) in
      let k = world.keys.key_of (under prefix (entry_place entry)) row there in
      record { key = k.key; bytes = k.bytes; fits = k.fits; place = k.is }

  pub holds_keys : HoldsKeys prefix b.live
  holds_keys = record { each = all_from (λ (entry : Entry). IsSome (entry_row entry) → HoldsKey prefix entry) b.live holds_key }

-- the rows of one moment more, at which nothing has changed, are those of keys
pub keys_again : (a : ArenaView) (past : List Arena) → AreOfKeys (arena_seen a ∷ past) → AreOfKeys (arena_seen a ∷ (arena_seen a ∷ past))
keys_again a past keys _ first = keys (arena_seen a) first
keys_again a past keys arena (later i) = keys arena i

-- ---- the step
module _ (a : ArenaView) (range : Range) where
  abbrev with_scan : ScanView → NodeNo → Range
  with_scan scan node = record { start = range.start; limit = range.limit; columns = range.columns; scan = scan; node = node; listing = ListingBegins }

  -- one moment more, in which nothing changes
  later_true : (w : World) (begun moves : ℕ) (past : List Arena) (scan : ScanView) (node : NodeNo) → AreOfKeys (arena_seen a ∷ past) → AreBytes range.start → scan.limit ≡ range.limit → scan.asked ≡ range.columns
      → OpenRange w.chart begun (Stood (shown range.columns) (arena_seen a ∷ past)) (AllHave (arena_seen a ∷ past)) (place_of range.start) range.limit scan.prefix node.0 scan.at (as_places scan.taken)
      → RangeIsTrue (with_scan scan node) begun moves (arena_seen a ∷ past) a w
  later_true w begun moves past scan node keys bytes limit asked scans = record {
    bytes = bytes;
    limit = limit;
    asked = asked;
    scans = range_kept begun w.chart w.chart (Stood (shown range.columns) (arena_seen a ∷ past)) (Stood (shown range.columns) (arena_seen a ∷ (arena_seen a ∷ past))) (AllHave (arena_seen a ∷ past)) (AllHave (arena_seen a ∷ (arena_seen a ∷ past)))
        (place_of range.start) range.limit scan.prefix node.0 scan.at (as_places scan.taken) (evolves_same begun w.chart) (λ key v h. inr h) (λ key t. t.1) scans;
    keys = keys_again a past keys;
    listing = tt;
  }

  abbrev RangeLaw : LogView → Progress → Range → Type 0
  RangeLaw log p next = (C : ℕ) → StepLaw C a a log log (range_request range) nothing p nothing (RangeIsTrue range) (RangeIsTrue next)

  pub range_waits : (scan : ScanView) → scan ≡ record range.scan { prefix = []; at = under range.scan.prefix range.scan.at } → (log : LogView) → RangeLaw log Waits (with_scan scan (record { 0 = 0 }))
  range_waits scan is log C = subst (λ (s : ScanView). StepLaw C a a log log (range_request range) nothing Waits nothing (RangeIsTrue range) (RangeIsTrue (with_scan s (record { 0 = 0 })))) (sym is) (record {
    steps = λ now begun moves past w world before truth. record {
      goes = goes_same now a w _ [] [] refl world (later_true w begun 0 past (record range.scan { prefix = []; at = under range.scan.prefix range.scan.at }) (record { 0 = 0 }) truth.keys truth.bytes truth.limit truth.asked
          (range_again (arena_seen a) w.chart world.index.tree begun _ _ (place_of range.start) range.limit range.scan.prefix range.node.0 range.scan.at (as_places range.scan.taken) truth.scans));
      does = (quiet_same a log, refl);
      reserved = refl;
      bounds = refl;
      blocked = inl refl;
      may = tt;
    };
  })

  -- ---- it moves to another node of its layer
  pub moves_by : (next : NodeNo) → ((now begun moves : ℕ) (past : List Arena) (w : World) → IsWorld a now w → RangeIsTrue range begun moves past a w → Holds w.chart begun next.0 range.scan.prefix (first_slice range.scan.at))
      → (log : LogView) → RangeLaw log Moved (with_scan range.scan next)
  moves_by next holds log C = record {
    steps = λ now begun moves past w world before truth. record {
      goes = goes_same now a w _ [] [] refl world (later_true w begun (moves + 1) past range.scan next truth.keys truth.bytes truth.limit truth.asked (record { held = holds now begun moves past w world truth; scanned = truth.scans.scanned }));
      does = (quiet_same a log, refl);
      reserved = refl;
      bounds = refl;
      blocked = inl refl;
      may = λ get. absurd (let clash : false ≡ true = get in cc);
    };
  }

  -- it reads the border again, or its next field
  pub repeats_by : (log : LogView) → RangeLaw log Waits (with_scan range.scan range.node)
  repeats_by log C = record {
    steps = λ now begun moves past w world before truth. record {
      goes = goes_same now a w _ [] [] refl world (later_true w begun 0 past range.scan range.node truth.keys truth.bytes truth.limit truth.asked truth.scans);
      does = (quiet_same a log, refl);
      reserved = refl;
      bounds = refl;
      blocked = inl refl;
      may = tt;
    };
  }

  pub reads_by : (next : Listing) → ((now begun moves : ℕ) (past : List Arena) (w : World) → IsWorld a now w → RangeIsTrue range begun moves past a w
      → ListingIsTrue (shown range.columns) range.scan.prefix (first_slice range.scan.at) range.node.0 next begun (arena_seen a ∷ (arena_seen a ∷ past)) a w) → (log : LogView) → RangeLaw log Moved (record range { listing = next })
  reads_by next leads log C = record {
    steps = λ now begun moves past w world before truth.
        let then = later_true w begun (moves + 1) past range.scan range.node truth.keys truth.bytes truth.limit truth.asked truth.scans in
        record {
          goes = goes_same now a w _ [] [] refl world (record { bytes = then.bytes; limit = then.limit; asked = then.asked; scans = then.scans; keys = then.keys; listing = leads now begun moves past w world truth });
          does = (quiet_same a log, refl);
          reserved = refl;
          bounds = refl;
          blocked = inl refl;
          may = λ get. absurd (let clash : false ≡ true = get in cc);
        };
  }

  -- ---- its scan has visited a border, or what it has read of one
  module _ (visited : ScanMove) (scan : ScanView) (comes : (now begun moves : ℕ) (past : List Arena) (w : World) → IsWorld a now w → RangeIsTrue range begun moves past a w
      → Comes w.chart begun (Stood (shown range.columns) (arena_seen a ∷ past)) (AllHave (arena_seen a ∷ past)) (place_of range.start) range.limit (outcome_of visited scan)) where
    abbrev ComesIf : World → ℕ → List Arena → ScanMove → Type 0
    ComesIf w begun past v = Comes w.chart begun (Stood (shown range.columns) (arena_seen a ∷ past)) (AllHave (arena_seen a ∷ past)) (place_of range.start) range.limit (outcome_of v scan)

    pub goes_by : scan.limit ≡ range.scan.limit → scan.asked ≡ range.scan.asked → (next : NodeNo) → visited ≡ VisitedTo next → (log : LogView) → RangeLaw log Moved (with_scan scan next)
    goes_by limit asked next to log C = record {
      steps = λ now begun moves past w world before truth.
          let scans = subst (λ (v : ScanMove). ComesIf w begun past v) to (comes now begun moves past w world truth) in
          record {
            goes = goes_same now a w _ [] [] refl world (later_true w begun (moves + 1) past scan next truth.keys truth.bytes (limit ∙ truth.limit) (asked ∙ truth.asked) scans);
            does = (quiet_same a log, refl);
            reserved = refl;
            bounds = refl;
            blocked = inl refl;
            may = λ get. absurd (let clash : false ≡ true = get in cc);
          };
    }

    pub tops_by : scan.limit ≡ range.scan.limit → scan.asked ≡ range.scan.asked → (visited ≡ Top → scan.prefix ≡ []) → visited ≡ Top → (log : LogView) → RangeLaw log Moved (with_scan scan (record { 0 = 0 }))
    tops_by limit asked home to log C = record {
      steps = λ now begun moves past w world before truth.
          let scans = subst (λ (v : ScanMove). ComesIf w begun past v) to (comes now begun moves past w world truth) in
          record {
            goes = goes_same now a w _ [] [] refl world (later_true w begun (moves + 1) past scan (record { 0 = 0 }) truth.keys truth.bytes (limit ∙ truth.limit) (asked ∙ truth.asked)
                (subst (λ (p : List ℕ). OpenRange w.chart begun (Stood (shown range.columns) (arena_seen a ∷ past)) (AllHave (arena_seen a ∷ past)) (place_of range.start) range.limit p 0 scan.at (as_places scan.taken)) (sym (home to)) scans));
            does = (quiet_same a log, refl);
            reserved = refl;
            bounds = refl;
            blocked = inl refl;
            may = λ get. absurd (let clash : false ≡ true = get in cc);
          };
    }

    pub answers_by : visited ≡ Done → (pairs : List (List ℕ × Row)) → pairs ≡ scan.taken → KeysAreBytes scan.taken → (next : Range) (log : LogView) → RangeLaw log (Answered (RowsAnswer pairs)) next
    answers_by to pairs are bytes next log C = subst (λ (ps : List (List ℕ × Row)). StepLaw C a a log log (range_request range) nothing (Answered (RowsAnswer ps)) nothing (RangeIsTrue range) (RangeIsTrue next)) (sym are) (record {
      steps = λ now begun moves past w world before truth.
          let done = subst (λ (v : ScanMove). ComesIf w begun past v) to (comes now begun moves past w world truth) in
          record {
            goes = goes_same now a w _ [] [] refl world tt;
            does = (quiet_same a log, record { bytes = bytes; answers = of_keys (shown range.columns) (arena_seen a ∷ past) range.start range.limit scan.taken truth.bytes bytes done });
            reserved = refl;
            bounds = refl;
            blocked = tt;
            may = tt;
          };
    })

  pub range_fails : (next : Range) (log : LogView) → RangeLaw log (Refused NoMemory) next
  range_fails next log C = record {
    steps = λ now begun moves past w world before truth. record {
      goes = goes_same now a w _ [] [] refl world tt;
      does = (quiet_same a log, refl, tt, tt);
      reserved = refl;
      bounds = refl;
      blocked = refl;
      may = tt;
    };
  }
