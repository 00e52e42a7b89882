-- The step of a range that reads one field: its law, by what it is lent.
use Rattle.std.proofs.Common.{ℕ, ◌≡◌, ◌<◌, ◌^◌, inl, inr, List, [], ◌∷◌, IsSome, refl, sym, ap, subst, ◌∙◌}
use Rattle.std.specs.Prelude.{Result, Ok, IfOk, false}
use Rattle.std.specs.Option.{option_map}
use Rattle.mt_types.specs.Rows.{shown}
use Rattle.mt_types.specs.declared.refusal.NoMemory.{NoMemory as NoMemoryError}
use Rattle.mt_types.specs.declared.row.Row.{Row}
use Rattle.mt_slice.specs.Place.{Place, place_of, first_slice, under}
use Rattle.mt_commit.specs.Log.{LogView}
use Rattle.mt_border.specs.Entry.{entry_row}
use Rattle.mt_border.specs.declared.entry.Entry.{Entry}
use Rattle.mt_arena.specs.Arena.{ArenaView}
use Rattle.mt_arena.specs.Node.{node_at}
use Rattle.mt_arena.specs.declared.part.Part.{Part}
use Rattle.mt_chart.specs.Tree.{Arena, Among, first, later, BorderNode}
use Rattle.mt_chart.specs.Scan.{Comes}
use Rattle.mt_chart.specs.ScanRun.{Stood, AllHave}
use Rattle.mt_chart.specs.KeyAnswer.{as_places}
use Rattle.mt_chart.proofs.Ranges.{holds_top, noted_visits}
use Rattle.mt_tree.specs.Seen.{arena_seen, entry_seen, entry_place, entries_seen, right_seen}
use Rattle.mt_tree.proofs.SeenLemmas.{among_map}
use Rattle.mt_scan.specs.Listed.{list_of}
use Rattle.mt_scan.specs.Scan.{ScanView, HoldsKey, HoldsKeys, VisitsList, outcome_of}
use Rattle.mt_scan.specs.declared.scan.ScanMove.{ScanMove}
use Rattle.mt_scan.specs.declared.scan.ScanMove.TheVariants.{Done, To as VisitedTo, Top}
use Rattle.mt_steps.specs.Reader.{MayRead, IsReader, wants}
use Rattle.mt_steps.specs.Listing.{Listing}
use Rattle.mt_steps.specs.declared.reader.Reader.TheVariants.{Begins}
use Rattle.mt_steps.specs.Listing.{ListReading}
use Rattle.mt_steps.specs.declared.reader.Reading.TheVariants.{Restarts, Repeats, GoesOn, To, Finds}
use Rattle.mt_steps.specs.declared.progress.Progress.{Progress}
use Rattle.mt_steps.specs.declared.progress.Progress.TheVariants.{Moved, Waits}
use Rattle.mt_steps.specs.declared.ranging.Range.{Range}
use Rattle.mt_steps.specs.World.{World, IsWorld, IsKeyPlace, AreOfKeys}
use Rattle.mt_steps.specs.Step.{StepLaw, MayStep, nothing}
use Rattle.mt_steps.specs.Standing.{Lends}
use Rattle.mt_steps.specs.Listing.{list_reading, ListReads, ListLeads, IsReadList}
use Rattle.mt_steps.specs.Ranging.{range_request, RangeIsTrue, RangeScans, RangeDoes, RangeReads, ListHasKeys, ScanEnds, unread, restarted}
use Rattle.mt_steps.proofs.ListSteps.{list_leads, list_within, list_may_read, list_node}
use Rattle.mt_steps.proofs.RangeLemmas.{all_from, holds_row, in_order, range_waits, range_fails, moves_by, repeats_by, reads_by, goes_by, tops_by, answers_by}
use Rattle.mt_steps.specs.declared.listing.Listed.{Listed}

-- ---- the rows of what was read are those of keys
stood_key : (show : Row → Row) (arenas : List Arena) → AreOfKeys arenas → (place : Place) (row : Row) → Stood show arenas place row → IsKeyPlace place
stood_key show [] keys place row stood = absurd stood
stood_key show (arena ∷ past) keys place row (inl (own, has, is)) = keys arena first place own has
stood_key show (arena ∷ past) keys place row (inr before) = stood_key show past (λ other i. keys other (later i)) place row before

pub read_keys : (show : Row → Row) (prefix : List ℕ) (slice begun : ℕ) (arenas : List Arena) (w : World) (listed : Listed) → AreOfKeys arenas → IsReadList show prefix slice begun arenas w listed → HoldsKeys prefix listed.entries
read_keys show prefix slice begun arenas w listed keys read = record { each = all_from (λ (entry : Entry). IsSome (entry_row entry) → HoldsKey prefix entry) listed.entries key }
  where
    key : (entry : Entry) → Among entry listed.entries → IsSome (entry_row entry) → HoldsKey prefix entry
    key entry i some =
        let (row, holds) = holds_row entry.slice entry.content some in
        let k = stood_key show arenas keys (under prefix (entry_place entry)) (show row) (read.list.shown (entry_seen entry) (entry_place entry) row (among_map entry_seen entry listed.entries i) holds) in
        record { key = k.key; bytes = k.bytes; fits = k.fits; place = k.is }

-- ---- the step
module _ (a : ArenaView) (range : Range) (fits : first_slice range.scan.at < 2 ^ 64) where
  abbrev slice : ℕ
  slice = first_slice range.scan.at

  -- where what it reads leads
  abbrev LeadsAt : ListReading → Type 0
  LeadsAt reading = (now begun moves : ℕ) (past : List Arena) (w : World) → IsWorld a now w → RangeIsTrue range begun moves past a w → ListLeads (shown range.columns) range.scan.prefix slice range.node.0 begun past a w reading

  pub range_leads : (part : Part) → Lends a range.node.0 (wants range.listing) part → LeadsAt (list_reading range.listing slice part)
  range_leads part lent now begun moves past w world truth = list_leads (shown range.columns) a now w world begun range.scan.prefix slice range.node.0 past fits truth.scans.held range.listing truth.listing part lent

  -- the visit of what it has read keeps the fact of its scan, or ends with the right answer
  list_comes : (listed : Listed) → LeadsAt (Finds listed) → (visited : ScanMove) (scan : ScanView) → VisitsList range.scan (list_of listed.entries listed.right) visited scan
      → (now begun moves : ℕ) (past : List Arena) (w : World) → IsWorld a now w → RangeIsTrue range begun moves past a w
      → Comes w.chart begun (Stood (shown range.columns) (arena_seen a ∷ past)) (AllHave (arena_seen a ∷ past)) (place_of range.start) range.limit (outcome_of visited scan)
  list_comes listed leads visited scan visits now begun moves past w world truth =
      let read = leads now begun moves past w world truth in
      noted_visits (shown range.columns) w.chart begun (Stood (shown range.columns) (arena_seen a ∷ past)) (AllHave (arena_seen a ∷ past)) (holds_top (arena_seen a) w.chart world.index.tree begun)
      (place_of range.start) range.limit range.scan.prefix range.node.0 range.scan.at (as_places range.scan.taken) truth.scans
      (as_node read.low) read.list (in_order (entries_seen listed.entries) read.in_order) read.from_low read.passes (outcome_of visited scan) (at_own truth.limit truth.asked)
    where
      as_node : ℕ → BorderNode
      as_node low = record { deleted = false; locked = false; low = low; entries = entries_seen listed.entries; right = option_map right_seen listed.right }

      at_own : range.scan.limit ≡ range.limit → range.scan.asked ≡ range.columns → VisitsList (record range.scan { limit = range.limit; asked = range.columns }) (list_of listed.entries listed.right) visited scan
      at_own limit asked = subst (λ (s : ScanView). VisitsList s (list_of listed.entries listed.right) visited scan) (ap (λ (l : ℕ). record range.scan { limit = l }) limit ∙ ap (λ (c : List ℕ). record range.scan { limit = range.limit; asked = c }) asked) visits

  abbrev Law : LogView → Progress → Range → Type 0
  Law log p new = (C : ℕ) → StepLaw C a a log log (range_request range) nothing p nothing (RangeIsTrue range) (RangeIsTrue new)

  at : (log : LogView) (p q : Progress) (new then : Range) → p ≡ q → new ≡ then → Law log q then → Law log p new
  at log p q new then progress is law = subst (λ (x : Progress). Law log x new) (sym progress) (subst (λ (x : Range). Law log q x) (sym is) law)

  scans : (log : LogView) (p : Progress) (new : Range) (listed : Listed) → LeadsAt (Finds listed) → RangeScans (unread range) (list_of listed.entries listed.right) p new → Law log p new
  scans log p new listed leads s = go s.visited refl s.ends
    where
      coming : (now begun moves : ℕ) (past : List Arena) (w : World) → IsWorld a now w → RangeIsTrue range begun moves past a w
          → Comes w.chart begun (Stood (shown range.columns) (arena_seen a ∷ past)) (AllHave (arena_seen a ∷ past)) (place_of range.start) range.limit (outcome_of s.visited s.scan)
      coming = list_comes listed leads s.visited s.scan s.visits

      go : (visited : ScanMove) → s.visited ≡ visited → ScanEnds (unread range) s.scan visited p new → Law log p new
      go Done is (progress, bytes) = subst (λ (x : Progress). Law log x new) (sym progress) (answers_by a range s.visited s.scan coming is s.scan.taken refl bytes new log)
      go (VisitedTo next) is (progress, then) = at log p Moved new _ progress then (goes_by a range s.visited s.scan coming s.limit s.asked next is log)
      go Top is (progress, then) = at log p Moved new _ progress then (tops_by a range s.visited s.scan coming s.limit s.asked s.home is log)

  does : (log : LogView) (p : Progress) (new : Range) (reading : ListReading) → LeadsAt reading → RangeDoes (unread range) reading p new → Law log p new
  does log p new Restarts leads (progress, is) = at log p Waits new _ progress is (range_waits a range (restarted range.scan) refl log)
  does log p new Repeats leads (progress, is) = at log p Waits new _ progress is (repeats_by a range log)
  does log p new (GoesOn next) leads (progress, is) = at log p Moved new _ progress is (reads_by a range next leads log)
  does log p new (To node) leads (progress, is) = at log p Moved new _ progress is (moves_by a range node leads log)
  does log p new (Finds listed) leads (inl refused) = subst (λ (x : Progress). Law log x new) (sym refused) (range_fails a range new log)
  does log p new (Finds listed) leads (inr s) = scans log p new listed leads s

  pub range_reads : (log : LogView) (p : Progress) (new : Range) → RangeReads a range p new → Law log p new
  range_reads log p new reads = elim reads.does [
    | inl refused ↦ subst (λ (x : Progress). Law log x new) (sym refused.0) (range_fails a range new log)
    | inr done ↦ does log p new (list_reading range.listing slice reads.part) (range_leads reads.part reads.lent) done
  ]

  -- ---- what its step asks
  module _ (log : LogView) (may : MayStep a log nothing (RangeIsTrue range)) where
    pub range_there : IsSome (node_at a.nodes range.node.0)
    range_there = list_node (shown range.columns) a may.now may.w may.world may.begun range.scan.prefix slice range.node.0 may.past fits may.true.scans.held

    pub range_listing : IsReader range.listing
    range_listing = list_within (shown range.columns) a may.now may.w may.world may.begun range.scan.prefix slice range.node.0 may.past fits may.true.scans.held range.listing may.true.listing

    pub range_may_read : MayRead a range.node.0 slice range.listing
    range_may_read = list_may_read (shown range.columns) a may.now may.w may.world may.begun range.scan.prefix slice range.node.0 may.past fits may.true.scans.held range.listing may.true.listing

    pub range_list_keys : (result : Result ListReading NoMemoryError) → ListReads a range.node.0 slice range.listing result → (reading : ListReading) → result ≡ Ok reading → ListHasKeys range.scan.prefix reading
    range_list_keys result reads reading is =
        let done = subst (λ (r : Result ListReading NoMemoryError). IfOk r (λ x. x ≡ list_reading range.listing slice reads.part)) is reads.does in
        subst (λ (r : ListReading). ListHasKeys range.scan.prefix r) (sym done) (go (list_reading range.listing slice reads.part) (range_leads reads.part reads.lent may.now may.begun may.moves may.past may.w may.world may.true))
      where
        go : (reading : ListReading) → ListLeads (shown range.columns) range.scan.prefix slice range.node.0 may.begun may.past a may.w reading → ListHasKeys range.scan.prefix reading
        go Restarts leads = tt
        go Repeats leads = tt
        go (GoesOn next) leads = tt
        go (To node) leads = tt
        go (Finds listed) leads = read_keys (shown range.columns) range.scan.prefix slice may.begun (arena_seen a ∷ may.past) may.w listed may.true.keys leads

-- ---- as the code has it: the slice, what it had read, and its reading, each by its name
module _ (a : ArenaView) (range : Range) (slice : ℕ) (is_slice : slice ≡ first_slice range.scan.at) (fits : slice < 2 ^ 64) (listing : Listing) (is_listing : listing ≡ range.listing) where
  own_fits : first_slice range.scan.at < 2 ^ 64
  own_fits = subst (λ (s : ℕ). s < 2 ^ 64) is_slice fits

  pub asks_listing : (log : LogView) → MayStep a log nothing (RangeIsTrue range) → IsReader listing
  asks_listing log may = subst IsReader (sym is_listing) (range_listing a range own_fits log may)

  pub asks_may : (log : LogView) → MayStep a log nothing (RangeIsTrue range) → MayRead a range.node.0 slice listing
  asks_may log may = subst (λ (s : ℕ). MayRead a range.node.0 s listing) (sym is_slice) (subst (λ (l : Listing). MayRead a range.node.0 (first_slice range.scan.at) l) (sym is_listing) (range_may_read a range own_fits log may))

  pub asks_node : (log : LogView) → MayStep a log nothing (RangeIsTrue range) → IsSome (node_at a.nodes range.node.0)
  asks_node log may = range_there a range own_fits log may

  module _ (result : Result ListReading NoMemoryError) (reads : ListReads a range.node.0 slice listing result) where
    own_reads : ListReads a range.node.0 (first_slice range.scan.at) range.listing result
    own_reads = subst (λ (s : ℕ). ListReads a range.node.0 s range.listing result) is_slice (subst (λ (l : Listing). ListReads a range.node.0 slice l result) is_listing reads)

    pub asks_keys : (log : LogView) → MayStep a log nothing (RangeIsTrue range) → (reading : ListReading) → result ≡ Ok reading → ListHasKeys range.scan.prefix reading
    asks_keys log may = range_list_keys a range own_fits log may result own_reads

    pub reads_does : (reading : ListReading) → result ≡ Ok reading → (dest : Listing) → dest ≡ Begins → (p : Progress) (new : Range) → RangeDoes (record range { listing = dest }) reading p new → RangeReads a range p new
    reads_does reading is dest begins p new done =
        let same = subst (λ (r : Result ListReading NoMemoryError). IfOk r (λ x. x ≡ list_reading range.listing (first_slice range.scan.at) own_reads.part)) is own_reads.does in
        let unread_does = subst (λ (l : Listing). RangeDoes (record range { listing = l }) reading p new) begins done in
        record { part = own_reads.part; fits = own_fits; lent = own_reads.lent; does = inr (subst (λ (r : ListReading). RangeDoes (unread range) r p new) same unread_does) }

    pub steps_on : (reading : ListReading) → result ≡ Ok reading → (dest : Listing) → dest ≡ Begins → (p : Progress) (new : Range) → RangeDoes (record range { listing = dest }) reading p new
        → (C : ℕ) (log : LogView) → StepLaw C a a log log (range_request range) nothing p nothing (RangeIsTrue range) (RangeIsTrue new)
    steps_on reading is dest begins p new done C log = range_reads a range own_fits log p new (reads_does reading is dest begins p new done) C
