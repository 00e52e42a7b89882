-- The step of a build that reads one field: its law, by what it is lent.
use Rattle.std.proofs.Common.{ℕ, ◌≡◌, ◌<◌, ◌^◌, inl, inr, List, [], ◌∷◌, Option, Some, None, IsSome, refl, sym, subst}
use Rattle.std.specs.Prelude.{Result, Ok, IfOk}
use Rattle.mt_types.specs.Rows.{shown}
use Rattle.mt_types.specs.declared.refusal.NoMemory.{NoMemory as NoMemoryError}
use Rattle.mt_types.specs.declared.numbers.NodeNo.{NodeNo}
use Rattle.mt_slice.specs.Place.{first_slice}
use Rattle.mt_commit.specs.Log.{LogView, newest}
use Rattle.mt_border.specs.declared.entry.Entry.{Entry}
use Rattle.mt_border.specs.declared.entry.RightLink.{RightLink}
use Rattle.mt_arena.specs.Arena.{ArenaView}
use Rattle.mt_arena.specs.Node.{node_at}
use Rattle.mt_arena.specs.declared.part.Part.{Part}
use Rattle.mt_chart.specs.Tree.{Arena}
use Rattle.mt_chart.proofs.Ranges.{holds_top}
use Rattle.mt_tree.specs.Seen.{arena_seen}
use Rattle.mt_scan.specs.Listed.{list_of}
use Rattle.mt_scan.specs.Onward.{GoesFrom, GoesOnward, all_cursors, cursor_of}
use Rattle.mt_scan.specs.declared.scan.ScanMove.{ScanMove}
use Rattle.mt_scan.specs.declared.scan.ScanMove.TheVariants.{Done, To as VisitedTo, Top}
use Rattle.mt_works.specs.Build.{BuildView, build_cursor, ComesTo, VisitsOn}
use Rattle.mt_works.proofs.ReadLemmas.{restarts_keep, ways_keep}
use Rattle.mt_steps.specs.Reader.{MayRead, IsReader, wants}
use Rattle.mt_steps.specs.Listing.{Listing}
use Rattle.mt_steps.specs.declared.reader.Reader.TheVariants.{Begins}
use Rattle.mt_steps.specs.Listing.{ListReading}
use Rattle.mt_steps.specs.declared.reader.Reading.TheVariants.{Restarts, Repeats, GoesOn as ReadsOn, To, Finds}
use Rattle.mt_steps.specs.declared.progress.Progress.{Progress}
use Rattle.mt_steps.specs.declared.progress.Progress.TheVariants.{Moved, Waits}
use Rattle.mt_steps.specs.World.{World, IsWorld}
use Rattle.mt_steps.specs.Step.{MayStep, nothing}
use Rattle.mt_steps.specs.Standing.{Lends}
use Rattle.mt_steps.specs.Listing.{list_reading, ListReads, ListLeads}
use Rattle.mt_steps.proofs.ListSteps.{list_leads, list_within, list_may_read, list_node}
use Rattle.mt_steps.proofs.RangeSteps.{read_keys}
use Rattle.mt_steps.proofs.RangeLemmas.{keys_again}
use Rattle.mt_works.specs.declared.building.Building.{Building}
use Rattle.mt_works.specs.Building.{BuildingIsTrue, BuildingLaw, ScanIsTrue, ScansOn, KeepsView, GoesOn, BuildsOn, BuildLists, ListEnds, BuildDoes, BuildReads, MayScan, unread, resumed}
use Rattle.mt_works.proofs.BuildingLemmas.{later, unread_true, as_truth, build_moves, build_waits, build_fails, scans_on, has_scanned}
use Rattle.mt_steps.specs.declared.listing.Listed.{Listed}

module _ (a : ArenaView) (log : LogView) (old : Building) (scanning : old.upto ≡ None) (fits : first_slice old.build.at < 2 ^ 64) where
  abbrev slice : ℕ
  slice = first_slice old.build.at

  -- where what it reads leads
  abbrev LeadsAt : ListReading → Type 0
  LeadsAt reading = (now begun : ℕ) (past : List Arena) (w : World) → IsWorld a now w → ScanIsTrue old.build old.node.0 old.listing begun past a w → ListLeads (shown []) old.build.prefix slice old.node.0 begun past a w reading

  pub build_leads : (part : Part) → Lends a old.node.0 (wants old.listing) part → LeadsAt (list_reading old.listing slice part)
  build_leads part lent now begun past w world truth = list_leads (shown []) a now w world begun old.build.prefix slice old.node.0 past fits truth.scans.held old.listing truth.reads part lent

  -- the visit of what it has read
  list_comes : (listed : Listed) → LeadsAt (Finds listed) → (visited : ScanMove) (view : BuildView) → VisitsOn old.build (list_of listed.entries listed.right) visited view
      → (now begun : ℕ) (past : List Arena) (w : World) → IsWorld a now w → ScanIsTrue old.build old.node.0 old.listing begun past a w → ComesTo w.chart begun (arena_seen a ∷ past) visited view
  list_comes listed leads visited view visits now begun past w world truth =
      let read = leads now begun past w world truth in
      visits.comes w.chart begun old.node.0 read.low (arena_seen a ∷ past) (holds_top (arena_seen a) w.chart world.index.tree begun) read.list read.in_order read.from_low read.passes truth.scans

  abbrev Law : Progress → Building → Type 0
  Law p new = (C : ℕ) → BuildingLaw C a log old p new

  abbrev Says : Building → Type 0
  Says new = GoesOn a log old.upto old.build old.node.0 old.listing new.upto new.build

  at : (p q : Progress) (new then : Building) → p ≡ q → new ≡ then → Law q then → Law p new
  at p q new then progress is law = subst (λ (x : Progress). Law x new) (sym progress) (subst (λ (x : Building). Law q x) (sym is) law)

  -- while it scans, its truth is that of its scan and its listing
  scanning_true : (view : BuildView) (node : NodeNo) (listing : Listing) (begun : ℕ) (past : List Arena) (w : World) → ScanIsTrue view node.0 listing begun (arena_seen a ∷ past) a w
      → BuildingIsTrue (record { build = view; node = node; upto = old.upto; listing = listing }) begun 0 (arena_seen a ∷ past) a w
  scanning_true view node listing begun past w truth = subst (λ (u : Option ℕ). ScansOn u view node.0 listing begun (arena_seen a ∷ past) a w) (sym scanning) truth

  abbrev own : (begun moves : ℕ) (past : List Arena) (w : World) → BuildingIsTrue old begun moves past a w → ScanIsTrue old.build old.node.0 old.listing begun past a w
  own begun moves past w truth = as_truth a old scanning begun moves past w truth

  -- ---- what its law is
  lists : (p : Progress) (new : Building) (listed : Listed) → LeadsAt (Finds listed) → p ≡ Moved → BuildLists log (unread old) (list_of listed.entries listed.right) new → Law p new
  lists p new listed leads progress s = go s.visited refl s.ends
    where
      coming : (now begun moves : ℕ) (past : List Arena) (w : World) → IsWorld a now w → BuildingIsTrue old begun moves past a w → ComesTo w.chart begun (arena_seen a ∷ past) s.visited s.view
      coming now begun moves past w world truth = list_comes listed leads s.visited s.view s.visits now begun past w world (own begun moves past w truth)

      go : (visited : ScanMove) → s.visited ≡ visited → ListEnds log (unread old) s.view visited new → Law p new
      go (VisitedTo next) is then = at p Moved new _ progress then (build_moves a log old (record { build = s.view; node = next; upto = old.upto; listing = Begins })
          (λ now begun moves more past w world truth. scanning_true s.view next Begins begun past w
          (unread_true a w begun next.0 past s.view (own begun moves past w truth).keys (subst (λ (v : ScanMove). ComesTo w.chart begun (arena_seen a ∷ past) v s.view) is (coming now begun moves past w world truth)))))
      go Top is then = at p Moved new _ progress then (build_moves a log old (record { build = s.view; node = record { 0 = 0 }; upto = old.upto; listing = Begins })
          (λ now begun moves more past w world truth. scanning_true s.view (record { 0 = 0 }) Begins begun past w
          (unread_true a w begun 0 past s.view (own begun moves past w truth).keys (subst (λ (v : ScanMove). ComesTo w.chart begun (arena_seen a ∷ past) v s.view) is (coming now begun moves past w world truth)))))
      go Done is then = at p Moved new _ progress then (build_moves a log old (record { build = s.view; node = old.node; upto = Some (newest log); listing = Begins }) (λ now begun moves more past w world truth. tt))

  does : (p : Progress) (new : Building) (reading : ListReading) → LeadsAt reading → BuildDoes log (unread old) reading p new → Law p new
  does p new Restarts leads (progress, is) = at p Waits new _ progress is (build_waits a log old (record { build = resumed old.build; node = record { 0 = 0 }; upto = old.upto; listing = Begins })
      (λ now begun moves more past w world truth. scanning_true (resumed old.build) (record { 0 = 0 }) Begins begun past w
      (unread_true a w begun 0 past (resumed old.build) (own begun moves past w truth).keys (restarts_keep w.chart begun old.node.0 (arena_seen a) (arena_seen a ∷ past) old.build world.index.tree (own begun moves past w truth).scans))))
  does p new Repeats leads (progress, is) = at p Waits new _ progress is (build_waits a log old (unread old)
      (λ now begun moves more past w world truth. scanning_true old.build old.node Begins begun past w (unread_true a w begun old.node.0 past old.build (own begun moves past w truth).keys (own begun moves past w truth).scans)))
  does p new (ReadsOn next) leads (progress, is) = at p Moved new _ progress is (build_moves a log old (record old { listing = next })
      (λ now begun moves more past w world truth.
      let truth = own begun moves past w truth in
      scanning_true old.build old.node next begun past w (record { scans = later w begun old.node.0 (arena_seen a) past old.build truth.scans; keys = keys_again a past truth.keys; reads = leads now begun past w world truth })))
  does p new (To node) leads (progress, is) = at p Moved new _ progress is (build_moves a log old (record { build = old.build; node = node; upto = old.upto; listing = Begins })
      (λ now begun moves more past w world truth.
      let truth = own begun moves past w truth in
      scanning_true old.build node Begins begun past w (unread_true a w begun node.0 past old.build truth.keys (ways_keep w.chart begun old.node.0 node.0 (arena_seen a ∷ past) old.build (leads now begun past w world truth) truth.scans))))
  does p new (Finds listed) leads (inl refused) = subst (λ (x : Progress). Law x new) (sym refused) (build_fails a log old new)
  does p new (Finds listed) leads (inr (progress, s)) = lists p new listed leads progress s

  pub build_reads : (p : Progress) (new : Building) → BuildReads a log old p new → Law p new
  build_reads p new reads = elim reads.does [
    | inl refused ↦ subst (λ (x : Progress). Law x new) (sym refused.0) (build_fails a log old new)
    | inr done ↦ does p new (list_reading old.listing slice reads.part) (build_leads reads.part reads.lent) done
  ]

  -- ---- what is done to its view
  keeps : (new : Building) → new.upto ≡ old.upto → KeepsView old.build.state new.build.state → Says new
  keeps new same kept = subst (λ (u : Option ℕ). GoesOn a log old.upto old.build old.node.0 old.listing u new.build) (sym same) (scans_on a log old scanning new.build kept)

  says_lists : (new : Building) (listed : Listed) → LeadsAt (Finds listed) → BuildLists log (unread old) (list_of listed.entries listed.right) new → Says new
  says_lists new listed leads s = go s.visited refl s.ends
    where
      go : (visited : ScanMove) → s.visited ≡ visited → ListEnds log (unread old) s.view visited new → Says new
      go (VisitedTo next) is then = subst Says (sym then) (keeps (record { build = s.view; node = next; upto = old.upto; listing = Begins }) refl s.keeps)
      go Top is then = subst Says (sym then) (keeps (record { build = s.view; node = record { 0 = 0 }; upto = old.upto; listing = Begins }) refl s.keeps)
      go Done is then = subst Says (sym then) (has_scanned a log old scanning (newest log) s.view refl s.keeps
          (λ now begun past w world truth. subst (λ (v : ScanMove). ComesTo w.chart begun (arena_seen a ∷ past) v s.view) is (list_comes listed leads s.visited s.view s.visits now begun past w world truth)))

  says : (p : Progress) (new : Building) (reading : ListReading) → LeadsAt reading → BuildDoes log (unread old) reading p new → BuildsOn a log old p new
  says p new Restarts leads (progress, is) = subst (λ (x : Progress). BuildsOn a log old x new) (sym progress) (subst Says (sym is) (keeps (record { build = resumed old.build; node = record { 0 = 0 }; upto = old.upto; listing = Begins }) refl refl))
  says p new Repeats leads (progress, is) = subst (λ (x : Progress). BuildsOn a log old x new) (sym progress) (subst Says (sym is) (keeps (unread old) refl refl))
  says p new (ReadsOn next) leads (progress, is) = subst (λ (x : Progress). BuildsOn a log old x new) (sym progress) (subst Says (sym is) (keeps (record old { listing = next }) refl refl))
  says p new (To node) leads (progress, is) = subst (λ (x : Progress). BuildsOn a log old x new) (sym progress) (subst Says (sym is) (keeps (record { build = old.build; node = node; upto = old.upto; listing = Begins }) refl refl))
  says p new (Finds listed) leads (inl refused) = subst (λ (x : Progress). BuildsOn a log old x new) (sym refused) tt
  says p new (Finds listed) leads (inr (progress, s)) = subst (λ (x : Progress). BuildsOn a log old x new) (sym progress) (says_lists new listed leads s)

  pub build_says : (p : Progress) (new : Building) → BuildReads a log old p new → BuildsOn a log old p new
  build_says p new reads = elim reads.does [
    | inl refused ↦ subst (λ (x : Progress). BuildsOn a log old x new) (sym refused.0) tt
    | inr done ↦ says p new (list_reading old.listing slice reads.part) (build_leads reads.part reads.lent) done
  ]

-- ---- as the code has it: the slice, what it had read, and its reading, each by its name
module _ (a : ArenaView) (log : LogView) (old : Building) (scanning : old.upto ≡ None) (slice : ℕ) (is_slice : slice ≡ first_slice old.build.at) (fits : slice < 2 ^ 64) (listing : Listing) (is_listing : listing ≡ old.listing) where
  own_fits : first_slice old.build.at < 2 ^ 64
  own_fits = subst (λ (s : ℕ). s < 2 ^ 64) is_slice fits

  module _ (may : MayStep a log nothing (BuildingIsTrue old)) where
    truth : ScanIsTrue old.build old.node.0 old.listing may.begun may.past a may.w
    truth = as_truth a old scanning may.begun may.moves may.past may.w may.true

    pub asks_node : IsSome (node_at a.nodes old.node.0)
    asks_node = list_node (shown []) a may.now may.w may.world may.begun old.build.prefix (first_slice old.build.at) old.node.0 may.past own_fits truth.scans.held

    pub asks_listing : IsReader listing
    asks_listing = subst IsReader (sym is_listing) (list_within (shown []) a may.now may.w may.world may.begun old.build.prefix (first_slice old.build.at) old.node.0 may.past own_fits truth.scans.held old.listing truth.reads)

    pub asks_may : MayRead a old.node.0 slice listing
    asks_may = subst (λ (s : ℕ). MayRead a old.node.0 s listing) (sym is_slice) (subst (λ (l : Listing). MayRead a old.node.0 (first_slice old.build.at) l) (sym is_listing)
        (list_may_read (shown []) a may.now may.w may.world may.begun old.build.prefix (first_slice old.build.at) old.node.0 may.past own_fits truth.scans.held old.listing truth.reads))

  module _ (result : Result ListReading NoMemoryError) (reads : ListReads a old.node.0 slice listing result) where
    own_reads : ListReads a old.node.0 (first_slice old.build.at) old.listing result
    own_reads = subst (λ (s : ℕ). ListReads a old.node.0 s old.listing result) is_slice (subst (λ (l : Listing). ListReads a old.node.0 slice l result) is_listing reads)

    same_reading : (reading : ListReading) → result ≡ Ok reading → reading ≡ list_reading old.listing (first_slice old.build.at) own_reads.part
    same_reading reading is = subst (λ (r : Result ListReading NoMemoryError). IfOk r (λ x. x ≡ list_reading old.listing (first_slice old.build.at) own_reads.part)) is own_reads.does

    pub asks_scan : MayStep a log nothing (BuildingIsTrue old) → (reading : ListReading) → result ≡ Ok reading → MayScan old.build.prefix reading
    asks_scan may reading is =
        subst (λ (r : ListReading). MayScan old.build.prefix r) (sym (same_reading reading is))
        (go (list_reading old.listing (first_slice old.build.at) own_reads.part) (build_leads a log old scanning own_fits own_reads.part own_reads.lent may.now may.begun may.past may.w may.world (truth may)))
      where
        go : (reading : ListReading) → ListLeads (shown []) old.build.prefix (first_slice old.build.at) old.node.0 may.begun may.past a may.w reading → MayScan old.build.prefix reading
        go Restarts leads = tt
        go Repeats leads = tt
        go (ReadsOn next) leads = tt
        go (To node) leads = tt
        go (Finds listed) leads = (read_keys (shown []) old.build.prefix (first_slice old.build.at) may.begun (arena_seen a ∷ may.past) may.w listed (truth may).keys leads, leads.few)

    pub reads_does : (reading : ListReading) → result ≡ Ok reading → (dest : Listing) → dest ≡ Begins → (p : Progress) (new : Building) → BuildDoes log (record old { listing = dest }) reading p new → BuildReads a log old p new
    reads_does reading is dest begins p new done =
        let unread_does = subst (λ (l : Listing). BuildDoes log (record old { listing = l }) reading p new) begins done in
        record { part = own_reads.part; fits = own_fits; lent = own_reads.lent; does = inr (subst (λ (r : ListReading). BuildDoes log (unread old) r p new) (same_reading reading is) unread_does) }

    pub steps_on : (reading : ListReading) → result ≡ Ok reading → (dest : Listing) → dest ≡ Begins → (p : Progress) (new : Building) → BuildDoes log (record old { listing = dest }) reading p new → (C : ℕ) → BuildingLaw C a log old p new
    steps_on reading is dest begins p new done = build_reads a log old scanning own_fits p new (reads_does reading is dest begins p new done)

    pub builds_on : (reading : ListReading) → result ≡ Ok reading → (dest : Listing) → dest ≡ Begins → (p : Progress) (new : Building) → BuildDoes log (record old { listing = dest }) reading p new → BuildsOn a log old p new
    builds_on reading is dest begins p new done = build_says a log old scanning own_fits p new (reads_does reading is dest begins p new done)

-- its scan has visited these entries, which it has as a slice
module _ (log : LogView) (old : Building) (entries slice : List Entry) (is : slice ≡ entries) (right : Option RightLink) (visited : ScanMove) (view : BuildView) (visits : VisitsOn old.build (list_of slice right) visited view)
    (keeps : KeepsView old.build.state view.state) (leads : GoesFrom (list_of slice right) visited) (onward : GoesOnward (build_cursor old.build) (list_of slice right) visited (build_cursor view))
    (within : (places : ℕ) → cursor_of places (build_cursor old.build) < all_cursors places) where
  pub lists_so : (move : ScanMove) → visited ≡ move → (new : Building) → ListEnds log old view move new → BuildLists log old (list_of entries right) new
  lists_so move to new ends = record {
    visited = move;
    view = view;
    visits = subst (λ (v : ScanMove). VisitsOn old.build (list_of entries right) v view) to (subst (λ (es : List Entry). VisitsOn old.build (list_of es right) visited view) is visits);
    keeps = keeps;
    leads = subst (λ (v : ScanMove). GoesFrom (list_of entries right) v) to (subst (λ (es : List Entry). GoesFrom (list_of es right) visited) is leads);
    onward = subst (λ (v : ScanMove). GoesOnward (build_cursor old.build) (list_of entries right) v (build_cursor view)) to
        (subst (λ (es : List Entry). GoesOnward (build_cursor old.build) (list_of es right) visited (build_cursor view)) is onward);
    within = within;
    ends = ends;
  }
