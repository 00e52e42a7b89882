-- A build that runs alone: each node that its scan comes to is on, it doesn't wait, and with each step what is left of it
-- falls.
use Rattle.std.proofs.Common.{ℕ, ◌≡◌, ◌<◌, ◌+◌, ◌-◌, inl, inr, List, [], ◌∷◌, Option, Some, None, refl, sym, ap, subst, ◌∙◌, arith}
use Rattle.mt_types.specs.Rows.{shown}
use Rattle.mt_types.specs.declared.numbers.NodeNo.{NodeNo}
use Rattle.mt_types.specs.declared.refusal.Refusal.TheVariants.{NoMemory}
use Rattle.mt_slice.specs.Place.{first_slice}
use Rattle.mt_commit.specs.Log.{LogView, newest}
use Rattle.mt_arena.specs.Arena.{ArenaView}
use Rattle.mt_chart.specs.Tree.{Arena}
use Rattle.mt_chart.specs.Walk.{Moves}
use Rattle.mt_tree.specs.Seen.{arena_seen}
use Rattle.mt_scan.specs.Listed.{list_of}
use Rattle.mt_scan.specs.Onward.{LeadsOn}
use Rattle.mt_scan.specs.declared.scan.ScanMove.{ScanMove}
use Rattle.mt_scan.specs.declared.scan.ScanMove.TheVariants.{Done, To, Top}
use Rattle.mt_works.specs.Build.{BuildView, build_cursor}
use Rattle.mt_view.specs.State.{StateView}
use Rattle.mt_steps.specs.declared.progress.Progress.{Progress}
use Rattle.mt_steps.specs.declared.progress.Progress.TheVariants.{Moved, Waits, Refused}
use Rattle.mt_steps.specs.Listing.{Listing}
use Rattle.mt_steps.specs.declared.reader.Reader.TheVariants.{Begins}
use Rattle.mt_steps.specs.Listing.{ListReading}
use Rattle.mt_steps.specs.declared.reader.Reading.TheVariants.{Restarts, Repeats, GoesOn as ReadsOn, To as ReadTo, Finds}
use Rattle.mt_steps.specs.World.{World, IsWorld, IsTaken}
use Rattle.mt_steps.specs.Way.{start}
use Rattle.mt_steps.specs.Listing.{list_reading, ListLeads, IsReadList}
use Rattle.mt_steps.specs.Ranging.{ScanGoes}
use Rattle.mt_steps.proofs.LoneListing.{ListStands, ListGoes, list_left}
use Rattle.mt_steps.proofs.LoneRange.{ScanStands, scan_left, reading_left, field_falls, node_falls, scan_reads, scan_nearer_in}
use Rattle.mt_steps.proofs.RangeLemmas.{scans_on, scans_top}
use Rattle.mt_works.specs.declared.building.Building.{Building}
use Rattle.mt_works.specs.Building.{ScansOn, ScanIsTrue, BuildingIsTrue, BuildReads, BuildDoes, BuildLists, BuildFollows, FollowsBy, BuildWaits, WaitsBy, ListEnds, unread}
use Rattle.mt_works.proofs.BuildSteps.{build_leads}
use Rattle.mt_steps.specs.declared.listing.Listed.{Listed}

-- while it scans, its node is on, in the layer of its scan, and it has noted what the border there has
abbrev pub StandsBy : Option ℕ → ArenaView → World → ℕ → BuildView → Listing → Type 0
StandsBy None a w number build listing = ScanStands w.chart number build.prefix × ListStands a number listing
StandsBy (Some upto) a w number build listing = Unit {0}

abbrev pub build_stands : ArenaView → World → Building → Type 0
build_stands a w building = StandsBy building.upto a w building.node.0 building.build building.listing

-- once it has scanned all, it has a delta to take
abbrev pub HasToTake : Option ℕ → ℕ → Type 0
HasToTake None at = Unit {0}
HasToTake (Some upto) at = at < upto

-- WHAT IS LEFT: of its scan, and the deltas up to that of the newest commit; once it has scanned all, the deltas that it
-- is to take
abbrev pub left_by : Option ℕ → ArenaView → ℕ → ℕ → BuildView → Listing → ℕ
left_by None a commits number build listing = reading_left a number (build_cursor build) listing + ((commits - build.state.at) + 1)
left_by (Some upto) a commits number build listing = upto - build.state.at

abbrev pub build_left : ArenaView → ℕ → Building → ℕ
build_left a commits building = left_by building.upto a commits building.node.0 building.build building.listing

-- ---- while it scans
module _ (a : ArenaView) (log : LogView) (now begun moves : ℕ) (past : List Arena) (w : World) (old new : Building) (world : IsWorld a now w) (scanning : old.upto ≡ None) (truth : ScanIsTrue old.build old.node.0 old.listing begun past a w)
    (stands : ScanStands w.chart old.node.0 old.build.prefix) (noted : ListStands a old.node.0 old.listing) (free : (other : ℕ) → IsTaken a w other → ⊥) where
  goes : (p : Progress) → (reads : BuildReads a log old p new) → ListGoes a old.node.0 old.listing (list_reading old.listing (first_slice old.build.at) reads.part)
  goes p reads = scan_reads (shown []) a now w world begun old.build.prefix (first_slice old.build.at) old.node.0 past reads.fits truth.scans.held free stands old.listing truth.reads noted reads.part reads.lent

  -- it doesn't wait
  pub scan_waits_not : BuildReads a log old Waits new → ⊥
  scan_waits_not reads = elim reads.does [
    | inl refused ↦ (let clash : Waits ≡ Refused NoMemory = refused.0 in cc)
    | inr done ↦ go (list_reading old.listing (first_slice old.build.at) reads.part) (goes Waits reads) done
  ]
    where
      go : (reading : ListReading) → ListGoes a old.node.0 old.listing reading → BuildDoes log (unread old) reading Waits new → ⊥
      go Restarts never done = never
      go Repeats never done = never
      go (ReadsOn next) near (is, then) = (let clash : Waits ≡ Moved = is in cc)
      go (ReadTo node) move (is, then) = (let clash : Waits ≡ Moved = is in cc)
      go (Finds listed) leads (inl refused) = (let clash : Waits ≡ Refused NoMemory = refused in cc)
      go (Finds listed) leads (inr (is, s)) = (let clash : Waits ≡ Moved = is in cc)

  -- and what is left of it falls
  module _ (next : World) (same : (number : ℕ) → next.chart number ≡ w.chart number) (then : ℕ) (since : List Arena) where
    abbrev Nearer : Building → Type 0
    Nearer x = ScansOn x.upto x.build x.node.0 x.listing then since a next → build_stands a next x × (build_left a (newest log) x < build_left a (newest log) old)

    -- it has not scanned all yet
    abbrev scans_still : BuildView → NodeNo → Listing → Building
    scans_still view node listing = record { build = view; node = node; upto = None; listing = listing }

    less : (x : Building) → build_left a (newest log) x < left_by None a (newest log) old.node.0 old.build old.listing → build_left a (newest log) x < build_left a (newest log) old
    less x = subst (λ (u : Option ℕ). build_left a (newest log) x < left_by u a (newest log) old.node.0 old.build old.listing) (sym scanning)

    on_there : (next_node : NodeNo) (view : BuildView) → view.state.at ≡ old.build.state.at → ScanGoes a old.node.0 next_node.0 (build_cursor old.build) (build_cursor view) → Nearer (scans_still view next_node Begins)
    on_there next_node view at goes_on true_then =
        let (there, falls) = scan_nearer_in a now w next world same old.node.0 next_node.0 begun then (first_slice view.at) (build_cursor old.build) (build_cursor view) stands truth.scans.held goes_on true_then.scans.held in
        let further = node_falls (scan_left a old.node.0 (build_cursor old.build)) (scan_left a next_node.0 (build_cursor view)) 40 (list_left old.listing) falls (omega arith) in
        ((there, tt), less (scans_still view next_node Begins) (omega (arith, further, at)))

    -- the same, as the code has it
    pub at : (x then_is : Building) → x ≡ then_is → Nearer then_is → Nearer x
    at x then_is is nearer = subst Nearer (sym is) nearer

    as_scanning : (view : BuildView) (node : NodeNo) (listing : Listing) → Nearer (scans_still view node listing) → Nearer (record { build = view; node = node; upto = old.upto; listing = listing })
    as_scanning view node listing nearer = subst (λ (u : Option ℕ). Nearer (record { build = view; node = node; upto = u; listing = listing })) (sym scanning) nearer

    pub scan_nearer : BuildReads a log old Moved new → Nearer new
    scan_nearer reads = elim reads.does [
      | inl refused ↦ absurd (let clash : Moved ≡ Refused NoMemory = refused.0 in cc)
      | inr done ↦ go (list_reading old.listing (first_slice old.build.at) reads.part) (goes Moved reads) (build_leads a log old scanning reads.fits reads.part reads.lent now begun past w world truth) done
    ]
      where
        lists : (listed : Listed) → IsReadList (shown []) old.build.prefix (first_slice old.build.at) begun (arena_seen a ∷ past) w listed
            → ((other : ℕ) → LeadsOn (list_of listed.entries listed.right) other → Moves (arena_seen a) old.node.0 other) → (s : BuildLists log (unread old) (list_of listed.entries listed.right) new) → (visited : ScanMove) → s.visited ≡ visited → ListEnds log (unread old) s.view visited new → Nearer new
        lists listed read leads s (To there) is then_is =
            at new (record { build = s.view; node = there; upto = old.upto; listing = Begins }) then_is (as_scanning s.view there Begins (on_there there s.view (ap (λ (v : StateView). v.at) s.keeps)
            (inr (scans_on a old.node.0 (list_of listed.entries listed.right) (build_cursor old.build) (build_cursor s.view) s.visited read.passes leads s.leads s.onward s.within reads.lent.arena there is))))
        lists listed read leads s Top is then_is =
            at new (record { build = s.view; node = start.node; upto = old.upto; listing = Begins }) then_is (as_scanning s.view start.node Begins (on_there start.node s.view (ap (λ (v : StateView). v.at) s.keeps)
            (inr (scans_top a old.node.0 (list_of listed.entries listed.right) (build_cursor old.build) (build_cursor s.view) s.visited read.passes leads s.leads s.onward s.within reads.lent.arena is))))
        lists listed read leads s Done is then_is =
            at new (record { build = s.view; node = old.node; upto = Some (newest log); listing = Begins }) then_is (λ true_then.
            let kept : s.view.state.at ≡ old.build.state.at = ap (λ (v : StateView). v.at) s.keeps in
            (tt, less (record { build = s.view; node = old.node; upto = Some (newest log); listing = Begins }) (omega (arith, kept))))

        go : (reading : ListReading) → ListGoes a old.node.0 old.listing reading → ListLeads (shown []) old.build.prefix (first_slice old.build.at) old.node.0 begun past a w reading → BuildDoes log (unread old) reading Moved new → Nearer new
        go Restarts never leads done = absurd never
        go Repeats never leads done = absurd never
        go (ReadsOn listing) (fewer, noted_then) leads (moved, is) = at new (record { build = old.build; node = old.node; upto = old.upto; listing = listing }) is (as_scanning old.build old.node listing (λ true_then.
            let further = field_falls (scan_left a old.node.0 (build_cursor old.build)) (list_left listing) (list_left old.listing) fewer in (
              (record { role = stands.role; low = stands.low; posted = stands.posted; place = same old.node.0 ∙ stands.place }, noted_then),
              less (scans_still old.build old.node listing) (omega (arith, further)),
            )))
        go (ReadTo node) move leads (moved, is) =
            at new (record { build = old.build; node = node; upto = old.upto; listing = Begins }) is (as_scanning old.build node Begins (on_there node old.build refl (inl (record { fits = reads.fits; moves = move }, refl))))
        go (Finds listed) moves_on leads (inl refused) = absurd (let clash : Moved ≡ Refused NoMemory = refused in cc)
        go (Finds listed) moves_on leads (inr (moved, s)) = lists listed leads moves_on s s.visited refl s.ends

-- ---- a step
module _ (a : ArenaView) (log : LogView) (now begun moves : ℕ) (past : List Arena) (w : World) (old new : Building) (world : IsWorld a now w) (truth : BuildingIsTrue old begun moves past a w) (stands : build_stands a w old)
    (free : (other : ℕ) → IsTaken a w other → ⊥) where
  pub lone_build_waits_not : BuildFollows a log old Waits new → BuildWaits a old Waits → ⊥
  lone_build_waits_not follows waits = go old.upto refl stands truth follows waits
    where
      go : (upto : Option ℕ) → old.upto ≡ upto → StandsBy upto a w old.node.0 old.build old.listing → ScansOn upto old.build old.node.0 old.listing begun past a w → FollowsBy a log upto old Waits new → WaitsBy a old.node.0 old.listing upto Waits → ⊥
      go None is stood true_so reads waits = scan_waits_not a log now begun moves past w old new world is true_so stood.0 stood.1 free reads
      go (Some upto) is stood true_so takes waits = waits

  -- WITH EACH STEP OF A BUILD THAT RUNS ALONE what is left of it falls
  pub lone_build_nearer : BuildFollows a log old Moved new → HasToTake old.upto old.build.state.at → (next : World) → ((number : ℕ) → next.chart number ≡ w.chart number) → (then made : ℕ) (since : List Arena) → BuildingIsTrue new then made since a next
      → build_stands a next new × (build_left a (newest log) new < build_left a (newest log) old)
  lone_build_nearer follows has next same then made since true_then = go old.upto refl stands truth follows has
    where
      go : (upto : Option ℕ) → old.upto ≡ upto → StandsBy upto a w old.node.0 old.build old.listing → ScansOn upto old.build old.node.0 old.listing begun past a w → FollowsBy a log upto old Moved new → HasToTake upto old.build.state.at
          → build_stands a next new × (build_left a (newest log) new < build_left a (newest log) old)
      go None is stood true_so reads has = scan_nearer a log now begun moves past w old new world is true_so stood.0 stood.1 free next same then since reads true_then
      go (Some upto) is stood true_so (still, at) has = (
        subst (λ (u : Option ℕ). StandsBy u a next new.node.0 new.build new.listing) (sym still) tt,
        subst (λ (u : Option ℕ). left_by u a (newest log) new.node.0 new.build new.listing < build_left a (newest log) old) (sym still)
            (subst (λ (u : Option ℕ). upto - new.build.state.at < left_by u a (newest log) old.node.0 old.build old.listing) (sym is) (omega (arith, at, has))),
      )
