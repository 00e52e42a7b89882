-- Ranges and builds that run alone: each node that their scan comes to is on, and with each move what is left falls.
use Rattle.std.proofs.Common.{ℕ, zero, suc, ◌≡◌, ◌<◌, ◌≤◌, ◌+◌, ◌*◌, ◌-◌, ◌^◌, ◌⊎◌, inl, inr, List, [], ◌∷◌, length, Option, Some, Bool, true, refl, sym, ap, subst, ◌∙◌, arith}
use Rattle.std.proofs.Math.Nat.{mul-le-mul_right}
use Rattle.mt_types.specs.declared.limits.TheConstants.{MAX_LEVEL}
use Rattle.mt_slice.specs.Place.{first_slice}
use Rattle.mt_arena.specs.Arena.{ArenaView, IsArena}
use Rattle.mt_chart.specs.Tree.{Arena}
use Rattle.mt_chart.specs.Chart.{Standing, on, Role, top, at_level, Spot, spot, Chart, OnHead, IsTree, Holds}
use Rattle.mt_chart.specs.Walk.{height, below_top, all_heights, Bounded, Run, Known, Moves, Higher, IsOn}
use Rattle.mt_chart.proofs.Alone.{stays_on, on_known, in_range}
use Rattle.mt_chart.proofs.Cursor.{less_than_more}
use Rattle.mt_chart.proofs.Reach.{on_border_at, children_on, first_child_on}
use Rattle.mt_chart.proofs.Rise.{rises, at_height}
use Rattle.mt_chart.proofs.Walk.{run_bound}
use Rattle.mt_tree.specs.Seen.{arena_seen}
use Rattle.mt_scan.specs.Cursor.{CursorView}
use Rattle.mt_scan.specs.Onward.{cursor_in, cursor_of, all_cursors, GetsOn, LeadsOn}
use Rattle.mt_scan.specs.declared.scan.ScanMove.{ScanMove}
use Rattle.mt_scan.specs.declared.scan.ScanMove.TheVariants.{Done, To, Top}
use Rattle.mt_scan.specs.Listed.{list_of}
use Rattle.mt_scan.specs.Scan.{ScanView}
use Rattle.mt_scan.proofs.LeadLemmas.{visit_leads}
use Rattle.mt_steps.specs.Reader.{wants}
use Rattle.mt_steps.specs.declared.progress.Progress.{Progress}
use Rattle.mt_steps.specs.declared.progress.Progress.TheVariants.{Moved, Waits, Answered, Refused}
use Rattle.mt_steps.specs.declared.ranging.Range.{Range}
use Rattle.mt_steps.specs.World.{World, IsWorld, IsTaken}
use Rattle.mt_steps.specs.Standing.{Lends}
use Rattle.mt_steps.specs.Way.{start}
use Rattle.mt_steps.specs.Listing.{list_reading, ListingIsTrue, ListLeads, IsReadList}
use Rattle.mt_steps.specs.Ranging.{RangeIsTrue, SeeksOn, ScansOn, ScanGoes, ScanEnds, RangeScans, RangeDoes, RangeReads, unread}
use Rattle.mt_types.specs.Rows.{shown}
use Rattle.mt_types.specs.declared.row.Row.{Row}
use Rattle.mt_types.specs.declared.numbers.NodeNo.{NodeNo}
use Rattle.mt_types.specs.declared.event.Answer.TheVariants.{Rows as RowsAnswer}
use Rattle.mt_types.specs.declared.refusal.Refusal.TheVariants.{NoMemory}
use Rattle.mt_arena.specs.declared.part.Part.{Part}
use Rattle.mt_steps.specs.Listing.{Listing}
use Rattle.mt_steps.specs.declared.reader.Reader.TheVariants.{Begins, Looked, Bounded as BoundedListing, Reads, AtValue, Settles}
use Rattle.mt_steps.specs.Listing.{ListReading}
use Rattle.mt_steps.specs.declared.reader.Reading.TheVariants.{Restarts, Repeats, GoesOn, To as ReadTo, Finds}
use Rattle.mt_steps.proofs.FrameLemmas.{chart_bounded}
use Rattle.mt_steps.proofs.LoneLemmas.{untaken_alive, untaken_unlocked}
use Rattle.mt_steps.proofs.LoneListing.{ListStands, ListGoes, PlaceFits, list_left, list_goes}
use Rattle.mt_steps.proofs.ListSteps.{list_may_read}
use Rattle.mt_steps.proofs.RangeLemmas.{scans_on, scans_top}
use Rattle.mt_steps.proofs.RangeSteps.{range_leads}
use Rattle.mt_steps.proofs.LoneWay.{layer_height, way_left, height_told, still_there}
use Rattle.mt_steps.specs.declared.listing.Listed.{Listed}

-- ---- the layers of a tree are fewer than its nodes
module _ (arena : Arena) (chart : Chart) (tree : IsTree arena chart) where
  -- the heads above a head, each higher than the next
  record HeadsAbove (prefix : List ℕ) : Type 0 where
    came : List ℕ
    run : Run chart 0 came (height top prefix 0)
    many : length came ≡ length prefix

  head_known : (number : ℕ) (prefix : List ℕ) → OnHead chart number prefix → Known chart 0 number top prefix 0
  head_known number prefix head = record { standing = on true; place = head; since = λ epoch is. omega arith }

  heads_above : (prefix : List ℕ) (number : ℕ) → OnHead chart number prefix → HeadsAbove prefix
  heads_above [] number head = record { came = []; run = tt; many = refl }
  heads_above (slice ∷ prefix) number head =
      let (above, node, stands, there) = tree.hung number (slice ∷ prefix) head in
      let (over, over_head) = tree.in_layer above prefix node stands in
      let rest = heads_above prefix over over_head in
      record {
        came = over ∷ rest.came;
        run = (height top prefix 0, at_height chart 0 over top prefix 0 (head_known over prefix over_head), omega arith, rest.run);
        many = ap (λ (n : ℕ). suc n) rest.many;
      }

  few_heads : (bound : ℕ) → Bounded chart bound → (number : ℕ) (prefix : List ℕ) → OnHead chart number prefix → length prefix < bound
  few_heads bound bounded number prefix head =
      let above = heads_above prefix number head in
      let many = above.many in
      let few = run_bound chart 0 bound number above.came (height top prefix 0) bounded above.run (at_height chart 0 number top prefix 0 (head_known number prefix head)) in
      omega (arith, many, few)

  -- the layer of a node that is on has a head that is on
  has_head_at : (most level : ℕ) → level ≤ most → (number : ℕ) (prefix : List ℕ) (low : ℕ) (posted : Bool) → chart number ≡ Some (spot (at_level level) prefix low (on posted)) → (over : ℕ) × OnHead chart over prefix
  has_head_at most zero up number prefix low posted place =
      let (node, stands, same) = on_border_at arena chart tree number prefix low posted place in
      tree.in_layer number prefix node stands
  has_head_at zero (suc below) up number prefix low posted place = absurd (omega arith)
  has_head_at (suc most) (suc below) up number prefix low posted place =
      let u = tree.interiors number below prefix low (on posted) place in
      let (child, others, is, lower, stands) = first_child_on chart posted prefix low (suc below) u.node.children (children_on arena chart tree number below prefix low posted u.node place u.is_node) in
      has_head_at most child.level (omega arith) child.number prefix low true stands

  has_head : (number : ℕ) (role : Role) (prefix : List ℕ) (low : ℕ) (posted : Bool) → chart number ≡ Some (spot role prefix low (on posted)) → (over : ℕ) × OnHead chart over prefix
  has_head number top prefix low posted place =
      let u = tree.heads number prefix low posted place in
      (number, place ∙ (ap (λ (l : ℕ). Some (spot top prefix l (on posted))) u.low ∙ ap (λ (b : Bool). Some (spot top prefix 0 (on b))) u.posted))
  has_head number (at_level level) prefix low posted place = has_head_at level level (omega arith) number prefix low posted place

-- ---- what is left
-- more layers than a tree has: one for each node that it may have
pub all_layers : ℕ
all_layers = 4294967295

layers_fit : (layers : ℕ) → layers < 4294967295 → layers < all_layers
unfolding all_layers
layers_fit layers few = few

-- WHAT IS LEFT of a scan at a node: first how far its cursor is from the end of all, then how many layers there may be
-- below it, then what is left of its way in its layer
abbrev pub left_of : ℕ → ℕ → ℕ → ℕ
left_of cursors layers way = (cursors * (all_layers + 1) + layers) * (all_heights + 1) + way

abbrev pub cursors_left : CursorView → ℕ
cursors_left c = all_cursors all_layers - cursor_of all_layers c

abbrev pub scan_left : ArenaView → ℕ → CursorView → ℕ
scan_left a number c = left_of (cursors_left c) (all_layers - length c.prefix) (way_left a 0 number)

-- it falls
way_falls : (cursors layers way less : ℕ) → less < way → left_of cursors layers less < left_of cursors layers way
way_falls cursors layers way less falls = omega arith

layers_fall : (cursors layers way fewer below other : ℕ) → fewer ≤ cursors → below < layers → other ≤ all_heights → left_of fewer below other < left_of cursors layers way
layers_fall cursors layers way fewer below other most less within =
    let held : fewer * (all_layers + 1) ≤ cursors * (all_layers + 1) = mul-le-mul_right (all_layers + 1) most in
    less_than_more (fewer * (all_layers + 1) + below) (cursors * (all_layers + 1) + layers) other (all_heights + 1) way (omega (arith, held)) (omega arith)

cursors_fall : (cursors layers way fewer below other : ℕ) → fewer < cursors → below ≤ all_layers → other ≤ all_heights → left_of fewer below other < left_of cursors layers way
cursors_fall cursors layers way fewer below other falls few within =
    less_than_more (fewer * (all_layers + 1) + below) (cursors * (all_layers + 1) + layers) other (all_heights + 1) way
    (less_than_more fewer cursors below (all_layers + 1) layers falls (omega arith)) (omega arith)

left_less : (all one other : ℕ) → one < other → one < all → all - other < all - one
left_less all one other less within = omega arith

left_most : (all one other : ℕ) → one ≤ other → all - other ≤ all - one
left_most all one other most = omega arith

way_within : (a : ArenaView) (number : ℕ) → way_left a 0 number ≤ all_heights
way_within a number = omega arith

-- ---- the place of a scan
-- its node is on, in the layer of its prefix
pub record ScanStands (chart : Chart) (number : ℕ) (prefix : List ℕ) : Type 0 where
  pub role : Role
  pub low : ℕ
  pub posted : Bool
  pub place : chart number ≡ Some (spot role prefix low (on posted))

abbrev is_on : (chart : Chart) (number : ℕ) (prefix : List ℕ) → ScanStands chart number prefix → IsOn chart number
is_on chart number prefix s = record { role = s.role; prefix = prefix; low = s.low; posted = s.posted; place = s.place }

-- one number stands in one layer, from one slice on
same_prefix : (one other : Role) (prefix layer : List ℕ) (low least : ℕ) (standing stands : Standing) → ◌≡◌ {A = Option Spot} (Some (spot one prefix low standing)) (Some (spot other layer least stands)) → prefix ≡ layer
same_prefix one other prefix layer low least standing stands e = cc

same_low : (one other : Role) (prefix layer : List ℕ) (low least : ℕ) (standing stands : Standing) → ◌≡◌ {A = Option Spot} (Some (spot one prefix low standing)) (Some (spot other layer least stands)) → low ≡ least
same_low one other prefix layer low least standing stands e = cc

-- what is on stands in the layer in which it is held
on_and_held : (chart : Chart) (begun number slice : ℕ) (prefix : List ℕ) → IsOn chart number → Holds chart begun number prefix slice → ScanStands chart number prefix
on_and_held chart begun number slice prefix o held =
    let same = same_prefix o.role held.role o.prefix prefix o.low held.low (on o.posted) held.standing (sym o.place ∙ held.place) in
    record { role = o.role; low = o.low; posted = o.posted; place = o.place ∙ ap (λ (p : List ℕ). Some (spot o.role p o.low (on o.posted))) same }

-- the higher of two nodes of a layer has less left
higher_left : (role other : Role) (layers low least : ℕ) → (layers * (MAX_LEVEL + 2) + below_top role) * (2 ^ 64) + low < (layers * (MAX_LEVEL + 2) + below_top other) * (2 ^ 64) + least
    → layer_height 0 role low < all_heights → all_heights - layer_height 0 other least < all_heights - layer_height 0 role low
higher_left role other layers low least higher within = omega arith

-- ---- a step
module _ (a : ArenaView) (now : ℕ) (w : World) (world : IsWorld a now w) where
  few_layers : IsArena a → (number : ℕ) (prefix : List ℕ) → ScanStands w.chart number prefix → length prefix < all_layers
  few_layers sound number prefix s =
      let (over, head) = has_head (arena_seen a) w.chart world.index.tree number s.role prefix s.low s.posted s.place in
      layers_fit (length prefix) (few_heads (arena_seen a) w.chart world.index.tree 4294967295 (chart_bounded a w.chart sound world.index.tree) over prefix head)

  -- the higher of two nodes of a layer has less left of its way
  higher_nearer : (number next : ℕ) (prefix : List ℕ) (here : ScanStands w.chart number prefix) (there : ScanStands w.chart next prefix) → here.low < 2 ^ 64
      → height here.role prefix here.low < height there.role prefix there.low → way_left a 0 next < way_left a 0 number
  higher_nearer number next prefix here there fits higher =
      let at_here = height_told 0 (arena_seen a) w.chart world.index.tree number here.role prefix here.low here.posted here.place in
      let at_there = height_told 0 (arena_seen a) w.chart world.index.tree next there.role prefix there.low there.posted there.place in
      let less = higher_left here.role there.role (length prefix) here.low there.low higher (in_range here.role [] here.low (omega arith) fits) in
      omega (arith, at_here, at_there, less)

  -- on its way in its layer
  seeks_nearer : (number next begun then slice : ℕ) (c : CursorView) → ScanStands w.chart number c.prefix → Holds w.chart begun number c.prefix (first_slice c.at) → SeeksOn a number next c
      → Holds w.chart then next c.prefix slice → ScanStands w.chart next c.prefix × (way_left a 0 next < way_left a 0 number)
  seeks_nearer number next begun then slice c s held seeks held_next =
      after (rises (arena_seen a) w.chart world.index.tree (suc now) number next (height s.role c.prefix s.low) (on_known w.chart (suc now) number (is_on w.chart number c.prefix s)) seeks.moves)
    where
      fits : s.low < 2 ^ 64
      fits =
          let low = same_low s.role held.role c.prefix c.prefix s.low held.low (on s.posted) held.standing (sym s.place ∙ held.place) in
          let most = held.at_most in
          let few = seeks.fits in
          omega (arith, low, most, few)

      nearer : (x : Higher w.chart (suc now) next (height s.role c.prefix s.low)) (posted : Bool) → w.chart next ≡ Some (spot x.known.role x.known.prefix x.known.low (on posted)) → x.known.prefix ≡ c.prefix
          → ScanStands w.chart next c.prefix × (way_left a 0 next < way_left a 0 number)
      nearer x posted place same =
          let there : ScanStands w.chart next c.prefix =
          record { role = x.known.role; low = x.known.low; posted = posted; place = place ∙ ap (λ (p : List ℕ). Some (spot x.known.role p x.known.low (on posted))) same } in
          let reached : height x.known.role c.prefix x.known.low ≡ x.height = ap (λ (p : List ℕ). height x.known.role p x.known.low) (sym same) ∙ x.known.is_height in
          let up = x.rises in
          (there, higher_nearer number next c.prefix s there fits (omega (arith, reached, up)))

      after : Higher w.chart (suc now) next (height s.role c.prefix s.low) → ScanStands w.chart next c.prefix × (way_left a 0 next < way_left a 0 number)
      after x =
          let (posted, place) = still_there w.chart now next x.height world.index.dated x.known in
          nearer x posted place (same_prefix x.known.role held_next.role x.known.prefix c.prefix x.known.low held_next.low (on posted) held_next.standing (sym place ∙ held_next.place))

  -- from a border
  scans_nearer : (number next then slice : ℕ) (c d : CursorView) → ScanStands w.chart number c.prefix → ScansOn a number next c d → Holds w.chart then next d.prefix slice
      → ScanStands w.chart next d.prefix × (scan_left a next d < scan_left a number c)
  scans_nearer number next then slice c d s scans held = (on_and_held w.chart then next slice d.prefix (on_next scans.leads) held, to (scans.gets_on all_layers deep))
    where
      on_next : Moves (arena_seen a) number next ⊎ (next ≡ 0) → IsOn w.chart next
      on_next (inl move) = stays_on (arena_seen a) w.chart world.index.tree now number next world.index.dated (is_on w.chart number c.prefix s) move
      on_next (inr home) = record { role = top; prefix = []; low = 0; posted = true; place = ap w.chart home ∙ world.index.tree.layer_0 }

      deep : length c.prefix < all_layers
      deep = few_layers scans.sound number c.prefix s

      further : cursor_of all_layers c < cursor_of all_layers d → scan_left a next d < scan_left a number c
      further less =
          cursors_fall (cursors_left c) (all_layers - length c.prefix) (way_left a 0 number) (cursors_left d) (all_layers - length d.prefix) (way_left a 0 next)
          (left_less (all_cursors all_layers) (cursor_of all_layers c) (cursor_of all_layers d) less (scans.within all_layers)) (omega arith) (way_within a next)

      to : GetsOn all_layers c (To (record { 0 = next })) d → scan_left a next d < scan_left a number c
      to (inl less) = further less
      to (inr (most, deeper)) =
          layers_fall (cursors_left c) (all_layers - length c.prefix) (way_left a 0 number) (cursors_left d) (all_layers - length d.prefix) (way_left a 0 next)
          (left_most (all_cursors all_layers) (cursor_of all_layers c) (cursor_of all_layers d) most) (left_less all_layers (length c.prefix) (length d.prefix) (omega (arith, deeper)) deep) (way_within a next)

  -- WITH EACH MOVE OF A SCAN its next node is on, and what is left of it falls
  pub scan_nearer : (number next begun then slice : ℕ) (c d : CursorView) → ScanStands w.chart number c.prefix → Holds w.chart begun number c.prefix (first_slice c.at) → ScanGoes a number next c d
      → Holds w.chart then next d.prefix slice → ScanStands w.chart next d.prefix × (scan_left a next d < scan_left a number c)
  scan_nearer number next begun then slice c d s held (inl (seeks, same)) held_next =
      subst (λ (e : CursorView). ScanStands w.chart next e.prefix × (scan_left a next e < scan_left a number c)) (sym same) (there.0, way_falls (cursors_left c) (all_layers - length c.prefix) (way_left a 0 number) (way_left a 0 next) there.1)
    where
      there : ScanStands w.chart next c.prefix × (way_left a 0 next < way_left a 0 number)
      there = seeks_nearer number next begun then slice c s held seeks (subst (λ (e : CursorView). Holds w.chart then next e.prefix slice) same held_next)
  scan_nearer number next begun then slice c d s held (inr scans) held_next = scans_nearer number next then slice c d s scans held_next

-- if both charts have the number at the same place, the scan is there in the next world as in this one
stands_in_next : (chart new : Chart) (number : ℕ) (prefix : List ℕ) → new number ≡ chart number → ScanStands chart number prefix → ScanStands new number prefix
stands_in_next chart new number prefix same s = record { role = s.role; low = s.low; posted = s.posted; place = same ∙ s.place }

held_before : (chart new : Chart) (begun number slice : ℕ) (prefix : List ℕ) → new number ≡ chart number → Holds new begun number prefix slice → Holds chart begun number prefix slice
held_before chart new begun number slice prefix same h = record { role = h.role; low = h.low; standing = h.standing; place = sym same ∙ h.place; at_most = h.at_most; since = h.since }

-- the same, if the next world is another one in which each node has the same place
pub scan_nearer_in : (a : ArenaView) (now : ℕ) (w next_world : World) → IsWorld a now w → ((number : ℕ) → next_world.chart number ≡ w.chart number)
    → (number next begun then slice : ℕ) (c d : CursorView) → ScanStands w.chart number c.prefix → Holds w.chart begun number c.prefix (first_slice c.at) → ScanGoes a number next c d
    → Holds next_world.chart then next d.prefix slice → ScanStands next_world.chart next d.prefix × (scan_left a next d < scan_left a number c)
scan_nearer_in a now w next_world world same number next begun then slice c d s held goes held_next =
    let (stands, falls) = scan_nearer a now w world number next begun then slice c d s held goes (held_before w.chart next_world.chart then next slice d.prefix (same next) held_next) in
    (stands_in_next w.chart next_world.chart next d.prefix (same next) stands, falls)

-- ---- a scan that reads one field a step
-- WHAT IS LEFT of it: what is left at its node, and of the fields that it reads there
abbrev pub reading_left : ArenaView → ℕ → CursorView → Listing → ℕ
reading_left a number c listing = 64 * scan_left a number c + list_left listing

pub field_falls : (scan one other : ℕ) → one < other → 64 * scan + one < 64 * scan + other
field_falls scan one other less = omega (arith, less)

pub node_falls : (scan left one other : ℕ) → left < scan → one ≤ 40 → 64 * left + one < 64 * scan + other
node_falls scan left one other less few = omega (arith, less, few)

place_fits : (show : Row → Row) (prefix : List ℕ) (slice number : ℕ) (listing : Listing) (begun : ℕ) (arenas : List Arena) (a : ArenaView) (w : World) → ListingIsTrue show prefix slice number listing begun arenas a w → PlaceFits listing
place_fits show prefix slice number Begins begun arenas a w truth = tt
place_fits show prefix slice number (Looked counters) begun arenas a w truth = tt
place_fits show prefix slice number (BoundedListing counters right) begun arenas a w truth = tt
place_fits show prefix slice number (Reads notes) begun arenas a w (at, bounded, within, few, lists) = (within, few)
place_fits show prefix slice number (AtValue notes key) begun arenas a w (at, bounded, within, few, lists, has) = (within, few)
place_fits show prefix slice number (Settles counters listed) begun arenas a w truth = tt

-- what a scan alone reads brings it nearer to its end, and it doesn't wait
pub scan_reads : (show : Row → Row) (a : ArenaView) (now : ℕ) (w : World) → IsWorld a now w → (begun : ℕ) (prefix : List ℕ) (slice number : ℕ) (past : List Arena) → slice < 2 ^ 64 → Holds w.chart begun number prefix slice
    → ((other : ℕ) → IsTaken a w other → ⊥) → ScanStands w.chart number prefix → (listing : Listing) → ListingIsTrue show prefix slice number listing begun (arena_seen a ∷ past) a w → ListStands a number listing
    → (part : Part) → Lends a number (wants listing) part → ListGoes a number listing (list_reading listing slice part)
scan_reads show a now w world begun prefix slice number past fits held free stands listing truth noted part lent =
    list_goes a number slice (untaken_alive a now w world number (free number) (is_on w.chart number prefix stands)) (untaken_unlocked a now w world number (free number)) listing
    (list_may_read show a now w world begun prefix slice number past fits held listing truth) (place_fits show prefix slice number listing begun (arena_seen a ∷ past) a w truth) noted part lent

-- ---- a range
-- the node where it stands is on, in the layer of its scan, and it has noted what the border there has
pub record RangeStands (a : ArenaView) (w : World) (range : Range) : Type 0 where
  pub node : ScanStands w.chart range.node.0 range.scan.prefix
  pub noted : ListStands a range.node.0 range.listing

abbrev pub range_left : ArenaView → Range → ℕ
range_left a range = reading_left a range.node.0 (cursor_in range.scan) range.listing

module _ (a : ArenaView) (now begun moves : ℕ) (past : List Arena) (w : World) (range new : Range) (world : IsWorld a now w) (truth : RangeIsTrue range begun moves past a w) (stands : RangeStands a w range) (free : (other : ℕ) → IsTaken a w other → ⊥) where
  goes : (p : Progress) → (reads : RangeReads a range p new) → ListGoes a range.node.0 range.listing (list_reading range.listing (first_slice range.scan.at) reads.part)
  goes p reads = scan_reads (shown range.columns) a now w world begun range.scan.prefix (first_slice range.scan.at) range.node.0 past reads.fits truth.scans.held free stands.node range.listing truth.listing stands.noted reads.part reads.lent

  -- a range that runs alone doesn't wait
  pub lone_range_waits_not : RangeReads a range Waits new → ⊥
  lone_range_waits_not reads = elim reads.does [
    | inl refused ↦ (let clash : Waits ≡ Refused NoMemory = refused.0 in cc)
    | inr done ↦ go (list_reading range.listing (first_slice range.scan.at) reads.part) (goes Waits reads) done
  ]
    where
      ends : (scan : ScanView) (visited : ScanMove) → ScanEnds (unread range) scan visited Waits new → ⊥
      ends scan Done (is, bytes) = (let clash : Waits ≡ Answered (RowsAnswer scan.taken) = is in cc)
      ends scan (To next) (is, then) = (let clash : Waits ≡ Moved = is in cc)
      ends scan Top (is, then) = (let clash : Waits ≡ Moved = is in cc)

      go : (reading : ListReading) → ListGoes a range.node.0 range.listing reading → RangeDoes (unread range) reading Waits new → ⊥
      go Restarts never done = never
      go Repeats never done = never
      go (GoesOn next) near (is, then) = (let clash : Waits ≡ Moved = is in cc)
      go (ReadTo node) move (is, then) = (let clash : Waits ≡ Moved = is in cc)
      go (Finds listed) leads (inl refused) = (let clash : Waits ≡ Refused NoMemory = refused in cc)
      go (Finds listed) leads (inr s) = ends s.scan s.visited s.ends

  -- and with each of its moves what is left of it falls
  module _ (next : World) (same : (number : ℕ) → next.chart number ≡ w.chart number) (then made : ℕ) (since : List Arena) where
    abbrev Nearer : Range → Type 0
    Nearer x = RangeIsTrue x then made since a next → RangeStands a next x × (range_left a x < range_left a range)

    on_there : (next_node : NodeNo) (scan : ScanView) → ScanGoes a range.node.0 next_node.0 (cursor_in range.scan) (cursor_in scan) → Nearer (record (unread range) { scan = scan; node = next_node })
    on_there next_node scan goes_on true_then =
        let (there, falls) = scan_nearer_in a now w next world same range.node.0 next_node.0 begun then (first_slice scan.at) (cursor_in range.scan) (cursor_in scan) stands.node truth.scans.held goes_on true_then.scans.held in
        (record { node = there; noted = tt }, node_falls (scan_left a range.node.0 (cursor_in range.scan)) (scan_left a next_node.0 (cursor_in scan)) 40 (list_left range.listing) falls (omega arith))

    at : (x : Range) → new ≡ x → Nearer x → Nearer new
    at x is nearer = subst Nearer (sym is) nearer

    pub lone_range_nearer : RangeReads a range Moved new → Nearer new
    lone_range_nearer reads = elim reads.does [
      | inl refused ↦ absurd (let clash : Moved ≡ Refused NoMemory = refused.0 in cc)
      | inr done ↦ go (list_reading range.listing (first_slice range.scan.at) reads.part) (goes Moved reads) (range_leads a range reads.fits reads.part reads.lent now begun moves past w world truth) done
    ]
      where
        lists : (listed : Listed) → IsReadList (shown range.columns) range.scan.prefix (first_slice range.scan.at) begun (arena_seen a ∷ past) w listed
            → ((other : ℕ) → LeadsOn (list_of listed.entries listed.right) other → Moves (arena_seen a) range.node.0 other) → (s : RangeScans (unread range) (list_of listed.entries listed.right) Moved new) → (visited : ScanMove) → s.visited ≡ visited → ScanEnds (unread range) s.scan visited Moved new → Nearer new
        lists listed read leads s Done is (ended, bytes) = absurd (let clash : Moved ≡ Answered (RowsAnswer s.scan.taken) = ended in cc)
        lists listed read leads s (To there) is (moved, then_is) =
            at _ then_is (on_there there s.scan (inr (scans_on a range.node.0 (list_of listed.entries listed.right) (cursor_in range.scan) (cursor_in s.scan) s.visited read.passes leads (visit_leads range.scan (list_of listed.entries listed.right) s.visited s.scan s.visits) s.onward s.within reads.lent.arena there is)))
        lists listed read leads s Top is (moved, then_is) =
            at _ then_is (on_there start.node s.scan (inr (scans_top a range.node.0 (list_of listed.entries listed.right) (cursor_in range.scan) (cursor_in s.scan) s.visited read.passes leads (visit_leads range.scan (list_of listed.entries listed.right) s.visited s.scan s.visits) s.onward s.within reads.lent.arena is)))

        go : (reading : ListReading) → ListGoes a range.node.0 range.listing reading → ListLeads (shown range.columns) range.scan.prefix (first_slice range.scan.at) range.node.0 begun past a w reading → RangeDoes (unread range) reading Moved new → Nearer new
        go Restarts never leads done = absurd never
        go Repeats never leads done = absurd never
        go (GoesOn listing) (less, noted) leads (moved, is) = at (record range { listing = listing }) is (λ true_then. (
          record { node = stands_in_next w.chart next.chart range.node.0 range.scan.prefix (same range.node.0) stands.node; noted = noted },
          field_falls (scan_left a range.node.0 (cursor_in range.scan)) (list_left listing) (list_left range.listing) less,
        ))
        go (ReadTo node) move leads (moved, is) = at (record (unread range) { node = node }) is (on_there node range.scan (inl (record { fits = reads.fits; moves = move }, refl)))
        go (Finds listed) moves_on leads (inl refused) = absurd (let clash : Moved ≡ Refused NoMemory = refused in cc)
        go (Finds listed) moves_on leads (inr s) = lists listed leads moves_on s s.visited refl s.ends

-- it begins at a node that is on
pub range_begins : (a : ArenaView) (now : ℕ) (w : World) → IsWorld a now w → ScanStands w.chart 0 []
range_begins a now w world = record { role = top; low = 0; posted = true; place = world.index.tree.layer_0 }
