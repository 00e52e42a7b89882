-- What others' steps leave of a range or build that reads a border field by field.
use Rattle.std.proofs.Common.{ℕ, inr, List, ◌∷◌, length, Option}
use Rattle.std.specs.Prelude.{slice_index}
use Rattle.std.specs.Option.{option_map}
use Rattle.mt_types.specs.Rows.{shown}
use Rattle.mt_types.specs.declared.row.Row.{Row}
use Rattle.mt_slice.specs.Place.{place_of}
use Rattle.mt_border.specs.Border.{BorderView}
use Rattle.mt_border.specs.declared.entry.Entry.{Entry}
use Rattle.mt_border.specs.declared.entry.RightLink.{RightLink}
use Rattle.mt_arena.specs.Arena.{ArenaView}
use Rattle.mt_chart.specs.Tree.{Arena, first, later}
use Rattle.mt_chart.specs.Chart.{Evolves}
use Rattle.mt_chart.specs.KeyAnswer.{as_places}
use Rattle.mt_chart.specs.ScanRun.{Stood, AllHave}
use Rattle.mt_chart.proofs.Ranges.{range_kept}
use Rattle.mt_chart.proofs.ReadingLemmas.{slot_stays}
use Rattle.mt_chart.proofs.ReadingStay.{lists_stay}
use Rattle.mt_tree.specs.Fields.{fields_seen, BorderAges}
use Rattle.mt_tree.specs.Seen.{arena_seen, entries_seen, right_seen}
use Rattle.mt_tree.proofs.AgeLemmas.{are_slots}
use Rattle.mt_steps.specs.declared.reader.Counters.{Counters}
use Rattle.mt_steps.specs.declared.listing.SlotKey.{SlotKey}
use Rattle.mt_steps.specs.Listing.{Listing}
use Rattle.mt_steps.specs.declared.reader.Reader.TheVariants.{Begins, Looked, Bounded, Reads, AtValue, Settles}
use Rattle.mt_steps.specs.declared.ranging.Range.{Range}
use Rattle.mt_steps.specs.Listing.{HasKey, ListsSlots, ListingIsTrue}
use Rattle.mt_steps.specs.Ranging.{RangeIsTrue}
use Rattle.mt_steps.specs.Standing.{counters_seen, StandsAt, Still}
use Rattle.mt_steps.specs.World.{World, IsWorld, AreOfKeys, BordersAge}
use Rattle.mt_steps.proofs.StandLemmas.{there, aged, there_then, stands_stay, bound_stays, still_before}

-- the rows of one moment more are those of keys
pub keys_later : (after : ArenaView) (now : ℕ) (next : World) → IsWorld after now next → (arenas : List Arena) → AreOfKeys arenas → AreOfKeys (arena_seen after ∷ arenas)
keys_later after now next world arenas keys _ first = world.keys.key_of
keys_later after now next world arenas keys arena (later i) = keys arena i

module _ (show : Row → Row) (a after : ArenaView) (now : ℕ) (w next : World) (world : IsWorld after now next) (age : BordersAge a after w next) (begun : ℕ) (evolves : Evolves begun w.chart next.chart) (prefix : List ℕ) (slice number : ℕ) (past : List Arena) where
  abbrev arenas : List Arena
  arenas = arena_seen a ∷ past

  -- ---- the border where it stands
  module _ (counters : Counters) (at : StandsAt begun prefix slice number counters a w) where
    abbrev then : BorderView
    then = (there a after now w next world age begun evolves prefix slice number counters at).0

    abbrev stays_there : StandsAt begun prefix slice number counters after next
    stays_there = stands_stay a after now w next world age begun evolves prefix slice number counters at

    aged_here : BorderAges at.b then
    aged_here = aged a after now w next world age begun evolves prefix slice number counters at

    slots_stay : (right : Option RightLink) (numbers : List ℕ) (place : ℕ) (entries : List Entry) → (Still counters at.b → ListsSlots show prefix right numbers place entries at.b begun arenas w)
        → Still counters then → ListsSlots show prefix right numbers place entries then begun (arena_seen after ∷ arenas) next
    slots_stay right numbers place entries = lists_stay show begun number w.chart next.chart (arena_seen after) arenas prefix (fields_seen at.b) (fields_seen then) (counters_seen counters) evolves world.index.tree
        (there_then a after now w next world age begun evolves prefix slice number counters at) aged_here.low aged_here.fields (are_slots then (aged_here.slots at.slots)) at.looked.come stays_there.looked.known
        (option_map right_seen right) numbers place (entries_seen entries)

    still_was : Still counters then → Still counters at.b
    still_was = still_before a after now w next world age begun evolves prefix slice number counters at

    key_stays : (slot : ℕ) (key : SlotKey) → (Still counters at.b → HasKey show w.chart begun arenas prefix (fields_seen at.b) slot key)
        → Still counters then → HasKey show next.chart begun (arena_seen after ∷ arenas) prefix (fields_seen then) slot key
    key_stays slot key has quiet =
        let before = has (still_was quiet) in
        record {
          read = before.read;
          noted = slot_stays show begun number w.chart next.chart (arena_seen after) arenas prefix (fields_seen at.b) (fields_seen then) (counters_seen counters) evolves world.index.tree
              (there_then a after now w next world age begun evolves prefix slice number counters at) aged_here.low aged_here.fields (are_slots then (aged_here.slots at.slots)) at.looked.come stays_there.looked.known
              before.read slot (λ q. before.noted) quiet;
          at_slice = before.at_slice;
          is = before.is;
        }

  pub listing_stays : (listing : Listing) → ListingIsTrue show prefix slice number listing begun arenas a w → ListingIsTrue show prefix slice number listing begun (arena_seen after ∷ arenas) after next
  listing_stays Begins truth = tt
  listing_stays (Looked counters) at = stays_there counters at
  listing_stays (Bounded counters right) (at, bounded) = (stays_there counters at, bound_stays a after now w next world age begun evolves prefix slice number counters at right bounded)
  listing_stays (Reads notes) (at, bounded, within, fews, lists) = (
    stays_there notes.glance.counters at,
    bound_stays a after now w next world age begun evolves prefix slice number notes.glance.counters at notes.glance.right bounded,
    within,
    fews,
    slots_stay notes.glance.counters at notes.glance.right notes.glance.order.live notes.place notes.kept lists,
  )
  listing_stays (AtValue notes key) (at, bounded, within, fews, lists, has) = (
    stays_there notes.glance.counters at,
    bound_stays a after now w next world age begun evolves prefix slice number notes.glance.counters at notes.glance.right bounded,
    within,
    fews,
    slots_stay notes.glance.counters at notes.glance.right notes.glance.order.live notes.place notes.kept lists,
    key_stays notes.glance.counters at (slice_index notes.glance.order.live notes.place) key has,
  )
  listing_stays (Settles counters listed) (at, bounded, few, lists) = (
    stays_there counters at,
    bound_stays a after now w next world age begun evolves prefix slice number counters at listed.right bounded,
    few,
    (λ quiet. let (numbers, read) = lists (still_was counters at quiet) in (numbers, slots_stay counters at listed.right numbers (length numbers) listed.entries (λ q. read) quiet)),
  )

-- THE LAW of others' steps: what is true of a range stays true
pub range_stays : (a after : ArenaView) (now : ℕ) (w next : World) → IsWorld after now next → BordersAge a after w next → (begun moves : ℕ) → Evolves begun w.chart next.chart → (past : List Arena) (range : Range)
    → RangeIsTrue range begun moves past a w → RangeIsTrue range begun moves (arena_seen a ∷ past) after next
range_stays a after now w next world age begun moves evolves past range truth = record {
  bytes = truth.bytes;
  limit = truth.limit;
  asked = truth.asked;
  scans = range_kept begun w.chart next.chart (Stood (shown range.columns) (arena_seen a ∷ past)) (Stood (shown range.columns) (arena_seen after ∷ (arena_seen a ∷ past))) (AllHave (arena_seen a ∷ past)) (AllHave (arena_seen after ∷ (arena_seen a ∷ past)))
      (place_of range.start) range.limit range.scan.prefix range.node.0 range.scan.at (as_places range.scan.taken) evolves (λ key v h. inr h) (λ key t. t.1) truth.scans;
  keys = keys_later after now next world (arena_seen a ∷ past) truth.keys;
  listing = listing_stays (shown range.columns) a after now w next world age begun evolves range.scan.prefix _ range.node.0 past range.listing truth.listing;
}
