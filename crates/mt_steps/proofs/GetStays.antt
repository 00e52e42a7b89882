-- What others' steps leave of a get that reads a border field by field.
use Rattle.std.proofs.Common.{ℕ, ◌≡◌, inr, List, ◌∷◌, Some}
use Rattle.std.specs.Prelude.{slice_index}
use Rattle.std.specs.Option.{option_map}
use Rattle.mt_types.specs.Rows.{shown}
use Rattle.mt_slice.specs.Place.{place_of, slice_number}
use Rattle.mt_border.specs.Border.{BorderView}
use Rattle.mt_arena.specs.Arena.{ArenaView}
use Rattle.mt_chart.specs.Tree.{Arena, border}
use Rattle.mt_chart.specs.Chart.{top, Evolves}
use Rattle.mt_chart.specs.Walk.{others}
use Rattle.mt_chart.proofs.HeldNodes.{holds_kept}
use Rattle.mt_chart.proofs.Walk.{known_kept}
use Rattle.mt_chart.proofs.ReadingStay.{searches_stay, row_key_stays, link_key_stays}
use Rattle.mt_tree.specs.Seen.{arena_seen, border_seen, right_seen}
use Rattle.mt_tree.specs.Fields.{fields_seen, BorderAges}
use Rattle.mt_tree.proofs.AgeLemmas.{are_slots}
use Rattle.mt_steps.specs.declared.reader.Counters.{Counters}
use Rattle.mt_steps.specs.declared.finding.Kind.{Kind}
use Rattle.mt_steps.specs.declared.finding.Kind.TheVariants.{Row as RowKind, Link as LinkKind}
use Rattle.mt_steps.specs.declared.finding.Sight.{Sight}
use Rattle.mt_steps.specs.declared.finding.Sight.TheVariants.{Absent as AbsentSight, Row as RowSight, Link as LinkSight}
use Rattle.mt_steps.specs.Finding.{Finding}
use Rattle.mt_steps.specs.declared.reader.Reader.TheVariants.{Begins, Looked, Bounded, Reads, AtValue, Settles}
use Rattle.mt_steps.specs.declared.getting.Get.{Get}
use Rattle.mt_steps.specs.declared.way.Way.{Way}
use Rattle.mt_steps.specs.Way.{prefix_of, rest_of}
use Rattle.mt_steps.specs.World.{World, IsWorld, BordersAge}
use Rattle.mt_steps.specs.Standing.{Still, counters_seen}
use Rattle.mt_steps.specs.Getting.{AtBorder, KeyIsTrue, SightIsTrue, FindingIsTrue, GetIsTrue}
use Rattle.mt_steps.proofs.StandLemmas.{there, aged, there_then, stands_stay, bound_stays, still_before}

module _ (a after : ArenaView) (now : ℕ) (w next : World) (world : IsWorld after now next) (age : BordersAge a after w next) (begun : ℕ) (evolves : Evolves begun w.chart next.chart) (past : List Arena) (key asked : List ℕ) (way : Way) where
  abbrev prefix : List ℕ
  prefix = prefix_of key way

  abbrev slice : ℕ
  slice = slice_number (rest_of key way)

  -- ---- the border where it stands
  module _ (counters : Counters) (at : AtBorder begun key way counters a w) where
    abbrev then : BorderView
    then = (there a after now w next world age begun evolves prefix slice way.node.0 counters at.here).0

    aged_here : BorderAges at.here.b then
    aged_here = aged a after now w next world age begun evolves prefix slice way.node.0 counters at.here

    there_here : arena_seen after way.node.0 ≡ Some (border (border_seen then))
    there_here = there_then a after now w next world age begun evolves prefix slice way.node.0 counters at.here

    abbrev border_stays : AtBorder begun key way counters after next
    border_stays = record { layer = at.layer; here = stands_stay a after now w next world age begun evolves prefix slice way.node.0 counters at.here }

    still_here : Still counters then → Still counters at.here.b
    still_here = still_before a after now w next world age begun evolves prefix slice way.node.0 counters at.here

    row_key_stays_on : (number : ℕ) → (Still counters at.here.b → KeyIsTrue key asked way RowKind number at.here.b begun (arena_seen a ∷ past) w) → Still counters then → KeyIsTrue key asked way RowKind number then begun (arena_seen after ∷ (arena_seen a ∷ past)) next
    row_key_stays_on number = row_key_stays (shown asked) begun way.node.0 w.chart next.chart (arena_seen after) (arena_seen a ∷ past) prefix (fields_seen at.here.b) (fields_seen then) (counters_seen counters) evolves world.index.tree
        there_here aged_here.low aged_here.fields (are_slots then (aged_here.slots at.here.slots)) at.here.looked.come border_stays.here.looked.known number (place_of (rest_of key way))

    link_key_stays_on : (number : ℕ) → (Still counters at.here.b → KeyIsTrue key asked way LinkKind number at.here.b begun (arena_seen a ∷ past) w) → Still counters then → KeyIsTrue key asked way LinkKind number then begun (arena_seen after ∷ (arena_seen a ∷ past)) next
    link_key_stays_on number = link_key_stays (shown asked) begun way.node.0 w.chart next.chart (arena_seen after) (arena_seen a ∷ past) prefix (fields_seen at.here.b) (fields_seen then) (counters_seen counters) evolves world.index.tree
        there_here aged_here.low aged_here.fields (are_slots then (aged_here.slots at.here.slots)) at.here.looked.come border_stays.here.looked.known number slice

    key_stays : (kind : Kind) (number : ℕ) → (Still counters at.here.b → KeyIsTrue key asked way kind number at.here.b begun (arena_seen a ∷ past) w) → Still counters then → KeyIsTrue key asked way kind number then begun (arena_seen after ∷ (arena_seen a ∷ past)) next
    key_stays RowKind number = row_key_stays_on number
    key_stays LinkKind number = link_key_stays_on number

  -- what it has found
  sight_stays : (sight : Sight) → SightIsTrue key asked way sight begun (arena_seen a ∷ past) w → SightIsTrue key asked way sight begun (arena_seen after ∷ (arena_seen a ∷ past)) next
  sight_stays AbsentSight lacked = inr lacked
  sight_stays (RowSight row) stood = inr stood
  sight_stays (LinkSight head) known = known_kept begun head.0 top (slice ∷ prefix) 0 w.chart next.chart evolves known

  pub finding_stays : (finding : Finding) → FindingIsTrue key asked way finding begun (arena_seen a ∷ past) a w → FindingIsTrue key asked way finding begun (arena_seen after ∷ (arena_seen a ∷ past)) after next
  finding_stays Begins stands = record { layer = stands.layer; held = holds_kept begun way.node.0 _ _ w.chart next.chart evolves stands.held }
  finding_stays (Looked counters) at = border_stays counters at
  finding_stays (Bounded counters right) (at, bound) = (border_stays counters at, bound_stays a after now w next world age begun evolves prefix slice way.node.0 counters at.here right bound)
  finding_stays (Reads notes) (at, bound, within, searches) = (
    border_stays notes.glance.counters at,
    bound_stays a after now w next world age begun evolves prefix slice way.node.0 notes.glance.counters at.here notes.glance.right bound,
    within,
    searches_stay (shown asked) begun way.node.0 w.chart next.chart (arena_seen after) (arena_seen a ∷ past) prefix (fields_seen at.here.b) (fields_seen (then notes.glance.counters at)) (counters_seen notes.glance.counters) evolves world.index.tree
        (there_here notes.glance.counters at) (aged_here notes.glance.counters at).low (aged_here notes.glance.counters at).fields (are_slots (then notes.glance.counters at) ((aged_here notes.glance.counters at).slots at.here.slots)) at.here.looked.come
        (border_stays notes.glance.counters at).here.looked.known (option_map right_seen notes.glance.right) notes.glance.order.live (place_of (rest_of key way)) notes.place searches,
  )
  finding_stays (AtValue notes kind) (at, within, deep, is_true) = (border_stays notes.glance.counters at, within, deep, key_stays notes.glance.counters at kind (slice_index notes.glance.order.live notes.place) is_true)
  finding_stays (Settles counters sight) (at, fits, is_true) = (border_stays counters at, fits, λ still. sight_stays sight (is_true (still_here counters at still)))

-- THE LAW of others' steps: what is true of a get stays true
pub get_stays : (a after : ArenaView) (now : ℕ) (w next : World) → IsWorld after now next → BordersAge a after w next → (begun moves : ℕ) → Evolves begun w.chart next.chart → (past : List Arena) (get : Get)
    → GetIsTrue get begun moves past a w → GetIsTrue get begun moves (arena_seen a ∷ past) after next
get_stays a after now w next world age begun moves evolves past get (truth, moved) = (
  finding_stays a after now w next world age begun evolves past get.key get.columns get.way get.finding truth,
  record { came = moved.came; trail = others evolves moved.trail; few = moved.few },
)
