-- The steps of a get.
use Rattle.std.proofs.Common.{ℕ, ◌≡◌, ◌*◌, List, Option, Some, sym, ap, subst, ◌∙◌}
use Rattle.mt_slice.specs.Place.{Place, AreBytes, place_of, under, slice_number}
use Rattle.mt_slice.proofs.Slices.{bytes-drop}
use Rattle.mt_border.specs.Border.{BorderView}
use Rattle.mt_border.specs.Order.{IsBorder}
use Rattle.mt_border.specs.declared.found.Found.{Found}
use Rattle.mt_arena.specs.Node.{border_at}
use Rattle.mt_arena.specs.declared.node.Node.{Node}
use Rattle.mt_arena.specs.Arena.{ArenaView}
use Rattle.mt_chart.specs.Tree.{Has}
use Rattle.mt_chart.specs.Chart.{Chart}
use Rattle.mt_tree.specs.Seen.{arena_seen, border_seen}
use Rattle.mt_chart.specs.TreeLaws.{IsWhere}
use Rattle.mt_tree.proofs.HeldLemmas.{held_may_visit}
use Rattle.mt_tree.proofs.DescentLemmas.{may_visit}
use Rattle.mt_tree.proofs.RowLemmas.{tells_row}
use Rattle.mt_tree.specs.Descent.{IsHere, IsLast, found_for, row_found, TellsRow}
use Rattle.mt_steps.specs.declared.way.Way.{Way}
use Rattle.mt_steps.specs.World.{World, IsWorld}
use Rattle.mt_steps.specs.Way.{rest_of, prefix_of, IsOnWay, IsAtPlace, MayGo, MayGoAt, Names}
use Rattle.mt_steps.specs.Step.{RowIs}

-- what is found at the place of a key is the row that the tree has
pub found_is_row : (a : ArenaView) (key : List ℕ) (way : Way) (now : ℕ) (w : World) (rest : List ℕ) (found : Found) (b : BorderView) → rest ≡ rest_of key way → border_at a.nodes way.node.0 ≡ Some b → found ≡ found_for rest b.live →
    TellsRow a way.node.0 rest found → IsWorld a now w → IsAtPlace a key way w → RowIs a key (row_found b.live found)
found_is_row a key way now w rest found b is named searched tells world place row =
    let same : place.here.border ≡ b = (let both : ◌≡◌ {A = Option BorderView} (Some place.here.border) (Some b) = sym place.here.named ∙ named in cc) in
    let told = tells.tells now w.twins w.chart (prefix_of key way) world.index (at_rest w.chart rest is place.here)
    (subst IsLast (sym (searched ∙ ap (λ (x : BorderView). found_for rest x.live) (sym same) ∙ ap (λ (r : List ℕ). found_for r place.here.border.live) is)) place.last) row in
    let key_is : under (prefix_of key way) (place_of rest) ≡ place_of key = ap (λ (r : List ℕ). under (prefix_of key way) (place_of r)) is ∙ sym place.layer.under in (
      (λ has. ap (λ (x : BorderView). row_found x.live found) (sym same) ∙ told.0 (subst (λ (p : Place). Has (arena_seen a) p row) (sym key_is) has)),
      (λ e. subst (λ (p : Place). Has (arena_seen a) p row) key_is (told.1 (ap (λ (x : BorderView). row_found x.live found) same ∙ e))),
    )
  where
    at_rest : (chart : Chart) (r : List ℕ) → r ≡ rest_of key way → (h : IsHere a chart way.node.0 (prefix_of key way) (rest_of key way)) → IsHere a chart way.node.0 (prefix_of key way) r
    at_rest chart r e h = record { border = h.border; named = h.named; stands = subst (λ (x : List ℕ). IsWhere (arena_seen a) chart way.node.0 (prefix_of key way) (border_seen h.border) (place_of x)) (sym e) h.stands }

-- what is found in the border at its place tells the row
pub tells_here : (a : ArenaView) (way : Way) (rest : List ℕ) (b : BorderView) → border_at a.nodes way.node.0 ≡ Some b → IsBorder b
    → (key : List ℕ) → AreBytes key → rest ≡ rest_of key way → (found : Found) → found ≡ found_for rest b.live → TellsRow a way.node.0 rest found
tells_here a way rest b named sound key bytes is found searched =
    let fits : AreBytes rest = subst AreBytes (sym is) (bytes-drop (8 * way.layer) key bytes) in
    subst (λ (f : Found). TellsRow a way.node.0 rest f) (sym searched) (tells_row a way.node.0 rest b named sound fits)

-- what a call holds it may visit
pub may_go : (a : ArenaView) (key : List ℕ) (way : Way) (now begun : ℕ) (w : World) → IsWorld a now w → IsOnWay begun key way w → MayGo a key way
may_go a key way now begun w world on = record {
  within = on.layer.within;
  may = held_may_visit a now w.twins w.chart begun way.node.0 (slice_number (rest_of key way)) (prefix_of key way) world.index on.held;
}

-- and so it may visit that node if it is lent the node alone
pub may_go_at : (a : ArenaView) (key : List ℕ) (way : Way) (node : Node) → Names a way.node.0 node → MayGo a key way → MayGoAt key way node
may_go_at a key way node names may = record { within = may.within; may = may_visit a way.node.0 (rest_of key way) node names.named may.may }
