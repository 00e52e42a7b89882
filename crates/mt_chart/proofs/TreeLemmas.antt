-- The laws of an index, each by its lemma.
use Rattle.std.proofs.Common.{ℕ, zero, suc, ◌≡◌, ◌≢◌, ◌⊎◌, ◌↔◌, inl, inr, [], ◌∷◌, true, false, refl, sym, ◌∙◌, subst, arith}
use Rattle.mt_slice.specs.Place.{last}
use Rattle.mt_chart.specs.Tree.{short, BorderNode, border, Among, no_right}
use Rattle.mt_chart.specs.Steps.{AreTwins}
use Rattle.mt_chart.specs.NewIndex.{new_border, first_row_border, first_row_arena, new_arena, new_chart}
use Rattle.mt_chart.specs.TreeLaws.{NewIndexIsIndex, NewIndexIsEmpty, FirstRowsCanBeShown, FreeInteriorsAreOn, LeftNeighboursAreFound, RowsAreInBorders, KeysHaveOneRow, KeysAreAtTheirPlaces, KeysAreInTheirIntervals, RootsAreHeld, ChildrenAreHeld, SomeChildLeadsOn, HeldBordersAreOn, RightNeighboursAreHeld, LinkedHeadsAreHeld, HeldNodesAreThere}
use Rattle.mt_chart.proofs.ChartChanges.{interior_is_on}
use Rattle.mt_chart.proofs.Neighbour.{next_is}
use Rattle.mt_chart.proofs.Entries.{among_cases, among_first}
use Rattle.mt_chart.proofs.Reach.{stored, has}
use Rattle.mt_chart.proofs.Keys.{one_row, at_place, in_interval}
use Rattle.mt_chart.proofs.Owners.{owned_shrink}
use Rattle.mt_chart.proofs.NewIndex.{only_elsewhere, at_root, charted_root, new_tree, new_owned, new_named, new_marked, new_dated, new_stands}
use Rattle.mt_chart.proofs.HeldNodes.{holds_root, holds_child, holds_right, holds_link, first_child, border_is_on}
use Rattle.mt_chart.proofs.Ranges.{range_node}

pub new_index : NewIndexIsIndex
new_index root positive = record {
  tree = new_tree root positive;
  owned = owned_shrink (new_arena root) (new_chart root) (λ i j. ⊥) (AreTwins []) (new_owned root) (λ i j c x y never. absurd never);
  named = new_named root positive;
  marked = new_marked root;
  dated = new_dated root;
}

pub new_index_empty : NewIndexIsEmpty
new_index_empty root positive key row h =
    let s = stored (new_arena root) (new_chart root) (new_tree root positive) key row h in
    none s.entry (subst (λ (v : BorderNode). Among s.entry v.entries) (new_stands root positive s.number s.prefix s.node s.on_border) s.live)
  where
    none : (e : _) → Among e new_border.entries → ⊥
    none e i = elim i [ ]

among_one : {A : Type 0} (e x : A) → Among e (x ∷ []) ↔ ((e ≡ x) ⊎ Among e [])
among_one e x = (among_cases e x [], back)
  where
    back : (e ≡ x) ⊎ Among e [] → Among e (x ∷ [])
    back (inl q) = among_first e x [] q
    back (inr i) = elim i [ ]

pub first_row : FirstRowsCanBeShown
first_row root positive row = record {
  number = root;
  prefix = [];
  old = new_border;
  new = first_row_border row;
  writes = record {
    stands = record { posted = true; place = charted_root root positive; node = at_root root new_border positive };
    written = record { now = at_root root (first_row_border row) positive; rest = others };
    low = refl;
    empty = λ e. absurd (let c : false ≡ true = e in cc);
  };
  right = refl;
  entry = record { slice = 0; content = short 0 row };
  place = last 0 0;
  is_key = refl;
  holds = (refl, refl);
  entries = λ each. among_one each (record { slice = 0; content = short 0 row });
  lacked = λ each i. elim i [ ];
  from_low = omega arith;
  to_right = no_right;
}
  where
    others : (other : ℕ) → other ≢ root → first_row_arena root row other ≡ new_arena root other
    others zero ne = refl
    others (suc other) ne = only_elsewhere root (border (first_row_border row)) (suc other) ne ∙ sym (only_elsewhere root (border new_border) (suc other) ne)

pub rows_in_borders : RowsAreInBorders
rows_in_borders arena chart tree key row = (stored arena chart tree key row, has arena chart tree key row)

pub one_row_each : KeysHaveOneRow
one_row_each arena chart tree key row other h g = one_row arena chart tree key row other (stored arena chart tree key row h) (stored arena chart tree key other g)

pub at_their_places : KeysAreAtTheirPlaces
at_their_places arena chart number prefix node place tree w none row =
    at_place arena chart tree number prefix node place w.stands w.from_low w.to_right (λ z h e i. none (z, h, e, i)) row

pub in_their_intervals : KeysAreInTheirIntervals
in_their_intervals arena chart number prefix node place tree w row h = in_interval arena chart tree number prefix node place w.stands w.from_low w.to_right row h

pub roots_held : RootsAreHeld
roots_held arena chart tree begun number held slice prefix node h there alive = holds_root arena chart tree begun number slice held prefix node h there alive

pub children_held : ChildrenAreHeld
children_held arena chart tree begun number slice prefix node child h there alive among low = holds_child arena chart tree begun number slice prefix node child h there alive among low

pub some_child : SomeChildLeadsOn
some_child arena chart tree begun number slice prefix node h there alive = first_child arena chart tree begun number slice prefix node h there alive

pub borders_on : HeldBordersAreOn
borders_on arena chart tree begun number slice prefix node h there alive = border_is_on arena chart tree begun number slice prefix node h there alive

pub rights_held : RightNeighboursAreHeld
rights_held arena chart tree begun number slice prefix node right o e low = holds_right arena chart tree begun number slice 0 prefix node right o e low

pub links_held : LinkedHeadsAreHeld
links_held arena chart tree begun number at slice next prefix node o among = holds_link arena chart tree begun number slice at next prefix node o among

pub nodes_there : HeldNodesAreThere
nodes_there arena chart tree begun number slice prefix h = range_node arena chart tree begun number slice prefix h

pub free_interiors_on : FreeInteriorsAreOn
free_interiors_on arena chart tree number below prefix low standing node place there alive free = interior_is_on arena chart tree number below prefix low standing node place there alive free

pub left_found : LeftNeighboursAreFound
left_found arena chart tree left number slice prefix node other o p low next right = next_is arena chart tree left number slice prefix node other o p low next right
