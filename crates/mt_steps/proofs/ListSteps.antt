-- The step of a range or build that reads one field: what it is lent, and where that leads.
use Rattle.std.proofs.Common.{ℕ, ◌≡◌, ◌<◌, ◌≤◌, ◌^◌, false, List, ◌∷◌, length, Option, Some, None, refl, sym, ap, subst, ◌∙◌}
use Rattle.std.specs.Prelude.{slice_index, IsSome}
use Rattle.std.specs.Option.{option_and_then}
use Rattle.mt_arena.specs.Arena.{ArenaView}
use Rattle.mt_arena.specs.Node.{node_at, border_at, border_of, interior_at, interior_of, IsNode}
use Rattle.mt_arena.specs.Parts.{IsPart}
use Rattle.mt_arena.specs.declared.node.Node.{Node}
use Rattle.mt_arena.specs.declared.node.Node.TheVariants.{Head as HeadNode, Interior as InteriorNode, Border as BorderNode}
use Rattle.mt_arena.specs.declared.part.Field.TheVariants.{Version as VersionField, Right as RightField, Order as OrderField, Key as KeyField, Value as ValueField}
use Rattle.mt_arena.specs.declared.part.Part.{Part}
use Rattle.mt_border.specs.Border.{BorderView}
use Rattle.mt_interior.specs.Head.{HeadView}
use Rattle.mt_interior.specs.Interior.{InteriorView}
use Rattle.mt_tree.specs.Descent.{visit_head, visit_interior}
use Rattle.mt_tree.specs.declared.visit.Visit.TheVariants.{Again as VisitAgain, To as VisitTo}
use Rattle.mt_steps.specs.Reader.{IsReader, MayRead, by_visit, wants}
use Rattle.mt_steps.specs.Listing.{Listing}
use Rattle.mt_steps.specs.declared.reader.Reader.TheVariants.{Begins, Looked, Bounded, Reads, AtValue, Settles}
use Rattle.mt_steps.specs.Listing.{ListReading}
use Rattle.mt_steps.specs.Listing.{list_reading, ListingIsTrue, ListLeads}
use Rattle.mt_steps.specs.Standing.{Lends}
use Rattle.mt_steps.specs.World.{World, IsWorld}
use Rattle.mt_steps.proofs.ListLemmas.{leads_looked, leads_bounded, leads_ordered, leads_key, leads_value, leads_settled}
use Rattle.mt_steps.proofs.PartLemmas.{lends_field, version_part, right_part, order_part, key_part, value_part, head_part, interior_part}
use Rattle.mt_steps.proofs.RangeLemmas.{slice_back}
use Rattle.mt_types.specs.declared.row.Row.{Row}
use Rattle.mt_chart.specs.Tree.{Arena}
use Rattle.mt_chart.specs.Chart.{Holds}
use Rattle.mt_slice.specs.Place.{slice_number}
use Rattle.std.specs.Int.{w64, to_be_bytes}
use Rattle.mt_arena.specs.Node.{head_at, head_of}
use Rattle.mt_tree.specs.Seen.{arena_seen}
use Rattle.mt_tree.specs.Descent.{MayVisit, LeadsOn as VisitLeads}
use Rattle.mt_tree.specs.declared.visit.Visit.{Visit}
use Rattle.mt_tree.specs.declared.visit.Visit.TheVariants.{Below as VisitBelow, Here as VisitHere}
use Rattle.mt_tree.proofs.DescentLemmas.{leads_head, leads_interior}
use Rattle.mt_tree.proofs.HeldLemmas.{held_may_visit}

-- ---- what a reading leads to
module _ (show : Row → Row) (a : ArenaView) (now : ℕ) (w : World) (world : IsWorld a now w) (begun : ℕ) (prefix : List ℕ) (slice number : ℕ) (past : List Arena) (fits : slice < 2 ^ 64) (held : Holds w.chart begun number prefix slice) where
  abbrev Leads : ListReading → Type 0
  Leads reading = ListLeads show prefix slice number begun past a w reading

  abbrev rest : List ℕ
  rest = to_be_bytes w64 slice

  same : slice_number rest ≡ slice
  same = slice_back slice rest refl fits

  held_rest : Holds w.chart begun number prefix (slice_number rest)
  held_rest = subst (λ (s : ℕ). Holds w.chart begun number prefix s) (sym same) held

  visit_leads : (visit : Visit) → VisitLeads a number rest visit → Leads (by_visit visit)
  visit_leads VisitAgain leads = tt
  visit_leads (VisitTo next) leads = subst (λ (s : ℕ). Holds w.chart begun next.0 prefix s) same (leads.leads now w.twins w.chart begun prefix world.index held_rest)
  visit_leads (VisitBelow head) leads = tt
  visit_leads VisitHere leads = tt

  may : MayVisit a number slice
  may = held_may_visit a now w.twins w.chart begun number slice prefix world.index held

  at_head : (h : HeadView) → head_at a.nodes number ≡ Some h → (part : Part) → IsPart (HeadNode h) VersionField part → Leads (list_reading Begins slice part)
  at_head h named part is =
      let (own, one, view) = head_part h VersionField part is in
      subst (λ (p : Part). Leads (list_reading Begins slice p)) (sym one)
      (subst (λ (x : HeadView). Leads (by_visit (visit_head x))) (sym view) (visit_leads (visit_head h) (leads_head a number rest h named)))

  at_interior : (i : InteriorView) → interior_at a.nodes number ≡ Some i → IsNode (InteriorNode i) → (part : Part) → IsPart (InteriorNode i) VersionField part → Leads (list_reading Begins slice part)
  at_interior i named sound part is =
      let (own, one, view) = interior_part i VersionField part is in
      subst (λ (p : Part). Leads (list_reading Begins slice p)) (sym one)
      (subst (λ (x : InteriorView). Leads (by_visit (visit_interior slice x))) (sym view)
      (visit_leads (visit_interior slice i) (subst (λ (s : ℕ). VisitLeads a number rest (visit_interior s i)) same
      (leads_interior a number rest i named sound (subst (λ (s : ℕ). i.version.deleted ≡ false → (0 < length i.children) × (i.low ≤ s)) (sym same) (may.has_child i named))))))

  at_border : (b : BorderView) → border_at a.nodes number ≡ Some b → IsNode (BorderNode b) → (part : Part) → IsPart (BorderNode b) VersionField part → Leads (list_reading Begins slice part)
  at_border b named sound part is =
      subst (λ (p : Part). Leads (list_reading Begins slice p)) (sym (version_part b part is)) (leads_looked show a now w world begun prefix slice number past b named sound held)

  at_node : (node : Node) → node_at a.nodes number ≡ Some node → IsNode node → (part : Part) → IsPart node VersionField part → Leads (list_reading Begins slice part)
  at_node (HeadNode h) named sound part is = at_head h (ap (option_and_then head_of) named) part is
  at_node (InteriorNode i) named sound part is = at_interior i (ap (option_and_then interior_of) named) sound part is
  at_node (BorderNode b) named sound part is = at_border b (ap (option_and_then border_of) named) sound part is

  -- WHAT IT READS LEADS where it says
  pub list_leads : (listing : Listing) → ListingIsTrue show prefix slice number listing begun (arena_seen a ∷ past) a w → (part : Part) → Lends a number (wants listing) part → Leads (list_reading listing slice part)
  list_leads Begins truth part lent = at_node lent.node lent.named lent.sound part lent.is
  list_leads (Looked counters) at part lent =
      let field = lends_field a number RightField part lent at.b at.named in
      subst (λ (p : Part). Leads (list_reading (Looked counters) slice p)) (sym (right_part at.b part field.is)) (leads_bounded show a now w world begun prefix slice number past counters at)
  list_leads (Bounded counters right) (at, bounded) part lent =
      let field = lends_field a number OrderField part lent at.b at.named in
      subst (λ (p : Part). Leads (list_reading (Bounded counters right) slice p)) (sym (order_part at.b part field.is)) (leads_ordered show a now w world begun prefix slice number past counters at field.sound right bounded)
  list_leads (Reads notes) (at, bounded, within, fews, lists) part lent =
      let n = slice_index notes.glance.order.live notes.place in
      let field = lends_field a number (KeyField n) part lent at.b at.named in
      let (key, one, is) = key_part at.b n part field.is in
      subst (λ (p : Part). Leads (list_reading (Reads notes) slice p)) (sym one) (leads_key show a now w world begun prefix slice number past notes at bounded within fews lists field.sound key is)
  list_leads (AtValue notes key) (at, bounded, within, fews, lists, has) part lent =
      let n = slice_index notes.glance.order.live notes.place in
      let field = lends_field a number (ValueField n) part lent at.b at.named in
      let (value, one, is) = value_part at.b n part field.is in
      subst (λ (p : Part). Leads (list_reading (AtValue notes key) slice p)) (sym one) (leads_value show a now w world begun prefix slice number past notes at bounded within fews lists key has value is)
  list_leads (Settles counters listed) (at, bounded, few, lists) part lent =
      let field = lends_field a number VersionField part lent at.b at.named in
      subst (λ (p : Part). Leads (list_reading (Settles counters listed) slice p)) (sym (version_part at.b part field.is)) (leads_settled show a now w world begun prefix slice number past counters at listed bounded few lists)

  -- ---- what its step asks
  pub list_within : (listing : Listing) → ListingIsTrue show prefix slice number listing begun (arena_seen a ∷ past) a w → IsReader listing
  list_within Begins truth = tt
  list_within (Looked counters) at = tt
  list_within (Bounded counters right) truth = tt
  list_within (Reads notes) (at, bounded, within, fews, lists) = within
  list_within (AtValue notes key) (at, bounded, within, fews, lists, has) = within
  list_within (Settles counters listed) truth = tt

  not_none : (b : BorderView) → border_at a.nodes number ≡ Some b → border_at a.nodes number ≡ None → (listing : Listing) → listing ≡ Begins
  not_none b named none listing = absurd (let clash : ◌≡◌ {A = Option BorderView} (Some b) None = sym named ∙ none in cc)

  begins_inside : (listing : Listing) → ListingIsTrue show prefix slice number listing begun (arena_seen a ∷ past) a w → border_at a.nodes number ≡ None → listing ≡ Begins
  begins_inside Begins truth none = refl
  begins_inside (Looked counters) at none = not_none at.b at.named none (Looked counters)
  begins_inside (Bounded counters right) (at, more) none = not_none at.b at.named none (Bounded counters right)
  begins_inside (Reads notes) (at, bounded, within, fews, lists) none = not_none at.b at.named none (Reads notes)
  begins_inside (AtValue notes key) (at, bounded, within, fews, lists, has) none = not_none at.b at.named none (AtValue notes key)
  begins_inside (Settles counters listed) (at, bounded, few, lists) none = not_none at.b at.named none (Settles counters listed)

  pub list_may_read : (listing : Listing) → ListingIsTrue show prefix slice number listing begun (arena_seen a ∷ past) a w → MayRead a number slice listing
  list_may_read listing truth = record { begins = begins_inside listing truth; child = may.has_child }

  pub list_node : IsSome (node_at a.nodes number)
  list_node = may.named
