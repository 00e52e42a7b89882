-- The node to which the visit of a border leads: the right neighbour, or the head of the layer of a link.
use Rattle.std.proofs.Common.{ℕ, ◌≡◌, ◌⊎◌, inl, inr, List, [], ◌∷◌, ◌++◌, Option, Some, None, refl, sym, ap, subst, ◌∙◌}
use Rattle.mt_types.specs.Rows.{shown}
use Rattle.mt_types.specs.declared.row.Row.{Row}
use Rattle.mt_slice.specs.Place.{Place, last, under}
use Rattle.mt_scan.specs.Listed.{ListView, list_entries, list_right}
use Rattle.mt_chart.specs.Tree.{PlainContent, link, PlainEntry, Right, Among, first, later}
use Rattle.mt_chart.specs.Scan.{Pair, VisitOutcome, answers, goes, AtEnd, BorderVisit}
use Rattle.mt_chart.specs.KeyAnswer.{as_places}
use Rattle.mt_scan.specs.Scan.{ScanView, VisitsList}
use Rattle.mt_scan.specs.Onward.{GoesFrom}
use Rattle.mt_scan.specs.declared.scan.ScanMove.{ScanMove}
use Rattle.mt_scan.specs.declared.scan.ScanMove.TheVariants.{Done, To, Top}

-- to a number that the right link names, or a link among the entries; or back to the head of layer 0
abbrev Leads : List PlainEntry → Option Right → ℕ → Type 0
Leads entries right number = (((link : Right) × (right ≡ Some link) × (link.number ≡ number))
    ⊎ ((slice : ℕ) × Among (record { slice = slice; content = link number }) entries)) ⊎ (number ≡ 0)

same_node : (to above : List ℕ) (number other : ℕ) (at place : Place) (taken after : List (Pair Row)) → ◌≡◌ {A = VisitOutcome Row} (goes to number at taken) (goes above other place after) → number ≡ other
same_node to above number other at place taken after e = cc

goes_on : (to : List ℕ) (number : ℕ) (at : Place) (taken after : List (Pair Row)) → ◌≡◌ {A = VisitOutcome Row} (goes to number at taken) (answers after) → ⊥
goes_on to number at taken after e = cc

module _ (show : Row → Row) (limit : ℕ) (prefix : List ℕ) (at : Place) (right : Option Right) (to : List ℕ) (number : ℕ) (place : Place) (after : List (Pair Row)) where
  ends : (taken : List (Pair Row)) (right : Option Right) (prefix : List ℕ) → AtEnd prefix right taken (goes to number place after) → Leads [] right number
  ends taken (Some neighbour) prefix end = inl (inl (neighbour, refl, sym (same_node to prefix number neighbour.number place (last neighbour.low 0) after taken end)))
  ends taken None [] end = absurd (goes_on to number place after taken end)
  ends taken None (slice ∷ above) end = inr (same_node to [] number 0 place (under above (last slice 10)) after taken end)

  one_more : (entry : PlainEntry) (entries : List PlainEntry) → Leads entries right number → Leads (entry ∷ entries) right number
  one_more entry entries (inl (inl neighbour)) = inl (inl neighbour)
  one_more entry entries (inl (inr (slice, there))) = inl (inr (slice, later there))
  one_more entry entries (inr home) = inr home

  at_link : (entry : PlainEntry) (entries : List PlainEntry) (next : ℕ) → entry.content ≡ link next → number ≡ next → Leads (entry ∷ entries) right number
  at_link entry entries next is same =
      inl (inr (entry.slice, subst (λ (content : PlainContent). Among (record { slice = entry.slice; content = content }) (entry ∷ entries)) (is ∙ ap link (sym same)) first))

  leads : (entries : List PlainEntry) (taken : List (Pair Row)) → BorderVisit show limit prefix at right entries taken (goes to number place after) → Leads entries right number
  leads [] taken (inl (full, is)) = absurd (goes_on to number place after taken is)
  leads [] taken (inr end) = ends taken right prefix end
  leads (entry ∷ entries) taken (inl (full, is)) = absurd (goes_on to number place after taken is)
  leads (entry ∷ entries) taken (inr (inl (here, row, holds, passed, rest))) = one_more entry entries (leads entries taken rest)
  leads (entry ∷ entries) taken (inr (inr (inl (here, row, holds, most, apart, room, rest)))) =
      one_more entry entries (leads entries (taken ++ (record { key = under prefix here; value = show row } ∷ [])) rest)
  leads (entry ∷ entries) taken (inr (inr (inr (next, is, inl (passed, rest))))) = one_more entry entries (leads entries taken rest)
  leads (entry ∷ entries) taken (inr (inr (inr (next, is, inr (inl (before, goes_to)))))) =
      at_link entry entries next is (same_node to (entry.slice ∷ prefix) number next place (last 0 0) after taken goes_to)
  leads (entry ∷ entries) taken (inr (inr (inr (next, is, inr (inr (rest, inside, goes_to)))))) =
      at_link entry entries next is (same_node to (entry.slice ∷ prefix) number next place rest after taken goes_to)

-- the visit of a border leads on from it
pub visit_leads : (s : ScanView) (list : ListView) (visited : ScanMove) (t : ScanView) → VisitsList s list visited t → GoesFrom list visited
visit_leads s list Done t visits = tt
visit_leads s list (To node) t visits =
    leads (shown s.asked) s.limit s.prefix s.at (list_right list) t.prefix node.0 t.at (as_places t.taken) (list_entries list) (as_places s.taken) visits
visit_leads s list Top t visits = tt
