-- An open range through its call: its begin, what others do, its own moves, its end.
use Rattle.std.proofs.Common.{ℕ, zero, suc, ◌≡◌, ◌<◌, ◌≤◌, ◌⊎◌, inl, inr, List, [], ◌∷◌, ◌++◌, length, Option, Some, None, true, false, refl, sym, subst, ◌∙◌, arith}
use Rattle.std.proofs.lemmas.List.{append-nil}
use Rattle.mt_slice.specs.Place.{Place, last, deeper, under, Precedes, first_slice}
use Rattle.mt_types.specs.declared.row.Row.{Row}
use Rattle.mt_chart.specs.Tree.{link, PlainEntry, Right, HeadNode, BorderNode, PlainChild, InteriorNode, head, border, interior, PlainNode, Arena, Among, first, Below, Has}
use Rattle.mt_chart.specs.Chart.{Standing, on, gone, Role, top, at_level, spot, Chart, OnBorder, IsTree, Holds, Evolves}
use Rattle.mt_chart.specs.NotedList.{IsNotedList}
use Rattle.mt_chart.specs.Scan.{AtMost, Pair, UpTo, Listed, AnswersRange, Scanned, OpenRange, Visiting, VisitOutcome, answers, goes, AtEnd, BorderVisit, Comes}
use Rattle.mt_chart.proofs.PlaceOrder.{not_both, then_most}
use Rattle.mt_chart.proofs.Entries.{InOrder, among_append}
use Rattle.mt_chart.proofs.Keys.{in_interval}
use Rattle.mt_chart.proofs.Reach.{has}
use Rattle.mt_chart.proofs.HeldNodes.{holds_kept, holds_root, holds_child, holds_right, holds_link, border_is_on}
use Rattle.mt_chart.proofs.Visit.{visit_begins, visit_passes, row_passed, link_passed, visit_takes, visit_enters, visit_goes_right, visit_ends, visit_leaves}

-- layer 0's head is always there
pub holds_top : (arena : Arena) (chart : Chart) → IsTree arena chart → (begun s : ℕ) → Holds chart begun 0 [] s
holds_top arena chart tree begun s = record { role = top; low = 0; standing = on true; place = tree.layer_0; at_most = omega arith; since = λ e q. absurd (let k : on true ≡ gone e = q in cc) }

pub scan_begins : {V : Type 0} (stood : Place → V → Type 0) (throughout : Place → Type 0) (start : Place) (limit : ℕ) → Scanned stood throughout start limit start []
scan_begins {V} stood throughout start limit = record {
  onward = inl refl;
  rises = tt;
  from_start = λ pair i. elim i [ ];
  few = omega arith;
  shown = λ pair i. elim i [ ];
  covered = λ key f h t. go key f h;
}
  where
    go : (key : Place) → AtMost start key → Precedes key start ⊎ UpTo {V = V} key [] → Listed {V = V} key []
    go key f (inl h) = absurd (not_both start key f h)
    go key f (inr u) = elim u.1 [ ]

-- at its begin
pub range_begins : {V : Type 0} (arena : Arena) (chart : Chart) → IsTree arena chart → (begun : ℕ) (stood : Place → V → Type 0) (throughout : Place → Type 0) (start : Place) (limit : ℕ) →
    OpenRange chart begun stood throughout start limit [] 0 start []
range_begins arena chart tree begun stood throughout start limit = record { held = holds_top arena chart tree begun (first_slice start); scanned = scan_begins stood throughout start limit }

pub scan_later : {V : Type 0} (stood stood_later : Place → V → Type 0) (throughout throughout_later : Place → Type 0) (start : Place) (limit : ℕ) (cursor : Place) (taken : List (Pair V)) →
    ((key : Place) (v : V) → stood key v → stood_later key v) → ((key : Place) → throughout_later key → throughout key) →
    Scanned stood throughout start limit cursor taken → Scanned stood_later throughout_later start limit cursor taken
scan_later stood stood_later throughout throughout_later start limit cursor taken f g s = record {
  onward = s.onward;
  rises = s.rises;
  from_start = s.from_start;
  few = s.few;
  shown = λ pair i. f pair.key pair.value (s.shown pair i);
  covered = λ key from h t. s.covered key from h (g key t);
}

-- while others continue, whatever they do to the content
pub range_kept : {V : Type 0} (begun : ℕ) (chart new : Chart) (stood stood_later : Place → V → Type 0) (throughout throughout_later : Place → Type 0) (start : Place) (limit : ℕ)
    (p : List ℕ) (n : ℕ) (at : Place) (taken : List (Pair V)) → Evolves begun chart new →
    ((key : Place) (v : V) → stood key v → stood_later key v) → ((key : Place) → throughout_later key → throughout key) →
    OpenRange chart begun stood throughout start limit p n at taken → OpenRange new begun stood_later throughout_later start limit p n at taken
range_kept begun chart new stood stood_later throughout throughout_later start limit p n at taken e f g r = record {
  held = holds_kept begun n p (first_slice at) chart new e r.held;
  scanned = scan_later stood stood_later throughout throughout_later start limit (under p at) taken f g r.scanned;
}

-- the cursor may be put back, though not before the start
pub scan_back : {V : Type 0} (stood : Place → V → Type 0) (throughout : Place → Type 0) (start : Place) (limit : ℕ) (cursor back : Place) (taken : List (Pair V)) →
    AtMost start back → AtMost back cursor → Scanned stood throughout start limit cursor taken → Scanned stood throughout start limit back taken
scan_back stood throughout start limit cursor back taken f g s = record {
  onward = f;
  rises = s.rises;
  from_start = s.from_start;
  few = s.few;
  shown = s.shown;
  covered = λ key from h t. s.covered key from (go key h) t;
}
  where
    go : (key : Place) → Precedes key back ⊎ UpTo key taken → Precedes key cursor ⊎ UpTo key taken
    go key (inl h) = inl (then_most key back cursor h g)
    go key (inr u) = inr u

-- a restart at layer 0's head: the cursor is the same place, seen from layer 0
pub range_again : {V : Type 0} (arena : Arena) (chart : Chart) → IsTree arena chart → (begun : ℕ) (stood : Place → V → Type 0) (throughout : Place → Type 0) (start : Place) (limit : ℕ)
    (p : List ℕ) (n : ℕ) (at : Place) (taken : List (Pair V)) → OpenRange chart begun stood throughout start limit p n at taken →
    OpenRange chart begun stood throughout start limit [] 0 (under p at) taken
range_again arena chart tree begun stood throughout start limit p n at taken r = record { held = holds_top arena chart tree begun (first_slice (under p at)); scanned = r.scanned }

-- the same with the cursor put back, as when the cursor at a key, set in the layer of that key, is read as the key
pub range_again_at : {V : Type 0} (arena : Arena) (chart : Chart) → IsTree arena chart → (begun : ℕ) (stood : Place → V → Type 0) (throughout : Place → Type 0) (start : Place) (limit : ℕ)
    (p : List ℕ) (n : ℕ) (at back : Place) (taken : List (Pair V)) → AtMost start back → AtMost back (under p at) → OpenRange chart begun stood throughout start limit p n at taken →
    OpenRange chart begun stood throughout start limit [] 0 back taken
range_again_at arena chart tree begun stood throughout start limit p n at back taken f g r =
    record { held = holds_top arena chart tree begun (first_slice back); scanned = scan_back stood throughout start limit (under p at) back taken f g r.scanned }

-- if the limit is reached
pub range_full : {V : Type 0} (stood : Place → V → Type 0) (throughout : Place → Type 0) (start : Place) (limit : ℕ) (cursor : Place) (taken : List (Pair V)) →
    Scanned stood throughout start limit cursor taken → length taken ≡ limit → AnswersRange stood throughout start limit taken
range_full stood throughout start limit cursor taken s full = record {
  rises = s.rises;
  from_start = s.from_start;
  few = s.few;
  shown = s.shown;
  complete = λ key f t h. go key f t h;
}
  where
    go : (key : Place) → AtMost start key → throughout key → (length taken < limit) ⊎ UpTo key taken → Listed key taken
    go key f t (inl h) = absurd (omega arith)
    go key f t (inr u) = s.covered key f (inr u) t

-- the scan's own moves
module _ {V : Type 0} (arena : Arena) (chart : Chart) (tree : IsTree arena chart) (begun : ℕ) (stood : Place → V → Type 0) (throughout : Place → Type 0) (start : Place) (limit : ℕ)
    (p : List ℕ) (n : ℕ) (at : Place) (taken : List (Pair V)) (range : OpenRange chart begun stood throughout start limit p n at taken) where
  pub range_head : (t : HeadNode) → arena n ≡ Some (head t) → t.deleted ≡ false → OpenRange chart begun stood throughout start limit p t.root at taken
  range_head t e d = record { held = holds_root arena chart tree begun n (first_slice at) (first_slice at) p t range.held e d; scanned = range.scanned }

  pub range_interior : (t : InteriorNode) (c : PlainChild) → arena n ≡ Some (interior t) → t.deleted ≡ false → Among c t.children → c.low ≤ first_slice at →
      OpenRange chart begun stood throughout start limit p c.number at taken
  range_interior t c e d i le = record { held = holds_child arena chart tree begun n (first_slice at) p t c range.held e d i le; scanned = range.scanned }

  pub range_right : (b : BorderNode) (r : Right) → arena n ≡ Some (border b) → b.deleted ≡ false → b.right ≡ Some r → r.low ≤ first_slice at →
      OpenRange chart begun stood throughout start limit p r.number at taken
  range_right b r e d q le = record { held = holds_right arena chart tree begun n (first_slice at) 0 p b r (border_is_on arena chart tree begun n (first_slice at) p b range.held e d).0 q le; scanned = range.scanned }

-- a cursor inside the layer of a link: the link is entered with no visit
pub range_link : {V : Type 0} (arena : Arena) (chart : Chart) → IsTree arena chart → (begun : ℕ) (stood : Place → V → Type 0) (throughout : Place → Type 0) (start : Place) (limit : ℕ)
    (p : List ℕ) (n s h : ℕ) (x : Place) (taken : List (Pair V)) → OpenRange chart begun stood throughout start limit p n (deeper s x) taken →
    (b : BorderNode) → arena n ≡ Some (border b) → b.deleted ≡ false → Among (record { slice = s; content = link h }) b.entries →
    OpenRange chart begun stood throughout start limit (s ∷ p) h x taken
range_link arena chart tree begun stood throughout start limit p n s h x taken range b e d i = record {
  held = holds_link arena chart tree begun n (first_slice x) s h p b (border_is_on arena chart tree begun n s p b range.held e d).0 i;
  scanned = range.scanned;
}

-- the visit of what was noted of a border, from its place on
module _ {V : Type 0} (show : Row → V) (chart : Chart) (begun : ℕ) (stood : Place → V → Type 0) (throughout : Place → Type 0) (at_top : (slice : ℕ) → Holds chart begun 0 [] slice)
    (start : Place) (limit : ℕ) (p : List ℕ) (b : BorderNode) (noted : IsNotedList show chart begun stood throughout p b.low b.right b.entries) (in_order : InOrder b.entries)
    (at : Place) (from_low : b.low ≤ first_slice at) (to_right : Below (first_slice at) b.right) where
  onto : (done : List PlainEntry) (e : PlainEntry) (todo : List PlainEntry) (taken : List (Pair V)) (h : ℕ) → Visiting stood throughout start limit p b at done (e ∷ todo) taken →
      e.content ≡ link h → Among (record { slice = e.slice; content = link h }) b.entries
  onto done e todo taken h v q = subst (λ w. Among (record { slice = e.slice; content = w }) b.entries) q
      (subst (λ (es : List PlainEntry). Among e es) (sym v.split) ((among_append e done (e ∷ todo)).1 (inr first)))

  to_outcome : (out to : VisitOutcome V) → out ≡ to → Comes chart begun stood throughout start limit to → Comes chart begun stood throughout start limit out
  to_outcome out to e h = subst (λ (w : VisitOutcome V). Comes chart begun stood throughout start limit w) (sym e) h

  at_end : (right : Option Right) (q : List ℕ) → b.right ≡ right → p ≡ q → (taken : List (Pair V)) (out : VisitOutcome V) → Visiting stood throughout start limit p b at b.entries [] taken →
      AtEnd q right taken out → Comes chart begun stood throughout start limit out
  at_end (Some r) q e k taken out v h = to_outcome out (goes q r.number (last r.low 0) taken) h
      (subst (λ (w : List ℕ). OpenRange chart begun stood throughout start limit w r.number (last r.low 0) taken) k (record {
        held = noted.next r e r.low (omega arith);
        scanned = visit_goes_right stood throughout show chart begun start limit p b noted in_order at from_low to_right taken r v e;
      }))
  at_end None [] e k taken out v h = to_outcome out (answers taken) h
      (visit_ends stood throughout show chart begun start limit p b noted in_order at from_low to_right taken v e k)
  at_end None (s ∷ u) e k taken out v h = to_outcome out (goes [] 0 (under u (last s 10)) taken) h (record {
    held = at_top (first_slice (under u (last s 10)));
    scanned = visit_leaves stood throughout show chart begun start limit p b noted in_order at from_low to_right taken s u v e k;
  })

  visited : (es : List PlainEntry) (done : List PlainEntry) (taken : List (Pair V)) (out : VisitOutcome V) → Visiting stood throughout start limit p b at done es taken →
      BorderVisit show limit p at b.right es taken out → Comes chart begun stood throughout start limit out
  visited [] done taken out v (inl f) = to_outcome out (answers taken) f.1 (range_full stood throughout start limit (under p at) taken v.scanned f.0)
  visited [] done taken out v (inr f) = at_end b.right p refl refl taken out (let e : done ≡ b.entries = sym (v.split ∙ append-nil done) in subst (λ (es : List PlainEntry). Visiting stood throughout start limit p b at es [] taken) e v) f
  visited (e ∷ es) done taken out v (inl f) = to_outcome out (answers taken) f.1 (range_full stood throughout start limit (under p at) taken v.scanned f.0)
  visited (e ∷ es) done taken out v (inr (inl (x, row, h, u, next))) = visited es (done ++ (e ∷ [])) taken out
      (visit_passes stood throughout show chart begun start limit p b noted in_order at from_low to_right done e es taken v
      (row_passed stood throughout show chart begun start limit p b noted in_order at from_low to_right e x row taken h u)) next
  visited (e ∷ es) done taken out v (inr (inr (inl (x, row, h, c, after, room, next)))) = visited es (done ++ (e ∷ [])) (taken ++ (record { key = under p x; value = show row } ∷ [])) out
      (visit_takes stood throughout show chart begun start limit p b noted in_order at from_low to_right done e es taken v x row h c after room) next
  visited (e ∷ es) done taken out v (inr (inr (inr (h, q, inl (c, next))))) = visited es (done ++ (e ∷ [])) taken out
      (visit_passes stood throughout show chart begun start limit p b noted in_order at from_low to_right done e es taken v
      (link_passed stood throughout show chart begun start limit p b noted in_order at from_low to_right e h taken q c)) next
  visited (e ∷ es) done taken out v (inr (inr (inr (h, q, inr (inl (c, f)))))) = to_outcome out (goes (e.slice ∷ p) h (last 0 0) taken) f (record {
    held = noted.heads e.slice h 0 (onto done e es taken h v q);
    scanned = visit_enters stood throughout show chart begun start limit p b noted in_order at from_low to_right done e es taken h v q c;
  })
  visited (e ∷ es) done taken out v (inr (inr (inr (h, q, inr (inr (x, k, f)))))) = to_outcome out (goes (e.slice ∷ p) h x taken) f (record {
    held = noted.heads e.slice h (first_slice x) (onto done e es taken h v q);
    scanned = subst (λ (w : Place). Scanned stood throughout start limit (under p w) taken) k v.scanned;
  })

-- the visit of what was noted: from the scan's fact before it to the scan's fact after it, or to the right answer
pub noted_visits : {V : Type 0} (show : Row → V) (chart : Chart) (begun : ℕ) (stood : Place → V → Type 0) (throughout : Place → Type 0) → ((slice : ℕ) → Holds chart begun 0 [] slice) →
    (start : Place) (limit : ℕ) (p : List ℕ) (n : ℕ) (at : Place) (taken : List (Pair V)) → OpenRange chart begun stood throughout start limit p n at taken →
    (b : BorderNode) → IsNotedList show chart begun stood throughout p b.low b.right b.entries → InOrder b.entries → b.low ≤ first_slice at → Below (first_slice at) b.right →
    (out : VisitOutcome V) → BorderVisit show limit p at b.right b.entries taken out → Comes chart begun stood throughout start limit out
noted_visits show chart begun stood throughout at_top start limit p n at taken range b noted ord lo hi out h =
    visited show chart begun stood throughout at_top start limit p b noted ord at lo hi b.entries [] taken out
    (visit_begins stood throughout show chart begun start limit p b noted ord at lo hi taken range.scanned) h

-- a border that is on is noted whole
pub border_is_noted : {V : Type 0} (show : Row → V) (arena : Arena) (chart : Chart) (tree : IsTree arena chart) (begun : ℕ) (stood : Place → V → Type 0) (throughout : Place → Type 0) →
    ((key : Place) (row : Row) → Has arena key row → stood key (show row)) → ((key : Place) → throughout key → (row : Row) × Has arena key row) →
    (p : List ℕ) (n : ℕ) (b : BorderNode) → OnBorder arena chart n p b → IsNotedList show chart begun stood throughout p b.low b.right b.entries
border_is_noted show arena chart tree begun stood throughout stands_now throughout_now p n b o = record {
  to_right = (tree.each_border n p b o).to_right;
  shown = λ e x row i h. stands_now (under p x) row (has arena chart tree (under p x) row (record { prefix = p; number = n; node = b; entry = e; place = x; on_border = o; live = i; holds = h; is_key = refl }));
  heads = λ s h sought i. holds_link arena chart tree begun n sought s h p b o i;
  covers = λ x lo hi t. elim (in_interval arena chart tree n p b x o lo hi (throughout_now (under p x) t).0 (throughout_now (under p x) t).1) [
    | inl (e, i, h) ↦ inl (e, (throughout_now (under p x) t).0, i, h)
    | inr other ↦ inr other
  ];
  next = λ r e s lo. holds_right arena chart tree begun n s 0 p b r o e lo;
}

-- the visit of a border: from the scan's fact before it to the scan's fact after it, or to the right answer
pub range_visits : {V : Type 0} (show : Row → V) (arena : Arena) (chart : Chart) → IsTree arena chart → (begun : ℕ) (stood : Place → V → Type 0) (throughout : Place → Type 0) →
    ((key : Place) (row : Row) → Has arena key row → stood key (show row)) → ((key : Place) → throughout key → (row : Row) × Has arena key row) →
    (start : Place) (limit : ℕ) (p : List ℕ) (n : ℕ) (at : Place) (taken : List (Pair V)) → OpenRange chart begun stood throughout start limit p n at taken →
    (b : BorderNode) → arena n ≡ Some (border b) → b.deleted ≡ false → InOrder b.entries → Below (first_slice at) b.right →
    (out : VisitOutcome V) → BorderVisit show limit p at b.right b.entries taken out → Comes chart begun stood throughout start limit out
range_visits show arena chart tree begun stood throughout stands_now throughout_now start limit p n at taken range b e d ord hi out h =
    let (o, lo) = border_is_on arena chart tree begun n (first_slice at) p b range.held e d in
    noted_visits show chart begun stood throughout (holds_top arena chart tree begun) start limit p n at taken range b
    (border_is_noted show arena chart tree begun stood throughout stands_now throughout_now p n b o) ord lo hi out h

-- there is a node where the scan is
pub range_node : (arena : Arena) (chart : Chart) → IsTree arena chart → (begun n s : ℕ) (p : List ℕ) → Holds chart begun n p s → (x : PlainNode) × (arena n ≡ Some x)
range_node arena chart tree begun n s p k = go k.role k.standing k.place
  where
    go : (role : Role) (st : Standing) → chart n ≡ Some (spot role p k.low st) → (x : PlainNode) × (arena n ≡ Some x)
    go top (on y) g = let u = tree.heads n p k.low y g in (head u.node, u.is_node)
    go top (gone f) g = let (u, i, j) = tree.gone_heads n p k.low f g in (head u, i)
    go (at_level zero) (on y) g = let (u, i, j) = tree.borders n p k.low y g in (border u, i)
    go (at_level zero) (gone f) g = let (u, i, j) = tree.gone_borders n p k.low f g in (border u, i)
    go (at_level (suc z)) st g = let u = tree.interiors n z p k.low st g in (interior u.node, u.is_node)
