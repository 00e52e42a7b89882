-- A scan among other calls, from its begin to its answer.
use Rattle.std.proofs.Common.{ℕ, ◌≡◌, ◌<◌, ◌≤◌, ◌≢◌, ◌+◌, ◌⊎◌, inl, inr, List, [], ◌∷◌, ◌++◌, length, Option, Some, None, false, refl, sym, ap, subst, ◌∙◌, arith}
use Rattle.std.proofs.lemmas.List.{length-append}
use Rattle.mt_slice.specs.Place.{Place, last, deeper, under, Precedes, first_slice}
use Rattle.mt_types.specs.declared.row.Row.{Row}
use Rattle.mt_chart.specs.Tree.{PlainContent, short, long, link, PlainEntry, Right, BorderNode, border, Arena, Among, first, later, Below, HoldsRow, Has}
use Rattle.mt_chart.specs.Chart.{Chart, IsTree}
use Rattle.mt_chart.specs.Scan.{AtMost, Pair, UpTo, AnswersRange, OpenRange, VisitOutcome, answers, goes, AtEnd, BorderVisit}
use Rattle.mt_chart.specs.ScanRun.{Stood, AllHave, Steady, Never, EntriesInOrder, Scans, begins, others, again, at_head, at_interior, to_right, into_layer, visits}
use Rattle.mt_chart.proofs.Basics.{same_number}
use Rattle.mt_chart.proofs.PlaceOrder.{either}
use Rattle.mt_chart.proofs.Entries.{InOrder, among_cases}
use Rattle.mt_chart.proofs.Visit.{enters}
use Rattle.mt_chart.proofs.Ranges.{range_begins, range_kept, range_again_at, range_head, range_interior, range_right, range_link, range_visits}

pub stands_now : {V : Type 0} (show : Row → V) (a : Arena) (past : List Arena) (key : Place) (row : Row) → Has a key row → Stood show (a ∷ past) key (show row)
stands_now show a past key row h = inl (row, h, refl)

pub in_order : (es : List PlainEntry) → EntriesInOrder es → InOrder es
in_order [] o = tt
in_order (e ∷ es) o = (o.0, in_order es o.1)

-- the fact of an open range holds all along
pub scan_keeps : {V : Type 0} (show : Row → V) (begun : ℕ) (start : Place) (limit : ℕ) {chart : Chart} {a : Arena} {past : List Arena} {p : List ℕ} {n : ℕ} {at : Place} {taken : List (Pair V)} →
    Scans show begun start limit chart a past p n at taken →
    IsTree a chart × OpenRange chart begun (Stood show (a ∷ past)) (AllHave (a ∷ past)) start limit p n at taken
scan_keeps show begun start limit (begins {chart = chart} {arena = a} tree) = (tree, range_begins a chart tree begun (Stood show (a ∷ [])) (AllHave (a ∷ [])) start limit)
scan_keeps show begun start limit (others {chart = chart} {new = new} {arena = a} {after = b} {past = past} {prefix = p} {number = n} {at = at} {taken = taken} s tree e) = (
  tree,
  range_kept begun chart new (Stood show (a ∷ past)) (Stood show (b ∷ (a ∷ past))) (AllHave (a ∷ past)) (AllHave (b ∷ (a ∷ past))) start limit p n at taken e
      (λ key v h. inr h) (λ key t. t.1) (scan_keeps show begun start limit s).1,
)
scan_keeps show begun start limit (again {chart = chart} {arena = a} {past = past} {prefix = p} {number = n} {at = at} {taken = taken} back s f g) =
    let (tree, r) = scan_keeps show begun start limit s in
    (tree, range_again_at a chart tree begun (Stood show (a ∷ past)) (AllHave (a ∷ past)) start limit p n at back taken f g r)
scan_keeps show begun start limit (at_head {chart = chart} {arena = a} {past = past} {prefix = p} {number = n} {at = at} {taken = taken} t s e d) =
    let (tree, r) = scan_keeps show begun start limit s in
    (tree, range_head a chart tree begun (Stood show (a ∷ past)) (AllHave (a ∷ past)) start limit p n at taken r t e d)
scan_keeps show begun start limit (at_interior {chart = chart} {arena = a} {past = past} {prefix = p} {number = n} {at = at} {taken = taken} t c s e d i le) =
    let (tree, r) = scan_keeps show begun start limit s in
    (tree, range_interior a chart tree begun (Stood show (a ∷ past)) (AllHave (a ∷ past)) start limit p n at taken r t c e d i le)
scan_keeps show begun start limit (to_right {chart = chart} {arena = a} {past = past} {prefix = p} {number = n} {at = at} {taken = taken} b q s e d w le) =
    let (tree, r) = scan_keeps show begun start limit s in
    (tree, range_right a chart tree begun (Stood show (a ∷ past)) (AllHave (a ∷ past)) start limit p n at taken r b q e d w le)
scan_keeps show begun start limit (into_layer {chart = chart} {arena = a} {past = past} {prefix = p} {number = n} {taken = taken} b t h x s e d i) =
    let (tree, r) = scan_keeps show begun start limit s in
    (tree, range_link a chart tree begun (Stood show (a ∷ past)) (AllHave (a ∷ past)) start limit p n t h x taken r b e d i)
scan_keeps show begun start limit (visits {chart = chart} {arena = a} {past = past} {prefix = p} {number = n} {at = at} {taken = taken} b q m to more s e d o hi w) =
    let (tree, r) = scan_keeps show begun start limit s in
    (tree, range_visits show a chart tree begun (Stood show (a ∷ past)) (AllHave (a ∷ past)) (stands_now show a past) (λ key t. t.0) start limit p n at taken r b e d (in_order b.entries o) hi (goes q m to more) w)

-- and its answer is right
pub scan_answers : {V : Type 0} (show : Row → V) (begun : ℕ) (start : Place) (limit : ℕ) (chart : Chart) (a : Arena) (past : List Arena) (p : List ℕ) (n : ℕ) (at : Place) (taken more : List (Pair V)) →
    Scans show begun start limit chart a past p n at taken → (b : BorderNode) → a n ≡ Some (border b) → b.deleted ≡ false → EntriesInOrder b.entries → Below (first_slice at) b.right →
    BorderVisit show limit p at b.right b.entries taken (answers more) → AnswersRange (Stood show (a ∷ past)) (AllHave (a ∷ past)) start limit more
scan_answers show begun start limit chart a past p n at taken more s b e d o hi w =
    let (tree, r) = scan_keeps show begun start limit s in
    range_visits show a chart tree begun (Stood show (a ∷ past)) (AllHave (a ∷ past)) (stands_now show a past) (λ key t. t.0) start limit p n at taken r b e d (in_order b.entries o) hi (answers more) w

-- each visit comes to an outcome
up_to_or_after : {V : Type 0} (key : Place) (taken : List (Pair V)) → UpTo key taken ⊎ ((y : Pair V) → Among y taken → Precedes y.key key)
up_to_or_after key [] = inr (λ y i. elim i [ ])
up_to_or_after {V} key (x ∷ xs) = go (either x.key key) (up_to_or_after key xs)
  where
    go : Precedes x.key key ⊎ AtMost key x.key → UpTo key xs ⊎ ((y : Pair V) → Among y xs → Precedes y.key key) → UpTo key (x ∷ xs) ⊎ ((y : Pair V) → Among y (x ∷ xs) → Precedes y.key key)
    go (inr h) u = inl (x, first, h)
    go (inl h) (inl u) = inl (u.0, later u.1, u.2)
    go (inl h) (inr u) = inr (λ y i. on (among_cases y x xs i))
      where
        on : {y : Pair V} → (y ≡ x) ⊎ Among y xs → Precedes y.key key
        on {y} (inl e) = subst (λ (w : Pair V). Precedes w.key key) (sym e) h
        on {y} (inr i) = u y i

end_total : {V : Type 0} (p : List ℕ) (right : Option Right) (taken : List (Pair V)) → (out : VisitOutcome V) × AtEnd p right taken out
end_total p (Some r) taken = (goes p r.number (last r.low 0) taken, refl)
end_total [] None taken = (answers taken, refl)
end_total (s ∷ u) None taken = (goes [] 0 (under u (last s 10)) taken, refl)

at_limit : {V : Type 0} (show : Row → V) (limit : ℕ) (p : List ℕ) (at : Place) (right : Option Right) (e : PlainEntry) (es : List PlainEntry) (taken : List (Pair V)) → length taken ≤ limit →
    ((t : List (Pair V)) → length t ≤ limit → (out : VisitOutcome V) × BorderVisit show limit p at right es t out) →
    (out : VisitOutcome V) × BorderVisit show limit p at right (e ∷ es) taken out
at_limit {V} show limit p at right e es taken few rest = go (same_number (length taken) limit)
  where
    row : (x : Place) (r : Row) → HoldsRow e.slice e.content x r → length taken < limit → Precedes x at ⊎ AtMost at x → UpTo (under p x) taken ⊎ ((y : Pair V) → Among y taken → Precedes y.key (under p x)) →
        (out : VisitOutcome V) × BorderVisit show limit p at right (e ∷ es) taken out
    row x r h room (inl c) u = let (out, v) = rest taken few in (out, inr (inl (x, r, h, inl c, v)))
    row x r h room (inr c) (inl u) = let (out, v) = rest taken few in (out, inr (inl (x, r, h, inr u, v)))
    row x r h room (inr c) (inr u) =
        let size : length (taken ++ (record { key = under p x; value = show r } ∷ [])) ≡ length taken + 1 = length-append taken (record { key = under p x; value = show r } ∷ []) in
        let (out, v) = rest (taken ++ (record { key = under p x; value = show r } ∷ [])) (omega arith) in (out, inr (inr (inl (x, r, h, c, u, room, v))))

    entered : (h : ℕ) → e.content ≡ link h → Precedes at (deeper e.slice (last 0 0)) ⊎ ((x : Place) × (at ≡ deeper e.slice x)) → (out : VisitOutcome V) × BorderVisit show limit p at right (e ∷ es) taken out
    entered h q (inl c) = (goes (e.slice ∷ p) h (last 0 0) taken, inr (inr (inr (h, q, inr (inl (c, refl))))))
    entered h q (inr (x, k)) = (goes (e.slice ∷ p) h x taken, inr (inr (inr (h, q, inr (inr (x, k, refl))))))

    at_link : (h : ℕ) → e.content ≡ link h → Precedes at (last e.slice 10) ⊎ AtMost (last e.slice 10) at → (out : VisitOutcome V) × BorderVisit show limit p at right (e ∷ es) taken out
    at_link h q (inl c) = entered h q (enters e.slice at c)
    at_link h q (inr c) = let (out, v) = rest taken few in (out, inr (inr (inr (h, q, inl (c, v)))))

    at_row : (x : Place) (r : Row) → HoldsRow e.slice e.content x r → length taken < limit → (out : VisitOutcome V) × BorderVisit show limit p at right (e ∷ es) taken out
    at_row x r h room = row x r h room (either x at) (up_to_or_after (under p x) taken)

    at_content : (c : PlainContent) → e.content ≡ c → length taken < limit → (out : VisitOutcome V) × BorderVisit show limit p at right (e ∷ es) taken out
    at_content (short k r) q room = at_row (last e.slice k) r (subst (λ (d : PlainContent). HoldsRow e.slice d (last e.slice k) r) (sym q) (refl, refl)) room
    at_content (long y r) q room = at_row (deeper e.slice y) r (subst (λ (d : PlainContent). HoldsRow e.slice d (deeper e.slice y) r) (sym q) (refl, refl)) room
    at_content (link h) q room = at_link h q (either at (last e.slice 10))

    go : (length taken ≡ limit) ⊎ (length taken ≢ limit) → (out : VisitOutcome V) × BorderVisit show limit p at right (e ∷ es) taken out
    go (inl f) = (answers taken, inl (f, refl))
    go (inr f) = at_content e.content refl (less f)
      where
        less : length taken ≢ limit → length taken < limit
        less g = grind (arith, g)

pub visits_total : {V : Type 0} (show : Row → V) (limit : ℕ) (p : List ℕ) (at : Place) (right : Option Right) (es : List PlainEntry) (taken : List (Pair V)) → length taken ≤ limit →
    (out : VisitOutcome V) × BorderVisit show limit p at right es taken out
visits_total show limit p at right [] taken few = let (out, h) = end_total p right taken in (out, inr h)
visits_total show limit p at right (e ∷ es) taken few = at_limit show limit p at right e es taken few (visits_total show limit p at right es)

-- what a reading by a scan says of a key that nobody changed: its row if it has one, and nothing if it has none
pub stood_steady : {V : Type 0} (show : Row → V) (past : List Arena) (key : Place) (row : Row) (v : V) → Stood show past key v → Steady past key row → v ≡ show row
stood_steady show [] key row v h t = elim h [ ]
stood_steady show (a ∷ past) key row v (inl (r, h, e)) t = sym e ∙ ap show (t.0 r h)
stood_steady show (a ∷ past) key row v (inr h) t = stood_steady show past key row v h t.1

pub stood_never : {V : Type 0} (show : Row → V) (past : List Arena) (key : Place) (v : V) → Stood show past key v → Never past key → ⊥
stood_never show [] key v h t = elim h [ ]
stood_never show (a ∷ past) key v (inl (r, h, e)) t = t.0 r h
stood_never show (a ∷ past) key v (inr h) t = stood_never show past key v h t.1
