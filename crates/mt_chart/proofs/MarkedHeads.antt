-- A head that is on and is marked deleted has one border, through each step.
use Rattle.std.proofs.Common.{ℕ, zero, suc, ◌≡◌, ◌≢◌, ◌<◌, ◌⊎◌, inl, inr, List, Option, Some, None, Bool, true, false, refl, sym, ap, ◌∙◌, subst, arith}
use Rattle.mt_chart.specs.Tree.{HeadNode, BorderNode, InteriorNode, PlainNode, head, border, interior, Arena, no_right}
use Rattle.mt_chart.specs.Chart.{on, Role, top, at_level, spot, Spot, Chart, OnHead, IsTree, Changes, IsLastBorder, MarkedHeads}
use Rattle.mt_chart.specs.TreeLaws.{MarkedLayersHaveOneBorder}
use Rattle.mt_chart.proofs.Basics.{same_number}
use Rattle.mt_chart.proofs.RootSteps.{head_root}

-- heads that are on were so, and stay as they are, or have such a root; and the roots stay such
pub marked_moves : (arena new : Arena) (chart more : Chart) → IsTree arena chart → MarkedHeads arena chart →
    ((j : ℕ) (p : List ℕ) (t : HeadNode) → OnHead more j p → new j ≡ Some (head t) → t.deleted ≡ true → IsLastBorder new t.root ⊎ (OnHead chart j p × (arena j ≡ Some (head t)))) →
    ((j : ℕ) (p : List ℕ) (t : HeadNode) → OnHead chart j p → arena j ≡ Some (head t) → t.deleted ≡ true → chart t.root ≡ Some (spot (at_level t.level) p 0 (on true)) → IsLastBorder arena t.root → IsLastBorder new t.root) → MarkedHeads new more
marked_moves arena new chart more tree marked heads last j p t g e d = go (heads j p t g e d)
  where
    go : IsLastBorder new t.root ⊎ (OnHead chart j p × (arena j ≡ Some (head t))) → IsLastBorder new t.root
    go (inl h) = h
    go (inr (g', e')) = last j p t g' e' d (head_root arena chart tree j p t g' e') (marked j p t g' e' d)

-- a head under the new chart, in which one number has another place
pub was_head : (chart more : Chart) (c : ℕ) (z : Spot) → Changes chart more c (Some z) → ((p : List ℕ) → z ≢ spot top p 0 (on true)) → (j : ℕ) (p : List ℕ) → OnHead more j p → OnHead chart j p
was_head chart more c z charted ne j p g = go (same_number j c)
  where
    go : (j ≡ c) ⊎ (j ≢ c) → OnHead chart j p
    go (inl e) = absurd (ne p (let w : more j ≡ more c = ap more e in let v = charted.now in cc))
    go (inr e) = sym (charted.rest j e) ∙ g

-- what is on stays as it is
pub marked_rest : (arena new : Arena) (chart more : Chart) → IsTree arena chart → MarkedHeads arena chart → ((j : ℕ) (p : List ℕ) → OnHead more j p → OnHead chart j p) →
    ((j : ℕ) (r : Role) (p : List ℕ) (l : ℕ) (y : Bool) → chart j ≡ Some (spot r p l (on y)) → new j ≡ arena j) → MarkedHeads new more
marked_rest arena new chart more tree marked was same = marked_moves arena new chart more tree marked
    (λ j p t g e d. inr (was j p g, sym (same j top p 0 true (was j p g)) ∙ e))
    (λ j p t g e d at last. let (x, e', r) = last in (x, same t.root (at_level t.level) p 0 true at ∙ e', r))

-- a node is written that is no head
pub marked_written : (arena new : Arena) (chart more : Chart) → IsTree arena chart → MarkedHeads arena chart → ((j : ℕ) (p : List ℕ) → OnHead more j p → OnHead chart j p) → (i : ℕ) (x : Option PlainNode) → Changes arena new i x →
    ((t : HeadNode) → x ≡ Some (head t) → ⊥) →
    ((j : ℕ) (p : List ℕ) (t : HeadNode) → OnHead chart j p → arena j ≡ Some (head t) → t.deleted ≡ true → chart t.root ≡ Some (spot (at_level t.level) p 0 (on true)) → t.root ≡ i → IsLastBorder arena i → IsLastBorder new i) → MarkedHeads new more
marked_written arena new chart more tree marked was i x change no_head kept = marked_moves arena new chart more tree marked
    (λ j p t g e d. stood j p t g e (same_number j i)) (λ j p t g e d at last. stays j p t g e d at last (same_number t.root i))
  where
    stood : (j : ℕ) (p : List ℕ) (t : HeadNode) → OnHead more j p → new j ≡ Some (head t) → (j ≡ i) ⊎ (j ≢ i) → IsLastBorder new t.root ⊎ (OnHead chart j p × (arena j ≡ Some (head t)))
    stood j p t g e (inl f) = absurd (no_head t (sym change.now ∙ (ap new (sym f) ∙ e)))
    stood j p t g e (inr f) = inr (was j p g, sym (change.rest j f) ∙ e)

    stays : (j : ℕ) (p : List ℕ) (t : HeadNode) → OnHead chart j p → arena j ≡ Some (head t) → t.deleted ≡ true → chart t.root ≡ Some (spot (at_level t.level) p 0 (on true)) → IsLastBorder arena t.root → (t.root ≡ i) ⊎ (t.root ≢ i) → IsLastBorder new t.root
    stays j p t g e d at last (inl f) = subst (λ (r : ℕ). IsLastBorder new r) (sym f) (kept j p t g e d at f (subst (λ (r : ℕ). IsLastBorder arena r) f last))
    stays j p t g e d at (y, e', r) (inr f) = (y, change.rest t.root f ∙ e', r)

-- a border is written that keeps its right link
pub marked_border : (arena new : Arena) (chart more : Chart) → IsTree arena chart → MarkedHeads arena chart → ((j : ℕ) (p : List ℕ) → OnHead more j p → OnHead chart j p) →
    (i : ℕ) (b b' : BorderNode) → arena i ≡ Some (border b) → Changes arena new i (Some (border b')) → b'.right ≡ b.right → MarkedHeads new more
marked_border arena new chart more tree marked was i b b' there change right = marked_written arena new chart more tree marked was i (Some (border b')) change (λ t e. cc) (λ j p t g e d at f last. kept last)
  where
    kept : IsLastBorder arena i → IsLastBorder new i
    kept (x, e, r) = let same : x ≡ b = cc in (b', change.now, right ∙ (ap (λ (v : BorderNode). v.right) (sym same) ∙ r))

-- an interior is written
pub marked_interior : (arena new : Arena) (chart more : Chart) → IsTree arena chart → MarkedHeads arena chart → ((j : ℕ) (p : List ℕ) → OnHead more j p → OnHead chart j p) →
    (i : ℕ) (x x' : InteriorNode) → arena i ≡ Some (interior x) → Changes arena new i (Some (interior x')) → MarkedHeads new more
marked_interior arena new chart more tree marked was i x x' there change = marked_written arena new chart more tree marked was i (Some (interior x')) change (λ t e. cc) (λ j p t g e d at f last. absurd (let (b, e', r) = last in cc))

-- a head is written that has such a root, if it is marked deleted
pub marked_head : (arena new : Arena) (chart more : Chart) → IsTree arena chart → MarkedHeads arena chart → ((j : ℕ) (p : List ℕ) → OnHead more j p → OnHead chart j p) →
    (h : ℕ) (t t' : HeadNode) → arena h ≡ Some (head t) → Changes arena new h (Some (head t')) → (t'.deleted ≡ true → IsLastBorder arena t'.root) → MarkedHeads new more
marked_head arena new chart more tree marked was h t t' there change own = marked_moves arena new chart more tree marked
    (λ j p u g e d. stood j p u g e d (same_number j h)) (λ j p u g e d at last. moved u.root last)
  where
    moved : (r : ℕ) → IsLastBorder arena r → IsLastBorder new r
    moved r (x, e, none) = (x, change.rest r (λ f. let w : arena r ≡ arena h = ap arena f in let c : ◌≡◌ {A = Option PlainNode} (Some (border x)) (Some (head t)) = cc in cc) ∙ e, none)

    stood : (j : ℕ) (p : List ℕ) (u : HeadNode) → OnHead more j p → new j ≡ Some (head u) → u.deleted ≡ true → (j ≡ h) ⊎ (j ≢ h) → IsLastBorder new u.root ⊎ (OnHead chart j p × (arena j ≡ Some (head u)))
    stood j p u g e d (inl f) =
        let here : new j ≡ new h = ap new f in
        let now = change.now in
        let same : t' ≡ u = cc in
        inl (subst (λ (v : HeadNode). IsLastBorder new v.root) same (moved t'.root (own (ap (λ (v : HeadNode). v.deleted) same ∙ d))))
    stood j p u g e d (inr f) = inr (was j p g, sym (change.rest j f) ∙ e)

-- a new head is over a border with nothing to its right
pub marked_layer : (arena new : Arena) (chart more : Chart) → IsTree arena chart → MarkedHeads arena chart → (i : ℕ) (b b' : BorderNode) → arena i ≡ Some (border b) → Changes arena new i (Some (border b')) → b'.right ≡ b.right →
    (t r : ℕ) (h : HeadNode) (x : BorderNode) → arena t ≡ Some (head h) → h.root ≡ r → arena r ≡ Some (border x) → x.right ≡ None → r ≢ i → ((j : ℕ) (p : List ℕ) → j ≢ t → OnHead more j p → OnHead chart j p) → MarkedHeads new more
marked_layer arena new chart more tree marked i b b' there change right t r h x on_t root on_r none r_not_i was = marked_moves arena new chart more tree marked
    (λ j p u g e d. stood j p u g e (same_number j i) (same_number j t)) (λ j p u g e d at last. stays u.root last (same_number u.root i))
  where
    stays : (m : ℕ) → IsLastBorder arena m → (m ≡ i) ⊎ (m ≢ i) → IsLastBorder new m
    stays m (y, e, z) (inl f) =
        let here : arena m ≡ arena i = ap arena f in
        let same : y ≡ b = cc in
        (b', ap new f ∙ change.now, right ∙ (ap (λ (v : BorderNode). v.right) (sym same) ∙ z))
    stays m (y, e, z) (inr f) = (y, change.rest m f ∙ e, z)

    stood : (j : ℕ) (p : List ℕ) (u : HeadNode) → OnHead more j p → new j ≡ Some (head u) → (j ≡ i) ⊎ (j ≢ i) → (j ≡ t) ⊎ (j ≢ t) → IsLastBorder new u.root ⊎ (OnHead chart j p × (arena j ≡ Some (head u)))
    stood j p u g e (inl f) _ = absurd (let w : new j ≡ new i = ap new f in let n = change.now in let c : ◌≡◌ {A = Option PlainNode} (Some (border b')) (Some (head u)) = cc in cc)
    stood j p u g e (inr f) (inl f') =
        let here : arena j ≡ arena t = ap arena f' in
        let was_there = change.rest j f in
        let same : h ≡ u = cc in
        inl (subst (λ (v : ℕ). IsLastBorder new v) (sym root ∙ ap (λ (v : HeadNode). v.root) same) (x, change.rest r r_not_i ∙ on_r, none))
    stood j p u g e (inr f) (inr f') = inr (was j p f' g, sym (change.rest j f) ∙ e)

-- the one border of a layer whose head is marked deleted
pub only_border : (arena : Arena) (chart : Chart) → IsTree arena chart → MarkedHeads arena chart → (h : ℕ) (p : List ℕ) (t : HeadNode) → OnHead chart h p → arena h ≡ Some (head t) → t.deleted ≡ true →
    (c low : ℕ) (posted : Bool) → chart c ≡ Some (spot (at_level 0) p low (on posted)) → (t.root ≡ c) × (low ≡ 0) × (posted ≡ true)
only_border arena chart tree marked h p t on_h there deleted c low posted place =
    let (x, is, none) = marked h p t on_h there deleted in
    let root = head_root arena chart tree h p t on_h there in
    let (d, is_d, d_low) = tree.borders c p low posted place in
    let border_place = level_0 x is root t.level refl in
    let (x', is', x_low) = tree.borders t.root p 0 true border_place in
    let same_x : x' ≡ x = cc in
    let low_x : x.low ≡ 0 = subst (λ (v : BorderNode). v.low ≡ 0) same_x x_low in
    let same : t.root ≡ c = tree.disjoint t.root c p x d
    (record { posted = true; place = subst (λ (v : ℕ). chart t.root ≡ Some (spot (at_level 0) p v (on true))) (sym low_x) border_place; node = is })
    (record { posted = posted; place = subst (λ (v : ℕ). chart c ≡ Some (spot (at_level 0) p v (on posted))) (sym d_low) place; node = is_d })
    (omega (arith, low_x)) (rw none no_right) in
    let places : chart t.root ≡ chart c = ap chart same in
    let standings : on true ≡ on posted = cc in
    (same, cc, cc)
  where
    level_0 : (x : BorderNode) → arena t.root ≡ Some (border x) → chart t.root ≡ Some (spot (at_level t.level) p 0 (on true)) → (level : ℕ) → t.level ≡ level → chart t.root ≡ Some (spot (at_level 0) p 0 (on true))
    level_0 x is root zero e = subst (λ (v : ℕ). chart t.root ≡ Some (spot (at_level v) p 0 (on true))) e root
    level_0 x is root (suc below) e =
        let u = tree.interiors t.root below p 0 (on true) (subst (λ (v : ℕ). chart t.root ≡ Some (spot (at_level v) p 0 (on true))) e root) in
        absurd (let here = u.is_node in let c : ◌≡◌ {A = Option PlainNode} (Some (border x)) (Some (interior u.node)) = cc in cc)

pub marked_layers : MarkedLayersHaveOneBorder
marked_layers now twins arena chart index number prefix node on_head there other low posted place another = go node.deleted refl
  where
    no : (node.root ≡ other) × (low ≡ 0) × (posted ≡ true) → (node.root ≢ other) ⊎ ((0 < low) ⊎ (posted ≡ false)) → ⊥
    no (e, f, g) (inl ne) = ne e
    no (e, f, g) (inr (inl lt)) = omega (arith, lt, f)
    no (e, f, g) (inr (inr z)) = let w : true ≡ false = sym g ∙ z in cc

    go : (b : Bool) → node.deleted ≡ b → b ≡ false
    go false e = refl
    go true e = absurd (no (only_border arena chart index.tree index.marked number prefix node on_head there e other low posted place) another)
