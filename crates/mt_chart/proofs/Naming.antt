-- What is on in the tree of a layer is named by what is on, through each step.
use Rattle.std.proofs.Common.{ℕ, suc, ◌≡◌, ◌≢◌, ◌⊎◌, inl, inr, List, [], ◌∷◌, Option, Some, None, Bool, true, false, refl, sym, ap, ◌∙◌, subst}
use Rattle.mt_chart.specs.Tree.{HeadNode, PlainChild, InteriorNode, PlainNode, head, interior, Arena, Among, first, later}
use Rattle.mt_chart.specs.Chart.{Standing, on, gone, Role, top, at_level, Spot, spot, Chart, OnHead, Changes, Owns, by_head, by_interior, HasOwner, Named}
use Rattle.mt_chart.proofs.Basics.{same_number}
use Rattle.mt_chart.proofs.Owners.{interior_owns, head_owns, owner_moves}
use Rattle.mt_chart.proofs.InteriorSteps.{owner_place}

-- what stays where it is keeps an owner, and what comes to be on has one, or is a border that nobody may name
pub named_on : (arena new : Arena) (chart more : Chart) → Named arena chart →
    ((j d : ℕ) → chart d ≡ more d → Owns arena chart j d → HasOwner new more d) →
    ((d k : ℕ) (p : List ℕ) (l : ℕ) (y : Bool) → more d ≡ Some (spot (at_level k) p l (on y)) → (chart d ≡ more d) ⊎ (((k ≡ 0) × (y ≡ false)) ⊎ HasOwner new more d)) → Named new more
named_on arena new chart more named kept fresh d k p l y g = go (fresh d k p l y g)
  where
    still : chart d ≡ more d → ((k ≡ 0) × (y ≡ false)) ⊎ HasOwner arena chart d → ((k ≡ 0) × (y ≡ false)) ⊎ HasOwner new more d
    still e (inl u) = inl u
    still e (inr (j, o)) = inr (kept j d e o)

    go : (chart d ≡ more d) ⊎ (((k ≡ 0) × (y ≡ false)) ⊎ HasOwner new more d) → ((k ≡ 0) × (y ≡ false)) ⊎ HasOwner new more d
    go (inl e) = still e (named d k p l y (e ∙ g))
    go (inr u) = u

-- an owner whose node and place are as before owns the same
pub still_owns : (arena new : Arena) (chart more : Chart) (j d : ℕ) → new j ≡ arena j → more j ≡ chart j → Owns arena chart j d → HasOwner new more d
still_owns arena new chart more j d e f o = (j, owner_moves new arena more chart j d (sym e) (sym f) o)

-- what is not on, or is a border, owns nothing
abbrev pub NoOwner : Chart → ℕ → Type 0
NoOwner chart j = (r : Role) (p : List ℕ) (l : ℕ) (y : Bool) → chart j ≡ Some (spot r p l (on y)) → r ≡ at_level 0

pub owns_none : (arena : Arena) (chart : Chart) (j d : ℕ) → NoOwner chart j → Owns arena chart j d → ⊥
owns_none arena chart j d none o = let (r, p, l, y, g, ne) = owner_place arena chart j d o in ne (none r p l y g)

pub border_none : (chart : Chart) (j : ℕ) (p : List ℕ) (l : ℕ) (s : Standing) → chart j ≡ Some (spot (at_level 0) p l s) → NoOwner chart j
border_none chart j p l s g r q m y h = cc

pub gone_none : (chart : Chart) (j : ℕ) (r : Role) (p : List ℕ) (l e : ℕ) → chart j ≡ Some (spot r p l (gone e)) → NoOwner chart j
gone_none chart j r p l e g r' q m y h = absurd (let w : gone e ≡ on y = cc in cc)

pub unknown_none : (chart : Chart) (j : ℕ) → chart j ≡ None → NoOwner chart j
unknown_none chart j g r q m y h = absurd (let w : ◌≡◌ {A = Option Spot} None (Some (spot r q m (on y))) = sym g ∙ h in cc)

-- heads and interiors that are on stay as they are
pub named_rest : (arena new : Arena) (chart more : Chart) → Named arena chart →
    ((j : ℕ) (r : Role) (p : List ℕ) (l : ℕ) (y : Bool) → chart j ≡ Some (spot r p l (on y)) → r ≢ at_level 0 → (more j ≡ chart j) × (new j ≡ arena j)) →
    ((d k : ℕ) (p : List ℕ) (l : ℕ) (y : Bool) → more d ≡ Some (spot (at_level k) p l (on y)) → chart d ≡ more d) → Named new more
named_rest arena new chart more named same was = named_on arena new chart more named
    (λ j d e o. let (r, p, l, y, g, ne) = owner_place arena chart j d o in let (f, f') = same j r p l y g ne in still_owns arena new chart more j d f' f o)
    (λ d k p l y g. inl (was d k p l y g))

-- the node `i` is written, and the number `c` stands otherwise
pub named_step : (arena new : Arena) (chart more : Chart) (i c : ℕ) → ((j : ℕ) → j ≢ i → new j ≡ arena j) → ((j : ℕ) → j ≢ c → more j ≡ chart j) → Named arena chart →
    ((d : ℕ) → chart d ≡ more d → Owns arena chart i d → HasOwner new more d) → ((d : ℕ) → chart d ≡ more d → Owns arena chart c d → HasOwner new more d) →
    ((k : ℕ) (p : List ℕ) (l : ℕ) (y : Bool) → more c ≡ Some (spot (at_level k) p l (on y)) → (chart c ≡ more c) ⊎ (((k ≡ 0) × (y ≡ false)) ⊎ HasOwner new more c)) → Named new more
named_step arena new chart more i c node place named of_i of_c fresh = named_on arena new chart more named
    (λ j d e o. kept j d e o (same_number j i) (same_number j c)) (λ d k p l y g. stood d k p l y g (same_number d c))
  where
    kept : (j d : ℕ) → chart d ≡ more d → Owns arena chart j d → (j ≡ i) ⊎ (j ≢ i) → (j ≡ c) ⊎ (j ≢ c) → HasOwner new more d
    kept j d e o (inl f) _ = of_i d e (subst (λ (v : ℕ). Owns arena chart v d) f o)
    kept j d e o (inr f) (inl f') = of_c d e (subst (λ (v : ℕ). Owns arena chart v d) f' o)
    kept j d e o (inr f) (inr f') = still_owns arena new chart more j d (node j f) (place j f') o

    stood : (d k : ℕ) (p : List ℕ) (l : ℕ) (y : Bool) → more d ≡ Some (spot (at_level k) p l (on y)) → (d ≡ c) ⊎ (d ≢ c) → (chart d ≡ more d) ⊎ (((k ≡ 0) × (y ≡ false)) ⊎ HasOwner new more d)
    stood d k p l y g (inl e) = subst (λ (v : ℕ). (chart v ≡ more v) ⊎ (((k ≡ 0) × (y ≡ false)) ⊎ HasOwner new more v)) (sym e) (fresh k p l y (ap more (sym e) ∙ g))
    stood d k p l y g (inr e) = inl (sym (place d e))

-- a node is written that owns nothing, and the chart stays
pub named_written : (arena new : Arena) (chart : Chart) (i : ℕ) (x : Option PlainNode) → Changes arena new i x → NoOwner chart i → Named arena chart → Named new chart
named_written arena new chart i x change none named = named_step arena new chart chart i i change.rest (λ j ne. refl) named
    (λ d e o. absurd (owns_none arena chart i d none o)) (λ d e o. absurd (owns_none arena chart i d none o)) (λ k p l y g. inl refl)

-- a border is written, and another comes into its chain or goes from it, which nobody may name
pub named_chain : (arena new : Arena) (chart more : Chart) (i c : ℕ) (x : Option PlainNode) (z : Spot) → Changes arena new i x → NoOwner chart i → Changes chart more c (Some z) → NoOwner chart c →
    ((k : ℕ) (p : List ℕ) (l : ℕ) (y : Bool) → z ≡ spot (at_level k) p l (on y) → (k ≡ 0) × (y ≡ false)) → Named arena chart → Named new more
named_chain arena new chart more i c x z change none charted none_c unposted named = named_step arena new chart more i c change.rest charted.rest named
    (λ d e o. absurd (owns_none arena chart i d none o)) (λ d e o. absurd (owns_none arena chart c d none_c o))
    (λ k p l y g. inr (inl (unposted k p l y (let w = charted.now in cc))))

-- the new head `t` of a new layer names its border `r`
pub named_layer : (arena new : Arena) (chart more : Chart) (n : ℕ) (x : Option PlainNode) → Changes arena new n x → NoOwner chart n → (t r : ℕ) (h : HeadNode) (p : List ℕ) → chart t ≡ None → chart r ≡ None → t ≢ n →
    OnHead more t p → arena t ≡ Some (head h) → h.root ≡ r → ((j : ℕ) → j ≢ t → j ≢ r → more j ≡ chart j) → Named arena chart → Named new more
named_layer arena new chart more n x change none t r h p fresh_t fresh_r t_not_n on_t there root rest named = named_on arena new chart more named
    (λ j d e o. kept j d o (same_number j n) (same_number j t) (same_number j r)) (λ d k q l y g. stood d k q l y g (same_number d t) (same_number d r))
  where
    kept : (j d : ℕ) → Owns arena chart j d → (j ≡ n) ⊎ (j ≢ n) → (j ≡ t) ⊎ (j ≢ t) → (j ≡ r) ⊎ (j ≢ r) → HasOwner new more d
    kept j d o (inl e) _ _ = absurd (owns_none arena chart n d none (subst (λ (v : ℕ). Owns arena chart v d) e o))
    kept j d o (inr e) (inl f) _ = absurd (owns_none arena chart t d (unknown_none chart t fresh_t) (subst (λ (v : ℕ). Owns arena chart v d) f o))
    kept j d o (inr e) (inr f) (inl f') = absurd (owns_none arena chart r d (unknown_none chart r fresh_r) (subst (λ (v : ℕ). Owns arena chart v d) f' o))
    kept j d o (inr e) (inr f) (inr f') = still_owns arena new chart more j d (change.rest j e) (rest j f f') o

    stood : (d k : ℕ) (q : List ℕ) (l : ℕ) (y : Bool) → more d ≡ Some (spot (at_level k) q l (on y)) → (d ≡ t) ⊎ (d ≢ t) → (d ≡ r) ⊎ (d ≢ r) → (chart d ≡ more d) ⊎ (((k ≡ 0) × (y ≡ false)) ⊎ HasOwner new more d)
    stood d k q l y g (inl e) _ = absurd (let w : more d ≡ more t = ap more e in let w' = on_t in let v : top ≡ at_level k = cc in cc)
    stood d k q l y g (inr e) (inl f) = inr (inr (t, by_head p h on_t (change.rest t t_not_n ∙ there) (root ∙ sym f)))
    stood d k q l y g (inr e) (inr f) = inl (sym (rest d e f))

-- the head `t` of a layer goes, and the border `r` that it names
pub named_no_layer : (arena new : Arena) (chart more : Chart) (n : ℕ) (x : Option PlainNode) → Changes arena new n x → NoOwner chart n → (t r : ℕ) (h : HeadNode) (p : List ℕ) (low now : ℕ) (posted : Bool) → OnHead chart t p → arena t ≡ Some (head h) →
    h.root ≡ r → chart r ≡ Some (spot (at_level 0) p low (on posted)) → more t ≡ Some (spot top p 0 (gone now)) → more r ≡ Some (spot (at_level 0) p 0 (gone now)) → ((j : ℕ) → j ≢ t → j ≢ r → more j ≡ chart j) →
    Named arena chart → Named new more
named_no_layer arena new chart more n x change none t r h p low now posted on_t there root on_r goes_t goes_r rest named = named_on arena new chart more named
    (λ j d f o. kept j d f o (same_number j n) (same_number j t) (same_number j r)) (λ d k w v y g. stood d k w v y g (same_number d t) (same_number d r))
  where
    kept : (j d : ℕ) → chart d ≡ more d → Owns arena chart j d → (j ≡ n) ⊎ (j ≢ n) → (j ≡ t) ⊎ (j ≢ t) → (j ≡ r) ⊎ (j ≢ r) → HasOwner new more d
    kept j d f o (inl u) _ _ = absurd (owns_none arena chart n d none (subst (λ (v : ℕ). Owns arena chart v d) u o))
    kept j d f o (inr u) (inl v) _ =
        let same : r ≡ d = sym root ∙ head_owns arena chart t p h d on_t there (subst (λ (w : ℕ). Owns arena chart w d) v o) in
        let stays : chart r ≡ more r = subst (λ (w : ℕ). chart w ≡ more w) (sym same) f in
        absurd (let s : on posted ≡ gone now = cc in cc)
    kept j d f o (inr u) (inr v) (inl w) = absurd (owns_none arena chart r d (border_none chart r p low (on posted) on_r) (subst (λ (i : ℕ). Owns arena chart i d) w o))
    kept j d f o (inr u) (inr v) (inr w) = still_owns arena new chart more j d (change.rest j u) (rest j v w) o

    stood : (d k : ℕ) (w : List ℕ) (v : ℕ) (y : Bool) → more d ≡ Some (spot (at_level k) w v (on y)) → (d ≡ t) ⊎ (d ≢ t) → (d ≡ r) ⊎ (d ≢ r) → (chart d ≡ more d) ⊎ (((k ≡ 0) × (y ≡ false)) ⊎ HasOwner new more d)
    stood d k w v y g (inl u) _ = absurd (let s : more d ≡ more t = ap more u in let s' : on y ≡ gone now = cc in cc)
    stood d k w v y g (inr _) (inl u) = absurd (let s : more d ≡ more r = ap more u in let s' : on y ≡ gone now = cc in cc)
    stood d k w v y g (inr u) (inr u') = inl (sym (rest d u u'))

-- the interior `i` takes other children, and the number `c`, which owned none or one of these, stands otherwise
pub named_children : (arena new : Arena) (chart more : Chart) (i f : ℕ) (q : List ℕ) (m : ℕ) (y : Bool) (x x' : InteriorNode) → chart i ≡ Some (spot (at_level (suc f)) q m (on y)) → arena i ≡ Some (interior x) → Changes arena new i (Some (interior x')) →
    (c : ℕ) → more i ≡ chart i → ((j : ℕ) → j ≢ c → more j ≡ chart j) → Named arena chart →
    ((d : PlainChild) → Among d x.children → chart d.number ≡ more d.number → Among d x'.children ⊎ HasOwner new more d.number) →
    ((d : ℕ) → Owns arena chart c d → (v : PlainChild) × Among v x'.children × (v.number ≡ d)) →
    ((k : ℕ) (p : List ℕ) (l : ℕ) (z : Bool) → more c ≡ Some (spot (at_level k) p l (on z)) → (chart c ≡ more c) ⊎ (((k ≡ 0) × (z ≡ false)) ⊎ ((v : PlainChild) × Among v x'.children × (v.number ≡ c)))) → Named new more
named_children arena new chart more i f q m y x x' at_i there change c same_i rest named kept of_c fresh = named_step arena new chart more i c change.rest rest named
    (λ d e o. let (v, n, r) = interior_owns arena chart i f q m y x d at_i there o in mine d v r (kept v n (ap chart r ∙ (e ∙ ap more (sym r)))))
    (λ d e o. owner d (of_c d o)) (λ k p l z g. stood k z (fresh k p l z g))
  where
    owner : (d : ℕ) → (v : PlainChild) × Among v x'.children × (v.number ≡ d) → HasOwner new more d
    owner d (v, n, r) = (i, by_interior f q m y x' v (same_i ∙ at_i) change.now n r)

    mine : (d : ℕ) (v : PlainChild) → v.number ≡ d → Among v x'.children ⊎ HasOwner new more v.number → HasOwner new more d
    mine d v r (inl n) = owner d (v, n, r)
    mine d v r (inr o) = subst (λ (u : ℕ). HasOwner new more u) r o

    stood : (k : ℕ) (z : Bool) → (chart c ≡ more c) ⊎ (((k ≡ 0) × (z ≡ false)) ⊎ ((v : PlainChild) × Among v x'.children × (v.number ≡ c))) → (chart c ≡ more c) ⊎ (((k ≡ 0) × (z ≡ false)) ⊎ HasOwner new more c)
    stood k z (inl e) = inl e
    stood k z (inr (inl u)) = inr (inl u)
    stood k z (inr (inr v)) = inr (inr (owner c v))

-- a head is written that names the same root
pub named_head : (arena new : Arena) (chart : Chart) (h : ℕ) (q : List ℕ) (t t' : HeadNode) → OnHead chart h q → arena h ≡ Some (head t) → Changes arena new h (Some (head t')) → t'.root ≡ t.root → Named arena chart → Named new chart
named_head arena new chart h q t t' at_h there change root named = named_step arena new chart chart h h change.rest (λ j ne. refl) named owns (λ d e o. owns d e o) (λ k p l y g. inl refl)
  where
    owns : (d : ℕ) → chart d ≡ chart d → Owns arena chart h d → HasOwner new chart d
    owns d e o = (h, by_head q t' at_h change.now (root ∙ head_owns arena chart h q t d at_h there o))

-- a head names the one child of its root `c`, which goes
pub named_bypassed_root : (arena new : Arena) (chart more : Chart) (h : ℕ) (q : List ℕ) (t t' : HeadNode) → OnHead chart h q → arena h ≡ Some (head t) → Changes arena new h (Some (head t')) →
    (c g : ℕ) (xc : InteriorNode) (only : PlainChild) (now : ℕ) → t.root ≡ c → chart c ≡ Some (spot (at_level (suc g)) q 0 (on true)) → arena c ≡ Some (interior xc) → xc.children ≡ only ∷ [] → t'.root ≡ only.number →
    Changes chart more c (Some (spot (at_level (suc g)) q 0 (gone now))) → h ≢ c → Named arena chart → Named new more
named_bypassed_root arena new chart more h q t t' at_h there change c g xc only now was_root at_c there_c one_child root charted h_not_c named = named_step arena new chart more h c change.rest charted.rest named
    (λ d e o. absurd (stayed d e (head_owns arena chart h q t d at_h there o)))
    (λ d e o. let (v, n, r) = interior_owns arena chart c g q 0 true xc d at_c there_c o in (h, by_head q t' (charted.rest h h_not_c ∙ at_h) change.now (root ∙ only_one v d r (subst (λ (u : List PlainChild). Among v u) one_child n))))
    (λ k p l y e. absurd (let w = charted.now in let s : gone now ≡ on y = cc in cc))
  where
    stayed : (d : ℕ) → chart d ≡ more d → t.root ≡ d → ⊥
    stayed d e r =
        let same : chart c ≡ more c = subst (λ (v : ℕ). chart v ≡ more v) (sym r ∙ was_root) e in
        let w = charted.now in let v = at_c in let s : on true ≡ gone now = cc in cc

    only_one : (v : PlainChild) (d : ℕ) → v.number ≡ d → Among v (only ∷ []) → only.number ≡ d
    only_one v d r first = r
    only_one v d r (later n) = elim n [ ]

-- a head names a new root `x`, over the old root and `c`, which owned nothing
pub named_new_root : (arena new : Arena) (chart next : Chart) (h : ℕ) (q : List ℕ) (t t' : HeadNode) → OnHead chart h q → OnHead next h q → arena h ≡ Some (head t) → Changes arena new h (Some (head t')) →
    (c k l x f : ℕ) (node : InteriorNode) → NoOwner chart c → chart x ≡ None → arena x ≡ Some (interior node) → next x ≡ Some (spot (at_level (suc f)) q 0 (on true)) → ((j : ℕ) → j ≢ c → j ≢ x → next j ≡ chart j) →
    node.children ≡ (record { low = 0; number = t.root; level = t.level }) ∷ ((record { low = l; number = c; level = k }) ∷ []) → t'.root ≡ x → Named arena chart → Named new next
named_new_root arena new chart next h q t t' at_h next_h there change c k l x f node none fresh filled charted rest children root named = named_on arena new chart next named
    (λ j d e o. kept j d o (same_number j h) (same_number j c) (same_number j x)) (λ d k' p l' y g. stood d (same_number d c) (same_number d x))
  where
    x_not_h : x ≢ h
    x_not_h e = let w : chart x ≡ chart h = ap chart e in let v : ◌≡◌ {A = Option Spot} None (Some (spot top q 0 (on true))) = sym fresh ∙ (w ∙ at_h) in cc

    of_x : (d : ℕ) (v : PlainChild) → Among v ((record { low = 0; number = t.root; level = t.level }) ∷ ((record { low = l; number = c; level = k }) ∷ [])) → v.number ≡ d → HasOwner new next d
    of_x d v n r = (x, by_interior f q 0 true node v charted (change.rest x x_not_h ∙ filled) (subst (λ (u : List PlainChild). Among v u) (sym children) n) r)

    kept : (j d : ℕ) → Owns arena chart j d → (j ≡ h) ⊎ (j ≢ h) → (j ≡ c) ⊎ (j ≢ c) → (j ≡ x) ⊎ (j ≢ x) → HasOwner new next d
    kept j d o (inl e) _ _ = of_x d (record { low = 0; number = t.root; level = t.level }) first (head_owns arena chart h q t d at_h there (subst (λ (v : ℕ). Owns arena chart v d) e o))
    kept j d o (inr e) (inl f') _ = absurd (owns_none arena chart c d none (subst (λ (v : ℕ). Owns arena chart v d) f' o))
    kept j d o (inr e) (inr f') (inl g) = absurd (owns_none arena chart x d (unknown_none chart x fresh) (subst (λ (v : ℕ). Owns arena chart v d) g o))
    kept j d o (inr e) (inr f') (inr g) = still_owns arena new chart next j d (change.rest j e) (rest j f' g) o

    stood : {A : Type 0} (d : ℕ) → (d ≡ c) ⊎ (d ≢ c) → (d ≡ x) ⊎ (d ≢ x) → (chart d ≡ next d) ⊎ (A ⊎ HasOwner new next d)
    stood d (inl e) _ = inr (inr (of_x d (record { low = l; number = c; level = k }) (later first) (sym e)))
    stood d (inr e) (inl e') = inr (inr (h, by_head q t' next_h change.now (root ∙ sym e')))
    stood d (inr e) (inr e') = inl (sym (rest d e e'))
