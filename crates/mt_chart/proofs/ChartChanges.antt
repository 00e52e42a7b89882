-- Each change of a chart is one that calls may rely on, and keeps its dates; and what a writer may take to be on.
use Rattle.std.proofs.Common.{ℕ, suc, ◌≡◌, ◌≢◌, ◌<◌, ◌≤◌, ◌⊎◌, inl, inr, List, Option, Some, None, Bool, true, false, refl, sym, ap, ◌∙◌, subst, arith}
use Rattle.mt_chart.specs.Tree.{InteriorNode, Arena, interior}
use Rattle.mt_chart.specs.Chart.{Standing, on, gone, Role, at_level, Spot, spot, Chart, Later, Changes, Evolves, Dated, IsTree}
use Rattle.mt_chart.proofs.Basics.{same_number}
use Rattle.mt_chart.proofs.HeldNodes.{later_same}

-- one node stands otherwise, or is new
pub evolves_at : (begun : ℕ) (chart more : Chart) (c : ℕ) (r : Role) (p : List ℕ) (l : ℕ) (t : Standing) → Changes chart more c (Some (spot r p l t)) →
    (chart c ≡ None) ⊎ ((u : Standing) × (chart c ≡ Some (spot r p l u)) × Later begun u t) → Evolves begun chart more
evolves_at begun chart more c r p l t charted known m z q v st g = go (same_number m c) known
  where
    go : (m ≡ c) ⊎ (m ≢ c) → (chart c ≡ None) ⊎ ((u : Standing) × (chart c ≡ Some (spot r p l u)) × Later begun u t) →
        ((w : Standing) × (more m ≡ Some (spot z q v w)) × Later begun st w) ⊎ ((e : ℕ) × (st ≡ gone e) × (e < begun))
    go (inl e) (inl n) = absurd (let k : chart m ≡ chart c = ap chart e in let c : ◌≡◌ {A = Option Spot} None (Some (spot z q v st)) = sym n ∙ (sym k ∙ g) in cc)
    go (inl e) (inr (u, n, h)) =
        let k : chart m ≡ chart c = ap chart e in
        let s1 : z ≡ r = cc in let s2 : q ≡ p = cc in let s3 : v ≡ l = cc in let s4 : u ≡ st = cc in
        inl (t, rw (e, s1, s2, s3) charted.now, subst (λ (w : Standing). Later begun w t) s4 h)
    go (inr e) _ = inl (st, charted.rest m e ∙ g, later_same begun st)

pub dated_at : (chart more : Chart) (c : ℕ) (r : Role) (p : List ℕ) (l : ℕ) (t : Standing) (now : ℕ) → Changes chart more c (Some (spot r p l t)) → ((e : ℕ) → t ≡ gone e → e ≤ now) → Dated chart now → Dated more now
dated_at chart more c r p l t now charted fits dated m z q v e g = go (same_number m c)
  where
    go : (m ≡ c) ⊎ (m ≢ c) → e ≤ now
    go (inl h) = fits e (let k : more m ≡ more c = ap more h in let n = charted.now in cc)
    go (inr h) = dated m z q v e (sym (charted.rest m h) ∙ g)

pub dated_later : (chart : Chart) (now next : ℕ) → now ≤ next → Dated chart now → Dated chart next
dated_later chart now next le dated m z q v e g = let h : e ≤ now = dated m z q v e g in omega arith

-- an interior that is not marked deleted and not locked is on
pub interior_is_on : (arena : Arena) (chart : Chart) → IsTree arena chart → (i k : ℕ) (p : List ℕ) (l : ℕ) (st : Standing) (x : InteriorNode) → chart i ≡ Some (spot (at_level (suc k)) p l st) → arena i ≡ Some (interior x) →
    x.deleted ≡ false → x.locked ≡ false → (y : Bool) × (st ≡ on y)
interior_is_on arena chart tree i k p l (on y) x g e d h = (y, refl)
interior_is_on arena chart tree i k p l (gone f) x g e d h =
    let u = tree.interiors i k p l (gone f) g in
    let same : u.node ≡ x = (let w : arena i ≡ Some (interior u.node) = u.is_node in cc) in
    absurd (go (rw same at (u.locked_till_deleted f refl)))
  where
    go : (x.deleted ≡ true) ⊎ (x.locked ≡ true) → ⊥
    go (inl w) = let c : true ≡ false = sym w ∙ d in cc
    go (inr w) = let c : true ≡ false = sym w ∙ h in cc
