-- Who names whom, through each small change.
use Rattle.std.proofs.Common.{ℕ, suc, ◌≡◌, ◌≢◌, ◌⊎◌, ◌↔◌, inl, inr, List, Some, Bool, sym, ap, ◌∙◌, subst}
use Rattle.mt_slice.specs.Place.{Place}
use Rattle.mt_types.specs.declared.row.Row.{Row}
use Rattle.mt_chart.specs.Tree.{HeadNode, PlainChild, InteriorNode, head, interior, Arena, Among, Has}
use Rattle.mt_chart.specs.Chart.{Standing, on, top, at_level, spot, Chart, OnHead, IsTree, Stored, Owns, by_head, by_interior, Owned, NoChildTwice}
use Rattle.mt_chart.proofs.Basics.{same_number}
use Rattle.mt_chart.proofs.Reach.{stored, has}

-- the content under two arenas that agree on the borders of one chart
pub same_borders_content : (arena new : Arena) (chart : Chart) → IsTree arena chart → IsTree new chart → ((m : ℕ) (q : List ℕ) (l : ℕ) (st : Standing) → chart m ≡ Some (spot (at_level 0) q l st) → new m ≡ arena m) →
    (k : Place) (w : Row) → Has new k w ↔ Has arena k w
same_borders_content arena new chart tree tree' same k w = (λ i. has arena chart tree k w (back (stored new chart tree' k w i)), λ i. has new chart tree' k w (forth (stored arena chart tree k w i)))
  where
    back : Stored new chart k w → Stored arena chart k w
    back s = let o = s.on_border in record {
      prefix = s.prefix;
      number = s.number;
      node = s.node;
      entry = s.entry;
      place = s.place;
      live = s.live;
      holds = s.holds;
      is_key = s.is_key;
      on_border = record { posted = o.posted; place = o.place; node = sym (same s.number s.prefix s.node.low (on o.posted) o.place) ∙ o.node };
    }

    forth : Stored arena chart k w → Stored new chart k w
    forth s = let o = s.on_border in record {
      prefix = s.prefix;
      number = s.number;
      node = s.node;
      entry = s.entry;
      place = s.place;
      live = s.live;
      holds = s.holds;
      is_key = s.is_key;
      on_border = record { posted = o.posted; place = o.place; node = same s.number s.prefix s.node.low (on o.posted) o.place ∙ o.node };
    }

-- pairs that share no node need not be said
pub owned_shrink : (arena : Arena) (chart : Chart) (some fewer : ℕ → ℕ → Type 0) → Owned arena chart some → ((i j c : ℕ) → Owns arena chart i c → Owns arena chart j c → some i j → (i ≡ j) ⊎ fewer i j) → Owned arena chart fewer
owned_shrink arena chart some fewer w f = record { once = w.once; one_owner = (λ i j c x y. go i j c x y (w.one_owner i j c x y)) }
  where
    go : (i j c : ℕ) → Owns arena chart i c → Owns arena chart j c → (i ≡ j) ⊎ some i j → (i ≡ j) ⊎ fewer i j
    go i j c x y (inl e) = inl e
    go i j c x y (inr t) = f i j c x y t

-- nobody becomes an owner
pub owned_less : (arena new : Arena) (chart more : Chart) (twins : ℕ → ℕ → Type 0) → Owned arena chart twins → ((i c : ℕ) → Owns new more i c → Owns arena chart i c) →
    ((n k : ℕ) (p : List ℕ) (l : ℕ) (y : Bool) (t : InteriorNode) → more n ≡ Some (spot (at_level (suc k)) p l (on y)) → new n ≡ Some (interior t) → NoChildTwice t.children) → Owned new more twins
owned_less arena new chart more twins w f once = record { once = once; one_owner = (λ i j c x y. w.one_owner i j c (f i c x) (f j c y)) }

-- the node `i` comes to own what it owned, or what nobody did but its twins
pub owned_adopt : (arena new : Arena) (chart more : Chart) (some twins : ℕ → ℕ → Type 0) (i : ℕ) → Owned arena chart some → ((j c : ℕ) → some j c → twins j c) →
    ((j c : ℕ) → j ≢ i → Owns new more j c → Owns arena chart j c) →
    ((c : ℕ) → Owns new more i c → Owns arena chart i c ⊎ ((j : ℕ) → Owns arena chart j c → twins i j × twins j i)) →
    ((n k : ℕ) (p : List ℕ) (l : ℕ) (y : Bool) (t : InteriorNode) → more n ≡ Some (spot (at_level (suc k)) p l (on y)) → new n ≡ Some (interior t) → NoChildTwice t.children) → Owned new more twins
owned_adopt arena new chart more some twins i w wider others mine once = record { once = once; one_owner = one }
  where
    grow : (j k : ℕ) → (j ≡ k) ⊎ some j k → (j ≡ k) ⊎ twins j k
    grow j k (inl e) = inl e
    grow j k (inr t) = inr (wider j k t)

    first_mine : (j k c : ℕ) → j ≡ i → Owns arena chart k c → Owns arena chart i c ⊎ ((k : ℕ) → Owns arena chart k c → twins i k × twins k i) → (j ≡ k) ⊎ twins j k
    first_mine j k c e y (inl x) = subst (λ (n : ℕ). (n ≡ k) ⊎ twins n k) (sym e) (grow i k (w.one_owner i k c x y))
    first_mine j k c e y (inr f) = inr (subst (λ (n : ℕ). twins n k) (sym e) ((f k y).0))

    second_mine : (j k c : ℕ) → k ≡ i → Owns arena chart j c → Owns arena chart i c ⊎ ((k : ℕ) → Owns arena chart k c → twins i k × twins k i) → (j ≡ k) ⊎ twins j k
    second_mine j k c e y (inl x) = subst (λ (n : ℕ). (j ≡ n) ⊎ twins j n) (sym e) (grow j i (w.one_owner j i c y x))
    second_mine j k c e y (inr f) = inr (subst (λ (n : ℕ). twins j n) (sym e) ((f j y).1))

    one : (j k c : ℕ) → Owns new more j c → Owns new more k c → (j ≡ k) ⊎ twins j k
    one j k c x y = go (same_number j i) (same_number k i)
      where
        go : (j ≡ i) ⊎ (j ≢ i) → (k ≡ i) ⊎ (k ≢ i) → (j ≡ k) ⊎ twins j k
        go (inl e) (inl f) = inl (e ∙ sym f)
        go (inl e) (inr f) = first_mine j k c e (others k c f y) (mine c (subst (λ (n : ℕ). Owns new more n c) e x))
        go (inr e) (inl f) = second_mine j k c f (others j c e x) (mine c (subst (λ (n : ℕ). Owns new more n c) f y))
        go (inr e) (inr f) = grow j k (w.one_owner j k c (others j c e x) (others k c f y))

-- with no twin, an owner is the only one
pub only_owner : (arena : Arena) (chart : Chart) (twins : ℕ → ℕ → Type 0) → Owned arena chart twins → (i c : ℕ) → Owns arena chart i c → ((j : ℕ) → twins j i → ⊥) → (j : ℕ) → Owns arena chart j c → j ≡ i
only_owner arena chart twins w i c x alone j y = go (w.one_owner j i c y x)
  where
    go : (j ≡ i) ⊎ twins j i → j ≡ i
    go (inl e) = e
    go (inr t) = absurd (alone j t)

-- what an interior that is on owns: its children; a head: its root
pub interior_owns : (arena : Arena) (chart : Chart) (i k : ℕ) (p : List ℕ) (l : ℕ) (y : Bool) (x : InteriorNode) (c : ℕ) → chart i ≡ Some (spot (at_level (suc k)) p l (on y)) → arena i ≡ Some (interior x) → Owns arena chart i c →
    (d : PlainChild) × Among d x.children × (d.number ≡ c)
interior_owns arena chart i k p l y x c g e (by_head q t g' e' f) = absurd (let w : top ≡ at_level (suc k) = cc in cc)
interior_owns arena chart i k p l y x c g e (by_interior k' p' l' y' node child g' e' m f) =
    let same : node ≡ x = cc in (child, subst (λ (z : InteriorNode). Among child z.children) same m, f)

pub head_owns : (arena : Arena) (chart : Chart) (i : ℕ) (p : List ℕ) (t : HeadNode) (c : ℕ) → OnHead chart i p → arena i ≡ Some (head t) → Owns arena chart i c → t.root ≡ c
head_owns arena chart i p t c g e (by_head q t' g' e' f) = let same : t' ≡ t = cc in ap (λ (z : HeadNode). z.root) (sym same) ∙ f
head_owns arena chart i p t c g e (by_interior k' p' l' y' node child g' e' m f) = absurd (let w : top ≡ at_level (suc k') = cc in cc)

-- an owner under an arena that agrees at it, and a chart that gives it the same place
pub owner_moves : (arena new : Arena) (chart more : Chart) (i c : ℕ) → new i ≡ arena i → more i ≡ chart i → Owns new more i c → Owns arena chart i c
owner_moves arena new chart more i c e f (by_head q t g h r) = by_head q t (sym f ∙ g) (sym e ∙ h) r
owner_moves arena new chart more i c e f (by_interior k p l y node child g h m r) = by_interior k p l y node child (sym f ∙ g) (sym e ∙ h) m r
