-- The children of an interior as the theory of the tree sees them, once one is put in, dropped or renamed, or only some are kept.
use Rattle.std.proofs.Common.{ℕ, zero, suc, ◌≡◌, ◌≢◌, ◌<◌, ◌⊎◌, inl, inr, List, [], ◌∷◌, length, take, drop, Some, slice_get, refl, sym, ap, ◌∙◌, arith, length-drop}
use Rattle.std.specs.List.{insert, remove}
use Rattle.mt_types.specs.declared.numbers.NodeNo.{NodeNo}
use Rattle.mt_interior.specs.Interior.{InteriorView, renamed, StartsAt}
use Rattle.mt_interior.specs.declared.child.Child.{Child}
use Rattle.mt_chart.specs.Tree.{Among, first, later, PlainChild}
use Rattle.mt_chart.specs.Chart.{FirstLow, NoChildTwice}
use Rattle.mt_tree.specs.Seen.{child_seen, children_seen}
use Rattle.mt_tree.specs.InteriorSteps.{HasUpperChildren}

-- if there is a child, the first has the low
pub first_low : (low : ℕ) (children : List Child) → 0 < length children → StartsAt low children → FirstLow low (children_seen children)
first_low low [] some starts = absurd (omega arith)
first_low low (child ∷ children) some starts = starts

-- and so there is one
pub some_child : (low : ℕ) (children : List Child) → FirstLow low (children_seen children) → 0 < length children
some_child low [] leftmost = absurd leftmost
some_child low (child ∷ children) leftmost = omega arith

-- no child of these is that number
abbrev pub NamesNot : ℕ → List PlainChild → Type 0
NamesNot number children = (each : PlainChild) → Among each children → each.number ≢ number

-- what stands among the children once one more is put in
pub among_inserted : (children : List Child) (place : ℕ) (child : Child) (each : PlainChild) → Among each (children_seen (insert children place child)) → (each ≡ child_seen child) ⊎ Among each (children_seen children)
among_inserted [] zero child each first = inl refl
among_inserted [] zero child each (later i) = elim i [ ]
among_inserted [] (suc place) child each first = inl refl
among_inserted [] (suc place) child each (later i) = elim i [ ]
among_inserted (old ∷ children) zero child each first = inl refl
among_inserted (old ∷ children) zero child each (later i) = inr i
among_inserted (old ∷ children) (suc place) child each first = inr first
among_inserted (old ∷ children) (suc place) child each (later i) =
    elim (among_inserted children place child each i) [
      | inl e ↦ inl e
      | inr j ↦ inr (later j)
    ]

pub inserted_among : (children : List Child) (place : ℕ) (child : Child) (each : PlainChild) → (each ≡ child_seen child) ⊎ Among each (children_seen children) → Among each (children_seen (insert children place child))
inserted_among [] zero child each (inl e) = rw e first
inserted_among [] (suc place) child each (inl e) = rw e first
inserted_among [] place child each (inr i) = elim i [ ]
inserted_among (old ∷ children) zero child each (inl e) = rw e first
inserted_among (old ∷ children) zero child each (inr i) = later i
inserted_among (old ∷ children) (suc place) child each (inl e) = later (inserted_among children place child each (inl e))
inserted_among (old ∷ children) (suc place) child each (inr first) = first
inserted_among (old ∷ children) (suc place) child each (inr (later i)) = later (inserted_among children place child each (inr i))

pub once_inserted : (children : List Child) (place : ℕ) (child : Child) → NamesNot child.node.0 (children_seen children) → NoChildTwice (children_seen children) → NoChildTwice (children_seen (insert children place child))
once_inserted [] zero child new once = (λ other i. elim i [ ], tt)
once_inserted [] (suc place) child new once = (λ other i. elim i [ ], tt)
once_inserted (old ∷ children) zero child new once = (λ other i. new other i, once)
once_inserted (old ∷ children) (suc place) child new once = (λ other i. apart other (among_inserted children place child other i), once_inserted children place child (λ other i. new other (later i)) once.1)
  where
    apart : (other : PlainChild) → (other ≡ child_seen child) ⊎ Among other (children_seen children) → other.number ≢ old.node.0
    apart other (inl e) same = new (child_seen old) first (sym same ∙ ap (λ (c : PlainChild). c.number) e)
    apart other (inr i) same = once.0 other i same

-- what stands among the children once the one at a place is dropped
pub among_removed : (children : List Child) (place : ℕ) (each : PlainChild) → Among each (children_seen (remove children place)) → Among each (children_seen children)
among_removed [] zero each i = elim i [ ]
among_removed [] (suc place) each i = elim i [ ]
among_removed (old ∷ children) zero each i = later i
among_removed (old ∷ children) (suc place) each first = first
among_removed (old ∷ children) (suc place) each (later i) = later (among_removed children place each i)

pub once_removed : (children : List Child) (place : ℕ) → NoChildTwice (children_seen children) → NoChildTwice (children_seen (remove children place))
once_removed [] zero once = tt
once_removed [] (suc place) once = tt
once_removed (old ∷ children) zero once = once.1
once_removed (old ∷ children) (suc place) once = (λ other i. once.0 other (among_removed children place other i), once_removed children place once.1)

pub among_read : (children : List Child) (place : ℕ) (child : Child) → slice_get children place ≡ Some child → Among (child_seen child) (children_seen children)
among_read [] place child read = absurd (cc)
among_read (old ∷ children) zero child read = let same : old ≡ child = cc in rw same first
among_read (old ∷ children) (suc place) child read = later (among_read children place child read)

-- each is another than the one at the place
pub others_removed : (children : List Child) (place : ℕ) (child : Child) → slice_get children place ≡ Some child → NoChildTwice (children_seen children) → NamesNot child.node.0 (children_seen (remove children place))
others_removed [] place child read once each i e = absurd (cc)
others_removed (old ∷ children) zero child read once each i e = let same : old ≡ child = cc in once.0 each i (e ∙ ap (λ (c : Child). c.node.0) (sym same))
others_removed (old ∷ children) (suc place) child read once each first e = once.0 (child_seen child) (among_read children place child read) (sym e)
others_removed (old ∷ children) (suc place) child read once each (later i) e = others_removed children place child read once.1 each i e

pub among_kept : (children : List Child) (place : ℕ) (child : Child) → slice_get children place ≡ Some child → (each : PlainChild) → Among each (children_seen children) → each.number ≢ child.node.0 → Among each (children_seen (remove children place))
among_kept [] place child read each i other = absurd (cc)
among_kept (old ∷ children) zero child read each first other = let same : old ≡ child = cc in absurd (other (ap (λ (c : Child). c.node.0) same))
among_kept (old ∷ children) zero child read each (later i) other = i
among_kept (old ∷ children) (suc place) child read each first other = first
among_kept (old ∷ children) (suc place) child read each (later i) other = later (among_kept children place child read each i other)

-- what stands among the children once the one at a place names another node
pub among_renamed : (children : List Child) (place level : ℕ) (node : NodeNo) (child : Child) → slice_get children place ≡ Some child → NoChildTwice (children_seen children) →
    (each : PlainChild) → Among each (children_seen (renamed place node level children)) → (each ≡ child_seen (record child { node = node; level = level })) ⊎ (Among each (children_seen children) × (each.number ≢ child.node.0))
among_renamed [] place level node child read once each i = absurd (cc)
among_renamed (old ∷ children) zero level node child read once each first = let same : old ≡ child = cc in inl (ap (λ (c : Child). child_seen (record c { node = node; level = level })) same)
among_renamed (old ∷ children) zero level node child read once each (later i) = let same : old ≡ child = cc in inr (later i, rw (← same) (once.0 each i))
among_renamed (old ∷ children) (suc place) level node child read once each first = inr (first, λ e. once.0 (child_seen child) (among_read children place child read) (sym e))
among_renamed (old ∷ children) (suc place) level node child read once each (later i) =
    elim (among_renamed children place level node child read once.1 each i) [
      | inl e ↦ inl e
      | inr (j, other) ↦ inr (later j, other)
    ]

pub renamed_among : (children : List Child) (place level : ℕ) (node : NodeNo) (child : Child) → slice_get children place ≡ Some child →
    (each : PlainChild) → (each ≡ child_seen (record child { node = node; level = level })) ⊎ (Among each (children_seen children) × (each.number ≢ child.node.0)) → Among each (children_seen (renamed place node level children))
renamed_among [] place level node child read each i = absurd (cc)
renamed_among (old ∷ children) zero level node child read each (inl e) = let same : old ≡ child = cc in rw (e, same) first
renamed_among (old ∷ children) zero level node child read each (inr (first, other)) = let same : old ≡ child = cc in absurd (other (ap (λ (c : Child). c.node.0) same))
renamed_among (old ∷ children) zero level node child read each (inr (later i, other)) = later i
renamed_among (old ∷ children) (suc place) level node child read each (inl e) = later (renamed_among children place level node child read each (inl e))
renamed_among (old ∷ children) (suc place) level node child read each (inr (first, other)) = first
renamed_among (old ∷ children) (suc place) level node child read each (inr (later i, other)) = later (renamed_among children place level node child read each (inr (i, other)))

pub once_renamed : (children : List Child) (place level : ℕ) (node : NodeNo) (child : Child) → slice_get children place ≡ Some child → NamesNot node.0 (children_seen children) → NoChildTwice (children_seen children) →
    NoChildTwice (children_seen (renamed place node level children))
once_renamed [] place level node child read new once = absurd (cc)
once_renamed (old ∷ children) zero level node child read new once = (λ other i. new other (later i), once.1)
once_renamed (old ∷ children) (suc place) level node child read new once =
    (λ other i. apart other (among_renamed children place level node child read once.1 other i), once_renamed children place level node child read (λ other i. new other (later i)) once.1)
  where
    apart : (other : PlainChild) → (other ≡ child_seen (record child { node = node; level = level })) ⊎ (Among other (children_seen children) × (other.number ≢ child.node.0)) → other.number ≢ old.node.0
    apart other (inl e) same = new (child_seen old) first (sym same ∙ ap (λ (c : PlainChild). c.number) e)
    apart other (inr (i, _)) same = once.0 other i same

-- what stands among the first children, or among those from a place on
pub among_taken : (count : ℕ) (children : List Child) (each : PlainChild) → Among each (children_seen (take count children)) → Among each (children_seen children)
among_taken zero children each i = elim i [ ]
among_taken (suc count) [] each i = elim i [ ]
among_taken (suc count) (child ∷ children) each first = first
among_taken (suc count) (child ∷ children) each (later i) = later (among_taken count children each i)

pub once_taken : (count : ℕ) (children : List Child) → NoChildTwice (children_seen children) → NoChildTwice (children_seen (take count children))
once_taken zero children once = tt
once_taken (suc count) [] once = tt
once_taken (suc count) (child ∷ children) once = (λ other i. once.0 other (among_taken count children other i), once_taken count children once.1)

pub among_dropped : (count : ℕ) (children : List Child) (each : PlainChild) → Among each (children_seen (drop count children)) → Among each (children_seen children)
among_dropped zero children each i = i
among_dropped (suc count) [] each i = elim i [ ]
among_dropped (suc count) (child ∷ children) each i = later (among_dropped count children each i)

pub once_dropped : (count : ℕ) (children : List Child) → NoChildTwice (children_seen children) → NoChildTwice (children_seen (drop count children))
once_dropped zero children once = once
once_dropped (suc count) [] once = tt
once_dropped (suc count) (child ∷ children) once = once_dropped count children once.1

-- each child is among the first ones, or among those from the place on
pub among_parted : (count : ℕ) (children : List Child) (each : PlainChild) → Among each (children_seen children) → Among each (children_seen (take count children)) ⊎ Among each (children_seen (drop count children))
among_parted zero children each i = inr i
among_parted (suc count) [] each i = elim i [ ]
among_parted (suc count) (child ∷ children) each first = inl first
among_parted (suc count) (child ∷ children) each (later i) =
    elim (among_parted count children each i) [
      | inl j ↦ inl (later j)
      | inr j ↦ inr j
    ]

-- a half has some of the children of the interior that is split, from its own low on
pub upper_children : (half split : InteriorView) → HasUpperChildren half split → StartsAt half.low half.children → NoChildTwice (children_seen split.children) →
    FirstLow half.low (children_seen half.children) × NoChildTwice (children_seen half.children) × ((each : PlainChild) → Among each (children_seen half.children) → Among each (children_seen split.children))
upper_children half split upper starts once = (
  first_low half.low half.children (rw upper.children (omega (arith, length-drop upper.place split.children, upper.within))) starts,
  rw upper.children (once_dropped upper.place split.children once),
  λ each i. among_dropped upper.place split.children each (rw upper.children at i),
)

pub some_inserted : (children : List Child) (place : ℕ) (child : Child) → 0 < length (insert children place child)
some_inserted [] zero child = omega arith
some_inserted [] (suc place) child = omega arith
some_inserted (old ∷ children) zero child = omega arith
some_inserted (old ∷ children) (suc place) child = omega arith

-- the one child that there is
pub only_child : (children : List Child) (child : Child) → slice_get children 0 ≡ Some child → length children ≡ 1 → children ≡ child ∷ []
only_child [] child read one = absurd (cc)
only_child (other ∷ []) child read one = let same : other ≡ child = cc in ap (λ (c : Child). c ∷ []) same
only_child (other ∷ more ∷ children) child read one = absurd (omega arith)
