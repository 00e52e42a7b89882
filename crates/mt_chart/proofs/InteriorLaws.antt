-- Each step on a head or an interior, and each change of numbers, leads from an index to an index.
use Rattle.std.proofs.Common.{ℕ, suc, ◌≡◌, ◌≢◌, ◌<◌, ◌≤◌, ◌⊎◌, inl, inr, List, [], ◌∷◌, Option, Some, None, Bool, true, false, refl, sym, ap, ◌∙◌, subst, arith}
use Rattle.mt_chart.specs.Tree.{HeadNode, PlainChild, InteriorNode, PlainNode, border, interior, Arena, Among, first}
use Rattle.mt_chart.specs.Chart.{Standing, on, gone, top, at_level, Spot, spot, Chart, IsTree, Owns, by_interior, NoChildTwice, Owned, HasOwner, Named, IsLastBorder, MarkedHeads, Dated, Evolves, Changes, still_on, went}
use Rattle.mt_chart.specs.Steps.{Twin, AreTwins, NoTwin, Keeps, WritesHead}
use Rattle.mt_chart.specs.StepLaws.{DroppingAChildKeeps, PostingABorderKeeps, BypassingKeeps, BypassingARootKeeps, MakingARootKeeps, MakingARootOverAHalfKeeps, MarkingAHeadKeeps, PostingAHalfKeeps, KeepingChildrenKeeps, PartsNeedBeNoTwins, MarkingWhatIsGoneKeeps, MarkingAGoneHeadKeeps, ChangingSparesKeeps, FreeingKeeps, LaterEpochsKeep}
use Rattle.mt_chart.proofs.HeldNodes.{evolves_same, evolves_again}
use Rattle.mt_chart.proofs.ChartChanges.{evolves_at, dated_at, dated_later}
use Rattle.mt_chart.proofs.Owners.{same_borders_content, owned_shrink, interior_owns}
use Rattle.mt_chart.proofs.Ownership.{owned_rest, owned_half, owned_children, owned_root}
use Rattle.mt_chart.proofs.MarkedHeads.{was_head, marked_rest, marked_interior, marked_head, only_border}
use Rattle.mt_chart.proofs.Naming.{border_none, gone_none, unknown_none, owns_none, still_owns, named_rest, named_step, named_written, named_children, named_head, named_bypassed_root, named_new_root}
use Rattle.mt_chart.proofs.Reach.{children_on, on_child}
use Rattle.mt_chart.proofs.SmallChanges.{permit, mark_gone}
use Rattle.mt_chart.proofs.InteriorSteps.{child_dropped_tree, child_dropped_content, child_dropped_owned, border_posted_tree, border_posted_content, border_posted_owned, bypass_tree, bypass_content, bypass_owned}
use Rattle.mt_chart.proofs.RootSteps.{head_root, mark_head_tree, mark_head_content, root_bypass_tree, root_bypass_content, new_root_tree, new_root_content, half_kept_tree, half_kept_content, half_known_tree, half_posted_tree, half_posted_content}
use Rattle.mt_chart.proofs.RootStepsOwned.{root_bypass_owned, half_unowned, half_posted_owned, permitted_owned, permitted_unowned, new_root_owned}
use Rattle.mt_chart.proofs.SpareNumbers.{on_no_gone, gone_head_keeps, spares_keep, free_tree, free_evolves}

on_not_gone : (y : Bool) (e : ℕ) → on y ≡ gone e → ⊥
on_not_gone y e q = cc

gone_now : (now e : ℕ) → gone now ≡ gone e → e ≤ now
gone_now now e q = let w : now ≡ e = cc in omega arith

interior_no_border : (chart : Chart) (n i k : ℕ) (p q : List ℕ) (l m : ℕ) (s t : Standing) → chart n ≡ Some (spot (at_level 0) p l s) → chart i ≡ Some (spot (at_level (suc k)) q m t) → n ≢ i
interior_no_border chart n i k p q l m s t g h e = let u : chart n ≡ chart i = ap chart e in let w : at_level 0 ≡ at_level (suc k) = cc in let v : 0 ≡ suc k = cc in omega arith

head_no_node : (chart : Chart) (n i : ℕ) (p q : List ℕ) (l m k : ℕ) (s t : Standing) → chart n ≡ Some (spot top p l s) → chart i ≡ Some (spot (at_level k) q m t) → n ≢ i
head_no_node chart n i p q l m k s t g h e = let u : chart n ≡ chart i = ap chart e in let w : top ≡ at_level k = cc in cc

no_head : (k : ℕ) (p q : List ℕ) (l : ℕ) (s : Standing) → spot (at_level k) p l s ≢ spot top q 0 (on true)
no_head k p q l s e = let w : at_level k ≡ top = cc in cc

no_interior : (arena : Arena) (n : ℕ) (x : InteriorNode) → arena n ≡ Some (interior x) → IsLastBorder arena n → ⊥
no_interior arena n x e (b, e', r) = let c : ◌≡◌ {A = Option PlainNode} (Some (border b)) (Some (interior x)) = sym e' ∙ e in cc

pub dropping_child : DroppingAChildKeeps
dropping_child now twins arena after chart next index step = record {
  index = record {
    tree = child_dropped_tree arena after chart next index.tree (AreTwins twins) index.owned step.number step.below step.prefix step.least step.writes.posted step.old step.new step.writes.place step.writes.there step.writes.written step.writes.low step.writes.level step.writes.leftmost step.writes.once
        step.child.number step.prefix step.low step.place step.charted owns step.no_twin.0 step.children;
    owned = child_dropped_owned arena after chart next index.tree (AreTwins twins) index.owned step.number step.below step.prefix step.least step.writes.posted step.old step.new step.writes.place step.writes.there step.writes.written step.writes.low step.writes.level step.writes.leftmost step.writes.once
        step.child.number step.prefix step.low step.place step.charted owns step.no_twin.0 step.children;
    named = named_children arena after chart next step.number step.below step.prefix step.least step.writes.posted step.old step.new step.writes.place step.writes.there step.writes.written
        step.child.number (step.charted.rest step.number not_child) step.charted.rest index.named (λ d i e. inl ((step.children d).1 (i, stays d e)))
        (λ d o. absurd (owns_none arena chart step.child.number d (border_none chart step.child.number step.prefix step.low (on true) step.place) o))
        (λ k p l y e. inr (inl (unposted k p l y (let here = step.charted.now in cc))));
    marked = marked_interior arena after chart next index.tree index.marked (was_head chart next step.child.number (spot (at_level 0) step.prefix step.low (on false)) step.charted (λ p e. no_head 0 step.prefix p step.low (on false) e)) step.number step.old step.new step.writes.there step.writes.written;
    dated = dated_at chart next step.child.number (at_level 0) step.prefix step.low (on false) now step.charted (λ e q. absurd (on_not_gone false e q)) index.dated;
  };
  content = child_dropped_content arena after chart next index.tree (AreTwins twins) index.owned step.number step.below step.prefix step.least step.writes.posted step.old step.new step.writes.place step.writes.there step.writes.written step.writes.low step.writes.level step.writes.leftmost step.writes.once
      step.child.number step.prefix step.low step.place step.charted owns step.no_twin.0 step.children;
  evolves = λ begun le. evolves_at begun chart next step.child.number (at_level 0) step.prefix step.low (on false) step.charted (inr (on true, step.place, still_on));
}
  where
    owns : Owns arena chart step.number step.child.number
    owns = by_interior step.below step.prefix step.least step.writes.posted step.old step.child step.writes.place step.writes.there step.stood refl

    not_child : step.number ≢ step.child.number
    not_child e = interior_no_border chart step.child.number step.number step.below step.prefix step.prefix step.low step.least (on true) (on step.writes.posted) step.place step.writes.place (sym e)

    -- what is charted as before is not the child
    stays : (d : PlainChild) → chart d.number ≡ next d.number → d.number ≢ step.child.number
    stays d e same =
        let here : chart step.child.number ≡ next step.child.number = subst (λ (n : ℕ). chart n ≡ next n) same e in
        let was = step.place in let is = step.charted.now in
        let clash : on true ≡ on false = cc in let c : true ≡ false = cc in cc

    unposted : (k : ℕ) (p : List ℕ) (l : ℕ) (y : Bool) → spot (at_level 0) step.prefix step.low (on false) ≡ spot (at_level k) p l (on y) → (k ≡ 0) × (y ≡ false)
    unposted k p l y e = let r : at_level 0 ≡ at_level k = cc in let t : on false ≡ on y = cc in (cc, cc)

pub posting_border : PostingABorderKeeps
posting_border now twins arena after chart next index step = record {
  index = record {
    tree = border_posted_tree arena after chart next index.tree (AreTwins twins) index.owned step.number step.below step.prefix step.least step.writes.posted step.old step.new step.writes.place step.writes.there step.writes.written step.writes.low step.writes.level step.writes.leftmost step.writes.once
        step.posted_number step.low step.place step.charted (λ d. (step.children d).0);
    owned = border_posted_owned arena after chart next index.tree (AreTwins twins) index.owned step.number step.below step.prefix step.least step.writes.posted step.old step.new step.writes.place step.writes.there step.writes.written step.writes.low step.writes.level step.writes.leftmost step.writes.once
        step.posted_number step.low step.place step.charted (λ d. (step.children d).0);
    named = named_children arena after chart next step.number step.below step.prefix step.least step.writes.posted step.old step.new step.writes.place step.writes.there step.writes.written
        step.posted_number (step.charted.rest step.number (λ e. interior_no_border chart step.posted_number step.number step.below step.prefix step.prefix step.low step.least (on false) (on step.writes.posted) step.place step.writes.place (sym e)))
        step.charted.rest index.named (λ d i e. inl ((step.children d).1 (inr i)))
        (λ d o. absurd (owns_none arena chart step.posted_number d (border_none chart step.posted_number step.prefix step.low (on false) step.place) o))
        (λ k p l y e. inr (inr (record { low = step.low; number = step.posted_number; level = 0 }, (step.children (record { low = step.low; number = step.posted_number; level = 0 })).1 (inl refl), refl)));
    marked = marked_interior arena after chart next index.tree index.marked (was_head chart next step.posted_number (spot (at_level 0) step.prefix step.low (on true)) step.charted (λ p e. no_head 0 step.prefix p step.low (on true) e)) step.number step.old step.new step.writes.there step.writes.written;
    dated = dated_at chart next step.posted_number (at_level 0) step.prefix step.low (on true) now step.charted (λ e q. absurd (on_not_gone true e q)) index.dated;
  };
  content = border_posted_content arena after chart next index.tree (AreTwins twins) index.owned step.number step.below step.prefix step.least step.writes.posted step.old step.new step.writes.place step.writes.there step.writes.written step.writes.low step.writes.level step.writes.leftmost step.writes.once
      step.posted_number step.low step.place step.charted (λ d. (step.children d).0);
  evolves = λ begun le. evolves_at begun chart next step.posted_number (at_level 0) step.prefix step.low (on true) step.charted (inr (on false, step.place, still_on));
}

pub bypassing : BypassingKeeps
bypassing now twins arena after chart next index step = record {
  index = record {
    tree = bypass_tree arena after chart next index.tree (AreTwins twins) index.owned step.number step.below step.prefix step.least step.writes.posted step.old step.new step.writes.place step.writes.there step.writes.written step.writes.low step.writes.level step.writes.leftmost step.writes.once
        step.gone_number step.gone_below step.low step.posted step.gone_node step.child now index.dated step.place step.there step.locked step.one_child step.charted step.entry step.stood step.named step.no_twin.0 alone (λ d. (step.children d).0);
    owned = bypass_owned arena after chart next index.tree (AreTwins twins) index.owned step.number step.below step.prefix step.least step.writes.posted step.old step.new step.writes.place step.writes.there step.writes.written step.writes.low step.writes.level step.writes.leftmost step.writes.once
        step.gone_number step.gone_below step.low step.posted step.gone_node step.child now index.dated step.place step.there step.locked step.one_child step.charted step.entry step.stood step.named step.no_twin.0 alone (λ d. (step.children d).0);
    named = named_children arena after chart next step.number step.below step.prefix step.least step.writes.posted step.old step.new step.writes.place step.writes.there step.writes.written
        step.gone_number (step.charted.rest step.number not_gone) step.charted.rest index.named (λ d i e. inl ((step.children d).1 (inr (i, stays d e))))
        (λ d o. only_one d (interior_owns arena chart step.gone_number step.gone_below step.prefix step.low step.posted step.gone_node d step.place step.there o))
        (λ k p l y e. absurd (on_not_gone y now (let here = step.charted.now in let w : gone now ≡ on y = cc in sym w)));
    marked = marked_interior arena after chart next index.tree index.marked (was_head chart next step.gone_number (spot (at_level (suc step.gone_below)) step.prefix step.low (gone now)) step.charted (λ p e. no_head (suc step.gone_below) step.prefix p step.low (gone now) e))
        step.number step.old step.new step.writes.there step.writes.written;
    dated = dated_at chart next step.gone_number (at_level (suc step.gone_below)) step.prefix step.low (gone now) now step.charted (λ e q. gone_now now e q) index.dated;
  };
  content = bypass_content arena after chart next index.tree (AreTwins twins) index.owned step.number step.below step.prefix step.least step.writes.posted step.old step.new step.writes.place step.writes.there step.writes.written step.writes.low step.writes.level step.writes.leftmost step.writes.once
      step.gone_number step.gone_below step.low step.posted step.gone_node step.child now index.dated step.place step.there step.locked step.one_child step.charted step.entry step.stood step.named step.no_twin.0 alone (λ d. (step.children d).0);
  evolves = λ begun le. evolves_at begun chart next step.gone_number (at_level (suc step.gone_below)) step.prefix step.low (gone now) step.charted (inr (on step.posted, step.place, went le));
}
  where
    alone : (j : ℕ) → AreTwins twins step.gone_number j ⊎ AreTwins twins j step.gone_number → ⊥
    alone j (inl t) = step.gone_no_twin.1 j t
    alone j (inr t) = step.gone_no_twin.0 j t

    -- the interior above has a greater level
    not_gone : step.number ≢ step.gone_number
    not_gone e =
        let w = children_on arena chart index.tree step.number step.below step.prefix step.least step.writes.posted step.old step.writes.place step.writes.there in
        let (lower, named) = on_child chart step.writes.posted step.prefix (suc step.below) step.entry (w.each step.entry step.stood) in
        let same : chart step.entry.number ≡ chart step.number = ap chart (step.named ∙ sym e) in
        let place = step.writes.place in
        let level : at_level step.entry.level ≡ at_level (suc step.below) = cc in
        let level_too : step.entry.level ≡ suc step.below = cc in
        omega arith

    -- what is charted as before is not what goes
    stays : (d : PlainChild) → chart d.number ≡ next d.number → d.number ≢ step.gone_number
    stays d e same =
        let here : chart step.gone_number ≡ next step.gone_number = subst (λ (n : ℕ). chart n ≡ next n) same e in
        let was = step.place in let is = step.charted.now in
        on_not_gone step.posted now (cc)

    only_one : (d : ℕ) → (v : PlainChild) × Among v step.gone_node.children × (v.number ≡ d) → (v : PlainChild) × Among v step.new.children × (v.number ≡ d)
    only_one d (v, i, e) = go v e (subst (λ (u : List PlainChild). Among v u) step.one_child i)
      where
        go : (v : PlainChild) → v.number ≡ d → Among v (step.child ∷ []) → (v : PlainChild) × Among v step.new.children × (v.number ≡ d)
        go v e first = (v, (step.children v).1 (inl refl), e)
        go v e (Among.later i) = elim i [ ]

pub bypassing_root : BypassingARootKeeps
bypassing_root now twins arena after chart next index step = record {
  index = record {
    tree = root_bypass_tree arena after chart index.tree step.number step.prefix step.old step.new step.writes.place step.writes.there step.writes.written next (AreTwins twins) index.owned step.gone_number step.gone_below step.gone_node step.child now index.dated
        step.was_root step.place step.there step.locked step.one_child step.charted step.root step.level step.no_twin.0;
    owned = root_bypass_owned arena after chart next (AreTwins twins) index.owned step.number step.prefix step.old step.new step.writes.place step.writes.there step.writes.written step.gone_number step.gone_below step.gone_node step.child now step.place step.there step.one_child step.root step.charted step.gone_no_twin.1;
    named = named_bypassed_root arena after chart next step.number step.prefix step.old step.new step.writes.place step.writes.there step.writes.written step.gone_number step.gone_below step.gone_node step.child now step.was_root step.place step.there
        step.one_child step.root step.charted (λ e. head_no_node chart step.number step.gone_number step.prefix step.prefix 0 0 (suc step.gone_below) (on true) (on true) step.writes.place step.place e) index.named;
    marked = marked_head arena after chart next index.tree index.marked (was_head chart next step.gone_number (spot (at_level (suc step.gone_below)) step.prefix 0 (gone now)) step.charted (λ p e. no_head (suc step.gone_below) step.prefix p 0 (gone now) e))
        step.number step.old step.new step.writes.there step.writes.written
        (λ d. absurd (no_interior arena step.gone_number step.gone_node step.there (subst (λ (n : ℕ). IsLastBorder arena n) step.was_root (index.marked step.number step.prefix step.old step.writes.place step.writes.there (sym step.deleted ∙ d)))));
    dated = dated_at chart next step.gone_number (at_level (suc step.gone_below)) step.prefix 0 (gone now) now step.charted (λ e q. gone_now now e q) index.dated;
  };
  content = root_bypass_content arena after chart index.tree step.number step.prefix step.old step.new step.writes.place step.writes.there step.writes.written next (AreTwins twins) index.owned step.gone_number step.gone_below step.gone_node step.child now index.dated
      step.was_root step.place step.there step.locked step.one_child step.charted step.root step.level step.no_twin.0;
  evolves = λ begun le. evolves_at begun chart next step.gone_number (at_level (suc step.gone_below)) step.prefix 0 (gone now) step.charted (inr (on true, step.place, went le));
}

-- a change of the chart alone comes before the step
after_charted : (now : ℕ) (twins : List Twin) (arena after : Arena) (chart between next : Chart) → ((begun : ℕ) → Evolves begun chart between) → Keeps now twins arena after between next → Keeps now twins arena after chart next
after_charted now twins arena after chart between next evolves step = record { index = step.index; content = step.content; evolves = λ begun le. evolves_again begun chart between next (evolves begun) (step.evolves begun le) }

-- a number that the chart knows is no number that it does not know
known_differs : (chart : Chart) (n r : ℕ) (x : Spot) → chart n ≡ Some x → chart r ≡ None → n ≢ r
known_differs chart n r x g f e = let u : chart n ≡ chart r = ap chart e in let w : ◌≡◌ {A = Option Spot} None (Some x) = sym f ∙ (sym u ∙ g) in cc

-- a head names the filled interior `x`, over the old root and `c`, which may be named and nobody names
naming_root : (now : ℕ) (twins : List Twin) (arena after : Arena) (chart next : Chart) → IsTree arena chart → Owned arena chart (AreTwins twins) → Dated chart now → Named after next → MarkedHeads after next → (h : ℕ) (q : List ℕ) (t t' : HeadNode) → WritesHead arena after chart h q t t' →
    (c k l : ℕ) → chart c ≡ Some (spot (at_level k) q l (on true)) → ((j : ℕ) → Owns arena chart j c → ⊥) → (x f : ℕ) (node : InteriorNode) → chart x ≡ None → arena x ≡ Some (interior node) →
    Changes chart next x (Some (spot (at_level (suc f)) q 0 (on true))) → node.low ≡ 0 → node.level ≡ suc f → t.level < suc f → k < suc f →
    node.children ≡ (record { low = 0; number = t.root; level = t.level }) ∷ ((record { low = l; number = c; level = k }) ∷ []) → NoChildTwice node.children → t'.root ≡ x → t'.level ≡ suc f → NoTwin twins h → Keeps now twins arena after chart next
naming_root now twins arena after chart next tree owned dated named marked h q t t' writes c k l at_c unowned x f node fresh filled charted low node_level below below_c children once root level alone = record {
  index = record {
    tree = new_root_tree arena after chart tree h q t t' writes.place writes.there writes.written next c k l x f node at_c fresh filled charted low node_level below below_c children root level;
    owned = new_root_owned arena after chart next (AreTwins twins) tree owned h q t t' writes.place writes.there writes.written c k l x f node at_c unowned fresh filled charted children once root alone.0;
    named = named;
    marked = marked;
    dated = dated_at chart next x (at_level (suc f)) q 0 (on true) now charted (λ e q. absurd (on_not_gone true e q)) dated;
  };
  content = new_root_content arena after chart tree h q t t' writes.place writes.there writes.written next c k l x f node at_c fresh filled charted low node_level below below_c children root level;
  evolves = λ begun le. evolves_at begun chart next x (at_level (suc f)) q 0 (on true) charted (inl fresh);
}

pub making_root : MakingARootKeeps
making_root now twins arena after chart between next index step =
    after_charted now twins arena after chart between next
    (λ begun. evolves_at begun chart between step.posted_number (at_level 0) step.prefix step.low (on true) step.posted_charted (inr (on false, step.place, still_on)))
    (naming_root now twins arena after between next permitted_tree (permitted_owned arena chart between step.posted_number step.prefix step.low step.posted_charted (AreTwins twins) index.owned)
    (dated_at chart between step.posted_number (at_level 0) step.prefix step.low (on true) now step.posted_charted (λ e q. absurd (on_not_gone true e q)) index.dated) named marked step.number step.prefix step.old step.new
    (record { place = step.posted_charted.rest step.number not_posted ∙ step.writes.place; there = step.writes.there; written = step.writes.written })
    step.posted_number 0 step.low step.posted_charted.now (permitted_unowned arena chart between step.posted_number step.prefix step.low step.posted_charted index.tree step.place)
    step.root_number step.below step.root_node (step.posted_charted.rest step.root_number (λ e. known_differs chart step.posted_number step.root_number (spot (at_level 0) step.prefix step.low (on false)) step.place step.unknown (sym e)) ∙ step.unknown)
    step.filled step.root_charted step.root_low step.root_level step.higher (omega arith) step.children step.once step.root step.level step.no_twin)
  where
    not_posted : step.number ≢ step.posted_number
    not_posted e = head_no_node chart step.number step.posted_number step.prefix step.prefix 0 step.low 0 (on true) (on false) step.writes.place step.place e

    permitted_tree : IsTree arena between
    permitted_tree = permit arena chart index.tree between step.posted_number step.prefix step.low false true step.place step.posted_charted (inl refl)

    named : Named after next
    named = named_new_root arena after chart next step.number step.prefix step.old step.new step.writes.place
        (step.root_charted.rest step.number (known_differs chart step.number step.root_number (spot top step.prefix 0 (on true)) step.writes.place step.unknown) ∙ (step.posted_charted.rest step.number not_posted ∙ step.writes.place))
        step.writes.there step.writes.written step.posted_number 0 step.low step.root_number step.below step.root_node (border_none chart step.posted_number step.prefix step.low (on false) step.place) step.unknown step.filled step.root_charted.now
        (λ j e f. step.root_charted.rest j f ∙ step.posted_charted.rest j e) step.children step.root index.named

    marked : MarkedHeads after next
    marked = marked_head arena after chart next index.tree index.marked
        (λ j p g. was_head chart between step.posted_number (spot (at_level 0) step.prefix step.low (on true)) step.posted_charted (λ q e. no_head 0 step.prefix q step.low (on true) e) j p
        (was_head between next step.root_number (spot (at_level (suc step.below)) step.prefix 0 (on true)) step.root_charted (λ q e. no_head (suc step.below) step.prefix q 0 (on true) e) j p g))
        step.number step.old step.new step.writes.there step.writes.written
        (λ d. absurd (let e : false ≡ true = (only_border arena chart index.tree index.marked step.number step.prefix step.old step.writes.place step.writes.there (sym step.deleted ∙ d) step.posted_number step.low false step.place).2 in cc))

pub making_root_over_half : MakingARootOverAHalfKeeps
making_root_over_half now twins more_twins arena after chart between next index step =
    after_charted now more_twins arena after chart between next
    (λ begun. evolves_at begun chart between step.half_number (at_level (suc step.below)) step.prefix step.low (on true) step.half_charted (inl step.half_unknown))
    (naming_root now more_twins arena after between next known_tree known_owned
    (dated_at chart between step.half_number (at_level (suc step.below)) step.prefix step.low (on true) now step.half_charted (λ e q. absurd (on_not_gone true e q)) index.dated) named marked step.number step.prefix step.old step.new
    (record {
      place = step.half_charted.rest step.number (known_differs chart step.number step.half_number (spot top step.prefix 0 (on true)) step.writes.place step.half_unknown) ∙ step.writes.place;
      there = step.writes.there;
      written = step.writes.written;
    })
    step.half_number (suc step.below) step.low step.half_charted.now
    (half_unowned arena chart between index.tree step.split_number step.below step.prefix 0 true step.split step.place step.there step.half_number step.low step.half step.half_unknown step.half_filled step.half_charted step.part)
    step.root_number step.root_below step.root_node (step.half_charted.rest step.root_number two_numbers ∙ step.unknown)
    step.filled step.root_charted step.root_low step.root_level (omega (arith, old_level, step.above)) (omega (arith, step.above)) step.children step.once step.root step.level step.no_twin)
  where
    known_tree : IsTree arena between
    known_tree = half_known_tree arena arena chart between index.tree step.split_number step.below step.prefix 0 true step.split step.place step.there step.half_number step.low step.half step.half_unknown step.half_filled step.half_charted
        step.half_low step.half_level step.half_leftmost step.part

    known_owned : Owned arena between (AreTwins more_twins)
    known_owned = owned_half arena chart between (AreTwins twins) (AreTwins more_twins) index.owned step.kept_twins step.split_number step.below step.prefix 0 true step.split step.place step.there
        step.half_number step.low step.half step.half_filled step.half_charted step.half_once step.part step.new_twins

    named : Named after next
    named = named_new_root arena after chart next step.number step.prefix step.old step.new step.writes.place
        (step.root_charted.rest step.number (known_differs chart step.number step.root_number (spot top step.prefix 0 (on true)) step.writes.place step.unknown) ∙
        (step.half_charted.rest step.number (known_differs chart step.number step.half_number (spot top step.prefix 0 (on true)) step.writes.place step.half_unknown) ∙ step.writes.place))
        step.writes.there step.writes.written step.half_number (suc step.below) step.low step.root_number step.root_below step.root_node (unknown_none chart step.half_number step.half_unknown) step.unknown step.filled step.root_charted.now
        (λ j e f. step.root_charted.rest j f ∙ step.half_charted.rest j e) step.children step.root index.named

    marked : MarkedHeads after next
    marked = marked_head arena after chart next index.tree index.marked
        (λ j p g. was_head chart between step.half_number (spot (at_level (suc step.below)) step.prefix step.low (on true)) step.half_charted (λ q e. no_head (suc step.below) step.prefix q step.low (on true) e) j p
        (was_head between next step.root_number (spot (at_level (suc step.root_below)) step.prefix 0 (on true)) step.root_charted (λ q e. no_head (suc step.root_below) step.prefix q 0 (on true) e) j p g))
        step.number step.old step.new step.writes.there step.writes.written
        (λ d. absurd (no_interior arena step.split_number step.split step.there (subst (λ (n : ℕ). IsLastBorder arena n) step.was_root (index.marked step.number step.prefix step.old step.writes.place step.writes.there (sym step.deleted ∙ d)))))

    -- they have two levels
    two_numbers : step.root_number ≢ step.half_number
    two_numbers e =
        let u : arena step.root_number ≡ arena step.half_number = ap arena e in
        let v = step.filled in let v' = step.half_filled in
        let same : step.root_node ≡ step.half = cc in
        let level : step.root_node.level ≡ step.half.level = ap (λ (n : InteriorNode). n.level) same in
        omega (arith, level, step.root_level, step.half_level, step.above)

    old_level : step.old.level ≡ suc step.below
    old_level =
        let root : chart step.split_number ≡ Some (spot (at_level step.old.level) step.prefix 0 (on true)) = rw step.was_root at (head_root arena chart index.tree step.number step.prefix step.old step.writes.place step.writes.there) in
        let v = step.place in
        let w : at_level step.old.level ≡ at_level (suc step.below) = cc in
        cc

pub marking_head : MarkingAHeadKeeps
marking_head now twins arena after chart index step = record {
  index = record {
    tree = mark_head_tree arena after chart index.tree step.number step.prefix step.old step.new step.writes.place step.writes.there step.writes.written step.root step.level;
    owned = owned_root arena after chart (AreTwins twins) index.owned step.number step.prefix step.old step.new step.writes.place step.writes.there step.writes.written (inl (sym step.root));
    named = named_head arena after chart step.number step.prefix step.old step.new step.writes.place step.writes.there step.writes.written step.root index.named;
    marked = marked_head arena after chart chart index.tree index.marked (λ j p g. g) step.number step.old step.new step.writes.there step.writes.written (λ d. subst (λ (n : ℕ). IsLastBorder arena n) (sym step.root) (last (step.last d)));
    dated = index.dated;
  };
  content = mark_head_content arena after chart index.tree step.number step.prefix step.old step.new step.writes.place step.writes.there step.writes.written step.root step.level;
  evolves = λ begun le. evolves_same begun chart;
}
  where
    last : (step.old.deleted ≡ true) ⊎ IsLastBorder arena step.old.root → IsLastBorder arena step.old.root
    last (inl d) = index.marked step.number step.prefix step.old step.writes.place step.writes.there d
    last (inr root) = root

pub posting_half : PostingAHalfKeeps
posting_half now twins more_twins arena after chart next index step = record {
  index = record {
    tree = half_posted_tree arena after chart next index.tree step.number step.below step.prefix step.least step.posted step.node step.place step.there step.half_number step.low step.half step.unknown step.filled step.charted step.half_low step.half_level step.half_leftmost step.part
        step.parent_number step.parent_below step.parent_least step.writes.posted step.old step.new step.writes.place step.writes.there step.writes.written step.above step.writes.low step.writes.level step.writes.leftmost (λ d. (step.children d).0);
    owned = half_posted_owned arena after chart next (AreTwins twins) (AreTwins more_twins) index.tree index.owned step.kept_twins step.number step.below step.prefix step.least step.posted step.node step.place step.there
        step.half_number step.low step.half step.unknown step.filled step.charted step.half_once step.part step.new_twins
        step.parent_number step.parent_below step.parent_least step.writes.posted step.old step.new step.writes.place step.writes.there step.writes.written step.writes.once (λ d. (step.children d).0);
    named = named_children arena after chart next step.parent_number step.parent_below step.prefix step.parent_least step.writes.posted step.old step.new step.writes.place step.writes.there step.writes.written step.half_number
        (step.charted.rest step.parent_number (known_differs chart step.parent_number step.half_number (spot (at_level (suc step.parent_below)) step.prefix step.parent_least (on step.writes.posted)) step.writes.place step.unknown))
        step.charted.rest index.named (λ d i e. inl ((step.children d).1 (inr i))) (λ d o. absurd (owns_none arena chart step.half_number d (unknown_none chart step.half_number step.unknown) o))
        (λ k p l y e. inr (inr (record { low = step.low; number = step.half_number; level = suc step.below }, (step.children (record { low = step.low; number = step.half_number; level = suc step.below })).1 (inl refl), refl)));
    marked = marked_interior arena after chart next index.tree index.marked (was_head chart next step.half_number (spot (at_level (suc step.below)) step.prefix step.low (on true)) step.charted (λ p e. no_head (suc step.below) step.prefix p step.low (on true) e))
        step.parent_number step.old step.new step.writes.there step.writes.written;
    dated = dated_at chart next step.half_number (at_level (suc step.below)) step.prefix step.low (on true) now step.charted (λ e q. absurd (on_not_gone true e q)) index.dated;
  };
  content = half_posted_content arena after chart next index.tree step.number step.below step.prefix step.least step.posted step.node step.place step.there step.half_number step.low step.half step.unknown step.filled step.charted step.half_low step.half_level step.half_leftmost step.part
      step.parent_number step.parent_below step.parent_least step.writes.posted step.old step.new step.writes.place step.writes.there step.writes.written step.above step.writes.low step.writes.level step.writes.leftmost (λ d. (step.children d).0);
  evolves = λ begun le. evolves_at begun chart next step.half_number (at_level (suc step.below)) step.prefix step.low (on true) step.charted (inl step.unknown);
}

pub keeping_children : KeepingChildrenKeeps
keeping_children now twins arena after chart index step = record {
  index = record {
    tree = half_kept_tree arena after chart chart index.tree step.number step.below step.prefix step.least step.writes.posted step.old step.writes.place step.writes.there step.new step.writes.written step.writes.low step.writes.level step.writes.leftmost step.children;
    owned = owned_children arena after chart (AreTwins twins) index.owned step.number step.below step.prefix step.least step.writes.posted step.old step.new step.writes.place step.writes.there step.writes.written step.writes.once (λ d k. inl (step.children d k));
    named = named_step arena after chart chart step.number step.number step.writes.written.rest (λ j ne. refl) index.named owner owner (λ k p l y e. inl refl);
    marked = marked_interior arena after chart chart index.tree index.marked (λ j p g. g) step.number step.old step.new step.writes.there step.writes.written;
    dated = index.dated;
  };
  content = half_kept_content arena after chart chart index.tree step.number step.below step.prefix step.least step.writes.posted step.old step.writes.place step.writes.there step.new step.writes.written step.writes.low step.writes.level step.writes.leftmost step.children;
  evolves = λ begun le. evolves_same begun chart;
}
  where
    owner : (d : ℕ) → chart d ≡ chart d → Owns arena chart step.number d → HasOwner after chart d
    owner d e o = go (interior_owns arena chart step.number step.below step.prefix step.least step.writes.posted step.old d step.writes.place step.writes.there o)
      where
        named : (v : PlainChild) → Among v step.new.children ⊎ ((other : ℕ) × (other ≢ step.number) × Owns arena chart other v.number) → HasOwner after chart v.number
        named v (inl i) = (step.number, by_interior step.below step.prefix step.least step.writes.posted step.new v step.writes.place step.writes.written.now i refl)
        named v (inr (other, ne, owns)) = still_owns arena after chart chart other v.number (step.writes.written.rest other ne) refl owns

        go : (v : PlainChild) × Among v step.old.children × (v.number ≡ d) → HasOwner after chart d
        go (v, i, r) = subst (λ (n : ℕ). HasOwner after chart n) r (named v (step.left_out v i))

pub fewer_twins : PartsNeedBeNoTwins
fewer_twins now twins fewer arena chart index apart = record {
  tree = index.tree;
  owned = owned_shrink arena chart (AreTwins twins) (AreTwins fewer) index.owned apart;
  named = index.named;
  marked = index.marked;
  dated = index.dated;
}

pub marking_gone : MarkingWhatIsGoneKeeps
marking_gone now twins arena after chart index step = record {
  index = record {
    tree = new_tree;
    owned = owned_rest arena after chart chart (AreTwins twins) index.owned
        (λ j r p l y g ne. (refl, step.written.rest j (on_no_gone chart j step.number r (at_level (suc step.below)) p step.prefix l step.low y step.epoch g step.place)));
    named = named_written arena after chart step.number (Some (interior step.node)) step.written (gone_none chart step.number (at_level (suc step.below)) step.prefix step.low step.epoch step.place) index.named;
    marked = let was = index.tree.interiors step.number step.below step.prefix step.low (gone step.epoch) step.place in marked_interior arena after chart chart index.tree index.marked (λ j p g. g) step.number was.node step.node was.is_node step.written;
    dated = index.dated;
  };
  content = same_borders_content arena after chart index.tree new_tree (λ m q l st g. step.written.rest m (interior_no_border chart m step.number step.below q step.prefix l step.low st (gone step.epoch) g step.place));
  evolves = λ begun le. evolves_same begun chart;
}
  where
    new_tree : IsTree after chart
    new_tree = mark_gone arena chart index.tree after step.number step.below step.prefix step.low step.epoch step.node step.place step.written step.node_low step.node_level step.marked

pub marking_gone_head : MarkingAGoneHeadKeeps
marking_gone_head now twins arena after chart index step = gone_head_keeps arena after chart step.number step.prefix step.low step.epoch now twins step.node index step.place step.written step.marked

pub changing_spares : ChangingSparesKeeps
changing_spares now twins arena after chart index same = spares_keep now twins arena after chart index same

pub freeing : FreeingKeeps
freeing now twins arena chart next epoch index step = (
  record {
    tree = free_tree arena chart next index.tree step.number step.role step.prefix step.low epoch step.place step.charted.now step.charted.rest (λ m f q v e x. step.later m f q v e x);
    owned = owned_rest arena arena chart next (AreTwins twins) index.owned (λ j r p l y g ne. (sym (step.charted.rest j (known_differs next j step.number (spot r p l (on y)) g step.charted.now)), refl));
    named = named_rest arena arena chart next index.named (λ j r p l y g ne. (step.charted.rest j (on_no_gone chart j step.number r step.role p step.prefix l step.low y epoch g step.place), refl))
        (λ d k p l y g. sym (step.charted.rest d (known_differs next d step.number (spot (at_level k) p l (on y)) g step.charted.now)));
    marked = marked_rest arena arena chart next index.tree index.marked (λ j p g. sym (step.charted.rest j (known_differs next j step.number (spot top p 0 (on true)) g step.charted.now)) ∙ g) (λ j r p l y g. refl);
    dated = λ m role p l e g. index.dated m role p l e (sym (step.charted.rest m (known_differs next m step.number (spot role p l (gone e)) g step.charted.now)) ∙ g);
  },
  free_evolves arena chart next index.tree step.number step.role step.prefix step.low epoch step.place step.charted.now step.charted.rest (λ m f q v e x. step.later m f q v e x),
)

pub later_epochs : LaterEpochsKeep
later_epochs now later twins arena chart le index = record { tree = index.tree; owned = index.owned; named = index.named; marked = index.marked; dated = dated_later chart now later le index.dated }
