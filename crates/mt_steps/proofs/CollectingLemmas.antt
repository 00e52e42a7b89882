-- A collection frees one node after another.
use Rattle.std.proofs.Common.{ℕ, zero, suc, ◌≡◌, ◌<◌, ◌≤◌, ◌+◌, inl, inr, Bool, true, false, List, [], ◌∷◌, length, take, drop, slice_get, Option, Some, None, refl, sym, ap, subst, ◌∙◌, arith, add-one}
use Rattle.std.specs.Prelude.{IsSomeAnd, All, slice_index_or, if◌then◌else◌}
use Rattle.std.proofs.Common.{◌==◌}
use Rattle.std.proofs.lemmas.Bool.{eq-eqb}
use Rattle.std.specs.List.Sorted.{IsNonDecreasingBy}
use Rattle.std.specs.Option.{option_and_then}
use Rattle.std.proofs.lemmas.List.Elements.{All-nil, All-cons, All-head, All-tail}
use Rattle.mt_types.specs.declared.limits.TheConstants.{MAX_NODES}
use Rattle.mt_types.specs.declared.numbers.NodeNo.{NodeNo}
use Rattle.mt_arena.specs.Node.{Nodes, node_at, border_of, Updates}
use Rattle.mt_arena.specs.declared.node.Node.{Node}
use Rattle.mt_arena.specs.Arena.{ArenaView, IsArena, FreesFirst}
use Rattle.mt_arena.specs.declared.retired.Retired.{Retired}
use Rattle.mt_arena.proofs.ArenaLemmas.{retired_among}
use Rattle.mt_chart.proofs.Basics.{same_number}
use Rattle.mt_chart.proofs.HeldNodes.{evolves_same, evolves_again}
use Rattle.mt_tree.specs.Keeping.{FreesNode}
use Rattle.mt_steps.specs.Collecting.{CollectLaw, GivesBack, named_without}
use Rattle.mt_steps.proofs.AgingLemmas.{age_same, age_less}
use Rattle.mt_steps.proofs.LayerLemmas.{content_twice}
use Rattle.mt_steps.proofs.CollectLemmas.{without_spot, collects}
use Rattle.mt_steps.proofs.SplitLemmas.{eqb-ne}
use Rattle.mt_steps.proofs.TwiceLemmas.{same_twice, taken_on}

-- before any is freed
pub law_none : (a : ArenaView) (before : ℕ) → CollectLaw a a before
law_none a before now w world since = record {
  next = w;
  world = world;
  content = λ key row. ((λ h. h), (λ h. h));
  evolves = λ begun less. evolves_same begun w.chart;
  leaves = λ number taken. record { node = refl; spot = refl; twins = λ one other here. ((λ h. h), (λ h. h)); closing = λ i. i; retired = ((λ h. h), (λ h. h)) };
  takes = λ number taken. taken;
  age = (age_same {commit = None}).borders;
}

-- once one more is
pub law_more : (a mid after : ArenaView) (before : ℕ) (node : Retired) (others : List Retired) → CollectLaw a mid before → IsArena mid → mid.retired ≡ node ∷ others → FreesFirst mid after → FreesNode mid after node.node.0 → node.epoch < before → CollectLaw a after before
law_more a mid after before node others law sound is freed frees early now w world since =
    let one = law now w world since in
    let two = collects mid now one.next node others sound one.world is after freed frees (λ number taken below prefix low epoch place.
    let was = one.takes number taken in
    let from = since number was below prefix low epoch (sym (one.leaves number was).spot ∙ place) in
    omega (arith, from, early)) in
    record {
      next = record { twins = one.next.twins; closing = one.next.closing; chart = without_spot one.next.chart node.node.0 };
      world = two.world;
      content = content_twice a mid after one.content two.content;
      evolves = λ begun less. evolves_again begun w.chart one.next.chart _ (one.evolves begun less) (two.evolves begun (omega (arith, less, early)));
      leaves = λ number taken. let same = one.leaves number taken in same_twice a mid after w one.next _ number same (two.leaves number (taken_on a mid w one.next number same taken));
      takes = λ number taken. one.takes number (two.takes number taken);
      age = age_less two.number one.age (ap (option_and_then border_of) two.nothing) two.others two.placed;
    }

-- ---- which are freed
-- what is left after one more, of a list
swap : (b c : Bool) (m : Option Node) → (if b then None else (if c then None else m)) ≡ (if c then None else (if b then None else m))
swap true true m = refl
swap true false m = refl
swap false true m = refl
swap false false m = refl

names_more : (l : List Retired) (count : ℕ) (node : Retired) (others : List Retired) (nodes : Nodes) (number : ℕ) → drop count l ≡ node ∷ others
    → named_without (take (suc count) l) nodes number ≡ (if number == node.node.0 then None else named_without (take count l) nodes number)
names_more [] zero node others nodes number e = absurd (let clash : ◌≡◌ {A = List Retired} [] (node ∷ others) = e in cc)
names_more [] (suc count) node others nodes number e = absurd (let clash : ◌≡◌ {A = List Retired} [] (node ∷ others) = e in cc)
names_more (x ∷ xs) zero node others nodes number e =
    let same : x ≡ node = cc in
    ap (λ (r : Retired). if number == r.node.0 then None else node_at nodes number) same
names_more (x ∷ xs) (suc count) node others nodes number e =
    ap (λ (m : Option Node). if number == x.node.0 then None else m) (names_more xs count node others nodes number e)
    ∙ swap (number == x.node.0) (number == node.node.0) (named_without (take count xs) nodes number)

-- and of an arena
pub gives_one_more : (a mid after : ArenaView) (count : ℕ) (node : Retired) (others : List Retired) → GivesBack count a mid → mid.retired ≡ node ∷ others → FreesFirst mid after → GivesBack (count + 1) a after
gives_one_more a mid after count node others left is freed =
    let both : ◌≡◌ {A = List Retired} (freed.first ∷ after.retired) (node ∷ others) = sym freed.retired ∙ is in
    let same : freed.first ≡ node = cc in
    let retired : after.retired ≡ others = cc in
    let updates : Updates mid.nodes after.nodes node.node.0 None = subst (λ (r : Retired). Updates mid.nodes after.nodes r.node.0 None) same freed.updates in
    let more_names = λ (number : ℕ). names_more a.retired count node others a.nodes number (sym left.rest ∙ is) in
    record {
      nodes = λ number. elim (same_number number node.node.0) [
        | inl e ↦ ap (node_at after.nodes) e ∙ (updates.changed
            ∙ (sym (ap (λ (b : Bool). if b then None else named_without (take count a.retired) a.nodes number) (eq-eqb number node.node.0 e))
            ∙ (sym (more_names number) ∙ ap (λ (n : ℕ). named_without (take n a.retired) a.nodes number) (sym (add-one count)))))
        | inr differ ↦ updates.others number differ ∙ (left.nodes number
            ∙ (sym (ap (λ (b : Bool). if b then None else named_without (take count a.retired) a.nodes number) (eqb-ne number node.node.0 differ))
            ∙ (sym (more_names number) ∙ ap (λ (n : ℕ). named_without (take n a.retired) a.nodes number) (sym (add-one count)))))
      ];
      rest = retired ∙ (dropped a.retired count (sym left.rest ∙ is) ∙ ap (λ (n : ℕ). drop n a.retired) (sym (add-one count)));
    }
  where
    dropped : (l : List Retired) (n : ℕ) → drop n l ≡ node ∷ others → others ≡ drop (suc n) l
    dropped [] zero e = absurd (let clash : ◌≡◌ {A = List Retired} [] (node ∷ others) = e in cc)
    dropped [] (suc n) e = absurd (let clash : ◌≡◌ {A = List Retired} [] (node ∷ others) = e in cc)
    dropped (x ∷ xs) zero e = let same : xs ≡ others = cc in sym same
    dropped (x ∷ xs) (suc n) e = dropped xs n e

-- one more of a list
more : (before : ℕ) (l : List Retired) (count : ℕ) (node : Retired) (others : List Retired) → drop count l ≡ node ∷ others → All (λ (r : Retired). r.epoch < before) (take count l) → node.epoch < before
    → All (λ (r : Retired). r.epoch < before) (take (suc count) l) × (drop (suc count) l ≡ others)
more before [] zero node others e all early = absurd (let clash : ◌≡◌ {A = List Retired} [] (node ∷ others) = e in cc)
more before [] (suc count) node others e all early = absurd (let clash : ◌≡◌ {A = List Retired} [] (node ∷ others) = e in cc)
more before (x ∷ xs) zero node others e all early =
    let same : x ≡ node = cc in
    let rest : xs ≡ others = cc in
    (All-cons (λ (r : Retired). r.epoch < before) x [] (subst (λ (r : Retired). r.epoch < before) (sym same) early) (All-nil (λ (r : Retired). r.epoch < before)), rest)
more before (x ∷ xs) (suc count) node others e all early =
    let (rest, is) = more before xs count node others e (All-tail (λ (r : Retired). r.epoch < before) x (take count xs) all) early in
    (All-cons (λ (r : Retired). r.epoch < before) x (take (suc count) xs) (All-head (λ (r : Retired). r.epoch < before) x (take count xs) all) rest, is)

-- the first of those that are left
pub first_is : (l : List Retired) (node : Retired) → slice_get l 0 ≡ Some node → (others : List Retired) × (l ≡ node ∷ others)
first_is [] node e = absurd (let clash : ◌≡◌ {A = Option Retired} None (Some node) = e in cc)
first_is (x ∷ xs) node e = let same : x ≡ node = cc in (xs, ap (λ (r : Retired). r ∷ xs) same)

pub frees_more : (a mid : ArenaView) (before count : ℕ) (node : Retired) (others : List Retired) → mid.retired ≡ drop count a.retired → All (λ (r : Retired). r.epoch < before) (take count a.retired) → mid.retired ≡ node ∷ others → node.epoch < before
    → All (λ (r : Retired). r.epoch < before) (take (count + 1) a.retired)
frees_more a mid before count node others rest all is early =
    let (taken, left) = more before a.retired count node others (sym rest ∙ is) all early in
    subst (λ (n : ℕ). All (λ (r : Retired). r.epoch < before) (take n a.retired)) (sym (add-one count)) taken

-- none is left
pub none_left : (l : List Retired) → None ≡ slice_get l 0 → l ≡ []
none_left [] e = refl
none_left (x ∷ xs) e = absurd (let clash : ◌≡◌ {A = Option Retired} None (Some x) = e in cc)

-- if one is left, fewer were freed than there were
pub some_left : (l : List Retired) (count : ℕ) (node : Retired) (others : List Retired) → drop count l ≡ node ∷ others → count + 1 ≤ length l
some_left [] zero node others e = absurd (let clash : ◌≡◌ {A = List Retired} [] (node ∷ others) = e in cc)
some_left [] (suc count) node others e = absurd (let clash : ◌≡◌ {A = List Retired} [] (node ∷ others) = e in cc)
some_left (x ∷ xs) zero node others e = omega arith
some_left (x ∷ xs) (suc count) node others e = let less = some_left xs count node others e in omega (arith, less)

-- the first that is left was retired in the epoch or later, and so were all
pub all_late : (l : List Retired) (before : ℕ) (node : Retired) (others : List Retired) → IsNonDecreasingBy (λ (r : Retired). r.epoch) l → l ≡ node ∷ others → before ≤ node.epoch → All (λ (r : Retired). before ≤ r.epoch) l
all_late l before node others sorted is late k d within =
    let least = sorted 0 k d (omega arith) within in
    let first_one : slice_index_or l 0 d ≡ node = ap (λ (x : List Retired). slice_index_or x 0 d) is in
    let at = ap (λ (r : Retired). r.epoch) first_one in
    omega (arith, least, at, late)

-- there are no more than all numbers
pub all_freed : (a : ArenaView) (count : ℕ) → IsArena a → MAX_NODES ≤ count → drop count a.retired ≡ []
all_freed a count sound most =
    let few = retired_among a.nodes a.retired sound.retired.named sound.retired.once in
    let within = sound.within in
    past a.retired count (omega (arith, few, within, most))
  where
    past : (l : List Retired) (n : ℕ) → length l ≤ n → drop n l ≡ []
    past [] zero less = refl
    past [] (suc n) less = refl
    past (x ∷ xs) zero less = absurd (omega (arith, less))
    past (x ∷ xs) (suc n) less = past xs n (omega (arith, less))

-- it is the first that is freed
pub frees_first : (mid new : ArenaView) (node : Retired) (number : NodeNo) → Some node ≡ slice_get mid.retired 0 → IsSomeAnd (slice_get mid.retired 0) (λ one. number ≡ one.node) → FreesNode mid new number.0 → FreesNode mid new node.node.0
frees_first mid new node number is named frees =
    let same : number ≡ node.node = subst (λ (o : Option Retired). IsSomeAnd o (λ one. number ≡ one.node)) (sym is) named in
    subst (λ (m : NodeNo). FreesNode mid new m.0) same frees
