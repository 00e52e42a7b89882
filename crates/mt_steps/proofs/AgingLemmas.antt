-- How what the chart knows ages in a step that changes one node, or none that the chart knows.
use Rattle.std.proofs.Common.{ℕ, ◌≡◌, ◌≢◌, ◌⊎◌, inl, inr, Option, Some, None, IsSome, IsSomeAnd, true, false, refl, sym, ap, subst, ◌∙◌}
use Rattle.std.specs.Option.{option_and_then}
use Rattle.mt_border.specs.Border.{BorderView}
use Rattle.mt_arena.specs.Node.{node_at, border_at, border_of}
use Rattle.mt_arena.specs.Arena.{ArenaView}
use Rattle.mt_chart.specs.Chart.{Spot, Chart}
use Rattle.mt_chart.specs.Walk.{IsOn}
use Rattle.mt_chart.proofs.Basics.{same_number}
use Rattle.mt_tree.specs.Fields.{BorderAges, BorderChanges}
use Rattle.mt_tree.specs.OneField.{ChangesOneField}
use Rattle.mt_tree.specs.Keeping.{IsOnIn}
use Rattle.mt_tree.proofs.AgeLemmas.{ages_same}
use Rattle.mt_steps.specs.World.{World, BordersAge, NodesAge}

-- two borders under one number are one
one_border : {there : Option BorderView} (b other : BorderView) → there ≡ Some b → there ≡ Some other → b ≡ other
one_border b other is also = (let both : ◌≡◌ {A = Option BorderView} (Some b) (Some other) = sym is ∙ also in cc)

no_border : {there : Option BorderView} (b : BorderView) → there ≡ None → there ≡ Some b → ⊥
no_border b none is = (let clash : ◌≡◌ {A = Option BorderView} None (Some b) = sym none ∙ is in cc)

-- what becomes of a border that the chart knows, in a step that may be the commit of this number
abbrev pub AgesAt : Option ℕ → World → Chart → ℕ → BorderView → BorderView → Type 0
AgesAt commit w next n b then = IsSome (w.chart n) → BorderChanges commit b then × (IsOn next n ⊎ (then.right ≡ b.right))

-- what the chart doesn't know
unknown : (chart : Chart) (n : ℕ) → chart n ≡ None → IsSome (chart n) → ⊥
unknown chart n none known = (let clash : false ≡ true = subst (λ (x : Option Spot). IsSome x) none known in cc)

-- nothing is required of a border that the chart doesn't know
pub unknown_ages : {commit : Option ℕ} (w : World) (next : Chart) (n : ℕ) (b then : BorderView) → w.chart n ≡ None → AgesAt commit w next n b then
unknown_ages w next n b then none known = absurd (unknown w.chart n none known)

-- a border that is on
pub on_as : {chart next : Chart} {n : ℕ} {prefix : _} → IsOnIn chart n prefix → next n ≡ chart n → IsOn next n
on_as stands same = record { role = _; prefix = _; low = stands.low; posted = stands.posted; place = same ∙ stands.place }

-- all but one number name what they named, and a border of this number changes as one may
pub age_except : {commit : Option ℕ} {a after : ArenaView} {w next : World} (n : ℕ)
    → ((b : BorderView) → border_at a.nodes n ≡ Some b → IsSome (w.chart n) → (then : BorderView) × (border_at after.nodes n ≡ Some then) × BorderChanges commit b then × (IsOn next.chart n ⊎ (then.right ≡ b.right)))
    → ((other : ℕ) → other ≢ n → node_at after.nodes other ≡ node_at a.nodes other) → NodesAge commit a after w next
age_except {commit = commit} {a = a} {after = after} {w = w} {next = next} n here others = record {
  borders = record {
    ages = λ number b then known was is. elim (same_number number n) [
      | inl e ↦ (there number e b then known was is).0
      | inr differ ↦ subst (λ (t : BorderView). BorderAges b t) (same number differ b then was is) (ages_same {commit = None} b).ages
    ];
    rights = λ number b then known was is. elim (same_number number n) [
      | inl e ↦ subst (λ (m : ℕ). IsOn next.chart m ⊎ (then.right ≡ b.right)) (sym e) (there number e b then known was is).1
      | inr differ ↦ inr (ap (λ (t : BorderView). t.right) (sym (same number differ b then was is)))
    ];
  };
  one = record {
    number = n;
    border = λ b known was.
        let (then, is, changes, right) = here b was known in
        subst (λ (o : Option BorderView). IsSomeAnd o (λ then. (then.low ≡ b.low) × ChangesOneField commit b then)) (sym is) (changes.ages.low, changes.one);
    others = λ other differ known. others other differ;
  };
}
  where
    there : (number : ℕ) → number ≡ n → (b then : BorderView) → IsSome (w.chart number) → border_at a.nodes number ≡ Some b → border_at after.nodes number ≡ Some then → BorderAges b then × (IsOn next.chart n ⊎ (then.right ≡ b.right))
    there number e b then known was is =
        let (new, new_is, changes, right) = here b (subst (λ (m : ℕ). border_at a.nodes m ≡ Some b) e was) (subst (λ (m : ℕ). IsSome (w.chart m)) e known) in
        subst (λ (t : BorderView). BorderAges b t × (IsOn next.chart n ⊎ (t.right ≡ b.right))) (one_border new then new_is (subst (λ (m : ℕ). border_at after.nodes m ≡ Some then) e is)) (changes.ages, right)

    same : (number : ℕ) → number ≢ n → (b then : BorderView) → border_at a.nodes number ≡ Some b → border_at after.nodes number ≡ Some then → b ≡ then
    same number differ b then was is = one_border b then was (sym (ap (option_and_then border_of) (others number differ)) ∙ is)

-- what the chart knows is as it was
pub age_known : {commit : Option ℕ} {a after : ArenaView} {w next : World} → ((number : ℕ) → IsSome (w.chart number) → node_at after.nodes number ≡ node_at a.nodes number) → NodesAge commit a after w next
age_known {commit = commit} {a = a} {after = after} {w = w} {next = next} others = record {
  borders = record {
    ages = λ number b then known was is. subst (λ (t : BorderView). BorderAges b t) (same number b then known was is) (ages_same {commit = None} b).ages;
    rights = λ number b then known was is. inr (ap (λ (t : BorderView). t.right) (sym (same number b then known was is)));
  };
  one = record {
    number = 0;
    border = λ b known was. subst (λ (o : Option BorderView). IsSomeAnd o (λ then. (then.low ≡ b.low) × ChangesOneField commit b then))
        (sym (ap (option_and_then border_of) (others 0 known) ∙ was)) (refl, (ages_same b).one);
    others = λ other differ known. others other known;
  };
}
  where
    same : (number : ℕ) (b then : BorderView) → IsSome (w.chart number) → border_at a.nodes number ≡ Some b → border_at after.nodes number ≡ Some then → b ≡ then
    same number b then known was is = one_border b then was (sym (ap (option_and_then border_of) (others number known)) ∙ is)

-- nothing changes
pub age_same : {commit : Option ℕ} {a : ArenaView} {w next : World} → NodesAge commit a a w next
age_same = age_known (λ number known. refl)

-- one number changes, that named no border
pub age_beside : {commit : Option ℕ} {a after : ArenaView} {w next : World} (n : ℕ) → border_at a.nodes n ≡ None → ((other : ℕ) → other ≢ n → node_at after.nodes other ≡ node_at a.nodes other) → NodesAge commit a after w next
age_beside n none others = age_except n (λ b was known. absurd (no_border b none was)) others

-- or that the chart doesn't know
pub age_of_unknown : {commit : Option ℕ} {a after : ArenaView} {w next : World} (n : ℕ) → w.chart n ≡ None → ((other : ℕ) → other ≢ n → node_at after.nodes other ≡ node_at a.nodes other) → NodesAge commit a after w next
age_of_unknown {w = w} n none others = age_except n (λ b was known. absurd (unknown w.chart n none known)) others

-- or a border, which ages
pub age_one : {commit : Option ℕ} {a after : ArenaView} {w next : World} (n : ℕ) (b then : BorderView) → border_at a.nodes n ≡ Some b → border_at after.nodes n ≡ Some then → AgesAt commit w next.chart n b then
    → ((other : ℕ) → other ≢ n → node_at after.nodes other ≡ node_at a.nodes other) → NodesAge commit a after w next
age_one {commit = commit} {next = next} n b then named named_then ages others =
    age_except n (λ x was known.
    let changes = subst (λ (t : BorderView). BorderChanges commit t then × (IsOn next.chart n ⊎ (then.right ≡ t.right))) (one_border b x named was) (ages known) in
    (then, named_then, changes.0, changes.1)) others

-- what was freed since
pub age_less : {a mid after : ArenaView} {w between next : World} (n : ℕ) → BordersAge a mid w between → border_at after.nodes n ≡ None → ((other : ℕ) → other ≢ n → node_at after.nodes other ≡ node_at mid.nodes other) → ((other : ℕ) → other ≢ n → next.chart other ≡ between.chart other) → BordersAge a after w next
age_less {a = a} {mid = mid} {after = after} {w = w} {between = between} {next = next} n age none others placed = record {
  ages = λ number b then known was is. age.ages number b then known was (there number then is);
  rights = λ number b then known was is. elim (age.rights number b then known was (there number then is)) [
    | inl on ↦ inl (record { role = on.role; prefix = on.prefix; low = on.low; posted = on.posted; place = placed number (apart number then is) ∙ on.place })
    | inr same ↦ inr same
  ];
}
  where
    apart : (number : ℕ) (then : BorderView) → border_at after.nodes number ≡ Some then → number ≢ n
    apart number then is e = no_border then none (subst (λ (m : ℕ). border_at after.nodes m ≡ Some then) e is)

    there : (number : ℕ) (then : BorderView) → border_at after.nodes number ≡ Some then → border_at mid.nodes number ≡ Some then
    there number then is = sym (ap (option_and_then border_of) (others number (apart number then is))) ∙ is
