-- A step that makes two changes, one after the other.
use Rattle.std.proofs.Common.{ℕ, ◌≡◌, ◌⊎◌, ◌∙◌, inl, inr, Option, IsSome, sym, ap, subst, List}
use Rattle.std.specs.Option.{option_and_then}
use Rattle.std.specs.Prelude.{IsSomeAnd, true}
use Rattle.mt_interior.specs.Head.{HeadView}
use Rattle.mt_arena.specs.Node.{node_at, head_of, border_of}
use Rattle.mt_arena.specs.Arena.{ArenaView}
use Rattle.mt_arena.specs.declared.node.Node.{Node}
use Rattle.mt_chart.specs.Tree.{Among}
use Rattle.mt_steps.specs.World.{World, IsWorld, IsLocked, IsTaken, IsSame, NotAmong, Goes}

-- what is left as it was by both is left as it was
pub same_twice : (a b c : ArenaView) (u v w : World) (number : ℕ) → IsSame a b u v number → IsSame b c v w number → IsSame a c u w number
same_twice a b c u v w number one two = record {
  node = two.node ∙ one.node;
  spot = two.spot ∙ one.spot;
  twins = λ x y here. ((λ h. (one.twins x y here).0 ((two.twins x y here).0 h)), (λ h. (two.twins x y here).1 ((one.twins x y here).1 h)));
  closing = λ i. one.closing (two.closing i);
  retired = ((λ h. one.retired.0 (two.retired.0 h)), (λ h. two.retired.1 (one.retired.1 h)));
}

-- what is taken, and left as it was, is taken still
pub taken_on : (a b : ArenaView) (u v : World) (number : ℕ) → IsSame a b u v number → IsTaken a u number → IsTaken b v number
taken_on a b u v number same (inl locked) = inl (subst (λ (x : Option Node). IsLocked x) (sym same.node) locked)
taken_on a b u v number same (inr (inl spare)) = inr (inl (subst (λ (x : Option Node). IsSome x) (sym same.node) spare.0, same.spot ∙ spare.1))
taken_on a b u v number same (inr (inr m)) = inr (inr (record {
  marked = subst (λ (x : Option HeadView). IsSomeAnd x (λ h. h.version.deleted ≡ true)) (ap (option_and_then head_of) (sym same.node)) m.marked;
  kept = same.retired.1 m.kept;
}))

-- the first change leaves the world as it is, and no node that the chart knows is another; what the call has between both
-- it had before, or has then
pub goes_then : (now : ℕ) (a mid after : ArenaView) (w : World) (owned has owns : List ℕ) (Then : World → Type 0) → Goes now a mid w owned has (λ next. next ≡ w) → ((number : ℕ) → IsSome (w.chart number) → node_at mid.nodes number ≡ node_at a.nodes number)
    → ((number : ℕ) → Among number has → Among number owned ⊎ Among number owns) → (IsWorld mid now w → Goes now mid after w has owns Then) → Goes now a after w owned owns Then
goes_then now a mid after w owned has owns Then one still between then = record {
  next = two.next;
  world = two.world;
  evolves = two.evolves;
  leaves = λ other taken apart.
      let (same, out) = left other taken apart in
      let (again, apart_still) = two.leaves other (taken_on a mid w w other same taken) out in
      (same_twice a mid after w w two.next other same again, apart_still);
  takes = λ number taken. elim (two.takes number taken) [
    | inl i ↦ inl i
    | inr was ↦ elim (taken_then number was.0) [ inl i ↦ absurd (was.1 i) | inr before ↦ inr before ]
  ];
  spots = λ number out apart. two.spots number (λ i. elim (between number i) [ inl j ↦ out j | inr j ↦ apart j ]) apart;
  age = record {
    borders = record {
      ages = λ number b then known was is. two.age.borders.ages number b then known (ap (option_and_then border_of) (still number known) ∙ was) is;
      rights = λ number b then known was is. two.age.borders.rights number b then known (ap (option_and_then border_of) (still number known) ∙ was) is;
    };
    one = record {
      number = two.age.one.number;
      border = λ b known was. two.age.one.border b known (ap (option_and_then border_of) (still two.age.one.number known) ∙ was);
      others = λ other differ known. two.age.one.others other differ known ∙ still other known;
    };
  };
  true = two.true;
}
  where
    two : Goes now mid after w has owns Then
    two = then (subst (λ (x : World). IsWorld mid now x) one.true one.world)

    left : (other : ℕ) → IsTaken a w other → NotAmong other owned → IsSame a mid w w other × NotAmong other has
    left other taken apart = subst (λ (x : World). IsSame a mid w x other × NotAmong other has) one.true (one.leaves other taken apart)

    taken_then : (number : ℕ) → IsTaken mid w number → Among number has ⊎ (IsTaken a w number × NotAmong number owned)
    taken_then number taken = one.takes number (subst (λ (x : World). IsTaken mid x number) (sym one.true) taken)
