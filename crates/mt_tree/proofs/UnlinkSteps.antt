-- To take a border that is marked deleted out of its chain keeps the tree.
use Rattle.std.proofs.Common.{ℕ, ◌≡◌, ◌<◌, List, Option, Some, None, IsSome, IsSomeAnd, refl, ap, sym, arith}
use Rattle.std.specs.Option.{option_map}
use Rattle.mt_types.specs.declared.numbers.NodeNo.{NodeNo}
use Rattle.mt_border.specs.Border.{BorderView, with_right}
use Rattle.mt_border.specs.Order.{IsBorder, IsLeftOf, AreBelow}
use Rattle.mt_border.specs.declared.entry.Entry.{Entry}
use Rattle.mt_border.specs.declared.entry.RightLink.{RightLink}
use Rattle.mt_arena.specs.Node.{border_at}
use Rattle.mt_arena.specs.Arena.{ArenaView, with_node_at}
use Rattle.mt_arena.specs.declared.node.Node.TheVariants.{Border}
use Rattle.mt_chart.proofs.BorderLaws.{unlinking}
use Rattle.mt_tree.specs.Seen.{arena_seen, border_seen, right_seen}
use Rattle.mt_tree.specs.Keeping.{KeepsAlong}
use Rattle.mt_tree.specs.BorderSteps.{IsMarkedRight, MayUnlink, ChartsUnlinked, UnlinksAt}
use Rattle.mt_tree.proofs.SeenLemmas.{seen-border, written-border}
use Rattle.mt_tree.proofs.BorderEntries.{asked}
use Rattle.mt_tree.proofs.BorderMarks.{stands_seen}

-- what is to the right of a right neighbour may be to the right
left_of_next : (low right_low : ℕ) (live right_live : List Entry) (next : Option RightLink) → low < right_low → AreBelow right_low live → IsLeftOf right_low right_live next → IsLeftOf low live next
left_of_next low right_low live right_live None above below h = tt
left_of_next low right_low live right_live (Some link) above below h = (omega (arith, h.0), record { each = λ k d within. (let slice = below.each k d within in omega (arith, h.0, slice)) })

-- the first of two borders is there
pub unlinks_there : (a : ArenaView) (number : ℕ) (gone : NodeNo) (next : Option RightLink) → MayUnlink a number gone next → IsSome (border_at a.nodes number)
unlinks_there a number gone next may = go (border_at a.nodes number) may
  where
    go : (there : Option BorderView) → IsSomeAnd there (λ b. IsSomeAnd (border_at a.nodes gone.0) (λ right. IsMarkedRight b right gone next)) → IsSome there
    go None none = absurd none
    go (Some b) some = refl

module _ (a : ArenaView) (number : ℕ) (other : NodeNo) (next : Option RightLink) (b right : BorderView) (is : border_at a.nodes number ≡ Some b) (there : border_at a.nodes other.0 ≡ Some right) (may : MayUnlink a number other next) where
  of : IsMarkedRight b right other next
  of = asked (λ (r : BorderView). IsMarkedRight b r other next) (border_at a.nodes other.0) right there
      (asked (λ (own : BorderView). IsSomeAnd (border_at a.nodes other.0) (λ r. IsMarkedRight own r other next)) (border_at a.nodes number) b is may)

  may_take : IsBorder b → IsLeftOf b.low b.live next
  may_take sound =
      let left = rw of.named at sound.left_of in
      left_of_next b.low right.low b.live right.live next left.0 left.1 of.above

  unlink_keeps : KeepsAlong a (with_node_at a number (Border (with_right b next))) (λ now twins chart after. ChartsUnlinked now number other.0 right.low chart after)
  unlink_keeps = record {
    keeps = λ now twins chart after index step.
        unlinking now twins (arena_seen a) (arena_seen (with_node_at a number (Border (with_right b next)))) chart after index (record {
          number = number;
          prefix = step.prefix;
          old = border_seen b;
          new = border_seen (with_right b next);
          stands = stands_seen a now twins chart number step.prefix b index step.stands is;
          written = written-border a number b (with_right b next) is;
          low = refl;
          entries = refl;
          deleted = refl;
          gone_number = other.0;
          gone_node = border_seen right;
          there = seen-border a other.0 right there;
          dropped = step.dropped;
          charted = step.charted;
          marked = of.marked;
          was_right = ap (option_map right_seen) of.named;
          right = ap (option_map right_seen) (sym of.noted);
        });
  }

-- the border that is marked deleted
marked_there : (a : ArenaView) (number : ℕ) (gone : NodeNo) (next : Option RightLink) → MayUnlink a number gone next → (right : BorderView) × (border_at a.nodes gone.0 ≡ Some right)
marked_there a number gone next may = go (border_at a.nodes number) may
  where
    inner : (b : BorderView) (there : Option BorderView) → border_at a.nodes gone.0 ≡ there → IsSomeAnd there (λ right. IsMarkedRight b right gone next) → (right : BorderView) × (border_at a.nodes gone.0 ≡ Some right)
    inner b None is none = absurd none
    inner b (Some right) is some = (right, is)

    go : (there : Option BorderView) → IsSomeAnd there (λ b. IsSomeAnd (border_at a.nodes gone.0) (λ right. IsMarkedRight b right gone next)) → (right : BorderView) × (border_at a.nodes gone.0 ≡ Some right)
    go None none = absurd none
    go (Some b) some = inner b (border_at a.nodes gone.0) refl some

-- the first may take the right link of the second
pub may_take_right : (a : ArenaView) (number : ℕ) (next : Option RightLink) (b : BorderView) → border_at a.nodes number ≡ Some b → IsBorder b → (gone : NodeNo) × MayUnlink a number gone next → IsLeftOf b.low b.live next
may_take_right a number next b is sound (gone, may) =
    let (right, there) = marked_there a number gone next may in
    may_take a number gone next b right is there may sound

pub unlinks_at : (a : ArenaView) (number : ℕ) (next : Option RightLink) (b b' : BorderView) → border_at a.nodes number ≡ Some b → b' ≡ with_right b next → (gone : NodeNo) → MayUnlink a number gone next → UnlinksAt a (with_node_at a number (Border b')) number gone.0
unlinks_at a number next b b' is new gone may = record {
  unlinks = λ right there. rw new (unlink_keeps a number gone next b right is there may);
}
