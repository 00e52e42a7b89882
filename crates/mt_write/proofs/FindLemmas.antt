-- What was found at the border of a key, said of the border that is there.
use Rattle.std.proofs.Common.{ℕ, ◌≡◌, ◌∙◌, List, Option, Some, sym, subst}
use Rattle.std.specs.Prelude.{IsSomeAnd}
use Rattle.mt_types.specs.declared.refusal.Refusal.{Refusal}
use Rattle.mt_border.specs.Border.{BorderView}
use Rattle.mt_border.specs.Order.{IsBorder}
use Rattle.mt_border.specs.declared.entry.Entry.{Entry}
use Rattle.mt_border.specs.declared.found.Found.{Found}
use Rattle.mt_arena.specs.Node.{border_at}
use Rattle.mt_arena.specs.Arena.{ArenaView, with_border_changed}
use Rattle.mt_tree.specs.Descent.{IsFoundAt, IsLast, found_for, row_found}
use Rattle.mt_steps.specs.declared.way.Way.{Way}
use Rattle.mt_steps.specs.Way.{Finds, rest_of}
use Rattle.mt_steps.proofs.BorderLemmas.{now_named}
use Rattle.mt_write.specs.Causes.{version_fault}

one_border : (o : Option BorderView) (x b : BorderView) → o ≡ Some x → o ≡ Some b → x ≡ b
one_border o x b one other = (let both : ◌≡◌ {A = Option BorderView} (Some x) (Some b) = sym one ∙ other in cc)

module _ (a : ArenaView) (key : List ℕ) (way : Way) (found : Found) (f : Finds a key way found) where
  module _ (b : BorderView) (named : border_at a.nodes way.node.0 ≡ Some b) where
    pub found_is : found ≡ found_for (rest_of key way) b.live
    found_is = subst (λ (x : BorderView). found ≡ found_for (rest_of key way) x.live) (one_border (border_at a.nodes way.node.0) f.border b f.named named) f.is

    pub found_stands : IsFoundAt (rest_of key way) b.live found
    found_stands = subst (λ (x : BorderView). IsFoundAt (rest_of key way) x.live found) (one_border (border_at a.nodes way.node.0) f.border b f.named named) f.stands

    pub found_last : IsLast (found_for (rest_of key way) b.live) → IsLast found
    found_last last = subst (λ (f : Found). IsLast f) (sym found_is) last

    -- what it tells of a version that is asked for
    pub faults_told : (only : Option ℕ) (fault : Option Refusal) → IsBorder b → fault ≡ version_fault only (row_found b.live found)
        → IsSomeAnd (border_at a.nodes way.node.0) (λ x. IsBorder x × (fault ≡ version_fault only (row_found x.live (found_for (rest_of key way) x.live))))
    faults_told only fault sound told = subst (λ (o : Option BorderView). IsSomeAnd o (λ x. IsBorder x × (fault ≡ version_fault only (row_found x.live (found_for (rest_of key way) x.live))))) (sym named)
        (sound, subst (λ (f : Found). fault ≡ version_fault only (row_found b.live f)) found_is told)

  pub found_at : IsSomeAnd (border_at a.nodes way.node.0) (λ b. found ≡ found_for (rest_of key way) b.live)
  found_at = subst (λ (o : Option BorderView). IsSomeAnd o (λ b. found ≡ found_for (rest_of key way) b.live)) (sym f.named) f.is

  pub stands_there : IsSomeAnd (border_at a.nodes way.node.0) (λ b. IsFoundAt (rest_of key way) b.live found)
  stands_there = subst (λ (o : Option BorderView). IsSomeAnd o (λ b. IsFoundAt (rest_of key way) b.live found)) (sym f.named) f.stands

  -- and still, after a change of the border that keeps its entries
  pub finds_changed : (change : BorderView → BorderView) → ((b : BorderView) → (change b).live ≡ b.live) → Finds (with_border_changed a way.node.0 change) key way found
  finds_changed change same = record {
    border = change f.border;
    named = now_named a way.node.0 f.border change f.named;
    is = subst (λ (live : List Entry). found ≡ found_for (rest_of key way) live) (sym (same f.border)) f.is;
    stands = subst (λ (live : List Entry). IsFoundAt (rest_of key way) live found) (sym (same f.border)) f.stands;
  }
