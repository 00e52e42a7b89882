use Rattle.std.proofs.Common.{◌≡◌, ◌∙◌, Option, Some, ap, refl, subst, sym}
use Rattle.std.specs.Prelude.{IsSomeAnd}
use Rattle.mt_border.specs.Border.{entries_of}
use Rattle.mt_border.specs.Slots.{order_in}
use Rattle.mt_border.specs.Table.{picked}
use Rattle.mt_border.specs.declared.unwritten.Unwritten.{Unwritten}
use Rattle.mt_write.proofs.laws.uncut_entries_are_in_the_half.Goals as goal

there_is : {A : Type 0} (P : A → Type 0) (found : Option A) (x : A) → found ≡ Some x → P x → IsSomeAnd found P
there_is {A = A} P found x is p = subst (λ (o : Option A). IsSomeAnd o P) (sym is) p

pub returns : goal.returns
returns c = λ C key edit way half cut place begun a w (split, put). there_is _ _ split.b split.named (there_is _ _ split.upper split.filled (
  there_is _ _ _ split.right refl,
  ap (λ (u : Unwritten). entries_of (picked split.b.slots (order_in u split.b.order).live)) split.uncut ∙ split.moved,
))
