use Rattle.std.proofs.Common.{◌-◌, ap, sym, ◌∙◌, arith}
use Rattle.std.specs.BTreeMap as tree
use Rattle.mt_commit.specs.Holders.{each_held, without_holder}
use Rattle.mt_commit.proofs.HolderLemmas.{written_kept, written_less, removed_kept, removed_last, held_not}
use Rattle.mt_commit.proofs.holders.Holders.remove.Goals as goal

pub invariant_of-self : goal.invariant_of-self
invariant_of-self c =
    written_kept c.self.inside.counts (c.get_mut.follows.lender (c.in-Some.count.now - 1)) c.args.number (c.in-Some.count.now - 1)
    c.self.invariant.1 (omega arith) (c.get_mut.follows.holds (c.in-Some.count.now - 1))

pub returns-in-Some : goal.returns-in-Some
returns-in-Some c =
    written_less c.self.inside.counts (c.get_mut.follows.lender (c.in-Some.count.now - 1)) c.args.number c.in-Some.count.now _
    c.self.view_is c.self.invariant.1 c.in-Some.ensures.value (c.get_mut.follows.holds (c.in-Some.count.now - 1))

pub invariant_of-self-in-Some-2 : goal.invariant_of-self-in-Some-2
invariant_of-self-in-Some-2 c = (
  c.remove.ensures.ordered,
  removed_kept c.self.inside.counts (c.get_mut.follows.lender c.in-Some.count.now) c.remove.new.self c.args.number c.in-Some.count.now
      c.self.invariant.1 c.in-Some.ensures.value (c.get_mut.follows.holds c.in-Some.count.now) c.remove.ensures.entries,
)

pub returns-in-Some-2 : goal.returns-in-Some-2
returns-in-Some-2 c =
    removed_last c.self.inside.counts (c.get_mut.follows.lender c.in-Some.count.now) c.remove.new.self c.args.number c.in-Some.count.now _
    c.self.view_is c.self.invariant.1 c.in-Some.ensures.value c.if-get_mut-gt1.false (c.get_mut.follows.holds c.in-Some.count.now) c.remove.ensures.entries

pub returns-in-None : goal.returns-in-None
returns-in-None c =
    ap (λ (m : tree.BTreeMap _ _). each_held m.entries) c.get_mut.follows.holds-at-none
    ∙ held_not c.args.number c.self.inside.counts.entries (sym c.in-None.ensures.value)
    ∙ ap (without_holder c.args.number) c.self.view_is
