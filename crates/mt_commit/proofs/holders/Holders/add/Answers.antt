use Rattle.std.proofs.Common.{◌≡◌, ◌+◌, ap, sym, ◌∙◌, subst, arith, length}
use Rattle.std.specs.BTreeMap as tree
use Rattle.std.specs.Ordering.{nat_cmp}
use Rattle.mt_commit.specs.Holders.{each_held, with_holder, AllHeld}
use Rattle.mt_commit.proofs.HolderLemmas.{written_kept, written_more, held_new, AllHeld-insert, count_within, is_number}
use Rattle.mt_commit.proofs.holders.Holders.add.Goals as goal

pub overflow_add-count : goal.overflow_add-count
overflow_add-count c =
    let within = count_within (is_number c.args.number) c.self.inside.counts.entries c.in-Some.count.now (sym c.in-Some.ensures.value) in
    let same : length (each_held c.self.inside.counts.entries) ≡ length c.args.self.now = ap length c.self.view_is in
    omega (arith, c.requires)

pub invariant_of-self : goal.invariant_of-self
invariant_of-self c =
    written_kept c.self.inside.counts (c.get_mut.follows.lender (c.in-Some.count.now + 1)) c.args.number (c.in-Some.count.now + 1)
    c.self.invariant.1 (omega arith) (c.get_mut.follows.holds (c.in-Some.count.now + 1))

pub invariant_of-self-in_ok-insert-in-None : goal.invariant_of-self-in_ok-insert-in-None
invariant_of-self-in_ok-insert-in-None c =
    let same = ap (λ (m : tree.BTreeMap _ _). m.entries) c.get_mut.follows.holds-at-none in
    (c.in_ok-insert-in-None.ensures.ordered, subst AllHeld (sym (c.in_ok-insert-in-None.ensures.entries ∙ ap (λ entries. tree.insert_entry nat_cmp entries c.args.number 1) same)) (AllHeld-insert _ c.args.number 1 c.self.invariant.1 (omega arith)))

pub returns-in-Some-clause-ok : goal.returns-in-Some-clause-ok
returns-in-Some-clause-ok c =
    written_more c.self.inside.counts (c.get_mut.follows.lender (c.in-Some.count.now + 1)) c.args.number c.in-Some.count.now _
    c.self.view_is c.self.invariant.0 c.self.invariant.1 c.in-Some.ensures.value (c.get_mut.follows.holds (c.in-Some.count.now + 1))

pub returns-in_ok-insert-in-None-clause-ok : goal.returns-in_ok-insert-in-None-clause-ok
returns-in_ok-insert-in-None-clause-ok c =
    let same = ap (λ (m : tree.BTreeMap _ _). m.entries) c.get_mut.follows.holds-at-none in
    ap each_held (c.in_ok-insert-in-None.ensures.entries ∙ ap (λ entries. tree.insert_entry nat_cmp entries c.args.number 1) same)
    ∙ held_new c.args.number c.self.inside.counts.entries c.self.invariant.1 (sym c.in-None.ensures.value)
    ∙ ap (with_holder c.args.number) c.self.view_is
