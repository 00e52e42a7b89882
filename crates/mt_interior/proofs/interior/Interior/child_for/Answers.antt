use Rattle.std.proofs.Common.{◌≡◌, ◌≤◌, ◌-◌, arith, rules, nat_le}
use Rattle.mt_interior.specs.Interior.{children_up_to, blank_child}
use Rattle.mt_interior.proofs.ChildrenLemmas.{lows_part, parted_at, some_up_to, leads}
use Rattle.std.proofs.lemmas.List.Sorted.{IsPartitionPoint-from_clause}
use Rattle.std.proofs.lemmas.List.Sums.{prefix_len-le-length}
use Rattle.mt_interior.specs.declared.child.Child.{Child}
use Rattle.mt_interior.proofs.interior.Interior.child_for.Goals as goal

-- the search parts the children at the slice
found : (c : goal.After-partition_point-up_to) → c.partition_point-up_to.result ≡ children_up_to c.args.slice c.args.self.now.children
found c =
    let parts = IsPartitionPoint-from_clause (λ (child : Child). nat_le child.low c.args.slice) c.self.inside.children.items c.partition_point-up_to.result
    (rw c.as_slice.ensures.value at c.partition_point-up_to.ensures.partitioned) (lows_part c.args.slice c.self.inside.children.items c.self.invariant.rising) (λ a r f called. search rules) in
    rw (← c.self.view_is) (parted_at c.args.slice c.partition_point-up_to.result c.self.inside.children.items blank_child (rw c.as_slice.ensures.value at c.partition_point-up_to.ensures.bound) parts)

some : (c : goal.After-partition_point-up_to) → 1 ≤ children_up_to c.args.slice c.args.self.now.children
some c = rw (← c.self.view_is) (some_up_to c.self.inside.low c.args.slice c.self.inside.children.items c.self.invariant.starts (rw (← c.self.view_is) at c.requires.some) (rw (← c.self.view_is) at c.requires.from_low))

pub overflow_sub-result : goal.overflow_sub-result
overflow_sub-result c = omega (arith, found c, some c)

pub returns-clause-place : goal.returns-clause-place
returns-clause-place c = omega (arith, found c, some c)

pub returns-clause-leads : goal.returns-clause-leads
returns-clause-leads c = leads c.args.slice (c.partition_point-up_to.result - 1) c.args.self.now.children (omega (arith, found c, some c)) (omega (arith, found c, some c, prefix_len-le-length (λ (child : Child). nat_le child.low c.args.slice) c.args.self.now.children))
