use Rattle.std.proofs.Common.{◌<◌, ◌^◌, length, sym, ◌∙◌, arith}
use Rattle.mt_view.proofs.StateLemmas.{covered_lent, room_lent, kept_new, kept_replaced, seen_put}
use Rattle.mt_view.proofs.state.ViewState.put.Goals as goal

pub replace-requires-clause-covered : goal.replace-requires-clause-covered
replace-requires-clause-covered c =
    covered_lent c.self.inside c.deref_mut.result.now _ c.in-Some.old c.self.invariant c.deref_mut.ensures.value (sym c.in-Some.is ∙ c.in_ok-old.ensures.old)

pub replace-requires-clause-room : goal.replace-requires-clause-room
replace-requires-clause-room c =
    let few : length c.self.inside.rows.entries < 2 ^ 63 = omega arith in
    room_lent c.self.inside c.deref_mut.result.now c.self.invariant c.deref_mut.ensures.value few

pub add-requires : goal.add-requires
add-requires c =
    let few : length c.self.inside.rows.entries < 2 ^ 63 = omega arith in
    room_lent c.self.inside c.deref_mut-in-None.result.now c.self.invariant c.deref_mut-in-None.ensures.value few

pub invariant_of-self-in-Some : goal.invariant_of-self-in-Some
invariant_of-self-in-Some c =
    kept_replaced c.self.inside c.insert.new.self c.deref_mut.result.now c.replace.new.sums c.in_ok-copy.field-0 c.in_ok-copied.copied c.args.row.now c.in-Some.old
    c.self.invariant c.deref_mut.ensures.value c.replace.ensures.same_length (sym c.in-Some.is ∙ c.in_ok-old.ensures.old) c.in_ok-copied.ensures
    c.in_ok-old.ensures.entries c.in_ok-old.ensures.ordered c.replace.ensures.replaced c.replace.ensures.small

pub invariant_of-self-in-None : goal.invariant_of-self-in-None
invariant_of-self-in-None c =
    kept_new c.self.inside c.insert.new.self c.deref_mut-in-None.result.now c.add.new.sums c.in_ok-copy.field-0 c.in_ok-copied.copied c.args.row.now
    c.self.invariant c.deref_mut-in-None.ensures.value c.add.ensures.same_length (sym c.in-None.is ∙ c.in_ok-old.ensures.old) c.in_ok-copied.ensures
    c.in_ok-old.ensures.entries c.in_ok-old.ensures.ordered c.add.ensures.added c.add.ensures.small

pub returns-in-Some-clause-ok : goal.returns-in-Some-clause-ok
returns-in-Some-clause-ok c =
    seen_put c.self.inside c.insert.new.self c.replace.new.sums c.args.self.now c.in_ok-copy.field-0 c.args.key.now c.in_ok-copied.copied c.args.row.now
    c.self.invariant c.self.view_is c.in_ok-old.ensures.ordered c.in_ok-old.ensures.updates c.in_ok-copy.ensures c.in_ok-copied.ensures

pub returns-in-None-clause-ok : goal.returns-in-None-clause-ok
returns-in-None-clause-ok c =
    seen_put c.self.inside c.insert.new.self c.add.new.sums c.args.self.now c.in_ok-copy.field-0 c.args.key.now c.in_ok-copied.copied c.args.row.now
    c.self.invariant c.self.view_is c.in_ok-old.ensures.ordered c.in_ok-old.ensures.updates c.in_ok-copy.ensures c.in_ok-copied.ensures
