use Rattle.std.proofs.Common.{sym, subst, refl, arith}
use Rattle.mt_index.specs.Alone.{IsIdle}
use Rattle.mt_index.specs.Marks.{GoesOnByCalls, IsAhead}
use Rattle.mt_index.specs.Stands.{MachineView}
use Rattle.mt_index.proofs.LaterStands.{seen}
use Rattle.mt_index.proofs.GoingStands.{begun_since, commits_since, few_calls, may_begin, may_keep, newest_more, settled_as}
use Rattle.mt_index.proofs.machine.Machine.settle.Goals as goal

pub keep_as-requires-clause-begun : goal.keep_as-requires-clause-begun
keep_as-requires-clause-begun c =
    let m : MachineView = seen c.self.inside.columns c.self.inside.epoch c.self.inside.tree c.self.inside.log c.self.inside.calls c.self.inside.views in
    let (s, made, ahead, ways) = c.requires.ahead in
    let is = subst (λ (t : MachineView). IsAhead s c.args.mark made t) (sym c.self.view_is) ahead in
    let (h, st) = is.some in
    may_begin s m c.args.mark made is (subst IsIdle (sym c.self.view_is) c.requires.idle) c.number.ensures.sound h st m.log refl

pub keep_as-requires-clause-kept : goal.keep_as-requires-clause-kept
keep_as-requires-clause-kept c =
    let m : MachineView = seen c.self.inside.columns c.self.inside.epoch c.self.inside.tree c.self.inside.log c.self.inside.calls c.self.inside.views in
    let (s, made, ahead, ways) = c.requires.ahead in
    let is = subst (λ (t : MachineView). IsAhead s c.args.mark made t) (sym c.self.view_is) ahead in
    let (h, st) = is.some in
    let idle = subst IsIdle (sym c.self.view_is) c.requires.idle in
    may_keep s m c.args.mark made is idle c.number.ensures.sound h st m.log refl (let more = newest_more s m c.args.mark made is idle c.number.ensures.sound h st in omega (arith, more))

pub overflow_sub-made : goal.overflow_sub-made
overflow_sub-made c =
    let m : MachineView = seen c.self.inside.columns c.self.inside.epoch c.self.inside.tree c.self.inside.log c.self.inside.calls c.self.inside.views in
    let (s, made, ahead, ways) = c.requires.ahead in
    let is = subst (λ (t : MachineView). IsAhead s c.args.mark made t) (sym c.self.view_is) ahead in
    let (h, st) = is.some in
    let since = commits_since s m c.args.mark made is (subst IsIdle (sym c.self.view_is) c.requires.idle) c.number.ensures.sound h st in
    let number = c.number.ensures.value in
    omega (arith, since, number)

pub overflow_add-mark : goal.overflow_add-mark
overflow_add-mark c =
    let m : MachineView = seen c.self.inside.columns c.self.inside.epoch c.self.inside.tree c.self.inside.log c.self.inside.calls c.self.inside.views in
    let (s, made, ahead, ways) = c.requires.ahead in
    let is = subst (λ (t : MachineView). IsAhead s c.args.mark made t) (sym c.self.view_is) ahead in
    let (h, st) = is.some in
    let idle = subst IsIdle (sym c.self.view_is) c.requires.idle in
    let since = commits_since s m c.args.mark made is idle c.number.ensures.sound h st in
    let begun = begun_since s m c.args.mark made is idle c.number.ensures.sound h st in
    let number = c.number.ensures.value in
    let few = c.begun-few.type_inv in
    let told = c.begun-few.ensures in
    omega (arith, since, begun, number, few, told)

pub invariant_of-self : goal.invariant_of-self
invariant_of-self c =
    let m : MachineView = seen c.self.inside.columns c.self.inside.epoch c.self.inside.tree c.self.inside.log c.self.inside.calls c.self.inside.views in
    let (s, made, ahead, ways) = c.requires.ahead in
    let is = subst (λ (t : MachineView). IsAhead s c.args.mark made t) (sym c.self.view_is) ahead in
    let (h, st) = is.some in
    let idle = subst IsIdle (sym c.self.view_is) c.requires.idle in
    let (other, by) = ways h st (few_calls s m c.args.mark made is idle c.number.ensures.sound h st (let few = c.begun-few.type_inv in let told = c.begun-few.ensures in omega (arith, few, told))) in (
      other,
      settled_as s m c.args.mark made is (subst IsIdle (sym c.self.view_is) c.requires.idle) c.number.ensures.sound h st other
          (subst (λ (t : MachineView). GoesOnByCalls t.columns h made other) (sym c.self.view_is) by) c.number.result c.number.ensures.value c.keep_as.new.self c.keep_as.ensures.after c.begin_after.new.self c.begin_after.ensures,
    )

pub returns-clause-stands : goal.returns-clause-stands
returns-clause-stands c s made ahead h other st by =
    let m : MachineView = seen c.self.inside.columns c.self.inside.epoch c.self.inside.tree c.self.inside.log c.self.inside.calls c.self.inside.views in
    let is = subst (λ (t : MachineView). IsAhead s c.args.mark made t) (sym c.self.view_is) ahead in
    settled_as s m c.args.mark made is (subst IsIdle (sym c.self.view_is) c.requires.idle) c.number.ensures.sound h st other
    (subst (λ (t : MachineView). GoesOnByCalls t.columns h made other) (sym c.self.view_is) by) c.number.result c.number.ensures.value c.keep_as.new.self c.keep_as.ensures.after c.begin_after.new.self c.begin_after.ensures

pub returns-clause-few : goal.returns-clause-few
returns-clause-few c s made ahead h st =
    let m : MachineView = seen c.self.inside.columns c.self.inside.epoch c.self.inside.tree c.self.inside.log c.self.inside.calls c.self.inside.views in
    few_calls s m c.args.mark made (subst (λ (t : MachineView). IsAhead s c.args.mark made t) (sym c.self.view_is) ahead) (subst IsIdle (sym c.self.view_is) c.requires.idle) c.number.ensures.sound h st
    (let few = c.begun-few.type_inv in let told = c.begun-few.ensures in omega (arith, few, told))
