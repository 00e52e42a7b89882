use Rattle.std.proofs.Common.{◌∙◌, ap, sym, subst}
use Rattle.mt_promise.specs.History.{moment}
use Rattle.mt_commit.specs.Log.{LogView, kept_as, trimmed}
use Rattle.mt_index.specs.declared.marks.Mark.{Mark}
use Rattle.mt_index.specs.Alone.{IsIdle}
use Rattle.mt_index.specs.Calls.{CallsView}
use Rattle.mt_index.specs.Marks.{IsAhead}
use Rattle.mt_index.specs.Stands.{MachineView, Stands}
use Rattle.mt_index.proofs.LaterStands.{seen}
use Rattle.mt_index.proofs.GoingStands.{back_begins, back_keeps, can_go_back, gone_back_to, gone_stands}
use Rattle.mt_index.proofs.MarkStands.{idle_tree}
use Rattle.mt_index.proofs.machine.Machine.go_back.Goals as goal

pub undo-requires-clause-lone : goal.undo-requires-clause-lone
undo-requires-clause-lone c =
    let m : MachineView = seen c.self.inside.columns c.self.inside.epoch c.self.inside.tree c.self.inside.log c.self.inside.calls c.self.inside.views in
    let (h, st) = c.self.invariant in
    (idle_tree m h st (subst IsIdle (sym c.self.view_is) c.requires.idle)).0

pub undo-requires-clause-made : goal.undo-requires-clause-made
undo-requires-clause-made c =
    let m : MachineView = seen c.self.inside.columns c.self.inside.epoch c.self.inside.tree c.self.inside.log c.self.inside.calls c.self.inside.views in
    let (s, made, ahead, puts) = c.requires.ahead in
    let is = subst (λ (t : MachineView). IsAhead s c.args.mark made t) (sym c.self.view_is) ahead in
    let (h, st) = is.some in
    (m.columns, (moment h).commits, made, can_go_back s m c.args.mark made is (subst IsIdle (sym c.self.view_is) c.requires.idle) c.number-sound.ensures.sound h st puts)

pub keep_as-requires-clause-begun : goal.keep_as-requires-clause-begun
keep_as-requires-clause-begun c =
    let m : MachineView = seen c.self.inside.columns c.self.inside.epoch c.self.inside.tree c.self.inside.log c.self.inside.calls c.self.inside.views in
    let (s, made, ahead, puts) = c.requires.ahead in
    let is = subst (λ (t : MachineView). IsAhead s c.args.mark made t) (sym c.self.view_is) ahead in
    let (h, st) = is.some in
    let idle = subst IsIdle (sym c.self.view_is) c.requires.idle in
    let sound = c.number-sound.ensures.sound in
    let back = gone_back_to s m c.args.mark made is idle sound h st puts c.undo.new.tree c.undo.new.log c.undo.ensures.back in
    back_begins s m c.args.mark made is idle sound h st c.undo.new.tree c.undo.new.log c.undo.ensures.sound back

pub keep_as-requires-clause-kept : goal.keep_as-requires-clause-kept
keep_as-requires-clause-kept c =
    let m : MachineView = seen c.self.inside.columns c.self.inside.epoch c.self.inside.tree c.self.inside.log c.self.inside.calls c.self.inside.views in
    let (s, made, ahead, puts) = c.requires.ahead in
    let is = subst (λ (t : MachineView). IsAhead s c.args.mark made t) (sym c.self.view_is) ahead in
    let (h, st) = is.some in
    let idle = subst IsIdle (sym c.self.view_is) c.requires.idle in
    let sound = c.number-sound.ensures.sound in
    let back = gone_back_to s m c.args.mark made is idle sound h st puts c.undo.new.tree c.undo.new.log c.undo.ensures.back in
    back_keeps s m c.args.mark made is idle sound h st c.undo.new.tree c.undo.new.log c.undo.ensures.sound back

pub invariant_of-self : goal.invariant_of-self
invariant_of-self c =
    let m : MachineView = seen c.self.inside.columns c.self.inside.epoch c.self.inside.tree c.self.inside.log c.self.inside.calls c.self.inside.views in
    let (s, made, ahead, puts) = c.requires.ahead in
    let is = subst (λ (t : MachineView). IsAhead s c.args.mark made t) (sym c.self.view_is) ahead in
    let (h, st) = is.some in
    let idle = subst IsIdle (sym c.self.view_is) c.requires.idle in
    let sound = c.number-sound.ensures.sound in
    let back = gone_back_to s m c.args.mark made is idle sound h st puts c.undo.new.tree c.undo.new.log c.undo.ensures.back in (
      h,
      subst (λ (log : LogView). Stands (seen m.columns m.epoch c.undo.new.tree log c.begin_after.new.self m.views) h) (sym c.keep_as.ensures.after)
          (subst (λ (calls : CallsView). Stands (seen m.columns m.epoch c.undo.new.tree (trimmed (kept_as c.args.mark.keeping c.undo.new.log)) calls m.views) h) (sym c.begin_after.ensures)
          (gone_stands s m c.args.mark made is idle sound h st c.undo.new.tree c.undo.new.log c.undo.ensures.sound back)),
    )

pub returns-clause-stands : goal.returns-clause-stands
returns-clause-stands c s made ahead puts h st =
    let m : MachineView = seen c.self.inside.columns c.self.inside.epoch c.self.inside.tree c.self.inside.log c.self.inside.calls c.self.inside.views in
    let is = subst (λ (t : MachineView). IsAhead s c.args.mark made t) (sym c.self.view_is) ahead in
    let idle = subst IsIdle (sym c.self.view_is) c.requires.idle in
    let sound = c.number-sound.ensures.sound in
    let back = gone_back_to s m c.args.mark made is idle sound h st puts c.undo.new.tree c.undo.new.log c.undo.ensures.back in
    subst (λ (log : LogView). Stands (seen m.columns m.epoch c.undo.new.tree log c.begin_after.new.self m.views) h) (sym c.keep_as.ensures.after)
    (subst (λ (calls : CallsView). Stands (seen m.columns m.epoch c.undo.new.tree (trimmed (kept_as c.args.mark.keeping c.undo.new.log)) calls m.views) h) (sym c.begin_after.ensures)
    (gone_stands s m c.args.mark made is idle sound h st c.undo.new.tree c.undo.new.log c.undo.ensures.sound back))

pub returns-clause-bounds : goal.returns-clause-bounds
returns-clause-bounds c one changes is_ahead =
    let m : MachineView = seen c.self.inside.columns c.self.inside.epoch c.self.inside.tree c.self.inside.log c.self.inside.calls c.self.inside.views in
    let (s, made, ahead, puts) = c.requires.ahead in
    let is = subst (λ (t : MachineView). IsAhead s c.args.mark made t) (sym c.self.view_is) ahead in
    let (h, st) = is.some in
    let idle = subst IsIdle (sym c.self.view_is) c.requires.idle in
    let sound = c.number-sound.ensures.sound in
    let back = gone_back_to s m c.args.mark made is idle sound h st puts c.undo.new.tree c.undo.new.log c.undo.ensures.back in (
      ap (λ (log : LogView). log.capacity) c.keep_as.ensures.after ∙ ap (λ (log : LogView). log.capacity) back.same_log ∙ ap (λ (t : MachineView). t.log.capacity) c.self.view_is ∙ is_ahead.keeps.capacity,
      ap (λ (log : LogView). log.retention) c.keep_as.ensures.after ∙ ap (λ (k : Mark). k.keeping.retention) is_ahead.marked,
    )
