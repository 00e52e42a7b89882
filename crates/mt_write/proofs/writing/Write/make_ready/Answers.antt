use Rattle.std.proofs.Common.{◌≡◌, true, sym, subst}
use Rattle.std.specs.Prelude.{IfSome, IsSomeAnd, Option}
use Rattle.mt_border.specs.Border.{BorderView, with_unlocked}
use Rattle.mt_arena.specs.Node.{border_at}
use Rattle.mt_arena.specs.Arena.{ArenaView, with_border_changed}
use Rattle.mt_tree.specs.Keeping.{KeepsTree}
use Rattle.mt_border.specs.declared.unwritten.Unwritten.TheVariants.{Nothing}
use Rattle.mt_steps.specs.declared.progress.Progress.TheVariants.{Moved}
use Rattle.mt_write.specs.declared.writing.Stage.{Stage}
use Rattle.mt_write.specs.declared.writing.Stage.TheVariants.{Searched}
use Rattle.mt_write.specs.Follows.{WriteStep}
use Rattle.mt_write.proofs.StageSteps.{turned}
use Rattle.mt_write.proofs.ThereLemmas.{MakesReady, made_full, made_so}
use Rattle.mt_write.proofs.writing.Write.make_ready.Goals.{in-Full, in_default}
use Rattle.mt_write.proofs.writing.Write.make_ready.Goals as goal

pub unlock_border-requires-clause-locked : goal.unlock_border-requires-clause-locked
unlock_border-requires-clause-locked c =
    let made : MakesReady c.args.columns c.args.tree.now c.match-there.tree c.args.log.now c.match-there.log c.args.self.now c.args.there c.match-there.stage = (elim c.match-there.branch [
      | in-Full w ↦ made_so c.args.columns c.args.tree.now c.match-there.tree _ c.args.log.now c.match-there.log _ c.args.self.now c.args.there c.match-there.stage _ w.tree-is w.log-is w.stage-is
          (made_full c.args.columns c.args.tree.now _ c.args.log.now c.args.self.now c.args.there _ w.in-Full.place w.in-Full.outline w.in-Full.is c.requires (w.ready_full-stage.ensures.some c.args.log.now) (w.ready_full-stage.ensures.none c.args.log.now))
      | in_default w ↦ made_so c.args.columns c.args.tree.now c.match-there.tree _ c.args.log.now c.match-there.log _ c.args.self.now c.args.there c.match-there.stage _ w.tree-is w.log-is w.stage-is
          (record { some = w.ready-stage.ensures.some; none = w.ready-stage.ensures.none })
    ]) in
    let (b, at, told) = c.requires.true.0 in
    subst (λ (x : ArenaView). IsSomeAnd (border_at x.nodes c.args.self.now.way.node.0) (λ b. b.version.locked ≡ true)) (sym (made.none c.in_default-stage.is).0)
    (subst (λ (o : Option BorderView). IsSomeAnd o (λ b. b.version.locked ≡ true)) (sym at.named) at.locked)

pub unlock_border-requires-clause-written : goal.unlock_border-requires-clause-written
unlock_border-requires-clause-written c =
    let made : MakesReady c.args.columns c.args.tree.now c.match-there.tree c.args.log.now c.match-there.log c.args.self.now c.args.there c.match-there.stage = (elim c.match-there.branch [
      | in-Full w ↦ made_so c.args.columns c.args.tree.now c.match-there.tree _ c.args.log.now c.match-there.log _ c.args.self.now c.args.there c.match-there.stage _ w.tree-is w.log-is w.stage-is
          (made_full c.args.columns c.args.tree.now _ c.args.log.now c.args.self.now c.args.there _ w.in-Full.place w.in-Full.outline w.in-Full.is c.requires (w.ready_full-stage.ensures.some c.args.log.now) (w.ready_full-stage.ensures.none c.args.log.now))
      | in_default w ↦ made_so c.args.columns c.args.tree.now c.match-there.tree _ c.args.log.now c.match-there.log _ c.args.self.now c.args.there c.match-there.stage _ w.tree-is w.log-is w.stage-is
          (record { some = w.ready-stage.ensures.some; none = w.ready-stage.ensures.none })
    ]) in
    let (b, at, told) = c.requires.true.0 in
    subst (λ (x : ArenaView). IsSomeAnd (border_at x.nodes c.args.self.now.way.node.0) (λ b. b.unwritten ≡ Nothing)) (sym (made.none c.in_default-stage.is).0)
    (subst (λ (o : Option BorderView). IsSomeAnd o (λ b. b.unwritten ≡ Nothing)) (sym at.named) at.written)

pub returns-in_default-stage : goal.returns-in_default-stage
returns-in_default-stage c =
    let made : MakesReady c.args.columns c.args.tree.now c.match-there.tree c.args.log.now c.match-there.log c.args.self.now c.args.there c.match-there.stage = (elim c.match-there.branch [
      | in-Full w ↦ made_so c.args.columns c.args.tree.now c.match-there.tree _ c.args.log.now c.match-there.log _ c.args.self.now c.args.there c.match-there.stage _ w.tree-is w.log-is w.stage-is
          (made_full c.args.columns c.args.tree.now _ c.args.log.now c.args.self.now c.args.there _ w.in-Full.place w.in-Full.outline w.in-Full.is c.requires (w.ready_full-stage.ensures.some c.args.log.now) (w.ready_full-stage.ensures.none c.args.log.now))
      | in_default w ↦ made_so c.args.columns c.args.tree.now c.match-there.tree _ c.args.log.now c.match-there.log _ c.args.self.now c.args.there c.match-there.stage _ w.tree-is w.log-is w.stage-is
          (record { some = w.ready-stage.ensures.some; none = w.ready-stage.ensures.none })
    ]) in
    let none = made.none c.in_default-stage.is in
    none.1 c.unlock_border.new.self
    (subst (λ (x : ArenaView). c.unlock_border.new.self ≡ with_border_changed x c.args.self.now.way.node.0 with_unlocked) none.0 c.unlock_border.ensures.value)
    (subst (λ (x : ArenaView). KeepsTree x c.unlock_border.new.self) none.0 c.unlock_border.ensures.keeps)

pub returns : goal.returns
returns c =
    let made : MakesReady c.args.columns c.args.tree.now c.match-there.tree c.args.log.now c.match-there.log c.args.self.now c.args.there c.match-there.stage = (elim c.match-there.branch [
      | in-Full w ↦ made_so c.args.columns c.args.tree.now c.match-there.tree _ c.args.log.now c.match-there.log _ c.args.self.now c.args.there c.match-there.stage _ w.tree-is w.log-is w.stage-is
          (made_full c.args.columns c.args.tree.now _ c.args.log.now c.args.self.now c.args.there _ w.in-Full.place w.in-Full.outline w.in-Full.is c.requires (w.ready_full-stage.ensures.some c.args.log.now) (w.ready_full-stage.ensures.none c.args.log.now))
      | in_default w ↦ made_so c.args.columns c.args.tree.now c.match-there.tree _ c.args.log.now c.match-there.log _ c.args.self.now c.args.there c.match-there.stage _ w.tree-is w.log-is w.stage-is
          (record { some = w.ready-stage.ensures.some; none = w.ready-stage.ensures.none })
    ]) in
    turned c.args.columns c.args.tree.now c.match-there.tree c.args.log.now c.match-there.log c.args.self.now _ _ _ _ c.turn_to.ensures
    (subst (λ (o : Option Stage). IfSome o (λ stage. WriteStep c.args.columns c.args.tree.now c.match-there.tree c.args.log.now c.match-there.log c.args.self.now (Searched c.args.there) Moved (record c.args.self.now { stage = stage }))) c.in-Some.is made.some)
