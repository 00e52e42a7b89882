use Rattle.std.proofs.Common.{◌≡◌, ◌∙◌, Option, Some, None, refl, sym}
use Rattle.mt_steps.specs.declared.progress.Progress.{Progress}
use Rattle.mt_steps.specs.declared.way.Went.TheVariants.{Again}
use Rattle.mt_write.proofs.EnterSteps.{again_visits, border_marked, border_named, never_here, no_border}
use Rattle.mt_write.proofs.StageSteps.{may_seek, seeks_led, seeks_still}
use Rattle.mt_write.proofs.writing.Write.visit.Goals as goal

pub node-requires : goal.node-requires
node-requires c = (may_seek c.args.tree.now c.args.self.now c.requires.may).may.named

pub visit-went-requires : goal.visit-went-requires
visit-went-requires c = may_seek c.args.tree.now c.args.self.now c.requires.may

pub returns-in_default : goal.returns-in_default
returns-in_default c = record {
  visits = seeks_led c.args.tree.now c.args.self.now c.visit-went.result c.follow.result c.follow.new.self c.visit-went.ensures.visits c.requires.idle
      (never_here c.args.tree.now c.args.self.now.key c.args.self.now.way c.node.result.now c.visit-went.result c.node.ensures.value c.visit-went.ensures.value c.in_default.not-Border)
      (λ on. no_border c.args.tree.now c.args.self.now.way.node.0 c.node.result.now c.node.ensures.value c.in_default.not-Border)
      c.visit-went.ensures.again c.follow.ensures.again c.follow.ensures.to;
  quiet = c.follow.ensures.quiet;
  at = λ none. absurd (let clash : ◌≡◌ {A = Option Progress} (Some c.follow.result) None = none in cc);
}

pub returns-then-deleted-clause-visits : goal.returns-then-deleted-clause-visits
returns-then-deleted-clause-visits c = seeks_led c.args.tree.now c.args.self.now Again c.follow-then-deleted.result c.follow-then-deleted.new.self (again_visits c.args.tree.now c.args.self.now.key c.args.self.now.way) c.requires.idle (λ here. cc) (λ not. absurd (not refl))
    (λ again. border_marked c.args.tree.now c.args.self.now.way.node.0 c.node.result.now c.in-Border.border c.node.ensures.value c.in-Border.is (rw c.version-version.ensures.value at (sym c.deleted.ensures ∙ c.if-deleted.true)))
    c.follow-then-deleted.ensures.again c.follow-then-deleted.ensures.to

pub returns-then-is_locked-clause-visits : goal.returns-then-is_locked-clause-visits
returns-then-is_locked-clause-visits c = seeks_still c.args.tree.now c.args.self.now Again (again_visits c.args.tree.now c.args.self.now.key c.args.self.now.way) c.requires.idle c.in-Border.border
    (border_named c.args.tree.now c.args.self.now.way.node.0 c.node.result.now c.in-Border.border c.node.ensures.value c.in-Border.is) (rw c.version-version.ensures.value at (sym c.deleted.ensures ∙ c.if-deleted.false))
    (rw c.version-version.ensures.value at (sym c.is_locked.ensures ∙ c.if-is_locked.true))
