use Rattle.std.proofs.Common.{ℕ, ◌≡◌, ◌≤◌, ◌<◌, ◌⊎◌, false, refl, subst}
use Rattle.mt_types.specs.declared.event.Outcome.{Outcome}
use Rattle.mt_shared.specs.declared.driving.Started.TheVariants.{Ran}
use Rattle.mt_shared.specs.Inner.{Does}
use Rattle.mt_shared.specs.Drives.{IsStarted}
use Rattle.mt_shared.specs.Changes.{is_change}
use Rattle.mt_shared.proofs.inner.Inner.change.Goals as goal

pub returns-then-not-is_change_since-clause-changes : goal.returns-then-not-is_change_since-clause-changes
returns-then-not-is_change_since-clause-changes c =
    let call = c.in-Ran-default-Done.call in
    let reply = c.in-Ran-default-Done.reply in
    let started = subst (λ (last : Outcome). IsStarted Does c.args.self.now c.args.pass.now c.args.request (Ran call last) c.begin.new.self c.begin.new.pass) c.in-Ran-default-Done.field-1-is c.in-Ran-default-Done.ensures.starts in
    let leaves = c.if-not-is_change_since.ensures.before refl in
    (started, subst (λ (seen : ℕ). (reply.from < seen) ⊎ (is_change reply.answer ≡ false)) c.seen-seen.ensures leaves)

pub returns-else-not-is_change_since-clause-changes : goal.returns-else-not-is_change_since-clause-changes
returns-else-not-is_change_since-clause-changes c =
    let call = c.in-Ran-default-Done.call in
    let reply = c.in-Ran-default-Done.reply in
    let started = subst (λ (last : Outcome). IsStarted Does c.args.self.now c.args.pass.now c.args.request (Ran call last) c.begin.new.self c.begin.new.pass) c.in-Ran-default-Done.field-1-is c.in-Ran-default-Done.ensures.starts in
    let since = c.if-not-is_change_since.ensures.since refl in
    let seen = subst (λ (seen : ℕ). seen ≤ reply.from) c.seen-seen.ensures since.0 in
    (c.begin.new.self, c.begin.new.pass, call, started, seen, since.1, c.keep.ensures.keeps)
