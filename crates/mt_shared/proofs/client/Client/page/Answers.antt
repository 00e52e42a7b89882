use Rattle.std.proofs.Common.{ℕ, ◌≡◌, List, rules, sym, subst, ◌∙◌}
use Rattle.std.specs.Prelude.{max}
use Rattle.mt_types.specs.Limits.{page_fault}
use Rattle.mt_types.specs.declared.view.Page.{Page}
use Rattle.mt_shared.specs.Pages.{PageIsRead}
use Rattle.mt_shared.proofs.AskedLemmas.{limited, short, within}
use Rattle.mt_shared.proofs.client.Client.page.Goals as goal

pub returns-in-Some-clause-read : goal.returns-in-Some-clause-read
returns-in-Some-clause-read g c = limited Page (page_fault c.args.start.now c.args.limit) _ c.in-Some.refusal c.args.self.now.shared c.args.self.now.pass (sym c.page_fault.ensures ∙ c.in-Some.is)

pub returns-in_default-copy_from_slice-clause-read : goal.returns-in_default-copy_from_slice-clause-read
returns-in_default-copy_from_slice-clause-read g c = short Page (page_fault c.args.start.now c.args.limit) _ c.args.self.now.shared c.args.self.now.pass (sym c.page_fault.ensures ∙ c.in_default.is)

pub returns-clause-read : goal.returns-clause-read
returns-clause-read g c =
    let floor : c.max-floor.result ≡ max c.args.floor c.args.self.now.pass.seen = search rules in
    within (page_fault c.args.start.now c.args.limit) _ c.view_read.result c.args.self.now.shared c.view_read.new.shared c.args.self.now.pass c.view_read.new.pass (sym c.page_fault.ensures ∙ c.in_default.is)
    (subst (λ (n : ℕ). PageIsRead g.S.Shared.does g.S.Shared.pages c.args.self.now.shared c.args.self.now.pass c.args.view n c.args.start.now c.args.limit c.view_read.result c.view_read.new.shared c.view_read.new.pass) floor
    (subst (λ (start : List ℕ). PageIsRead g.S.Shared.does g.S.Shared.pages c.args.self.now.shared c.args.self.now.pass c.args.view c.max-floor.result start c.args.limit c.view_read.result c.view_read.new.shared c.view_read.new.pass) c.in-Ok.ensures c.view_read.ensures.read))
