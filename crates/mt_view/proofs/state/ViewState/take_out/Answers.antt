use Rattle.std.proofs.Common.{sym, ◌∙◌}
use Rattle.mt_view.proofs.StateLemmas.{covered_lent, kept_removed, seen_removed}
use Rattle.mt_view.proofs.state.ViewState.take_out.Goals as goal

pub take_away-requires : goal.take_away-requires
take_away-requires c =
    covered_lent c.self.inside c.deref_mut.result.now c.args.key.now c.in-Some.old c.self.invariant c.deref_mut.ensures.value (sym c.in-Some.is ∙ c.remove.ensures.value)

pub invariant_of-self : goal.invariant_of-self
invariant_of-self c =
    kept_removed c.self.inside c.remove.new.self c.deref_mut.result.now c.take_away.new.sums c.args.key.now c.in-Some.old
    c.self.invariant c.deref_mut.ensures.value c.take_away.ensures.same_length (sym c.in-Some.is ∙ c.remove.ensures.value)
    c.remove.ensures.entries c.remove.ensures.ordered c.take_away.ensures.subtracted

pub returns-in-Some : goal.returns-in-Some
returns-in-Some c = seen_removed c.self.inside c.remove.new.self c.args.self.now c.args.key.now c.self.invariant c.self.view_is c.remove.ensures.ordered c.remove.ensures.updates

pub returns-in_default : goal.returns-in_default
returns-in_default c = seen_removed c.self.inside c.remove.new.self c.args.self.now c.args.key.now c.self.invariant c.self.view_is c.remove.ensures.ordered c.remove.ensures.updates
