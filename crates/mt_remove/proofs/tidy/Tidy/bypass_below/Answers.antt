use Rattle.mt_remove.proofs.OneChildLemmas.{parent_there, gives_up, may_bypass, bypasses}
use Rattle.mt_remove.proofs.tidy.Tidy.bypass_below.Goals as goal

pub place_in-requires : goal.place_in-requires
place_in-requires c = parent_there c.args.epoch c.args.tree.now c.args.self.now c.args.lone c.requires.at c.args.parent c.requires.named c.requires.may

pub returns-in_default : goal.returns-in_default
returns-in_default c = gives_up c.args.epoch c.args.tree.now c.args.self.now c.args.lone c.requires.at c.args.parent c.requires.named c.in_default.ensures.value

pub bypass-requires-clause-lower : goal.bypass-requires-clause-lower
bypass-requires-clause-lower c = may_bypass c.args.epoch c.args.tree.now c.args.self.now c.args.lone c.requires.at c.args.parent c.requires.named c.in-Some.place c.in-Some.ensures.value c.in-Some.ensures.named c.requires.may

pub returns : goal.returns
returns c = bypasses c.args.epoch c.args.tree.now c.args.self.now c.args.lone c.requires.at c.args.parent c.requires.named c.in-Some.place c.in-Some.ensures.value c.in-Some.ensures.named c.bypass.new.self c.bypass.ensures.value c.bypass.ensures.keeps
