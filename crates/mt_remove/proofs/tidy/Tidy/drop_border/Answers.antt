use Rattle.mt_remove.proofs.DropLemmas.{parent_there, gives_up, is_child, drops}
use Rattle.mt_remove.proofs.tidy.Tidy.drop_border.Goals as goal

pub later_place-requires : goal.later_place-requires
later_place-requires c = parent_there c.args.epoch c.args.tree.now c.args.self.now c.args.border c.args.head c.args.parent c.requires.at c.requires.may

pub returns-in_default : goal.returns-in_default
returns-in_default c = gives_up c.args.epoch c.args.tree.now c.args.self.now c.args.border c.args.head c.args.parent c.requires.at c.in_default.ensures.value

pub drop_child-requires-clause-within : goal.drop_child-requires-clause-within
drop_child-requires-clause-within c = is_child c.args.epoch c.args.tree.now c.args.self.now c.args.border c.args.head c.args.parent c.requires.at c.in-Some.place c.in-Some.ensures.value c.in-Some.ensures.named

pub returns : goal.returns
returns c = drops c.args.epoch c.args.tree.now c.args.self.now c.args.border c.args.head c.args.parent c.requires.at c.in-Some.place c.in-Some.ensures.value c.in-Some.ensures.named c.drop_child.new.self c.drop_child.ensures.value c.drop_child.ensures.keeps
