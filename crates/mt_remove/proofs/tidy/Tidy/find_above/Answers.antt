use Rattle.mt_remove.proofs.AboveLemmas.{find_there, find_slot, finds}
use Rattle.mt_remove.proofs.tidy.Tidy.find_above.Goals as goal

pub link_at-requires-clause-border : goal.link_at-requires-clause-border
link_at-requires-clause-border c = find_there c.args.epoch c.args.tree.now c.args.self.now c.args.layer c.args.slot c.requires.at c.requires.may

pub link_at-requires-clause-slot : goal.link_at-requires-clause-slot
link_at-requires-clause-slot c = find_slot c.args.epoch c.args.tree.now c.args.self.now c.args.layer c.args.slot c.requires.at c.requires.may

pub returns : goal.returns
returns c = finds c.args.epoch c.args.tree.now c.args.self.now c.args.layer c.args.slot c.requires.at c.link_at.result c.link_at.ensures c.found-self.result c.found-self.ensures
