use Rattle.std.proofs.Common.{sym, ◌∙◌}
use Rattle.mt_remove.proofs.UnlinkLemmas.{look_there, looks_named, looks_missed}
use Rattle.mt_remove.proofs.tidy.Tidy.look_left.Goals as goal

pub right_at-requires : goal.right_at-requires
right_at-requires c = look_there c.args.epoch c.args.tree.now c.args.self.now c.args.unlinking c.requires.at c.requires.may

pub returns-then-names : goal.returns-then-names
returns-then-names c = looks_named c.args.epoch c.args.tree.now c.args.self.now c.args.unlinking c.requires.at c.right_at.result c.right_at.ensures (sym c.names.ensures ∙ c.if-names.true)

pub returns : goal.returns
returns c = looks_missed c.args.epoch c.args.tree.now c.args.self.now c.args.unlinking c.requires.at c.right_at.result c.right_at.ensures (sym c.names.ensures ∙ c.if-names.false)
