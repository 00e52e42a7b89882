use Rattle.mt_remove.proofs.UnlinkLemmas.{may_unlink, writes_left}
use Rattle.mt_remove.proofs.tidy.Tidy.write_left.Goals as goal

pub unlink-requires : goal.unlink-requires
unlink-requires c = record { may = may_unlink c.args.epoch c.args.tree.now c.args.self.now c.args.unlinking c.requires.at c.requires.may }

pub returns : goal.returns
returns c = writes_left c.args.epoch c.args.tree.now c.args.self.now c.args.unlinking c.requires.at c.unlink.new.self c.unlink.ensures.value c.unlink.ensures.unlinks
