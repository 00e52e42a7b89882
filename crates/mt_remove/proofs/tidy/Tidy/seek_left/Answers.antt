use Rattle.mt_remove.proofs.LeftLemmas.{left_named, left_reader, left_may, approaches}
use Rattle.mt_remove.proofs.tidy.Tidy.seek_left.Goals as goal

pub read-requires-clause-node : goal.read-requires-clause-node
read-requires-clause-node c = left_named c.args.epoch c.args.tree.now c.args.self.now c.args.unlinking c.requires.at c.requires.may

pub read-requires-clause-finding : goal.read-requires-clause-finding
read-requires-clause-finding c = left_reader c.args.epoch c.args.tree.now c.args.self.now c.args.unlinking c.requires.at c.requires.may c.replace-finding.result c.replace-finding.ensures.value

pub read-requires-clause-may : goal.read-requires-clause-may
read-requires-clause-may c = left_may c.args.epoch c.args.tree.now c.args.self.now c.args.unlinking c.requires.at c.requires.may c.replace-finding.result c.replace-finding.ensures.value c.to_be_bytes-rest.result c.to_be_bytes-rest.ensures

pub returns : goal.returns
returns c = approaches c.args.epoch c.args.tree.now c.args.self.now c.args.unlinking c.requires.at c.requires.seeks c.replace-finding.result c.replace-finding.ensures.value c.to_be_bytes-rest.result c.to_be_bytes-rest.ensures c.read.result c.read.ensures c.requires.may c.replace-finding.new.dest c.approach.result c.approach.new.self c.approach.ensures.progress c.approach.ensures.after
