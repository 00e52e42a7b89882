use Rattle.mt_remove.proofs.SeekLemmas.{may_named, order_named, lent_reader, lent_may, place_there, reads_by}
use Rattle.mt_remove.proofs.tidy.Tidy.seek.Goals as goal

pub glanced-noted-requires : goal.glanced-noted-requires
glanced-noted-requires c = order_named c.args.epoch c.args.tree.now c.args.self.now c.args.noted c.requires.seeks c.requires.may c.replace-finding.result c.replace-finding.ensures.value

pub read-reading-requires-clause-node : goal.read-reading-requires-clause-node
read-reading-requires-clause-node c = may_named c.args.epoch c.args.tree.now c.args.self.now c.args.noted c.requires.seeks c.requires.may

pub read-reading-requires-clause-finding : goal.read-reading-requires-clause-finding
read-reading-requires-clause-finding c = lent_reader c.args.epoch c.args.tree.now c.args.self.now c.args.noted c.requires.seeks c.requires.may c.replace-finding.result c.replace-finding.ensures.value

pub read-reading-requires-clause-may : goal.read-reading-requires-clause-may
read-reading-requires-clause-may c = lent_may c.args.epoch c.args.tree.now c.args.self.now c.args.noted c.requires.seeks c.requires.may c.replace-finding.result c.replace-finding.ensures.value c.rest_of-rest.result.now c.rest_of-rest.ensures.value

pub follow-requires-clause-border : goal.follow-requires-clause-border
follow-requires-clause-border c = place_there c.args.epoch c.args.tree.now c.args.self.now c.args.noted c.requires.seeks c.requires.may c.replace-finding.result c.replace-finding.ensures.value c.rest_of-rest.result.now c.rest_of-rest.ensures.value c.rest_of-rest.ensures.bytes c.read-reading.result c.read-reading.ensures

pub returns : goal.returns
returns c = reads_by c.args.epoch c.args.tree.now c.args.self.now c.args.noted c.requires.seeks c.requires.may c.replace-finding.result c.replace-finding.ensures.value c.rest_of-rest.result.now c.rest_of-rest.ensures.value c.rest_of-rest.ensures.bytes c.read-reading.result c.read-reading.ensures
    c.replace-finding.new.dest c.replace-finding.ensures.after c.glanced-noted.result c.glanced-noted.ensures c.follow.new.tree c.follow.result c.follow.new.self c.follow.ensures
