use Rattle.mt_steps.proofs.GetSteps.{get_within, get_node, get_reader, get_may_read, follows, step_law, get_fails}
use Rattle.mt_steps.proofs.getting.Get.step.Goals as goal

pub read-requires-clause-node : goal.read-requires-clause-node
read-requires-clause-node c = get_node c.args.tree.now c.requires.0 c.args.self.now c.requires.1

pub read-requires-clause-finding : goal.read-requires-clause-finding
read-requires-clause-finding c = get_reader c.args.tree.now c.requires.0 c.args.self.now c.requires.1 c.rest_of-rest.result.now c.rest_of-rest.ensures.value c.replace-finding.result c.replace-finding.ensures.value

pub read-requires-clause-may : goal.read-requires-clause-may
read-requires-clause-may c = get_may_read c.args.tree.now c.requires.0 c.args.self.now c.requires.1 c.rest_of-rest.result.now c.rest_of-rest.ensures.value c.replace-finding.result c.replace-finding.ensures.value

pub returns-in-Ok-clause-steps : goal.returns-in-Ok-clause-steps
returns-in-Ok-clause-steps c = step_law c.args.tree.now c.args.self.now c.rest_of-rest.result.now c.rest_of-rest.ensures.value c.replace-finding.result c.replace-finding.ensures.value c.read.result c.read.ensures.reads
    c.in-Ok.reading c.in-Ok.is c.replace-finding.new.dest c.follow.result c.follow.ensures.progress c.follow.new.self c.follow.ensures.after c.follow.ensures.bytes

pub returns-in-Ok-clause-gets_on : goal.returns-in-Ok-clause-gets_on
returns-in-Ok-clause-gets_on c = follows c.args.tree.now c.args.self.now c.rest_of-rest.result.now c.rest_of-rest.ensures.value c.replace-finding.result c.replace-finding.ensures.value c.read.result c.read.ensures.reads
    c.in-Ok.reading c.in-Ok.is c.replace-finding.new.dest c.follow.result c.follow.ensures.progress c.follow.new.self c.follow.ensures.after

pub returns-in-Err-clause-steps : goal.returns-in-Err-clause-steps
returns-in-Err-clause-steps c = get_fails c.args.tree.now c.args.self.now c.replace-finding.new.dest

pub follow-requires : goal.follow-requires
follow-requires c = get_within c.args.tree.now c.requires.0 c.args.self.now c.requires.1
