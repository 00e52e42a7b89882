use Rattle.mt_works.proofs.BuildingLemmas.{build_fails}
use Rattle.mt_works.proofs.BuildSteps.{asks_node, asks_listing, asks_may, asks_scan, steps_on, builds_on}
use Rattle.mt_works.proofs.building.Building.read.Goals as goal

pub read-requires-clause-node : goal.read-requires-clause-node
read-requires-clause-node c = asks_node c.args.tree.now c.args.log.now c.args.self.now c.requires.scans c.slice-slice.result c.slice-slice.ensures c.slice-slice.type_inv c.replace-listing.result c.replace-listing.ensures.value c.requires.may

pub read-requires-clause-listing : goal.read-requires-clause-listing
read-requires-clause-listing c = asks_listing c.args.tree.now c.args.log.now c.args.self.now c.requires.scans c.slice-slice.result c.slice-slice.ensures c.slice-slice.type_inv c.replace-listing.result c.replace-listing.ensures.value c.requires.may

pub read-requires-clause-may : goal.read-requires-clause-may
read-requires-clause-may c = asks_may c.args.tree.now c.args.log.now c.args.self.now c.requires.scans c.slice-slice.result c.slice-slice.ensures c.slice-slice.type_inv c.replace-listing.result c.replace-listing.ensures.value c.requires.may

pub follow-requires : goal.follow-requires
follow-requires c = asks_scan c.args.tree.now c.args.log.now c.args.self.now c.requires.scans c.slice-slice.result c.slice-slice.ensures c.slice-slice.type_inv c.replace-listing.result c.replace-listing.ensures.value
    c.read.result c.read.ensures.reads c.requires.may c.in-Ok.reading c.in-Ok.is

pub returns-in-Ok-clause-steps : goal.returns-in-Ok-clause-steps
returns-in-Ok-clause-steps c = steps_on c.args.tree.now c.args.log.now c.args.self.now c.requires.scans c.slice-slice.result c.slice-slice.ensures c.slice-slice.type_inv c.replace-listing.result c.replace-listing.ensures.value
    c.read.result c.read.ensures.reads c.in-Ok.reading c.in-Ok.is c.replace-listing.new.dest c.replace-listing.ensures.after c.follow.result c.follow.new.self c.follow.ensures.does

pub returns-in-Ok-clause-builds : goal.returns-in-Ok-clause-builds
returns-in-Ok-clause-builds c = builds_on c.args.tree.now c.args.log.now c.args.self.now c.requires.scans c.slice-slice.result c.slice-slice.ensures c.slice-slice.type_inv c.replace-listing.result c.replace-listing.ensures.value
    c.read.result c.read.ensures.reads c.in-Ok.reading c.in-Ok.is c.replace-listing.new.dest c.replace-listing.ensures.after c.follow.result c.follow.new.self c.follow.ensures.does

pub returns-in-Err-clause-steps : goal.returns-in-Err-clause-steps
returns-in-Err-clause-steps c = λ C. build_fails c.args.tree.now c.args.log.now c.args.self.now _ C

pub returns-in-Ok-clause-fails : goal.returns-in-Ok-clause-fails
returns-in-Ok-clause-fails c = c.follow.ensures.fails c.args.tree.now c.args.self.now.node.0 c.in-Ok.ensures.finds
