-- What it keeps of the tree, by the law of its step.
use Rattle.mt_tree.proofs.SplitSteps.{half_links}
use Rattle.mt_tree.proofs.tree.Tree.link_half.Goals as goal

pub returns-clause-links : goal.returns-clause-links
returns-clause-links c =
    let required = rw (← c.self.view_is) at c.requires in
    let filled = rw (← c.self.view_is) at c.border.ensures.value in
    rw (← c.self.view_is) (half_links c.self.inside.arena c.args.number.0 c.args.half c.args.keep c.low-low.result c.border_mut.result.now c.border.result.now c.link_right.new.self
    c.border_mut.ensures.value filled required c.low-low.ensures.value c.link_right.ensures.value c.low-low.ensures.sound c.link_right.ensures.sound)
