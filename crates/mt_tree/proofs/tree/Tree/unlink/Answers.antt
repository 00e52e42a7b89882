-- What it keeps of the tree, by the law of its step.
use Rattle.mt_tree.proofs.UnlinkSteps.{unlinks_there, may_take_right, unlinks_at}
use Rattle.mt_tree.proofs.tree.Tree.unlink.Goals as goal

pub border_mut-requires : goal.border_mut-requires
border_mut-requires c =
    let (gone, may) = rw (← c.self.view_is) at c.requires.may in
    unlinks_there c.self.inside.arena c.args.number.0 gone c.args.right may

pub set_right-requires : goal.set_right-requires
set_right-requires c =
    may_take_right c.self.inside.arena c.args.number.0 c.args.right c.border_mut.result.now c.border_mut.ensures.value c.border_mut.ensures.sound (rw (← c.self.view_is) at c.requires.may)

pub returns-clause-unlinks : goal.returns-clause-unlinks
returns-clause-unlinks c = λ gone may.
    rw (← c.self.view_is) (unlinks_at c.self.inside.arena c.args.number.0 c.args.right c.border_mut.result.now c.set_right.new.self c.border_mut.ensures.value c.set_right.ensures.value gone (rw (← c.self.view_is) at may))
