-- Both steps at once.
use Rattle.std.proofs.Common.{refl}
use Rattle.mt_write.proofs.ForgetLemmas.{marked_is, may_forget}
use Rattle.mt_write.proofs.FinishLemmas.{has_hidden, forgets_both, forgets_not, hidden_there}
use Rattle.mt_write.proofs.writing.Write.forget_hidden.Goals as goal

pub forget_row-requires : goal.forget_row-requires
forget_row-requires c =
    let (C, log, may) = c.requires in
    let (w, there) = hidden_there C c.args.tree.now log c.args.self.now c.args.committed (has_hidden c.args.committed.hides c.if-not-committed.false) may in
    may_forget c.mark_inserting.new.self w c.args.self.now.way.node.0 (marked_is c.args.tree.now c.mark_inserting.new.self w c.args.self.now.way.node.0 there c.in-Ok.ensures.marked c.mark_inserting.ensures.sound)

pub returns : goal.returns
returns c = λ C log may trimmed sound. forgets_both C log c.args.self.now c.args.committed trimmed sound (has_hidden c.args.committed.hides c.if-not-committed.false) c.args.tree.now c.mark_inserting.new.self c.forget_row.new.self c.in-Ok.ensures.marked c.mark_inserting.ensures.keeps c.mark_inserting.ensures.sound c.forget_row.ensures.value c.forget_row.ensures.keeps c.free_numbers-arena.ensures.arena c.free_numbers-marked.ensures.arena c.free_numbers-forgotten.ensures.arena may

pub returns-in_default : goal.returns-in_default
returns-in_default c = λ C log may trimmed sound. forgets_not C log c.args.self.now c.args.committed trimmed sound (has_hidden c.args.committed.hides c.if-not-committed.false) c.args.tree.now c.mark_inserting.new.self c.in_default.ensures.unchanged (c.in_default.ensures.spent.0 refl) c.free_numbers-arena.ensures.arena c.free_numbers-same.ensures.arena may
