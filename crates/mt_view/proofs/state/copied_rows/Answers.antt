use Rattle.mt_view.proofs.MapLemmas.{copied-more}
use Rattle.mt_view.proofs.state.copied_rows.Goals as goal

pub loop-key-preserved-in_ok-insert : goal.loop-key-preserved-in_ok-insert
loop-key-preserved-in_ok-insert c =
    copied-more c.args.rows.now.entries c.loop-key.copied.entries c.insert-in-loop-key.new.self.entries c.next.new.self c.loop-key.key-iterator
    c.in-Some.key.now c.in_ok-copy.field-0 c.in-Some.row.now c.in_ok-copy-2.field-0 c.iter-key-items.ensures.ordered c.loop-key.invariant
    c.in-Some.ensures.steps c.in_ok-copy.ensures c.in_ok-copy-2.ensures c.in_ok-insert.ensures.entries

pub loop-key-preserved-in_ok-insert-2 : goal.loop-key-preserved-in_ok-insert-2
loop-key-preserved-in_ok-insert-2 c =
    copied-more c.args.rows.now.entries c.loop-key.copied.entries c.insert-in-loop-key.new.self.entries c.next.new.self c.loop-key.key-iterator
    c.in-Some.key.now c.in_ok-copy.field-0 c.in-Some.row.now c.in_ok-copy-2.field-0 c.iter-key-items.ensures.ordered c.loop-key.invariant
    c.in-Some.ensures.steps c.in_ok-copy.ensures c.in_ok-copy-2.ensures c.in_ok-insert.ensures.entries

pub loop-key-preserved : goal.loop-key-preserved
loop-key-preserved c =
    copied-more c.args.rows.now.entries c.loop-key.copied.entries c.insert-in-loop-key.new.self.entries c.next.new.self c.loop-key.key-iterator
    c.in-Some.key.now c.in_ok-copy.field-0 c.in-Some.row.now c.in_ok-copy-2.field-0 c.iter-key-items.ensures.ordered c.loop-key.invariant
    c.in-Some.ensures.steps c.in_ok-copy.ensures c.in_ok-copy-2.ensures c.in_ok-insert.ensures.entries
