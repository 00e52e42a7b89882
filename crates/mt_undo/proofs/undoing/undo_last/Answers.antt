use Rattle.mt_undo.proofs.UndoLemmas.{goes_back, has_its_row}
use Rattle.mt_undo.proofs.undoing.undo_last.Goals as goal

pub take_back-requires-clause-there : goal.take_back-requires-clause-there
take_back-requires-clause-there c =
    let (C, first, puts, last, can) = c.requires.made in
    has_its_row C first puts last c.args.commits c.args.rows c.args.tree.now c.args.log.now can c.take_back-delta.new.self c.take_back-delta.result c.take_back-delta.ensures.delta c.take_back-delta.ensures.after c.key_bytes-bytes.ensures.bytes

pub returns : goal.returns
returns c = record {
  goes = λ lone C first puts last can.
      goes_back C first puts last c.args.commits c.args.rows c.args.tree.now c.args.log.now can c.take_back-delta.new.self c.take_back-delta.result c.take_back-delta.ensures.delta c.take_back-delta.ensures.after lone.now c.take_back.new.tree
      (c.take_back.ensures.back lone);
}
