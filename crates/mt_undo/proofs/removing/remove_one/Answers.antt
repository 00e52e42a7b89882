use Rattle.mt_undo.proofs.RemoveLemmas.{has_row, removes_one}
use Rattle.mt_undo.proofs.removing.remove_one.Goals as goal

pub take_back-requires-clause-there : goal.take_back-requires-clause-there
take_back-requires-clause-there c =
    let (C, changes, can) = c.requires.can in has_row C changes c.args.key c.args.before c.args.tree.now c.args.log.now can c.key_bytes-bytes.ensures.bytes

pub returns : goal.returns
returns c = record {
  removed = λ lone C changes can.
      removes_one C changes c.args.key c.args.before c.args.tree.now c.args.log.now can lone.now c.number-number.result c.take_back.new.tree c.append.new.self (c.take_back.ensures.back lone) c.number-number.ensures.value c.append.ensures.after;
}
