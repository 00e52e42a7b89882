use Rattle.std.proofs.lemmas.Result.{err_from_is_err_and}
use Rattle.mt_script.specs.Words.{each, parts}
use Rattle.mt_script.proofs.WordLemmas.{part_more, part_fails, part_last, last_fails}
use Rattle.mt_script.proofs.words.read_parts.Goals as goal

pub loop-word-preserved : goal.loop-word-preserved
loop-word-preserved g c =
    let h = c.in_ok-push_part.ensures in
    part_more c.args.stop g.T.Part.part_of (each g.T.Part.part_of (parts c.args.stop c.args.text.now)) c.loop-word.read.items c.loop-word.rest.now c.loop-word.invariant c.in-Some.word.now c.in-Some.more.now h.0 c.push_part.new.read.items c.in-Some.ensures.found h.1 h.2

pub returns-in_err-push_part : goal.returns-in_err-push_part
returns-in_err-push_part g c =
    let p = err_from_is_err_and c.from_residual.result c.from_residual.ensures.1 in
    rw (p.1, p.2) (part_fails c.args.stop g.T.Part.part_of (each g.T.Part.part_of (parts c.args.stop c.args.text.now)) c.loop-word.read.items c.loop-word.rest.now c.loop-word.invariant c.in-Some.word.now c.in-Some.more.now c.in_err-push_part.field-0.0 c.in-Some.ensures.found c.in_err-push_part.ensures)

pub returns-in_err-push_part-2 : goal.returns-in_err-push_part-2
returns-in_err-push_part-2 g c =
    let p = err_from_is_err_and c.from_residual-in_err-push_part-2.result c.from_residual-in_err-push_part-2.ensures.1 in
    rw (p.1, p.2) (last_fails c.args.stop g.T.Part.part_of (each g.T.Part.part_of (parts c.args.stop c.args.text.now)) c.loop-word.read.items c.loop-word.rest.now c.loop-word.invariant c.in_err-push_part-2.field-0.0 c.in_default.ensures.found c.in_err-push_part-2.ensures)

pub returns : goal.returns
returns g c =
    let h = c.in_ok-push_part-2.ensures in
    part_last c.args.stop g.T.Part.part_of (each g.T.Part.part_of (parts c.args.stop c.args.text.now)) c.loop-word.read.items c.loop-word.rest.now c.loop-word.invariant h.0 c.push_part-2.new.read.items c.in_default.ensures.found h.1 h.2
