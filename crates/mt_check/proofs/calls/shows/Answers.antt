use Rattle.mt_check.proofs.CallLemmas.{found_rise, tells_shown}
use Rattle.mt_check.proofs.calls.shows.Goals as goal

pub shows_between-requires : goal.shows_between-requires
shows_between-requires c = found_rise c.args.log.now.deltas.now c.args.log.now.versions _ _ c.requires.read c.of_key.ensures

pub returns : goal.returns
returns c =
    tells_shown c.args.log.now.deltas.now c.args.log.now.versions c.args.span.from c.args.span.to c.args.key.now c.in_ok-key.key c.args.asked.now c.args.answer.now c.of_key.result.now c.shows_between.result
    c.requires.read c.requires.rises c.in_ok-key.ensures c.of_key.ensures c.shows_between.ensures
