use Rattle.mt_check.proofs.CallLemmas.{found_rise, tells_lacking}
use Rattle.mt_check.proofs.calls.lacks.Goals as goal

pub lacks_between-requires : goal.lacks_between-requires
lacks_between-requires c = found_rise c.args.log.now.deltas.now c.args.log.now.versions _ _ c.requires.read c.of_key.ensures

pub returns : goal.returns
returns c =
    tells_lacking c.args.log.now.deltas.now c.args.log.now.versions c.args.span.from c.args.span.to c.args.key.now c.in_ok-key.key c.of_key.result.now c.lacks_between.result
    c.requires.read c.requires.rises c.in_ok-key.ensures c.of_key.ensures c.lacks_between.ensures
