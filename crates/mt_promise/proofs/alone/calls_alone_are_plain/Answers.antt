use Rattle.mt_promise.proofs.alone.calls_alone_are_plain.Goals as goal
use Rattle.mt_promise.proofs.AloneLemmas.{lone_calls_are_plain, lone_refusals_do_nothing}

pub returns-clause-answered : goal.returns-clause-answered
returns-clause-answered c = lone_calls_are_plain

pub returns-clause-refused : goal.returns-clause-refused
returns-clause-refused c = lone_refusals_do_nothing
